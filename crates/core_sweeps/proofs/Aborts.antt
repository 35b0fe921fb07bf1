-- An abort, write by write, on a hand.
use Rattle.std.proofs.Common.{◌≡◌, ℕ, ℤ, false, ◌&&◌, ◌||◌, ◌==◌, [], ◌∷◌, ◌++◌, Option, None, Some, is_some, option_map, length, refl, sym, ap, ◌∙◌, subst}
use Rattle.std.specs.Map.{lookup}
use Rattle.std.specs.Prelude.{IsSome, slice_get}
use Rattle.std.proofs.lemmas.Bool.{or_left, and_from}
use Rattle.block_layout.specs.Place.{block_of}
use Rattle.block_spec.specs.Bodies.{Body, rolled_back_in}
use Rattle.core_parts.proofs.Changing.{desk_change, desk_only, in_after, laid_back_changed}
use Rattle.core_parts.proofs.Telling.{a_body, a_desk, body_is, desk_is, from_one, has_body, has_desk, has_head, has_shard, room}
use Rattle.core_parts.specs.Hands.{Has, Held, Makes, MayRun, after, in_hand, laid}
use Rattle.core_sweeps.proofs.Handing.{after_then, body_in_after, body_is_in, first_same, has_still, room_still}
use Rattle.core_sweeps.proofs.Rolling.{at_first, at_last, block_is_there, body_more, one_more}
use Rattle.core_sweeps.specs.SweepSteps.{IsUndone, body_in, rolled, undone, undone_so_far}
use Rattle.core_laws.proofs.Events.Owners.{all_open}
use Rattle.core_laws.proofs.Events.Places.{shard_small}
use Rattle.core_laws.proofs.Events.Slots.{num_refl}
use Rattle.event_spec.specs.declared.event.Event.TheVariants as event
use Rattle.event_spec.specs.declared.own.OwnTransaction.{OwnTransaction}
use Rattle.event_spec.specs.declared.part.Part.TheVariants as part
use Rattle.event_spec.specs.declared.reply.Reply.TheVariants as reply
use Rattle.event_spec.specs.Effects.{changes_of, closed}
use Rattle.event_spec.specs.Lawful.{HasBlock}
use Rattle.event_spec.specs.Parts.{CorePart, Shape, Name, HeadOf, ShardOf, BodyOf, TheDesk, body_at, changed, desk_at, names, part_at, shard_of}
use Rattle.event_spec.specs.Touched.{is_body_written, is_shard_written}
use Rattle.core_laws.proofs.Following.Stepping.{has_pass}
use Rattle.core_laws.proofs.Frames.Distinct.{part_is}
use Rattle.core_laws.proofs.Frames.Frames.{written_passes}
use Rattle.isolation_spec.specs.Contents.{PlaceMap, at_place, is_place, place_at}
use Rattle.isolation_spec.specs.declared.place.Place.{Place}
use Rattle.txn_desk.specs.Desk.{DeskState}
use Rattle.txn_desk.specs.Oldest.{HasPass, snapshot_of}

-- ---- a write that a map of them gives

-- what is found in the map of writes is a write of the transaction
pub there_by : (own : OwnTransaction) (entries : PlaceMap ℕ) (place : Place) (p : ℕ) → entries ≡ own.writes → lookup (is_place place) entries ≡ Some p → at_place own.writes place ≡ Some p
there_by own entries place p same found = ap (lookup (is_place place)) (sym same) ∙ found

-- ---- parts that are touched

module _ (sh : Shape) (own : OwnTransaction) (old : Held) (m : MayRun sh (event.Abort own) old) where
  -- a part in the hand is the core's part of its name
  pub part_there : (k : ℕ) (n : Name) (x : CorePart) → slice_get (names sh) k ≡ Some n → slice_get old k ≡ Some (Some x) → part_at sh m.parts n ≡ Some x
  part_there k n x is at = part_is sh m.parts k n x is (m.agrees.1 k x at)

  -- at first no write is undone
  pub begins : IsUndone sh own old old []
  begins = record {
    may = m;
    made = sym (first_same (undone_so_far sh m.parts own.session []) (names sh) old
        (λ k n x is at. at_first sh m.parts m.holds.measures m.holds.sound m.holds.shards own m.lawful.0 n x (part_there k n x is at)));
  }

  -- the desk is in the hand
  pub has_the_desk : Has sh old TheDesk
  has_the_desk = has_desk sh (event.Abort own) old m refl

  module _ (t : ℕ) (key : ℤ) (p : ℕ) (there : at_place own.writes (place_at t key) ≡ Some p) where
    abbrev block : HasBlock sh t (block_of p)
    block = block_is_there sh m.parts m.holds.measures m.holds.sound m.holds.shards own m.lawful.0 t key p there

    -- and the head of the table of each write
    pub has_its_head : Has sh old (HeadOf t)
    has_its_head = has_head sh (event.Abort own) old m t block.0 refl

    -- and the shard of its key
    pub has_its_shard : Has sh old (ShardOf t (shard_of key))
    has_its_shard = has_shard sh (event.Abort own) old m t (shard_of key) block.0 (shard_small key)
        (or_left (is_shard_written own.writes (ShardOf t (shard_of key)) || false) false (or_left (is_shard_written own.writes (ShardOf t (shard_of key))) false
        (written_passes (λ u k r. (u == t) && (shard_of k == shard_of key)) own.writes t key p there (and_from (t == t) (shard_of key == shard_of key) (num_refl t) (num_refl (shard_of key))))))

    -- and the body of its block
    pub has_its_body : Has sh old (BodyOf t (block_of p))
    has_its_body = has_body sh (event.Abort own) old m t (block_of p) block
        (or_left (is_body_written own.writes (BodyOf t (block_of p))) false
        (written_passes (λ u k r. (u == t) && (block_of r == block_of p)) own.writes t key p there (and_from (t == t) (block_of p == block_of p) (num_refl t) (num_refl (block_of p)))))

-- ---- one write more

module _ (sh : Shape) (own : OwnTransaction) (old now : Held) (done : PlaceMap ℕ) (u : IsUndone sh own old now done) where
  -- what was in the hand is in it still
  pub still : (w : Name) → Has sh old w → Has sh now w
  still w has = has_still sh (undone_so_far sh u.may.parts own.session done) old now w u.made has

  -- the hand has a place for each part still
  pub room_now : length now ≡ length (names sh)
  room_now = room_still sh (undone_so_far sh u.may.parts own.session done) old now u.made (room sh (event.Abort own) old u.may)

  -- one write more is undone
  pub goes_on : (new : Held) (t : ℕ) (key : ℤ) (p : ℕ) → at_place own.writes (place_at t key) ≡ Some p
      → new ≡ after sh (undone t key p own.session (rolled_back_in own.session (body_in sh now t (block_of p)))) now
      → IsUndone sh own old new (done ++ (place_at t key, p) ∷ [])
  goes_on new t key p there is = record {
    may = u.may;
    made =
        is
        ∙ ap (λ (x : Body). after sh (undone t key p own.session x) now)
        (ap (rolled_back_in own.session) here ∙ body_more sh u.may.parts u.may.holds.measures u.may.holds.sound u.may.holds.shards own u.may.lawful.0 done t key p there)
        ∙ ap (after sh (undone t key p own.session (rolled_back_in own.session (body_at sh u.may.parts t (block_of p))))) u.made
        ∙ after_then (undone_so_far sh u.may.parts own.session done) (undone t key p own.session (rolled_back_in own.session (body_at sh u.may.parts t (block_of p))))
        (undone_so_far sh u.may.parts own.session (done ++ (place_at t key, p) ∷ [])) (names sh) old
        (λ k n x at held. one_more sh u.may.parts u.may.holds.measures u.may.holds.sound u.may.holds.shards own u.may.lawful.0 done t key p there n x (part_there sh own old u.may k n x at held));
  }
    where
      has : Has sh old (BodyOf t (block_of p))
      has = has_its_body sh own old u.may t key p there

      here : body_in sh now t (block_of p) ≡ rolled own.session done t (block_of p) (body_at sh u.may.parts t (block_of p))
      here =
          let x = a_body sh old t (block_of p) has in
          ap (λ h. body_in sh h t (block_of p)) u.made
          ∙ body_in_after sh (undone_so_far sh u.may.parts own.session done) old t (block_of p) has
          ∙ ap (rolled own.session done t (block_of p)) (body_is_in sh old t (block_of p) x.0 x.1 ∙ sym (body_is sh old u.may.parts u.may.agrees t (block_of p) x.0 x.1))

-- ---- the desk at the end

module _ (sh : Shape) (own : OwnTransaction) (old mid : Held) (u : IsUndone sh own old mid own.writes) where
  -- the desk is the core's
  desk_now : (x : DeskState) → in_hand sh mid TheDesk ≡ Some (part.Desk x) → desk_at sh u.may.parts ≡ x
  desk_now x is =
      let y = a_desk sh old (has_the_desk sh own old u.may) in
      desk_is sh old u.may.parts u.may.agrees y.0 y.1
      ∙ desk_same (in_hand sh mid TheDesk) y.0 x
      (ap (λ h. in_hand sh h TheDesk) u.made ∙ in_after sh (undone_so_far sh u.may.parts own.session own.writes) old TheDesk
      ∙ ap (λ (o : Option CorePart). option_map (changed (undone_so_far sh u.may.parts own.session own.writes) TheDesk) o) y.1)
      is
    where
      desk_same : (o : Option CorePart) (a b : DeskState) → o ≡ Some (part.Desk a) → o ≡ Some (part.Desk b) → a ≡ b
      desk_same o a b e f = cc

  -- the desk has a pass for the session
  pub pass_there : (x : DeskState) → in_hand sh mid TheDesk ≡ Some (part.Desk x) → HasPass x own.session
  pass_there x is = subst (λ (x : DeskState). HasPass x own.session) (desk_now x is)
      (has_pass (desk_at sh u.may.parts) own.session own.snapshot (all_open sh u.may.parts u.may.holds.sound own u.may.lawful.0))

  -- and has its transaction open
  pub is_open : (x : DeskState) → in_hand sh mid TheDesk ≡ Some (part.Desk x) → IsSome (snapshot_of x own.session)
  is_open x is = subst (λ (x : DeskState). IsSome (snapshot_of x own.session)) (desk_now x is)
      (ap is_some (all_open sh u.may.parts u.may.holds.sound own u.may.lawful.0).is_open)

  -- Behind all writes the desk closes the transaction, and that is what the abort makes of the
  -- hand.
  pub ends : (taken new : Held) (x y : DeskState) → in_hand sh mid TheDesk ≡ Some (part.Desk x) → taken ≡ laid sh TheDesk None mid → y ≡ closed own.session x
      → new ≡ laid sh TheDesk (Some (part.Desk y)) taken → Makes sh (event.Abort own) old new reply.Aborted
  ends taken new x y is out made back = from_one sh (event.Abort own) old new reply.Aborted u.may
      (laid_back_changed sh (desk_change (closed own.session)) mid taken new TheDesk (part.Desk x) (part.Desk (closed own.session x)) (desk_only (closed own.session) x) is out
      (back ∙ ap (λ y. laid sh TheDesk (Some (part.Desk y)) taken) made)
      ∙ ap (after sh (desk_change (closed own.session))) u.made
      ∙ after_then (undone_so_far sh u.may.parts own.session own.writes) (desk_change (closed own.session)) (changes_of sh u.may.parts (event.Abort own)) (names sh) old
      (λ k n x at held. at_last sh u.may.parts u.may.holds.measures u.may.holds.sound u.may.holds.shards own u.may.lawful.0 n x (part_there sh own old u.may k n x at held)))
      refl
