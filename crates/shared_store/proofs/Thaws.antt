-- What the parts that a get of a row touches tell of the row, and what a thaw of its block leaves.
use Rattle.std.proofs.Common.{◌≡◌, ℕ, suc, ◌<◌, ℤ, Bool, true, false, cond, ◌&&◌, ◌==◌, List, [], ◌∷◌, ◌++◌, Option, None, Some, option_map, length, refl, sym, ap, ◌∙◌, subst, arith}
use Rattle.std.specs.Prelude.{IfSome, option_and_then, option_to_list, slice_get}
use Rattle.block_layout.specs.Place.{block_of, slot_of}
use Rattle.block_spec.specs.Bodies.{is_imaged, slot_in, thawed}
use Rattle.block_spec.specs.Slots.{Slot}
use Rattle.engine_core.specs.Asks.{HasKeyParts}
use Rattle.core_laws.proofs.Events.Naming.{at_name, body_named, shard_named}
use Rattle.core_laws.proofs.Events.Places.{shard_small}
use Rattle.core_laws.proofs.Events.States.{name_is, named_changed}
use Rattle.event_spec.specs.declared.event.Event.TheVariants as event
use Rattle.event_spec.specs.declared.own.OwnKey.{OwnKey}
use Rattle.event_spec.specs.declared.part.Part.TheVariants as part
use Rattle.event_spec.specs.Effects.{CoreEvent, at_both, effect}
use Rattle.event_spec.specs.Judged.{current_place}
use Rattle.event_spec.specs.Lawful.{Among, HasBlock, HasTable, IsThawed}
use Rattle.event_spec.specs.Parts.{BodyOf, Changes, CorePart, Name, Parts, Shape, ShardOf, body_at, body_from, changed, held_named, names, nothing, part_at, part_named, places_at, same_name, shard_from, shard_of, slot_at}
use Rattle.event_spec.specs.Sound.{IsOfKind}
use Rattle.event_spec.specs.Touched.{held_places, passes_test, touched, touched_by_key, touching}
use Rattle.core_laws.proofs.Frames.Fitness.{body_touched, current_among, shard_touched}
use Rattle.core_laws.proofs.Frames.Looks.{look, name_self}
use Rattle.core_laws.specs.Frames.Shards.{CoreHolds}
use Rattle.hall_rule.specs.Hands.{Agrees, Covers, Holds, SameRoom}
use Rattle.key_index.specs.Candidates.{candidates_of}
use Rattle.run_spec.specs.Asked.{imaged_block}
use Rattle.core_laws.proofs.Sound.Written.{filled_there}

-- an event that touches what another does has its parts where that has them
pub covers_same : (sh : Shape) (e other : CoreEvent) (hand : List (Option CorePart))
    → ((held : Name → Option CorePart) (n : Name) → touched sh held e n ≡ touched sh held other n)
    → Covers (touching sh e) hand → Covers (touching sh other) hand
covers_same sh e other hand same covers k less is = covers k less (go (slice_get (names sh) k) is)
  where
    go : (o : Option Name) → passes_test (touched sh (held_named (names sh) hand) other) o ≡ true → passes_test (touched sh (held_named (names sh) hand) e) o ≡ true
    go None h = h
    go (Some n) h = same (held_named (names sh) hand) n ∙ h

-- an imaged block is told where the current row lies in it
pub imaged_where : (sh : Shape) (s : Parts) (t b : ℕ) (o : Option ℕ)
    → option_and_then (λ place. cond (is_imaged (body_at sh s t (block_of place)).phase) (Some (block_of place)) None) o ≡ Some b
    → (p : ℕ) × (o ≡ Some p) × (block_of p ≡ b) × (is_imaged (body_at sh s t b).phase ≡ true)
imaged_where sh s t b None is = cc
imaged_where sh s t b (Some p) is = go (is_imaged (body_at sh s t (block_of p)).phase) refl is
  where
    some_is : (x y : ℕ) → Some x ≡ Some y → x ≡ y
    some_is x y e = cc

    go : (i : Bool) → is_imaged (body_at sh s t (block_of p)).phase ≡ i → cond i (Some (block_of p)) None ≡ Some b
        → (q : ℕ) × (Some p ≡ Some q) × (block_of q ≡ b) × (is_imaged (body_at sh s t b).phase ≡ true)
    go true imaged e = (p, refl, some_is (block_of p) b e, subst (λ x. is_imaged (body_at sh s t x).phase ≡ true) (some_is (block_of p) b e) imaged)
    go false imaged e = cc

-- ---- the parts of a get

module _ (sh : Shape) (hand : List (Option CorePart)) (s : Parts) (agrees : Agrees hand s) (own : OwnKey) (t : ℕ) (key : ℤ)
    (covers : Covers (touching sh (event.Get own t key)) hand)
  where
    abbrev get : CoreEvent
    get = event.Get own t key

    abbrev held : Name → Option CorePart
    held = held_named (names sh) hand

    places_are : held_places sh held t key ≡ places_at sh s t key
    places_are = ap (λ x. candidates_of (shard_from x) key)
        (look sh get hand s (ShardOf t (shard_of key)) covers agrees (shard_touched t key (option_to_list own.written ++ held_places sh held t key)))

    module _ (holds : CoreHolds sh s) where
      -- a candidate's block is one of the table's
      block_there : (p : ℕ) → Among p (places_at sh s t key) → HasBlock sh t (block_of p)
      block_there p a = (filled_there sh s holds.sound t p (holds.sound.follows.1.index.filled t p key a)).0

      -- the hand has what tells where the row lies
      pub row_parts : HasTable sh t → HasKeyParts sh hand t key
      row_parts has = record {
        shard = subst (IsOfKind (ShardOf t (shard_of key)))
            (sym (look sh get hand s (ShardOf t (shard_of key)) covers agrees (shard_touched t key (option_to_list own.written ++ held_places sh held t key))))
            (at_name sh s holds.sound.kinds (ShardOf t (shard_of key)) (shard_named sh t (shard_of key) has (shard_small key)));
        bodies = λ p a. subst (IsOfKind (BodyOf t (block_of p)))
            (sym (look sh get hand s (BodyOf t (block_of p)) covers agrees (body_touched t key (option_to_list own.written) (held_places sh held t key) p a)))
            (at_name sh s holds.sound.kinds (BodyOf t (block_of p)) (body_named sh t (block_of p) (block_there p (subst (Among p) places_are a))));
      }

      -- its imaged block is one that may be thawed
      pub imaged_there : (b : ℕ) → imaged_block sh t key s ≡ Some b → HasBlock sh t b × (is_imaged (body_at sh s t b).phase ≡ true)
      imaged_there b is =
          let at = imaged_where sh s t b (current_place (slot_at sh s t) (places_at sh s t key)) is in
          (subst (HasBlock sh t) at.2 (block_there at.0 (current_among (slot_at sh s t) (places_at sh s t key) at.0 at.1)), at.3)

    -- and its body is in the hand
    pub thaw_covered : (b : ℕ) → imaged_block sh t key s ≡ Some b → Covers (touching sh (event.Thaw t b)) hand
    thaw_covered b is k less thaws = covers k less (go (slice_get (names sh) k) thaws)
      where
        body : touched sh held get (BodyOf t b) ≡ true
        body =
            let at = imaged_where sh s t b (current_place (slot_at sh s t) (places_at sh s t key)) is in
            subst (λ x. touched sh held get (BodyOf t x) ≡ true) at.2
            (body_touched t key (option_to_list own.written) (held_places sh held t key) at.0
            (subst (Among at.0) (sym places_are) (current_among (slot_at sh s t) (places_at sh s t key) at.0 at.1)))

        go : (o : Option Name) → passes_test (touched sh held (event.Thaw t b)) o ≡ true → passes_test (touched sh held get) o ≡ true
        go None h = h
        go (Some n) h = subst (λ n. touched sh held get n ≡ true) (name_is (BodyOf t b) n h) body

-- ---- a thaw

module _ (sh : Shape) (s : Parts) (t b : ℕ) where
  -- the parts behind the thaw
  abbrev pub behind : Parts
  behind = effect sh s (event.Thaw t b)

  -- What a thaw of the block changes.
  abbrev thaw : Changes
  thaw = record nothing { body = at_both t b thawed }

  -- A thaw leaves a shard as it is, if there is one.
  shard_stays : (u i : ℕ) (o : Option CorePart) → option_map (changed thaw (ShardOf u i)) o ≡ o
  shard_stays u i None = refl
  shard_stays u i (Some (part.Head x)) = refl
  shard_stays u i (Some (part.Shard x)) = refl
  shard_stays u i (Some (part.Body x)) = refl
  shard_stays u i (Some (part.Desk x)) = refl

  -- a thaw leaves each shard as it was
  pub shard_same : (u i : ℕ) → part_at sh behind (ShardOf u i) ≡ part_at sh s (ShardOf u i)
  shard_same u i = named_changed thaw (names sh) s (ShardOf u i) ∙ shard_stays u i (part_at sh s (ShardOf u i))

  -- A thaw leaves the candidates of each key.
  places_same : (u : ℕ) (key : ℤ) → places_at sh behind u key ≡ places_at sh s u key
  places_same u key = ap (λ o. candidates_of (shard_from o) key) (shard_same u (shard_of key))

  -- A thaw leaves the slots of a body, if there is one.
  slots_stay : (u x j : ℕ) (o : Option CorePart) → slot_in (body_from (option_map (changed thaw (BodyOf u x)) o)) j ≡ slot_in (body_from o) j
  slots_stay u x j None = refl
  slots_stay u x j (Some (part.Head y)) = refl
  slots_stay u x j (Some (part.Shard y)) = refl
  slots_stay u x j (Some (part.Desk y)) = refl
  slots_stay u x j (Some (part.Body y)) = go ((u == t) && (x == b))
    where
      go : (z : Bool) → slot_in (cond z (thawed y) y) j ≡ slot_in y j
      go true = refl
      go false = refl

  -- A thaw leaves each slot.
  slot_same : (u p : ℕ) → slot_at sh behind u p ≡ slot_at sh s u p
  slot_same u p =
      ap (λ o. slot_in (body_from o) (slot_of p)) (named_changed thaw (names sh) s (BodyOf u (block_of p)))
      ∙ slots_stay u (block_of p) (slot_of p) (part_at sh s (BodyOf u (block_of p)))

  -- The thawed body, if there is one, is not imaged.
  loose_there : (o : Option CorePart) → is_imaged (body_from (option_map (changed thaw (BodyOf t b)) o)).phase ≡ false
  loose_there None = refl
  loose_there (Some (part.Head y)) = refl
  loose_there (Some (part.Shard y)) = refl
  loose_there (Some (part.Desk y)) = refl
  loose_there (Some (part.Body y)) = ap (λ z. is_imaged (cond z (thawed y) y).phase) (name_self (BodyOf t b))

  -- Behind the thaw the block's body is not imaged.
  loose : is_imaged (body_at sh behind t b).phase ≡ false
  loose = ap (λ o. is_imaged (body_from o).phase) (named_changed thaw (names sh) s (BodyOf t b)) ∙ loose_there (part_at sh s (BodyOf t b))

  -- A thaw leaves the current place of each key of the table.
  current_stays : (key : ℤ) → current_place (slot_at sh behind t) (places_at sh behind t key) ≡ current_place (slot_at sh s t) (places_at sh s t key)
  current_stays key =
      let slots : slot_at sh behind t ≡ slot_at sh s t = λ i p. slot_same t p i in
      ap (current_place (slot_at sh behind t)) (places_same t key)
      ∙ ap (λ (slot : ℕ → Slot). current_place slot (places_at sh s t key)) slots

  -- behind it the row's block is not imaged
  pub thawed_behind : (key : ℤ) → imaged_block sh t key s ≡ Some b → IsThawed sh t key behind
  thawed_behind key is =
      let at = imaged_where sh s t b (current_place (slot_at sh s t) (places_at sh s t key)) is in
      subst (λ (o : Option ℕ). IfSome o (λ place. is_imaged (body_at sh behind t (block_of place)).phase ≡ false)) (sym (current_stays key ∙ at.1))
      (subst (λ x. is_imaged (body_at sh behind t x).phase ≡ false) (sym at.2) loose)

-- ---- the parts of a get behind a thaw

-- a part is in the hand as it is in the state, where each of its name is held
held_is : (ns : List Name) (hand : List (Option CorePart)) (s : Parts) (w : Name)
    → length hand ≡ length s → ((k : ℕ) (p : CorePart) → slice_get hand k ≡ Some (Some p) → slice_get s k ≡ Some p)
    → ((k : ℕ) (n : Name) → slice_get ns k ≡ Some n → same_name n w ≡ true → k < length hand → Holds hand k) → held_named ns hand w ≡ part_named ns s w
held_is [] hand s w len agrees holds = refl
held_is (n ∷ ns) [] [] w len agrees holds = refl
held_is (n ∷ ns) [] (p ∷ s) w len agrees holds = let l : 0 ≡ suc (length s) = len in absurd (omega (arith, l))
held_is (n ∷ ns) (o ∷ hand) [] w len agrees holds = let l : suc (length hand) ≡ 0 = len in absurd (omega (arith, l))
held_is (n ∷ ns) (o ∷ hand) (p ∷ s) w len agrees holds =
    go (same_name n w) refl (held_is ns hand s w (let l : suc (length hand) ≡ suc (length s) = len in omega (arith, l)) (λ k. agrees (suc k)) (λ k x is t lt. holds (suc k) x is t (omega (arith, lt))))
  where
    go : (b : Bool) → same_name n w ≡ b → held_named ns hand w ≡ part_named ns s w → held_named (n ∷ ns) (o ∷ hand) w ≡ part_named (n ∷ ns) (p ∷ s) w
    go true is rest =
        let h = holds 0 n refl is (omega arith) in
        ap (λ b. cond b o (held_named ns hand w)) is ∙ first o h.0 h.1 (agrees 0 h.0 h.1) ∙ ap (λ b. cond b (Some p) (part_named ns s w)) (sym is)
      where
        first : (o : Option CorePart) (x : CorePart) → Some o ≡ Some (Some x) → Some p ≡ Some x → o ≡ Some p
        first o x a b = cc
    go false is rest =
        ap (λ b. cond b o (held_named ns hand w)) is ∙ rest ∙ ap (λ b. cond b (Some p) (part_named ns s w)) (sym is)

module _ (sh : Shape) (hand later : List (Option CorePart)) (s u : Parts) (here : Agrees hand s) (there : Agrees later u) (room : SameRoom hand later)
    (own : OwnKey) (t : ℕ) (key : ℤ) (same : part_at sh u (ShardOf t (shard_of key)) ≡ part_at sh s (ShardOf t (shard_of key)))
    (covers : Covers (touching sh (event.Get own t key)) hand)
  where
    abbrev shard : Name
    shard = ShardOf t (shard_of key)

    touches_shard : touched sh (held_named (names sh) hand) (event.Get own t key) shard ≡ true
    touches_shard = shard_touched t key (option_to_list own.written ++ held_places sh (held_named (names sh) hand) t key)

    shard_held : (k : ℕ) (n : Name) → slice_get (names sh) k ≡ Some n → same_name n shard ≡ true → k < length later → Holds later k
    shard_held k n at is less = room.held k (covers k (let l = room.places in omega (arith, less, l))
        (ap (passes_test (touched sh (held_named (names sh) hand) (event.Get own t key))) at
        ∙ ap (touched sh (held_named (names sh) hand) (event.Get own t key)) (name_is n shard is) ∙ touches_shard))

    shards_are : held_named (names sh) later shard ≡ held_named (names sh) hand shard
    shards_are = held_is (names sh) later u shard there.0 there.1 shard_held ∙ same ∙ sym (look sh (event.Get own t key) hand s shard covers here touches_shard)

    -- the hand has all parts of the get still, where the key's shard is the same
    pub still_covered : Covers (touching sh (event.Get own t key)) later
    still_covered k less is = room.held k (covers k (let l = room.places in omega (arith, less, l)) (go (slice_get (names sh) k) is))
      where
        go : (o : Option Name) → passes_test (touched sh (held_named (names sh) later) (event.Get own t key)) o ≡ true
            → passes_test (touched sh (held_named (names sh) hand) (event.Get own t key)) o ≡ true
        go None h = h
        go (Some n) h = ap (λ x. touched_by_key t key (option_to_list own.written ++ candidates_of (shard_from x) key) n) (sym shards_are) ∙ h
