-- The loops of a move, and all of it.
use Rattle.std.proofs.Common.{◌≡◌, ◌≢◌, ℕ, ◌+◌, ◌-◌, ◌<◌, ◌≤◌, ◌^◌, false, ◌==◌, List, [], ◌∷◌, None, Some, length, get_or, refl, sym, ap, ◌∙◌, subst, arith}
use Rattle.std.specs.Prelude.{filter, slice_get}
use Rattle.std.specs.List.{list_any}
use Rattle.std.proofs.lemmas.Option.{slice_get-get_or}
use Rattle.block_layout.specs.Place.{block_of, slot_of}
use Rattle.block_spec.specs.Bodies.{slot_in}
use Rattle.block_spec.specs.Slots.{has_none}
use Rattle.core_sweeps.proofs.Backs.{all_back, back_apart, back_in_entry, back_out_entry, back_room, back_shard, back_source, back_target, ends, fails, goes_back}
use Rattle.core_sweeps.proofs.Moves.{begins, desk_now, goes_on, has_the_desk, ready, room_now, shard_has, shard_holds, shard_new, still}
use Rattle.core_sweeps.specs.MoveSteps.{AreBack, AreMoved, IsNearly, IsReadyIn, holds_in, pair_moved, pair_undone, row_in, shard_in}
use Rattle.core_parts.proofs.Telling.{desk_is}
use Rattle.core_parts.specs.Hands.{Has, Held, Makes, MayRun, after, in_hand, laid}
use Rattle.core_sweeps.proofs.Handing.{room_taken}
use Rattle.core_sweeps.specs.SweepSteps.{body_in}
use Rattle.event_spec.specs.declared.event.Event.TheVariants as event
use Rattle.event_spec.specs.declared.event.MovePair.{MovePair}
use Rattle.event_spec.specs.declared.part.Part.TheVariants as part
use Rattle.event_spec.specs.declared.reply.Reply.TheVariants as reply
use Rattle.event_spec.specs.Effects.{ticked}
use Rattle.event_spec.specs.Parts.{Shape, ShardOf, BodyOf, TheDesk, names, shard_of}
use Rattle.core_laws.specs.Frames.Shards.{ShardHolds}
use Rattle.key_index.specs.Candidates.{candidates_of}
use Rattle.txn_desk.specs.Desk.{DeskState}

-- An element that is read within a list stands at its index.
at_index : {X : Type 0} (xs : List X) (k : ℕ) (x : X) → x ≡ get_or xs k x → k < length xs → slice_get xs k ≡ Some x
at_index xs k x is less = slice_get-get_or xs k x less ∙ ap Some (sym is)

-- ---- taking back

module _ (sh : Shape) (t : ℕ) (held now : Held) (pairs : List MovePair) (done left : ℕ)
    (x : (moves : List MovePair) × (old : Held) × AreBack sh t moves old held pairs done)
    (so_far : (left ≤ done) × ((moves : List MovePair) (old : Held) → AreBack sh t moves old held pairs done → AreBack sh t moves old now pairs left))
    (more : 0 < left) (fits : done ≤ length pairs) (pair : MovePair) (is : pair ≡ get_or pairs (left - 1) pair) where
  -- The hand so far is one in which this pair is the next to be taken back.
  back_here : (moves : List MovePair) (old : Held) → AreBack sh t moves old held pairs done → AreBack sh t moves old now pairs (left - 1 + 1)
  back_here moves old b = let same : left ≡ left - 1 + 1 = omega (arith, more) in subst (AreBack sh t moves old now pairs) same (so_far.1 moves old b)

  -- The pair stands last among those that are left.
  at : slice_get pairs (left - 1) ≡ Some pair
  at = let few = so_far.0 in at_index pairs (left - 1) pair is (omega (arith, more, fits, few))

  -- the hand has the body of the source of the pair that is taken back next
  pub undo_source : Has sh now (BodyOf t (block_of pair.source))
  undo_source = back_source sh t x.0 x.1 now pairs (left - 1) (back_here x.0 x.1 x.2) pair at

  -- that of its target
  pub undo_target : Has sh now (BodyOf t (block_of pair.target))
  undo_target = back_target sh t x.0 x.1 now pairs (left - 1) (back_here x.0 x.1 x.2) pair at

  -- the shard of its key
  pub undo_shard : Has sh now (ShardOf t (shard_of pair.key))
  undo_shard = back_shard sh t x.0 x.1 now pairs (left - 1) (back_here x.0 x.1 x.2) pair at

  -- and a place for each part
  pub undo_room : length now ≡ length (names sh)
  undo_room = back_room sh t x.0 x.1 now pairs (left - 1) (back_here x.0 x.1 x.2) pair at

  -- the source's slot has an entry to take back
  pub undo_out : has_none (slot_in (body_in sh now t (block_of pair.source)) (slot_of pair.source)).entries ≡ false
  undo_out = back_out_entry sh t x.0 x.1 now pairs (left - 1) (back_here x.0 x.1 x.2) pair at

  -- and so has the target's
  pub undo_in : has_none (slot_in (body_in sh now t (block_of pair.target)) (slot_of pair.target)).entries ≡ false
  undo_in = back_in_entry sh t x.0 x.1 now pairs (left - 1) (back_here x.0 x.1 x.2) pair at

  -- these are two places
  pub undo_apart : pair.source ≢ pair.target
  undo_apart = back_apart sh t x.0 x.1 now pairs (left - 1) (back_here x.0 x.1 x.2) pair at

  -- With the pair taken back one less is left.
  pub undo_less : (new : Held) → new ≡ after sh (pair_undone t pair) now
      → (left - 1 ≤ done) × ((moves : List MovePair) (old : Held) → AreBack sh t moves old held pairs done → AreBack sh t moves old new pairs (left - 1))
  undo_less new made = let few = so_far.0 in (
    omega (arith, few),
    λ moves old b. goes_back sh t moves old now pairs (left - 1) (back_here moves old b) pair at new made,
  )

-- Where none is left the hand is as it was.
pub undo_all : (sh : Shape) (t : ℕ) (held now : Held) (pairs : List MovePair) (done left : ℕ)
    → (left ≤ done) × ((moves : List MovePair) (old : Held) → AreBack sh t moves old held pairs done → AreBack sh t moves old now pairs left) → left ≤ 0
    → (moves : List MovePair) (old : Held) → AreBack sh t moves old held pairs done → now ≡ old
undo_all sh t held now pairs done left so_far none moves old b =
    let same : left ≡ 0 = omega (arith, none) in all_back sh t moves old now pairs (subst (AreBack sh t moves old now pairs) same (so_far.1 moves old b))

-- ---- moving

module _ (sh : Shape) (t : ℕ) (held now : Held) (pairs : List MovePair) (done : ℕ)
    (x : (moves : List MovePair) × AreMoved sh t moves held held pairs 0)
    (so_far : (moves : List MovePair) → AreMoved sh t moves held held pairs 0 → AreMoved sh t moves held now pairs done)
    (less : done < length pairs) (pair : MovePair) (is : pair ≡ get_or pairs done pair) where
  -- The pair stands behind those that moved.
  at_pair : slice_get pairs done ≡ Some pair
  at_pair = at_index pairs done pair is less

  -- the hand has what the next pair needs to move
  pub pair_ready : IsReadyIn sh now t pair
  pair_ready = ready sh t x.0 held now pairs done (so_far x.0 x.1) pair at_pair

  -- it has the shard of the pair's key
  pub pair_shard : Has sh now (ShardOf t (shard_of pair.key))
  pair_shard = shard_has sh t x.0 held now pairs done (so_far x.0 x.1) pair at_pair

  -- which is in order
  pub pair_holds : ShardHolds (shard_of pair.key) (shard_in sh now t (shard_of pair.key))
  pair_holds = shard_holds sh t x.0 held now pairs done (so_far x.0 x.1) pair at_pair

  -- and the target is no candidate of the key yet
  pub pair_new : list_any (λ other. other == pair.target) (candidates_of (shard_in sh now t (shard_of pair.key)) pair.key) ≡ false
  pair_new = shard_new sh t x.0 held now pairs done (so_far x.0 x.1) pair at_pair

  -- With the pair moved one more is done.
  pub pair_goes : (new : Held) (desk : DeskState) (stamp : ℕ) → in_hand sh held TheDesk ≡ Some (part.Desk desk) → stamp ≡ desk.newest + 1 → new ≡ after sh (pair_moved t stamp pair (row_in sh now t pair)) now
      → (moves : List MovePair) → AreMoved sh t moves held held pairs 0 → AreMoved sh t moves held new pairs (done + 1)
  pair_goes new desk stamp there stamped made moves b =
      let u = so_far moves b in
      goes_on sh t moves held now pairs done u pair at_pair new stamp (stamped ∙ ap (λ (d : DeskState). d.newest + 1) (sym (desk_is sh held u.may.parts u.may.agrees desk there))) made

  -- a pair that fails leaves those before it to be taken back
  pub pair_fails : (new : Held) → IsNearly sh t (block_of pair.source) now new → AreBack sh t x.0 held new pairs done
  pair_fails new near = fails sh t x.0 held now pairs done (so_far x.0 x.1) pair at_pair new near

-- ---- all of it

module _ (sh : Shape) (t : ℕ) (moves : List MovePair) (old : Held) (m : MayRun sh (event.Move t moves) old) (pairs : List MovePair) (is : pairs ≡ filter (holds_in sh old t) moves)
    (mid : Held) (made : (moves : List MovePair) → AreMoved sh t moves old old pairs 0 → AreMoved sh t moves old mid pairs (length pairs)) where
  -- All pairs that hold have moved.
  abbrev u : AreMoved sh t moves old mid pairs (length pairs)
  u = made moves (begins sh t moves old m pairs is)

  -- the hand has the desk
  pub whole_desk : Has sh mid TheDesk
  whole_desk = still sh t moves old mid pairs (length pairs) (made moves (begins sh t moves old m pairs is)) TheDesk (has_the_desk sh t moves old m)

  -- without the desk it still has a place for each part
  pub whole_room : (taken : Held) → taken ≡ laid sh TheDesk None mid → length taken ≡ length (names sh)
  whole_room taken out = room_taken sh mid taken TheDesk None out (room_now sh t moves old mid pairs (length pairs) (made moves (begins sh t moves old m pairs is)))

  -- the desk's next stamp fits its width
  pub whole_stamp : (x : DeskState) → in_hand sh mid TheDesk ≡ Some (part.Desk x) → x.newest + 1 < 2 ^ 63
  whole_stamp x there =
      let u = made moves (begins sh t moves old m pairs is) in
      subst (λ (d : DeskState). d.newest + 1 < 2 ^ 63) (desk_now sh t moves old mid pairs (length pairs) u x there) u.may.lawful.1.3

  -- The desk's tick ends the move, with its reply.
  pub whole_ends : (pairs ≡ [] → ⊥) → (taken new : Held) (x y : DeskState) → in_hand sh mid TheDesk ≡ Some (part.Desk x) → taken ≡ laid sh TheDesk None mid → y ≡ ticked x
      → new ≡ laid sh TheDesk (Some (part.Desk y)) taken → Makes sh (event.Move t moves) old new (reply.Moved (length pairs))
  whole_ends some = ends sh t moves old mid pairs (made moves (begins sh t moves old m pairs is)) some

-- ---- small answers

-- where as many pairs are done as there are, all have moved
pub all_there : (sh : Shape) (t : ℕ) (held now : Held) (pairs : List MovePair) (done : ℕ)
    → ((moves : List MovePair) → AreMoved sh t moves held held pairs 0 → AreMoved sh t moves held now pairs done) → done ≡ length pairs
    → (moves : List MovePair) → AreMoved sh t moves held held pairs 0 → AreMoved sh t moves held now pairs (length pairs)
all_there sh t held now pairs done so_far end moves a = subst (AreMoved sh t moves held now pairs) end (so_far moves a)

-- pairs that are read from a list as it stands have moved as the list's
pub all_moved : (sh : Shape) (t : ℕ) (old : Held) (pairs slice : List MovePair) → slice ≡ pairs → (mid : Held)
    → ((moves : List MovePair) → AreMoved sh t moves old old slice 0 → AreMoved sh t moves old mid slice (length slice))
    → (moves : List MovePair) → AreMoved sh t moves old old pairs 0 → AreMoved sh t moves old mid pairs (length pairs)
all_moved sh t old pairs slice same mid made = subst (λ ps. (moves : List MovePair) → AreMoved sh t moves old old ps 0 → AreMoved sh t moves old mid ps (length ps)) same made

-- a list of no length is empty
pub is_nil : (pairs : List MovePair) → length pairs ≡ 0 → pairs ≡ []
is_nil [] none = refl
is_nil (pair ∷ pairs) none = absurd (omega (arith, none))

-- one of some length is not
pub not_nil : (pairs : List MovePair) → (length pairs ≡ 0 → ⊥) → pairs ≡ [] → ⊥
not_nil pairs some none = some (ap length none)

-- a desk that is left as it was is still the hand's
pub told : (sh : Shape) (hand : Held) (x y : DeskState) → in_hand sh hand TheDesk ≡ Some (part.Desk x) → y ≡ x → in_hand sh hand TheDesk ≡ Some (part.Desk y)
told sh hand x y there same = there ∙ ap (λ d. Some (part.Desk d)) (sym same)
