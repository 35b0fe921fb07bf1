-- What each event leaves of a sealed or imaged block.
use Rattle.std.proofs.Common.{◌≡◌, ◌≢◌, ℕ, ◌+◌, ℤ, Bool, true, false, cond, not, ◌&&◌, ◌==◌, List, [], ◌∷◌, map, fold, Option, None, Some, is_none, unwrap_or, refl, sym, ap, ◌∙◌, subst, arith}
use mathlib.Core.Logic.{inl, inr}
use Rattle.std.specs.Prelude.{Result, Ok, Err, filter}
use Rattle.std.specs.List.{list_all}
use Rattle.std.proofs.lemmas.Bool.Decides.{nat_tests}
use Rattle.std.proofs.lemmas.Option.{same_Some}
use Rattle.std.proofs.lemmas.Bool.{and_parts}
use Rattle.block_layout.specs.Place.{block_of, slot_of}
use Rattle.block_spec.specs.Bodies.{Body, committed_in, imaged, imaged_phase, is_loose, is_quiet, modified, observed, pruned_in, rolled_back_in, seal_fault, sealed, thawed, with_slot}
use Rattle.block_spec.specs.declared.change.Before.{Before}
use Rattle.block_spec.specs.declared.change.Change.{Change}
use Rattle.block_spec.specs.declared.change.Change.TheVariants as change
use Rattle.block_spec.specs.declared.phase.Phase.{Phase}
use Rattle.block_spec.specs.declared.phase.Phase.TheVariants.{Loose, Sealed, Imaged}
use Rattle.block_spec.specs.declared.phase.SealFault.{SealFault}
use Rattle.block_spec.specs.Slots.{Row, Slot, committed, has_none, moved_in, moved_out, pruned, rolled_back, written}
use Rattle.core_laws.proofs.Events.Apart.{kept_among}
use Rattle.core_laws.proofs.Events.Moved.{halves, left_half}
use Rattle.event_spec.specs.declared.event.Event.TheVariants as event
use Rattle.event_spec.specs.declared.event.MovePair.{MovePair}
use Rattle.event_spec.specs.declared.own.OwnKey.{OwnKey}
use Rattle.event_spec.specs.declared.reply.WriteFault.{WriteFault}
use Rattle.event_spec.specs.Effects.{CoreEvent, after_change, after_insert, after_judged, after_move, at_both, change_judged, changes_of, held_pairs, holds, insert_judged, is_some_write, moved_row, stale_in}
use Rattle.event_spec.specs.Judged.{differences}
use Rattle.event_spec.specs.Lawful.{Among, HasBlock, IsLawful, IsThawed}
use Rattle.event_spec.specs.Parts.{Parts, Shape, nothing, body_at, desk_at, is_head, slot_at}
use Rattle.event_spec.specs.Sound.{IsShape, Sound}
use Rattle.isolation_spec.specs.declared.read.Read.{Read}
use Rattle.core_laws.specs.Frozen.Laws.{FrozenIsSettled, FrozenStays, stamp_of}
use Rattle.core_laws.proofs.Frozen.Loose.{insert_loose, pair_loose, sealable}
use Rattle.isolation_spec.specs.Contents.{key_of}
use Rattle.core_laws.proofs.Sound.Bodies.{true_false}
use Rattle.core_laws.proofs.Sound.Fewer.{unwritten}
use Rattle.core_laws.proofs.Sound.Keeps.{shaped}
use Rattle.core_laws.proofs.Sound.Kept.{body_after}
use Rattle.core_laws.proofs.Sound.Written.{change_goes}
use Rattle.undo_chain.specs.declared.undo.Undo.{Undo}
use Rattle.undo_chain.specs.Entry.{is_stamped_by}
use Rattle.undo_chain.specs.Stamped.{stamped}

-- Numbers that pass the test for equality are the same.
num : (a b : ℕ) → (a == b) ≡ true → a ≡ b
num a b e = grind (arith, nat_tests)

-- A phase that has a stamp is not loose.
not_loose : (phase : Phase) (stamp : ℕ) → stamp_of phase ≡ Some stamp → is_loose phase ≡ false
not_loose Loose stamp is = cc
not_loose (Sealed g) stamp is = refl
not_loose (Imaged g) stamp is = refl

-- its slots and its stamp
pub record Same (x y : Body) : Type 0 where
  pub slots : y.slots ≡ x.slots
  pub stamp : stamp_of y.phase ≡ stamp_of x.phase

-- A body has the slots and the stamp that it has.
same : (x : Body) → Same x x
same x = record { slots = refl; stamp = refl }

-- ---- quiet slots

-- Where a change leaves slots without entries, it leaves a list of such slots.
quiet_map : (g : Slot → Slot) → ((slot : Slot) → has_none slot.entries ≡ true → g slot ≡ slot) → (slots : List Slot) → list_all (λ slot. has_none slot.entries) slots ≡ true → map g slots ≡ slots
quiet_map g stays [] q = refl
quiet_map g stays (x ∷ slots) q =
    let both = and_parts (has_none x.entries) (list_all (λ slot. has_none slot.entries) slots) q in
    ap (λ y. y ∷ map g slots) (stays x both.0) ∙ ap (λ ys. x ∷ ys) (quiet_map g stays slots both.1)

-- A commit leaves a slot without entries.
committed_none : (q stamp number : ℕ) (slot : Slot) → has_none slot.entries ≡ true → committed q stamp number slot ≡ slot
committed_none q stamp number slot none = ap (λ es. record slot { entries = es }) (go slot.entries none)
  where
    go : (es : List (Undo Before)) → has_none es ≡ true → map (stamped q stamp number) es ≡ es
    go [] n = refl
    go (e ∷ es) n = cc

-- A pruning leaves a slot without entries.
pruned_none : (oldest : ℕ) (slot : Slot) → has_none slot.entries ≡ true → pruned oldest slot ≡ slot
pruned_none oldest slot none = ap (λ es. record slot { entries = es }) (go slot.entries none)
  where
    go : (es : List (Undo Before)) → has_none es ≡ true → filter (λ undo. not (is_stamped_by undo oldest)) es ≡ es
    go [] n = refl
    go (e ∷ es) n = cc

-- ---- one body's change

-- where the change is of another body, or leaves this one
at_one : (t b : ℕ) (g : Body → Body) (u x : ℕ) (y : Body) → ((u ≡ t) → (x ≡ b) → Same y (g y)) → Same y (at_both t b g u x y)
at_one t b g u x y stays = go (u == t) (x == b) refl refl
  where
    go : (m n : Bool) → (u == t) ≡ m → (x == b) ≡ n → Same y (cond ((u == t) && (x == b)) (g y) y)
    go true true m n = subst (λ e. Same y (cond (e && (x == b)) (g y) y)) (sym m) (subst (λ e. Same y (cond e (g y) y)) (sym n) (stays (num u t m) (num x b n)))
    go true false m n = subst (λ e. Same y (cond (e && (x == b)) (g y) y)) (sym m) (subst (λ e. Same y (cond e (g y) y)) (sym n) (same y))
    go false n' m n = subst (λ e. Same y (cond (e && (x == b)) (g y) y)) (sym m) (same y)

module _ (sh : Shape) (s : Parts) (shape : IsShape sh) (ok : Sound sh s) (t b : ℕ) (has : HasBlock sh t b) (stamp : ℕ) (frozen : stamp_of (body_at sh s t b).phase ≡ Some stamp) where
  -- The body of the block before the event.
  abbrev x : Body
  x = body_at sh s t b

  -- The block is not loose.
  closed : is_loose (body_at sh s t b).phase ≡ false
  closed = not_loose (body_at sh s t b).phase stamp frozen

  -- The block is quiet: its slots have no entries.
  quiet : is_quiet (body_at sh s t b) ≡ true
  quiet = (ok.bodies t b has).quiet (not_loose (body_at sh s t b).phase stamp frozen)

  -- a loose body is another
  elsewhere : (u p : ℕ) → is_loose (body_at sh s u (block_of p)).phase ≡ true → (t ≡ u) → (b ≡ block_of p) → ⊥
  elsewhere u p loose e e' = true_false (sym loose ∙ ap (λ u. is_loose (body_at sh s u (block_of p)).phase) (sym e) ∙ ap (λ b. is_loose (body_at sh s t b).phase) (sym e') ∙ closed)

  -- A write to a slot of a loose block leaves this one its slots and its stamp.
  write_same : (u p : ℕ) (g : Slot → Slot) → is_loose (body_at sh s u (block_of p)).phase ≡ true → Same (body_at sh s t b) (at_both u (block_of p) (with_slot (slot_of p) g) t b (body_at sh s t b))
  write_same u p g loose = at_one u (block_of p) (with_slot (slot_of p) g) t b (body_at sh s t b) (λ e e'. absurd (elsewhere u p loose e e'))

  -- An insert leaves the slots and the stamp of a sealed or imaged block.
  insert_same : (own : OwnKey) (u : ℕ) (row : Row) → IsLawful sh (event.Insert own u row) s → Same (body_at sh s t b) ((changes_of sh s (event.Insert own u row)).body t b (body_at sh s t b))
  insert_same own u row lawful = go (insert_judged sh s own u (key_of row)) refl
    where
      go : (r : Result ℕ WriteFault) → insert_judged sh s own u (key_of row) ≡ r → Same (body_at sh s t b) ((after_insert sh s own u row (insert_judged sh s own u (key_of row))).body t b (body_at sh s t b))
      go (Err fault) is = subst (λ r. Same (body_at sh s t b) ((after_insert sh s own u row r).body t b (body_at sh s t b))) (sym is) (same (body_at sh s t b))
      go (Ok p) is = subst (λ r. Same (body_at sh s t b) ((after_insert sh s own u row r).body t b (body_at sh s t b))) (sym is)
          (write_same u p (written own.session (change.Put row)) (insert_loose sh s shape ok own u row lawful p is))

  -- A change of a key that is thawed leaves this block its slots and its stamp.
  change_same : (own : OwnKey) (u : ℕ) (key : ℤ) (choice : Row → Change) → IsThawed sh u key s
      → Same (body_at sh s t b) ((after_change sh s own u choice (change_judged sh s own u key)).body t b (body_at sh s t b))
  change_same own u key choice thawed = go (change_judged sh s own u key) refl
    where
      go : (r : Result ℕ WriteFault) → change_judged sh s own u key ≡ r → Same (body_at sh s t b) ((after_change sh s own u choice (change_judged sh s own u key)).body t b (body_at sh s t b))
      go (Err fault) is = subst (λ r. Same (body_at sh s t b) ((after_change sh s own u choice r).body t b (body_at sh s t b))) (sym is) (same (body_at sh s t b))
      go (Ok p) is = subst (λ r. Same (body_at sh s t b) ((after_change sh s own u choice r).body t b (body_at sh s t b))) (sym is)
          (write_same u p (written own.session (choice (unwrap_or (slot_at sh s u p).row []))) (change_goes sh s ok own u key p thawed is).spot.loose)

  -- A commit, with writes or without, leaves this block its slots and its stamp.
  commit_same : (wrote : Bool) (q at number : ℕ) → Same (body_at sh s t b) ((cond wrote (committed_in q at number) (λ (body : Body). body)) (body_at sh s t b))
  commit_same true q at number = record { slots = quiet_map (committed q at number) (committed_none q at number) (body_at sh s t b).slots quiet; stamp = refl }
  commit_same false q at number = same (body_at sh s t b)

  -- An abort leaves this block its slots and its stamp.
  abort_same : (q : ℕ) → Same (body_at sh s t b) (rolled_back_in q (body_at sh s t b))
  abort_same q = subst (λ e. Same (body_at sh s t b) (cond e (record (modified (body_at sh s t b)) { slots = map (rolled_back q) (body_at sh s t b).slots }) (body_at sh s t b)))
      (sym (unwritten q (body_at sh s t b).slots quiet)) (same (body_at sh s t b))

  -- A pruning of any block leaves this one its slots and its stamp.
  prune_same : (u y oldest : ℕ) → Same (body_at sh s t b) (at_both u y (pruned_in oldest) t b (body_at sh s t b))
  prune_same u y oldest = at_one u y (pruned_in oldest) t b (body_at sh s t b)
      (λ e e'. record { slots = quiet_map (pruned oldest) (pruned_none oldest) (body_at sh s t b).slots quiet; stamp = refl })

  -- A phase keeps its stamp when it gets an image.
  imaged_stamp : (phase : Phase) → stamp_of (imaged_phase phase) ≡ stamp_of phase
  imaged_stamp Loose = refl
  imaged_stamp (Sealed g) = refl
  imaged_stamp (Imaged g) = refl

  -- A seal of any block leaves this one its slots and its stamp.
  seal_same : (u y : ℕ) → Same (body_at sh s t b) ((changes_of sh s (event.Seal u y)).body t b (body_at sh s t b))
  seal_same u y = go (seal_fault (is_head sh s u y) (body_at sh s u y)) refl
    where
      go : (o : Option SealFault) → seal_fault (is_head sh s u y) (body_at sh s u y) ≡ o
          → Same (body_at sh s t b) ((cond (is_none (seal_fault (is_head sh s u y) (body_at sh s u y))) (record nothing { body = at_both u y sealed }) nothing).body t b (body_at sh s t b))
      go (Some fault) is = subst (λ o. Same (body_at sh s t b) ((cond (is_none o) (record nothing { body = at_both u y sealed }) nothing).body t b (body_at sh s t b))) (sym is) (same (body_at sh s t b))
      go None is = subst (λ o. Same (body_at sh s t b) ((cond (is_none o) (record nothing { body = at_both u y sealed }) nothing).body t b (body_at sh s t b))) (sym is)
          (at_one u y sealed t b (body_at sh s t b) (λ e e'.
          absurd (true_false (sym (sealable (is_head sh s u y) (body_at sh s u y) is).phase ∙ ap (λ u. is_loose (body_at sh s u y).phase) (sym e) ∙ ap (λ y. is_loose (body_at sh s t y).phase) (sym e') ∙ closed))))

  -- ---- a move

  -- Pairs neither place of which is in this block leave a body as it was.
  halves_same : (at : ℕ) (row : MovePair → Row) (pairs : List MovePair) (y : Body)
      → ((pair : MovePair) → Among pair pairs → (block_of pair.source ≢ b) × (block_of pair.target ≢ b)) → fold (halves at row b) y pairs ≡ y
  halves_same at row [] y far = refl
  halves_same at row (first ∷ rest) y far =
      ap (λ z. fold (halves at row b) z rest) (one (block_of first.source == b) (block_of first.target == b) (ne (block_of first.source) b (far first (inl refl)).0) (ne (block_of first.target) b (far first (inl refl)).1))
      ∙ halves_same at row rest y (λ pair a. far pair (inr a))
    where
      ne : (x y : ℕ) → x ≢ y → (x == y) ≡ false
      ne x y d = grind (arith, nat_tests)

      one : (m n : Bool) → (block_of first.source == b) ≡ false → (block_of first.target == b) ≡ false → halves at row b y first ≡ y
      one m n p q =
          ap (λ e. cond e (with_slot (slot_of first.target) (moved_in at (row first)) (left_half at row b first y)) (left_half at row b first y)) q
          ∙ ap (λ e. cond e (with_slot (slot_of first.source) (moved_out at (row first)) y) y) p

  -- A move leaves this block its slots and its stamp.
  move_same : (u : ℕ) (moves : List MovePair) → Same (body_at sh s t b) ((changes_of sh s (event.Move u moves)).body t b (body_at sh s t b))
  move_same u moves = go (held_pairs sh s u moves) (λ pair a. (kept_among (holds sh s u) moves pair a).1)
    where
      other : (t ≡ u) → (y : ℕ) → is_loose (body_at sh s u y).phase ≡ true → y ≢ b
      other e y loose same_block = true_false (sym loose ∙ ap (λ u. is_loose (body_at sh s u y).phase) (sym e) ∙ ap (λ y. is_loose (body_at sh s t y).phase) same_block ∙ closed)

      go : (pairs : List MovePair) → ((pair : MovePair) → Among pair pairs → holds sh s u pair ≡ true) → Same (body_at sh s t b) ((after_move sh s u pairs).body t b (body_at sh s t b))
      go [] held = same (body_at sh s t b)
      go (first ∷ rest) held = at (t == u) refl
        where
          at : (e : Bool) → (t == u) ≡ e → Same (body_at sh s t b) (cond (t == u) (fold (halves ((desk_at sh s).newest + 1) (moved_row sh s u) b) (body_at sh s t b) (first ∷ rest)) (body_at sh s t b))
          at false e = subst (λ e. Same (body_at sh s t b) (cond e (fold (halves ((desk_at sh s).newest + 1) (moved_row sh s u) b) (body_at sh s t b) (first ∷ rest)) (body_at sh s t b))) (sym e) (same (body_at sh s t b))
          at true e = subst (λ e. Same (body_at sh s t b) (cond e (fold (halves ((desk_at sh s).newest + 1) (moved_row sh s u) b) (body_at sh s t b) (first ∷ rest)) (body_at sh s t b))) (sym e)
              (subst (Same (body_at sh s t b)) (sym (halves_same ((desk_at sh s).newest + 1) (moved_row sh s u) (first ∷ rest) (body_at sh s t b)
              (λ pair a. let o = pair_loose sh s u pair (held pair a) in (other (num t u e) (block_of pair.source) o.0, other (num t u e) (block_of pair.target) o.1)))) (same (body_at sh s t b)))

  -- ---- the events

  -- A lawful event that is not the block's thaw leaves it its slots and its stamp.
  event_same : (e : CoreEvent) → IsLawful sh e s → e ≢ event.Thaw t b → Same (body_at sh s t b) ((changes_of sh s e).body t b (body_at sh s t b))
  event_same (event.Begin q) lawful ne = same (body_at sh s t b)
  event_same (event.Get own u key) lawful ne = same (body_at sh s t b)
  event_same (event.Insert own u row) lawful ne = insert_same own u row lawful
  event_same (event.Update own u row) lawful ne = change_same own u (key_of row) (λ old. change.Patch (differences 0 old row)) lawful.1.2
  event_same (event.Delete own u key) lawful ne = change_same own u key (λ old. change.Gone) lawful.1.1
  event_same (event.Read own u y) lawful ne = same (body_at sh s t b)
  event_same (event.Range own u low high) lawful ne = same (body_at sh s t b)
  event_same (event.Commit own reads) lawful ne = judged (stale_in sh s own reads)
    where
      judged : (found : Option (Read × ℕ)) → Same (body_at sh s t b) ((after_judged sh s own found).body t b (body_at sh s t b))
      judged None = commit_same (is_some_write own.writes) own.session ((desk_at sh s).newest + 1) ((desk_at sh s).commits + 1)
      judged (Some stale) = same (body_at sh s t b)
  event_same (event.Abort own) lawful ne = abort_same own.session
  event_same event.Oldest lawful ne = same (body_at sh s t b)
  event_same (event.Observe u y) lawful ne = at_one u y (observed (is_head sh s u y)) t b (body_at sh s t b) (λ e e'. record { slots = refl; stamp = refl })
  event_same (event.Prune u y oldest) lawful ne = prune_same u y oldest
  event_same (event.Look u y) lawful ne = same (body_at sh s t b)
  event_same (event.Move u moves) lawful ne = move_same u moves
  event_same (event.Seal u y) lawful ne = seal_same u y
  event_same (event.Image u y image) lawful ne = at_one u y imaged t b (body_at sh s t b) (λ e e'. record { slots = refl; stamp = imaged_stamp (body_at sh s t b).phase })
  event_same (event.Thaw u y) lawful ne = at_one u y thawed t b (body_at sh s t b) (λ e e'. absurd (ne (ap (λ u. event.Thaw u y) (sym e) ∙ ap (event.Thaw t) (sym e'))))

-- Each event but its thaw leaves a sealed or imaged block its slots and its stamp.
pub frozen_stays : FrozenStays
frozen_stays sh s e t b stamp shape ok lawful has ne frozen =
    let stays = event_same sh s shape ok t b has stamp frozen e lawful ne in
    let now = body_after sh s (shaped sh s ok) (changes_of sh s e) t b has in
    record {
      slots = ap (λ (x : Body). x.slots) now ∙ stays.slots;
      stamp = ap (λ (x : Body). stamp_of x.phase) now ∙ stays.stamp;
    }

-- A sealed or imaged block has no entry, its rows in front and its last stamp, and takes no
-- inserts.
pub frozen_is_settled : FrozenIsSettled
frozen_is_settled sh s t b stamp ok has frozen = record {
  quiet = (ok.bodies t b has).quiet closed;
  dense = (ok.bodies t b has).dense closed;
  other = (ok.no_head t b has).phase closed;
  newest = at (body_at sh s t b).phase refl frozen;
}
  where
    closed : is_loose (body_at sh s t b).phase ≡ false
    closed = not_loose (body_at sh s t b).phase stamp frozen

    at : (phase : Phase) → (body_at sh s t b).phase ≡ phase → stamp_of (body_at sh s t b).phase ≡ Some stamp → stamp ≡ (body_at sh s t b).last
    at Loose is f = let never : None ≡ Some stamp = sym (ap stamp_of is) ∙ f in cc
    at (Sealed g) is f = sym (same_Some g stamp (sym (ap stamp_of is) ∙ f)) ∙ (ok.bodies t b has).sealed g is
    at (Imaged g) is f = sym (same_Some g stamp (sym (ap stamp_of is) ∙ f)) ∙ (ok.bodies t b has).imaged g is
