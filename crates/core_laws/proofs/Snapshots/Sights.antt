-- What an open session sees of a slot, after the events of others and the upkeep.
use Rattle.std.proofs.Common.{◌≡◌, ◌≢◌, ◌⊎◌, ℕ, ◌+◌, ◌<◌, ◌≤◌, ℤ, Bool, true, false, cond, ◌&&◌, ◌==◌, [], Option, None, Some, is_none, is_some, length, unwrap_or, refl, sym, ap, ◌∙◌, subst, arith}
use mathlib.Core.Logic.{inl, inr}
use Rattle.std.specs.Prelude.{Result, Ok, Err}
use Rattle.std.specs.Option.{option_or}
use Rattle.block_layout.specs.Place.{block_of, slot_of}
use Rattle.block_spec.specs.Bodies.{Body, committed_in, imaged, observed, pruned_in, rolled_back_in, seal_fault, sealed, slot_in, thawed, with_slot}
use Rattle.block_spec.specs.declared.change.Change.{Change}
use Rattle.block_spec.specs.declared.change.Change.TheVariants as change
use Rattle.block_spec.specs.Slots.{Row, Slot, columns_before, committed, image_before, laid_back, patched, pruned, row_after, seen, written}
use Rattle.core_laws.proofs.Events.Aborted.{rolled_slot}
use Rattle.core_laws.proofs.Events.Fitting.{current_fits, fits_columns, fits_length, versions_fit}
use Rattle.core_laws.proofs.Events.Heads.{next_is_there}
use Rattle.core_laws.proofs.Events.Naming.{follows_machine}
use Rattle.core_laws.proofs.Events.Owners.{key_slot}
use Rattle.core_laws.proofs.Events.Slots.{body_of, write_else, write_here}
use Rattle.core_laws.proofs.Events.States.{body_cases, slot_map}
use Rattle.core_laws.proofs.Events.Steps.{live_above}
use Rattle.core_laws.proofs.Events.Still.{all_stay}
use Rattle.core_laws.specs.Events.Named.{FollowsMachine}
use Rattle.event_spec.specs.declared.event.Event.TheVariants as event
use Rattle.event_spec.specs.declared.own.OwnKey.{OwnKey}
use Rattle.event_spec.specs.declared.own.OwnTransaction.{OwnTransaction}
use Rattle.event_spec.specs.declared.part.Part.TheVariants as part
use Rattle.event_spec.specs.declared.reply.WriteFault.{WriteFault}
use Rattle.event_spec.specs.declared.reply.WriteFault.TheVariants.{Exists, Full}
use Rattle.event_spec.specs.Effects.{CoreEvent, after_change, after_commit, after_insert, after_judged, at_both, change_judged, changes_of, effect, found, insert_judged, is_some_write, stale_in}
use Rattle.event_spec.specs.Judged.{differences, fault_of, newer_by, next_place}
use Rattle.event_spec.specs.Lawful.{IsLawful, IsThawed, session_of}
use Rattle.event_spec.specs.Parts.{Changes, Parts, Shape, BodyOf, names, nothing, each_changed, body_at, body_from, desk_at, head_at, is_head, part_named, places_at, slot_at, slots_of}
use Rattle.event_spec.specs.Replay.{columns_in}
use Rattle.event_spec.specs.SlotSound.{VersionsFit}
use Rattle.event_spec.specs.Sound.{IsShape, Sound}
use Rattle.isolation_spec.specs.declared.read.Read.{Read}
use Rattle.core_laws.proofs.Following.Writes.{apart as places_apart}
use Rattle.core_laws.specs.Following.Owned.{HasOpen}
use Rattle.isolation_spec.specs.Contents.{key_of}
use Rattle.core_laws.proofs.Slots.Kept.{writer_filled}
use Rattle.core_laws.proofs.Slots.Others.{a_pruning, others_commit, others_roll_back, others_write}
use Rattle.core_laws.proofs.Slots.Patches.{patched_new, patched_old}
use Rattle.core_laws.specs.Slots.Laws.{IsUndone}
use Rattle.core_laws.proofs.Snapshots.MoveSights.{move_seen}
use Rattle.core_laws.specs.Snapshots.Laws.{SeenStays}
use Rattle.core_laws.proofs.Sound.Written.{change_goes, judged_ok}
use Rattle.txn_desk.specs.declared.Snapshot.{Snapshot}

-- A put's before-image, laid back, gives what the slot had.
put_undone : (slot : Slot) (row : Row) → IsUndone slot (change.Put row)
put_undone slot row = go slot.row
  where
    go : (o : Option Row) → laid_back (Some row) (image_before o (change.Put row)) ≡ o
    go None = refl
    go (Some old) = refl

-- A deletion's before-image, laid back, gives what the slot had.
gone_undone : (slot : Slot) → IsUndone slot change.Gone
gone_undone slot = go slot.row
  where
    go : (o : Option Row) → laid_back None (image_before o change.Gone) ≡ o
    go None = refl
    go (Some old) = refl

-- The before-image of a patch to a row of the same length, laid back, gives what the slot had.
patch_undone : (slot : Slot) (old new : Row) → slot.row ≡ Some old → length old ≡ length new → IsUndone slot (change.Patch (differences 0 old new))
patch_undone slot old new is same =
    subst (λ (o : Option Row). laid_back (row_after o (change.Patch (differences 0 old new))) (image_before o (change.Patch (differences 0 old new))) ≡ o) (sym is)
    (ap Some (ap (λ row. patched row (columns_before old (differences 0 old new))) (patched_new old new same) ∙ patched_old old new same))

module _ (sh : Shape) (s : Parts) (shape : IsShape sh) (ok : Sound sh s) (q : ℕ) (snapshot : Snapshot) (has : HasOpen (desk_at sh s) q snapshot) where
  -- The core in front of the event follows its machine.
  abbrev f : FollowsMachine sh s ok.follows.0
  f = follows_machine sh s ok

  -- the snapshot is not above the newest stamp
  low : snapshot.stamp ≤ (desk_at sh s).newest
  low = (ok.follows.1.desked.bounds q snapshot has.counted has.is_open).0

  -- Over parts that are the same the session sees the same of each slot.
  still : (after : Parts) → after ≡ s → (t p : ℕ) → seen (slot_at sh after t p) snapshot.stamp q ≡ seen (slot_at sh s t p) snapshot.stamp q
  still after same t p = ap (λ parts. seen (slot_at sh parts t p) snapshot.stamp q) same

  -- what a body's change does to its slots
  by_body : (c : Changes) → ((t b j : ℕ) → seen (slot_in (c.body t b (body_at sh s t b)) j) snapshot.stamp q ≡ seen (slot_in (body_at sh s t b) j) snapshot.stamp q)
      → (t p : ℕ) → seen (slot_at sh (each_changed c (names sh) s) t p) snapshot.stamp q ≡ seen (slot_at sh s t p) snapshot.stamp q
  by_body c same t p = go (body_cases sh s c t (block_of p) (f.kinds (BodyOf t (block_of p))))
    where
      go : ((body_at sh (each_changed c (names sh) s) t (block_of p) ≡ c.body t (block_of p) (body_at sh s t (block_of p))) ⊎ ((body_at sh (each_changed c (names sh) s) t (block_of p) ≡ body_from None) × (body_at sh s t (block_of p) ≡ body_from None)))
          → seen (slot_at sh (each_changed c (names sh) s) t p) snapshot.stamp q ≡ seen (slot_at sh s t p) snapshot.stamp q
      go (inl e) = ap (λ x. seen (slot_in x (slot_of p)) snapshot.stamp q) e ∙ same t (block_of p) (slot_of p)
      go (inr e) = ap (λ x. seen (slot_in x (slot_of p)) snapshot.stamp q) e.0 ∙ ap (λ x. seen (slot_in x (slot_of p)) snapshot.stamp q) (sym e.1)

  -- one body changes
  at_one : (t b : ℕ) (g : Body → Body) (u x : ℕ) (y : Body) (j : ℕ) → seen (slot_in (g y) j) snapshot.stamp q ≡ seen (slot_in y j) snapshot.stamp q
      → seen (slot_in (at_both t b g u x y) j) snapshot.stamp q ≡ seen (slot_in y j) snapshot.stamp q
  at_one t b g u x y j same = go ((u == t) && (x == b))
    where
      go : (e : Bool) → seen (slot_in (cond e (g y) y) j) snapshot.stamp q ≡ seen (slot_in y j) snapshot.stamp q
      go true = same
      go false = refl

  -- ---- writes

  -- A write of another session at one place leaves what the session sees of each slot.
  written_seen : (c : Changes) (t p r : ℕ) (new : Change) (body : Body) → part_named (names sh) s (BodyOf t (block_of p)) ≡ Some (part.Body body) → slot_of p < length body.slots
      → ((u b : ℕ) (x : Body) → c.body u b x ≡ at_both t (block_of p) (with_slot (slot_of p) (written r new)) u b x)
      → IsUndone (slot_at sh s t p) new → q ≢ r
      → (u x : ℕ) → seen (slot_at sh (each_changed c (names sh) s) u x) snapshot.stamp q ≡ seen (slot_at sh s u x) snapshot.stamp q
  written_seen c t p r new body there inside bodies undone ne u x = go (places_apart u t x p)
    where
      go : ((u ≡ t) × (x ≡ p)) ⊎ ((u ≡ t) → (x ≡ p) → ⊥) → seen (slot_at sh (each_changed c (names sh) s) u x) snapshot.stamp q ≡ seen (slot_at sh s u x) snapshot.stamp q
      go (inl e) =
          ap (λ u. seen (slot_at sh (each_changed c (names sh) s) u x) snapshot.stamp q) e.0 ∙ ap (λ x. seen (slot_at sh (each_changed c (names sh) s) t x) snapshot.stamp q) e.1
          ∙ ap (λ (y : Slot). seen y snapshot.stamp q) (write_here sh s c (written r new) t p body f.kinds there inside bodies)
          ∙ others_write (slot_at sh s t p) r q snapshot.stamp new ne undone
          ∙ ap (λ x. seen (slot_at sh s t x) snapshot.stamp q) (sym e.1) ∙ ap (λ u. seen (slot_at sh s u x) snapshot.stamp q) (sym e.0)
      go (inr n) = ap (λ (y : Slot). seen y snapshot.stamp q) (write_else sh s c (written r new) t p body f.kinds there inside bodies u x n)

  -- Another session's insert leaves what an open session sees of each slot.
  insert_seen : (own : OwnKey) (t : ℕ) (row : Row) → IsLawful sh (event.Insert own t row) s → q ≢ own.session
      → (u x : ℕ) → seen (slot_at sh (effect sh s (event.Insert own t row)) u x) snapshot.stamp q ≡ seen (slot_at sh s u x) snapshot.stamp q
  insert_seen own t row lawful ne u x = go (insert_judged sh s own t (key_of row)) refl
    where
      Here : ℕ → Type 0
      Here p = (body : Body) × (part_named (names sh) s (BodyOf t (block_of p)) ≡ Some (part.Body body)) × (slot_of p < length body.slots)

      there : (p : ℕ) (w : Option ℕ) → own.written ≡ w → option_or own.written (next_place (head_at sh s t) (slots_of sh t)) ≡ Some p
          → (body : Body) × (part_named (names sh) s (BodyOf t (block_of p)) ≡ Some (part.Body body)) × (slot_of p < length body.slots)
      there p (Some y) e goes =
          let mine : own.written ≡ Some p = e ∙ sym (ap (λ w. option_or w (next_place (head_at sh s t) (slots_of sh t))) e) ∙ goes in
          let w = ((key_slot sh s ok own t (key_of row) lawful.0).there p mine).1 in
          body_of sh s f.kinds t p (writer_filled (slot_at sh s t p) own.session w)
      there p None e goes =
          let next = next_is_there sh s t shape ok lawful.1.0 p (sym (ap (λ w. option_or w (next_place (head_at sh s t) (slots_of sh t))) e) ∙ goes) in
          (next.0, next.1, next.2)

      go : (r : Result ℕ WriteFault) → insert_judged sh s own t (key_of row) ≡ r
          → seen (slot_at sh (each_changed (after_insert sh s own t row (insert_judged sh s own t (key_of row))) (names sh) s) u x) snapshot.stamp q ≡ seen (slot_at sh s u x) snapshot.stamp q
      go (Err fault) is = subst (λ r. seen (slot_at sh (each_changed (after_insert sh s own t row r) (names sh) s) u x) snapshot.stamp q ≡ seen (slot_at sh s u x) snapshot.stamp q) (sym is)
          (still (each_changed nothing (names sh) s) (all_stay (names sh) s) u x)
      go (Ok p) is =
          let place = (judged_ok
          (option_or (fault_of (newer_by (slot_at sh s t) (places_at sh s t (key_of row)) own)) (cond (is_some (found sh s own t (key_of row))) (Some Exists) None))
          (option_or own.written (next_place (head_at sh s t) (slots_of sh t))) (Full (head_at sh s t).inserts) p is).1 in
          let here = there p own.written refl place in
          subst (λ r. seen (slot_at sh (each_changed (after_insert sh s own t row r) (names sh) s) u x) snapshot.stamp q ≡ seen (slot_at sh s u x) snapshot.stamp q) (sym is)
          (written_seen (after_insert sh s own t row (Ok p)) t p own.session (change.Put row) here.0 here.1 here.2 (λ u b x. refl) (put_undone (slot_at sh s t p) row) ne u x)

  -- Another's update or delete leaves what the session sees of each slot.
  change_seen : (own : OwnKey) (t : ℕ) (key : ℤ) (choice : Row → Change) → IsThawed sh t key s → q ≢ own.session
      → ((p : ℕ) (old : Row) → (slot_at sh s t p).row ≡ Some old → IsUndone (slot_at sh s t p) (choice old))
      → (u x : ℕ) → seen (slot_at sh (each_changed (after_change sh s own t choice (change_judged sh s own t key)) (names sh) s) u x) snapshot.stamp q ≡ seen (slot_at sh s u x) snapshot.stamp q
  change_seen own t key choice thawed ne undone u x = go (change_judged sh s own t key) refl
    where
      go : (r : Result ℕ WriteFault) → change_judged sh s own t key ≡ r
          → seen (slot_at sh (each_changed (after_change sh s own t choice (change_judged sh s own t key)) (names sh) s) u x) snapshot.stamp q ≡ seen (slot_at sh s u x) snapshot.stamp q
      go (Err fault) is = subst (λ r. seen (slot_at sh (each_changed (after_change sh s own t choice r) (names sh) s) u x) snapshot.stamp q ≡ seen (slot_at sh s u x) snapshot.stamp q) (sym is)
          (still (each_changed nothing (names sh) s) (all_stay (names sh) s) u x)
      go (Ok p) is =
          let spot = change_goes sh s ok own t key p thawed is in
          let here = body_of sh s f.kinds t p spot.filled in
          subst (λ r. seen (slot_at sh (each_changed (after_change sh s own t choice r) (names sh) s) u x) snapshot.stamp q ≡ seen (slot_at sh s u x) snapshot.stamp q) (sym is)
          (written_seen (after_change sh s own t choice (Ok p)) t p own.session (choice (unwrap_or (slot_at sh s t p).row [])) here.0 here.1 here.2 (λ u b x. refl)
          (subst (λ (o : Option Row). IsUndone (slot_at sh s t p) (choice (unwrap_or o []))) (sym spot.row_is) (undone p spot.row spot.row_is)) ne u x)

  -- ---- ends and pruning

  -- Another's commit leaves what the session sees of each slot.
  commit_seen : (own : OwnTransaction) → q ≢ own.session → (t p : ℕ) → seen (slot_at sh (each_changed (after_commit sh s own) (names sh) s) t p) snapshot.stamp q ≡ seen (slot_at sh s t p) snapshot.stamp q
  commit_seen own ne = by_body (after_commit sh s own) (λ t b j. at t b j (is_some_write own.writes))
    where
      at : (t b j : ℕ) (y : Bool)
          → seen (slot_in ((cond y (committed_in own.session ((desk_at sh s).newest + 1) ((desk_at sh s).commits + 1)) (λ (body : Body). body)) (body_at sh s t b)) j) snapshot.stamp q
          ≡ seen (slot_in (body_at sh s t b) j) snapshot.stamp q
      at t b j true =
          ap (λ (x : Slot). seen x snapshot.stamp q) (slot_map (committed own.session ((desk_at sh s).newest + 1) ((desk_at sh s).commits + 1)) refl (body_at sh s t b).slots j)
          ∙ others_commit (slot_in (body_at sh s t b) j) own.session q snapshot.stamp ((desk_at sh s).newest + 1) ((desk_at sh s).commits + 1) ne (let le = low in omega (arith, le))
      at t b j false = refl

  -- Another's abort leaves what the session sees of each slot.
  abort_seen : (own : OwnTransaction) → q ≢ own.session → (t p : ℕ) → seen (slot_at sh (effect sh s (event.Abort own)) t p) snapshot.stamp q ≡ seen (slot_at sh s t p) snapshot.stamp q
  abort_seen own ne t p = go (body_cases sh s (changes_of sh s (event.Abort own)) t (block_of p) (f.kinds (BodyOf t (block_of p))))
    where
      go : ((body_at sh (effect sh s (event.Abort own)) t (block_of p) ≡ rolled_back_in own.session (body_at sh s t (block_of p))) ⊎ ((body_at sh (effect sh s (event.Abort own)) t (block_of p) ≡ body_from None) × (body_at sh s t (block_of p) ≡ body_from None)))
          → seen (slot_at sh (effect sh s (event.Abort own)) t p) snapshot.stamp q ≡ seen (slot_at sh s t p) snapshot.stamp q
      go (inl e) =
          ap (λ x. seen (slot_in x (slot_of p)) snapshot.stamp q) e
          ∙ ap (λ (x : Slot). seen x snapshot.stamp q) (rolled_slot own.session (desk_at sh s).newest (desk_at sh s).commits (body_at sh s t (block_of p)) (slot_of p) (ok.follows.1.slots t p))
          ∙ others_roll_back (slot_at sh s t p) own.session q snapshot.stamp ne (ok.follows.1.slots t p).lawful
      go (inr e) = ap (λ x. seen (slot_in x (slot_of p)) snapshot.stamp q) e.0 ∙ ap (λ x. seen (slot_in x (slot_of p)) snapshot.stamp q) (sym e.1)

  -- A lawful pruning leaves what the session sees of each slot.
  prune_seen : (t b oldest : ℕ) → IsLawful sh (event.Prune t b oldest) s → (u p : ℕ) → seen (slot_at sh (effect sh s (event.Prune t b oldest)) u p) snapshot.stamp q ≡ seen (slot_at sh s u p) snapshot.stamp q
  prune_seen t b oldest lawful u p = go (body_cases sh s (changes_of sh s (event.Prune t b oldest)) u (block_of p) (f.kinds (BodyOf u (block_of p))))
    where
      old : oldest ≤ snapshot.stamp
      old = live_above (desk_at sh s) (λ session other some is. (ok.follows.1.desked.bounds session other some is).0) oldest lawful.0 snapshot.stamp snapshot.number (inr (q, has.counted, has.is_open))

      go : ((body_at sh (effect sh s (event.Prune t b oldest)) u (block_of p) ≡ at_both t b (pruned_in oldest) u (block_of p) (body_at sh s u (block_of p))) ⊎ ((body_at sh (effect sh s (event.Prune t b oldest)) u (block_of p) ≡ body_from None) × (body_at sh s u (block_of p) ≡ body_from None)))
          → seen (slot_at sh (effect sh s (event.Prune t b oldest)) u p) snapshot.stamp q ≡ seen (slot_at sh s u p) snapshot.stamp q
      go (inl e) =
          ap (λ x. seen (slot_in x (slot_of p)) snapshot.stamp q) e
          ∙ at_one t b (pruned_in oldest) u (block_of p) (body_at sh s u (block_of p)) (slot_of p)
          (ap (λ (x : Slot). seen x snapshot.stamp q) (slot_map (pruned oldest) refl (body_at sh s u (block_of p)).slots (slot_of p))
          ∙ a_pruning (slot_at sh s u p) oldest q snapshot.stamp old (ok.follows.1.slots u p).lawful)
      go (inr e) = ap (λ x. seen (slot_in x (slot_of p)) snapshot.stamp q) e.0 ∙ ap (λ x. seen (slot_in x (slot_of p)) snapshot.stamp q) (sym e.1)

  -- A change of a body that leaves its slots leaves what the session sees of each.
  phase_seen : (t b : ℕ) (g : Body → Body) → ((x : Body) (j : ℕ) → slot_in (g x) j ≡ slot_in x j)
      → (u p : ℕ) → seen (slot_at sh (each_changed (record nothing { body = at_both t b g }) (names sh) s) u p) snapshot.stamp q ≡ seen (slot_at sh s u p) snapshot.stamp q
  phase_seen t b g same = by_body (record nothing { body = at_both t b g }) (λ u x j. at_one t b g u x (body_at sh s u x) j (ap (λ (y : Slot). seen y snapshot.stamp q) (same (body_at sh s u x) j)))

  -- A seal leaves what the session sees of each slot.
  seal_seen : (t b : ℕ) → (u p : ℕ) → seen (slot_at sh (effect sh s (event.Seal t b)) u p) snapshot.stamp q ≡ seen (slot_at sh s u p) snapshot.stamp q
  seal_seen t b u p = go (is_none (seal_fault (is_head sh s t b) (body_at sh s t b)))
    where
      go : (y : Bool) → seen (slot_at sh (each_changed (cond y (record nothing { body = at_both t b sealed }) nothing) (names sh) s) u p) snapshot.stamp q ≡ seen (slot_at sh s u p) snapshot.stamp q
      go true = phase_seen t b sealed (λ x j. refl) u p
      go false = still (each_changed nothing (names sh) s) (all_stay (names sh) s) u p

  -- Where nothing changes, the session sees the same of each slot.
  same_parts : (t p : ℕ) → seen (slot_at sh (each_changed nothing (names sh) s) t p) snapshot.stamp q ≡ seen (slot_at sh s t p) snapshot.stamp q
  same_parts = still (each_changed nothing (names sh) s) (all_stay (names sh) s)

  -- sessions whose names differ differ
  other : (r : ℕ) → (Some r ≢ Some q) → q ≢ r
  other r ne e = ne (ap Some (sym e))

  -- A lawful event of none or of another session leaves what the session sees of each slot.
  event_seen : (e : CoreEvent) → IsLawful sh e s → session_of e ≢ Some q → (t p : ℕ) → seen (slot_at sh (effect sh s e) t p) snapshot.stamp q ≡ seen (slot_at sh s t p) snapshot.stamp q
  event_seen (event.Begin r) lawful ne = by_body (changes_of sh s (event.Begin r)) (λ t b j. refl)
  event_seen (event.Get own t key) lawful ne = same_parts
  event_seen (event.Insert own t row) lawful ne = insert_seen own t row lawful (other own.session ne)
  event_seen (event.Update own t row) lawful ne =
      change_seen own t (key_of row) (λ old. change.Patch (differences 0 old row)) lawful.1.2 (other own.session ne)
      (λ p old is. patch_undone (slot_at sh s t p) old row is
      (fits_length (columns_in sh t) old (current_fits (columns_in sh t) (Some old) (slot_at sh s t p).entries
      (subst (λ (o : Option Row). VersionsFit (columns_in sh t) o (slot_at sh s t p).entries) is (versions_fit sh s ok t p)))
      ∙ sym (fits_length (columns_in sh t) row (fits_columns sh t row lawful.1.0 lawful.1.1))))
  event_seen (event.Delete own t key) lawful ne = change_seen own t key (λ old. change.Gone) lawful.1.1 (other own.session ne) (λ p old is. gone_undone (slot_at sh s t p))
  event_seen (event.Read own t b) lawful ne = same_parts
  event_seen (event.Range own t least greatest) lawful ne = same_parts
  event_seen (event.Commit own reads) lawful ne = judged (stale_in sh s own reads)
    where
      judged : (found : Option (Read × ℕ)) (t p : ℕ) → seen (slot_at sh (each_changed (after_judged sh s own found) (names sh) s) t p) snapshot.stamp q ≡ seen (slot_at sh s t p) snapshot.stamp q
      judged None = commit_seen own (other own.session ne)
      judged (Some stale) = same_parts
  event_seen (event.Abort own) lawful ne = abort_seen own (other own.session ne)
  event_seen event.Oldest lawful ne = same_parts
  event_seen (event.Observe t b) lawful ne = phase_seen t b (observed (is_head sh s t b)) (λ x j. refl)
  event_seen (event.Prune t b oldest) lawful ne = prune_seen t b oldest lawful
  event_seen (event.Look t b) lawful ne = same_parts
  event_seen (event.Move t moves) lawful ne = move_seen sh s ok q snapshot has t moves lawful
  event_seen (event.Seal t b) lawful ne = seal_seen t b
  event_seen (event.Image t b image) lawful ne = phase_seen t b imaged (λ x j. refl)
  event_seen (event.Thaw t b) lawful ne = phase_seen t b thawed (λ x j. refl)

-- an event of another or of upkeep changes nothing that an open session sees of any slot
pub seen_stays : SeenStays
seen_stays sh s e q snapshot shape ok lawful has ne t p = event_seen sh s shape ok q snapshot has e lawful ne t p
