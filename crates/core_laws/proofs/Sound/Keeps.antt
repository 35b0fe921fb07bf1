-- Each lawful event keeps what holds of heads and bodies.
use Rattle.std.proofs.Common.{◌≡◌, ◌⊎◌, ℕ, ◌+◌, ◌-◌, ℤ, Bool, true, false, cond, ◌&&◌, ◌==◌, List, [], Option, None, Some, is_none, is_some, length, unwrap_or, refl, sym, ap, ◌∙◌, subst}
use mathlib.Core.Logic.{inl, inr}
use Rattle.std.specs.Prelude.{Result, Ok, Err}
use Rattle.std.specs.Option.{option_or}
use Rattle.std.proofs.lemmas.List.{length-set}
use Rattle.std.proofs.lemmas.Bool.{cases_Bool}
use Rattle.block_layout.specs.Place.{block_of, slot_of}
use Rattle.block_spec.specs.declared.phase.SealFault.{SealFault}
use Rattle.block_spec.specs.Bodies.{Body, is_empty, committed_in, imaged, is_loose, observed, pruned_in, seal_fault, sealed, slot_in, thawed, with_slot}
use Rattle.block_spec.specs.declared.change.Change.{Change}
use Rattle.block_spec.specs.declared.change.Change.TheVariants as change
use Rattle.block_spec.specs.Slots.{Row, Slot, is_bare, row_after, written, writer_of}
use Rattle.core_laws.proofs.Events.Fitting.{fits_columns}
use Rattle.core_laws.proofs.Events.Owners.{key_slot}
use Rattle.event_spec.specs.declared.event.Event.TheVariants as event
use Rattle.event_spec.specs.declared.own.OwnKey.{OwnKey}
use Rattle.event_spec.specs.declared.own.OwnTransaction.{OwnTransaction}
use Rattle.event_spec.specs.declared.part.Head.{Head}
use Rattle.event_spec.specs.declared.reply.WriteFault.{WriteFault}
use Rattle.event_spec.specs.declared.reply.WriteFault.TheVariants.{Exists, Full}
use Rattle.event_spec.specs.Effects.{after_change, after_commit, after_insert, at_both, at_table, change_judged, changes_of, effect, found, insert_judged, is_some_write, numbered, taken_by, with_empty}
use Rattle.event_spec.specs.Judged.{differences, fault_of, newer_by, next_place}
use Rattle.event_spec.specs.Lawful.{HasBlock, HasTable, IsLawful, IsThawed}
use Rattle.event_spec.specs.Parts.{Changes, Parts, Shape, nothing, names, each_changed, blocks_of, body_at, desk_at, head_at, is_head, places_at, slot_at, slots_of}
use Rattle.event_spec.specs.Replay.{columns_in}
use Rattle.event_spec.specs.SlotSound.{VersionsFit}
use Rattle.event_spec.specs.Sound.{BodyHolds, IsShape, Sound}
use Rattle.isolation_spec.specs.Contents.{key_of}
use Rattle.core_laws.proofs.Slots.Kept.{writer_filled}
use Rattle.core_laws.proofs.Sound.Bodies.{true_false, writer_not_quiet}
use Rattle.core_laws.proofs.Sound.Calm.{at_calm, change_calm, commit_calm, image_calm, observe_calm, seal_calm, thaw_calm}
use Rattle.core_laws.proofs.Sound.Fewer.{emptied_head, pruned_bare, pruned_holds, rolled_bare, rolled_cooling, rolled_holds, rolled_phase, slots_lawful}
use Rattle.core_laws.proofs.Sound.Held.{SlotFits}
use Rattle.core_laws.proofs.Sound.Inserts.{each_head, own_body, own_no_head}
use Rattle.core_laws.proofs.Sound.Kept.{HeadAfter, IsCalm, NoHeadAfter, calm_head, calm_keeps, calm_same, keeps_shape}
use Rattle.core_laws.proofs.Sound.Written.{IsSpot, change_goes, filled_there, gone_fits, judged_ok, patch_fits, put_fits}
use Rattle.core_laws.specs.Sound.Shaped.{Shaped}
use Rattle.core_laws.proofs.Events.Fitting.{versions_fit}
use Rattle.txn_desk.specs.Desk.{DeskState}

-- A slot that was written is not bare.
written_filled : (q : ℕ) (new : Change) (slot : Slot) → is_bare (written q new slot) ≡ false
written_filled q new slot = go (is_none (row_after slot.row new))
  where
    go : (b : Bool) → (b && false) ≡ false
    go true = refl
    go false = refl

-- a sound state has heads and bodies as they should be
pub shaped : (sh : Shape) (s : Parts) → Sound sh s → Shaped sh s
shaped sh s ok = record { count = ok.count; kinds = ok.kinds; heads = ok.heads; bodies = ok.bodies; no_head = ok.no_head; sessions = ok.sessions }

module _ (sh : Shape) (s : Parts) (ok : Shaped sh s) where
  -- no part changes, or the desk alone
  pub desk_keeps : (g : DeskState → DeskState) → ((desk : DeskState) → length (g desk).open_snapshots ≡ length desk.open_snapshots)
      → Shaped sh (each_changed (record nothing { desk = g }) (names sh) s)
  desk_keeps g same = calm_keeps sh s ok (record nothing { desk = g }) (λ t h. refl) (λ t b has. calm_same sh s ok (record nothing { desk = g }) t b has) same

  -- an event that changes nothing keeps what holds of heads and bodies
  pub nothing_keeps : Shaped sh (each_changed nothing (names sh) s)
  nothing_keeps = desk_keeps (λ desk. desk) (λ desk. refl)

  -- one body changes
  pub one_keeps : (c : Changes) (t b : ℕ) (g : Body → Body)
      → ((u : ℕ) (h : Head) → c.head u h ≡ h) → ((u x : ℕ) (y : Body) → c.body u x y ≡ at_both t b g u x y)
      → ((desk : DeskState) → length (c.desk desk).open_snapshots ≡ length desk.open_snapshots)
      → IsCalm sh s ok c t b (g (body_at sh s t b))
      → Shaped sh (each_changed c (names sh) s)
  one_keeps c t b g heads bodies desk calm = calm_keeps sh s ok c heads
      (λ u x has. subst (IsCalm sh s ok c u x) (sym (bodies u x (body_at sh s u x))) (at_calm sh s ok c t b g calm u x has)) desk

-- ---- writes

module _ (sh : Shape) (s : Parts) (shape : IsShape sh) (ok : Sound sh s) where
  -- The sound core in front of the event has heads and bodies as they should be.
  abbrev k : Shaped sh s
  k = shaped sh s ok

  -- a write to a slot that is not bare
  write_keeps : (c : Changes) (t p q : ℕ) (new : Change) → ((u : ℕ) (h : Head) → c.head u h ≡ h)
      → ((u x : ℕ) (y : Body) → c.body u x y ≡ at_both t (block_of p) (with_slot (slot_of p) (written q new)) u x y)
      → ((desk : DeskState) → length (c.desk desk).open_snapshots ≡ length desk.open_snapshots)
      → IsSpot sh s t p → is_bare (slot_at sh s t p) ≡ false → SlotFits sh t (written q new (slot_at sh s t p))
      → Shaped sh (each_changed c (names sh) s)
  write_keeps c t p q new heads bodies desk spot filled fit =
      one_keeps sh s k c t (block_of p) (with_slot (slot_of p) (written q new)) heads bodies desk
      (change_calm sh s k c t (block_of p) spot.has (slot_of p) (written q new) spot.inside spot.loose filled (written_filled q new (slot_at sh s t p)) fit)

  -- where the session's entries stand there is a spot
  pub own_spot : (t p q : ℕ) → writer_of (slot_at sh s t p).entries ≡ Some q → IsSpot sh s t p
  own_spot t p q w =
      let filled = writer_filled (slot_at sh s t p) q w in
      let there = filled_there sh s ok t p filled in
      record { has = there.0; inside = there.1; loose = loose there.0 (cases_Bool (is_loose (body_at sh s t (block_of p)).phase)) }
    where
      loose : HasBlock sh t (block_of p) → (is_loose (body_at sh s t (block_of p)).phase ≡ true) ⊎ (is_loose (body_at sh s t (block_of p)).phase ≡ false)
          → is_loose (body_at sh s t (block_of p)).phase ≡ true
      loose has (inl l) = l
      loose has (inr l) = absurd (true_false (sym ((ok.bodies t (block_of p) has).quiet l) ∙ writer_not_quiet (body_at sh s t (block_of p)) (slot_of p) q w))

  -- an insert keeps what holds of heads and bodies
  pub insert_keeps : (own : OwnKey) (t : ℕ) (row : Row) → IsLawful sh (event.Insert own t row) s → Shaped sh (effect sh s (event.Insert own t row))
  insert_keeps own t row lawful = go (insert_judged sh s own t (key_of row)) refl
    where
      fit : (p : ℕ) → SlotFits sh t (written own.session (change.Put row) (slot_at sh s t p))
      fit p = put_fits (columns_in sh t) own.session row (slot_at sh s t p).row (slot_at sh s t p).entries (fits_columns sh t row lawful.1.0 lawful.1.1) (versions_fit sh s ok t p)

      place_is : (p : ℕ) → insert_judged sh s own t (key_of row) ≡ Ok p → option_or own.written (next_place (head_at sh s t) (slots_of sh t)) ≡ Some p
      place_is p is = (judged_ok
          (option_or (fault_of (newer_by (slot_at sh s t) (places_at sh s t (key_of row)) own)) (cond (is_some (found sh s own t (key_of row))) (Some Exists) None))
          (option_or own.written (next_place (head_at sh s t) (slots_of sh t))) (Full (head_at sh s t).inserts) p is).1

      accepted : (p : ℕ) → (w : Option ℕ) → own.written ≡ w → option_or own.written (next_place (head_at sh s t) (slots_of sh t)) ≡ Some p
          → Shaped sh (each_changed (after_insert sh s own t row (Ok p)) (names sh) s)
      accepted p (Some x) e goes =
          let mine : own.written ≡ Some p = e ∙ sym (ap (λ w. option_or w (next_place (head_at sh s t) (slots_of sh t))) e) ∙ goes in
          let w = ((key_slot sh s ok own t (key_of row) lawful.0).there p mine).1 in
          write_keeps (after_insert sh s own t row (Ok p)) t p own.session (change.Put row)
          (λ u h. ap (λ w. at_table t (cond (is_some w) (λ (head : Head). head) (taken_by (slots_of sh t))) u h) e ∙ same (u == t) h)
          (λ u x y. refl) (λ desk. refl) (own_spot t p own.session w) (writer_filled (slot_at sh s t p) own.session w) (fit p)
        where
          same : (y : Bool) (h : Head) → cond y h h ≡ h
          same true h = refl
          same false h = refl
      accepted p None e goes =
          keeps_shape sh s k c (each_head sh s k shape t lawful.1.0 p c g next heads (λ u b x. refl) refl (fit p))
          (own_body sh s k shape t lawful.1.0 p c g next heads (λ u b x. refl) refl (fit p))
          (own_no_head sh s k shape t lawful.1.0 p c g next heads (λ u b x. refl) refl (fit p))
          (λ desk. refl)
        where
          c : Changes
          c = after_insert sh s own t row (Ok p)

          g : Slot → Slot
          g = written own.session (change.Put row)

          next : next_place (head_at sh s t) (slots_of sh t) ≡ Some p
          next = sym (ap (λ w. option_or w (next_place (head_at sh s t) (slots_of sh t))) e) ∙ goes

          heads : (u : ℕ) (h : Head) → (after_insert sh s own t row (Ok p)).head u h ≡ cond (u == t) (taken_by (slots_of sh t) h) h
          heads u h = ap (λ w. at_table t (cond (is_some w) (λ (head : Head). head) (taken_by (slots_of sh t))) u h) e

      go : (r : Result ℕ WriteFault) → insert_judged sh s own t (key_of row) ≡ r → Shaped sh (each_changed (after_insert sh s own t row (insert_judged sh s own t (key_of row))) (names sh) s)
      go (Err fault) is = subst (λ r. Shaped sh (each_changed (after_insert sh s own t row r) (names sh) s)) (sym is) (nothing_keeps sh s k)
      go (Ok p) is = subst (λ r. Shaped sh (each_changed (after_insert sh s own t row r) (names sh) s)) (sym is) (accepted p own.written refl (place_is p is))

  -- an update or a delete
  pub change_keeps : (own : OwnKey) (t : ℕ) (key : ℤ) (choice : Row → Change) → IsThawed sh t key s
      → ((p : ℕ) (old : Row) → (slot_at sh s t p).row ≡ Some old → SlotFits sh t (written own.session (choice old) (slot_at sh s t p)))
      → Shaped sh (each_changed (after_change sh s own t choice (change_judged sh s own t key)) (names sh) s)
  change_keeps own t key choice thawed fit = go (change_judged sh s own t key) refl
    where
      go : (r : Result ℕ WriteFault) → change_judged sh s own t key ≡ r → Shaped sh (each_changed (after_change sh s own t choice (change_judged sh s own t key)) (names sh) s)
      go (Err fault) is = subst (λ r. Shaped sh (each_changed (after_change sh s own t choice r) (names sh) s)) (sym is) (nothing_keeps sh s k)
      go (Ok p) is =
          let where' = change_goes sh s ok own t key p thawed is in
          subst (λ r. Shaped sh (each_changed (after_change sh s own t choice r) (names sh) s)) (sym is)
          (write_keeps (after_change sh s own t choice (Ok p)) t p own.session (choice (unwrap_or (slot_at sh s t p).row []))
          (λ u h. refl) (λ u x y. refl) (λ desk. refl) where'.spot where'.filled
          (subst (λ (o : Option Row). SlotFits sh t (written own.session (choice (unwrap_or o [])) (slot_at sh s t p))) (sym where'.row_is) (fit p where'.row where'.row_is)))

  -- an update keeps what holds of heads and bodies
  pub update_keeps : (own : OwnKey) (t : ℕ) (row : Row) → IsLawful sh (event.Update own t row) s → Shaped sh (effect sh s (event.Update own t row))
  update_keeps own t row lawful = change_keeps own t (key_of row) (λ old. change.Patch (differences 0 old row)) lawful.1.2 (λ p old is. fit p old is)
    where
      fit : (p : ℕ) (old : Row) → (slot_at sh s t p).row ≡ Some old → SlotFits sh t (written own.session (change.Patch (differences 0 old row)) (slot_at sh s t p))
      fit p old is =
          subst (λ (o : Option Row). SlotFits sh t (written own.session (change.Patch (differences 0 old row)) (record { row = o; entries = (slot_at sh s t p).entries }))) (sym is)
          (patch_fits (columns_in sh t) own.session old row (slot_at sh s t p).entries (fits_columns sh t row lawful.1.0 lawful.1.1)
          (subst (λ (o : Option Row). VersionsFit (columns_in sh t) o (slot_at sh s t p).entries) is (versions_fit sh s ok t p)))

  -- a delete keeps what holds of heads and bodies
  pub delete_keeps : (own : OwnKey) (t : ℕ) (key : ℤ) → IsLawful sh (event.Delete own t key) s → Shaped sh (effect sh s (event.Delete own t key))
  delete_keeps own t key lawful = change_keeps own t key (λ old. change.Gone) lawful.1.1
      (λ p old is. gone_fits (columns_in sh t) own.session (slot_at sh s t p).row (slot_at sh s t p).entries (versions_fit sh s ok t p))

  -- ---- ends

  -- a commit keeps what holds of heads and bodies
  pub commit_keeps : (own : OwnTransaction) → Shaped sh (each_changed (after_commit sh s own) (names sh) s)
  commit_keeps own = calm_keeps sh s k (after_commit sh s own) (λ t h. refl) (λ t b has. at t b has (is_some_write own.writes))
      (λ desk. length-set (cond (is_some_write own.writes) (numbered own.writes desk) desk).open_snapshots (own.session - 1) None ∙ same desk (is_some_write own.writes))
    where
      same : (desk : DeskState) (y : Bool) → length (cond y (numbered own.writes desk) desk).open_snapshots ≡ length desk.open_snapshots
      same desk true = refl
      same desk false = refl

      at : (t b : ℕ) → HasBlock sh t b → (y : Bool)
          → IsCalm sh s (shaped sh s ok) (after_commit sh s own) t b ((cond y (committed_in own.session ((desk_at sh s).newest + 1) ((desk_at sh s).commits + 1)) (λ (body : Body). body)) (body_at sh s t b))
      at t b has true = commit_calm sh s (shaped sh s ok) (after_commit sh s own) t b has own.session ((desk_at sh s).newest + 1) ((desk_at sh s).commits + 1)
      at t b has false = calm_same sh s (shaped sh s ok) (after_commit sh s own) t b has

  -- an abort keeps what holds of heads and bodies
  pub abort_keeps : (own : OwnTransaction) → Shaped sh (effect sh s (event.Abort own))
  abort_keeps own = keeps_shape sh s k c
      (λ t has. emptied_head sh s k c t has (λ j is. rolled_bare own.session (body_at sh s t (head_at sh s t).block) j is)
      (ap is_loose (rolled_phase own.session (body_at sh s t (head_at sh s t).block)) ∙ (ok.heads t has).loose))
      (λ t b has. rolled_holds sh t own.session (body_at sh s t b) (ok.bodies t b has) (λ j less. (slots_lawful sh s shape ok t b has j less).lawful))
      (λ t b has. record {
        cooling = λ is. (ok.no_head t b has).cooling (rolled_cooling own.session (body_at sh s t b) is);
        phase = λ is. (ok.no_head t b has).phase (sym (ap is_loose (rolled_phase own.session (body_at sh s t b))) ∙ is);
      })
      (λ desk. length-set desk.open_snapshots (own.session - 1) None)
    where
      c : Changes
      c = changes_of sh s (event.Abort own)

  -- ---- pruning

  -- a pruning keeps what holds of heads and bodies
  pub prune_keeps : (t b oldest : ℕ) → Shaped sh (effect sh s (event.Prune t b oldest))
  prune_keeps t b oldest = keeps_shape sh s k (changes_of sh s (event.Prune t b oldest)) heads bodies no_head (λ desk. refl)
    where
      each : (P : Body → Type 0) (u x : ℕ) (y : Body) → P (pruned_in oldest y) → P y → P (at_both t b (pruned_in oldest) u x y)
      each P u x y a z = go ((u == t) && (x == b))
        where
          go : (e : Bool) → P (cond e (pruned_in oldest y) y)
          go true = a
          go false = z

      bodies : (u x : ℕ) → HasBlock sh u x → BodyHolds sh u (at_both t b (pruned_in oldest) u x (body_at sh s u x))
      bodies u x has = each (BodyHolds sh u) u x (body_at sh s u x)
          (pruned_holds sh u oldest (body_at sh s u x) (ok.bodies u x has) (λ j less. (slots_lawful sh s shape ok u x has j less).lawful)) (ok.bodies u x has)

      same_block : (u : ℕ) (h : Head) → ((changes_of sh s (event.Prune t b oldest)).head u h).block ≡ h.block
      same_block u h = go (u == t)
        where
          go : (e : Bool) → (cond e (with_empty (blocks_of sh u) (λ x. is_empty (at_both t b (pruned_in oldest) u x (body_at sh s u x))) h) h).block ≡ h.block
          go true = refl
          go false = refl

      no_head : (u x : ℕ) → HasBlock sh u x → NoHeadAfter sh s (shaped sh s ok) (changes_of sh s (event.Prune t b oldest)) u x
      no_head u x has = record {
        cooling = λ is e. (ok.no_head u x has).cooling (each (λ y. y.cooling ≡ true → (body_at sh s u x).cooling ≡ true) u x (body_at sh s u x) (λ z. z) (λ z. z) is) (e ∙ same_block u (head_at sh s u));
        phase = λ is e. (ok.no_head u x has).phase (each (λ y. is_loose y.phase ≡ false → is_loose (body_at sh s u x).phase ≡ false) u x (body_at sh s u x) (λ z. z) (λ z. z) is) (e ∙ same_block u (head_at sh s u));
      }

      heads : (u : ℕ) → HasTable sh u → HeadAfter sh s (shaped sh s ok) (changes_of sh s (event.Prune t b oldest)) u ((changes_of sh s (event.Prune t b oldest)).head u (head_at sh s u))
      heads u has = go (u == t) refl
        where
          go : (e : Bool) → (u == t) ≡ e
              → HeadAfter sh s (shaped sh s ok) (changes_of sh s (event.Prune t b oldest)) u (cond (u == t) (with_empty (blocks_of sh u) (λ x. is_empty (at_both t b (pruned_in oldest) u x (body_at sh s u x))) (head_at sh s u)) (head_at sh s u))
          go true is = subst (λ e. HeadAfter sh s (shaped sh s ok) (changes_of sh s (event.Prune t b oldest)) u (cond e (with_empty (blocks_of sh u) (λ x. is_empty (at_both t b (pruned_in oldest) u x (body_at sh s u x))) (head_at sh s u)) (head_at sh s u))) (sym is)
              (emptied_head sh s (shaped sh s ok) (changes_of sh s (event.Prune t b oldest)) u has
              (λ j z. each (λ y. is_bare (slot_in y j) ≡ true) u (head_at sh s u).block (body_at sh s u (head_at sh s u).block) (pruned_bare oldest (body_at sh s u (head_at sh s u).block) j z) z)
              (each (λ y. is_loose y.phase ≡ true) u (head_at sh s u).block (body_at sh s u (head_at sh s u).block) (ok.heads u has).loose (ok.heads u has).loose))
          go false is = subst (λ e. HeadAfter sh s (shaped sh s ok) (changes_of sh s (event.Prune t b oldest)) u (cond e (with_empty (blocks_of sh u) (λ x. is_empty (at_both t b (pruned_in oldest) u x (body_at sh s u x))) (head_at sh s u)) (head_at sh s u))) (sym is)
              (calm_head sh s (shaped sh s ok) (changes_of sh s (event.Prune t b oldest)) u has (λ x hx.
              subst (λ e. IsCalm sh s (shaped sh s ok) (changes_of sh s (event.Prune t b oldest)) u x (cond (e && (x == b)) (pruned_in oldest (body_at sh s u x)) (body_at sh s u x))) (sym is)
              (calm_same sh s (shaped sh s ok) (changes_of sh s (event.Prune t b oldest)) u x hx)))

  -- ---- phases

  -- an observe keeps what holds of heads and bodies
  pub observe_keeps : (t b : ℕ) → HasBlock sh t b → Shaped sh (effect sh s (event.Observe t b))
  observe_keeps t b has = one_keeps sh s k (changes_of sh s (event.Observe t b)) t b (observed (is_head sh s t b)) (λ u h. refl) (λ u x y. refl) (λ desk. refl)
      (observe_calm sh s k (changes_of sh s (event.Observe t b)) t b has)

  -- a seal keeps what holds of heads and bodies
  pub seal_keeps : (t b : ℕ) → HasBlock sh t b → Shaped sh (effect sh s (event.Seal t b))
  seal_keeps t b has = go (seal_fault (is_head sh s t b) (body_at sh s t b)) refl
    where
      go : (o : Option SealFault) → seal_fault (is_head sh s t b) (body_at sh s t b) ≡ o
          → Shaped sh (each_changed (cond (is_none (seal_fault (is_head sh s t b) (body_at sh s t b))) (record nothing { body = at_both t b sealed }) nothing) (names sh) s)
      go (Some fault) is = subst (λ o. Shaped sh (each_changed (cond (is_none o) (record nothing { body = at_both t b sealed }) nothing) (names sh) s)) (sym is) (nothing_keeps sh s (shaped sh s ok))
      go None is = subst (λ o. Shaped sh (each_changed (cond (is_none o) (record nothing { body = at_both t b sealed }) nothing) (names sh) s)) (sym is)
          (one_keeps sh s (shaped sh s ok) (record nothing { body = at_both t b sealed }) t b sealed (λ u h. refl) (λ u x y. refl) (λ desk. refl)
          (seal_calm sh s (shaped sh s ok) (record nothing { body = at_both t b sealed }) t b has is))

  -- an image keeps what holds of heads and bodies
  pub image_keeps : (t b : ℕ) (image : Option (List Row)) → HasBlock sh t b → Shaped sh (effect sh s (event.Image t b image))
  image_keeps t b image has = one_keeps sh s k (changes_of sh s (event.Image t b image)) t b imaged (λ u h. refl) (λ u x y. refl) (λ desk. refl)
      (image_calm sh s k (changes_of sh s (event.Image t b image)) t b has)

  -- a thaw keeps what holds of heads and bodies
  pub thaw_keeps : (t b : ℕ) → HasBlock sh t b → Shaped sh (effect sh s (event.Thaw t b))
  thaw_keeps t b has = one_keeps sh s k (changes_of sh s (event.Thaw t b)) t b thawed (λ u h. refl) (λ u x y. refl) (λ desk. refl)
      (thaw_calm sh s k (changes_of sh s (event.Thaw t b)) t b has)
