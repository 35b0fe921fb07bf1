-- The body of a slot that a write goes to takes the change.
use Rattle.std.proofs.Common.{◌≡◌, ℕ, ℤ, Bool, true, false, cond, ◌&&◌, List, [], ◌∷◌, Option, None, Some, is_none, is_some, refl, sym, ap, ◌∙◌, subst}
use mathlib.Core.Logic.{inl, inr}
use Rattle.std.specs.Prelude.{IfSome, Ok, option_and_then}
use Rattle.cell_model.specs.Rows.{Fits}
use Rattle.std.specs.List.{flat_map}
use Rattle.std.specs.Option.{option_or}
use Rattle.block_body.specs.Bodies.{wants_row}
use Rattle.block_layout.specs.Place.{block_of, slot_of}
use Rattle.block_spec.specs.Bodies.{Body, with_slot}
use Rattle.block_spec.specs.declared.change.Before.{Before}
use Rattle.block_spec.specs.declared.change.Change.{Change}
use Rattle.block_spec.specs.declared.change.Change.TheVariants as change
use Rattle.block_spec.specs.Fitting.{ChangeFits, columns_of}
use Rattle.block_spec.specs.Slots.{Row, Slot, has_none, is_bare, written}
use Rattle.core_laws.proofs.Events.Fitting.{current_fits, fits_columns, fits_length, versions_fit}
use Rattle.core_laws.proofs.Events.Heads.{next_is_there}
use Rattle.core_laws.proofs.Events.Owners.{key_slot}
use Rattle.event_spec.specs.declared.event.Event.TheVariants as event
use Rattle.event_spec.specs.declared.own.OwnKey.{OwnKey}
use Rattle.event_spec.specs.declared.reply.WriteFault.{WriteFault}
use Rattle.event_spec.specs.declared.reply.WriteFault.TheVariants.{Exists, Full, Missing}
use Rattle.event_spec.specs.Effects.{at_both, at_table, change_judged, found, insert_judged, taken_by}
use Rattle.event_spec.specs.Judged.{current_place, differences, fault_of, first_at, found_at, freezing_of, newer_by, next_place}
use Rattle.event_spec.specs.Lawful.{Among, HasBlock, IsLawful, IsThawed}
use Rattle.event_spec.specs.Parts.{Parts, Shape, body_at, head_at, nothing, places_at, slot_at, slots_of}
use Rattle.event_spec.specs.Replay.{columns_in}
use Rattle.event_spec.specs.Sound.{IsShape, Sound}
use Rattle.core_laws.proofs.Frames.Fitness.{current_among}
use Rattle.core_laws.proofs.Frames.Looks.{true_false}
use Rattle.isolation_spec.specs.Contents.{key_of}
use Rattle.core_events.proofs.PatchFits.{differences_fit, fits_unnamed}
use Rattle.core_laws.proofs.Slots.Views.{seen_writer}
use Rattle.core_parts.proofs.Telling.{a_body, body_is}
use Rattle.core_parts.specs.Hands.{Has, Held}
use Rattle.event_spec.specs.Parts.{BodyOf, body_from}
use Rattle.hall_rule.specs.Hands.{Agrees}
use Rattle.core_events.specs.Writes.{TakesAt, TakesChange}
use Rattle.core_laws.proofs.Sound.Inserts.{spot}
use Rattle.core_laws.proofs.Sound.Keeps.{own_spot, shaped}
use Rattle.core_laws.proofs.Sound.Written.{ChangesRow, change_goes, judged_ok, put_fits}
use Rattle.undo_chain.specs.Conflict.{conflict_by, largest, numbers_above, other_writer}
use Rattle.undo_chain.specs.declared.chain.Newer.{Newer}
use Rattle.undo_chain.specs.declared.chain.Newer.TheVariants as newer
use Rattle.undo_chain.specs.declared.undo.Undo.{Undo}

-- ---- who is in the way

-- Where neither of two faults is there, each of them is missing.
nothing_first : (a b : Option WriteFault) → option_or a b ≡ None → (a ≡ None) × (b ≡ None)
nothing_first None b n = (refl, n)
nothing_first (Some x) b n = cc

-- Where what a write meets is no fault, it meets nothing.
no_fault : (n : Newer) → fault_of n ≡ None → n ≡ newer.Nothing
no_fault newer.Nothing e = refl
no_fault (newer.Session w) e = cc
no_fault (newer.Number k) e = cc

-- Where a write meets nothing, there is no other writer.
no_writer : (a b : Option ℕ) → conflict_by a b ≡ newer.Nothing → a ≡ None
no_writer None b e = refl
no_writer (Some w) b e = cc

-- Where some places have no first answer, each of them has none.
none_at : {X : Type 0} (answer : ℕ → Option X) (places : List ℕ) (p : ℕ) → first_at answer places ≡ None → Among p places → answer p ≡ None
none_at answer [] p none a = absurd a
none_at {X} answer (q ∷ places) p none (inl e) = ap answer e ∙ left (answer q) none
  where
    left : (o : Option X) → option_or o (first_at answer places) ≡ None → o ≡ None
    left None n = refl
    left (Some x) n = cc
none_at {X} answer (q ∷ places) p none (inr a) = none_at answer places p (right (answer q) none) a
  where
    right : (o : Option X) → option_or o (first_at answer places) ≡ None → first_at answer places ≡ None
    right None n = n
    right (Some x) n = cc

-- where a write meets nothing, no other session writes at a candidate
pub none_writes : (slot : ℕ → Slot) (places : List ℕ) (own : OwnKey) (p : ℕ) → fault_of (newer_by slot places own) ≡ None → Among p places → other_writer (slot p).entries own.session ≡ None
none_writes slot places own p none a =
    none_at (λ place. other_writer (slot place).entries own.session) places p
    (no_writer (first_at (λ place. other_writer (slot place).entries own.session) places) (largest (flat_map (λ place. numbers_above (slot place).entries own.snapshot.stamp) places)) (no_fault (newer_by slot places own) none)) a

-- A bare slot has no row and no entry.
bare_both : (slot : Slot) → is_bare slot ≡ true → (is_some slot.row ≡ false) × (slot.entries ≡ [])
bare_both slot e = go slot.row slot.entries e
  where
    go : (row : Option Row) (es : List (Undo Before)) → (is_none row && has_none es) ≡ true → (is_some row ≡ false) × (es ≡ [])
    go None [] x = (refl, refl)
    go None (u ∷ es) x = absurd (true_false (sym x))
    go (Some r) es x = absurd (true_false (sym x))

-- ---- an insert

module _ (sh : Shape) (s : Parts) (shape : IsShape sh) (ok : Sound sh s) (own : OwnKey) (t : ℕ) (row : Row) (lawful : IsLawful sh (event.Insert own t row) s) (p : ℕ)
    (goes : insert_judged sh s own t (key_of row) ≡ Ok p) where
  -- nothing is against the insert, and this is the place that it takes
  abbrev pub fine : (option_or (fault_of (newer_by (slot_at sh s t) (places_at sh s t (key_of row)) own)) (cond (is_some (found sh s own t (key_of row))) (Some Exists) None) ≡ None)
      × (option_or own.written (next_place (head_at sh s t) (slots_of sh t)) ≡ Some p)
  fine = judged_ok
      (option_or (fault_of (newer_by (slot_at sh s t) (places_at sh s t (key_of row)) own)) (cond (is_some (found sh s own t (key_of row))) (Some Exists) None))
      (option_or own.written (next_place (head_at sh s t) (slots_of sh t))) (Full (head_at sh s t).inserts) p goes

  -- Nothing that a write meets is against the insert, and no row that it finds.
  abbrev apart : (fault_of (newer_by (slot_at sh s t) (places_at sh s t (key_of row)) own) ≡ None) × (cond (is_some (found sh s own t (key_of row))) (Some Exists) None ≡ None)
  apart = nothing_first (fault_of (newer_by (slot_at sh s t) (places_at sh s t (key_of row)) own)) (cond (is_some (found sh s own t (key_of row))) (Some Exists) None) fine.0

  -- The session of the insert finds no row of its key.
  not_found : is_some (found sh s own t (key_of row)) ≡ false
  not_found = go (is_some (found sh s own t (key_of row))) apart.1
    where
      go : (b : Bool) → cond b (Some Exists) None ≡ None → b ≡ false
      go true e = cc
      go false e = refl

  -- A slot with the row put by the session.
  abbrev new : Slot → Slot
  new = written own.session (change.Put row)

  -- The row that is put fits the columns of the body at its place.
  fits_here : (has : HasBlock sh t (block_of p)) → ChangeFits (body_at sh s t (block_of p)).columns (change.Put row)
  fits_here has = subst (λ columns. ChangeFits columns (change.Put row)) (sym (ok.bodies t (block_of p) has).columns)
      (fits_unnamed (columns_in sh t) row (fits_columns sh t row lawful.1.0 lawful.1.1))

  -- at the slot of the own write
  own_takes : own.written ≡ Some p → HasBlock sh t (block_of p) × TakesChange (body_at sh s t (block_of p)) (slot_of p) own.session (change.Put row)
  own_takes is =
      let there = (key_slot sh s ok own t (key_of row) lawful.0).there p is in
      let at = own_spot sh s shape ok t p own.session there.1 in (
        at.has,
        record {
          loose = at.loose;
          slot = at.inside;
          free = none_writes (slot_at sh s t) (places_at sh s t (key_of row)) own p apart.0 there.0;
          row = ap is_some (sym (seen_writer (slot_at sh s t p).row (slot_at sh s t p).entries own.snapshot.stamp own.session (ok.follows.1.slots t p).lawful there.1))
              ∙ ap is_some (sym (ap (found_at (slot_at sh s t) (places_at sh s t (key_of row)) own) is)) ∙ not_found;
          fits = fits_here at.has;
        },
      )

  -- at the head's next slot
  next_takes : next_place (head_at sh s t) (slots_of sh t) ≡ Some p → HasBlock sh t (block_of p) × TakesChange (body_at sh s t (block_of p)) (slot_of p) own.session (change.Put row)
  next_takes is =
      let free = next_is_there sh s t shape ok lawful.1.0 p is in
      let bare = bare_both (slot_at sh s t p) free.3 in
      let at = spot sh s (shaped sh s ok) shape t lawful.1.0 p
      (record nothing { head = at_table t (taken_by (slots_of sh t)); body = at_both t (block_of p) (with_slot (slot_of p) new) }) new is (λ u h. refl) (λ u b x. refl) refl
      (put_fits (columns_in sh t) own.session row (slot_at sh s t p).row (slot_at sh s t p).entries (fits_columns sh t row lawful.1.0 lawful.1.1) (versions_fit sh s ok t p)) in (
        at.there,
        record {
          loose = at.loose;
          slot = at.inside;
          free = ap (λ (es : List (Undo Before)). other_writer es own.session) bare.1;
          row = bare.0;
          fits = fits_here at.there;
        },
      )

  -- the body at the place of an insert takes its row
  pub insert_takes : HasBlock sh t (block_of p) × TakesChange (body_at sh s t (block_of p)) (slot_of p) own.session (change.Put row)
  insert_takes = go own.written refl fine.1
    where
      some_is : (x : ℕ) → Some x ≡ Some p → x ≡ p
      some_is x e = cc

      go : (w : Option ℕ) → own.written ≡ w → option_or own.written (next_place (head_at sh s t) (slots_of sh t)) ≡ Some p
          → HasBlock sh t (block_of p) × TakesChange (body_at sh s t (block_of p)) (slot_of p) own.session (change.Put row)
      go None is at = next_takes (ap (λ w. option_or w (next_place (head_at sh s t) (slots_of sh t))) (sym is) ∙ at)
      go (Some x) is at = own_takes (is ∙ ap (λ w. option_or w (next_place (head_at sh s t) (slots_of sh t))) (sym is) ∙ at)

-- ---- an update or a delete

module _ (sh : Shape) (s : Parts) (ok : Sound sh s) (own : OwnKey) (t : ℕ) (key : ℤ) (thawed : IsThawed sh t key s) (p : ℕ) (goes : change_judged sh s own t key ≡ Ok p) where
  -- What may be against the change besides a conflict: no row is found, or its block freezes.
  abbrev rest : Option WriteFault
  rest = cond (is_none (found sh s own t key)) (Some Missing)
      (option_and_then (λ place. freezing_of (block_of place) (body_at sh s t (block_of place)).phase) (current_place (slot_at sh s t) (places_at sh s t key)))

  -- the change goes to a slot with a row in a loose body
  pub changes : ChangesRow sh s ok t p
  changes = change_goes sh s ok own t key p thawed goes

  -- the body at the place of an update or delete takes the change
  pub change_takes : (new : Change) → wants_row new ≡ true → ChangeFits (body_at sh s t (block_of p)).columns new → TakesChange (body_at sh s t (block_of p)) (slot_of p) own.session new
  change_takes new wants fits =
      let fine = judged_ok (option_or (fault_of (newer_by (slot_at sh s t) (places_at sh s t key) own)) rest) (current_place (slot_at sh s t) (places_at sh s t key)) Missing p goes in
      let apart = nothing_first (fault_of (newer_by (slot_at sh s t) (places_at sh s t key) own)) rest fine.0 in record {
        loose = changes.spot.loose;
        slot = changes.spot.inside;
        free = none_writes (slot_at sh s t) (places_at sh s t key) own p apart.0 (current_among (slot_at sh s t) (places_at sh s t key) p fine.1);
        row = ap is_some changes.row_is ∙ sym wants;
        fits = fits;
      }

  -- the patch of an update fits
  pub patch_fits : (row : Row) → Fits (columns_in sh t) row → ChangeFits (body_at sh s t (block_of p)).columns (change.Patch (differences 0 changes.row row))
  patch_fits row fit =
      let old : Fits (columns_in sh t) changes.row = subst (λ o. IfSome o (Fits (columns_in sh t))) changes.row_is
      (current_fits (columns_in sh t) (slot_at sh s t p).row (slot_at sh s t p).entries (versions_fit sh s ok t p)) in
      subst (λ columns. ChangeFits columns (change.Patch (differences 0 changes.row row))) (sym (ok.bodies t (block_of p) changes.spot.has).columns)
      (differences_fit (columns_of (columns_in sh t)) changes.row row (fits_length (columns_in sh t) changes.row old ∙ sym (fits_length (columns_in sh t) row fit)) (fits_unnamed (columns_in sh t) row fit))

  -- the place of an update or delete is one of the key's candidates
  pub changed_place : Among p (places_at sh s t key)
  changed_place = current_among (slot_at sh s t) (places_at sh s t key) p
      (judged_ok (option_or (fault_of (newer_by (slot_at sh s t) (places_at sh s t key) own)) rest) (current_place (slot_at sh s t) (places_at sh s t key)) Missing p goes).1

-- what a body takes in the core it takes in the hand
pub takes_at : (sh : Shape) (hand : Held) (s : Parts) (t p q : ℕ) (new : Change) → Agrees hand s → Has sh hand (BodyOf t (block_of p)) → TakesChange (body_at sh s t (block_of p)) (slot_of p) q new → TakesAt sh hand t p q new
takes_at sh hand s t p q new agrees has takes =
    let x = a_body sh hand t (block_of p) has in record {
      body = has;
      takes = subst (λ (y : Body). TakesChange y (slot_of p) q new) (body_is sh hand s agrees t (block_of p) x.0 x.1 ∙ ap body_from (sym x.1)) takes;
    }
