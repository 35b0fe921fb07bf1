-- Where an accepted write goes, and that what it leaves fits.
use Rattle.std.proofs.Common.{◌≡◌, ℕ, ◌<◌, ℤ, Bool, true, false, cond, ◌&&◌, List, [], ◌∷◌, Option, None, Some, is_none, is_some, length, refl, sym, ap, ◌∙◌, subst, arith}
use mathlib.Core.Logic.{inl, inr}
use Rattle.std.specs.Prelude.{IfSome, Ok, option_and_then}
use Rattle.std.specs.Option.{option_or}
use Rattle.std.proofs.lemmas.Option.{same_Some}
use Rattle.block_layout.specs.Place.{block_of, slot_of}
use Rattle.block_spec.specs.Bodies.{is_imaged, is_loose}
use Rattle.block_spec.specs.declared.change.Before.{Before}
use Rattle.block_spec.specs.declared.change.Change.TheVariants as change
use Rattle.block_spec.specs.declared.phase.Phase.{Phase}
use Rattle.block_spec.specs.declared.phase.Phase.TheVariants.{Loose, Sealed, Imaged}
use Rattle.block_spec.specs.Slots.{Row, columns_before, has_none, is_bare, patched, written}
use Rattle.cell_model.specs.declared.column.Column.{Column}
use Rattle.cell_model.specs.Rows.{Fits}
use Rattle.core_laws.proofs.Events.Fitting.{current_fits, fits_length}
use Rattle.core_laws.proofs.Events.Naming.{body_is_there, follows_machine}
use Rattle.core_laws.proofs.Events.Slots.{body_of}
use Rattle.event_spec.specs.declared.own.OwnKey.{OwnKey}
use Rattle.event_spec.specs.declared.part.Part.TheVariants as part
use Rattle.event_spec.specs.declared.reply.WriteFault.{WriteFault}
use Rattle.event_spec.specs.declared.reply.WriteFault.TheVariants.{Missing}
use Rattle.event_spec.specs.Effects.{change_judged, found}
use Rattle.event_spec.specs.Judged.{current_place, differences, fault_of, first_at, freezing_of, judged, newer_by}
use Rattle.event_spec.specs.Lawful.{Among, HasBlock, IsThawed}
use Rattle.event_spec.specs.Parts.{Parts, Shape, body_at, body_from, slot_at, places_at}
use Rattle.event_spec.specs.SlotSound.{VersionsFit}
use Rattle.event_spec.specs.Sound.{Sound}
use Rattle.core_laws.proofs.Slots.Patches.{patched_new, patched_old}
use Rattle.core_laws.proofs.Sound.Fits.{image_fits}
use Rattle.undo_chain.specs.declared.chain.Newer.{Newer}
use Rattle.undo_chain.specs.declared.undo.Undo.{Undo}

-- ---- what fits

-- a row that fits and is put into a slot fits, with the versions before it
pub put_fits : (columns : List Column) (q : ℕ) (row : Row) (old : Option Row) (es : List (Undo Before)) → Fits columns row → VersionsFit columns old es
    → VersionsFit columns (written q (change.Put row) (record { row = old; entries = es })).row (written q (change.Put row) (record { row = old; entries = es })).entries
put_fits columns q row None es new fit = (new, tt, fit)
put_fits columns q row (Some cells) es new fit = (new, current_fits columns (Some cells) es fit, fit)

-- the versions of a row that is deleted still fit
pub gone_fits : (columns : List Column) (q : ℕ) (old : Option Row) (es : List (Undo Before)) → VersionsFit columns old es
    → VersionsFit columns (written q change.Gone (record { row = old; entries = es })).row (written q change.Gone (record { row = old; entries = es })).entries
gone_fits columns q None es fit = (tt, tt, fit)
gone_fits columns q (Some cells) es fit = (tt, current_fits columns (Some cells) es fit, fit)

-- a row that is updated to one that fits still fits in all its versions
pub patch_fits : (columns : List Column) (q : ℕ) (old new : Row) (es : List (Undo Before)) → Fits columns new → VersionsFit columns (Some old) es
    → VersionsFit columns (written q (change.Patch (differences 0 old new)) (record { row = Some old; entries = es })).row
    (written q (change.Patch (differences 0 old new)) (record { row = Some old; entries = es })).entries
patch_fits columns q old new es fits fit =
    let here : Fits columns old = current_fits columns (Some old) es fit in
    let same : length old ≡ length new = fits_length columns old here ∙ sym (fits_length columns new fits) in (
      subst (Fits columns) (sym (patched_new old new same)) fits,
      image_fits columns old new here,
      subst (λ row. VersionsFit columns (Some row) es) (sym (ap (λ row. patched row (columns_before old (differences 0 old new))) (patched_new old new same) ∙ patched_old old new same)) fit,
    )

-- ---- where a change goes

-- a write that is judged well has no fault, and goes to the place that was found
pub judged_ok : (fault : Option WriteFault) (place : Option ℕ) (otherwise : WriteFault) (p : ℕ) → judged fault place otherwise ≡ Ok p → (fault ≡ None) × (place ≡ Some p)
judged_ok (Some fault) place otherwise p is = cc
judged_ok None None otherwise p is = cc
judged_ok None (Some x) otherwise p is = (refl, ap Some (cc))

-- What the first answer over some places is, one of them answers.
first_some : (answer : ℕ → Option ℕ) (places : List ℕ) (x : ℕ) → first_at answer places ≡ Some x → (p : ℕ) × Among p places × (answer p ≡ Some x)
first_some answer [] x is = cc
first_some answer (p ∷ places) x is = go (answer p) refl is (first_some answer places x)
  where
    go : (o : Option ℕ) → answer p ≡ o → option_or o (first_at answer places) ≡ Some x → (first_at answer places ≡ Some x → (r : ℕ) × Among r places × (answer r ≡ Some x))
        → (r : ℕ) × Among r (p ∷ places) × (answer r ≡ Some x)
    go None e is rest = let r = rest is in (r.0, inr r.1, r.2)
    go (Some y) e is rest = (p, inl refl, e ∙ is)

-- A slot that a write changes: it is in a loose body of the table, and not bare.
pub record IsSpot (sh : Shape) (s : Parts) (t p : ℕ) : Type 0 where
  pub has : HasBlock sh t (block_of p)
  pub inside : slot_of p < length (body_at sh s t (block_of p)).slots
  pub loose : is_loose (body_at sh s t (block_of p)).phase ≡ true

module _ (sh : Shape) (s : Parts) (ok : Sound sh s) where
  -- a slot that is not bare is in a body of the table
  pub filled_there : (t p : ℕ) → is_bare (slot_at sh s t p) ≡ false → HasBlock sh t (block_of p) × (slot_of p < length (body_at sh s t (block_of p)).slots)
  filled_there t p filled =
      let body = body_of sh s (follows_machine sh s ok).kinds t p filled in
      let size : length body.0.slots ≡ length (body_at sh s t (block_of p)).slots = ap (λ o. length (body_from o).slots) (sym body.1) in
      let less = body.2 in
      (body_is_there sh s t (block_of p) (part.Body body.0) body.1, omega (arith, less, size))

  -- a change goes to a slot with a row in a loose body
  pub record ChangesRow (t p : ℕ) : Type 0 where
    pub spot : IsSpot sh s t p
    pub row : Row
    pub row_is : (slot_at sh s t p).row ≡ Some row
    pub filled : is_bare (slot_at sh s t p) ≡ false

  -- an update or delete that is judged well goes to a slot with a row in a loose body
  pub change_goes : (own : OwnKey) (t : ℕ) (key : ℤ) (p : ℕ) → IsThawed sh t key s → change_judged sh s own t key ≡ Ok p → ChangesRow t p
  change_goes own t key p thawed is = record {
    spot = record { has = there.0; inside = there.1; loose = loose };
    row = row.0;
    row_is = row.1;
    filled = filled;
  }
    where
      met : Newer
      met = newer_by (slot_at sh s t) (places_at sh s t key) own

      here : Option ℕ
      here = current_place (slot_at sh s t) (places_at sh s t key)

      both : (option_or (fault_of (newer_by (slot_at sh s t) (places_at sh s t key) own)) (cond (is_none (found sh s own t key)) (Some Missing)
          (option_and_then (λ place. freezing_of (block_of place) (body_at sh s t (block_of place)).phase) (current_place (slot_at sh s t) (places_at sh s t key)))) ≡ None)
          × (current_place (slot_at sh s t) (places_at sh s t key) ≡ Some p)
      both = judged_ok
          (option_or (fault_of (newer_by (slot_at sh s t) (places_at sh s t key) own)) (cond (is_none (found sh s own t key)) (Some Missing)
          (option_and_then (λ place. freezing_of (block_of place) (body_at sh s t (block_of place)).phase) (current_place (slot_at sh s t) (places_at sh s t key)))))
          (current_place (slot_at sh s t) (places_at sh s t key)) Missing p is

      nothing : (a b : Option WriteFault) → option_or a b ≡ None → b ≡ None
      nothing None b n = n
      nothing (Some x) b n = cc

      not_missing : (c : Bool) (o : Option WriteFault) → cond c (Some Missing) o ≡ None → o ≡ None
      not_missing true o n = cc
      not_missing false o n = n

      unfrozen : freezing_of (block_of p) (body_at sh s t (block_of p)).phase ≡ None
      unfrozen =
          sym (ap (option_and_then (λ place. freezing_of (block_of place) (body_at sh s t (block_of place)).phase)) both.1)
          ∙ not_missing (is_none (found sh s own t key)) (option_and_then (λ place. freezing_of (block_of place) (body_at sh s t (block_of place)).phase) (current_place (slot_at sh s t) (places_at sh s t key)))
          (nothing (fault_of (newer_by (slot_at sh s t) (places_at sh s t key) own)) (cond (is_none (found sh s own t key)) (Some Missing)
          (option_and_then (λ place. freezing_of (block_of place) (body_at sh s t (block_of place)).phase) (current_place (slot_at sh s t) (places_at sh s t key)))) both.0)

      not_imaged : is_imaged (body_at sh s t (block_of p)).phase ≡ false
      not_imaged = subst (λ o. IfSome o (λ place. is_imaged (body_at sh s t (block_of place)).phase ≡ false)) both.1 thawed

      loose : is_loose (body_at sh s t (block_of p)).phase ≡ true
      loose = go (body_at sh s t (block_of p)).phase unfrozen not_imaged
        where
          go : (phase : Phase) → freezing_of (block_of p) phase ≡ None → is_imaged phase ≡ false → is_loose phase ≡ true
          go Loose a b = refl
          go (Sealed g) a b = cc
          go (Imaged g) a b = cc

      first : (r : ℕ) × Among r (places_at sh s t key) × (cond (is_some (slot_at sh s t r).row) (Some r) None ≡ Some p)
      first = first_some (λ place. cond (is_some (slot_at sh s t place).row) (Some place) None) (places_at sh s t key) p both.1

      row : (row : Row) × ((slot_at sh s t p).row ≡ Some row)
      row = go first.0 (slot_at sh s t first.0).row refl first.2
        where
          go : (r : ℕ) (o : Option Row) → (slot_at sh s t r).row ≡ o → cond (is_some (slot_at sh s t r).row) (Some r) None ≡ Some p → (row : Row) × ((slot_at sh s t p).row ≡ Some row)
          go r None e x = let never : None ≡ Some p = sym (ap (λ (o : Option Row). cond (is_some o) (Some r) None) e) ∙ x in absurd (no_place p never)
            where
              no_place : (p : ℕ) → None ≡ Some p → ⊥
              no_place p n = cc
          go r (Some row) e x =
              let same : r ≡ p = same_Some r p (sym (ap (λ (o : Option Row). cond (is_some o) (Some r) None) e) ∙ x) in
              (row, ap (λ r. (slot_at sh s t r).row) (sym same) ∙ e)

      filled : is_bare (slot_at sh s t p) ≡ false
      filled = ap (λ (o : Option Row). is_none o && has_none (slot_at sh s t p).entries) row.1

      there : HasBlock sh t (block_of p) × (slot_of p < length (body_at sh s t (block_of p)).slots)
      there = filled_there t p filled
