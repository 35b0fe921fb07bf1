-- What an update changes fits the columns.
use Rattle.std.proofs.Common.{◌≡◌, ◌⊎◌, ℕ, suc, ◌+◌, ◌<◌, Bool, true, false, cond, List, [], ◌∷◌, map, length, get_or, refl, sym, ap, ◌∙◌, subst, arith}
use Rattle.std.proofs.lemmas.Bool.{cases_Bool}
use mathlib.Core.Logic.{inl, inr}
use Rattle.block_spec.proofs.Unnamed.{fault-unnamed}
use Rattle.block_spec.specs.Fitting.{PatchFits, columns_of}
use Rattle.block_spec.specs.Slots.{Row, standing}
use Rattle.cell_model.specs.declared.cell.Cell.{Cell}
use Rattle.cell_model.specs.declared.cell.Cell.TheVariants.{Null}
use Rattle.cell_model.specs.declared.column.Column.{Column}
use Rattle.cell_model.specs.Rows.{Fits}
use Rattle.event_spec.specs.Judged.{differences, same_cell}
use Rattle.core_laws.proofs.Frames.Looks.{true_false}
use Rattle.core_laws.proofs.Slots.Patches.{cell_is}
use Rattle.core_laws.proofs.Sound.Fits.{image_fits}

-- Two cells are tested for being the same alike either way around.
same_back : (x y : Cell) → same_cell y x ≡ same_cell x y
same_back x y = go (cases_Bool (same_cell x y)) (cases_Bool (same_cell y x))
  where
    go : (same_cell x y ≡ true) ⊎ (same_cell x y ≡ false) → (same_cell y x ≡ true) ⊎ (same_cell y x ≡ false) → same_cell y x ≡ same_cell x y
    go (inl a) (inl b) = b ∙ sym a
    go (inr a) (inr b) = b ∙ sym a
    go (inl a) (inr b) = absurd (true_false (sym a ∙ ap (λ z. same_cell z y) (cell_is x y a) ∙ ap (same_cell y) (sym (cell_is x y a)) ∙ b))
    go (inr a) (inl b) = absurd (true_false (sym b ∙ ap (λ z. same_cell z x) (cell_is y x b) ∙ ap (same_cell x) (sym (cell_is y x b)) ∙ a))

-- the cells of a row from a column on
abbrev IsFrom : Row → ℕ → Row → Type 0
IsFrom whole at rest = (j : ℕ) → j < length rest → get_or whole (at + j) Null ≡ get_or rest j Null

-- What the new row has where it differs from the old is what the update changes.
stand : (whole : Row) (at : ℕ) (old new : Row) → length old ≡ length new → IsFrom whole at new → map (standing whole) (differences at new old) ≡ differences at old new
stand whole at [] [] same from = refl
stand whole at [] (y ∷ new) same from = let l : 0 ≡ suc (length new) = same in absurd (omega (arith, l))
stand whole at (x ∷ old) [] same from = let l : suc (length old) ≡ 0 = same in absurd (omega (arith, l))
stand whole at (x ∷ old) (y ∷ new) same from =
    ap (λ b. map (standing whole) (cond b (differences (at + 1) new old) (record { column = at; cell = x } ∷ differences (at + 1) new old))) (same_back x y)
    ∙ go (same_cell x y) (stand whole (at + 1) old new (let l : suc (length old) ≡ suc (length new) = same in omega (arith, l))
    (λ j less. ap (λ k. get_or whole k Null) (let e : at + 1 + j ≡ at + suc j = omega arith in e) ∙ from (suc j) (omega (arith, less))))
  where
    here : get_or whole at Null ≡ y
    here = ap (λ k. get_or whole k Null) (let e : at ≡ at + 0 = omega arith in e) ∙ from 0 (omega arith)

    go : (b : Bool) → map (standing whole) (differences (at + 1) new old) ≡ differences (at + 1) old new
        → map (standing whole) (cond b (differences (at + 1) new old) (record { column = at; cell = x } ∷ differences (at + 1) new old))
        ≡ cond b (differences (at + 1) old new) (record { column = at; cell = y } ∷ differences (at + 1) old new)
    go true rest = rest
    go false rest =
        ap (λ (c : Cell). record { column = at; cell = c } ∷ map (standing whole) (differences (at + 1) new old)) here
        ∙ ap (λ ds. record { column = at; cell = y } ∷ ds) rest

-- the cells that an update changes fit their columns
pub differences_fit : (columns : List Column) (old new : Row) → length old ≡ length new → Fits columns new → PatchFits columns (differences 0 old new)
differences_fit columns old new same fit =
    subst (PatchFits columns) (stand new 0 old new same (λ j less. ap (λ k. get_or new k Null) (let e : 0 + j ≡ j = omega arith in e))) (image_fits columns new old fit)

-- what fits a schema fits a body's columns
pub fits_unnamed : (schema : List Column) (row : Row) → Fits schema row → Fits (columns_of schema) row
fits_unnamed schema row fit = fault-unnamed schema row ∙ fit
