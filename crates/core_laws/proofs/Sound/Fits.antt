-- Versions of a row that fit, under each change.
use Rattle.std.proofs.Common.{◌≡◌, ◌≢◌, ℕ, zero, suc, ◌+◌, ◌<◌, ◌≤◌, Bool, true, false, cond, ◌==◌, List, [], ◌∷◌, map, Option, None, Some, is_none, length, get_or, refl, sym, ap, ◌∙◌, subst, arith}
use Rattle.std.specs.Prelude.{All, AllPairs, IsSomeAnd, slice_get}
use Rattle.std.proofs.lemmas.Bool.Decides.{nat_tests}
use Rattle.std.proofs.lemmas.List.Elements.{All-nil, All-cons, All-head, All-tail, All-weaker}
use Rattle.std.proofs.lemmas.List.Kept.{AllPairs-cons}
use Rattle.block_spec.specs.declared.change.Before.{Before}
use Rattle.block_spec.specs.declared.patch.Assignment.{Assignment}
use Rattle.block_spec.specs.Fitting.{AssignmentFits, PatchFits}
use Rattle.block_spec.specs.Slots.{Row, columns_before, laid_back, standing}
use Rattle.cell_model.specs.declared.cell.Cell.TheVariants.{Null}
use Rattle.cell_model.specs.declared.column.Column.{Column}
use Rattle.cell_model.specs.declared.row.RowFault.{RowFault}
use Rattle.cell_model.specs.declared.row.RowFault.TheVariants.{Arity}
use Rattle.cell_model.specs.Rows.{Fits, cell_fault, first_fault}
use Rattle.event_spec.specs.Judged.{differences, same_cell}
use Rattle.event_spec.specs.SlotSound.{VersionsFit}
use Rattle.core_laws.proofs.Slots.Endings.{rest_of, rest_own, row_of, row_own, rolled_none}
use Rattle.core_laws.proofs.Slots.Prunings.{rest, rest_none, rest_step}
use Rattle.undo_chain.proofs.Order.{IsLawful-tail, all_not_own, all_stamped}
use Rattle.undo_chain.specs.declared.undo.Undo.{Undo}
use Rattle.undo_chain.specs.Entry.{is_own, is_stamped_by}
use Rattle.undo_chain.specs.Lawful.{IsLawful}
use Rattle.undo_chain.specs.Stamped.{stamped}

-- the versions of a row still fit once their entries have a commit's stamp
pub committed_fit : (columns : List Column) (q stamp number : ℕ) (row : Option Row) (es : List (Undo Before)) → VersionsFit columns row es → VersionsFit columns row (map (stamped q stamp number) es)
committed_fit columns q stamp number row [] fit = fit
committed_fit columns q stamp number row (e ∷ es) fit = (fit.0, fit.1, committed_fit columns q stamp number (laid_back row e.before) es fit.2)

-- the versions that a pruning leaves of a row fit
pub pruned_fit : (columns : List Column) (o : ℕ) (row : Option Row) (es : List (Undo Before)) → IsLawful es → VersionsFit columns row es → VersionsFit columns row (rest o es)
pruned_fit columns o row [] lawful fit = fit
pruned_fit columns o row (e ∷ es) lawful fit = go (is_stamped_by e o) refl (pruned_fit columns o (laid_back row e.before) es (IsLawful-tail e es lawful) fit.2)
  where
    go : (b : Bool) → is_stamped_by e o ≡ b → VersionsFit columns (laid_back row e.before) (rest o es) → VersionsFit columns row (rest o (e ∷ es))
    go true is before = subst (λ xs. VersionsFit columns row xs) (sym (rest_none o (e ∷ es) (all_stamped o e es lawful is))) fit.0
    go false is before = subst (λ xs. VersionsFit columns row xs) (sym (rest_step o e es false is)) (fit.0, fit.1, before)

-- the versions that a roll-back leaves of a row fit
pub rolled_fit : (columns : List Column) (q : ℕ) (row : Option Row) (es : List (Undo Before)) → IsLawful es → VersionsFit columns row es → VersionsFit columns (row_of q row es) (rest_of q es)
rolled_fit columns q row [] lawful fit = fit
rolled_fit columns q row (e ∷ es) lawful fit = go (is_own e q) refl (rolled_fit columns q (laid_back row e.before) es (IsLawful-tail e es lawful) fit.2)
  where
    go : (b : Bool) → is_own e q ≡ b → VersionsFit columns (row_of q (laid_back row e.before) es) (rest_of q es) → VersionsFit columns (row_of q row (e ∷ es)) (rest_of q (e ∷ es))
    go true own before =
        subst (λ es'. VersionsFit columns (row_of q row (e ∷ es)) es') (sym (rest_own q e es own))
        (subst (λ row'. VersionsFit columns row' (rest_of q es)) (sym (row_own q row e es own)) before)
    go false own before =
        let both = rolled_none q row (e ∷ es) (all_not_own q e es lawful own) in
        subst (λ es'. VersionsFit columns (row_of q row (e ∷ es)) es') (sym both.0) (subst (λ row'. VersionsFit columns row' (e ∷ es)) (sym both.1) fit)

-- ---- the before-image of an update

-- each cell of a row that fits keeps its column's rules
cell_fits : (k : ℕ) (columns : List Column) (cells : Row) (i : ℕ) → length cells ≡ length columns → first_fault k columns cells ≡ None → i < length cells
    → IsSomeAnd (slice_get columns i) (λ column. cell_fault (k + i) column (get_or cells i Null) ≡ None)
cell_fits k [] [] i same fit less = absurd (omega (arith, less))
cell_fits k [] (x ∷ cells) i same fit less = let l : suc (length cells) ≡ 0 = same in absurd (omega (arith, l))
cell_fits k (c ∷ columns) [] i same fit less = absurd (omega (arith, less))
cell_fits k (c ∷ columns) (x ∷ cells) zero same fit less = go (cell_fault k c x) refl
  where
    go : (o : Option RowFault) → cell_fault k c x ≡ o → cell_fault (k + 0) c x ≡ None
    go (Some fault) is =
        let never : Some fault ≡ None = sym is ∙ sym (ap (λ o. cond (is_none o) (first_fault (k + 1) columns cells) (cell_fault k c x)) is) ∙ fit in absurd (no_fault fault never)
      where
        no_fault : (fault : RowFault) → Some fault ≡ None → ⊥
        no_fault fault e = cc
    go None is = let e : k + 0 ≡ k = omega arith in ap (λ n. cell_fault n c x) e ∙ is
cell_fits k (c ∷ columns) (x ∷ cells) (suc j) same fit less =
    go (cell_fault k c x) refl (λ rest. cell_fits (k + 1) columns cells j (let l : suc (length cells) ≡ suc (length columns) = same in omega (arith, l)) rest (omega (arith, less)))
  where
    go : (o : Option RowFault) → cell_fault k c x ≡ o
        → (first_fault (k + 1) columns cells ≡ None → IsSomeAnd (slice_get columns j) (λ column. cell_fault ((k + 1) + j) column (get_or cells j Null) ≡ None))
        → IsSomeAnd (slice_get columns j) (λ column. cell_fault (k + suc j) column (get_or cells j Null) ≡ None)
    go (Some fault) is step =
        let never : Some fault ≡ None = sym is ∙ sym (ap (λ o. cond (is_none o) (first_fault (k + 1) columns cells) (cell_fault k c x)) is) ∙ fit in absurd (no_fault fault never)
      where
        no_fault : (fault : RowFault) → Some fault ≡ None → ⊥
        no_fault fault e = cc
    go None is step =
        let rest : first_fault (k + 1) columns cells ≡ None = sym (ap (λ o. cond (is_none o) (first_fault (k + 1) columns cells) (cell_fault k c x)) is) ∙ fit in
        let e : (k + 1) + j ≡ k + suc j = omega arith in
        subst (λ n. IsSomeAnd (slice_get columns j) (λ column. cell_fault n column (get_or cells j Null) ≡ None)) e (step rest)

-- Each cell of a row that fits has no fault in its column.
fits_cells : (columns : List Column) (cells : Row) → Fits columns cells → (i : ℕ) → i < length cells → IsSomeAnd (slice_get columns i) (λ column. cell_fault i column (get_or cells i Null) ≡ None)
fits_cells columns cells fit i less = go (length cells == length columns) refl fit
  where
    go : (b : Bool) → (length cells == length columns) ≡ b → cond b (first_fault 0 columns cells) (Some Arity) ≡ None → IsSomeAnd (slice_get columns i) (λ column. cell_fault i column (get_or cells i Null) ≡ None)
    go false is f = cc
    go true is f =
        let same : length cells ≡ length columns = grind (arith, nat_tests) in
        let e : 0 + i ≡ i = omega arith in
        subst (λ n. IsSomeAnd (slice_get columns i) (λ column. cell_fault n column (get_or cells i Null) ≡ None)) e (cell_fits 0 columns cells i same f less)

-- The column of an assignment is from one column on and below another.
abbrev BothIn : ℕ → ℕ → Assignment → Type 0
BothIn low high assignment = (low ≤ assignment.column) × (assignment.column < high)

-- the columns in which two rows differ rise
module _ (old : Row) where
  -- The columns in which two rows differ are from the first on and below the end.
  differ_in : (at : ℕ) (xs ys : Row) (high : ℕ) → at + length xs ≤ high → All (BothIn at high) (map (standing old) (differences at xs ys))
  differ_in at [] ys high le = All-nil (BothIn at high)
  differ_in at (x ∷ xs) [] high le = All-nil (BothIn at high)
  differ_in at (x ∷ xs) (y ∷ ys) high le = go (same_cell x y) (differ_in (at + 1) xs ys high (omega (arith, le)))
    where
      more : (a : Assignment) → BothIn (at + 1) high a → BothIn at high a
      more a both = let low = both.0 in (omega (arith, low), both.1)

      go : (b : Bool) → All (BothIn (at + 1) high) (map (standing old) (differences (at + 1) xs ys))
          → All (BothIn at high) (map (standing old) (cond b (differences (at + 1) xs ys) (record { column = at; cell = y } ∷ differences (at + 1) xs ys)))
      go true rest = All-weaker (BothIn (at + 1) high) (BothIn at high) more (map (standing old) (differences (at + 1) xs ys)) rest
      go false rest =
          All-cons (BothIn at high) (standing old (record { column = at; cell = y })) (map (standing old) (differences (at + 1) xs ys)) (omega arith, omega (arith, le))
          (All-weaker (BothIn (at + 1) high) (BothIn at high) more (map (standing old) (differences (at + 1) xs ys)) rest)

  -- No two of the differences of two rows are in the same column.
  differ_apart : (at : ℕ) (xs ys : Row) → AllPairs (λ one other. one.column ≢ other.column) (map (standing old) (differences at xs ys))
  differ_apart at [] ys = λ i j d less inside. absurd (omega (arith, inside))
  differ_apart at (x ∷ xs) [] = λ i j d less inside. absurd (omega (arith, inside))
  differ_apart at (x ∷ xs) (y ∷ ys) = go (same_cell x y) (differ_apart (at + 1) xs ys)
    where
      above : (a : Assignment) → BothIn (at + 1) (at + 1 + length xs) a → at ≢ a.column
      above a both e = let low = both.0 in absurd (omega (arith, low, e))

      go : (b : Bool) → AllPairs (λ one other. one.column ≢ other.column) (map (standing old) (differences (at + 1) xs ys))
          → AllPairs (λ one other. one.column ≢ other.column) (map (standing old) (cond b (differences (at + 1) xs ys) (record { column = at; cell = y } ∷ differences (at + 1) xs ys)))
      go true rest = rest
      go false rest =
          AllPairs-cons (λ one other. one.column ≢ other.column) (standing old (record { column = at; cell = y })) (map (standing old) (differences (at + 1) xs ys))
          (All-weaker (BothIn (at + 1) (at + 1 + length xs)) (λ a. at ≢ a.column) above (map (standing old) (differences (at + 1) xs ys)) (differ_in (at + 1) xs ys (at + 1 + length xs) (omega arith)))
          rest

-- The old row's cells in the columns of a patch fit where each of its cells does.
standing_cells : (old : Row) (columns : List Column) (patch : List Assignment) (high : ℕ) → All (BothIn 0 high) (map (standing old) patch)
    → ((i : ℕ) → i < high → IsSomeAnd (slice_get columns i) (λ column. cell_fault i column (get_or old i Null) ≡ None))
    → All (AssignmentFits columns) (map (standing old) patch)
standing_cells old columns [] high all each = All-nil (AssignmentFits columns)
standing_cells old columns (a ∷ patch) high all each =
    All-cons (AssignmentFits columns) (standing old a) (map (standing old) patch)
    (each a.column (All-head (BothIn 0 high) (standing old a) (map (standing old) patch) all).1)
    (standing_cells old columns patch high (All-tail (BothIn 0 high) (standing old a) (map (standing old) patch) all) each)

-- the cells that an update replaced fit their columns
pub image_fits : (columns : List Column) (old new : Row) → Fits columns old → PatchFits columns (columns_before old (differences 0 old new))
image_fits columns old new fit = record {
  each = standing_cells old columns (differences 0 old new) (length old) (differ_in old 0 old new (length old) (omega arith)) (fits_cells columns old fit);
  distinct = differ_apart old 0 old new;
}
