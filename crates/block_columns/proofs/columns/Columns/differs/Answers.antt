use Rattle.std.proofs.Common.{◌≡◌, ◌≢◌, ℕ, zero, suc, ◌<◌, ◌≤◌, Bool, true, false, not, nat_lt, List, [], ◌∷◌, length, get_or, Option, None, Some, unwrap_or, refl, sym, ap, ◌∙◌, subst, arith}
use Rattle.std.specs.Prelude.{slice_get, IsTrue, IsSomeAnd, ◌↔◌}
use Rattle.std.proofs.lemmas.Bool.Decides.{nat_tests}
use Rattle.cell_model.specs.declared.cell.Cell.{Cell}
use Rattle.cell_model.specs.declared.cell.Cell.TheVariants.{Null}
use Rattle.block_spec.specs.Slots.{Row}
use Rattle.block_columns.specs.Cells.{ColumnValue}
use Rattle.block_columns.specs.Columns.{cells_at}
use Rattle.block_columns.proofs.Rowed.{bit_within, room_all, row_here}
use Rattle.block_columns.proofs.Tables.{cells_at-long}
use Rattle.block_columns.proofs.columns.Columns.differs.Goals as goal

-- the cell of a column in a slot stands in the slot's cells
stands : (at : ℕ) (cs : List ColumnValue) (column : ℕ) (d : ColumnValue) → column < length cs → slice_get (cells_at at cs) column ≡ Some (get_or (get_or cs column d).cells at Null)
stands at [] column d lt = absurd (omega (arith, lt))
stands at (c ∷ cs) zero d lt = refl
stands at (c ∷ cs) (suc column) d lt = stands at cs column d (omega (arith, lt))

-- no cell stands beyond the last column
none_stands : (cells : List Cell) (column : ℕ) → length cells ≤ column → slice_get cells column ≡ None
none_stands [] column le = refl
none_stands (x ∷ xs) zero le = absurd (omega (arith, le))
none_stands (x ∷ xs) (suc column) le = none_stands xs column (omega (arith, le))

-- what is not held is another cell
is_other : (held : Bool) (standing value : Cell) → IsTrue held ↔ (standing ≡ value) → IsTrue (not held) ↔ (standing ≢ value)
is_other true standing value tells = ((λ h. cc), (λ other. absurd (other (tells.0 refl))))
is_other false standing value tells = ((λ h is. let no : false ≡ true = tells.1 is in cc), (λ other. refl))

-- whether a test tells that another cell than this one stands in a column of a row
abbrev Differs : Bool → Option Row → ℕ → Cell → Type 0
Differs differs row column value = IsTrue differs ↔ IsSomeAnd (slice_get (unwrap_or row []) column) (λ standing. standing ≢ value)

-- another cell than this one stands in a column that there is where the column does not hold it
differs_there : (row : Option Row) (cells : Row) (column : ℕ) (standing value : Cell) (held : Bool) → row ≡ Some cells → slice_get cells column ≡ Some standing → IsTrue held ↔ (standing ≡ value) → Differs (not held) row column value
differs_there row cells column standing value held is stands tells =
    subst (λ (o : Option Row). Differs (not held) o column value) (sym is)
    (subst (λ (o : Option Cell). IsTrue (not held) ↔ IsSomeAnd o (λ x. x ≢ value)) (sym stands) (is_other held standing value tells))

-- none differs beyond the last column
differs_beyond : (row : Option Row) (cells : Row) (column : ℕ) (value : Cell) (differs : Bool) → row ≡ Some cells → length cells ≤ column → differs ≡ false → Differs differs row column value
differs_beyond row cells column value differs is beyond not =
    subst (λ (o : Option Row). Differs differs o column value) (sym is)
    (subst (λ (o : Option Cell). IsTrue differs ↔ IsSomeAnd o (λ x. x ≢ value)) (sym (none_stands cells column beyond)) ((λ h. cc), (λ other. absurd other)))

pub holds-requires : goal.holds-requires
holds-requires c =
    let bit = (row_here c.self.inside.taken c.self.inside.columns.items c.self.inside.slots c.args.slot c.args.self.now c.self.view_is c.self.invariant c.requires).0 in
    subst (λ (v : ColumnValue). c.args.slot < length v.cells) (sym c.index.ensures)
    (room_all c.self.inside.taken c.self.inside.columns.items c.self.inside.slots c.args.slot c.self.invariant (bit_within c.self.inside.taken c.args.slot bit) c.args.column c.index.result.now (omega arith))

pub returns-then-column-len : goal.returns-then-column-len
returns-then-column-len c =
    let columns : List ColumnValue = c.self.inside.columns.items in
    let row = (row_here c.self.inside.taken columns c.self.inside.slots c.args.slot c.args.self.now c.self.view_is c.self.invariant c.requires).1 in
    differs_there _ (cells_at c.args.slot columns) c.args.column (get_or c.index.result.now.cells c.args.slot Null) c.args.value.now c.holds.result row
    (stands c.args.slot columns c.args.column c.index.result.now (omega arith) ∙ ap (λ (v : ColumnValue). Some (get_or v.cells c.args.slot Null)) (sym c.index.ensures))
    c.holds.ensures

pub returns-else-column-len : goal.returns-else-column-len
returns-else-column-len c =
    let columns : List ColumnValue = c.self.inside.columns.items in
    let row = (row_here c.self.inside.taken columns c.self.inside.slots c.args.slot c.args.self.now c.self.view_is c.self.invariant c.requires).1 in
    differs_beyond _ (cells_at c.args.slot columns) c.args.column c.args.value.now (nat_lt c.args.column c.len.result) row
    (omega (arith, cells_at-long c.args.slot columns)) (grind (arith, nat_tests))
