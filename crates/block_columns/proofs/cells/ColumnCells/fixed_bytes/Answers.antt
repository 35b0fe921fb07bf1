use Rattle.std.proofs.Common.{◌≡◌, ℕ, take, ap, ◌∙◌, sym, subst}
use Rattle.std.specs.Int.{Width}
use Rattle.std.specs.List.{flat_map}
use Rattle.arrow_spec.specs.Arrays.{fixed, layout_of, number_of, strip, strip_of}
use Rattle.arrow_spec.specs.Bytes.{number_bytes}
use Rattle.block_columns.specs.Cells.{ColumnValue, cells_in}
use Rattle.block_columns.proofs.cells.ColumnCells.fixed_bytes.Goals as goal

pub returns-clause-numbers : goal.returns-clause-numbers
returns-clause-numbers c = λ (width : Width) same.
    c.fixed_bytes.ensures.numbers c.self.inside.kind width (cells_in c.self.inside.kind c.self.inside.valid c.self.inside.store) c.self.invariant.known c.self.invariant.stored
    (subst (λ (v : ColumnValue). layout_of v.column.kind ≡ fixed width) (sym c.self.view_is) same)
    ∙ ap (λ (v : ColumnValue). flat_map (λ cell. number_bytes width (number_of cell)) (take c.args.n v.cells)) c.self.view_is

pub returns-clause-strips : goal.returns-clause-strips
returns-clause-strips c = λ (width : ℕ) same.
    c.fixed_bytes.ensures.strips c.self.inside.kind width (cells_in c.self.inside.kind c.self.inside.valid c.self.inside.store) c.self.invariant.known c.self.invariant.stored
    (subst (λ (v : ColumnValue). layout_of v.column.kind ≡ strip width) (sym c.self.view_is) same)
    ∙ ap (λ (v : ColumnValue). flat_map (strip_of width) (take c.args.n v.cells)) c.self.view_is
