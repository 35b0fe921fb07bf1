use Rattle.std.proofs.Common.{◌≡◌, Some, ℤ, List, map, take, sym, ap, subst, ◌∙◌, rules}
use Rattle.std.proofs.lemmas.Int.{to_z-of_z}
use mir.Syntax.{w128}
use mir.Val.{of_z, to_z}
use Rattle.arrow_spec.specs.Arrays.{layout_of}
use Rattle.block_columns.specs.Columns.{cell_of}
use Rattle.cell_model.specs.Kinds.{values_of}
use Rattle.lane_filter.specs.Totals.{IsTotalOf, numbers_between}
use Rattle.shared_store.proofs.Totals.{bytes_are, bytes_long, cells_long, numbers_same, slots_are}
use Rattle.shared_store.proofs.totalling.total_of_columns.Goals as goal

pub total_of_values-requires-clause-values : goal.total_of_values-requires-clause-values
total_of_values-requires-clause-values c =
    bytes_long c.args.wanted.numbers (values_of c.kind.result) c.args.wanted.column c.args.count c.args.columns.now.rows c.fixed_bytes.result.now
    (sym c.of.ensures ∙ (let is : c.of.result ≡ Some c.args.wanted.numbers = search rules in is)) c.requires.held
    (λ width layout. c.fixed_bytes.ensures.numbers width c.column.result.now.column c.column.ensures.column (ap layout_of (sym c.kind.ensures) ∙ layout))

pub returns : goal.returns
returns c columns is fits =
    let slots = take c.args.count c.args.columns.now.rows in
    let among = sym c.of.ensures ∙ (let same : c.of.result ≡ Some c.args.wanted.numbers = search rules in same) in
    let low : to_z w128 (of_z w128 c.args.wanted.low) ≡ c.args.wanted.low = to_z-of_z w128 c.args.wanted.low (search rules) in
    let high : to_z w128 (of_z w128 c.args.wanted.high) ≡ c.args.wanted.high = to_z-of_z w128 c.args.wanted.high (search rules) in
    let total = c.total_of_values.ensures (map (cell_of c.args.wanted.column) slots) (cells_long c.args.wanted.column c.args.count c.args.columns.now.rows c.requires.held) (record {
      slots = slots_are columns c.args.wanted is slots fits;
      nulls = c.nulls.ensures.count;
      values = bytes_are c.args.wanted.numbers (values_of c.kind.result) c.args.wanted.column slots c.fixed_bytes.result.now among
          (λ width layout. c.fixed_bytes.ensures.numbers width c.column.result.now.column c.column.ensures.column (ap layout_of (sym c.kind.ensures) ∙ layout));
    }) in
    subst (λ (numbers : List ℤ). IsTotalOf numbers c.total_of_values.result)
    (ap (λ l. numbers_between l (to_z w128 (of_z w128 c.args.wanted.high)) (map (cell_of c.args.wanted.column) slots)) low
    ∙ ap (λ h. numbers_between c.args.wanted.low h (map (cell_of c.args.wanted.column) slots)) high
    ∙ numbers_same columns c.args.wanted is slots fits) total
