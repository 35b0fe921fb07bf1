use Rattle.std.proofs.Common.{◌++◌, ◌+◌, List, [], drop, get_or, length, None, unwrap_or, ap, sym, ◌∙◌, arith}
use Rattle.std.specs.Vec.Iter.{into_iter_items}
use Rattle.block_spec.specs.Slots.{Patch, Row}
use Rattle.cell_model.specs.declared.cell.Cell.{Cell}
use Rattle.event_spec.specs.Judged.{differences}
use Rattle.core_events.proofs.Patching.{all_made, none_differs, one_more}
use Rattle.core_events.proofs.patches.patch_at.Goals as goal

pub loop-cell-preserved : goal.loop-cell-preserved
loop-cell-preserved c =
    let old : Row = unwrap_or (get_or c.args.columns.now.rows c.args.slot None) [] in
    let step = c.in-Some.ensures.steps.0 in
    let rest : List Cell = into_iter_items c.next.new.self in
    let left = ap length step in
    let column = c.loop-cell.invariant.column in
    record {
      column = omega (arith, left, column);
      made = ap (λ (zs : Patch). zs ++ differences (c.loop-cell.column + 1) (drop (c.loop-cell.column + 1) old) rest) c.in_ok-add_difference.ensures
          ∙ one_more old rest c.loop-cell.column c.loop-cell.assignments.items (differences 0 old c.args.new) c.in-Some.cell
          (ap (λ (cs : List Cell). c.loop-cell.assignments.items ++ differences c.loop-cell.column (drop c.loop-cell.column old) cs) (sym step) ∙ c.loop-cell.invariant.made);
    }

pub returns : goal.returns
returns c =
    let old : Row = unwrap_or (get_or c.args.columns.now.rows c.args.slot None) [] in
    c.from-2.ensures ∙ all_made old (into_iter_items c.loop-cell.cell-iterator) c.loop-cell.column c.loop-cell.assignments.items (differences 0 old c.args.new)
    (omega (arith, c.in-None.ensures.steps.0, c.loop-cell.cell-iterator.rest.ok.0)) c.loop-cell.invariant.made

pub returns-then-not-has_row : goal.returns-then-not-has_row
returns-then-not-has_row c =
    c.from.ensures ∙ c.new-assignments.ensures.items
    ∙ none_differs (get_or c.args.columns.now.rows c.args.slot None) c.args.new c.has_row.result c.has_row.ensures c.if-not-has_row.true
