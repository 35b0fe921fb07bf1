use Rattle.std.proofs.Common.{◌≡◌, ℕ, sym, ap, ◌∙◌, arith}
use Rattle.std.specs.List.{list_all, range_with_len}
use Rattle.std.proofs.lemmas.List.Folds.{list_all-map}
use Rattle.stream_spec.specs.Columns.{is_place_in}
use Rattle.ipc_read.specs.Views.{cell_in}
use Rattle.ipc_read.proofs.RangeLemmas.{all_fails, all_next}
use Rattle.ipc_read.proofs.fields.are_places.Goals as goal

pub returns-then-not-is_place_at : goal.returns-then-not-is_place_at
returns-then-not-is_place_at c =
    let view = c.args.view.now in
    let values = c.args.values.now in
    let rows = c.args.rows in
    sym (list_all-map (is_place_in values) (cell_in view) (range_with_len 0 rows) ∙ all_fails (λ i. is_place_in values (cell_in view i)) c.loop-i.i rows c.loop-i-test.true (sym c.is_place_at.ensures ∙ c.if-not-is_place_at.true))

pub loop-i-preserved : goal.loop-i-preserved
loop-i-preserved c =
    let view = c.args.view.now in
    let values = c.args.values.now in
    all_next (λ i. is_place_in values (cell_in view i)) c.loop-i.i c.loop-i.invariant (sym c.is_place_at.ensures ∙ c.if-not-is_place_at.false)

pub returns : goal.returns
returns c =
    let view = c.args.view.now in
    let values = c.args.values.now in
    let rows = c.args.rows in
    let all : rows ≡ c.loop-i.i = omega (arith, c.loop-i-test.false, c.loop-i.auto.i-end) in
    sym (list_all-map (is_place_in values) (cell_in view) (range_with_len 0 rows) ∙ (ap (λ (n : ℕ). list_all (λ i. is_place_in values (cell_in view i)) (range_with_len 0 n)) all ∙ c.loop-i.invariant))
