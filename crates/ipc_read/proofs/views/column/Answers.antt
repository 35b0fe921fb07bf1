use Rattle.std.proofs.Common.{sym, ◌∙◌}
use Rattle.ipc_read.proofs.ViewLemmas.{all_hold, as_checked, count_fails, offsets_fail, texts_fail}
use Rattle.ipc_read.proofs.views.column.Goals as goal

pub returns-then-not-counts_nulls-clause-column : goal.returns-then-not-counts_nulls-clause-column
returns-then-not-counts_nulls-clause-column c =
    as_checked c.args.body.now c.args.rows c.args.sort.now c.args.node.now.null_count c.args.validity.now c.args.buffers.now c.in-Some.view c.in-Some.ensures
    ∙ count_fails _ _ _ _ (sym c.counts_nulls.ensures ∙ c.if-not-counts_nulls.true)

pub returns-then-not-has_offsets-clause-column : goal.returns-then-not-has_offsets-clause-column
returns-then-not-has_offsets-clause-column c =
    as_checked c.args.body.now c.args.rows c.args.sort.now c.args.node.now.null_count c.args.validity.now c.args.buffers.now c.in-Some.view c.in-Some.ensures
    ∙ offsets_fail _ _ _ _ (sym c.counts_nulls.ensures ∙ c.if-not-counts_nulls.false) (sym c.has_offsets.ensures ∙ c.if-not-has_offsets.true)

pub returns-then-not-are_texts-clause-column : goal.returns-then-not-are_texts-clause-column
returns-then-not-are_texts-clause-column c =
    as_checked c.args.body.now c.args.rows c.args.sort.now c.args.node.now.null_count c.args.validity.now c.args.buffers.now c.in-Some.view c.in-Some.ensures
    ∙ texts_fail _ _ _ _ (sym c.counts_nulls.ensures ∙ c.if-not-counts_nulls.false) (sym c.has_offsets.ensures ∙ c.if-not-has_offsets.false) (sym c.are_texts.ensures ∙ c.if-not-are_texts.true)

pub returns-clause-column : goal.returns-clause-column
returns-clause-column c =
    as_checked c.args.body.now c.args.rows c.args.sort.now c.args.node.now.null_count c.args.validity.now c.args.buffers.now c.in-Some.view c.in-Some.ensures
    ∙ all_hold _ _ _ _ (sym c.counts_nulls.ensures ∙ c.if-not-counts_nulls.false) (sym c.has_offsets.ensures ∙ c.if-not-has_offsets.false) (sym c.are_texts.ensures ∙ c.if-not-are_texts.false)
