use Rattle.workload_spec.specs.declared.reply.Who.TheVariants.{Session}
use Rattle.output_read.proofs.RowLines.{walk-endless, key-lacks, key-kept}
use Rattle.output_read.proofs.Texts.{endless, lines-one}
use Rattle.output_read.proofs.rows.rows_above.Goals as goal

pub loop-rows-preserved : goal.loop-rows-preserved
loop-rows-preserved c =
    key-kept c.args.schema.now c.requires c.args.count c.args.lines.now c.loop-rows.rows c.loop-rows.below c.loop-rows.rest.now c.loop-rows.invariant
    c.in-Some.line.now c.in-Some.others.now c.in-Some.ensures.text c.in-Some.ensures.whole c.in_ok-key.key c.in_ok-key.ensures c.if-is_none.ensures c.loop-rows-test.true

pub returns-in_default : goal.returns-in_default
returns-in_default c =
    let none = endless 0 (Session 0) 0 c.loop-rows.rest.now c.in_default.ensures.none in
    walk-endless c.args.schema.now c.requires c.args.count c.args.lines.now c.loop-rows.rows c.loop-rows.below c.loop-rows.rest.now c.loop-rows.invariant none (lines-one 0 (Session 0) 0 c.loop-rows.rest.now none)

pub returns-then-is_none : goal.returns-then-is_none
returns-then-is_none c =
    key-lacks c.args.schema.now c.requires c.args.count c.args.lines.now c.loop-rows.rows c.loop-rows.below c.loop-rows.rest.now c.loop-rows.invariant
    c.in-Some.line.now c.in-Some.others.now c.in-Some.ensures.text c.in-Some.ensures.whole c.in_ok-key.key c.in_ok-key.ensures c.if-is_none.ensures c.loop-rows-test.true
