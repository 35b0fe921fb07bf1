use Rattle.std.proofs.Common.{ap, ◌∙◌, sym, arith}
use Rattle.block_spec.specs.Bodies.{is_empty}
use Rattle.core_parts.proofs.Telling.{body_there, head_there}
use Rattle.core_sweeps.proofs.Handing.{body_is_in, told_not}
use Rattle.core_sweeps.specs.SweepSteps.{body_in}
use Rattle.core_sweeps.proofs.sweeping.tell_empty.Goals as goal

pub blocks-requires : goal.blocks-requires
blocks-requires c = head_there c.args.shape.now c.args.held.now c.args.table c.requires.head

pub prove-unreachable-requires : goal.prove-unreachable-requires
prove-unreachable-requires c =
    let less = (body_there c.args.shape.now c.args.held.now c.args.table c.args.block c.requires.body).1 in
    let is = c.blocks-2.ensures.blocks in
    let past = c.if-prove.true in
    omega (arith, less, is, past)

pub returns-else-empty : goal.returns-else-empty
returns-else-empty c =
    told_not c.args.shape.now c.args.table c.args.block (is_empty (body_in c.args.shape.now c.args.held.now c.args.table c.args.block)) c.args.held.now
    (ap is_empty (body_is_in c.args.shape.now c.args.held.now c.args.table c.args.block c.body.result.now c.body.ensures) ∙ sym c.empty.ensures ∙ c.if-empty.false)
