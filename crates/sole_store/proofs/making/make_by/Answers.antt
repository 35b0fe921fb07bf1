use Rattle.std.proofs.Common.{refl}
use Rattle.engine_core.proofs.Wholes.{agrees, holds_each}
use Rattle.engine_core.specs.Core.{is_memory, parts_in}
use Rattle.sole_store.proofs.Whole.{parts_by, told_by, whole_by}
use Rattle.sole_store.proofs.making.make_by.Goals as goal

pub run-requires-clause-covered : goal.run-requires-clause-covered
run-requires-clause-covered g c = λ k less touched. holds_each c.args.shape.now c.args.hand.now c.requires.whole k less

pub run-requires-clause-lawful : goal.run-requires-clause-lawful
run-requires-clause-lawful g c = (
  parts_in c.args.hand.now,
  c.requires.whole.holds,
  agrees c.args.shape.now c.args.hand.now c.requires.whole,
  c.requires.lawful.0,
  c.requires.lawful.1,
)

pub returns-clause-whole : goal.returns-clause-whole
returns-clause-whole g c =
    whole_by c.args.shape.now c.args.hand.now c.run.new.held c.args.event c.run.result c.requires.whole c.requires.lawful c.run.ensures.room (is_memory c.run.result)
    (c.run.ensures.meets (parts_in c.args.hand.now) c.requires.whole.holds (agrees c.args.shape.now c.args.hand.now c.requires.whole) c.requires.lawful.0 c.requires.lawful.1)

pub returns-clause-parts : goal.returns-clause-parts
returns-clause-parts g c =
    parts_by c.args.shape.now c.args.hand.now c.run.new.held c.args.event c.run.result c.requires.whole c.requires.lawful c.run.ensures.room (is_memory c.run.result)
    (c.run.ensures.meets (parts_in c.args.hand.now) c.requires.whole.holds (agrees c.args.shape.now c.args.hand.now c.requires.whole) c.requires.lawful.0 c.requires.lawful.1)

pub returns-clause-told : goal.returns-clause-told
returns-clause-told g c =
    told_by c.args.shape.now c.args.hand.now c.run.new.held c.args.event c.run.result c.requires.whole c.requires.lawful c.run.ensures.room (is_memory c.run.result) refl
    (c.run.ensures.meets (parts_in c.args.hand.now) c.requires.whole.holds (agrees c.args.shape.now c.args.hand.now c.requires.whole) c.requires.lawful.0 c.requires.lawful.1)
