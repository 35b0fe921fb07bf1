use Rattle.std.proofs.Common.{refl}
use Rattle.engine_core.proofs.Told.{written_runs}
use Rattle.event_spec.specs.declared.event.Event.TheVariants as event
use Rattle.engine_core.proofs.replies.inserted.Goals as goal

pub returns : goal.returns
returns c = written_runs c.args.shape.now (event.Insert c.args.own.now c.args.table c.args.row) c.args.held.now c.insert.new.held c.told.result c.insert.result
    c.told.ensures.judged c.told.ensures.refused c.insert.ensures.ok c.insert.ensures.err refl
