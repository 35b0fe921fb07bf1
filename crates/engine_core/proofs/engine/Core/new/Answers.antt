use Rattle.engine_core.proofs.Wholes.{never_full}
use Rattle.engine_core.proofs.engine.Core.new.Goals as goal

pub unreachable-requires : goal.unreachable-requires
unreachable-requires c =
    never_full (record { tables = c.args.tables.items; passes = c.args.passes; first = c.new.result }) c.in-Err-Full.field-0-0 c.new.ensures
    (c.in-Err-Full.ensures.full c.in-Err-Full.field-0-0 c.in-Err-Full.field-0-is)
