use Rattle.std.proofs.Common.{[], get_or, unwrap_or, ◌∙◌}
use Rattle.std.specs.Prelude.{None}
use Rattle.core_events.proofs.Patching.{adds_nothing, adds_other}
use Rattle.core_events.proofs.patches.add_difference.Goals as goal

pub returns-then-not-differs : goal.returns-then-not-differs
returns-then-not-differs c = adds_nothing (unwrap_or (get_or c.args.columns.now.rows c.args.slot None) []) c.args.column c.args.cell c.differs.result c.differs.ensures c.args.assignments.now.items c.if-not-differs.true

pub returns : goal.returns
returns c =
    c.in_ok-push.ensures.items
    ∙ adds_other (unwrap_or (get_or c.args.columns.now.rows c.args.slot None) []) c.args.column c.args.cell c.differs.result c.differs.ensures c.args.assignments.now.items c.if-not-differs.false
