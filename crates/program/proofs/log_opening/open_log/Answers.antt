use Rattle.std.proofs.Common.{◌∙◌}
use Rattle.program.proofs.log_opening.open_log.Goals as goal

pub returns-in-Ok-clause-none : goal.returns-in-Ok-clause-none
returns-in-Ok-clause-none g c = λ place is bytes told.
    c.make_or_open.ensures.none place is bytes (c.start_log.ensures.reads.same ∙ told)
