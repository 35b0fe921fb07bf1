use Rattle.outcome_spec.specs.Forms.{dues_of}
use Rattle.outcome_spec.specs.Lines.{lines_of}
use Rattle.order_laws.proofs.Dues.{dues-rise}
use Rattle.order_laws.proofs.Walk.{read-rise}
use Rattle.order_laws.proofs.reading_laws.replies_that_are_read_rise.Goals as goal

pub returns : goal.returns
returns c = λ script text entries is. read-rise script.tables (dues_of script) (lines_of text) entries (dues-rise script) is
