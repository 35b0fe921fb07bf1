use Rattle.outcome_spec.specs.Forms.{dues_of}
use Rattle.outcome_spec.specs.Lines.{lines_of}
use Rattle.order_laws.proofs.Dues.{dues-upkeep}
use Rattle.order_laws.proofs.Walk.{read-outside}
use Rattle.order_laws.proofs.reading_laws.replies_that_are_read_open_outside.Goals as goal

pub returns : goal.returns
returns c = λ script text entries is. read-outside script.tables (dues_of script) (lines_of text) entries (dues-upkeep script) is
