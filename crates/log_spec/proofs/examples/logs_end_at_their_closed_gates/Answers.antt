use Rattle.log_spec.proofs.Samples.{no_records, two_records}
use Rattle.log_spec.proofs.examples.logs_end_at_their_closed_gates.Goals as goal

pub returns-clause-none : goal.returns-clause-none
returns-clause-none c = no_records

pub returns-clause-two : goal.returns-clause-two
returns-clause-two c = two_records
