use Rattle.std.specs.List.{range_with_len}
use Rattle.std.proofs.Common.{◌+◌, length}
use Rattle.outcome_spec.specs.Explained.{run_in}
use Rattle.outcome_spec.specs.Runs.{commit_count}
use Rattle.serial_laws.specs.Serial.{ChecksAreSerial}
use Rattle.serial_laws.proofs.Whole.{is_of, commits_as}
use Rattle.serial_laws.proofs.Serial.{served, shown-order}
use Rattle.serial_laws.proofs.laws.checked_transactions_are_serial.Goals as goal

law : ChecksAreSerial
law script text t number ordered explained opened checked ending ends is entry of =
    served (run_in script text) t number
    (shown-order (run_in script text) ordered (range_with_len (length script.begun + 1) (commit_count (run_in script text).entries)))
    explained.replies checked
    (commits_as script text explained t opened ending number ends is) entry (is_of script text explained t opened entry of)

pub returns : goal.returns
returns c = law
