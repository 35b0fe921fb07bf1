use Rattle.commit_log.proofs.OneReading.{one_reading}
use Rattle.commit_log.proofs.laws.bytes_have_one_reading.Goals as goal

pub returns : goal.returns
returns c = one_reading
