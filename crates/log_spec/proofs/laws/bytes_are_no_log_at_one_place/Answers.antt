use Rattle.log_spec.proofs.Unique.{never_both, one_place}
use Rattle.log_spec.proofs.laws.bytes_are_no_log_at_one_place.Goals as goal

pub returns-clause-never : goal.returns-clause-never
returns-clause-never c = never_both

pub returns-clause-place : goal.returns-clause-place
returns-clause-place c = one_place
