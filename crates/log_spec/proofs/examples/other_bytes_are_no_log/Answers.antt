use Rattle.log_spec.proofs.Samples.{cut_short, longer_than_its_commits, no_commits, no_first_gate, no_next_gate, no_truth, other_front, second_cut_short, short_front}
use Rattle.log_spec.proofs.examples.other_bytes_are_no_log.Goals as goal

pub returns-clause-other : goal.returns-clause-other
returns-clause-other c = other_front

pub returns-clause-few : goal.returns-clause-few
returns-clause-few c = short_front

pub returns-clause-first : goal.returns-clause-first
returns-clause-first c = no_first_gate

pub returns-clause-next : goal.returns-clause-next
returns-clause-next c = no_next_gate

pub returns-clause-cut : goal.returns-clause-cut
returns-clause-cut c = cut_short

pub returns-clause-second : goal.returns-clause-second
returns-clause-second c = second_cut_short

pub returns-clause-commits : goal.returns-clause-commits
returns-clause-commits c = no_commits

pub returns-clause-longer : goal.returns-clause-longer
returns-clause-longer c = longer_than_its_commits

pub returns-clause-truth : goal.returns-clause-truth
returns-clause-truth c = no_truth
