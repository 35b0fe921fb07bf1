use Rattle.workload_laws.proofs.NarrowScripts.{read_within}
use Rattle.workload_laws.proofs.an_extent_takes_what_runs_within_it.Goals as goal

pub returns : goal.returns
returns c = read_within
