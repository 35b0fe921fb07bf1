use Rattle.std.proofs.Common.{refl}
use Rattle.bench_script.proofs.Fine.{generated_valid}
use Rattle.bench_script.proofs.laws.what_is_generated_is_a_workload.Goals as goal

pub returns : goal.returns
returns c = λ seed size few. record { valid = generated_valid seed size few; begun = refl }
