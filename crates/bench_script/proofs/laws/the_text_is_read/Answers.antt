use Rattle.bench_script.proofs.Read.{generated_read}
use Rattle.bench_script.proofs.laws.the_text_is_read.Goals as goal

pub returns : goal.returns
returns c = generated_read
