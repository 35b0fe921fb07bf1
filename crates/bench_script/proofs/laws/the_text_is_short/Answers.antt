use Rattle.bench_script.proofs.Short.{text_is_short}
use Rattle.bench_script.proofs.laws.the_text_is_short.Goals as goal

pub returns : goal.returns
returns c = text_is_short
