use Rattle.bench_laws.proofs.Told.{told-of}
use Rattle.bench_laws.proofs.Totals.{counted-are}
use Rattle.bench_laws.proofs.laws.what_is_counted_is_the_same_at_each_run.Goals as goal

pub returns : goal.returns
returns c = λ seed size text replies run. counted-are seed size run.fits replies (told-of seed size text replies run.explained run.read run.unrefused)
