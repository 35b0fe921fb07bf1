use Rattle.bench_laws.proofs.Told.{told-of}
use Rattle.bench_laws.proofs.Totals.{all-accepted}
use Rattle.bench_laws.proofs.laws.each_write_is_accepted.Goals as goal

pub returns : goal.returns
returns c = λ seed size text replies run. all-accepted seed size run.fits replies (told-of seed size text replies run.explained run.read run.unrefused)
