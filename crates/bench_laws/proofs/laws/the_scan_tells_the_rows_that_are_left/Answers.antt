use Rattle.bench_laws.proofs.Told.{told-of}
use Rattle.bench_laws.proofs.Totals.{scanned-are}
use Rattle.bench_laws.proofs.laws.the_scan_tells_the_rows_that_are_left.Goals as goal

pub returns : goal.returns
returns c = λ seed size text replies run. scanned-are seed size run.fits replies (told-of seed size text replies run.explained run.read run.unrefused)
