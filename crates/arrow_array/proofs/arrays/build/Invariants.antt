use Rattle.std.proofs.Common.{◌≡◌, ◌++◌, drop}
use Rattle.arrow_spec.specs.Batches.{arrays_of}
use Rattle.arrow_array.proofs.ArrayLemmas.{arrays_from}
use Rattle.arrow_array.proofs.arrays.build.Given as goal

abbrev pub invariant-loop-place : goal.invariant-loop-place
invariant-loop-place l = l.arrays.items ++ arrays_from l.place (drop l.place l.columns) l.rows ≡ arrays_of l.columns l.rows
