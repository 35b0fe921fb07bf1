use Rattle.std.proofs.Common.{◌≡◌, pos, refl, arith}
use Rattle.std.specs.declared.cmp.Ordering.TheVariants.{Less, Equal, Greater}
use Rattle.isolation_spec.specs.Contents.{place_at}
use Rattle.isolation_spec.proofs.examples.other_writes_are_no_commits.Goals as goal

pub returns : goal.returns
returns c = (
  λ commit. commit.some refl,
  λ commit. let is : Greater ≡ Less = commit.rises.0 0 (place_at 0 (pos 0)) (omega arith) in let never : ⊥ = cc in never,
  λ commit. let is : Equal ≡ Less = commit.rises.0 0 (place_at 0 (pos 0)) (omega arith) in let never : ⊥ = cc in never,
  λ write. write.row,
  λ write. let is = write.key in let never : ⊥ = cc in never,
  λ write. let is = write.key in let never : ⊥ = cc in never,
  λ write. let is = write.row.key in let never : ⊥ = cc in never,
  λ write. let is = write.row.cells in let never : ⊥ = cc in never,
)
