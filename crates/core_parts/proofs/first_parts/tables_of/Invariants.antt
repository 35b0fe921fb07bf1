use Rattle.std.proofs.Common.{◌≡◌, ◌<◌, ℕ, take}
use Rattle.isolation_spec.specs.declared.read.Read.TheVariants as read
use Rattle.isolation_spec.specs.Reads.{meets}
use Rattle.txn_desk.specs.Marks.{is_marked}
use Rattle.core_parts.proofs.first_parts.tables_of.Given as goal

abbrev pub invariant-loop-place : goal.invariant-loop-place
invariant-loop-place l = (table : ℕ) → table < 16 → is_marked l.tables table ≡ meets (read.Table table) (take l.place-index l.place-items)
