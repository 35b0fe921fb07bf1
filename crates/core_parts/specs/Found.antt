-- The parts that were found of those that a transaction wrote.
use Rattle.std.specs.Prelude.{IfSome, ℕ}
use Rattle.core_parts.specs.declared.keyed.Found.{Found}
use Rattle.core_parts.specs.declared.written.PartKind.TheVariants as kinds
use Rattle.core_parts.specs.Written.{AreWritten}
use Rattle.isolation_spec.specs.Contents.{PlaceMap}

-- They are the bodies that the transaction wrote, and the shards, if these were found.
abbrev pub AreFound : PlaceMap ℕ → Found → Type 0
AreFound writes found = AreWritten kinds.Body writes found.bodies
    × IfSome found.shards (AreWritten kinds.Shard writes)
