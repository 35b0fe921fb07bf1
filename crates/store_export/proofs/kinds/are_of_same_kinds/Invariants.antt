use Rattle.std.proofs.Common.{◌≡◌, take}
use Rattle.core_parts.specs.Kinds.{kinds_of}
use Rattle.store_export.proofs.kinds.are_of_same_kinds.Given as goal

abbrev pub invariant-loop-at : goal.invariant-loop-at
invariant-loop-at l = take l.at (kinds_of l.one.columns) ≡ take l.at (kinds_of l.other)
