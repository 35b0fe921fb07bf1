use Rattle.std.proofs.Common.{◌≡◌}
use Rattle.core_parts.proofs.FirstParts.{body_laid}
use Rattle.event_spec.specs.Parts.{slots_of}
use Rattle.event_spec.specs.Replay.{columns_in, rows_first}
use Rattle.core_parts.proofs.first_parts.body_over.Given as goal

abbrev pub invariant-loop-slot : goal.invariant-loop-slot
invariant-loop-slot l = l.body ≡ body_laid (columns_in l.shape l.table) (slots_of l.shape l.table) (rows_first l.shape l.table) l.block l.slot
