-- How the flush behind a work ends.
use Rattle.std.specs.Prelude.{◌≡◌, ◌⊎◌, ℕ, true}
use Rattle.byte_ports.specs.Calls.{Rose}
use Rattle.program.specs.Outcome.{is_flushed}
use Rattle.program.specs.declared.status.Status.{Status}
use Rattle.program.specs.declared.status.Status.TheVariants as status

-- The program ends as the work did, and no call failed.
pub record StandsFlushed (worked ended : Status) (before now : ℕ) : Type 0 where
  pub same : ended ≡ worked
  pub kept : now ≡ before

-- The flush behind a work that told of no failed call failed.
pub record TurnsToFault (worked ended : Status) (before now : ℕ) : Type 0 where
  pub well : is_flushed worked ≡ true
  pub told : ended ≡ status.OutFault
  pub rose : Rose before now

-- how the program ends behind a work, and what its flush makes of the output's count of faults
abbrev pub FlushEnds : Status → Status → ℕ → ℕ → Type 0
FlushEnds worked ended before now = StandsFlushed worked ended before now
    ⊎ TurnsToFault worked ended before now
