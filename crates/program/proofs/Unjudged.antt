-- Where memory is refused before the words are judged.
use Rattle.std.proofs.Common.{ℕ, List, Option, None, Some, inl, refl}
use Rattle.program.specs.Outcome.{IsLeft, OfDisk, WorkEnds, outside}
use Rattle.program.specs.Words.{Asked, ToBench, ToCheck, ToHelp, ToLog, ToRun, ToShow, ToVersion}
use Rattle.program.specs.declared.status.Status.TheVariants as status
use Rattle.program.proofs.Shown.{ends-at-once}

-- Whatever the words ask for, nothing has changed.
pub ends-unjudged : (asked : Option Asked) (disk : OfDisk) → IsLeft disk
    → (left printed exported : Option (List ℕ)) (started : Option (List (List ℕ)))
    → WorkEnds asked disk status.Memory
    (outside left printed exported started) (outside left printed exported started)
ends-unjudged None disk none left printed exported started = refl
ends-unjudged (Some (ToRun path log)) disk none left printed exported started =
    inl (none, record { printed = refl; outlet = record { exported = refl; started = refl } })
ends-unjudged (Some ToShow) disk none left printed exported started =
    ends-at-once left printed exported started
ends-unjudged (Some ToCheck) disk none left printed exported started =
    record { printed = refl; outlet = record { exported = refl; started = refl } }
ends-unjudged (Some (ToBench seed size)) disk none left printed exported started = refl
ends-unjudged (Some (ToLog path)) disk none left printed exported started =
    (inl none.unstarted, record { printed = refl; outlet = record { exported = refl; started = refl } })
ends-unjudged (Some ToHelp) disk none left printed exported started = refl
ends-unjudged (Some ToVersion) disk none left printed exported started = refl
