-- The commit numbers that a run prints, against the history that its rounds leave.
use Rattle.std.specs.Prelude.{◌≡◌, ℕ, ◌≤◌, List, Some, All, length, take}
use Rattle.workload_spec.specs.declared.reply.Said.TheVariants as said
use Rattle.workload_spec.specs.declared.script.Script.{Script}
use Rattle.run_spec.specs.Calls.{Call}
use Rattle.run_spec.specs.Histories.{history_at}
use Rattle.run_spec.specs.Occurrences.{Logged}
use Rattle.run_spec.specs.Ran.{IsRunnable, Ran, RoundRun, Share}

-- a commit that a call tells with a number is one of so many
abbrev pub IsWithin : ℕ → Call → Type 0
IsWithin most call = (number : ℕ) → call.told ≡ Some (said.Committed (Some number)) → number ≤ most

abbrev pub AreWithin : ℕ → RoundRun → Type 0
AreWithin most round = All (λ (share : Share). All (IsWithin most) share.calls) round.shares

-- Each number that is told in the first so many rounds of a run is one of the history behind these,
-- and behind more of them.
abbrev pub NumbersAreWithin : Type 0
NumbersAreWithin = (script : Script) (log : List Logged) (text : List ℕ) (shown count : ℕ)
    → IsRunnable script
    → (ran : Ran script log text)
    → shown ≤ count
    → All (AreWithin (length (history_at script ran.rounds count))) (take shown ran.rounds)
