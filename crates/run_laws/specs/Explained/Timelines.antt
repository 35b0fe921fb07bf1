-- That a run gives a timeline.
use Rattle.std.specs.Prelude.{ℕ, ◌<◌, ◌^◌, List, Option, Some}
use Rattle.event_spec.specs.Lawful.{Among}
use Rattle.outcome_spec.specs.Explained.{Explained}
use Rattle.timeline_spec.specs.Printed.{printed_of}
use Rattle.timeline_spec.specs.Timeline.{TimelineFrom}
use Rattle.workload_spec.specs.declared.reply.Said.{Said}
use Rattle.workload_spec.specs.declared.reply.Said.TheVariants as said
use Rattle.workload_spec.specs.declared.script.Script.{Script}
use Rattle.run_spec.specs.Occurrences.{Logged}
use Rattle.run_spec.specs.Ran.{IsRunnable, Ran, told_in}
use Rattle.run_laws.specs.Moments.Moments.{moments_of, replies_at}

-- each count of a pruning among these lines has 64 bits
abbrev pub PruningsFit : List (Option Said) → Type 0
PruningsFit lines = (count : ℕ) → Among (Some (said.Pruned count)) lines → count < 2 ^ 64

-- The moments of a run are a timeline of its printed replies.
abbrev pub RunsGiveTimelines : Type 0
RunsGiveTimelines = (script : Script) (log : List Logged) (text : List ℕ)
    → IsRunnable script
    → (ran : Ran script log text)
    → TimelineFrom
    script.begun
    script.tables
    (printed_of script (told_in ran.rounds))
    (replies_at (moments_of script ran.rounds))

-- Where the counts of prunings have 64 bits, as they are printed, the text of a run is explained.
abbrev pub RunsAreExplained : Type 0
RunsAreExplained = (script : Script) (log : List Logged) (text : List ℕ)
    → IsRunnable script
    → (ran : Ran script log text)
    → PruningsFit (told_in ran.rounds)
    → Explained script text
