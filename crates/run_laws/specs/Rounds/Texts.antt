-- The rounds that ran are a run of their workload, with the text of their lines.
use Rattle.std.specs.Prelude.{◌≡◌, ℕ, ◌<◌, ◌^◌, List, [], map, None, Some, All}
use Rattle.outcome_spec.specs.Explained.{Explained}
use Rattle.timeline_spec.specs.Printed.{text_of}
use Rattle.workload_spec.specs.declared.reply.Said.TheVariants as said
use Rattle.workload_spec.specs.declared.reply.Who.{Who}
use Rattle.workload_spec.specs.declared.script.Line.{Line}
use Rattle.workload_spec.specs.declared.script.Script.{Script}
use Rattle.run_laws.specs.Explained.Timelines.{PruningsFit}
use Rattle.run_spec.specs.Calls.{Call, Kept}
use Rattle.run_spec.specs.Occurrences.{Logged}
use Rattle.run_spec.specs.Ran.{IsRunnable, Ran, RoundRun, Share, agenda_of, agendas_in, calls_of}
use Rattle.run_spec.specs.Ran.{told_in}
use Rattle.run_laws.specs.Rounds.Fronts.{with_rounds}
use Rattle.run_laws.specs.Rounds.Lines.{rounds_text}
use Rattle.run_laws.specs.Rounds.Rounds.{RanSoFar}

-- The text that calls told is that of their lines, round by round and share by share.
abbrev pub TextsAreLines : Type 0
TextsAreLines = (script : Script) (asked : List (List Line)) (rounds : List RoundRun)
    → map (λ round. map agenda_of round.shares) rounds ≡ map (agendas_in script) asked
    → text_of (with_rounds asked script) (told_in rounds) ≡ rounds_text script.tables 1 rounds

-- The script ran with this log and printed this text, and these are its rounds.
pub record RanAs (script : Script) (rounds : List RoundRun) (log : List Logged) (text : List ℕ)
    : Type 0 where
  pub ran : Ran script log text
  pub rounds_are : ran.rounds ≡ rounds

-- The rounds that ran are a run of a script of just these rounds, where each call knows what those
-- of its session before it were told that was read.
abbrev pub RoundsRan : Type 0
RoundsRan = (script : Script) (asked : List (List Line)) (rounds : List RoundRun)
    (finished : List Logged)
    → RanSoFar script asked rounds finished
    → ((who : Who) → Kept None (calls_of who rounds))
    → RanAs (with_rounds asked script) rounds finished (rounds_text script.tables 1 rounds)

-- what a call told is no pruning's count beyond 64 bits
abbrev pub IsCounted : Call → Type 0
IsCounted call = (count : ℕ) → call.told ≡ Some (said.Pruned count) → count < 2 ^ 64

abbrev pub AreCounted : RoundRun → Type 0
AreCounted round = All (λ (share : Share). All IsCounted share.calls) round.shares

-- So no count that was told is.
abbrev pub CountsFit : Type 0
CountsFit = (rounds : List RoundRun) → All AreCounted rounds → PruningsFit (told_in rounds)

-- Where these are a workload, and no count of a pruning is beyond 64 bits, the text is explained.
abbrev pub RoundsAreExplained : Type 0
RoundsAreExplained = (script : Script) (asked : List (List Line)) (rounds : List RoundRun)
    (finished : List Logged)
    → IsRunnable (with_rounds asked script)
    → RanSoFar script asked rounds finished
    → ((who : Who) → Kept None (calls_of who rounds))
    → All AreCounted rounds
    → Explained (with_rounds asked script) (rounds_text script.tables 1 rounds)

-- Of a workload without a round the empty text is explained.
abbrev pub NothingIsExplained : Type 0
NothingIsExplained = (script : Script) → Explained (with_rounds [] script) []
