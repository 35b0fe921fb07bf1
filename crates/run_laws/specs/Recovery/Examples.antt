-- Worked examples of what a crash leaves of a run's log.
use Rattle.std.specs.Prelude.{◌≡◌, ℕ, ◌≤◌, List, [], ◌∷◌, ◌++◌, codes, get_or, Option, Some}
use Rattle.event_spec.specs.declared.reply.Reply.TheVariants as reply
use Rattle.isolation_spec.specs.Contents.{History}
use Rattle.log_spec.specs.Examples.{one_row, record_bytes, tables}
use Rattle.outcome_spec.specs.Samples.{sessions, texts}
use Rattle.workload_spec.specs.declared.script.Script.{Script}
use Rattle.run_spec.specs.CommitExamples.{begin, commit, insert, ok}
use Rattle.run_spec.specs.Ran.{RoundRun}
use Rattle.run_laws.specs.Recovery.Leaves.{BeginsWith, LeavesRounds, Survives}

-- a run over these commits, of which nothing else is looked at
abbrev pub over : History → Script
over first = record (sessions (texts 1) []) { tables = tables; begun = first }

-- a round in which a session commits a row
abbrev pub commits_a_row : RoundRun
commits_a_row = record {
  made = begin 1 ∷ insert 1 1 ok ∷ commit 1 (reply.Committed (Some 1)) ∷ [];
  shares = [];
}

-- a log of no record, of that row's, and a spoiled one, which has not even a gate
abbrev pub empty_log : List ℕ
empty_log = codes "MAINLOG1" ++ 0 ∷ []

abbrev pub row_log : List ℕ
row_log = codes "MAINLOG1" ++ (record_bytes 1 ++ 0 ∷ [])

abbrev pub cut_log : List ℕ
cut_log = codes "MAINLOG1"

-- ---- rounds

-- The log with the row leaves the round that committed it, and the one without leaves none of the
-- rounds; it is not enough where the round's lines were printed.
abbrev pub LogsLeaveRounds : Type 0
LogsLeaveRounds =
    LeavesRounds (over []) (commits_a_row ∷ []) 1 row_log
    × LeavesRounds (over []) (commits_a_row ∷ []) 0 empty_log
    × (LeavesRounds (over []) (commits_a_row ∷ []) 1 empty_log → ⊥)

-- A run that began with the row has to leave it, and a log that is spoiled leaves nothing.
abbrev pub FirstCommitsAreLeft : Type 0
FirstCommitsAreLeft =
    LeavesRounds (over one_row) [] 0 row_log
    × (LeavesRounds (over one_row) [] 0 empty_log → ⊥)
    × (LeavesRounds (over one_row) [] 0 cut_log → ⊥)

-- A run begins with what its file gives, and with nothing where it is empty.
abbrev pub FilesGiveTheFirst : Type 0
FilesGiveTheFirst =
    BeginsWith tables (Some row_log) one_row
    × BeginsWith tables (Some []) []
    × (BeginsWith tables (Some []) one_row → ⊥)
    × (BeginsWith tables (Some empty_log) one_row → ⊥)

-- ---- a disk

-- a disk that had these files, one at each moment, and is at one of them: a crash leaves just the
-- file that is there
pub record Disk : Type 0 where
  pub files : List (List ℕ)
  pub now : ℕ

abbrev pub file_at : Disk → ℕ → List ℕ
file_at disk at = get_or disk.files at []

abbrev pub told : Disk → Option (List ℕ)
told disk = Some (file_at disk disk.now)

abbrev pub moment : Disk → ℕ
moment disk = disk.now

abbrev pub left_since : Disk → ℕ → List ℕ → Type 0
left_since disk since c = (at : ℕ) × (since ≤ at) × (at ≤ disk.now) × (c ≡ file_at disk at)

abbrev pub may_leave : Disk → List ℕ → Type 0
may_leave disk c = c ≡ file_at disk disk.now

-- The run's log survives on a disk with these files, from the first of them to the last.
abbrev pub SurvivesOn : List (List ℕ) → ℕ → History → List RoundRun → ℕ → Type 0
SurvivesOn files last first rounds printed =
    Survives told moment left_since may_leave
    (record { files = files; now = 0 }) (record { files = files; now = last })
    (over first) rounds printed

-- It survives where the log is made and the row appended. It does not where the round's lines were
-- printed and nothing was appended, and not where the file was spoiled for a while.
abbrev pub SpoiledFilesDoNotSurvive : Type 0
SpoiledFilesDoNotSurvive =
    SurvivesOn ([] ∷ empty_log ∷ row_log ∷ []) 2 [] (commits_a_row ∷ []) 1
    × (SurvivesOn ([] ∷ empty_log ∷ empty_log ∷ []) 2 [] (commits_a_row ∷ []) 1 → ⊥)
    × (SurvivesOn (row_log ∷ cut_log ∷ row_log ∷ []) 2 one_row [] 0 → ⊥)
