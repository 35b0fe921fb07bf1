-- Worked examples of outputs of stores that begin with commits, as facts.
use Rattle.std.specs.Prelude.{◌≡◌, ℕ, true, false, List, [], ◌∷◌, ◌++◌, map, pos, None, Some, codes}
use Rattle.std.specs.List.{range_with_len}
use Rattle.isolation_spec.specs.Contents.{History, WriteSet, place_at}
use Rattle.workload_spec.specs.declared.command.Command.TheVariants as command
use Rattle.workload_spec.specs.declared.reply.Said.TheVariants as said
use Rattle.workload_spec.specs.declared.reply.Who.TheVariants.{Session}
use Rattle.workload_spec.specs.declared.script.Line.{Line}
use Rattle.workload_spec.specs.declared.script.Script.{Script}
use Rattle.outcome_spec.specs.Entries.{Entry}
use Rattle.outcome_spec.specs.Numbers.{is_commit_number}
use Rattle.outcome_spec.specs.Runs.{Run, run_from}
use Rattle.outcome_spec.specs.Samples.{texts, keys, sessions, text_row, key_row, begin, get, scan}
use Rattle.outcome_spec.specs.Samples.{insert, update, put, commit, abort, Explains, FailsAt}

-- ---- Two commits of texts

-- the first leaves the rows 1 and 2, and the second changes 1 and removes 2
abbrev pub two_commits : History
two_commits =
    ((place_at 0 (pos 1), Some (text_row 1 (codes "x")))
    ∷ (place_at 0 (pos 2), Some (text_row 2 (codes "x"))) ∷ [])
    ∷ ((place_at 0 (pos 1), Some (text_row 1 (codes "y"))) ∷ (place_at 0 (pos 2), None) ∷ []) ∷ []

-- these rounds over them
abbrev pub behind_two : List (List Line) → Script
behind_two rounds = record (sessions (texts 2) rounds) { begun = two_commits }

-- a session reads, and commits a row
abbrev pub one_more : Script
one_more = behind_two
    ((begin 1 ∷ scan 1 ∷ insert 1 2 (codes "z") ∷ commit 1 ∷ begin 1 ∷ get 1 2 ∷ []) ∷ [])

abbrev pub scanned : List (List ℕ)
scanned = codes "1 1 2 rows 1" ∷ codes "| 1 \"y\"" ∷ codes "1 1 3 ok" ∷ []

-- the first snapshot sees both commits, and the next commit is the third
abbrev pub third_commit : Type 0
third_commit = Explains one_more
    (codes "1 1 1 at 2" ∷ (scanned ++ codes "1 1 4 committed 3" ∷ codes "1 1 5 at 3" ∷ codes
    "1 1 6 row 2 \"z\"" ∷ []))

-- a snapshot does not see fewer, and not more
abbrev pub snapshot_before_the_first : Type 0
snapshot_before_the_first =
    FailsAt (behind_two ((begin 1 ∷ abort 1 ∷ []) ∷ []))
    (codes "1 1 1 at 1" ∷ codes "1 1 2 aborted" ∷ []) 1
    × FailsAt (behind_two ((begin 1 ∷ abort 1 ∷ []) ∷ []))
    (codes "1 1 1 at 3" ∷ codes "1 1 2 aborted" ∷ []) 1

-- a commit is not numbered above the count of all
abbrev pub number_above_all : Type 0
number_above_all = FailsAt one_more
    (codes "1 1 1 at 2" ∷ (scanned ++ codes "1 1 4 committed 4" ∷ codes "1 1 5 at 3" ∷ codes
    "1 1 6 row 2 \"z\"" ∷ [])) 5

-- a commit with this number, and a run of it alone
abbrev pub commits_with : ℕ → Entry
commits_with number = record {
  number = 1;
  command = command.Commit;
  reply = record { round = 1; who = Session 1; index = 1; said = said.Committed (Some number) };
}

abbrev pub alone : ℕ → Run
alone number = run_from two_commits (texts 2 ∷ []) (commits_with number ∷ [])

-- it has no number of the first, and none above the count of all
abbrev pub number_of_the_first : Type 0
number_of_the_first =
    map (λ number. is_commit_number (alone number) (commits_with number) number)
    (0 ∷ 1 ∷ 2 ∷ 3 ∷ 4 ∷ []) ≡ false ∷ false ∷ false ∷ true ∷ false ∷ []

-- a conflict names the commit behind them
abbrev pub conflict_behind_the_first : Type 0
conflict_behind_the_first = Explains
    (behind_two ((begin 1 ∷ []) ∷ (begin 2 ∷ update 2 1 (codes "z") ∷ commit 2 ∷ [])
    ∷ (update 1 1 (codes "w") ∷ []) ∷ []))
    (codes "1 1 1 at 2" ∷ codes "2 2 1 at 2" ∷ codes "2 2 2 ok" ∷ codes "2 2 3 committed 3" ∷ codes
    "3 1 1 conflict #3" ∷ [])

-- ---- A table with seven of eight rows

abbrev pub seven_rows : WriteSet
seven_rows = map (λ key. (place_at 0 (pos key), Some (key_row key))) (range_with_len 1 7)

abbrev pub nearly_full : List Line → Script
nearly_full lines = record (sessions (keys 1) (lines ∷ [])) { begun = seven_rows ∷ [] }

-- it is full with one insert, and not without
abbrev pub full_with_the_first : Type 0
full_with_the_first =
    Explains (nearly_full (begin 1 ∷ put 1 8 ∷ put 1 9 ∷ []))
    (codes "1 1 1 at 1" ∷ codes "1 1 2 ok" ∷ codes "1 1 3 full" ∷ [])
    × FailsAt (nearly_full (begin 1 ∷ put 1 8 ∷ [])) (codes "1 1 1 at 1" ∷ codes "1 1 2 full" ∷ []) 2
