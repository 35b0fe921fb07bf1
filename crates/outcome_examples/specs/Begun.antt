-- Outputs of a store that begins with two commits, which leave one row: what they show of it, and
-- how they fail.
use Rattle.std.specs.Prelude.{codes, ℕ, List, [], ◌∷◌}
use Rattle.outcome_spec.specs.BegunExamples.{behind_two}
use Rattle.outcome_spec.specs.Samples.{Explains, FailsAt, asks, begin, begin_checked, commit, delete}
use Rattle.outcome_spec.specs.Samples.{export, get, insert, range, scan, total, update}
use Rattle.workload_spec.specs.declared.script.Line.{Line}

-- the output of one round of these lines is explained, or fails at a line
abbrev pub Shows : List Line → List (List ℕ) → Type 0
Shows lines output = Explains (behind_two (lines ∷ [])) output

abbrev pub Fails : List Line → List (List ℕ) → ℕ → Type 0
Fails lines output number = FailsAt (behind_two (lines ∷ [])) output number

-- a transaction in which one command is asked
abbrev pub asked_once : Line → List Line
asked_once line = begin 1 ∷ line ∷ []

-- it is told this, on the second line, in vain
abbrev pub IsFalse : Line → List ℕ → Type 0
IsFalse line told = Fails (asked_once line) (codes "1 1 1 at 2" ∷ told ∷ []) 2

abbrev pub IsTrue : Line → List ℕ → Type 0
IsTrue line told = Shows (asked_once line) (codes "1 1 1 at 2" ∷ told ∷ [])

-- Each read shows the row that the commits left, as the last of them left it.
abbrev pub ReadsAreJudged : Type 0
ReadsAreJudged =
    IsTrue (get 1 1) (codes "1 1 2 row 1 \"y\"")
    × IsFalse (get 1 1) (codes "1 1 2 none")
    × IsFalse (get 1 1) (codes "1 1 2 row 1 \"x\"")
    × IsTrue (get 1 2) (codes "1 1 2 none")
    × IsFalse (get 1 2) (codes "1 1 2 row 2 \"x\"")
    × Shows (asked_once (scan 1))
    (codes "1 1 1 at 2" ∷ codes "1 1 2 rows 1" ∷ codes "| 1 \"y\"" ∷ [])
    × IsFalse (scan 1) (codes "1 1 2 rows 0")
    × Shows (asked_once (range 1 1 5))
    (codes "1 1 1 at 2" ∷ codes "1 1 2 rows 1" ∷ codes "| 1 \"y\"" ∷ [])
    × IsFalse (range 1 1 5) (codes "1 1 2 rows 0")
    × IsTrue (total 1 0 0 9) (codes "1 1 2 total 1 1")
    × IsFalse (total 1 0 0 9) (codes "1 1 2 total 0 0")
    × IsTrue (export 1) (codes "1 1 2 export 2 rows 1 batches 1 frozen 0")
    × IsFalse (export 1) (codes "1 1 2 export 2 rows 0 batches 0 frozen 0")
    × IsFalse (export 1) (codes "1 1 2 export 2 rows 1 batches 1 frozen 1")

-- A write finds the row, and none where it was removed.
abbrev pub WritesAreJudged : Type 0
WritesAreJudged =
    IsTrue (insert 1 1 (codes "z")) (codes "1 1 2 exists")
    × IsFalse (insert 1 1 (codes "z")) (codes "1 1 2 ok")
    × IsTrue (insert 1 2 (codes "z")) (codes "1 1 2 ok")
    × IsFalse (insert 1 2 (codes "z")) (codes "1 1 2 exists")
    × IsTrue (update 1 1 (codes "z")) (codes "1 1 2 ok")
    × IsFalse (update 1 1 (codes "z")) (codes "1 1 2 missing")
    × IsTrue (delete 1 2) (codes "1 1 2 missing")
    × IsFalse (delete 1 2) (codes "1 1 2 ok")
    × IsFalse (update 1 1 (codes "z")) (codes "1 1 2 conflict #2")

-- two sessions commit, one behind the other
abbrev pub two_more : List Line
two_more =
    begin 1 ∷ insert 1 5 (codes "z") ∷ commit 1 ∷ begin 2 ∷ insert 2 6 (codes "z") ∷ commit 2 ∷ []

abbrev pub numbered : List ℕ → List ℕ → List (List ℕ)
numbered first second =
    codes "1 1 1 at 2" ∷ codes "1 1 2 ok" ∷ first ∷ codes "1 2 1 at 2" ∷ codes "1 2 2 ok" ∷ second
    ∷ []

-- Numbers go on behind those of the two, without a gap, in whichever order the commits came about.
abbrev pub NumbersAreJudged : Type 0
NumbersAreJudged =
    Shows two_more (numbered (codes "1 1 3 committed 3") (codes "1 2 3 committed 4"))
    × Shows two_more (numbered (codes "1 1 3 committed 4") (codes "1 2 3 committed 3"))
    × Fails two_more (numbered (codes "1 1 3 committed 3") (codes "1 2 3 committed 5")) 6
    × Fails two_more (numbered (codes "1 1 3 committed 1") (codes "1 2 3 committed 2")) 1
    × Fails two_more (numbered (codes "1 1 3 committed 3") (codes "1 2 3 committed 3")) 3

-- a checked transaction gets the row, which another one changes
abbrev pub read_and_changed : List (List Line)
read_and_changed =
    (begin_checked 1 ∷ get 1 1 ∷ insert 1 5 (codes "z") ∷ [])
    ∷ (begin 2 ∷ update 2 1 (codes "w") ∷ commit 2 ∷ [])
    ∷ (commit 1 ∷ [])
    ∷ []

abbrev pub read_told : List ℕ → List (List ℕ)
read_told last =
    codes "1 1 1 at 2" ∷ codes "1 1 2 row 1 \"y\"" ∷ codes "1 1 3 ok"
    ∷ codes "2 2 1 at 2" ∷ codes "2 2 2 ok" ∷ codes "2 2 3 committed 3" ∷ last ∷ []

-- A read is stale by a commit behind the two, and by none of them.
abbrev pub StaleReadsAreJudged : Type 0
StaleReadsAreJudged =
    Explains (behind_two read_and_changed) (read_told (codes "3 1 1 stale a 1 #3"))
    × FailsAt (behind_two read_and_changed) (read_told (codes "3 1 1 stale a 1 #2")) 7
    × FailsAt (behind_two read_and_changed) (read_told (codes "3 1 1 committed 4")) 7
