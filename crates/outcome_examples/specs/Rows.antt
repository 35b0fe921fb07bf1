-- Rows of scans: outputs with their answers.
use Rattle.std.specs.Prelude.{codes, List, [], ◌∷◌}
use Rattle.outcome_examples.specs.Cases.{Case, AreJudged, fails_at, keys}

abbrev pub rows_cases : List Case
rows_cases =
    -- rows too many
    fails_at 3 keys (codes "1 begin\n1 scan a\n") (codes "1 1 1 at 0\n1 1 2 rows 300\n") ∷
    -- rows then reply
    fails_at 5 keys (codes "1 begin\n1 insert a 1\n1 scan a\n1 get a 1\n")
    (codes "1 1 1 at 0\n1 1 2 ok\n1 1 3 rows 2\n| 1\n1 1 4 row 1\n") ∷
    -- row too many
    fails_at 4 keys (codes "1 begin\n1 insert a 1\n1 scan a\n1 get a 1\n")
    (codes "1 1 1 at 0\n1 1 2 ok\n1 1 3 rows 0\n| 1\n1 1 4 row 1\n") ∷
    -- rows 2^64
    fails_at 2 keys (codes "1 begin\n1 scan a\n")
    (codes "1 1 1 at 0\n1 1 2 rows 18446744073709551616\n") ∷
    -- rows 01
    fails_at 3 keys (codes "1 begin\n1 insert a 1\n1 scan a\n")
    (codes "1 1 1 at 0\n1 1 2 ok\n1 1 3 rows 01\n| 1\n") ∷
    -- equal keys
    fails_at 6 keys (codes "1 begin\n1 insert a 1\n1 insert a 2\n1 scan a\n")
    (codes "1 1 1 at 0\n1 1 2 ok\n1 1 3 ok\n1 1 4 rows 2\n| 1\n| 1\n") ∷
    -- false | row fails at its line
    fails_at 4 keys (codes "1 begin\n1 insert a 1\n1 scan a\n")
    (codes "1 1 1 at 0\n1 1 2 ok\n1 1 3 rows 1\n| x\n") ∷
    -- other row fails at the first
    fails_at 3 keys (codes "1 begin\n1 insert a 1\n1 scan a\n")
    (codes "1 1 1 at 0\n1 1 2 ok\n1 1 3 rows 1\n| 2\n") ∷ []

abbrev pub RowsAreJudged : Type 0
RowsAreJudged = AreJudged rows_cases
