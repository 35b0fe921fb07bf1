-- Lines of an output: outputs with their answers.
use Rattle.std.specs.Prelude.{codes, List, [], ◌∷◌, ◌++◌}
use Rattle.outcome_examples.specs.Cases.{Case, AreJudged, explained, fails_at, keys}

abbrev pub lines_cases : List Case
lines_cases =
    -- empty output
    fails_at 1 keys (codes "1 begin\n") [] ∷
    -- nothing due
    explained keys [] [] ∷
    -- blank line
    fails_at 1 keys [] (codes "\n") ∷
    -- no LF
    fails_at 1 keys (codes "1 begin\n") (codes "1 1 1 at 0") ∷
    -- no LF at 2
    fails_at 2 keys (codes "1 begin\n1 get a 1\n") (codes "1 1 1 at 0\n1 1 2 none") ∷
    -- open | line
    fails_at 6 keys (codes "1 begin\n1 insert a 1\n1 insert a 12\n1 scan a\n")
    (codes "1 1 1 at 0\n1 1 2 ok\n1 1 3 ok\n1 1 4 rows 2\n| 1\n| 12") ∷
    -- two spaces
    fails_at 1 keys (codes "1 begin\n") (codes "1 1 1  at 0\n") ∷
    -- space at end
    fails_at 1 keys (codes "1 begin\n") (codes "1 1 1 at 0 \n") ∷
    -- cr
    fails_at 1 keys (codes "1 begin\n") (codes "1 1 1 at 0" ++ 13 ∷ codes "\n") ∷ []

abbrev pub LinesAreJudged : Type 0
LinesAreJudged = AreJudged lines_cases
