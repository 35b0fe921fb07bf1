-- Commit numbers and conflicts: outputs with their answers.
use Rattle.std.specs.Prelude.{codes, List, [], ◌∷◌}
use Rattle.outcome_examples.specs.Cases.{Case, AreJudged, explained, fails_at, keys, three_sessions}

abbrev pub commits_cases : List Case
commits_cases =
    -- commit - that wrote, pruned beside it
    fails_at 4 keys (codes "1 prune\n2 begin\n2 insert a 1\n2 commit\n")
    (codes "1 1 1 pruned 1\n1 2 1 at 0\n1 2 2 ok\n1 2 3 committed -\n") ∷
    -- conflict #k above m
    fails_at 2 keys (codes "1 begin\n1 insert a 1\n2 begin\n2 insert a 1\n2 commit\n")
    (codes "1 1 1 at 0\n1 1 2 conflict #5\n1 2 1 at 0\n1 2 2 ok\n1 2 3 committed 5\n") ∷
    -- L[j] above m
    fails_at 3 keys (codes "1 begin\n1 insert a 1\n1 commit\n2 begin\n2 insert a 1\n2 commit\n") (codes "1 1 1 at 0\n1 1 2 ok\n1 1 3 committed 4\n1 2 1 at 0\n1 2 2 ok\n1 2 3 committed 3\n") ∷
    -- commit twice, the first is L
    fails_at 3 three_sessions (codes "1 begin\n1 insert a 1\n1 commit\n2 begin\n2 insert a 2\n2 commit\n--\n3 begin\n3 get a 1\n") (codes "1 1 1 at 0\n1 1 2 ok\n1 1 3 committed 1\n1 2 1 at 0\n1 2 2 ok\n1 2 3 committed 1\n2 3 1 at 1\n2 3 2 row 1\n") ∷
    -- two open writers side by side
    explained keys (codes "1 begin\n1 insert a 1\n2 begin\n2 insert a 1\n")
    (codes "1 1 1 at 0\n1 1 2 ok\n1 2 1 at 0\n1 2 2 ok\n") ∷
    -- both conflict with each other
    fails_at 2 keys (codes "1 begin\n1 insert a 1\n2 begin\n2 insert a 1\n")
    (codes "1 1 1 at 0\n1 1 2 conflict session 2\n1 2 1 at 0\n1 2 2 conflict session 1\n") ∷
    -- rival ended in an earlier round
    fails_at 5 keys (codes "1 begin\n1 insert a 1\n1 abort\n--\n2 begin\n2 insert a 1\n")
    (codes "1 1 1 at 0\n1 1 2 ok\n1 1 3 aborted\n2 2 1 at 0\n2 2 2 conflict session 1\n") ∷
    -- rival ended beside
    explained keys (codes "1 begin\n1 insert a 1\n1 abort\n2 begin\n2 insert a 1\n")
    (codes "1 1 1 at 0\n1 1 2 ok\n1 1 3 aborted\n1 2 1 at 0\n1 2 2 conflict session 1\n") ∷
    -- smaller number, greater beside
    explained three_sessions (codes "1 begin\n--\n2 begin\n2 insert a 1\n2 commit\n--\n2 begin\n2 update a 1\n2 commit\n1 update a 1\n") (codes "1 1 1 at 0\n2 2 1 at 0\n2 2 2 ok\n2 2 3 committed 1\n3 1 1 conflict #1\n3 2 1 at 1\n3 2 2 ok\n3 2 3 committed 2\n") ∷
    -- rival ends beside the accepted write
    explained keys (codes "1 begin\n2 begin\n2 insert a 1\n--\n1 insert a 1\n2 abort\n")
    (codes "1 1 1 at 0\n1 2 1 at 0\n1 2 2 ok\n2 1 1 ok\n2 2 1 aborted\n") ∷
    -- rival ends after the accepted write
    fails_at 4 keys (codes "1 begin\n2 begin\n2 insert a 1\n--\n1 insert a 1\n--\n2 abort\n")
    (codes "1 1 1 at 0\n1 2 1 at 0\n1 2 2 ok\n2 1 1 ok\n3 2 1 aborted\n") ∷
    -- rival writes after the conflict
    fails_at 2 keys (codes "1 begin\n1 insert a 1\n2 begin\n--\n2 insert a 1\n")
    (codes "1 1 1 at 0\n1 1 2 conflict session 2\n1 2 1 at 0\n2 2 1 ok\n") ∷
    -- commit after the conflict that names it
    fails_at 2 keys (codes "1 begin\n1 insert a 1\n2 begin\n--\n2 insert a 1\n2 commit\n")
    (codes "1 1 1 at 0\n1 1 2 conflict #1\n1 2 1 at 0\n2 2 1 ok\n2 2 2 committed 1\n") ∷
    -- missing beside a commit
    explained keys (codes "1 begin\n--\n1 update a 1\n2 begin\n2 insert a 1\n2 commit\n")
    (codes "1 1 1 at 0\n2 1 1 missing\n2 2 1 at 0\n2 2 2 ok\n2 2 3 committed 1\n") ∷
    -- missing after a commit
    fails_at 5 keys (codes "1 begin\n--\n2 begin\n2 insert a 1\n2 commit\n--\n1 update a 1\n")
    (codes "1 1 1 at 0\n2 2 1 at 0\n2 2 2 ok\n2 2 3 committed 1\n3 1 1 missing\n") ∷
    -- memory after a commit
    explained keys (codes "1 begin\n--\n2 begin\n2 insert a 1\n2 commit\n--\n1 update a 1\n")
    (codes "1 1 1 at 0\n2 2 1 at 0\n2 2 2 ok\n2 2 3 committed 1\n3 1 1 memory\n") ∷ []

abbrev pub CommitsAreJudged : Type 0
CommitsAreJudged = AreJudged commits_cases
