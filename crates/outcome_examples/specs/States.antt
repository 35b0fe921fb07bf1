-- Replies in the states of their sessions: outputs with their answers.
use Rattle.std.specs.Prelude.{codes, List, [], ◌∷◌}
use Rattle.outcome_examples.specs.Cases.{Case, AreJudged, explained, fails_at, keys, two_tables}

abbrev pub states_cases : List Case
states_cases =
    -- session 2^32-1
    fails_at 3 keys (codes "1 begin\n1 begin\n1 insert a 1\n")
    (codes "1 1 1 at 0\n1 1 2 in transaction\n1 1 3 conflict session 4294967295\n") ∷
    -- u64 commit
    fails_at 3 keys (codes "1 begin\n1 insert a 1\n1 commit\n")
    (codes "1 1 1 at 0\n1 1 2 ok\n1 1 3 committed 18446744073709551616\n") ∷
    -- begin in transaction
    fails_at 2 keys (codes "1 begin\n1 begin\n") (codes "1 1 1 at 0\n1 1 2 at 0\n") ∷
    -- in transaction without
    fails_at 1 keys (codes "1 begin\n") (codes "1 1 1 in transaction\n") ∷
    -- memory without transaction
    fails_at 1 keys (codes "1 get a 1\n") (codes "1 1 1 memory\n") ∷
    -- ok without transaction
    fails_at 1 keys (codes "1 insert a 1\n") (codes "1 1 1 ok\n") ∷
    -- memory at upkeep
    explained keys (codes "1 compact a\n1 gather a 0\n") (codes "1 1 1 memory\n1 1 2 memory\n") ∷
    -- memory at observe
    fails_at 1 keys (codes "1 observe\n") (codes "1 1 1 memory\n") ∷
    -- memory at seal
    fails_at 1 keys (codes "1 seal a 0\n") (codes "1 1 1 memory\n") ∷
    -- full update
    fails_at 2 keys (codes "1 begin\n1 update a 1\n") (codes "1 1 1 at 0\n1 1 2 full\n") ∷
    -- freezing insert
    fails_at 2 keys (codes "1 begin\n1 insert a 1\n") (codes "1 1 1 at 0\n1 1 2 freezing a 0 1\n") ∷
    -- freezing of another table
    fails_at 2 two_tables (codes "1 begin\n1 update a 1\n")
    (codes "1 1 1 at 0\n1 1 2 freezing b 0 1\n") ∷
    -- gather of another block
    fails_at 1 keys (codes "1 gather a 0\n") (codes "1 1 1 frozen a 1 8\n") ∷
    -- sessions out of order
    fails_at 1 keys (codes "1 begin\n2 begin\n") (codes "1 2 1 at 0\n1 1 1 at 0\n") ∷
    -- round out of order
    fails_at 1 keys (codes "1 begin\n--\n1 get a 1\n") (codes "2 1 1 none\n1 1 1 at 0\n") ∷
    -- forms first
    fails_at 3 keys (codes "1 begin\n1 get a 1\n1 commit\n")
    (codes "1 1 1 at 5\n1 1 2 row 1\n1 1 3 ok\n") ∷
    -- freezing of no block
    fails_at 1 keys (codes "1 begin\n1 update a 1\n") (codes "1 1 1 at 5\n1 1 2 freezing a 9 1\n") ∷
    -- export batches 2^32
    fails_at 2 keys (codes "1 begin\n1 export a\n")
    (codes "1 1 1 at 5\n1 1 2 export 5 rows 0 batches 4294967296 frozen 0\n") ∷ []

abbrev pub StatesAreJudged : Type 0
StatesAreJudged = AreJudged states_cases
