-- Full tables and exports: outputs with their answers.
use Rattle.std.specs.Prelude.{codes, List, [], ◌∷◌}
use Rattle.outcome_examples.specs.Cases.{Case, AreJudged, explained, fails_at, keys, one_block}
use Rattle.outcome_examples.specs.Cases.{two_tables}

abbrev pub capacities_cases : List Case
capacities_cases =
    -- full by inserts beside
    explained one_block (codes "1 begin\n1 insert a 9\n2 begin\n2 insert a 1\n2 insert a 2\n2 insert a 3\n2 insert a 4\n2 insert a 5\n2 insert a 6\n2 insert a 7\n2 insert a 8\n") (codes "1 1 1 at 0\n1 1 2 full\n1 2 1 at 0\n1 2 2 ok\n1 2 3 ok\n1 2 4 ok\n1 2 5 ok\n1 2 6 ok\n1 2 7 ok\n1 2 8 ok\n1 2 9 ok\n") ∷
    -- full before the inserts
    fails_at 2 one_block (codes "1 begin\n1 insert a 9\n--\n2 begin\n2 insert a 1\n2 insert a 2\n2 insert a 3\n2 insert a 4\n2 insert a 5\n2 insert a 6\n2 insert a 7\n2 insert a 8\n") (codes "1 1 1 at 0\n1 1 2 full\n2 2 1 at 0\n2 2 2 ok\n2 2 3 ok\n2 2 4 ok\n2 2 5 ok\n2 2 6 ok\n2 2 7 ok\n2 2 8 ok\n2 2 9 ok\n") ∷
    -- full with one slot left
    fails_at 9 one_block (codes "1 begin\n1 insert a 1\n1 insert a 2\n1 insert a 3\n1 insert a 4\n1 insert a 5\n1 insert a 6\n1 insert a 7\n1 insert a 8\n") (codes "1 1 1 at 0\n1 1 2 ok\n1 1 3 ok\n1 1 4 ok\n1 1 5 ok\n1 1 6 ok\n1 1 7 ok\n1 1 8 ok\n1 1 9 full\n") ∷
    -- full of a key that stands
    fails_at 10 one_block (codes "1 begin\n1 insert a 1\n1 insert a 2\n1 insert a 3\n1 insert a 4\n1 insert a 5\n1 insert a 6\n1 insert a 7\n1 insert a 8\n1 insert a 1\n") (codes "1 1 1 at 0\n1 1 2 ok\n1 1 3 ok\n1 1 4 ok\n1 1 5 ok\n1 1 6 ok\n1 1 7 ok\n1 1 8 ok\n1 1 9 ok\n1 1 10 full\n") ∷
    -- dirty of an aborted write
    fails_at 5 keys (codes "1 begin\n1 insert a 1\n1 abort\n1 begin\n1 export a\n")
    (codes "1 1 1 at 0\n1 1 2 ok\n1 1 3 aborted\n1 1 4 at 0\n1 1 5 dirty 1\n") ∷
    -- export beside a write of another table
    explained two_tables (codes "1 begin\n1 insert b 1\n1 export a\n")
    (codes "1 1 1 at 0\n1 1 2 ok\n1 1 3 export 0 rows 0 batches 0 frozen 0\n") ∷
    -- dirty of a deleted key
    explained keys (codes "1 begin\n1 insert a 1\n1 delete a 1\n1 export a\n")
    (codes "1 1 1 at 0\n1 1 2 ok\n1 1 3 ok\n1 1 4 dirty 1\n") ∷
    -- dirty of a key below 0
    explained keys (codes "1 begin\n1 insert a -3\n1 insert a 2\n1 export a\n")
    (codes "1 1 1 at 0\n1 1 2 ok\n1 1 3 ok\n1 1 4 dirty -3\n") ∷
    -- dirty by two tables
    explained two_tables (codes "1 begin\n1 insert a 7\n1 insert b 3\n1 insert b 5\n1 export b\n")
    (codes "1 1 1 at 0\n1 1 2 ok\n1 1 3 ok\n1 1 4 ok\n1 1 5 dirty 3\n") ∷ []

abbrev pub CapacityAreJudged : Type 0
CapacityAreJudged = AreJudged capacities_cases
