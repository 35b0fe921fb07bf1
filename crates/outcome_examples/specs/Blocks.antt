-- Sealing, gathering, pruning and moving: outputs with their answers.
use Rattle.std.specs.Prelude.{codes, List, [], ◌∷◌}
use Rattle.outcome_examples.specs.Cases.{Case, AreJudged, explained, fails_at, keys}

abbrev pub blocks_cases : List Case
blocks_cases =
    -- seals beside out of order
    explained keys (codes "1 seal a 0\n2 seal a 0\n")
    (codes "1 1 1 sealed a 0 2\n1 2 1 sealed a 0 1\n") ∷
    -- seals out of order
    fails_at 2 keys (codes "1 seal a 0\n1 seal a 0\n")
    (codes "1 1 1 sealed a 0 2\n1 1 2 sealed a 0 1\n") ∷
    -- seal 0
    fails_at 1 keys (codes "1 seal a 0\n") (codes "1 1 1 sealed a 0 0\n") ∷
    -- seals of two blocks
    explained keys (codes "1 seal a 0\n1 seal a 1\n")
    (codes "1 1 1 sealed a 0 1\n1 1 2 sealed a 1 1\n") ∷
    -- frozen by a seal beside
    explained keys (codes "1 gather a 0\n2 seal a 0\n")
    (codes "1 1 1 frozen a 0 1\n1 2 1 sealed a 0 1\n") ∷
    -- frozen before the seal
    fails_at 1 keys (codes "1 gather a 0\n--\n2 seal a 0\n")
    (codes "1 1 1 frozen a 0 1\n2 2 1 sealed a 0 1\n") ∷
    -- frozen of 0 rows
    fails_at 2 keys (codes "1 seal a 0\n1 gather a 0\n")
    (codes "1 1 1 sealed a 0 1\n1 1 2 frozen a 0 0\n") ∷
    -- not frozen, frozen beside
    explained keys (codes "1 seal a 0\n--\n1 gather a 0\n2 gather a 0\n")
    (codes "1 1 1 sealed a 0 1\n2 1 1 not frozen\n2 2 1 frozen a 0 1\n") ∷
    -- not frozen, frozen after
    fails_at 2 keys (codes "1 seal a 0\n--\n1 gather a 0\n--\n2 gather a 0\n")
    (codes "1 1 1 sealed a 0 1\n2 1 1 not frozen\n3 2 1 frozen a 0 1\n") ∷
    -- freezing by a seal beside
    explained keys (codes "1 begin\n1 insert a 1\n1 commit\n--\n1 begin\n1 update a 1\n2 seal a 0\n") (codes "1 1 1 at 0\n1 1 2 ok\n1 1 3 committed 1\n2 1 1 at 1\n2 1 2 freezing a 0 1\n2 2 1 sealed a 0 1\n") ∷
    -- freezing before its seal
    fails_at 5 keys (codes "1 begin\n1 insert a 1\n1 commit\n--\n1 begin\n1 update a 1\n--\n2 seal a 0\n") (codes "1 1 1 at 0\n1 1 2 ok\n1 1 3 committed 1\n2 1 1 at 1\n2 1 2 freezing a 0 1\n3 2 1 sealed a 0 1\n") ∷
    -- freezing of the second seal
    explained keys (codes "1 begin\n1 insert a 1\n1 commit\n--\n1 seal a 0\n1 gather a 0\n1 seal a 0\n1 begin\n1 delete a 1\n") (codes "1 1 1 at 0\n1 1 2 ok\n1 1 3 committed 1\n2 1 1 sealed a 0 1\n2 1 2 frozen a 0 1\n2 1 3 sealed a 0 2\n2 1 4 at 1\n2 1 5 freezing a 0 2\n") ∷
    -- freezing of the first seal
    fails_at 8 keys (codes "1 begin\n1 insert a 1\n1 commit\n--\n1 seal a 0\n1 gather a 0\n1 seal a 0\n1 begin\n1 delete a 1\n") (codes "1 1 1 at 0\n1 1 2 ok\n1 1 3 committed 1\n2 1 1 sealed a 0 1\n2 1 2 frozen a 0 1\n2 1 3 sealed a 0 2\n2 1 4 at 1\n2 1 5 freezing a 0 1\n") ∷
    -- freezing of what is missing
    fails_at 3 keys (codes "1 seal a 0\n1 begin\n1 delete a 1\n")
    (codes "1 1 1 sealed a 0 1\n1 1 2 at 0\n1 1 3 freezing a 0 1\n") ∷
    -- frozen of a batch beside
    explained keys (codes "1 begin\n1 insert a 1\n1 commit\n--\n1 begin\n1 export a\n2 seal a 0\n2 gather a 0\n") (codes "1 1 1 at 0\n1 1 2 ok\n1 1 3 committed 1\n2 1 1 at 1\n2 1 2 export 1 rows 1 batches 1 frozen 1\n2 2 1 sealed a 0 1\n2 2 2 frozen a 0 1\n") ∷
    -- frozen of a batch after
    fails_at 5 keys (codes "1 begin\n1 insert a 1\n1 commit\n--\n1 begin\n1 export a\n--\n2 seal a 0\n2 gather a 0\n") (codes "1 1 1 at 0\n1 1 2 ok\n1 1 3 committed 1\n2 1 1 at 1\n2 1 2 export 1 rows 1 batches 1 frozen 1\n3 2 1 sealed a 0 1\n3 2 2 frozen a 0 1\n") ∷
    -- frozen twice is one block
    fails_at 12 keys (codes "1 begin\n1 insert a 1\n1 commit\n--\n1 begin\n1 insert a 2\n1 commit\n1 seal a 0\n1 gather a 0\n1 seal a 0\n1 gather a 0\n1 begin\n1 export a\n") (codes "1 1 1 at 0\n1 1 2 ok\n1 1 3 committed 1\n2 1 1 at 1\n2 1 2 ok\n2 1 3 committed 2\n2 1 4 sealed a 0 1\n2 1 5 frozen a 0 1\n2 1 6 sealed a 0 2\n2 1 7 frozen a 0 1\n2 1 8 at 2\n2 1 9 export 2 rows 2 batches 2 frozen 2\n") ∷
    -- pruned twice the moved
    explained keys (codes "1 compact a\n1 prune\n") (codes "1 1 1 moved 3\n1 1 2 pruned 6\n") ∷
    -- pruned more than twice
    fails_at 2 keys (codes "1 compact a\n1 prune\n") (codes "1 1 1 moved 3\n1 1 2 pruned 7\n") ∷
    -- pruned before
    fails_at 5 keys (codes "1 begin\n1 insert a 1\n1 commit\n--\n1 prune\n1 prune\n")
    (codes "1 1 1 at 0\n1 1 2 ok\n1 1 3 committed 1\n2 1 1 pruned 1\n2 1 2 pruned 1\n") ∷
    -- pruned beside
    explained keys (codes "1 begin\n1 insert a 1\n1 commit\n--\n1 prune\n2 prune\n")
    (codes "1 1 1 at 0\n1 1 2 ok\n1 1 3 committed 1\n2 1 1 pruned 1\n2 2 1 pruned 1\n") ∷ []

abbrev pub BlocksAreJudged : Type 0
BlocksAreJudged = AreJudged blocks_cases
