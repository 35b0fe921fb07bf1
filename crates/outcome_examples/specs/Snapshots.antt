-- Snapshots: outputs with their answers.
use Rattle.std.specs.Prelude.{codes, List, [], ◌∷◌}
use Rattle.outcome_examples.specs.Cases.{Case, AreJudged, explained, fails_at, keys, nullable_texts}
use Rattle.outcome_examples.specs.Cases.{three_sessions, two_tables}

abbrev pub snapshots_cases : List Case
snapshots_cases =
    -- snapshot beside a commit
    explained keys (codes "1 begin\n1 insert a 1\n1 commit\n2 begin\n2 get a 1\n")
    (codes "1 1 1 at 0\n1 1 2 ok\n1 1 3 committed 1\n1 2 1 at 1\n1 2 2 row 1\n") ∷
    -- old snapshot beside a commit
    explained keys (codes "1 begin\n1 insert a 1\n1 commit\n2 begin\n2 get a 1\n")
    (codes "1 1 1 at 0\n1 1 2 ok\n1 1 3 committed 1\n1 2 1 at 0\n1 2 2 none\n") ∷
    -- snapshot below a conflict's number before
    fails_at 6 three_sessions (codes "1 begin\n--\n1 insert a 1\n2 begin\n2 insert a 1\n2 commit\n--\n3 begin\n") (codes "1 1 1 at 0\n2 1 1 conflict #1\n2 2 1 at 0\n2 2 2 ok\n2 2 3 committed 1\n3 3 1 at 0\n") ∷
    -- snapshot below a snapshot before
    fails_at 5 three_sessions (codes "1 begin\n1 insert a 1\n1 commit\n2 begin\n--\n3 begin\n")
    (codes "1 1 1 at 0\n1 1 2 ok\n1 1 3 committed 1\n1 2 1 at 1\n2 3 1 at 0\n") ∷
    -- an upkeep line within a transaction
    explained keys (codes "1 begin\n1 insert a 1\n1 observe\n1 get a 1\n1 prune\n1 commit\n") (codes "1 1 1 at 0\n1 1 2 ok\n1 1 3 cooling 0\n1 1 4 row 1\n1 1 5 pruned 0\n1 1 6 committed 1\n") ∷
    -- pruned within its own transaction
    fails_at 3 keys (codes "1 begin\n1 insert a 1\n1 prune\n1 commit\n")
    (codes "1 1 1 at 0\n1 1 2 ok\n1 1 3 pruned 1\n1 1 4 committed 1\n") ∷
    -- transaction over rounds
    explained keys (codes "1 begin\n1 insert a 1\n--\n2 begin\n2 get a 1\n--\n1 get a 1\n1 commit\n--\n2 get a 1\n") (codes "1 1 1 at 0\n1 1 2 ok\n2 2 1 at 0\n2 2 2 none\n3 1 1 row 1\n3 1 2 committed 1\n4 2 1 none\n") ∷
    -- scan of another table
    explained two_tables (codes "1 begin\n1 insert a 1\n1 insert b 2\n1 scan b\n")
    (codes "1 1 1 at 0\n1 1 2 ok\n1 1 3 ok\n1 1 4 rows 1\n| 2\n") ∷
    -- a row that stands is missing
    fails_at 3 keys (codes "1 begin\n1 insert a 1\n1 update a 1\n")
    (codes "1 1 1 at 0\n1 1 2 ok\n1 1 3 missing\n") ∷
    -- a row that stands is none
    fails_at 3 keys (codes "1 begin\n1 insert a 1\n1 get a 1\n")
    (codes "1 1 1 at 0\n1 1 2 ok\n1 1 3 none\n") ∷
    -- gone in a scan
    explained keys (codes "1 begin\n1 insert a 1\n1 commit\n--\n1 begin\n1 delete a 1\n1 scan a\n")
    (codes "1 1 1 at 0\n1 1 2 ok\n1 1 3 committed 1\n2 1 1 at 1\n2 1 2 ok\n2 1 3 rows 0\n")
    ∷
    -- snapshot below its own conflict's number
    fails_at 4 keys (codes "1 begin\n1 insert a 1\n1 abort\n1 begin\n2 begin\n2 insert a 1\n2 commit\n") (codes "1 1 1 at 0\n1 1 2 conflict #1\n1 1 3 aborted\n1 1 4 at 0\n1 2 1 at 0\n1 2 2 ok\n1 2 3 committed 1\n") ∷
    -- snapshot below its own snapshot
    fails_at 3 keys (codes "1 begin\n1 commit\n1 begin\n2 begin\n2 insert a 1\n2 commit\n") (codes "1 1 1 at 1\n1 1 2 committed -\n1 1 3 at 0\n1 2 1 at 0\n1 2 2 ok\n1 2 3 committed 1\n") ∷
    -- a batch without rows
    fails_at 2 keys (codes "1 begin\n1 export a\n")
    (codes "1 1 1 at 0\n1 1 2 export 0 rows 0 batches 1 frozen 0\n") ∷
    -- more frozen than batches
    fails_at 12 keys (codes "1 begin\n1 insert a 1\n1 commit\n--\n1 begin\n1 insert a 2\n1 commit\n1 seal a 0\n1 gather a 0\n1 seal a 1\n1 gather a 1\n1 begin\n1 export a\n") (codes "1 1 1 at 0\n1 1 2 ok\n1 1 3 committed 1\n2 1 1 at 1\n2 1 2 ok\n2 1 3 committed 2\n2 1 4 sealed a 0 1\n2 1 5 frozen a 0 1\n2 1 6 sealed a 1 1\n2 1 7 frozen a 1 1\n2 1 8 at 2\n2 1 9 export 2 rows 2 batches 1 frozen 2\n") ∷
    -- freezing of the second table
    explained two_tables (codes "1 begin\n1 insert b 1\n1 commit\n1 seal b 0\n1 begin\n1 update b 1\n") (codes "1 1 1 at 0\n1 1 2 ok\n1 1 3 committed 1\n1 1 4 sealed b 0 1\n1 1 5 at 1\n1 1 6 freezing b 0 1\n") ∷
    -- freezing under a stamp of two seals
    fails_at 5 keys (codes "1 begin\n1 insert a 1\n1 commit\n--\n1 begin\n1 update a 1\n2 seal a 0\n2 seal a 0\n") (codes "1 1 1 at 0\n1 1 2 ok\n1 1 3 committed 1\n2 1 1 at 1\n2 1 2 freezing a 0 1\n2 2 1 sealed a 0 1\n2 2 2 sealed a 0 1\n") ∷
    -- update of the same row
    explained nullable_texts (codes "1 begin\n1 insert a 1 null\n1 update a 1 null\n1 commit\n1 begin\n1 delete a 1\n1 delete a 1\n1 get a 1\n") (codes "1 1 1 at 0\n1 1 2 ok\n1 1 3 ok\n1 1 4 committed 1\n1 1 5 at 1\n1 1 6 ok\n1 1 7 missing\n1 1 8 none\n") ∷ []

abbrev pub SnapshotsAreJudged : Type 0
SnapshotsAreJudged = AreJudged snapshots_cases
