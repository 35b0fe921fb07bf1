-- Cells and keys: outputs with their answers.
use Rattle.std.specs.Prelude.{codes, List, [], ◌∷◌, ◌++◌}
use Rattle.outcome_examples.specs.Cases.{Case, AreJudged, explained, fails_at, blobs, bytes, keys}
use Rattle.outcome_examples.specs.Cases.{large_integers, nullable_texts, small_integers, texts}
use Rattle.outcome_examples.specs.Cases.{truths}

abbrev pub cells_cases : List Case
cells_cases =
    -- minus zero
    fails_at 3 keys (codes "1 begin\n1 insert a 0\n1 get a 0\n")
    (codes "1 1 1 at 0\n1 1 2 ok\n1 1 3 row -0\n") ∷
    -- least key
    explained keys (codes "1 begin\n1 insert a -9223372036854775808\n1 get a -9223372036854775808\n") (codes "1 1 1 at 0\n1 1 2 ok\n1 1 3 row -9223372036854775808\n") ∷
    -- key too great
    fails_at 2 keys (codes "1 begin\n1 export a\n")
    (codes "1 1 1 at 0\n1 1 2 dirty 9223372036854775808\n") ∷
    -- dirty of nothing
    fails_at 2 keys (codes "1 begin\n1 export a\n")
    (codes "1 1 1 at 0\n1 1 2 dirty 9223372036854775807\n") ∷
    -- hard text
    explained nullable_texts (codes
    "1 begin\n1 insert a 1 \"\\\"\\\\\\x00\\x7f \\x0a|\"\n1 get a 1\n")
    (codes "1 1 1 at 0\n1 1 2 ok\n1 1 3 row 1 \"\\\"\\\\\\x00\\x7f \\x0a|\"\n") ∷
    -- upper hex
    fails_at 3 nullable_texts (codes "1 begin\n1 insert a 1 \"\\x1f\"\n1 get a 1\n")
    (codes "1 1 1 at 0\n1 1 2 ok\n1 1 3 row 1 \"\\x1F\"\n") ∷
    -- needless escape
    fails_at 3 nullable_texts (codes "1 begin\n1 insert a 1 \"A\"\n1 get a 1\n")
    (codes "1 1 1 at 0\n1 1 2 ok\n1 1 3 row 1 \"\\x41\"\n") ∷
    -- other text
    fails_at 3 nullable_texts (codes "1 begin\n1 insert a 1 \"A\"\n1 get a 1\n")
    (codes "1 1 1 at 0\n1 1 2 ok\n1 1 3 row 1 \"B\"\n") ∷
    -- utf8
    explained nullable_texts (codes "1 begin\n1 insert a 1 \""
    ++ 195 ∷ 169 ∷ 230 ∷ 151 ∷ 165 ∷ codes "\"\n1 get a 1\n")
    (codes "1 1 1 at 0\n1 1 2 ok\n1 1 3 row 1 \""
    ++ 195 ∷ 169 ∷ 230 ∷ 151 ∷ 165 ∷ codes "\"\n") ∷
    -- not utf8
    fails_at 3 nullable_texts (codes "1 begin\n1 insert a 1 \"A\"\n1 get a 1\n")
    (codes "1 1 1 at 0\n1 1 2 ok\n1 1 3 row 1 \"" ++ 255 ∷ codes "\"\n") ∷
    -- open text
    fails_at 3 nullable_texts (codes "1 begin\n1 insert a 1 \"A b\"\n1 get a 1\n")
    (codes "1 1 1 at 0\n1 1 2 ok\n1 1 3 row 1 \"A b\n") ∷
    -- quote inside
    fails_at 3 nullable_texts (codes "1 begin\n1 insert a 1 \"A\"\n1 get a 1\n")
    (codes "1 1 1 at 0\n1 1 2 ok\n1 1 3 row 1 \"A\"B\"\n") ∷
    -- empty text
    explained nullable_texts (codes "1 begin\n1 insert a 1 \"\"\n1 get a 1\n")
    (codes "1 1 1 at 0\n1 1 2 ok\n1 1 3 row 1 \"\"\n") ∷
    -- null
    explained nullable_texts (codes "1 begin\n1 insert a 1 null\n1 get a 1\n")
    (codes "1 1 1 at 0\n1 1 2 ok\n1 1 3 row 1 null\n") ∷
    -- null word
    fails_at 3 nullable_texts (codes "1 begin\n1 insert a 1 null\n1 get a 1\n")
    (codes "1 1 1 at 0\n1 1 2 ok\n1 1 3 row 1 \"null\"\n") ∷
    -- null where none
    fails_at 3 texts (codes "1 begin\n1 insert a 1 \"x\"\n1 get a 1\n")
    (codes "1 1 1 at 0\n1 1 2 ok\n1 1 3 row 1 null\n") ∷
    -- blob
    explained blobs (codes "1 begin\n1 insert a 1 x00ff\n1 get a 1\n")
    (codes "1 1 1 at 0\n1 1 2 ok\n1 1 3 row 1 x00ff\n") ∷
    -- blob upper
    fails_at 3 blobs (codes "1 begin\n1 insert a 1 x00ff\n1 get a 1\n")
    (codes "1 1 1 at 0\n1 1 2 ok\n1 1 3 row 1 x00FF\n") ∷
    -- blob odd
    fails_at 3 blobs (codes "1 begin\n1 insert a 1 x00ff\n1 get a 1\n")
    (codes "1 1 1 at 0\n1 1 2 ok\n1 1 3 row 1 x00f\n") ∷
    -- blob empty
    explained blobs (codes "1 begin\n1 insert a 1 x\n1 get a 1\n")
    (codes "1 1 1 at 0\n1 1 2 ok\n1 1 3 row 1 x\n") ∷
    -- true
    explained truths (codes "1 begin\n1 insert a 1 true\n1 get a 1\n")
    (codes "1 1 1 at 0\n1 1 2 ok\n1 1 3 row 1 true\n") ∷
    -- false
    fails_at 3 truths (codes "1 begin\n1 insert a 1 true\n1 get a 1\n")
    (codes "1 1 1 at 0\n1 1 2 ok\n1 1 3 row 1 false\n") ∷
    -- number as bool
    fails_at 3 truths (codes "1 begin\n1 insert a 1 true\n1 get a 1\n")
    (codes "1 1 1 at 0\n1 1 2 ok\n1 1 3 row 1 1\n") ∷
    -- i8
    explained small_integers (codes "1 begin\n1 insert a 1 -128\n1 get a 1\n")
    (codes "1 1 1 at 0\n1 1 2 ok\n1 1 3 row 1 -128\n") ∷
    -- i8 too small
    fails_at 3 small_integers (codes "1 begin\n1 insert a 1 -128\n1 get a 1\n")
    (codes "1 1 1 at 0\n1 1 2 ok\n1 1 3 row 1 -129\n") ∷
    -- u64
    explained large_integers (codes "1 begin\n1 insert a 1 18446744073709551615\n1 get a 1\n")
    (codes "1 1 1 at 0\n1 1 2 ok\n1 1 3 row 1 18446744073709551615\n") ∷
    -- cell too many
    fails_at 3 bytes (codes "1 begin\n1 insert a 1 1\n1 get a 1\n")
    (codes "1 1 1 at 0\n1 1 2 ok\n1 1 3 row 1 1 1\n") ∷ []

abbrev pub CellsAreJudged : Type 0
CellsAreJudged = AreJudged cells_cases
