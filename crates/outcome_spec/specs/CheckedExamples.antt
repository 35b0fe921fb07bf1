-- Worked examples of outputs with checked transactions, ranges and totals, as facts.
use Rattle.std.specs.Prelude.{◌≡◌, ℕ, true, false, List, [], ◌∷◌, ◌++◌, map, pos, replicate}
use Rattle.std.specs.Prelude.{codes, None, Some}
use Rattle.isolation_spec.specs.Contents.{place_at}
use Rattle.isolation_spec.specs.Reads.{no_reads}
use Rattle.workload_spec.specs.declared.command.Command.{Command}
use Rattle.workload_spec.specs.declared.command.Command.TheVariants as command
use Rattle.workload_spec.specs.declared.reply.Said.{Said}
use Rattle.workload_spec.specs.declared.reply.Said.TheVariants as said
use Rattle.workload_spec.specs.declared.reply.StaleRead.TheVariants as stale
use Rattle.workload_spec.specs.declared.reply.Who.TheVariants.{Session}
use Rattle.workload_spec.specs.declared.script.Line.{Line}
use Rattle.workload_spec.specs.declared.script.Script.{Script}
use Rattle.workload_spec.specs.Words.{lines_text}
use Rattle.outcome_spec.specs.Entries.{Entry}
use Rattle.outcome_spec.specs.Explained.{has_forms}
use Rattle.outcome_spec.specs.Samples.{texts, sessions, begin, begin_checked, get, scan, range}
use Rattle.outcome_spec.specs.Samples.{total, insert, inserts, update, commit, abort, export}
use Rattle.outcome_spec.specs.Samples.{text_row, Explains, FailsAt}
use Rattle.outcome_spec.specs.Stale.{reads_after}

-- ---- A write skew

-- the keys 1 and 2 are committed; a transaction that begins so gets the one and updates the other
abbrev pub skew_from : Line → List (List Line)
skew_from begins =
    (begin 1 ∷ insert 1 1 (codes "x") ∷ insert 1 2 (codes "x") ∷ commit 1 ∷ [])
    ∷ (begins ∷ get 1 2 ∷ update 1 1 (codes "y") ∷ []) ∷ []

abbrev pub skew_lines : List (List ℕ)
skew_lines = codes "1 1 1 at 0" ∷ codes "1 1 2 ok" ∷ codes "1 1 3 ok" ∷ codes "1 1 4 committed 1"
    ∷ codes "2 1 1 at 1" ∷ codes "2 1 2 row 2 \"x\"" ∷ codes "2 1 3 ok" ∷ []

-- another checked one does it the other way round, and commits first
abbrev pub skewed : Line → Script
skewed begins = sessions (texts 2) (skew_from begins
    ++ (begin_checked 2 ∷ get 2 1 ∷ update 2 2 (codes "y") ∷ commit 2 ∷ [])
    ∷ (commit 1 ∷ abort 1 ∷ []) ∷ [])

abbrev pub skewed_lines : List (List ℕ)
skewed_lines = skew_lines ++ codes "3 2 1 at 1" ∷ codes "3 2 2 row 1 \"x\"" ∷ codes "3 2 3 ok"
    ∷ codes "3 2 4 committed 2" ∷ []

abbrev pub write_skew : Type 0
write_skew = Explains (skewed (begin_checked 1))
    (skewed_lines ++ codes "4 1 1 stale a 2 #2" ∷ codes "4 1 2 aborted" ∷ [])

abbrev pub plain_skew : Type 0
plain_skew = Explains (skewed (begin 1))
    (skewed_lines ++ codes "4 1 1 committed 3" ∷ codes "4 1 2 no transaction" ∷ [])

-- the output with these lines of the last round fails at the first of them
abbrev pub FailsSkewed : Line → List ℕ → List ℕ → Type 0
FailsSkewed begins first second = FailsAt (skewed begins) (skewed_lines ++ first ∷ second ∷ []) 12

-- a checked transaction does not commit over a stale read
abbrev pub stale_passed_over : Type 0
stale_passed_over = FailsSkewed (begin_checked 1) (codes "4 1 1 committed 3")
    (codes "4 1 2 no transaction")

-- a plain transaction has no stale read
abbrev pub stale_in_plain : Type 0
stale_in_plain = FailsSkewed (begin 1) (codes "4 1 1 stale a 2 #2") (codes "4 1 2 aborted")

-- the key that is named was got; the table that is named was read as a whole
abbrev pub stale_unread : Type 0
stale_unread =
    FailsSkewed (begin_checked 1) (codes "4 1 1 stale a 1 #2") (codes "4 1 2 aborted")
    × FailsSkewed (begin_checked 1) (codes "4 1 1 stale table a #2") (codes "4 1 2 aborted")

-- the commit that is named is above the snapshot
abbrev pub stale_in_snapshot : Type 0
stale_in_snapshot = FailsSkewed (begin_checked 1) (codes "4 1 1 stale a 2 #1")
    (codes "4 1 2 aborted")

-- which last rounds have the forms: keys and numbers are of 64 bits, and tables there are
abbrev pub stale_forms : Type 0
stale_forms = map (λ line. has_forms (skewed (begin_checked 1))
    (lines_text (skewed_lines ++ line ∷ codes "4 1 2 aborted" ∷ [])))
    (codes "4 1 1 stale a 7 #9" ∷ codes "4 1 1 stale table a #9"
    ∷ codes "4 1 1 stale range a -9223372036854775808 9223372036854775807 #9"
    ∷ codes "4 1 1 stale a 9223372036854775808 #2" ∷ codes "4 1 1 stale z 2 #2"
    ∷ codes "4 1 1 stale table  #2" ∷ codes "4 1 1 stale a 2 2"
    ∷ codes "4 1 1 stale a 2 #18446744073709551616"
    ∷ codes "4 1 1 stale range a 1 9223372036854775808 #2" ∷ [])
    ≡ replicate 3 true ++ replicate 6 false

-- ---- Which commit is named

-- two later commits write the key: the last is named
abbrev pub written_twice : Script
written_twice = sessions (texts 2) (skew_from (begin_checked 1)
    ++ (begin 2 ∷ update 2 2 (codes "y") ∷ commit 2 ∷ begin 2 ∷ update 2 2 (codes "z") ∷ commit 2
    ∷ []) ∷ (commit 1 ∷ []) ∷ [])

abbrev pub twice_lines : List (List ℕ)
twice_lines = skew_lines ++ codes "3 2 1 at 1" ∷ codes "3 2 2 ok" ∷ codes "3 2 3 committed 2"
    ∷ codes "3 2 4 at 2" ∷ codes "3 2 5 ok" ∷ codes "3 2 6 committed 3" ∷ []

abbrev pub last_is_named : Type 0
last_is_named = Explains written_twice (twice_lines ++ codes "4 1 1 stale a 2 #3" ∷ [])
    × FailsAt written_twice (twice_lines ++ codes "4 1 1 stale a 2 #2" ∷ []) 14

-- the line of the commit may stand beside the reply, and a later begin sees it; it isn't after the
-- reply
abbrev pub beside : Script
beside = sessions (texts 2) (skew_from (begin_checked 1)
    ++ (begin 2 ∷ update 2 2 (codes "y") ∷ [])
    ∷ (commit 1 ∷ abort 1 ∷ begin 1 ∷ commit 2 ∷ []) ∷ [])

abbrev pub beside_lines : List (List ℕ)
beside_lines = skew_lines ++ codes "3 2 1 at 1" ∷ codes "3 2 2 ok" ∷ codes "4 1 1 stale a 2 #2"
    ∷ codes "4 1 2 aborted" ∷ []

abbrev pub committed_beside : Type 0
committed_beside =
    Explains beside (beside_lines ++ codes "4 1 3 at 2" ∷ codes "4 2 1 committed 2" ∷ [])
    × FailsAt beside (beside_lines ++ codes "4 1 3 at 1" ∷ codes "4 2 1 committed 2" ∷ []) 12

abbrev pub committed_after : Type 0
committed_after = FailsAt
    (sessions (texts 2) (skew_from (begin_checked 1) ++ (begin 2 ∷ update 2 2 (codes "y") ∷ [])
    ∷ (commit 1 ∷ abort 1 ∷ []) ∷ (commit 2 ∷ []) ∷ []))
    (beside_lines ++ codes "5 2 1 committed 2" ∷ []) 10

-- a transaction that wrote nothing before the reply has no stale read
abbrev pub idle : Script
idle = sessions (texts 2)
    ((begin_checked 1 ∷ get 1 5 ∷ []) ∷ (begin 2 ∷ insert 2 5 (codes "y") ∷ commit 2 ∷ [])
    ∷ (commit 1 ∷ insert 1 1 (codes "x") ∷ commit 1 ∷ abort 1 ∷ []) ∷ [])

abbrev pub idle_lines : List (List ℕ)
idle_lines = codes "1 1 1 at 0" ∷ codes "1 1 2 none" ∷ codes "2 2 1 at 0" ∷ codes "2 2 2 ok"
    ∷ codes "2 2 3 committed 1" ∷ []

abbrev pub idle_reader : Type 0
idle_reader =
    Explains idle (idle_lines ++ codes "3 1 1 committed -" ∷ codes "3 1 2 no transaction"
    ∷ codes "3 1 3 no transaction" ∷ codes "3 1 4 no transaction" ∷ [])
    × FailsAt idle (idle_lines ++ codes "3 1 1 stale a 5 #1" ∷ codes "3 1 2 ok"
    ∷ codes "3 1 3 stale a 5 #1" ∷ codes "3 1 4 aborted" ∷ []) 6

-- a refused commit leaves the transaction open, and stale
abbrev pub refused_twice : Type 0
refused_twice = Explains
    (sessions (texts 2)
    ((begin_checked 1 ∷ get 1 5 ∷ insert 1 1 (codes "x") ∷ [])
    ∷ (begin 2 ∷ insert 2 5 (codes "y") ∷ commit 2 ∷ [])
    ∷ (commit 1 ∷ begin 1 ∷ commit 1 ∷ abort 1 ∷ []) ∷ []))
    (codes "1 1 1 at 0" ∷ codes "1 1 2 none" ∷ codes "1 1 3 ok" ∷ codes "2 2 1 at 0"
    ∷ codes "2 2 2 ok" ∷ codes "2 2 3 committed 1" ∷ codes "3 1 1 stale a 5 #1"
    ∷ codes "3 1 2 in transaction" ∷ codes "3 1 3 stale a 5 #1" ∷ codes "3 1 4 aborted" ∷ [])

-- ---- Tables and ranges

-- a checked transaction reads so and writes; the keys 25 and 30 are committed; it commits
abbrev pub phantoms : Line → Script
phantoms reads = sessions (texts 2)
    ((begin_checked 1 ∷ reads ∷ insert 1 1 (codes "x") ∷ [])
    ∷ (begin 2 ∷ insert 2 25 (codes "y") ∷ insert 2 30 (codes "y") ∷ commit 2 ∷ [])
    ∷ (commit 1 ∷ []) ∷ [])

-- its lines, where it is answered so, and is told this of its commit
abbrev pub phantom_lines : List ℕ → List ℕ → List (List ℕ)
phantom_lines told last = codes "1 1 1 at 0" ∷ (codes "1 1 2 " ++ told) ∷ codes "1 1 3 ok"
    ∷ codes "2 2 1 at 0" ∷ codes "2 2 2 ok" ∷ codes "2 2 3 ok" ∷ codes "2 2 4 committed 1"
    ∷ (codes "3 1 1 " ++ last) ∷ []

-- the commit that is told so, and no other of these two, is explained
abbrev pub IsStale : Line → List ℕ → List ℕ → Type 0
IsStale reads told last = Explains (phantoms reads) (phantom_lines told last)
    × FailsAt (phantoms reads) (phantom_lines told (codes "committed 2")) 8

abbrev pub phantoms_are_stale : Type 0
phantoms_are_stale =
    IsStale (scan 1) (codes "rows 0") (codes "stale table a #1")
    × IsStale (total 1 0 1 2) (codes "total 0 0") (codes "stale table a #1")
    × IsStale (export 1) (codes "export 0 rows 0 batches 0 frozen 0") (codes "stale table a #1")
    × IsStale (range 1 20 29) (codes "rows 0") (codes "stale range a 20 29 #1")
    × IsStale (range 1 30 40) (codes "rows 0") (codes "stale range a 30 40 #1")

-- a range beside the keys is none, nor are bounds that were not asked; what was refused memory read
-- nothing
abbrev pub others_stand : Type 0
others_stand =
    Explains (phantoms (range 1 31 40)) (phantom_lines (codes "rows 0") (codes "committed 2"))
    × FailsAt (phantoms (range 1 31 40))
    (phantom_lines (codes "rows 0") (codes "stale range a 31 40 #1")) 8
    × FailsAt (phantoms (range 1 20 29))
    (phantom_lines (codes "rows 0") (codes "stale range a 20 30 #1")) 8
    × Explains (phantoms (scan 1)) (phantom_lines (codes "memory") (codes "committed 2"))
    × FailsAt (phantoms (scan 1)) (phantom_lines (codes "memory") (codes "stale table a #1")) 8

-- ---- Rows and numbers

-- ranges and totals of the keys 1 to 5
abbrev pub five : Script
five = sessions (texts 2) ((begin 1 ∷ (inserts 1 5 (codes "x")
    ++ range 1 2 3 ∷ range 1 4 3 ∷ total 1 0 2 9 ∷ total 1 0 9 2 ∷ [])) ∷ [])

-- its lines, where the first range has these rows and the first total is told so
abbrev pub five_lines : List (List ℕ) → List ℕ → List (List ℕ)
five_lines ranged totalled = codes "1 1 1 at 0" ∷ codes "1 1 2 ok" ∷ codes "1 1 3 ok"
    ∷ codes "1 1 4 ok" ∷ codes "1 1 5 ok" ∷ codes "1 1 6 ok" ∷ (ranged ++ codes "1 1 8 rows 0"
    ∷ (codes "1 1 9 " ++ totalled) ∷ codes "1 1 10 total 0 0" ∷ [])

abbrev pub both_rows : List (List ℕ)
both_rows = codes "1 1 7 rows 2" ∷ codes "| 2 \"x\"" ∷ codes "| 3 \"x\"" ∷ []

abbrev pub ranges_and_totals : Type 0
ranges_and_totals =
    Explains five (five_lines both_rows (codes "total 4 14"))
    × Explains five (five_lines (codes "1 1 7 memory" ∷ []) (codes "memory"))
    × FailsAt five (five_lines (codes "1 1 7 rows 1" ∷ codes "| 2 \"x\"" ∷ [])
    (codes "total 4 14")) 7
    × FailsAt five (five_lines both_rows (codes "total 4 15")) 11
    × FailsAt five (five_lines both_rows (codes "total 3 14")) 11

-- a count is of 64 bits, and a sum of 128
abbrev pub total_forms : Type 0
total_forms = map (λ told. has_forms five (lines_text (five_lines both_rows told)))
    (codes "total 18446744073709551615 170141183460469231731687303715884105727"
    ∷ codes "total 0 -170141183460469231731687303715884105728"
    ∷ codes "total 18446744073709551616 0"
    ∷ codes "total 0 170141183460469231731687303715884105728"
    ∷ codes "total 0 -170141183460469231731687303715884105729" ∷ codes "total 4" ∷ [])
    ≡ true ∷ true ∷ replicate 4 false

-- ---- What is read behind replies

abbrev pub Told : Type 0
Told = Command × Said

-- the replies to one session that is told these, all of one round
abbrev pub entries_of : List Told → List Entry
entries_of told = map (λ (its : Told). record {
  number = 1;
  command = its.0;
  reply = record { round = 1; who = Session 1; index = 1; said = its.1 };
}) told

-- a checked begin, and reads that are answered
abbrev pub reading : List Told
reading = (command.Begin true, said.At 0) ∷ (command.Get 0 (pos 7), said.Absent)
    ∷ (command.Get 0 (pos 5), said.Found (text_row 5 (codes "x")))
    ∷ (command.Get 0 (pos 7), said.Absent) ∷ (command.Scan 3, said.Scanned [])
    ∷ (command.Total 2 0 (pos 0) (pos 1), said.Totalled 0 (pos 0))
    ∷ (command.Export 1, said.Exported 0 0 0 0) ∷ (command.Scan 2, said.Scanned [])
    ∷ (command.Range 0 (pos 3) (pos 1), said.Scanned []) ∷ []

-- what is none: reads that are refused, writes, a second begin, and a commit that is refused
abbrev pub reading_none : List Told
reading_none = (command.Get 0 (pos 8), said.Memory) ∷ (command.Scan 4, said.Memory)
    ∷ (command.Range 0 (pos 8) (pos 9), said.Memory)
    ∷ (command.Total 4 0 (pos 0) (pos 1), said.Memory) ∷ (command.Export 4, said.Dirty (pos 1))
    ∷ (command.Insert 0 (text_row 9 (codes "x")), said.Accepted)
    ∷ (command.Begin true, said.InTransaction)
    ∷ (command.Commit, said.Stale (stale.Table 3) 1) ∷ []

abbrev pub reads_are_kept : Type 0
reads_are_kept = map (λ told. reads_after (entries_of told))
    ((reading ++ reading_none) ∷ (reading ++ (command.Commit, said.Committed (Some 1)) ∷ [])
    ∷ (reading ++ (command.Abort, said.Aborted) ∷ [])
    ∷ ((command.Begin false, said.At 0) ∷ (command.Get 0 (pos 7), said.Absent) ∷ [])
    ∷ (reading ++ (command.Abort, said.Aborted) ∷ (command.Begin true, said.At 1) ∷ []) ∷ [])
    ≡ Some (record {
      places = place_at 0 (pos 5) ∷ place_at 0 (pos 7) ∷ [];
      tables = 1 ∷ 2 ∷ 3 ∷ [];
      ranges = record { table = 0; low = pos 3; high = pos 1 } ∷ [];
    }) ∷ None ∷ None ∷ None ∷ Some no_reads ∷ []
