-- The text of what is generated is short.
use Rattle.std.proofs.Common.{◌≡◌, ℕ, ◌+◌, ◌*◌, ◌/◌, ◌%◌, ◌^◌, ◌<◌, ◌≤◌, zero, suc, Bool, true, false, List, [], ◌∷◌, ◌++◌, length, refl, ap, ◌∙◌, arith, length-append, codes, decimal, map}
use Rattle.std.specs.Prelude.{◌==◌, ◌||◌, flat_map, if◌then◌else◌, ℤ, pos, negsuc, ◌-ℤ◌}
use Rattle.std.specs.Fmt.{digits, signed_decimal}
use Rattle.std.specs.List.{range_with_len}
use Rattle.std.proofs.lemmas.Fmt.{length-decimal-le}
use Rattle.std.proofs.lemmas.List.{map-append}
use Rattle.std.proofs.lemmas.List.Concat.{flat_map-append}
use Rattle.std.proofs.lemmas.Int.{ints}
use Rattle.std.proofs.lemmas.Nat.{mod_below}
use Rattle.cell_model.specs.declared.cell.Cell.TheVariants.{Null, Text}
use Rattle.workload_spec.specs.Words.{backslash, cell_text, escaped, hex_digits, is_control, line_feed, lines_text, quote, spaced}
use Rattle.workload_spec.specs.ScriptText.{line_text, round_lines, script_text}
use Rattle.workload_spec.specs.declared.command.Command.TheVariants as command
use Rattle.workload_spec.specs.declared.script.Line.{Line}
use Rattle.bench_spec.specs.Generated.{bench_script, bench_table, draw_in, freezing, generated, key_of, last_round, line, number_of, rounds_at, row_of, text_of, transaction, updated_key, upkeep_round, write_round}
use Rattle.bench_script.proofs.Fine.{draw_few, key_few, old_key_few}

-- ---- words

-- words, each with a byte behind it
abbrev total : List (List ℕ) → ℕ
total [] = 0
total (w ∷ ws) = length w + 1 + total ws

-- Words with spaces between them are at most as long as with a byte behind each.
spaced_length : (ws : List (List ℕ)) → length (spaced ws) ≤ total ws
spaced_length [] = omega arith
spaced_length (w ∷ []) = omega arith
spaced_length (w ∷ v ∷ ws) = omega (arith, length-append w (32 ∷ spaced (v ∷ ws)), spaced_length (v ∷ ws))

-- A number of 63 bits has at most 19 digits.
few_digits : (n : ℕ) → n < 2 ^ 63 → length (decimal n) ≤ 19
few_digits n few = length-decimal-le 19 n (omega arith) (omega (arith, few)) (omega (arith, few))

-- The text of the number that a draw makes has at most 20 bytes.
number_short : (n : ℕ) → length (signed_decimal (number_of n)) ≤ 20
number_short n = by (n % 2001) (mod_below n 2001 (omega arith))
  where
    sign : (m : ℕ) (z : ℤ) → m < 2001 → pos m -ℤ pos 1000 ≡ z → length (signed_decimal z) ≤ 20
    sign m (pos k) few is = omega (arith, few_digits k (omega (arith, ints, few, is)))
    sign m (negsuc k) few is = omega (arith, few_digits (suc k) (omega (arith, ints, few, is)))

    by : (m : ℕ) → m < 2001 → length (signed_decimal (pos m -ℤ pos 1000)) ≤ 20
    by m few = sign m (pos m -ℤ pos 1000) few refl

-- an escaped byte has four bytes at most
escaped_short : (byte : ℕ) → length (escaped byte) ≤ 4
escaped_short byte = by (byte == quote || byte == backslash) (is_control byte)
  where
    by : (a b : Bool) → length (if a then backslash ∷ byte ∷ [] else (if b then codes "\\x" ++ hex_digits byte else byte ∷ [])) ≤ 4
    by true b = omega arith
    by false true = omega arith
    by false false = omega arith

-- Escaped bytes are at most four times as many.
all_escaped : (bytes : List ℕ) → length (flat_map escaped bytes) ≤ 4 * length bytes
all_escaped [] = omega arith
all_escaped (b ∷ bs) = omega (arith, length-append (escaped b) (flat_map escaped bs), escaped_short b, all_escaped bs)

-- The cell of text that a draw of 31 bits makes is written in at most 90 bytes.
text_short : (t : ℕ) → t < 2 ^ 31 → length (cell_text (text_of t)) ≤ 90
text_short t few = by (t % 4 == 0)
  where
    by : (b : Bool) → length (cell_text (if b then Null else Text (codes "s" ++ decimal t))) ≤ 90
    by true = omega arith
    by false =
        let inside = flat_map escaped (codes "s" ++ decimal t) in
        omega (arith, length-append inside (quote ∷ []), all_escaped (codes "s" ++ decimal t), few_digits t (omega (arith, few)))

-- ---- lines

-- The one table by whose name the lines are written.
abbrev table_names : List Rattle.cell_model.specs.declared.table.TableDecl.TableDecl
table_names = bench_table ∷ []

-- The text of lines, one after another.
abbrev text_of_lines : List Line → List ℕ
text_of_lines lines = lines_text (map (line_text table_names) lines)

-- lines of less than 200 bytes each
record IsShort (lines : List Line) : Type 0 where
  short : length (text_of_lines lines) ≤ 200 * length lines

-- The text of no lines is short.
short_none : IsShort []
short_none = record { short = omega arith }

-- A line of less than 200 bytes in front of short lines leaves them short.
short_more : (l : Line) (lines : List Line) → length (line_text table_names l) < 200 → IsShort lines → IsShort (l ∷ lines)
short_more l lines few others =
    let rest = others.short in
    record { short = omega (arith, length-append (line_text table_names l ++ line_feed ∷ []) (text_of_lines lines), length-append (line_text table_names l) (line_feed ∷ []), few, rest) }

-- Two lists of short lines are short together.
short_append : (xs ys : List Line) → IsShort xs → IsShort ys → IsShort (xs ++ ys)
short_append xs ys first second =
    let mapped : text_of_lines (xs ++ ys) ≡ text_of_lines xs ++ text_of_lines ys =
    ap lines_text (map-append (line_text table_names) xs ys) ∙ flat_map-append (λ (l : List ℕ). l ++ line_feed ∷ []) (map (line_text table_names) xs) (map (line_text table_names) ys) in
    let long : length (text_of_lines (xs ++ ys)) ≡ length (text_of_lines xs) + length (text_of_lines ys) = ap length mapped ∙ length-append (text_of_lines xs) (text_of_lines ys) in
    let one = first.short in
    let two = second.short in
    record { short = omega (arith, long, length-append xs ys, one, two) }

-- Where the lines of each number of a range are short, all of them are.
short_each : (f : ℕ → List Line) (a n : ℕ) → ((k : ℕ) → a ≤ k → k < a + n → IsShort (f k)) → IsShort (flat_map f (range_with_len a n))
short_each f a zero each = short_none
short_each f a (suc n) each = short_append (f a) (flat_map f (range_with_len (a + 1) n)) (each a (omega arith) (omega arith))
    (short_each f (a + 1) n (λ k low high. each k (omega (arith, low)) (omega (arith, high))))

-- a line of a word, and of a word with two words more
word_short : (session : ℕ) (words : List (List ℕ)) → session < 2 ^ 63 → total words ≤ 150 → length (spaced (decimal session ∷ words)) < 200
word_short session words few short = omega (arith, spaced_length (decimal session ∷ words), few_digits session few, short)

-- The words that update a drawn row have at most 150 bytes.
row_short : (k n t : ℕ) → k < 2 ^ 63 → t < 2 ^ 31 → total (codes "update" ∷ codes "bench" ∷ map cell_text (row_of k n t)) ≤ 150
row_short k n t few small = omega (arith, few_digits k few, number_short n, text_short t small)

-- The lines of a transaction are short.
transaction_short : (seed round session : ℕ) → 0 < round → round ≤ 4096 → session ≤ 4 → IsShort (transaction seed round session)
transaction_short seed round session some few small =
    let own : session < 2 ^ 63 = omega (arith, small) in
    let inserts = row_short (key_of round session) (draw_in seed round session 1) (draw_in seed round session 2) (key_few round session few small) (draw_few seed round session 2 (omega arith)) in
    let updates = row_short (updated_key round session (draw_in seed round session 3)) (draw_in seed round session 4) (draw_in seed round session 5)
    (old_key_few round session (draw_in seed round session 3) some few small) (draw_few seed round session 5 (omega arith)) in
    let inserted = row_of (key_of round session) (draw_in seed round session 1) (draw_in seed round session 2) in
    let updated = row_of (updated_key round session (draw_in seed round session 3)) (draw_in seed round session 4) (draw_in seed round session 5) in
    short_more (line session (command.Begin false)) _ (word_short session (codes "begin" ∷ []) own (omega arith))
    (short_more (line session (command.Insert 0 inserted)) _ (word_short session (codes "insert" ∷ codes "bench" ∷ map cell_text inserted) own inserts)
    (short_more (line session (command.Update 0 updated)) _ (word_short session (codes "update" ∷ codes "bench" ∷ map cell_text updated) own updates)
    (short_more (line session command.Commit) [] (word_short session (codes "commit" ∷ []) own (omega arith)) short_none)))

-- The lines of a write round are short.
writes_short : (seed round : ℕ) → 0 < round → round ≤ 4096 → IsShort (write_round seed round)
writes_short seed round some few = short_each (transaction seed round) 1 4 (λ q low high. transaction_short seed round q some few (omega (arith, high)))

-- a line of the first session
own_short : (words : List (List ℕ)) → total words ≤ 150 → length (spaced (decimal 1 ∷ words)) < 200
own_short words short = word_short 1 words (omega arith) short

-- The lines that freeze a block are short.
freezing_short : (block : ℕ) → block < 512 → IsShort (freezing block)
freezing_short block few =
    let small = few_digits block (omega (arith, few)) in
    short_more (line 1 (command.Seal 0 block)) _ (own_short (codes "seal" ∷ codes "bench" ∷ decimal block ∷ []) (omega (arith, small)))
    (short_more (line 1 (command.Gather 0 block)) [] (own_short (codes "gather" ∷ codes "bench" ∷ decimal block ∷ []) (omega (arith, small))) short_none)

-- The lines of a round of upkeep are short.
upkeep_short : (round : ℕ) → round ≤ 4096 → IsShort (upkeep_round round)
upkeep_short round few =
    short_more (line 1 command.Prune) _ (own_short (codes "prune" ∷ []) (omega arith))
    (short_more (line 1 command.Observe) _ (own_short (codes "observe" ∷ []) (omega arith))
    (short_more (line 1 command.Observe) _ (own_short (codes "observe" ∷ []) (omega arith))
    (short_more (line 1 (command.Compact 0)) _ (own_short (codes "compact" ∷ codes "bench" ∷ []) (omega arith))
    (short_each freezing 0 (4 * round / 64 + 1) (λ b low high. freezing_short b (omega (arith, few, high)))))))

-- The lines of the last round are short.
last_short : IsShort last_round
last_short =
    short_more (line 1 (command.Begin false)) _ (own_short (codes "begin" ∷ []) (omega arith))
    (short_more (line 1 (command.Scan 0)) _ (own_short (codes "scan" ∷ codes "bench" ∷ []) (omega arith))
    (short_more (line 1 (command.Export 0)) _ (own_short (codes "export" ∷ codes "bench" ∷ []) (omega arith))
    (short_more (line 1 command.Commit) [] (own_short (codes "commit" ∷ []) (omega arith)) short_none)))

-- ---- rounds

-- each of the rounds is short
data AreShort : List (List Line) → Type 0 where
  no_rounds : AreShort []
  a_round : (round : List Line) (rounds : List (List Line)) → IsShort round → AreShort rounds → AreShort (round ∷ rounds)

-- how long the text of rounds may be
abbrev weight : List (List Line) → ℕ
weight [] = 0
weight (round ∷ rounds) = 200 * length round + 3 + weight rounds

-- The text of two lists of rounds may be as long as those of both together.
weight_append : (xs ys : List (List Line)) → weight (xs ++ ys) ≡ weight xs + weight ys
weight_append [] ys = omega arith
weight_append (x ∷ xs) ys = omega (arith, weight_append xs ys)

-- Two lists of short rounds are short together.
short_rounds : (xs ys : List (List Line)) → AreShort xs → AreShort ys → AreShort (xs ++ ys)
short_rounds [] ys no_rounds second = second
short_rounds (x ∷ xs) ys (a_round _ _ short others) second = a_round x (xs ++ ys) short (short_rounds xs ys others second)

-- The text of short rounds is no longer than it may be.
rounds_length : (rounds : List (List Line)) → AreShort rounds → length (lines_text (round_lines table_names rounds)) ≤ weight rounds
rounds_length [] no_rounds = omega arith
rounds_length (round ∷ []) (a_round _ _ own others) = let short = own.short in omega (arith, short)
rounds_length (round ∷ next ∷ rounds) (a_round _ _ own others) =
    let rest = codes "--" ∷ round_lines table_names (next ∷ rounds) in
    let both : lines_text (map (line_text table_names) round ++ rest) ≡ text_of_lines round ++ lines_text rest = flat_map-append (λ (l : List ℕ). l ++ line_feed ∷ []) (map (line_text table_names) round) rest in
    let long : length (lines_text (map (line_text table_names) round ++ rest)) ≡ length (text_of_lines round) + length (lines_text rest) = ap length both ∙ length-append (text_of_lines round) (lines_text rest) in
    let short = own.short in
    let behind = rounds_length (next ∷ rounds) others in
    omega (arith, long, short, behind)

-- The freezing of successive blocks has two lines for each.
freezings : (a n : ℕ) → length (flat_map freezing (range_with_len a n)) ≡ 2 * n
freezings a zero = refl
freezings a (suc n) = omega (arith, freezings (a + 1) n)

-- the rounds of a number: short, and not many lines
record AtMost (rounds : List (List Line)) (bytes : ℕ) : Type 0 where
  short : AreShort rounds
  few : weight rounds ≤ bytes

-- The rounds of one number are short, and their text has a bound.
at_most : (seed round : ℕ) → 0 < round → round ≤ 4096 → AtMost (rounds_at seed round) (2 ^ 17)
at_most seed round some few = by (round % 16 == 0)
  where
    many : length (upkeep_round round) ≤ 518
    many = omega (arith, freezings 0 (4 * round / 64 + 1), few)

    by : (b : Bool) → AtMost (write_round seed round ∷ (if b then upkeep_round round ∷ [] else [])) (2 ^ 17)
    by true = record {
      short = a_round _ _ (writes_short seed round some few) (a_round _ _ (upkeep_short round few) no_rounds);
      few = omega (arith, many);
    }
    by false = record { short = a_round _ _ (writes_short seed round some few) no_rounds; few = omega arith }

-- The rounds of successive numbers are short, and their text has as many times the bound.
all_most : (seed a n : ℕ) → 0 < a → a + n ≤ 4097 → AtMost (flat_map (rounds_at seed) (range_with_len a n)) (2 ^ 17 * n)
all_most seed a zero some few = record { short = no_rounds; few = omega arith }
all_most seed a (suc n) some few =
    let one = at_most seed a some (omega (arith, few)) in
    let more = all_most seed (a + 1) n (omega arith) (omega (arith, few)) in
    let others = flat_map (rounds_at seed) (range_with_len (a + 1) n) in
    let first = one.few in
    let second = more.few in
    record { short = short_rounds (rounds_at seed a) others one.short more.short; few = omega (arith, weight_append (rounds_at seed a) others, first, second) }

-- the head of the text
head : List ℕ
head = codes "store 1\ntable bench key:i64 n:i64 t:utf8? slots 64 blocks 512\nsessions 4\nworkers 0 0\ngo\n"

-- The text of the workload is its head and the text of its rounds.
headed : (rounds : List (List Line)) → script_text (bench_script rounds) ≡ head ++ lines_text (round_lines table_names rounds)
unfolding digits head
headed rounds = refl

-- The head of the text has at most 200 bytes.
head_short : length head ≤ 200
unfolding head
head_short = omega arith

-- the text of what is generated is below 2 ^ 32 bytes
pub text_is_short : (seed size : ℕ) → size ≤ 4096 → length (script_text (generated seed size)) < 2 ^ 32
text_is_short seed size few =
    let rounds = flat_map (rounds_at seed) (range_with_len 1 size) in
    let most = all_most seed 1 size (omega arith) (omega (arith, few)) in
    let all = rounds ++ last_round ∷ [] in
    let body : length (lines_text (round_lines table_names all)) ≤ weight all = rounds_length all (short_rounds rounds (last_round ∷ []) most.short (a_round last_round [] last_short no_rounds)) in
    let long : length (script_text (generated seed size)) ≡ length head + length (lines_text (round_lines table_names all)) = ap length (headed all) ∙ length-append head (lines_text (round_lines table_names all)) in
    let bytes = most.few in
    omega (arith, long, head_short, body, weight_append rounds (last_round ∷ []), bytes, few)
