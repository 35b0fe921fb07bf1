-- What a reply over tables says is read back from its words.
use Rattle.std.proofs.Common.{◌≡◌, ℕ, ◌^◌, ◌<◌, ◌≤◌, Bool, true, false, List, [], ◌∷◌, ◌++◌, length, map, refl, sym, ap, ◌∙◌, arith, append_assoc}
use Rattle.std.specs.Prelude.{◌&&◌, ◌==◌, nat_le, nat_lt, Option, Some, None, option_map, bytes_eq, codes, decimal, ℤ, pos, negsuc}
use Rattle.std.specs.Fmt.{signed_decimal}
use Rattle.std.specs.Option.{option_map_or}
use Rattle.std.specs.List.{list_all}
use Rattle.std.proofs.lemmas.Bool.{ltb-true, leb-true, ne_eqb, eq-eqb, and_parts}
use Rattle.cell_model.specs.declared.cell.Cell.{Cell}
use Rattle.cell_model.specs.declared.table.TableDecl.{TableDecl}
use Rattle.workload_spec.specs.declared.reply.Said.{Said}
use Rattle.workload_spec.specs.declared.reply.Said.TheVariants as said
use Rattle.workload_spec.specs.declared.reply.StaleRead.{StaleRead}
use Rattle.workload_spec.specs.declared.reply.StaleRead.TheVariants as stale
use Rattle.workload_spec.specs.declared.reply.SealCause.TheVariants.{Phase, Head, Empty, Gaps, Versions, Hot, Last}
use Rattle.workload_spec.specs.declared.script.Cause.TheVariants as cause
use Rattle.workload_spec.specs.Words.{spaced, line_feed, lines_text, cell_words}
use Rattle.workload_spec.specs.Reading.{parts}
use Rattle.workload_spec.specs.ScriptText.{name_of_table}
use Rattle.workload_spec.specs.ReplyText.{said_words, lines_behind, row_line}
use Rattle.workload_spec.specs.Valid.{is_lower_case, is_name_byte, is_name, is_table, have_own_names, is_table_place, is_key_number}
use Rattle.workload_laws.proofs.Lists.{position_is}
use Rattle.workload_laws.proofs.Results.{some_of, eq_of}
use Rattle.workload_laws.proofs.Apart.{is_plain, is_whole, plain_word, whole_append}
use Rattle.workload_laws.proofs.Numbers.{Begins, decimal_begins, decimal_plain, signed_plain, key_small}
use Rattle.workload_laws.proofs.ColumnsBack.{name_bytes}
use Rattle.workload_laws.proofs.TablesBack.{table_parts}
use Rattle.workload_laws.proofs.Commands.{table_at}
use Rattle.workload_laws.proofs.CommandsBack.{place_stands}
use Rattle.reply_text.specs.Shown.{is_u32, is_u64, is_row, is_sum, is_stale, is_said, are_tables}
use Rattle.reply_text.specs.Readers.{◌>>=◌, where_true, behind, cut, u64_in, u32_in, key_in, sum_in, tagged_in, table_in, row_in, rows_in, answer_in, refusal_in, block_in, exported_in, totalled_in, stale_table_in, stale_range_in, stale_key_in, stale_in, counts, places, opened_in, found_in, first_of, said_in, scanned_in, told_in}
use Rattle.reply_text.proofs.PieceLemmas.{gives, behind_is, cut_back, plain_apart}
use Rattle.reply_text.proofs.Spelled.{u64_back, u32_back, key_back}
use Rattle.reply_text.proofs.WideNumbers.{sum_plain, sum_back}
use Rattle.reply_text.proofs.RowsBack.{row_back, row_whole, lines_back}

-- a number of 32 bits has at most 64
pub u32_small : (n : ℕ) → is_u32 n ≡ true → n < 2 ^ 64
u32_small n fits = let below : n < 2 ^ 32 = ltb-true n (2 ^ 32) fits in omega (arith, below)

-- the digits of a number of 64 bits are plain bytes
pub u64_plain : (n : ℕ) → is_u64 n ≡ true → list_all is_plain (decimal n) ≡ true
u64_plain n fits = decimal_plain n (ltb-true n (2 ^ 64) fits)

-- so are those of one of 32 bits
pub u32_plain : (n : ℕ) → is_u32 n ≡ true → list_all is_plain (decimal n) ≡ true
u32_plain n fits = decimal_plain n (u32_small n fits)

-- a plain word ends at the space behind it
pub word_cut : (word rest : List ℕ) → list_all is_plain word ≡ true → cut 32 (word ++ 32 ∷ rest) ≡ Some (word, rest)
word_cut word rest plain = cut_back 32 word rest (plain_apart word plain)

-- Which of the readers a reply's bytes come to.

-- Where the first of two readings has nothing, the second counts.
passed_by : (one other : Option Said) → one ≡ None → first_of one other ≡ other
passed_by one other none = ap (λ (o : Option Said). first_of o other) none

-- the bytes are no scan's first line and no reply of words alone
abbrev IsOther : List ℕ → Type 0
IsOther bytes = (behind (codes "rows ") bytes ≡ None) × (answer_in bytes ≡ None) × (refusal_in bytes ≡ None)

-- Bytes of no scan and no words alone are read as a count, of a place or as a row.
said_of : (tables : List TableDecl) (bytes : List ℕ) → IsOther bytes → told_in tables bytes [] ≡ first_of (opened_in counts bytes) (first_of (opened_in (places tables) bytes) (found_in bytes))
said_of tables bytes other =
    ap (λ (o : Option (List ℕ)). elim o as (λ x. Option Said) [ Some word ↦ scanned_in word [] | None ↦ said_in tables bytes ]) other.0
    ∙ passed_by (answer_in bytes) _ other.1 ∙ passed_by (refusal_in bytes) _ other.2

-- What is read as a count is what the bytes say, where they are no others.
counted : (tables : List TableDecl) (bytes : List ℕ) (told : Said) → IsOther bytes → opened_in counts bytes ≡ Some told → told_in tables bytes [] ≡ Some told
counted tables bytes told other is = said_of tables bytes other ∙ ap (λ (o : Option Said). first_of o (first_of (opened_in (places tables) bytes) (found_in bytes))) is

-- What is read as of a place is what the bytes say, where they are no count.
placed : (tables : List TableDecl) (bytes : List ℕ) (told : Said) → IsOther bytes → opened_in counts bytes ≡ None → opened_in (places tables) bytes ≡ Some told → told_in tables bytes [] ≡ Some told
placed tables bytes told other none is =
    said_of tables bytes other ∙ passed_by (opened_in counts bytes) _ none ∙ ap (λ (o : Option Said). first_of o (found_in bytes)) is

-- Replies of one number.

-- A reply of one number of 64 bits is read back from its words.
number_back : (tables : List TableDecl) (front : List ℕ) (make : ℕ → Said) (n : ℕ) → is_u64 n ≡ true → IsOther (front ++ decimal n) → opened_in counts (front ++ decimal n) ≡ option_map make (u64_in (decimal n))
    → told_in tables (front ++ decimal n) [] ≡ Some (make n)
number_back tables front make n fits other opens = counted tables (front ++ decimal n) (make n) other (opens ∙ ap (option_map make) (u64_back n fits))

-- A conflict with a session is read back from its words.
session_back : (tables : List TableDecl) (n : ℕ) → is_u32 n ≡ true → told_in tables (codes "conflict session " ++ decimal n) [] ≡ Some (said.ConflictSession n)
session_back tables n fits =
    counted tables (codes "conflict session " ++ decimal n) (said.ConflictSession n) (refl, refl, refl)
    (let opens : opened_in counts (codes "conflict session " ++ decimal n) ≡ option_map said.ConflictSession (u32_in (decimal n)) = refl in opens ∙ ap (option_map said.ConflictSession) (u32_back n fits))

-- The refusal of an export for a key is read back from its words.
dirty_back : (tables : List TableDecl) (key : ℤ) → is_key_number key ≡ true → told_in tables (codes "dirty " ++ signed_decimal key) [] ≡ Some (said.Dirty key)
dirty_back tables key fits =
    counted tables (codes "dirty " ++ signed_decimal key) (said.Dirty key) (refl, refl, refl)
    (let opens : opened_in counts (codes "dirty " ++ signed_decimal key) ≡ option_map said.Dirty (key_in (signed_decimal key)) = refl in opens ∙ ap (option_map said.Dirty) (key_back key fits))

-- a number is no dash
no_dash : (word : List ℕ) → Begins word → answer_in (codes "committed " ++ word) ≡ None
no_dash [] begins = absurd (let e = begins.is in cc)
no_dash (first ∷ rest) begins =
    let same : first ≡ begins.first = (let e = begins.is in cc) in
    let other : 45 == first ≡ false = ne_eqb 45 first (λ e. omega (arith, e, same, begins.least)) in
    rw other refl

-- A commit with a number is read back from its words.
committed_back : (tables : List TableDecl) (n : ℕ) → is_u64 n ≡ true → told_in tables (codes "committed " ++ decimal n) [] ≡ Some (said.Committed (Some n))
committed_back tables n fits =
    number_back tables (codes "committed ") (λ k. said.Committed (Some k)) n fits (refl, no_dash (decimal n) (decimal_begins n (ltb-true n (2 ^ 64) fits)), refl) refl

-- Replies on blocks and exports.

-- a table's name, which is found at its place
record IsNamed (tables : List TableDecl) (place : ℕ) : Type 0 where
  plain : list_all is_plain (name_of_table tables place) ≡ true
  found : table_in tables (name_of_table tables place) ≡ Some place

-- A table's name is plain, and is found at the table's place.
name_back : (tables : List TableDecl) (place : ℕ) → are_tables tables ≡ true → is_table_place tables place ≡ true → IsNamed tables place
name_back tables place are is =
    let b = and_parts (list_all is_table tables) (have_own_names tables) are in
    let s = place_stands tables place b.0 b.1 is in
    let name : name_of_table tables place ≡ s.table.name = ap (λ (o : Option TableDecl). option_map_or (λ (t : TableDecl). t.name) o []) s.at in
    record {
      plain = ap (list_all is_plain) name ∙ (name_bytes s.table.name (table_parts s.table s.is).named).plain;
      found = some_of cause.Unknown (table_in tables (name_of_table tables place)) place s.named;
    }

record AreBlock (tables : List TableDecl) (table block number : ℕ) : Type 0 where
  table_fits : is_table_place tables table ≡ true
  block_fits : is_u32 block ≡ true
  number_fits : is_u32 number ≡ true

-- The table, block and number of a reply about a block fit where all together do.
block_parts : (tables : List TableDecl) (table block number : ℕ) → (is_table_place tables table && is_u32 block && is_u32 number) ≡ true → AreBlock tables table block number
block_parts tables table block number fits =
    let b = and_parts (is_table_place tables table && is_u32 block) (is_u32 number) fits in
    let t = and_parts (is_table_place tables table) (is_u32 block) b.0 in
    record { table_fits = t.0; block_fits = t.1; number_fits = b.1 }

-- the words of a block
abbrev block_text : List TableDecl → ℕ → ℕ → ℕ → List ℕ
block_text tables table block number = name_of_table tables table ++ 32 ∷ (decimal block ++ 32 ∷ decimal number)

-- A reply about a block is read back from the block's words.
block_back : (tables : List TableDecl) (make : ℕ → ℕ → ℕ → Said) (table block number : ℕ) → are_tables tables ≡ true → AreBlock tables table block number
    → block_in tables make (block_text tables table block number) ≡ Some (make table block number)
block_back tables make table block number are parts =
    let n = name_back tables table are parts.table_fits in
    gives (cut 32 (block_text tables table block number)) _ (Some (make table block number)) (name_of_table tables table, decimal block ++ 32 ∷ decimal number) (word_cut (name_of_table tables table) (decimal block ++ 32 ∷ decimal number) n.plain)
    (gives (table_in tables (name_of_table tables table)) _ (Some (make table block number)) table n.found
    (gives (cut 32 (decimal block ++ 32 ∷ decimal number)) _ (Some (make table block number)) (decimal block, decimal number) (word_cut (decimal block) (decimal number) (u32_plain block parts.block_fits))
    (gives (u32_in (decimal block)) _ (Some (make table block number)) block (u32_back block parts.block_fits)
    (gives (u32_in (decimal number)) _ (Some (make table block number)) number (u32_back number parts.number_fits) refl))))

record AreExport (number rows batches frozen : ℕ) : Type 0 where
  number_fits : is_u64 number ≡ true
  rows_fit : is_u64 rows ≡ true
  batches_fit : is_u32 batches ≡ true
  frozen_fit : is_u32 frozen ≡ true

-- The four numbers of an export fit where all together do.
export_parts : (number rows batches frozen : ℕ) → (is_u64 number && is_u64 rows && is_u32 batches && is_u32 frozen) ≡ true → AreExport number rows batches frozen
export_parts number rows batches frozen fits =
    let b = and_parts (is_u64 number && is_u64 rows && is_u32 batches) (is_u32 frozen) fits in
    let c = and_parts (is_u64 number && is_u64 rows) (is_u32 batches) b.0 in
    let d = and_parts (is_u64 number) (is_u64 rows) c.0 in
    record { number_fits = d.0; rows_fit = d.1; batches_fit = c.1; frozen_fit = b.1 }

-- the words of an export behind its first number, its rows and its batches
abbrev frozen_text : ℕ → List ℕ
frozen_text frozen = codes "frozen " ++ decimal frozen

-- The words of an export from its batches on.
abbrev batches_text : ℕ → ℕ → List ℕ
batches_text batches frozen = codes "batches " ++ (decimal batches ++ 32 ∷ frozen_text frozen)

-- The words of an export from its rows on.
abbrev rows_text : ℕ → ℕ → ℕ → List ℕ
rows_text rows batches frozen = codes "rows " ++ (decimal rows ++ 32 ∷ batches_text batches frozen)

-- An export is read back from its words.
export_back : (number rows batches frozen : ℕ) → AreExport number rows batches frozen → exported_in (decimal number ++ 32 ∷ rows_text rows batches frozen) ≡ Some (said.Exported number rows batches frozen)
export_back number rows batches frozen fits =
    let told : Option Said = Some (said.Exported number rows batches frozen) in
    gives (cut 32 (decimal number ++ 32 ∷ rows_text rows batches frozen)) _ told (decimal number, rows_text rows batches frozen) (word_cut (decimal number) (rows_text rows batches frozen) (u64_plain number fits.number_fits))
    (gives (u64_in (decimal number)) _ told number (u64_back number fits.number_fits)
    (gives (cut 32 (decimal rows ++ 32 ∷ batches_text batches frozen)) _ told (decimal rows, batches_text batches frozen) (word_cut (decimal rows) (batches_text batches frozen) (u64_plain rows fits.rows_fit))
    (gives (u64_in (decimal rows)) _ told rows (u64_back rows fits.rows_fit)
    (gives (cut 32 (decimal batches ++ 32 ∷ frozen_text frozen)) _ told (decimal batches, frozen_text frozen) (word_cut (decimal batches) (frozen_text frozen) (u32_plain batches fits.batches_fit))
    (gives (u32_in (decimal batches)) _ told batches (u32_back batches fits.batches_fit)
    (gives (u32_in (decimal frozen)) _ told frozen (u32_back frozen fits.frozen_fit) refl))))))

-- Totals.

-- The words of a total behind its first.
abbrev total_text : ℕ → ℤ → List ℕ
total_text count sum = decimal count ++ 32 ∷ signed_decimal sum

-- A total is read back from its words.
total_back : (count : ℕ) (sum : ℤ) → (is_u64 count && is_sum sum) ≡ true → totalled_in (total_text count sum) ≡ Some (said.Totalled count sum)
total_back count sum fits =
    let told : Option Said = Some (said.Totalled count sum) in
    let b = and_parts (is_u64 count) (is_sum sum) fits in
    gives (cut 32 (total_text count sum)) _ told (decimal count, signed_decimal sum) (word_cut (decimal count) (signed_decimal sum) (u64_plain count b.0))
    (gives (u64_in (decimal count)) _ told count (u64_back count b.0) (gives (sum_in (signed_decimal sum)) _ told sum (sum_back sum b.1) refl))

-- Commits over stale reads.

-- a commit's number behind its mark
abbrev tag_text : ℕ → List ℕ
tag_text number = codes "#" ++ decimal number

-- A table's name with a key or two behind it, and a commit's number.
abbrev key_text : List TableDecl → ℕ → ℤ → ℕ → List ℕ
key_text tables table key number = name_of_table tables table ++ 32 ∷ (signed_decimal key ++ 32 ∷ tag_text number)

abbrev range_text : List TableDecl → ℕ → ℤ → ℤ → ℕ → List ℕ
range_text tables table low high number = name_of_table tables table ++ 32 ∷ (signed_decimal low ++ 32 ∷ (signed_decimal high ++ 32 ∷ tag_text number))

-- The spelling of a key is of plain bytes.
key_plain : (key : ℤ) → is_key_number key ≡ true → list_all is_plain (signed_decimal key) ≡ true
key_plain key is = signed_plain key (key_small key is)

-- A stale read of a table is read back from its words.
stale_table_back : (tables : List TableDecl) (table number : ℕ) → are_tables tables ≡ true → is_table_place tables table ≡ true → is_u64 number ≡ true
    → stale_in tables (codes "table " ++ (name_of_table tables table ++ 32 ∷ tag_text number)) ≡ Some (said.Stale (stale.Table table) number)
stale_table_back tables table number are there fits =
    let told : Option Said = Some (said.Stale (stale.Table table) number) in
    let n = name_back tables table are there in
    ap (λ (o : Option Said). first_of o (first_of (stale_range_in tables (codes "table " ++ (name_of_table tables table ++ 32 ∷ tag_text number))) (stale_key_in tables (codes "table " ++ (name_of_table tables table ++ 32 ∷ tag_text number)))))
    (gives (cut 32 (name_of_table tables table ++ 32 ∷ tag_text number)) (λ name. table_in tables name.0 >>= λ table. tagged_in name.1 >>= λ number. Some (said.Stale (stale.Table table) number)) told (name_of_table tables table, tag_text number) (word_cut (name_of_table tables table) (tag_text number) n.plain)
    (gives (table_in tables (name_of_table tables table)) _ told table n.found (gives (u64_in (decimal number)) _ told number (u64_back number fits) refl)))

-- A stale read of a range is read back from its words.
stale_range_back : (tables : List TableDecl) (table : ℕ) (low high : ℤ) (number : ℕ) → are_tables tables ≡ true → is_table_place tables table ≡ true → is_key_number low ≡ true → is_key_number high ≡ true → is_u64 number ≡ true
    → stale_in tables (codes "range " ++ range_text tables table low high number) ≡ Some (said.Stale (stale.Range table low high) number)
stale_range_back tables table low high number are there low_is high_is fits =
    let told : Option Said = Some (said.Stale (stale.Range table low high) number) in
    let n = name_back tables table are there in
    let from_high : List ℕ = signed_decimal high ++ 32 ∷ tag_text number in
    let from_low : List ℕ = signed_decimal low ++ 32 ∷ from_high in
    let read : stale_range_in tables (codes "range " ++ range_text tables table low high number) ≡ told =
    gives (cut 32 (range_text tables table low high number)) _ told (name_of_table tables table, from_low) (word_cut (name_of_table tables table) from_low n.plain)
    (gives (table_in tables (name_of_table tables table)) _ told table n.found
    (gives (cut 32 from_low) _ told (signed_decimal low, from_high) (word_cut (signed_decimal low) from_high (key_plain low low_is))
    (gives (key_in (signed_decimal low)) _ told low (key_back low low_is)
    (gives (cut 32 from_high) _ told (signed_decimal high, tag_text number) (word_cut (signed_decimal high) (tag_text number) (key_plain high high_is))
    (gives (key_in (signed_decimal high)) _ told high (key_back high high_is) (gives (u64_in (decimal number)) _ told number (u64_back number fits) refl)))))) in
    ap (λ (o : Option Said). first_of o (stale_key_in tables (codes "range " ++ range_text tables table low high number))) read

-- A key is spelled as no name is.
no_name : (name : List ℕ) (key : ℤ) → is_name name ≡ true → is_key_number key ≡ true → name ≡ signed_decimal key → ⊥
no_name [] key named is same = cc
no_name (first ∷ rest) key named is same = by key is same
  where
    least : 97 ≤ first
    least = leb-true 97 first (and_parts (nat_le 97 first) (nat_le first 122) (and_parts (is_lower_case first) (list_all is_name_byte rest) (and_parts (is_lower_case first && list_all is_name_byte rest) (nat_lt (length rest) 32) named).0).0).0

    by : (z : ℤ) → is_key_number z ≡ true → first ∷ rest ≡ signed_decimal z → ⊥
    by (pos n) fits e =
        let begins = decimal_begins n (key_small (pos n) fits) in
        let digits : (first ∷ rest) ≡ (begins.first ∷ begins.rest) = e ∙ begins.is in
        let equal : first ≡ begins.first = cc in
        omega (arith, least, equal, begins.most)
    by (negsuc n) fits e = let equal : first ≡ 45 = cc in omega (arith, least, equal)

-- No table is named as a key is spelled.
no_table : (tables : List TableDecl) (key : ℤ) → list_all is_table tables ≡ true → is_key_number key ≡ true → table_in tables (signed_decimal key) ≡ None
no_table tables key all is = by (table_in tables (signed_decimal key)) refl
  where
    by : (o : Option ℕ) → table_in tables (signed_decimal key) ≡ o → o ≡ None
    by None e = refl
    by (Some place) e =
        let p = position_is (λ (table : TableDecl). bytes_eq table.name (signed_decimal key)) tables place e in
        absurd (no_name p.0.name key (table_parts p.0 (table_at tables place p.0 all p.1)).named is (eq_of p.0.name (signed_decimal key) p.2))

-- What stands behind a word and a space is what stands behind a name and a space, where the bytes
-- begin with either.
behind_name : (front name rest found : List ℕ) → list_all is_plain front ≡ true → list_all is_plain name ≡ true → behind (front ++ 32 ∷ []) (name ++ 32 ∷ rest) ≡ Some found → found ≡ rest
behind_name front name rest found front_plain plain e =
    let whole : name ++ 32 ∷ rest ≡ front ++ 32 ∷ found = behind_is (front ++ 32 ∷ []) (name ++ 32 ∷ rest) found e ∙ append_assoc front (32 ∷ []) found in
    let both : Some (name, rest) ≡ Some (front, found) = sym (word_cut name rest plain) ∙ ap (cut 32) whole ∙ word_cut front found front_plain in
    let pair : (name, rest) ≡ (front, found) = cc in
    ap (λ (p : List ℕ × List ℕ). p.1) (sym pair)

-- Bytes of a key are none of a table or a range, whatever the name of its table.
no_other : (tables : List TableDecl) (front name : List ℕ) (key : ℤ) (more : List ℕ) (next : List ℕ × List ℕ → ℕ → Option Said) → list_all is_table tables ≡ true → list_all is_plain front ≡ true → list_all is_plain name ≡ true → is_key_number key ≡ true
    → (behind (front ++ 32 ∷ []) (name ++ 32 ∷ (signed_decimal key ++ 32 ∷ more)) >>= λ words. cut 32 words >>= λ at. table_in tables at.0 >>= next at) ≡ None
no_other tables front name key more next all front_plain plain is = by (behind (front ++ 32 ∷ []) (name ++ 32 ∷ (signed_decimal key ++ 32 ∷ more))) refl
  where
    by : (o : Option (List ℕ)) → behind (front ++ 32 ∷ []) (name ++ 32 ∷ (signed_decimal key ++ 32 ∷ more)) ≡ o → (o >>= λ words. cut 32 words >>= λ at. table_in tables at.0 >>= next at) ≡ None
    by None e = refl
    by (Some found) e =
        let same = behind_name front name (signed_decimal key ++ 32 ∷ more) found front_plain plain e in
        ap (λ (words : List ℕ). cut 32 words >>= λ at. table_in tables at.0 >>= next at) same
        ∙ gives (cut 32 (signed_decimal key ++ 32 ∷ more)) (λ at. table_in tables at.0 >>= next at) None (signed_decimal key, more) (word_cut (signed_decimal key) more (key_plain key is))
        (ap (λ (o : Option ℕ). o >>= next (signed_decimal key, more)) (no_table tables key all is))

-- A stale read of a key is read back from its words.
stale_key_back : (tables : List TableDecl) (table : ℕ) (key : ℤ) (number : ℕ) → are_tables tables ≡ true → is_table_place tables table ≡ true → is_key_number key ≡ true → is_u64 number ≡ true
    → stale_in tables (key_text tables table key number) ≡ Some (said.Stale (stale.Key table key) number)
stale_key_back tables table key number are there is fits =
    let told : Option Said = Some (said.Stale (stale.Key table key) number) in
    let n = name_back tables table are there in
    let all = (and_parts (list_all is_table tables) (have_own_names tables) are).0 in
    let name : List ℕ = name_of_table tables table in
    let from_key : List ℕ = signed_decimal key ++ 32 ∷ tag_text number in
    passed_by (stale_table_in tables (key_text tables table key number)) _ (no_other tables (codes "table") name key (tag_text number) _ all refl n.plain is)
    ∙ passed_by (stale_range_in tables (key_text tables table key number)) _ (no_other tables (codes "range") name key (tag_text number) _ all refl n.plain is)
    ∙ gives (cut 32 (key_text tables table key number)) _ told (name, from_key) (word_cut name from_key n.plain)
    (gives (table_in tables name) _ told table n.found
    (gives (cut 32 from_key) _ told (signed_decimal key, tag_text number) (word_cut (signed_decimal key) (tag_text number) (key_plain key is))
    (gives (key_in (signed_decimal key)) _ told key (key_back key is) (gives (u64_in (decimal number)) _ told number (u64_back number fits) refl))))

-- the words of a read, and the commit's number
abbrev stale_text : List TableDecl → StaleRead → ℕ → List ℕ
stale_text tables (stale.Key table key) number = key_text tables table key number
stale_text tables (stale.Table table) number = codes "table " ++ (name_of_table tables table ++ 32 ∷ tag_text number)
stale_text tables (stale.Range table low high) number = codes "range " ++ range_text tables table low high number

-- A stale read is read back from its words.
stale_back : (tables : List TableDecl) (read : StaleRead) (number : ℕ) → are_tables tables ≡ true → is_stale tables read ≡ true → is_u64 number ≡ true → stale_in tables (stale_text tables read number) ≡ Some (said.Stale read number)
stale_back tables (stale.Key table key) number are is fits = let b = and_parts (is_table_place tables table) (is_key_number key) is in stale_key_back tables table key number are b.0 b.1 fits
stale_back tables (stale.Table table) number are is fits = stale_table_back tables table number are is fits
stale_back tables (stale.Range table low high) number are is fits =
    let b = and_parts (is_table_place tables table && is_key_number low) (is_key_number high) is in
    let c = and_parts (is_table_place tables table) (is_key_number low) b.0 in
    stale_range_back tables table low high number are c.0 c.1 b.1 fits

-- A commit over a stale read is read back from its words.
stale_said : (tables : List TableDecl) (read : StaleRead) (number : ℕ) → are_tables tables ≡ true → (is_stale tables read && is_u64 number) ≡ true → told_in tables (spaced (said_words tables (said.Stale read number))) [] ≡ Some (said.Stale read number)
stale_said tables read number are fits = by read b.0
  where
    b : (is_stale tables read ≡ true) × (is_u64 number ≡ true)
    b = and_parts (is_stale tables read) (is_u64 number) fits

    by : (what : StaleRead) → is_stale tables what ≡ true → told_in tables (spaced (said_words tables (said.Stale what number))) [] ≡ Some (said.Stale what number)
    by (stale.Key table key) is = placed tables (codes "stale " ++ key_text tables table key number) (said.Stale (stale.Key table key) number) (refl, refl, refl) refl (stale_back tables (stale.Key table key) number are is b.1)
    by (stale.Table table) is = placed tables (codes "stale " ++ stale_text tables (stale.Table table) number) (said.Stale (stale.Table table) number) (refl, refl, refl) refl (stale_back tables (stale.Table table) number are is b.1)
    by (stale.Range table low high) is =
        placed tables (codes "stale " ++ stale_text tables (stale.Range table low high) number) (said.Stale (stale.Range table low high) number) (refl, refl, refl) refl (stale_back tables (stale.Range table low high) number are is b.1)

-- Replies with rows.

-- A row that was found is read back from its words.
row_said : (tables : List TableDecl) (row : List Cell) → is_row row ≡ true → told_in tables (spaced (codes "row" ∷ cell_words row)) [] ≡ Some (said.Found row)
row_said tables [] fits = absurd cc
row_said tables (key ∷ cells) fits =
    let bytes : List ℕ = spaced (codes "row" ∷ cell_words (key ∷ cells)) in
    let opens : found_in bytes ≡ option_map said.Found (row_in (spaced (cell_words (key ∷ cells)))) = refl in
    said_of tables bytes (refl, refl, refl) ∙ passed_by (opened_in counts bytes) _ refl ∙ passed_by (opened_in (places tables) bytes) _ refl ∙ opens ∙ ap (option_map said.Found) (row_back (key ∷ cells) fits)

-- A scan's rows are read back from its count and their lines.
scan_said : (tables : List TableDecl) (rows : List (List Cell)) → (is_u64 (length rows) && list_all is_row rows) ≡ true
    → told_in tables (codes "rows " ++ decimal (length rows)) (lines_text (map row_line rows)) ≡ Some (said.Scanned rows)
scan_said tables rows fits =
    let b = and_parts (is_u64 (length rows)) (list_all is_row rows) fits in
    let told : Option Said = Some (said.Scanned rows) in
    let many : where_true (length rows == length rows) (said.Scanned rows) ≡ told = ap (λ (e : Bool). where_true e (said.Scanned rows)) (eq-eqb (length rows) (length rows) refl) in
    gives (u64_in (decimal (length rows))) (λ count. rows_in (parts line_feed (lines_text (map row_line rows))) >>= λ read. where_true (length read == count) (said.Scanned read)) told (length rows) (u64_back (length rows) b.0)
    (gives (rows_in (parts line_feed (lines_text (map row_line rows)))) (λ read. where_true (length read == length rows) (said.Scanned read)) told rows (lines_back rows b.1) many)

-- what a reply over the tables says is read from its words and lines
pub said_back : (tables : List TableDecl) (told : Said) → are_tables tables ≡ true → is_said tables told ≡ true → told_in tables (spaced (said_words tables told)) (lines_text (lines_behind told)) ≡ Some told
said_back tables (said.At number) are fits = number_back tables (codes "at ") said.At number fits (refl, refl, refl) refl
said_back tables said.InTransaction are fits = refl
said_back tables said.NoTransaction are fits = refl
said_back tables (said.Found row) are fits = row_said tables row fits
said_back tables said.Absent are fits = refl
said_back tables (said.Scanned rows) are fits = scan_said tables rows fits
said_back tables (said.Totalled count sum) are fits = placed tables (codes "total " ++ total_text count sum) (said.Totalled count sum) (refl, refl, refl) refl (total_back count sum fits)
said_back tables said.Accepted are fits = refl
said_back tables (said.ConflictSession session) are fits = session_back tables session fits
said_back tables (said.ConflictCommit number) are fits = number_back tables (codes "conflict #") said.ConflictCommit number fits (refl, refl, refl) refl
said_back tables said.Exists are fits = refl
said_back tables said.Missing are fits = refl
said_back tables said.Full are fits = refl
said_back tables (said.Freezing table block stamp) are fits =
    placed tables (codes "freezing " ++ block_text tables table block stamp) (said.Freezing table block stamp) (refl, refl, refl) refl (block_back tables said.Freezing table block stamp are (block_parts tables table block stamp fits))
said_back tables (said.Committed None) are fits = refl
said_back tables (said.Committed (Some number)) are fits = committed_back tables number fits
said_back tables (said.Stale read number) are fits = stale_said tables read number are fits
said_back tables said.Aborted are fits = refl
said_back tables (said.Cooling count) are fits = number_back tables (codes "cooling ") said.Cooling count fits (refl, refl, refl) refl
said_back tables (said.Pruned count) are fits = number_back tables (codes "pruned ") said.Pruned count fits (refl, refl, refl) refl
said_back tables (said.Moved count) are fits = number_back tables (codes "moved ") said.Moved count fits (refl, refl, refl) refl
said_back tables (said.Sealed table block stamp) are fits =
    placed tables (codes "sealed " ++ block_text tables table block stamp) (said.Sealed table block stamp) (refl, refl, refl) refl (block_back tables said.Sealed table block stamp are (block_parts tables table block stamp fits))
said_back tables (said.NotSealed Phase) are fits = refl
said_back tables (said.NotSealed Head) are fits = refl
said_back tables (said.NotSealed Empty) are fits = refl
said_back tables (said.NotSealed Gaps) are fits = refl
said_back tables (said.NotSealed Versions) are fits = refl
said_back tables (said.NotSealed Hot) are fits = refl
said_back tables (said.NotSealed Last) are fits = refl
said_back tables (said.Frozen table block rows) are fits =
    placed tables (codes "frozen " ++ block_text tables table block rows) (said.Frozen table block rows) (refl, refl, refl) refl (block_back tables said.Frozen table block rows are (block_parts tables table block rows fits))
said_back tables said.NotFrozen are fits = refl
said_back tables (said.Exported number rows batches frozen) are fits =
    placed tables (codes "export " ++ (decimal number ++ 32 ∷ rows_text rows batches frozen)) (said.Exported number rows batches frozen) (refl, refl, refl) refl (export_back number rows batches frozen (export_parts number rows batches frozen fits))
said_back tables (said.Dirty key) are fits = dirty_back tables key fits
said_back tables said.Memory are fits = refl

-- A reply's words stand on one line.

-- plain bytes have no line feed among them
pub plain_whole : (word : List ℕ) → list_all is_plain word ≡ true → is_whole word ≡ true
plain_whole word plain = let w = plain_word word plain in w.whole

-- The words of a block have no line feed among them.
block_whole : (tables : List TableDecl) (table block number : ℕ) → are_tables tables ≡ true → AreBlock tables table block number → is_whole (block_text tables table block number) ≡ true
block_whole tables table block number are parts =
    let n = name_back tables table are parts.table_fits in
    whole_append (name_of_table tables table) (32 ∷ (decimal block ++ 32 ∷ decimal number)) (plain_whole (name_of_table tables table) n.plain)
    (whole_append (decimal block) (32 ∷ decimal number) (plain_whole (decimal block) (u32_plain block parts.block_fits)) (plain_whole (decimal number) (u32_plain number parts.number_fits)))

-- The words of an export have no line feed among them.
export_whole : (number rows batches frozen : ℕ) → AreExport number rows batches frozen → is_whole (decimal number ++ 32 ∷ rows_text rows batches frozen) ≡ true
export_whole number rows batches frozen fits =
    whole_append (decimal number) (32 ∷ rows_text rows batches frozen) (plain_whole (decimal number) (u64_plain number fits.number_fits))
    (whole_append (decimal rows) (32 ∷ batches_text batches frozen) (plain_whole (decimal rows) (u64_plain rows fits.rows_fit))
    (whole_append (decimal batches) (32 ∷ frozen_text frozen) (plain_whole (decimal batches) (u32_plain batches fits.batches_fit)) (plain_whole (decimal frozen) (u32_plain frozen fits.frozen_fit))))

-- The digits of a number of 64 bits have no line feed among them.
u64_whole : (n : ℕ) → is_u64 n ≡ true → is_whole (decimal n) ≡ true
u64_whole n fits = plain_whole (decimal n) (u64_plain n fits)

-- The words of a total have no line feed among them.
total_whole : (count : ℕ) (sum : ℤ) → (is_u64 count && is_sum sum) ≡ true → is_whole (total_text count sum) ≡ true
total_whole count sum fits =
    let b = and_parts (is_u64 count) (is_sum sum) fits in
    whole_append (decimal count) (32 ∷ signed_decimal sum) (plain_whole (decimal count) (u64_plain count b.0)) (plain_whole (signed_decimal sum) (sum_plain sum b.1))

-- The digits of a number of 64 bits behind a table's name and keys have no line feed among them.
named_whole : (tables : List TableDecl) (table : ℕ) (rest : List ℕ) → are_tables tables ≡ true → is_table_place tables table ≡ true → is_whole rest ≡ true → is_whole (name_of_table tables table ++ 32 ∷ rest) ≡ true
named_whole tables table rest are there whole = whole_append (name_of_table tables table) (32 ∷ rest) (plain_whole (name_of_table tables table) (name_back tables table are there).plain) whole

-- Nor have those behind a key.
keyed_whole : (key : ℤ) (rest : List ℕ) → is_key_number key ≡ true → is_whole rest ≡ true → is_whole (signed_decimal key ++ 32 ∷ rest) ≡ true
keyed_whole key rest is whole = whole_append (signed_decimal key) (32 ∷ rest) (plain_whole (signed_decimal key) (key_plain key is)) whole

-- The words of a stale read and a commit's number have no line feed among them.
stale_whole : (tables : List TableDecl) (read : StaleRead) (number : ℕ) → are_tables tables ≡ true → is_stale tables read ≡ true → is_u64 number ≡ true → is_whole (spaced (said_words tables (said.Stale read number))) ≡ true
stale_whole tables (stale.Key table key) number are is fits =
    let b = and_parts (is_table_place tables table) (is_key_number key) is in
    named_whole tables table (signed_decimal key ++ 32 ∷ tag_text number) are b.0 (keyed_whole key (tag_text number) b.1 (u64_whole number fits))
stale_whole tables (stale.Table table) number are is fits = named_whole tables table (tag_text number) are is (u64_whole number fits)
stale_whole tables (stale.Range table low high) number are is fits =
    let b = and_parts (is_table_place tables table && is_key_number low) (is_key_number high) is in
    let c = and_parts (is_table_place tables table) (is_key_number low) b.0 in
    named_whole tables table (signed_decimal low ++ 32 ∷ (signed_decimal high ++ 32 ∷ tag_text number)) are c.0 (keyed_whole low (signed_decimal high ++ 32 ∷ tag_text number) c.1 (keyed_whole high (tag_text number) b.1 (u64_whole number fits)))

-- the words of what is said stand on one line
pub said_whole : (tables : List TableDecl) (told : Said) → are_tables tables ≡ true → is_said tables told ≡ true → is_whole (spaced (said_words tables told)) ≡ true
said_whole tables (said.At number) are fits = u64_whole number fits
said_whole tables said.InTransaction are fits = refl
said_whole tables said.NoTransaction are fits = refl
said_whole tables (said.Found row) are fits = row_whole (codes "row") row (plain_word (codes "row") refl) fits
said_whole tables said.Absent are fits = refl
said_whole tables (said.Scanned rows) are fits = u64_whole (length rows) (and_parts (is_u64 (length rows)) (list_all is_row rows) fits).0
said_whole tables (said.Totalled count sum) are fits = total_whole count sum fits
said_whole tables said.Accepted are fits = refl
said_whole tables (said.ConflictSession session) are fits = plain_whole (decimal session) (u32_plain session fits)
said_whole tables (said.ConflictCommit number) are fits = u64_whole number fits
said_whole tables said.Exists are fits = refl
said_whole tables said.Missing are fits = refl
said_whole tables said.Full are fits = refl
said_whole tables (said.Freezing table block stamp) are fits = block_whole tables table block stamp are (block_parts tables table block stamp fits)
said_whole tables (said.Committed None) are fits = refl
said_whole tables (said.Committed (Some number)) are fits = u64_whole number fits
said_whole tables (said.Stale read number) are fits = let b = and_parts (is_stale tables read) (is_u64 number) fits in stale_whole tables read number are b.0 b.1
said_whole tables said.Aborted are fits = refl
said_whole tables (said.Cooling count) are fits = u64_whole count fits
said_whole tables (said.Pruned count) are fits = u64_whole count fits
said_whole tables (said.Moved count) are fits = u64_whole count fits
said_whole tables (said.Sealed table block stamp) are fits = block_whole tables table block stamp are (block_parts tables table block stamp fits)
said_whole tables (said.NotSealed Phase) are fits = refl
said_whole tables (said.NotSealed Head) are fits = refl
said_whole tables (said.NotSealed Empty) are fits = refl
said_whole tables (said.NotSealed Gaps) are fits = refl
said_whole tables (said.NotSealed Versions) are fits = refl
said_whole tables (said.NotSealed Hot) are fits = refl
said_whole tables (said.NotSealed Last) are fits = refl
said_whole tables (said.Frozen table block rows) are fits = block_whole tables table block rows are (block_parts tables table block rows fits)
said_whole tables said.NotFrozen are fits = refl
said_whole tables (said.Exported number rows batches frozen) are fits = export_whole number rows batches frozen (export_parts number rows batches frozen fits)
said_whole tables (said.Dirty key) are fits = plain_whole (signed_decimal key) (signed_plain key (key_small key fits))
said_whole tables said.Memory are fits = refl
