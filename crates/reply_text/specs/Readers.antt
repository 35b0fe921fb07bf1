-- What bytes are read as, from left to right.
use Rattle.std.specs.Prelude.{ℕ, ◌^◌, ◌-◌, Bool, true, false, ◌==◌, List, [], ◌∷◌, length, take}
use Rattle.std.specs.Prelude.{drop, find, position, ℤ, Option, None, Some, option_map, bytes_eq}
use Rattle.std.specs.Prelude.{codes, if◌then◌else◌}
use Rattle.cell_model.specs.declared.cell.Cell.{Cell}
use Rattle.cell_model.specs.declared.cell.Cell.TheVariants.{Null, Num, Truth, Text, Blob}
use Rattle.cell_model.specs.declared.table.TableDecl.{TableDecl}
use Rattle.workload_spec.specs.declared.reply.ReplyLine.{ReplyLine}
use Rattle.workload_spec.specs.declared.reply.Who.{Who}
use Rattle.workload_spec.specs.declared.reply.Who.TheVariants.{Session, Worker}
use Rattle.workload_spec.specs.declared.reply.Said.{Said}
use Rattle.workload_spec.specs.declared.reply.Said.TheVariants as said
use Rattle.workload_spec.specs.declared.reply.StaleRead.TheVariants as stale
use Rattle.workload_spec.specs.declared.reply.SealCause.TheVariants.{Phase, Head, Empty, Gaps}
use Rattle.workload_spec.specs.declared.reply.SealCause.TheVariants.{Versions, Hot, Last}
use Rattle.workload_spec.specs.Words.{space, line_feed, spaced}
use Rattle.workload_spec.specs.Reading.{parts, words_of, natural_of, natural_within, integer_of}
use Rattle.workload_spec.specs.Valid.{is_key_number}
use Rattle.workload_spec.specs.ReplyText.{said_words}
use Rattle.word_read.specs.Numbers.{small_natural, small_integer}
use Rattle.word_read.specs.Spellings.{truth_of, text_of, blob_of}
use Rattle.reply_text.specs.Shown.{is_sum}

-- what is read, and then what is read with it
infixl 10 ◌>>=◌
abbrev pub ◌>>=◌ : {A B : Type 0} → Option A → (A → Option B) → Option B
None >>= next = None
(Some value) >>= next = next value

-- the value, where the test holds
abbrev pub where_true : {A : Type 0} → Bool → A → Option A
where_true true value = Some value
where_true false value = None

-- what stands behind these bytes
abbrev pub behind : List ℕ → List ℕ → Option (List ℕ)
behind front bytes = where_true (bytes_eq (take (length front) bytes) front)
    (drop (length front) bytes)

-- the bytes before the first such byte, and those behind it
abbrev pub cut : ℕ → List ℕ → Option (List ℕ × List ℕ)
cut separator [] = None
cut separator (byte ∷ bytes) = if byte == separator then Some ([], bytes)
    else option_map (λ both. (byte ∷ both.0, both.1)) (cut separator bytes)

abbrev pub u64_in : List ℕ → Option ℕ
u64_in word = small_natural (natural_of word)

abbrev pub u32_in : List ℕ → Option ℕ
u32_in word = natural_within 0 (2 ^ 32 - 1) word

abbrev pub key_in : List ℕ → Option ℤ
key_in word = integer_of word >>= λ key. where_true (is_key_number key) key

-- the number of 128 bits that a word spells
abbrev pub sum_in : List ℕ → Option ℤ
sum_in word = integer_of word >>= λ sum. where_true (is_sum sum) sum

-- the number behind a `#`
abbrev pub tagged_in : List ℕ → Option ℕ
tagged_in word = behind (codes "#") word >>= u64_in

-- the table of this name
abbrev pub table_in : List TableDecl → List ℕ → Option ℕ
table_in tables name = position (λ table. bytes_eq table.name name) tables

-- the first of a truth value, a text, bytes and a number that there is
abbrev pub value_from : Option Bool → Option (List ℕ) → Option (List ℕ) → Option Cell → Option Cell
value_from (Some truth) text bytes number = Some (Truth truth)
value_from None (Some text) bytes number = Some (Text text)
value_from None None (Some bytes) number = Some (Blob bytes)
value_from None None None number = number

-- the cell that a word spells
abbrev pub value_in : List ℕ → Option Cell
value_in word = value_from (truth_of word) (text_of word) (blob_of word)
    (option_map Num (small_integer (integer_of word)))

abbrev pub cell_in : List ℕ → Option Cell
cell_in word = if bytes_eq word (codes "null") then Some Null else value_in word

abbrev pub cells_in : List (List ℕ) → Option (List Cell)
cells_in [] = Some []
cells_in (word ∷ words) = cell_in word >>= λ cell. cells_in words >>= λ cells. Some (cell ∷ cells)

-- the row whose cells are the words of these bytes
abbrev pub row_in : List ℕ → Option (List Cell)
row_in bytes = cells_in (words_of bytes)

-- the rows of lines, each behind a bar
abbrev pub rows_in : List (List ℕ) → Option (List (List Cell))
rows_in [] = None
rows_in ([] ∷ []) = Some []
rows_in ((byte ∷ bytes) ∷ []) = None
rows_in (line ∷ next ∷ rest) = behind (codes "| ") line >>= row_in >>= λ row. rows_in (next ∷ rest)
    >>= λ rows. Some (row ∷ rows)

-- the replies that have no number, table or row
abbrev pub answers : List Said
answers = said.InTransaction ∷ said.NoTransaction ∷ said.Absent ∷ said.Accepted ∷ said.Exists
    ∷ said.Missing ∷ said.Full ∷ said.Committed None ∷ said.Aborted ∷ said.Memory ∷ []

abbrev pub refusals : List Said
refusals = said.NotSealed Phase ∷ said.NotSealed Head ∷ said.NotSealed Empty ∷ said.NotSealed Gaps
    ∷ said.NotSealed Versions ∷ said.NotSealed Hot ∷ said.NotSealed Last
    ∷ said.NotFrozen ∷ []

abbrev pub answer_in : List ℕ → Option Said
answer_in bytes = find (λ told. bytes_eq (spaced (said_words [] told)) bytes) answers

abbrev pub refusal_in : List ℕ → Option Said
refusal_in bytes = find (λ told. bytes_eq (spaced (said_words [] told)) bytes) refusals

-- a table, a block, and the block's stamp or rows
abbrev pub block_in : List TableDecl → (ℕ → ℕ → ℕ → Said) → List ℕ → Option Said
block_in tables make bytes =
    cut space bytes >>= λ name. table_in tables name.0 >>= λ table. cut space name.1 >>= λ block.
    u32_in block.0 >>= λ place. u32_in block.1 >>= λ number. Some (make table place number)

-- the numbers of an export
abbrev pub exported_in : List ℕ → Option Said
exported_in bytes =
    cut space bytes >>= λ first. u64_in first.0 >>= λ number. behind (codes "rows ") first.1 >>=
    λ from. cut space from >>= λ second. u64_in second.0 >>= λ rows.
    behind (codes "batches ") second.1 >>= λ more. cut space more >>= λ third. u32_in third.0 >>=
    λ batches. behind (codes "frozen ") third.1 >>= λ last.
    u32_in last >>= λ frozen. Some (said.Exported number rows batches frozen)

-- how many numbers, and their sum
abbrev pub totalled_in : List ℕ → Option Said
totalled_in bytes =
    cut space bytes >>= λ words. u64_in words.0 >>= λ count. sum_in words.1 >>= λ sum.
    Some (said.Totalled count sum)

-- the read that a later commit wrote, and the commit's number: a table behind its word, a range
-- behind its word, or a key behind its table
abbrev pub stale_table_in : List TableDecl → List ℕ → Option Said
stale_table_in tables bytes =
    behind (codes "table ") bytes >>= λ words. cut space words >>= λ name. table_in tables name.0 >>=
    λ table. tagged_in name.1 >>= λ number.
    Some (said.Stale (stale.Table table) number)

abbrev pub stale_range_in : List TableDecl → List ℕ → Option Said
stale_range_in tables bytes =
    behind (codes "range ") bytes >>= λ words. cut space words >>= λ name. table_in tables name.0 >>=
    λ table. cut space name.1 >>= λ low_word. key_in low_word.0 >>= λ low. cut space low_word.1 >>=
    λ high_word. key_in high_word.0 >>= λ high. tagged_in high_word.1 >>= λ number.
    Some (said.Stale (stale.Range table low high) number)

abbrev pub stale_key_in : List TableDecl → List ℕ → Option Said
stale_key_in tables bytes =
    cut space bytes >>= λ name. table_in tables name.0 >>= λ table. cut space name.1 >>= λ key_word.
    key_in key_word.0 >>= λ key. tagged_in key_word.1 >>= λ number.
    Some (said.Stale (stale.Key table key) number)

-- the replies of one number, or of a table's block: the bytes with which each begins, and what the
-- bytes behind them are
abbrev pub Openings : Type 0
Openings = List (List ℕ × (List ℕ → Option Said))

abbrev pub counts : Openings
counts = (codes "at ", λ word. option_map said.At (u64_in word))
    ∷ (codes "conflict session ", λ word. option_map said.ConflictSession (u32_in word))
    ∷ (codes "conflict #", λ word. option_map said.ConflictCommit (u64_in word))
    ∷ (
      codes "committed ",
      λ word. option_map (λ number. said.Committed (Some number))
          (u64_in word),
    )
    ∷ (codes "cooling ", λ word. option_map said.Cooling (u64_in word))
    ∷ (codes "pruned ", λ word. option_map said.Pruned (u64_in word))
    ∷ (codes "moved ", λ word. option_map said.Moved (u64_in word))
    ∷ (codes "dirty ", λ word. option_map said.Dirty (key_in word))
    ∷ []

-- the first that there is
abbrev pub first_of : {A : Type 0} → Option A → Option A → Option A
first_of (Some value) other = Some value
first_of None other = other

abbrev pub stale_in : List TableDecl → List ℕ → Option Said
stale_in tables bytes = first_of (stale_table_in tables bytes)
    (first_of (stale_range_in tables bytes) (stale_key_in tables bytes))

abbrev pub places : List TableDecl → Openings
places tables = (codes "freezing ", block_in tables said.Freezing)
    ∷ (codes "sealed ", block_in tables said.Sealed)
    ∷ (codes "frozen ", block_in tables said.Frozen)
    ∷ (codes "export ", exported_in)
    ∷ (codes "total ", totalled_in)
    ∷ (codes "stale ", stale_in tables)
    ∷ []

-- by the first of the openings with which the bytes begin
abbrev pub opened_in : Openings → List ℕ → Option Said
opened_in [] bytes = None
opened_in (opening ∷ others) bytes = elim (behind opening.0 bytes)
    [ Some rest ↦ opening.1 rest | None ↦ opened_in others bytes ]

abbrev pub found_in : List ℕ → Option Said
found_in bytes = behind (codes "row ") bytes >>= λ cells. option_map said.Found (row_in cells)

-- a reply of one line
abbrev pub said_in : List TableDecl → List ℕ → Option Said
said_in tables bytes = first_of (answer_in bytes)
    (first_of (refusal_in bytes) (first_of (opened_in counts bytes)
    (first_of (opened_in (places tables) bytes) (found_in bytes))))

-- a scan's reply: as many rows as its first line says
abbrev pub scanned_in : List ℕ → List ℕ → Option Said
scanned_in word others = u64_in word >>= λ count. rows_in (parts line_feed others) >>= λ rows.
    where_true (length rows == count) (said.Scanned rows)

-- a reply whose first line says this, with what stands behind that line
abbrev pub told_in : List TableDecl → List ℕ → List ℕ → Option Said
told_in tables bytes others = elim (behind (codes "rows ") bytes) [
  | Some word ↦ scanned_in word others
  | None ↦ if bytes_eq others [] then said_in tables bytes else None
]

-- whom a word names: a session's number, or a worker's behind a `w`
abbrev pub who_in : List ℕ → Option Who
who_in word = elim (behind (codes "w") word) [
  | Some digits ↦ option_map Worker (u32_in digits)
  | None ↦ option_map Session (u32_in word)
]

-- what stands before a reply's words, and the words
pub record Heading : Type 0 where
  pub round : ℕ
  pub who : Who
  pub index : ℕ
  pub words : List ℕ

abbrev pub head_in : List ℕ → Option Heading
head_in line =
    cut space line >>= λ first. u32_in first.0 >>= λ round. cut space first.1 >>= λ second. who_in
    second.0 >>= λ who. cut space second.1 >>= λ third. u64_in third.0 >>= λ index.
    Some (record { round = round; who = who; index = index; words = third.1 })

-- the reply that bytes are
abbrev pub reply_in : List TableDecl → List ℕ → Option ReplyLine
reply_in tables bytes =
    cut line_feed bytes >>= λ lines. head_in lines.0 >>= λ head. told_in tables head.words lines.1
    >>= λ told.
    Some (record { round = head.round; who = head.who; index = head.index; said = told })
