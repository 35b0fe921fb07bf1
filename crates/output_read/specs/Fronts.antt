-- What the first of lines says, as a line of one reply.
use Rattle.std.specs.Prelude.{ℕ, ◌≡◌, true, false, Bool, ◌&&◌, ◌==◌, List, [], ◌∷◌, Option, None}
use Rattle.std.specs.Prelude.{Some, bytes_eq, codes}
use Rattle.cell_model.specs.declared.table.TableDecl.{TableDecl}
use Rattle.workload_spec.specs.declared.reply.ReplyLine.{ReplyLine}
use Rattle.workload_spec.specs.declared.reply.Who.{Who}
use Rattle.workload_spec.specs.declared.reply.Said.{Said}
use Rattle.workload_spec.specs.declared.reply.Said.TheVariants as said
use Rattle.workload_spec.specs.Words.{line_feed}
use Rattle.reply_text.specs.Readers.{◌>>=◌, where_true, behind, cut, u64_in, head_in, row_in}
use Rattle.reply_text.specs.Readers.{reply_in}
use Rattle.outcome_spec.specs.Entries.{is_same}

-- the reply has this round, session or worker, and index
abbrev pub has_head : ℕ → Who → ℕ → ReplyLine → Bool
has_head round who index reply = reply.round == round && is_same reply.who who
    && reply.index == index

-- what the line says as the reply of this round, session or worker, and index
abbrev pub said_at : List TableDecl → ℕ → Who → ℕ → List ℕ → Option Said
said_at tables round who index line = reply_in tables line >>= λ reply. where_true
    (has_head round who index reply) reply.said

-- the words behind these in the line
abbrev pub words_at : ℕ → Who → ℕ → List ℕ → Option (List ℕ)
words_at round who index line = cut line_feed line >>= λ both. head_in both.0 >>= λ head.
    where_true (bytes_eq both.1 [] && head.round == round && is_same head.who who
    && head.index == index) head.words

-- the words behind these in a line without its end
abbrev pub words_behind : ℕ → Who → ℕ → List ℕ → Option (List ℕ)
words_behind round who index line = head_in line >>= λ head. where_true
    (head.round == round && is_same head.who who && head.index == index) head.words

-- how many rows the line says that follow it
abbrev pub count_at : ℕ → Who → ℕ → List ℕ → Option ℕ
count_at round who index line = words_at round who index line >>= λ words. behind (codes "rows ")
    words >>= u64_in

-- the same of the first of lines
abbrev pub words_first : ℕ → Who → ℕ → List (List ℕ) → Option (List ℕ)
words_first round who index [] = None
words_first round who index (line ∷ lines) = words_at round who index line

abbrev pub said_first : List TableDecl → ℕ → Who → ℕ → List (List ℕ) → Option Said
said_first tables round who index [] = None
said_first tables round who index (line ∷ lines) = said_at tables round who index line

abbrev pub count_first : ℕ → Who → ℕ → List (List ℕ) → Option ℕ
count_first round who index lines = words_first round who index lines >>= λ words. behind
    (codes "rows ") words >>= u64_in

-- the words are those of a row, where one is said
abbrev pub IsSaidBy : List ℕ → Said → Type 0
IsSaidBy words (said.Found row) = (behind (codes "row ") words >>= row_in) ≡ Some row
IsSaidBy words _ = Unit {0}

-- a reply that stands on one line
abbrev pub is_single : Said → Bool
is_single (said.Scanned rows) = false
is_single _ = true

-- what it says has no row, and tells of no export, total or stale read
abbrev pub is_plain : Said → Bool
is_plain (said.Found row) = false
is_plain (said.Scanned rows) = false
is_plain (said.Exported number rows batches frozen) = false
is_plain (said.Totalled count sum) = false
is_plain (said.Stale read number) = false
is_plain _ = true

-- it says something of a block
abbrev pub is_of_block : Said → Bool
is_of_block (said.Freezing table block stamp) = true
is_of_block (said.Sealed table block stamp) = true
is_of_block (said.Frozen table block rows) = true
is_of_block _ = false
