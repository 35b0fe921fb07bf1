-- The text of replies.
use Rattle.std.specs.Prelude.{ℕ, List, [], ◌∷◌, ◌++◌, map, flat_map, length, codes, decimal, None}
use Rattle.std.specs.Prelude.{Some}
use Rattle.std.specs.Fmt.{signed_decimal}
use Rattle.cell_model.specs.declared.cell.Cell.{Cell}
use Rattle.cell_model.specs.declared.table.TableDecl.{TableDecl}
use Rattle.workload_spec.specs.declared.reply.ReplyLine.{ReplyLine}
use Rattle.workload_spec.specs.declared.reply.Who.{Who}
use Rattle.workload_spec.specs.declared.reply.Who.TheVariants.{Session, Worker}
use Rattle.workload_spec.specs.declared.reply.Said.{Said}
use Rattle.workload_spec.specs.declared.reply.Said.TheVariants as said
use Rattle.workload_spec.specs.declared.reply.SealCause.{SealCause}
use Rattle.workload_spec.specs.declared.reply.StaleRead.{StaleRead}
use Rattle.workload_spec.specs.declared.reply.StaleRead.TheVariants as stale
use Rattle.workload_spec.specs.declared.reply.SealCause.TheVariants.{Phase, Head, Empty, Gaps}
use Rattle.workload_spec.specs.declared.reply.SealCause.TheVariants.{Versions, Hot, Last}
use Rattle.workload_spec.specs.Words.{cell_words, spaced, lines_text}
use Rattle.workload_spec.specs.ScriptText.{name_of_table}

-- why a block is not sealed
abbrev pub cause_text : SealCause → List ℕ
cause_text Phase = codes "phase"
cause_text Head = codes "head"
cause_text Empty = codes "empty"
cause_text Gaps = codes "gaps"
cause_text Versions = codes "versions"
cause_text Hot = codes "hot"
cause_text Last = codes "last"

-- the words of a read that a later commit wrote: a key's table and key, or what else it is first
abbrev pub stale_words : List TableDecl → StaleRead → List (List ℕ)
stale_words tables (stale.Key table key) = name_of_table tables table ∷ signed_decimal key ∷ []
stale_words tables (stale.Table table) = codes "table" ∷ name_of_table tables table ∷ []
stale_words tables (stale.Range table low high) = codes "range" ∷ name_of_table tables table
    ∷ signed_decimal low ∷ signed_decimal high ∷ []

-- The words of a reply; those of a scan are its first line's.
abbrev pub said_words : List TableDecl → Said → List (List ℕ)
said_words tables (said.At number) = codes "at" ∷ decimal number ∷ []
said_words tables said.InTransaction = codes "in" ∷ codes "transaction" ∷ []
said_words tables said.NoTransaction = codes "no" ∷ codes "transaction" ∷ []
said_words tables (said.Found row) = codes "row" ∷ cell_words row
said_words tables said.Absent = codes "none" ∷ []
said_words tables (said.Scanned rows) = codes "rows" ∷ decimal (length rows) ∷ []
said_words tables (said.Totalled count sum) = codes "total" ∷ decimal count ∷ signed_decimal sum
    ∷ []
said_words tables said.Accepted = codes "ok" ∷ []
said_words tables (said.ConflictSession session) = codes "conflict" ∷ codes "session" ∷ decimal
    session ∷ []
said_words tables (said.ConflictCommit number) = codes "conflict" ∷ (codes "#" ++ decimal number)
    ∷ []
said_words tables said.Exists = codes "exists" ∷ []
said_words tables said.Missing = codes "missing" ∷ []
said_words tables said.Full = codes "full" ∷ []
said_words tables (said.Freezing table block stamp) = codes "freezing" ∷ name_of_table tables table
    ∷ decimal block ∷ decimal stamp ∷ []
said_words tables (said.Committed None) = codes "committed" ∷ codes "-" ∷ []
said_words tables (said.Committed (Some number)) = codes "committed" ∷ decimal number ∷ []
said_words tables (said.Stale read number) = codes "stale" ∷ (stale_words tables read
    ++ (codes "#" ++ decimal number) ∷ [])
said_words tables said.Aborted = codes "aborted" ∷ []
said_words tables (said.Cooling count) = codes "cooling" ∷ decimal count ∷ []
said_words tables (said.Pruned count) = codes "pruned" ∷ decimal count ∷ []
said_words tables (said.Moved count) = codes "moved" ∷ decimal count ∷ []
said_words tables (said.Sealed table block stamp) = codes "sealed" ∷ name_of_table tables table
    ∷ decimal block ∷ decimal stamp ∷ []
said_words tables (said.NotSealed cause) = codes "not" ∷ codes "sealed" ∷ cause_text cause ∷ []
said_words tables (said.Frozen table block rows) = codes "frozen" ∷ name_of_table tables table
    ∷ decimal block ∷ decimal rows ∷ []
said_words tables said.NotFrozen = codes "not" ∷ codes "frozen" ∷ []
said_words tables (said.Exported number rows batches frozen) =
    codes "export" ∷ decimal number ∷ codes "rows" ∷ decimal rows ∷ codes "batches" ∷ decimal
    batches ∷ codes "frozen" ∷ decimal frozen ∷ []
said_words tables (said.Dirty key) = codes "dirty" ∷ signed_decimal key ∷ []
said_words tables said.Memory = codes "memory" ∷ []

-- the line of a scanned row: a bar, its key and its cells
abbrev pub row_line : List Cell → List ℕ
row_line row = spaced (codes "|" ∷ cell_words row)

-- the lines behind a reply's first, which only a scan's has: one for each row
abbrev pub lines_behind : Said → List (List ℕ)
lines_behind (said.Scanned rows) = map row_line rows
lines_behind (said.At number) = []
lines_behind said.InTransaction = []
lines_behind said.NoTransaction = []
lines_behind (said.Found row) = []
lines_behind said.Absent = []
lines_behind (said.Totalled count sum) = []
lines_behind said.Accepted = []
lines_behind (said.ConflictSession session) = []
lines_behind (said.ConflictCommit number) = []
lines_behind said.Exists = []
lines_behind said.Missing = []
lines_behind said.Full = []
lines_behind (said.Freezing table block stamp) = []
lines_behind (said.Committed number) = []
lines_behind (said.Stale read number) = []
lines_behind said.Aborted = []
lines_behind (said.Cooling count) = []
lines_behind (said.Pruned count) = []
lines_behind (said.Moved count) = []
lines_behind (said.Sealed table block stamp) = []
lines_behind (said.NotSealed cause) = []
lines_behind (said.Frozen table block rows) = []
lines_behind said.NotFrozen = []
lines_behind (said.Exported number rows batches frozen) = []
lines_behind (said.Dirty key) = []
lines_behind said.Memory = []

-- who is answered: a session's number, or a worker's behind a `w`
abbrev pub who_text : Who → List ℕ
who_text (Session number) = decimal number
who_text (Worker number) = codes "w" ++ decimal number

-- the lines of a reply: its round, who is answered, its index and its words, and a scan's rows
-- behind it
abbrev pub reply_lines : List TableDecl → ReplyLine → List (List ℕ)
reply_lines tables reply =
    spaced (decimal reply.round ∷ who_text reply.who ∷ decimal reply.index ∷ said_words tables
    reply.said) ∷ lines_behind reply.said

-- The text of a reply.
abbrev pub reply_text : List TableDecl → ReplyLine → List ℕ
reply_text tables reply = lines_text (reply_lines tables reply)

-- The text of replies in order.
abbrev pub replies_text : List TableDecl → List ReplyLine → List ℕ
replies_text tables replies = flat_map (reply_text tables) replies
