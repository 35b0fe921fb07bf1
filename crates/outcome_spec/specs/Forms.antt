-- Which lines an output has: whom each of them answers, in which order, and what it may say.
use Rattle.std.specs.Prelude.{ℕ, ◌+◌, max, Bool, true, false, ◌&&◌, ◌||◌, not, ◌==◌, List, [], ◌∷◌}
use Rattle.std.specs.Prelude.{◌++◌, map, filter, filter_map, flat_map, length, take, drop, find}
use Rattle.std.specs.Prelude.{count_by, sum_by, fold, position, ℤ, pos, negsuc, ◌-◌, ◌^◌, bytes_eq}
use Rattle.std.specs.Prelude.{codes, decimal, if◌then◌else◌, Option, None, Some, option_map}
use Rattle.std.specs.Prelude.{option_and_then, Result, Ok, Err}
use Rattle.std.specs.List.{list_all, starts_with, enumerate_from, range_with_len}
use Rattle.std.specs.Option.{option_map_or}
use Rattle.std.specs.Ordering.{int_eq}
use Rattle.cell_model.specs.declared.column.Column.{Column}
use Rattle.cell_model.specs.declared.kind.Kind.TheVariants as kind
use Rattle.cell_model.specs.declared.table.TableDecl.{TableDecl}
use Rattle.cell_model.specs.Values.{is_between, is_integer_of}
use Rattle.isolation_spec.specs.Contents.{key_of}
use Rattle.workload_spec.specs.declared.command.Command.{Command}
use Rattle.workload_spec.specs.declared.command.Command.TheVariants as command
use Rattle.workload_spec.specs.declared.script.Line.{Line}
use Rattle.workload_spec.specs.declared.script.Script.{Script}
use Rattle.workload_spec.specs.declared.reply.Who.{Who}
use Rattle.workload_spec.specs.declared.reply.Who.TheVariants.{Session, Worker}
use Rattle.workload_spec.specs.declared.reply.Said.{Said}
use Rattle.workload_spec.specs.declared.reply.Said.TheVariants as said
use Rattle.workload_spec.specs.declared.reply.StaleRead.{StaleRead}
use Rattle.workload_spec.specs.declared.reply.StaleRead.TheVariants as stale
use Rattle.workload_spec.specs.declared.reply.SealCause.TheVariants.{Phase, Head, Empty, Gaps}
use Rattle.workload_spec.specs.declared.reply.SealCause.TheVariants.{Versions, Hot, Last}
use Rattle.workload_spec.specs.Words.{line_feed, spaced}
use Rattle.workload_spec.specs.declared.reply.ReplyLine.{ReplyLine}
use Rattle.workload_spec.specs.ReplyText.{reply_text, reply_lines, who_text}
use Rattle.outcome_spec.specs.Lines.{lines_of}
use Rattle.outcome_spec.specs.Reading.{words_in, row_of, rows_above, integer_at, u32_at, u64_at}
use Rattle.outcome_spec.specs.Reading.{tagged_u64_at, word_at}
use Rattle.outcome_spec.specs.Entries.{Entry, is_same}
use Rattle.outcome_spec.specs.Tables.{columns_at}

-- A reply that is due: its round, whom it answers, and the command.
pub record Due : Type 0 where
  pub round : ℕ
  pub who : Who
  pub command : Command

-- the commands of a session among a round's lines, in order
abbrev pub commands_of : ℕ → List Line → List Command
commands_of session lines = filter_map
    (λ line. if line.session == session then Some line.command else None) lines

-- A worker's turn: observe and prune, and for each table in order compact, and for each of its
-- blocks seal and gather.
abbrev pub turn_of : List TableDecl → List Command
turn_of tables = command.Observe ∷ command.Prune ∷ flat_map
    (λ entry. command.Compact entry.0 ∷ flat_map
    (λ block. command.Seal entry.0 block ∷ command.Gather entry.0 block ∷ [])
    (range_with_len 0 entry.1.blocks))
    (enumerate_from 0 tables)

-- what is due to one in a round
abbrev pub dues_to : ℕ → Who → List Command → List Due
dues_to round who commands = map (λ asked. record { round = round; who = who; command = asked })
    commands

-- the replies that are due in a round: to its sessions in order, and then to its workers
abbrev pub dues_in : Script → ℕ → List Line → List Due
dues_in script round lines =
    flat_map (λ session. dues_to round (Session session) (commands_of session lines))
    (range_with_len 1 script.sessions)
    ++ flat_map (λ worker. dues_to round (Worker worker)
    (flat_map (λ turn. turn_of script.tables) (range_with_len 1 script.turns)))
    (range_with_len 1 script.workers)

-- The replies that are due, in the order of their lines: round by round.
abbrev pub dues_of : Script → List Due
dues_of script = flat_map (λ entry. dues_in script entry.0 entry.1) (enumerate_from 1 script.rounds)

-- a worker's seal or gather that does nothing leaves no line
abbrev pub is_silent : Said → Bool
is_silent (said.NotSealed cause) = true
is_silent said.NotFrozen = true
is_silent (said.At number) = false
is_silent (said.Stale read number) = false
is_silent (said.Totalled count sum) = false
is_silent said.InTransaction = false
is_silent said.NoTransaction = false
is_silent (said.Found row) = false
is_silent said.Absent = false
is_silent (said.Scanned rows) = false
is_silent said.Accepted = false
is_silent (said.ConflictSession session) = false
is_silent (said.ConflictCommit number) = false
is_silent said.Exists = false
is_silent said.Missing = false
is_silent said.Full = false
is_silent (said.Freezing table block stamp) = false
is_silent (said.Committed number) = false
is_silent said.Aborted = false
is_silent (said.Cooling count) = false
is_silent (said.Pruned count) = false
is_silent (said.Moved count) = false
is_silent (said.Sealed table block stamp) = false
is_silent (said.Frozen table block rows) = false
is_silent (said.Exported number rows batches frozen) = false
is_silent (said.Dirty key) = false
is_silent said.Memory = false

abbrev pub is_seal_or_gather : Command → Bool
is_seal_or_gather (command.Seal table block) = true
is_seal_or_gather (command.Gather table block) = true
is_seal_or_gather (command.Begin checked) = false
is_seal_or_gather (command.Get table key) = false
is_seal_or_gather (command.Range table low high) = false
is_seal_or_gather (command.Total table column low high) = false
is_seal_or_gather (command.Scan table) = false
is_seal_or_gather (command.Insert table row) = false
is_seal_or_gather (command.Update table row) = false
is_seal_or_gather (command.Delete table key) = false
is_seal_or_gather command.Commit = false
is_seal_or_gather command.Abort = false
is_seal_or_gather command.Observe = false
is_seal_or_gather command.Prune = false
is_seal_or_gather (command.Compact table) = false
is_seal_or_gather (command.Export table) = false

abbrev pub is_worker : Who → Bool
is_worker (Session number) = false
is_worker (Worker number) = true

abbrev pub may_be_silent : Due → Bool
may_be_silent due = is_worker due.who && is_seal_or_gather due.command

-- a scan's reply: the rows of the lines behind its first, as many as that says
abbrev pub scan_replies : List Column → List (List ℕ) → List (List ℕ) → List Said
scan_replies columns words behind = said.Scanned
    (rows_above columns None (take (u64_at words 1) behind)) ∷ []

-- a get's row: one of the table that has the key
abbrev pub row_replies : List Column → ℤ → List (List ℕ) → List Said
row_replies columns key words = option_map_or
    (λ row. if int_eq (key_of row) key then said.Found row ∷ [] else [])
    (row_of columns (drop 1 words)) []

-- an export that is refused for a key, which is an i64
abbrev pub dirty_replies : ℤ → List Said
dirty_replies key = if is_integer_of kind.I64 key then said.Dirty key ∷ [] else []

-- a write's conflict
abbrev pub conflict_replies : List (List ℕ) → List Said
conflict_replies words = said.ConflictSession (u32_at words 2) ∷ said.ConflictCommit
    (tagged_u64_at words 1) ∷ []

-- what an update or a delete may be told
abbrev pub change_replies : ℕ → List (List ℕ) → List Said
change_replies table words =
    said.Accepted ∷ said.Missing ∷ said.Memory ∷ said.Freezing table (u32_at words 2)
    (u32_at words 3) ∷ conflict_replies words

-- a total, whose sum is a number of 128 bits
abbrev pub total_replies : List (List ℕ) → List Said
total_replies words =
    if is_between (negsuc (2 ^ 127 - 1)) (pos (2 ^ 127 - 1)) (integer_at words 2)
    then said.Totalled (u64_at words 1) (integer_at words 2) ∷ []
    else []

-- the table that a word names, and the key, which is an i64, that it is
abbrev pub table_at : List TableDecl → List (List ℕ) → ℕ → Option ℕ
table_at tables words at = position (λ table. bytes_eq table.name (word_at words at)) tables

abbrev pub key_at : List (List ℕ) → ℕ → Option ℤ
key_at words at = if is_integer_of kind.I64 (integer_at words at) then Some (integer_at words at)
    else None

-- the read that the words of a stale commit name: a key behind its table, a table, or a range
abbrev pub key_named : List TableDecl → List (List ℕ) → Option StaleRead
key_named tables words = option_and_then
    (λ table. option_map (λ key. stale.Key table key) (key_at words 2))
    (table_at tables words 1)

abbrev pub table_named : List TableDecl → List (List ℕ) → Option StaleRead
table_named tables words = option_map (λ table. stale.Table table) (table_at tables words 2)

abbrev pub range_named : List TableDecl → List (List ℕ) → Option StaleRead
range_named tables words = option_and_then
    (λ table. option_and_then
    (λ low. option_map (λ high. stale.Range table low high) (key_at words 4)) (key_at words 3))
    (table_at tables words 2)

-- the reply that names a read, where there is one, and the number in the word at this place
abbrev pub stale_reply : List (List ℕ) → ℕ → Option StaleRead → List Said
stale_reply words at what = option_map_or
    (λ its. said.Stale its (tagged_u64_at words at) ∷ []) what []

-- what a commit that is refused may be told
abbrev pub stale_replies : List TableDecl → List (List ℕ) → List Said
stale_replies tables words =
    stale_reply words 3 (key_named tables words)
    ++ stale_reply words 3 (table_named tables words)
    ++ stale_reply words 5 (range_named tables words)

-- What a command may be told that needs no transaction or has one. The numbers and rows are those
-- of the line's words, `behind` are the lines that follow it.
abbrev pub replies_within : List TableDecl → List (List ℕ) → List (List ℕ) → Command → List Said
replies_within tables words behind (command.Begin checked) = said.InTransaction ∷ []
replies_within tables words behind (command.Get table key) = said.Absent ∷ said.Memory ∷ row_replies
    (columns_at tables table) key words
replies_within tables words behind (command.Range table low high) = said.Memory ∷ scan_replies
    (columns_at tables table) words behind
replies_within tables words behind (command.Total table column low high) = said.Memory
    ∷ total_replies words
replies_within tables words behind (command.Scan table) = said.Memory ∷ scan_replies
    (columns_at tables table) words behind
replies_within tables words behind (command.Insert table row) = said.Accepted ∷ said.Exists
    ∷ said.Full ∷ said.Memory ∷ conflict_replies words
replies_within tables words behind (command.Update table row) = change_replies table words
replies_within tables words behind (command.Delete table key) = change_replies table words
replies_within tables words behind command.Commit = said.Committed None ∷ said.Committed
    (Some (u64_at words 1)) ∷ stale_replies tables words
replies_within tables words behind command.Abort = said.Aborted ∷ []
replies_within tables words behind command.Observe = said.Cooling (u64_at words 1) ∷ []
replies_within tables words behind command.Prune = said.Pruned (u64_at words 1) ∷ []
replies_within tables words behind (command.Compact table) = said.Moved (u64_at words 1)
    ∷ said.Memory ∷ []
replies_within tables words behind (command.Seal table block) =
    said.Sealed table block (u32_at words 3) ∷ map (λ cause. said.NotSealed cause)
    (Phase ∷ Head ∷ Empty ∷ Gaps ∷ Versions ∷ Hot ∷ Last ∷ [])
replies_within tables words behind (command.Gather table block) = said.Frozen table block
    (u32_at words 3) ∷ said.NotFrozen ∷ said.Memory ∷ []
replies_within tables words behind (command.Export table) =
    said.Exported (u64_at words 1) (u64_at words 3) (u32_at words 5) (u32_at words 7) ∷ said.Memory
    ∷ dirty_replies (integer_at words 1)

-- upkeep needs no transaction
abbrev pub is_upkeep : Command → Bool
is_upkeep command.Observe = true
is_upkeep command.Prune = true
is_upkeep (command.Compact table) = true
is_upkeep (command.Seal table block) = true
is_upkeep (command.Gather table block) = true
is_upkeep (command.Begin checked) = false
is_upkeep (command.Get table key) = false
is_upkeep (command.Range table low high) = false
is_upkeep (command.Total table column low high) = false
is_upkeep (command.Scan table) = false
is_upkeep (command.Insert table row) = false
is_upkeep (command.Update table row) = false
is_upkeep (command.Delete table key) = false
is_upkeep command.Commit = false
is_upkeep command.Abort = false
is_upkeep (command.Export table) = false

-- what a command that needs a transaction may be told without one: `begin` opens it
abbrev pub replies_without : List (List ℕ) → Command → List Said
replies_without words (command.Begin checked) = said.At (u64_at words 1) ∷ []
replies_without words (command.Get table key) = said.NoTransaction ∷ []
replies_without words (command.Range table low high) = said.NoTransaction ∷ []
replies_without words (command.Total table column low high) = said.NoTransaction ∷ []
replies_without words (command.Scan table) = said.NoTransaction ∷ []
replies_without words (command.Insert table row) = said.NoTransaction ∷ []
replies_without words (command.Update table row) = said.NoTransaction ∷ []
replies_without words (command.Delete table key) = said.NoTransaction ∷ []
replies_without words command.Commit = said.NoTransaction ∷ []
replies_without words command.Abort = said.NoTransaction ∷ []
replies_without words command.Observe = said.NoTransaction ∷ []
replies_without words command.Prune = said.NoTransaction ∷ []
replies_without words (command.Compact table) = said.NoTransaction ∷ []
replies_without words (command.Seal table block) = said.NoTransaction ∷ []
replies_without words (command.Gather table block) = said.NoTransaction ∷ []
replies_without words (command.Export table) = said.NoTransaction ∷ []

-- whether its session is in a transaction behind a reply, where it was in one before it or not
abbrev pub within_behind : Bool → Said → Bool
within_behind within (said.At number) = true
within_behind within (said.Committed number) = false
within_behind within said.Aborted = false
within_behind within (said.Stale read number) = within
within_behind within (said.Totalled count sum) = within
within_behind within said.InTransaction = within
within_behind within said.NoTransaction = within
within_behind within (said.Found row) = within
within_behind within said.Absent = within
within_behind within (said.Scanned rows) = within
within_behind within said.Accepted = within
within_behind within (said.ConflictSession session) = within
within_behind within (said.ConflictCommit number) = within
within_behind within said.Exists = within
within_behind within said.Missing = within
within_behind within said.Full = within
within_behind within (said.Freezing table block stamp) = within
within_behind within (said.Cooling count) = within
within_behind within (said.Pruned count) = within
within_behind within (said.Moved count) = within
within_behind within (said.Sealed table block stamp) = within
within_behind within (said.NotSealed cause) = within
within_behind within (said.Frozen table block rows) = within
within_behind within said.NotFrozen = within
within_behind within (said.Exported number rows batches frozen) = within
within_behind within (said.Dirty key) = within
within_behind within said.Memory = within

-- Whether a session is in a transaction behind these replies, as its own among them say.
abbrev pub is_within : Who → List Entry → Bool
is_within who entries = fold within_behind false
    (map (λ entry. entry.reply.said) (filter (λ entry. is_same entry.reply.who who) entries))

-- What may stand behind these replies where one is due: a session's depends on whether it is in a
-- transaction, and a worker's is never silent.
abbrev pub replies_due : List TableDecl → List Entry → Due → List (List ℕ) → List (List ℕ)
    → List Said
replies_due tables earlier due words behind = filter
    (λ told. not (is_worker due.who && is_silent told))
    (if is_within due.who earlier || is_upkeep due.command
    then replies_within tables words behind due.command else replies_without words due.command)

-- how many lines a reply has
abbrev pub line_count : List TableDecl → Entry → ℕ
line_count tables entry = length (reply_lines tables entry.reply)

-- the number of the line behind those of these replies
abbrev pub next_line : List TableDecl → List Entry → ℕ
next_line tables earlier = 1 + sum_by (line_count tables) earlier

-- A worker's line doesn't tell which step of its turn it answers: each is taken for the first.
abbrev pub command_shown : Due → Command
command_shown due = if is_worker due.who then command.Observe else due.command

-- The reply behind these that answers what is due and says this: its index counts the replies of
-- the round to the same session or worker.
abbrev pub entry_behind : List TableDecl → List Entry → Due → Said → Entry
entry_behind tables earlier due told = record {
  number = next_line tables earlier;
  command = command_shown due;
  reply = record {
    round = due.round;
    who = due.who;
    index = 1 + count_by (λ entry. entry.reply.round == due.round
        && is_same entry.reply.who due.who) earlier;
    said = told;
  };
}

-- the lines begin with those of the reply's text
abbrev pub begins_with : List TableDecl → List (List ℕ) → Entry → Bool
begins_with tables lines entry = starts_with bytes_eq lines
    (lines_of (reply_text tables entry.reply))

-- The reply at the front of a line and those behind it, where it is one that is due.
abbrev pub reply_at : List TableDecl → List Entry → Due → List ℕ → List (List ℕ) → Option Entry
reply_at tables earlier due line behind = find (begins_with tables (line ∷ behind))
    (map (entry_behind tables earlier due)
    (replies_due tables earlier due (drop 3 (words_in line)) behind))

-- the table of which a command asks for rows in a transaction
abbrev pub scanned_by : Bool → Command → Option ℕ
scanned_by within (command.Scan table) = if within then Some table else None
scanned_by within (command.Range table low high) = if within then Some table else None
scanned_by within (command.Begin checked) = None
scanned_by within (command.Get table key) = None
scanned_by within (command.Total table column low high) = None
scanned_by within (command.Insert table row) = None
scanned_by within (command.Update table row) = None
scanned_by within (command.Delete table key) = None
scanned_by within command.Commit = None
scanned_by within command.Abort = None
scanned_by within command.Observe = None
scanned_by within command.Prune = None
scanned_by within (command.Compact table) = None
scanned_by within (command.Seal table block) = None
scanned_by within (command.Gather table block) = None
scanned_by within (command.Export table) = None

-- the first line of a scan of so many rows
abbrev pub scan_line : ReplyLine → ℕ → List ℕ
scan_line reply count =
    spaced (decimal reply.round ∷ who_text reply.who ∷ decimal reply.index ∷ codes "rows" ∷ decimal
    count ∷ []) ++ line_feed ∷ []

-- how many lines of a scan that lacks rows stand at the front of these: its first, and the rows
-- behind it up to the first line that is none
abbrev pub lines_of_scan : List TableDecl → ReplyLine → List ℕ → List (List ℕ) → ℕ → ℕ
lines_of_scan tables reply line behind table =
    if bytes_eq line (scan_line reply (u64_at (drop 3 (words_in line)) 1))
    then 1 + length (rows_above (columns_at tables table) None
    (take (u64_at (drop 3 (words_in line)) 1) behind)) else 0

-- how many lines at the front of these may be those of what is due, where not all of it is there
abbrev pub lines_begun : List TableDecl → List Entry → Due → List ℕ → List (List ℕ) → ℕ
lines_begun tables earlier due line behind = option_map_or
    (lines_of_scan tables (entry_behind tables earlier due said.Memory).reply line behind)
    (scanned_by (is_within due.who earlier) due.command) 0

-- Of two readings the one that comes to the end, the first one if both do, or else the later of the
-- lines at which they fail.
abbrev pub further : Result (List Entry) ℕ → Result (List Entry) ℕ → Result (List Entry) ℕ
further (Ok entries) other = Ok entries
further (Err line) (Ok entries) = Ok entries
further (Err line) (Err other) = Err (max line other)

-- The replies of lines that follow earlier replies, with these. Each due reply has its lines, in
-- order, but for those that may be silent, and no line is left. Where the lines can't be read so,
-- the first line that no way of reading them gets past; a line that is missing is the one after the
-- last. A worker's `memory` may be its answer to the compaction that is due or to any gathering
-- before the next compaction, or before its turn's end: whatever lets the lines behind it be read.
abbrev pub reading : List TableDecl → List Due → List Entry → List (List ℕ) → Result (List Entry) ℕ
reading tables [] earlier [] = Ok earlier
reading tables [] earlier (line ∷ behind) = Err (next_line tables earlier)
reading tables (due ∷ dues) earlier [] = if list_all may_be_silent (due ∷ dues) then Ok earlier
    else Err (next_line tables earlier)
reading tables (due ∷ dues) earlier (line ∷ behind) = elim (may_be_silent due) [
  | true ↦ further
      (elim (reply_at tables earlier due line behind) [
        | Some entry ↦ reading tables dues (earlier ++ entry ∷ [])
            (drop (line_count tables entry) (line ∷ behind))
        | None ↦ Err (next_line tables earlier + lines_begun tables earlier due line behind)
      ])
      (reading tables dues earlier (line ∷ behind))
  | false ↦ elim (reply_at tables earlier due line behind) [
    | Some entry ↦ reading tables dues (earlier ++ entry ∷ [])
        (drop (line_count tables entry) (line ∷ behind))
    | None ↦ Err (next_line tables earlier + lines_begun tables earlier due line behind)
  ]
]
