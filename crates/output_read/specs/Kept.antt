-- The replies of an output that kept ones are.
use Rattle.std.specs.Prelude.{Bool, true, false, ◌==◌, List, [], map, length, is_some, unwrap_or}
use Rattle.std.specs.List.{list_all}
use Rattle.std.specs.Option.{option_map_or}
use Rattle.workload_spec.specs.declared.command.Command.TheVariants as command
use Rattle.workload_spec.specs.declared.reply.Said.{Said}
use Rattle.workload_spec.specs.declared.reply.Said.TheVariants as said
use Rattle.workload_spec.specs.Words.{line_feed}
use Rattle.workload_spec.specs.Reading.{parts}
use Rattle.reply_text.specs.Readers.{row_in, rows_in}
use Rattle.outcome_spec.specs.Entries.{Entry}
use Rattle.output_read.specs.declared.kept.KeptReply.{KeptReply}
use Rattle.output_read.specs.declared.kept.Told.{Told}
use Rattle.output_read.specs.declared.kept.Told.TheVariants as told

-- What is kept says this: a row is the one that its words spell, and rows are those of their lines.
abbrev pub said_of : Told → Said
said_of (told.At number) = said.At number
said_of told.InTransaction = said.InTransaction
said_of told.NoTransaction = said.NoTransaction
said_of (told.Found words) = said.Found (unwrap_or (row_in words.now) [])
said_of told.Absent = said.Absent
said_of (told.Scanned count lines) = said.Scanned
    (unwrap_or (rows_in (parts line_feed lines.now)) [])
said_of (told.Totalled total) = said.Totalled total.value.count total.value.sum
said_of told.Accepted = said.Accepted
said_of (told.ConflictSession session) = said.ConflictSession session
said_of (told.ConflictCommit number) = said.ConflictCommit number
said_of told.Exists = said.Exists
said_of told.Missing = said.Missing
said_of told.Full = said.Full
said_of (told.Freezing table block stamp) = said.Freezing table block stamp
said_of (told.Committed number) = said.Committed number
said_of (told.Stale stale) = said.Stale stale.value.read stale.value.number
said_of told.Aborted = said.Aborted
said_of (told.Cooling count) = said.Cooling count
said_of (told.Pruned count) = said.Pruned count
said_of (told.Moved count) = said.Moved count
said_of (told.Sealed table block stamp) = said.Sealed table block stamp
said_of (told.NotSealed cause) = said.NotSealed cause
said_of (told.Frozen table block rows) = said.Frozen table block rows
said_of told.NotFrozen = said.NotFrozen
said_of (told.Exported export) = said.Exported export.value.number export.value.rows
    export.value.batches export.value.frozen
said_of (told.Dirty key) = said.Dirty key
said_of told.Memory = said.Memory

-- What is kept says something: its words spell a row, and its lines are as many rows as it counts.
abbrev pub is_told : Told → Bool
is_told (told.Found words) = is_some (row_in words.now)
is_told (told.Scanned count lines) = option_map_or (λ rows. length rows == count)
    (rows_in (parts line_feed lines.now)) false
is_told _ = true

-- The reply that a kept one is. It keeps no command where it is a worker's, which is taken for the
-- first of its turn.
abbrev pub entry_of : KeptReply → Entry
entry_of kept = record {
  number = kept.number;
  command = option_map_or (λ asked. asked.now) kept.command command.Observe;
  reply = record {
    round = kept.round;
    who = kept.who;
    index = kept.index;
    said = said_of kept.told;
  };
}

-- the replies that kept ones are
abbrev pub entries_of : List KeptReply → List Entry
entries_of kept = map entry_of kept

-- each of them says something
abbrev pub are_told : List KeptReply → Bool
are_told kept = list_all (λ reply. is_told reply.told) kept
