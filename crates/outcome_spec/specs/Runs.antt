-- The transactions of an output, what they wrote, and what the printed commit numbers make of it.
use Rattle.std.specs.Prelude.{ℕ, ◌+◌, Bool, false, ◌==◌, List, [], ◌∷◌, ◌++◌, map, length, filter_map, find}
use Rattle.std.specs.Prelude.{fold, sum_by, if◌then◌else◌, Option, None, Some, option_map}
use Rattle.std.specs.Prelude.{option_and_then}
use Rattle.std.specs.List.{list_any, range_with_len, cons_option}
use Rattle.std.specs.Option.{option_map_or}
use Rattle.std.specs.BTreeMap.{insert_entry}
use Rattle.cell_model.specs.declared.cell.Cell.{Cell}
use Rattle.cell_model.specs.declared.table.TableDecl.{TableDecl}
use Rattle.isolation_spec.specs.Contents.{place_cmp, place_at, place_of, State, WriteSet, History}
use Rattle.isolation_spec.specs.Contents.{laid_over, state_at}
use Rattle.isolation_spec.specs.declared.place.Place.{Place}
use Rattle.workload_spec.specs.declared.command.Command.{Command}
use Rattle.workload_spec.specs.declared.command.Command.TheVariants as command
use Rattle.workload_spec.specs.declared.reply.Who.{Who}
use Rattle.outcome_spec.specs.Entries.{Entry, thread, is_reply, before, shown_in, snapshot_in}
use Rattle.outcome_spec.specs.Entries.{commit_in, is_commit, is_end, is_accepted}

-- A transaction as it is printed: its session, the snapshot that its `at` shows, and its session's
-- replies from that one to its `committed` or `aborted`, or to the last where it has none.
pub record Span : Type 0 where
  pub who : Who
  pub snapshot : ℕ
  pub replies : List Entry

-- the replies up to the first that ends a transaction, with that one
abbrev pub up_to_end : List Entry → List Entry
up_to_end [] = []
up_to_end (entry ∷ entries) = if is_end entry.reply.said then entry ∷ []
    else entry ∷ up_to_end entries

-- the transaction that the reply opens, with this snapshot: it, and of the replies behind it its
-- own session's
abbrev pub span_from : Entry → List Entry → ℕ → Span
span_from opening behind snapshot = record {
  who = opening.reply.who;
  snapshot = snapshot;
  replies = up_to_end (opening ∷ thread opening.reply.who behind);
}

-- The transactions, in the order of their first lines: each reply that shows a snapshot opens one.
abbrev pub transactions_of : List Entry → List Span
transactions_of [] = []
transactions_of (entry ∷ entries) = cons_option
    (option_map (span_from entry entries) (snapshot_in entry.reply.said))
    (transactions_of entries)

-- the transaction that the reply belongs to
abbrev pub transaction_with : List Span → Entry → Option Span
transaction_with transactions entry = find (λ t. list_any (is_reply entry) t.replies) transactions

-- the reply that ends the transaction
abbrev pub ending_of : Span → Option Entry
ending_of t = find (λ entry. is_end entry.reply.said) t.replies

-- what a command writes: at its key's place the row, or none where the row is deleted
abbrev pub write_of : Command → Option (Place × Option (List Cell))
write_of (command.Insert table row) = Some (place_of table row, Some row)
write_of (command.Update table row) = Some (place_of table row, Some row)
write_of (command.Delete table key) = Some (place_at table key, None)
write_of (command.Begin checked) = None
write_of (command.Get table key) = None
write_of (command.Range table low high) = None
write_of (command.Total table column low high) = None
write_of (command.Scan table) = None
write_of command.Commit = None
write_of command.Abort = None
write_of command.Observe = None
write_of command.Prune = None
write_of (command.Compact table) = None
write_of (command.Seal table block) = None
write_of (command.Gather table block) = None
write_of (command.Export table) = None

-- An accepted write: one that is answered `ok`.
abbrev pub accepted_write : Entry → Option (Place × Option (List Cell))
accepted_write entry = if is_accepted entry.reply.said then write_of entry.command else None

-- how many accepted writes a transaction has that commits, and none where it doesn't
abbrev pub writes_committed : Span → ℕ
writes_committed t = if option_map_or (λ ending. is_commit ending.reply.said) (ending_of t) false
    then length (filter_map accepted_write t.replies) else 0

-- how many accepted writes have the transactions that commit among these replies
abbrev pub writes_committed_in : List Entry → ℕ
writes_committed_in entries = sum_by writes_committed (transactions_of entries)

-- the last accepted write of each key among these replies
abbrev pub writes_in : List Entry → WriteSet
writes_in entries = fold (λ writes write. insert_entry place_cmp writes write.0 write.1) []
    (filter_map accepted_write entries)

-- how many lines `committed k` show a number
abbrev pub commit_count : List Entry → ℕ
commit_count entries = length (shown_in commit_in entries)

-- the reply commits with this number
abbrev pub commits_as : ℕ → Entry → Bool
commits_as number entry = option_map_or (λ shown. shown == number) (commit_in entry.reply.said)
    false

-- the line `committed k`: the first with that k
abbrev pub commit_line : List Entry → ℕ → Option Entry
commit_line entries number = find (commits_as number) entries

-- the write set of a commit number: that of the first transaction that showed it, and empty where
-- none did
abbrev pub committed_writes : List Entry → List Span → ℕ → WriteSet
committed_writes entries transactions number =
    option_map_or (λ t. writes_in t.replies)
    (option_and_then (transaction_with transactions) (commit_line entries number)) []

-- What the replies tell: the transactions, and the history. It begins with the commits that the
-- store began with; the numbers behind theirs are as many as commits show one.
pub record Run : Type 0 where
  pub first : History
  pub tables : List TableDecl
  pub entries : List Entry
  pub transactions : List Span
  pub history : History

abbrev pub run_from : History → List TableDecl → List Entry → Run
run_from first tables entries = record {
  first = first;
  tables = tables;
  entries = entries;
  transactions = transactions_of entries;
  history = first ++ map (committed_writes entries (transactions_of entries))
      (range_with_len (length first + 1) (commit_count entries));
}

-- that of a store that began with nothing
abbrev pub run_of : List TableDecl → List Entry → Run
run_of tables entries = run_from [] tables entries

-- the transaction that a reply belongs to
abbrev pub transaction_of : Run → Entry → Option Span
transaction_of run entry = transaction_with run.transactions entry

-- What a transaction sees at a reply: its accepted writes before it laid over the state at its
-- snapshot.
abbrev pub seen_at : Run → Span → Entry → State
seen_at run t entry = laid_over (state_at run.history t.snapshot)
    (writes_in (before t.replies entry))
