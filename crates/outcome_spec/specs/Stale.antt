-- What a checked transaction read, and what its commit may show of it: a commit of writes is
-- refused where a later commit wrote into one of its reads, and stands only where none did.
use Rattle.std.specs.Prelude.{ℕ, Bool, true, false, ◌&&◌, ◌||◌, not, ◌==◌, nat_le, List, fold}
use Rattle.std.specs.Prelude.{filter_map, Option, None, Some, is_some, option_map, if◌then◌else◌}
use Rattle.std.specs.List.{list_all, list_any}
use Rattle.std.specs.Option.{option_map_or}
use Rattle.std.specs.Ordering.{int_eq}
use Rattle.isolation_spec.specs.declared.read.Read.{Read}
use Rattle.isolation_spec.specs.declared.read.Read.TheVariants as read
use Rattle.isolation_spec.specs.Machine.{later_commits}
use Rattle.isolation_spec.specs.Reads.{meets, ReadSet, no_reads, with_read}
use Rattle.workload_spec.specs.declared.command.Command.{Command}
use Rattle.workload_spec.specs.declared.command.Command.TheVariants as command
use Rattle.workload_spec.specs.declared.reply.Said.{Said}
use Rattle.workload_spec.specs.declared.reply.Said.TheVariants as said
use Rattle.workload_spec.specs.declared.reply.StaleRead.{StaleRead}
use Rattle.workload_spec.specs.declared.reply.StaleRead.TheVariants as stale
use Rattle.outcome_spec.specs.Conflicts.{is_committed_before, is_committed_not_after}
use Rattle.outcome_spec.specs.Entries.{Entry, before, snapshot_in}
use Rattle.outcome_spec.specs.Runs.{Run, Span, accepted_write, transaction_of}

-- ---- What replies tell that was read

-- what a command asks to read; a total and an export read their table
abbrev pub read_asked : Command → Option Read
read_asked (command.Get table key) = Some (read.Key table key)
read_asked (command.Scan table) = Some (read.Table table)
read_asked (command.Range table low high) = Some (read.Range table low high)
read_asked (command.Total table column low high) = Some (read.Table table)
read_asked (command.Export table) = Some (read.Table table)
read_asked (command.Begin checked) = None
read_asked (command.Insert table row) = None
read_asked (command.Update table row) = None
read_asked (command.Delete table key) = None
read_asked command.Commit = None
read_asked command.Abort = None
read_asked command.Observe = None
read_asked command.Prune = None
read_asked (command.Compact table) = None
read_asked (command.Seal table block) = None
read_asked (command.Gather table block) = None

-- the reply is what a read asked for: a row or that there is none, rows, a total, or an export
abbrev pub shows_read : Said → Bool
shows_read (said.Found row) = true
shows_read said.Absent = true
shows_read (said.Scanned rows) = true
shows_read (said.Totalled count sum) = true
shows_read (said.Exported number rows batches frozen) = true
shows_read (said.At number) = false
shows_read said.InTransaction = false
shows_read said.NoTransaction = false
shows_read said.Accepted = false
shows_read (said.ConflictSession session) = false
shows_read (said.ConflictCommit number) = false
shows_read said.Exists = false
shows_read said.Missing = false
shows_read said.Full = false
shows_read (said.Freezing table block stamp) = false
shows_read (said.Committed number) = false
shows_read (said.Stale what number) = false
shows_read said.Aborted = false
shows_read (said.Cooling count) = false
shows_read (said.Pruned count) = false
shows_read (said.Moved count) = false
shows_read (said.Sealed table block stamp) = false
shows_read (said.NotSealed cause) = false
shows_read (said.Frozen table block rows) = false
shows_read said.NotFrozen = false
shows_read (said.Dirty key) = false
shows_read said.Memory = false

-- What a command and its reply tell that was read.
abbrev pub read_told : Command → Said → Option Read
read_told asked told = if shows_read told then read_asked asked else None

-- what was read among these replies
abbrev pub reads_told : List Entry → List Read
reads_told entries = filter_map (λ entry. read_told entry.command entry.reply.said) entries

-- the command begins a checked transaction
abbrev pub begins_checked : Command → Bool
begins_checked (command.Begin checked) = checked
begins_checked (command.Get table key) = false
begins_checked (command.Scan table) = false
begins_checked (command.Range table low high) = false
begins_checked (command.Total table column low high) = false
begins_checked (command.Insert table row) = false
begins_checked (command.Update table row) = false
begins_checked (command.Delete table key) = false
begins_checked command.Commit = false
begins_checked command.Abort = false
begins_checked command.Observe = false
begins_checked command.Prune = false
begins_checked (command.Compact table) = false
begins_checked (command.Seal table block) = false
begins_checked (command.Gather table block) = false
begins_checked (command.Export table) = false

-- The transaction is checked: a checked begin opened it.
abbrev pub is_checked : Span → Bool
is_checked t = list_any
    (λ entry. begins_checked entry.command && is_some (snapshot_in entry.reply.said))
    t.replies

-- ---- What a commit may show

-- the two are one read
abbrev pub is_read : Read → Read → Bool
is_read (read.Key a k) (read.Key b l) = (a == b) && int_eq k l
is_read (read.Key a k) (read.Table b) = false
is_read (read.Key a k) (read.Range b m n) = false
is_read (read.Table a) (read.Key b l) = false
is_read (read.Table a) (read.Table b) = a == b
is_read (read.Table a) (read.Range b m n) = false
is_read (read.Range a k l) (read.Key b m) = false
is_read (read.Range a k l) (read.Table b) = false
is_read (read.Range a k l) (read.Range b m n) = (a == b) && int_eq k m && int_eq l n

-- the read that a reply names
abbrev pub read_of : StaleRead → Read
read_of (stale.Key table key) = read.Key table key
read_of (stale.Table table) = read.Table table
read_of (stale.Range table low high) = read.Range table low high

-- the commit numbers above a transaction's snapshot whose write sets meet a read
abbrev pub meeting : Run → Span → Read → List ℕ
meeting run t what = later_commits run.history t.snapshot (meets what)

-- `stale .. #k`: k is above the snapshot, its write set meets the read, the line `committed k`
-- isn't after this reply, and no greater number before it meets the read.
abbrev pub names_meeting : Run → Span → Read → Entry → ℕ → Bool
names_meeting run t what entry number =
    list_any (λ later. later == number) (meeting run t what)
    && is_committed_not_after run entry number
    && list_all (λ later. nat_le later number || not (is_committed_before run entry later))
    (meeting run t what)

-- A stale read stands in a checked transaction with an accepted write before this reply, and is one
-- of its reads before it.
abbrev pub stale_read_holds : Run → Span → Entry → Read → ℕ → Bool
stale_read_holds run t entry what number =
    is_checked t
    && list_any (λ other. is_some (accepted_write other)) (before t.replies entry)
    && list_any (is_read what) (reads_told (before t.replies entry))
    && names_meeting run t what entry number

-- No commit number above the snapshot and below this one meets a read of the transaction.
abbrev pub reads_stand : Run → Span → ℕ → Bool
reads_stand run t number = list_all
    (λ what. list_all (nat_le number) (meeting run t what))
    (reads_told t.replies)

-- a checked transaction commits as a number only where its reads stand
abbrev pub commit_stands : Run → Span → Option ℕ → Bool
commit_stands run t number = option_map_or
    (λ number. not (is_checked t) || reads_stand run t number) number true

-- what a reply shows of the transaction's reads: a commit, stale or not
abbrev pub stale_holds : Run → Span → Entry → Said → Bool
stale_holds run t entry (said.Stale what number) =
    stale_read_holds run t entry (read_of what) number
stale_holds run t entry (said.Committed number) = commit_stands run t number
stale_holds run t entry (said.At number) = true
stale_holds run t entry said.InTransaction = true
stale_holds run t entry said.NoTransaction = true
stale_holds run t entry (said.Found row) = true
stale_holds run t entry said.Absent = true
stale_holds run t entry (said.Scanned rows) = true
stale_holds run t entry (said.Totalled count sum) = true
stale_holds run t entry said.Accepted = true
stale_holds run t entry (said.ConflictSession session) = true
stale_holds run t entry (said.ConflictCommit number) = true
stale_holds run t entry said.Exists = true
stale_holds run t entry said.Missing = true
stale_holds run t entry said.Full = true
stale_holds run t entry (said.Freezing table block stamp) = true
stale_holds run t entry said.Aborted = true
stale_holds run t entry (said.Cooling count) = true
stale_holds run t entry (said.Pruned count) = true
stale_holds run t entry (said.Moved count) = true
stale_holds run t entry (said.Sealed table block stamp) = true
stale_holds run t entry (said.NotSealed cause) = true
stale_holds run t entry (said.Frozen table block rows) = true
stale_holds run t entry said.NotFrozen = true
stale_holds run t entry (said.Exported number rows batches frozen) = true
stale_holds run t entry (said.Dirty key) = true
stale_holds run t entry said.Memory = true

-- Reads of checked transactions; a stale read outside of any transaction fails the forms.
abbrev pub reads_last : Run → Entry → Bool
reads_last run entry = option_map_or (λ t. stale_holds run t entry entry.reply.said)
    (transaction_of run entry) true

-- ---- What a session's open transaction has read

-- the read set, where there is one, with what a command asks to read
abbrev pub entered : Option ReadSet → Command → Option ReadSet
entered reads asked = option_map
    (λ set. option_map_or (λ what. with_read what set) (read_asked asked) set)
    reads

-- The read set behind a reply: a checked begin starts one, a plain one and an end have none, and a
-- reply with its read enters it.
abbrev pub reads_behind : Option ReadSet → Command → Said → Option ReadSet
reads_behind reads asked (said.At number) = if begins_checked asked then Some no_reads else None
reads_behind reads asked (said.Committed number) = None
reads_behind reads asked said.Aborted = None
reads_behind reads asked (said.Found row) = entered reads asked
reads_behind reads asked said.Absent = entered reads asked
reads_behind reads asked (said.Scanned rows) = entered reads asked
reads_behind reads asked (said.Totalled count sum) = entered reads asked
reads_behind reads asked (said.Exported number rows batches frozen) = entered reads asked
reads_behind reads asked said.InTransaction = reads
reads_behind reads asked said.NoTransaction = reads
reads_behind reads asked said.Accepted = reads
reads_behind reads asked (said.ConflictSession session) = reads
reads_behind reads asked (said.ConflictCommit number) = reads
reads_behind reads asked said.Exists = reads
reads_behind reads asked said.Missing = reads
reads_behind reads asked said.Full = reads
reads_behind reads asked (said.Freezing table block stamp) = reads
reads_behind reads asked (said.Stale what number) = reads
reads_behind reads asked (said.Cooling count) = reads
reads_behind reads asked (said.Pruned count) = reads
reads_behind reads asked (said.Moved count) = reads
reads_behind reads asked (said.Sealed table block stamp) = reads
reads_behind reads asked (said.NotSealed cause) = reads
reads_behind reads asked (said.Frozen table block rows) = reads
reads_behind reads asked said.NotFrozen = reads
reads_behind reads asked (said.Dirty key) = reads
reads_behind reads asked said.Memory = reads

-- The read set of the transaction that a session has open behind these replies to it, where that is
-- checked.
abbrev pub reads_after : List Entry → Option ReadSet
reads_after entries = fold (λ reads entry. reads_behind reads entry.command entry.reply.said) None
    entries
