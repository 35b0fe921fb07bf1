-- Worked examples of checked transactions: which reads their calls keep, and what a commit that was
-- refused for one of them leaves.
use Rattle.std.specs.Prelude.{ℕ, pos, true, false, List, [], ◌∷◌, map, Option, None, Some}
use Rattle.event_spec.specs.declared.event.Event.TheVariants as event
use Rattle.event_spec.specs.declared.reply.Reply.TheVariants as reply
use Rattle.event_spec.specs.Replies.{CoreReply}
use Rattle.isolation_spec.specs.Contents.{place_at}
use Rattle.isolation_spec.specs.Reads.{ReadSet, no_reads}
use Rattle.isolation_spec.specs.declared.read.KeyRange.{KeyRange}
use Rattle.isolation_spec.specs.declared.read.Read.TheVariants as read
use Rattle.workload_spec.specs.declared.command.Command.{Command}
use Rattle.workload_spec.specs.declared.command.Command.TheVariants as command
use Rattle.workload_spec.specs.declared.reply.Said.{Said}
use Rattle.workload_spec.specs.declared.reply.Said.TheVariants as said
use Rattle.workload_spec.specs.declared.reply.StaleRead.TheVariants as stale
use Rattle.run_spec.specs.Calls.{Call, AreCalls, Kept}
use Rattle.run_spec.specs.Examples.{begun, by, call, get, own, own_key, shape}
use Rattle.run_spec.specs.Examples.{accepted, insert}
use Rattle.run_spec.specs.Occurrences.{Occurrence}

-- a call before which this was read
abbrev pub behind : Option ReadSet → Command → List Occurrence → Said → Call
behind kept asked made told = record (call asked made told) { reads = kept }

-- nothing was read yet, and the key 6
abbrev pub nothing : Option ReadSet
nothing = Some no_reads

abbrev pub six : Option ReadSet
six = Some (record no_reads { places = place_at 0 (pos 6) ∷ [] })

-- what a commit hands in beside the row that was written, and what it replies
abbrev pub commits : Option ReadSet → CoreReply → List Occurrence
commits kept told = by 1 (event.Commit (own ((place_at 0 (pos 5), 6) ∷ [])) kept) told ∷ []

-- the commit with number 4 wrote the key 6
abbrev pub refused : Option ReadSet → Call
refused handed = behind
    six
    command.Commit
    (commits handed (reply.Stale (read.Key 0 (pos 6)) 4))
    (said.Stale (stale.Key 0 (pos 6)) 4)

abbrev pub get_six : Option ReadSet → Said → Call
get_six kept told = behind
    kept
    (command.Get 0 (pos 6))
    (by 1 (event.Get (own_key None) 0 (pos 6)) (reply.Found None) ∷ [])
    told

abbrev pub aborts : List Occurrence
aborts = by 1 (event.Abort (own ((place_at 0 (pos 5), 6) ∷ []))) reply.Aborted ∷ []

-- A checked transaction gets a key that has no row, writes another, and is refused twice, since a
-- later commit wrote what it got; then it is aborted.
abbrev pub refused_twice : List Call
refused_twice =
    behind None (command.Begin true) begun (said.At 3)
    ∷ get_six nothing said.Absent
    ∷ behind six insert accepted said.Accepted
    ∷ refused six
    ∷ refused six
    ∷ behind six command.Abort aborts said.Aborted
    ∷ call get [] said.NoTransaction
    ∷ []

-- Such a commit hands in what was read, and leaves the transaction open and what it read as it is.
-- A get that found no memory has read nothing, and a plain transaction keeps no reads.
abbrev pub StaleCommitsEndNothing : Type 0
StaleCommitsEndNothing =
    AreCalls shape false 1 [] refused_twice
    × Kept None refused_twice
    × Kept nothing (get_six nothing said.Memory ∷ get_six nothing said.Absent ∷ refused six ∷ [])
    × Kept
    None
    (call (command.Begin false) begun (said.At 3)
    ∷ get_six None said.Absent
    ∷ call get [] said.Absent
    ∷ [])
    × (Kept
    nothing
    (get_six nothing said.Absent ∷ behind nothing insert accepted said.Accepted ∷ [])
    → ⊥)
    × (Kept six (refused six ∷ call command.Abort aborts said.Aborted ∷ []) → ⊥)
    × (AreCalls
    shape
    false
    1
    []
    (behind None (command.Begin true) begun (said.At 3)
    ∷ behind six insert accepted said.Accepted
    ∷ refused nothing
    ∷ [])
    → ⊥)

-- A scan and an export read their table as a whole, each table once.
abbrev pub scans : Option ReadSet → Call
scans kept = behind kept (command.Scan 1) [] (said.Scanned [])

abbrev pub one : Option ReadSet
one = Some (record no_reads { tables = 1 ∷ [] })

abbrev pub both : Option ReadSet
both = Some (record no_reads { tables = 0 ∷ 1 ∷ [] })

abbrev pub TablesAreReadWhole : Type 0
TablesAreReadWhole =
    Kept
    nothing
    (scans nothing
    ∷ behind one (command.Export 0) [] (said.Exported 3 0 0 0)
    ∷ scans both
    ∷ behind both (command.Export 0) [] (said.Dirty (pos 5))
    ∷ behind both command.Commit [] (said.Committed None)
    ∷ call get [] said.NoTransaction
    ∷ [])
    × (Kept nothing (scans nothing ∷ behind nothing (command.Export 0) [] said.Memory ∷ []) → ⊥)

-- A range is read where it was answered with its rows, also with none. Ranges stand in the order of
-- their calls, one that was read again again.
abbrev pub range : ℕ → Option ReadSet → Said → Call
range low kept told = behind kept (command.Range 0 (pos low) (pos 9)) [] told

abbrev pub from : ℕ → KeyRange
from low = record { table = 0; low = pos low; high = pos 9 }

abbrev pub read_from : List ℕ → Option ReadSet
read_from lows = Some (record no_reads { ranges = map from lows })

abbrev pub RangesAreReadInOrder : Type 0
RangesAreReadInOrder =
    Kept
    nothing
    (range 7 nothing (said.Scanned [])
    ∷ range 5 (read_from (7 ∷ [])) said.Memory
    ∷ range 5 (read_from (7 ∷ [])) (said.Scanned [])
    ∷ range 7 (read_from (7 ∷ 5 ∷ [])) (said.Scanned [])
    ∷ behind
    (read_from (7 ∷ 5 ∷ 7 ∷ []))
    command.Commit
    []
    (said.Stale (stale.Range 0 (pos 5) (pos 9)) 4)
    ∷ behind (read_from (7 ∷ 5 ∷ 7 ∷ [])) command.Abort [] said.Aborted
    ∷ [])
    × Kept None (range 7 None (said.Scanned []) ∷ range 7 None (said.Scanned []) ∷ [])
    × (Kept nothing (range 7 nothing (said.Scanned []) ∷ range 5 nothing (said.Scanned []) ∷ [])
    → ⊥)
