-- Worked examples of calls: the events and the lines of commands, and what they are not. Replies
-- are written as data; what a key's candidates tell is a premise, since an index is not computed.
use Rattle.std.specs.Prelude.{◌≡◌, ℕ, ◌+◌, ◌^◌, pos, true, false, Bool, List, [], ◌∷◌, ◌++◌, map}
use Rattle.std.specs.Prelude.{take, codes, Option, None, Some}
use Rattle.std.specs.List.{range_with_len, zip}
use Rattle.block_spec.specs.declared.look.MovableRow.{MovableRow}
use Rattle.block_spec.specs.declared.phase.Phase.TheVariants.{Loose}
use Rattle.block_spec.specs.Bodies.{sealed, rows_of}
use Rattle.block_spec.specs.Examples.{two_rows}
use Rattle.block_spec.specs.Slots.{Row}
use Rattle.event_spec.specs.declared.event.Event.TheVariants as event
use Rattle.event_spec.specs.declared.event.MovePair.{MovePair}
use Rattle.event_spec.specs.declared.own.OwnKey.{OwnKey}
use Rattle.event_spec.specs.declared.own.OwnTransaction.{OwnTransaction}
use Rattle.event_spec.specs.declared.reply.Reply.TheVariants as reply
use Rattle.event_spec.specs.declared.reply.WriteFault.TheVariants as refusal
use Rattle.event_spec.specs.Effects.{CoreEvent, at_both}
use Rattle.event_spec.specs.Parts.{Parts, Shape, each_changed, names, nothing}
use Rattle.event_spec.specs.Replay.{opening}
use Rattle.event_spec.specs.Replies.{CoreReply}
use Rattle.isolation_spec.specs.Contents.{PlaceMap, place_at}
use Rattle.outcome_spec.specs.Forms.{turn_of}
use Rattle.outcome_spec.specs.Samples.{sessions, texts, text_row, with_worker}
use Rattle.txn_desk.specs.declared.Snapshot.{Snapshot}
use Rattle.block_spec.specs.declared.phase.SealFault.TheVariants as fault
use Rattle.workload_spec.specs.declared.command.Command.{Command}
use Rattle.workload_spec.specs.declared.command.Command.TheVariants as command
use Rattle.workload_spec.specs.declared.reply.Said.{Said}
use Rattle.workload_spec.specs.declared.reply.Said.TheVariants as said
use Rattle.workload_spec.specs.declared.reply.SealCause.TheVariants as cause
use Rattle.workload_spec.specs.declared.script.Script.{Script}
use Rattle.run_spec.specs.Asked.{imaged_block}
use Rattle.run_spec.specs.Calls.{Call, IsCall, AreCalls}
use Rattle.run_spec.specs.Occurrences.{Occurrence}
use Rattle.run_spec.specs.Ran.{shape_of}

-- ---- words

-- a table of two blocks with eight slots each, and two sessions
abbrev pub shape : Shape
shape = shape_of (sessions (texts 2) [])

abbrev pub by : ℕ → CoreEvent → CoreReply → Occurrence
by session event told = record { session = session; before = []; event = event; reply = told }

-- a call of a plain transaction, or of none
abbrev pub call : Command → List Occurrence → Said → Call
call asked made told = record { command = asked; made = made; told = Some told; reads = None }

abbrev pub snapshot : Snapshot
snapshot = record { stamp = 4; number = 3 }

-- session 1's transaction, and what an event on one key is handed of it
abbrev pub own : PlaceMap ℕ → OwnTransaction
own writes = record { session = 1; snapshot = snapshot; writes = writes }

abbrev pub own_key : Option ℕ → OwnKey
own_key written = record { session = 1; snapshot = snapshot; written = written }

abbrev pub begun : List Occurrence
begun = by 1 (event.Begin 1) (reply.Begun snapshot) ∷ []

abbrev pub row : ℕ → Row
row key = text_row key (codes "x")

-- the calls of session 1 behind its begin, and one call
abbrev pub Calls : List Call → Type 0
Calls calls = AreCalls shape false 1 begun calls

abbrev pub Tells : Command → List Occurrence → Said → Type 0
Tells asked made told = IsCall shape false 1 begun (call asked made told)

-- ---- gets

abbrev pub get : Command
get = command.Get 0 (pos 5)

abbrev pub gets : Option ℕ → Option Row → List Occurrence
gets written found = by 1 (event.Get (own_key written) 0 (pos 5)) (reply.Found found) ∷ []

-- A get is one event, and its line is the row or that there is none. Without a transaction it makes
-- none. What it is handed is the transaction's own write of the key, and a get that was answered
-- may still have found no memory.
abbrev pub GetsTellTheRow : Type 0
GetsTellTheRow =
    Calls
    (call get (gets None (Some (row 5))) (said.Found (row 5))
    ∷ call get (gets None None) said.Absent
    ∷ [])
    × IsCall shape false 1 [] (call get [] said.NoTransaction)
    × Tells get (gets None None) said.Memory
    × (Tells get (gets None (Some (row 5))) said.Absent → ⊥)
    × (Tells get (gets (Some 7) (Some (row 5))) (said.Found (row 5)) → ⊥)
    × (Tells get [] said.Absent → ⊥)

-- ---- writes, and ends

abbrev pub insert : Command
insert = command.Insert 0 (row 5)

abbrev pub inserts : Option ℕ → CoreReply → List Occurrence
inserts written told = by 1 (event.Insert (own_key written) 0 (row 5)) told ∷ []

abbrev pub accepted : List Occurrence
accepted = inserts None (reply.Written 6)

abbrev pub commits : PlaceMap ℕ → List Occurrence
commits writes = by 1 (event.Commit (own writes) None) (reply.Committed (Some 4)) ∷ []

abbrev pub TellsBehind : Command → List Occurrence → Said → Type 0
TellsBehind asked made told = IsCall shape false 1 (begun ++ accepted) (call asked made told)

-- A transaction has what it wrote until it ends: the next insert of the key is handed its slot, and
-- the commit the whole. Another begin is refused, and so is a get behind the end.
abbrev pub WritesAreTheTransactions : Type 0
WritesAreTheTransactions =
    Calls
    (call insert accepted said.Accepted
    ∷ call insert (inserts (Some 6) (reply.Refused refusal.Exists)) said.Exists
    ∷ call (command.Begin false) [] said.InTransaction
    ∷ call command.Commit (commits ((place_at 0 (pos 5), 6) ∷ [])) (said.Committed (Some 4))
    ∷ call get [] said.NoTransaction
    ∷ [])
    × Tells insert (inserts None (reply.Refused (refusal.Full 16))) said.Full
    × Tells insert (inserts None reply.Memory) said.Memory
    × (Tells insert accepted said.Memory → ⊥)
    × (Tells insert (inserts None (reply.Refused refusal.Exists)) said.Accepted → ⊥)
    × (TellsBehind insert (inserts None (reply.Refused refusal.Exists)) said.Exists → ⊥)
    × (TellsBehind command.Commit (commits []) (said.Committed (Some 4)) → ⊥)

-- ---- changes

abbrev pub update : Command
update = command.Update 0 (row 5)

abbrev pub at : Parts → CoreEvent → CoreReply → Occurrence
at parts event told = record { session = 1; before = parts; event = event; reply = told }

abbrev pub updates : Parts → List Occurrence
updates parts = at parts (event.Update (own_key None) 0 (row 5)) (reply.Written 6) ∷ []

abbrev pub thaws : Parts → CoreReply → List Occurrence
thaws parts told = at parts (event.Thaw 0 1) told ∷ []

-- A change thaws the imaged block in which the key's row lies before the call. The thaw may have
-- been granted, and the write then not been made.
abbrev pub ChangesThawFirst : Type 0
ChangesThawFirst = (parts later : Parts) → imaged_block shape 0 (pos 5) parts ≡ Some 1
    → Tells update (thaws parts reply.Thawed ++ updates later) said.Accepted
    × Tells update (thaws parts reply.Thawed) said.Memory
    × Tells update (thaws parts reply.Memory) said.Memory
    × (Tells update (updates parts) said.Accepted → ⊥)

abbrev pub OthersDoNot : Type 0
OthersDoNot = (parts later : Parts) → imaged_block shape 0 (pos 5) parts ≡ None
    → Tells update (updates parts) said.Accepted
    × (Tells update (thaws parts reply.Thawed ++ updates later) said.Accepted → ⊥)

-- ---- scans

-- reads of the blocks in order, with these replies
abbrev pub reads : List CoreReply → List Occurrence
reads replies =
    map (λ read. by 1 (event.Read (own []) 0 read.0) read.1) (zip (range_with_len 0 2) replies)

abbrev pub rows : List ℕ → List Row
rows keys = map row keys

-- A scan reads each block, and its line has the rows by their keys.
abbrev pub ScansReadEachBlock : Type 0
ScansReadEachBlock =
    let replies = reply.Rows (rows (7 ∷ 2 ∷ [])) ∷ reply.Shared (rows (5 ∷ 6 ∷ [])) ∷ [] in
    Tells (command.Scan 0) (reads replies) (said.Scanned (rows (2 ∷ 5 ∷ 6 ∷ 7 ∷ [])))
    × (Tells (command.Scan 0) (reads replies) (said.Scanned (rows (7 ∷ 2 ∷ 5 ∷ 6 ∷ []))) → ⊥)
    × (Tells (command.Scan 0) (reads (take 1 replies)) (said.Scanned (rows (2 ∷ 7 ∷ []))) → ⊥)

-- ---- ranges

abbrev pub range : Command
range = command.Range 0 (pos 3) (pos 6)

abbrev pub ranges : ℕ → CoreReply → List Occurrence
ranges high told = by 1 (event.Range (own []) 0 (pos 3) (pos high)) told ∷ []

-- A range is one event with the bounds that were asked, and its line has the rows by their keys. It
-- may be empty, and it needs a transaction.
abbrev pub RangesAreOneEvent : Type 0
RangesAreOneEvent =
    let three = reply.Rows (rows (6 ∷ 3 ∷ 5 ∷ [])) in
    let line = said.Scanned (rows (3 ∷ 5 ∷ 6 ∷ [])) in
    Tells range (ranges 6 three) line
    × Tells range (ranges 6 (reply.Rows [])) (said.Scanned [])
    × Tells range (ranges 6 reply.Memory) said.Memory
    × Tells (command.Range 0 (pos 3) (pos 2)) (ranges 2 (reply.Rows [])) (said.Scanned [])
    × IsCall shape false 1 [] (call range [] said.NoTransaction)
    × (Tells range (ranges 6 three) (said.Scanned (rows (6 ∷ 3 ∷ 5 ∷ []))) → ⊥)
    × (Tells range (ranges 7 three) line → ⊥)
    × (Tells range (reads (three ∷ reply.Rows [] ∷ [])) line → ⊥)
    × (Tells range [] (said.Scanned []) → ⊥)

-- ---- exports

abbrev pub exports : List CoreReply → Said → Type 0
exports replies told = Tells (command.Export 0) (reads replies) told

-- the first block is imaged with eight rows
abbrev pub image : CoreReply
image = reply.Shared (rows (range_with_len 1 8))

-- An export counts rows, blocks with a row, and blocks that were imaged at their read. One of a
-- table that the transaction wrote names the least key and makes no event.
abbrev pub ExportsCountImages : Type 0
ExportsCountImages =
    exports (image ∷ reply.Rows (rows (9 ∷ [])) ∷ []) (said.Exported 3 9 2 1)
    × exports (image ∷ reply.Rows [] ∷ []) (said.Exported 3 8 1 1)
    × exports (reply.Rows (rows (9 ∷ [])) ∷ reply.Memory ∷ []) said.Memory
    × TellsBehind (command.Export 0) [] (said.Dirty (pos 5))
    × (exports (image ∷ reply.Rows (rows (9 ∷ [])) ∷ []) (said.Exported 3 9 2 2) → ⊥)
    × (exports (image ∷ reply.Rows [] ∷ []) (said.Exported 3 8 2 1) → ⊥)
    × (exports (reply.Memory ∷ reply.Rows [] ∷ []) said.Memory → ⊥)
    × (TellsBehind (command.Export 0) [] (said.Exported 3 0 0 0) → ⊥)

-- ---- upkeep

abbrev pub prunes : ℕ → ℕ → List Occurrence
prunes first second =
    by 1 event.Oldest (reply.Oldest 2)
    ∷ by 1 (event.Prune 0 0 first) (reply.Dropped 10)
    ∷ by 1 (event.Prune 0 1 second) (reply.Dropped 8)
    ∷ []

-- A pruning asks for the oldest snapshot once, and prunes each block by it. It needs no
-- transaction, and no memory.
abbrev pub PrunesGoBlockByBlock : Type 0
PrunesGoBlockByBlock =
    IsCall shape false 1 [] (call command.Prune (prunes 2 2) (said.Pruned 18))
    × Tells command.Prune (prunes 2 2) (said.Pruned 18)
    × (Tells command.Prune (prunes 2 3) (said.Pruned 18) → ⊥)
    × (Tells command.Prune (take 2 (prunes 2 2)) (said.Pruned 10) → ⊥)
    × (Tells command.Prune (take 2 (prunes 2 2)) said.Memory → ⊥)

-- a look at a block, whose rows may move
abbrev pub movable : ℕ → ℕ → MovableRow
movable slot key = record { slot = slot; key = pos key }

abbrev pub looks : ℕ → List MovableRow → List ℕ → Bool → Occurrence
looks block moving gaps cooling = by 1
    (event.Look 0 block)
    (reply.Looked (record { rows = moving; gaps = gaps; phase = Loose; cooling = cooling }))

-- two cooling blocks with gaps, and a cooling and a hot one
abbrev pub cold : List Occurrence
cold =
    looks 0 (movable 0 1 ∷ movable 2 3 ∷ []) (1 ∷ 3 ∷ []) true
    ∷ looks 1 (movable 0 8 ∷ movable 2 9 ∷ []) (1 ∷ []) true
    ∷ []

abbrev pub half_hot : List Occurrence
half_hot =
    looks 0 (movable 0 1 ∷ movable 1 3 ∷ []) (2 ∷ []) true
    ∷ looks 1 (movable 0 8 ∷ []) (1 ∷ []) false
    ∷ []

abbrev pub first_pair : MovePair
first_pair = record { key = pos 9; source = 2 ^ 20 + 2; target = 1 }

abbrev pub second_pair : MovePair
second_pair = record { key = pos 8; source = 2 ^ 20; target = 3 }

abbrev pub moves : List MovePair → CoreReply → List Occurrence
moves pairs told = by 1 (event.Move 0 pairs) told ∷ []

abbrev pub compacts : List Occurrence → Said → Type 0
compacts made told = Tells (command.Compact 0) made told

-- A compaction looks at each block, and moves all pairs that its looks give, in one event; where
-- they give none it moves none. A pair that no longer holds at the move is skipped. What was moved
-- is not told as memory.
abbrev pub CompactionsMoveAllPairs : Type 0
CompactionsMoveAllPairs =
    let both = first_pair ∷ second_pair ∷ [] in
    compacts (cold ++ moves both (reply.Moved 2)) (said.Moved 2)
    × compacts (cold ++ moves both (reply.Moved 1)) (said.Moved 1)
    × compacts half_hot (said.Moved 0)
    × compacts (cold ++ moves both reply.Memory) said.Memory
    × compacts cold said.Memory
    × (compacts (cold ++ moves (first_pair ∷ []) (reply.Moved 1)) (said.Moved 1) → ⊥)
    × (compacts cold (said.Moved 0) → ⊥)
    × (compacts (half_hot ++ moves (first_pair ∷ []) (reply.Moved 0)) (said.Moved 0) → ⊥)
    × (compacts (cold ++ moves both (reply.Moved 2)) said.Memory → ⊥)

-- ---- workers

-- one session, and one worker, whose events stand under 2
abbrev pub one_worker : Script
one_worker = with_worker (texts 2) []

-- A script's core has its tables, a pass for each session and worker, and begins as the script says.
abbrev pub CoresAreOfScripts : Type 0
CoresAreOfScripts = shape_of (record one_worker { begun = [] ∷ [] })
    ≡ record { tables = texts 2 ∷ []; passes = 2; first = [] ∷ [] }

-- the core with a sealed block
abbrev pub sealed_core : Parts
sealed_core = each_changed
    (record nothing { body = at_both 0 0 (λ body. sealed two_rows) })
    (names (shape_of one_worker))
    (opening (shape_of one_worker))

abbrev pub step : Command → List Occurrence → Option Said → Call
step asked made told = record { command = asked; made = made; told = told; reads = None }

abbrev pub done_by : Parts → CoreEvent → CoreReply → Occurrence
done_by parts event told = record { session = 2; before = parts; event = event; reply = told }

abbrev pub upkeep : List Call
upkeep =
    step command.Observe
    (by 2 (event.Observe 0 0) (reply.Turned true)
    ∷ by 2 (event.Observe 0 1) (reply.Turned false)
    ∷ [])
    (Some (said.Cooling 1))
    ∷ step command.Prune
    (by 2 event.Oldest (reply.Oldest 2)
    ∷ by 2 (event.Prune 0 0 2) (reply.Dropped 0)
    ∷ by 2 (event.Prune 0 1 2) (reply.Dropped 3)
    ∷ [])
    (Some (said.Pruned 3))
    ∷ []

-- the second block is the head: its seal does nothing, nor does its gathering
abbrev pub freezes : Option (List Row) → Option Said → List Call
freezes handed told =
    step (command.Seal 0 0) (by 2 (event.Seal 0 0) (reply.Sealed 1) ∷ []) (Some (said.Sealed 0 0 1))
    ∷ step
    (command.Gather 0 0)
    (done_by sealed_core (event.Image 0 0 handed) (reply.Imaged 2) ∷ [])
    (Some (said.Frozen 0 0 2))
    ∷ step (command.Seal 0 1) (by 2 (event.Seal 0 1) (reply.NotSealed fault.Head) ∷ []) told
    ∷ step (command.Gather 0 1) (by 2 (event.Image 0 1 None) reply.NoSeal ∷ []) None
    ∷ []

abbrev pub of_worker : Occurrence → Occurrence
of_worker occurrence = record occurrence { session = 2 }

abbrev pub compaction : List Call
compaction = step (command.Compact 0) (map of_worker half_hot) (Some (said.Moved 0)) ∷ []

abbrev pub turn : List Call
turn = upkeep ++ compaction ++ freezes (Some (rows_of two_rows)) None

abbrev pub Turns : List Call → Type 0
Turns calls = AreCalls (shape_of one_worker) true 2 [] calls

-- A worker's turn is a list of calls, of which those that do nothing have no line. A gathering
-- hands in the image of the sealed block's rows.
abbrev pub WorkersTakeTurns : Type 0
WorkersTakeTurns =
    (map (λ call. call.command) turn ≡ turn_of one_worker.tables)
    × Turns turn
    × (Turns (freezes None None) → ⊥)
    × (Turns (freezes (Some (rows_of two_rows)) (Some (said.NotSealed cause.Head))) → ⊥)
