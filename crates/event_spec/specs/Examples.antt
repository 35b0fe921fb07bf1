-- Worked examples of heads, faults, plans, touched parts and whole events, as facts.
use Rattle.std.specs.Prelude.{◌≡◌, ℕ, ◌==◌, ◌||◌, pos, negsuc, true, false, List, [], ◌∷◌, ◌++◌}
use Rattle.std.specs.Prelude.{Option, None, Some, map, filter, length, slice_get, slice_index_or}
use Rattle.std.specs.Prelude.{codes, Result, Ok, Err}
use Rattle.block_layout.specs.Place.{place_of}
use Rattle.block_spec.specs.declared.change.Change.{Change}
use Rattle.block_spec.specs.declared.change.Change.TheVariants as change
use Rattle.block_spec.specs.declared.phase.Phase.{Phase}
use Rattle.block_spec.specs.declared.phase.Phase.TheVariants.{Loose, Sealed}
use Rattle.block_spec.specs.declared.phase.SealFault.TheVariants as seal_fault
use Rattle.block_spec.specs.Slots.{Row, Slot, bare, written, committed, moved_out, moved_in}
use Rattle.block_spec.specs.Bodies.{Body, with_slot}
use Rattle.block_spec.specs.Examples.{row_of, settled, two_rows, gap, rounds}
use Rattle.block_spec.specs.Looks.{looked}
use Rattle.cell_model.specs.declared.table.TableDecl.{TableDecl}
use Rattle.cell_model.specs.declared.cell.Cell.TheVariants.{Text}
use Rattle.cell_model.specs.Examples.{narrow}
use Rattle.event_spec.specs.declared.event.Event.TheVariants as event
use Rattle.event_spec.specs.declared.event.MovePair.{MovePair}
use Rattle.event_spec.specs.declared.own.OwnKey.{OwnKey}
use Rattle.event_spec.specs.declared.own.OwnTransaction.{OwnTransaction}
use Rattle.event_spec.specs.declared.part.Head.{Head}
use Rattle.event_spec.specs.declared.reply.Reply.TheVariants as reply
use Rattle.event_spec.specs.declared.reply.WriteFault.{WriteFault}
use Rattle.event_spec.specs.declared.reply.WriteFault.TheVariants as fault
use Rattle.event_spec.specs.Parts.{Parts, Shape, Name, HeadOf, ShardOf, BodyOf, TheDesk, nothing}
use Rattle.event_spec.specs.Parts.{names, each_changed, shard_of, head_at, body_at, desk_at}
use Rattle.event_spec.specs.Parts.{slot_at, below}
use Rattle.event_spec.specs.Judged.{found_by, next_place, judged_insert, judged_change, differences}
use Rattle.event_spec.specs.Effects.{CoreEvent, at_table, at_both, taken_by, with_empty, effect}
use Rattle.event_spec.specs.Replies.{reply_to}
use Rattle.event_spec.specs.Plans.{BlockLook, plan_of}
use Rattle.event_spec.specs.Touched.{touched, touched_by_key, touched_by_insert}
use Rattle.event_spec.specs.Lawful.{transaction}
use Rattle.event_spec.specs.Replay.{Made, opening, opening_head, replay, replies_from}
use Rattle.isolation_spec.specs.Contents.{PlaceMap, place_at}

-- ---- heads

-- heads of blocks of three slots: one with a slot left, one without, and one whose table has no
-- empty block
abbrev pub head : Head
head = record { block = 0; taken = 2; inserts = 2; empty = 2 ∷ 4 ∷ [] }

abbrev pub full_head : Head
full_head = record head { taken = 3; inserts = 3 }

abbrev pub spent_head : Head
spent_head = record full_head { empty = [] }

-- Inserts take the head's slots in order, then the least empty block becomes the head.
abbrev pub HeadsTakeSlotsInOrder : Type 0
HeadsTakeSlotsInOrder =
    (map (λ (h : Head). next_place h 3) (head ∷ full_head ∷ spent_head ∷ [])
    ≡ Some 2 ∷ Some (place_of 2 0) ∷ None ∷ [])
    × (taken_by 3 head ≡ full_head)
    × (taken_by 3 full_head ≡ record { block = 2; taken = 1; inserts = 4; empty = 4 ∷ [] })

-- A block that became empty is the head's again, and an empty head begins anew.
abbrev pub EmptyBlocksAreTheHeads : Type 0
EmptyBlocksAreTheHeads =
    (opening_head 3 8 0 ≡ record { block = 0; taken = 0; inserts = 0; empty = 1 ∷ 2 ∷ [] })
    × (with_empty 5 (λ block. block == 3) full_head ≡ record full_head { empty = 3 ∷ [] })
    × (with_empty 5 (λ block. (block == 0) || (block == 3)) full_head
    ≡ record full_head { taken = 0; empty = 3 ∷ [] })

-- ---- what a key's candidates tell

-- a change of a row's text
abbrev pub texted : List ℕ → Change
texted text = change.Patch (record { column = 1; cell = Text text } ∷ [])

abbrev pub old : Row
old = row_of 5 (codes "a")

abbrev pub new : Row
new = row_of 5 (codes "b")

-- session 2 changed the row of key 5; it committed that with stamp 4 and number 3; session 3 did
-- with stamp 6 and number 5
abbrev pub open_change : Slot
open_change = written 2 (texted (codes "b")) (settled old)

abbrev pub once_committed : Slot
once_committed = committed 2 4 3 open_change

abbrev pub twice_committed : Slot
twice_committed = committed 3 6 5 (written 3 (texted (codes "c")) once_committed)

-- session 1's own writes: the row put, and taken away again
abbrev pub own_put : Slot
own_put = written 1 (change.Put old) bare

abbrev pub own_gone : Slot
own_gone = written 1 change.Gone own_put

-- a table's slots from place 0 on
abbrev pub laid : List Slot → ℕ → Slot
laid slots place = slice_index_or slots place bare

-- session 1's transaction with a snapshot of this stamp, which wrote the key at this slot
abbrev pub at : ℕ → Option ℕ → OwnKey
at stamp own = record {
  session = 1;
  snapshot = record { stamp = stamp; number = stamp };
  written = own;
}

-- what an insert and a change are judged, where all these slots are the key's candidates
abbrev pub insert_of : Head → OwnKey → List Slot → Result ℕ WriteFault
insert_of now own slots = judged_insert (laid slots) (below (length slots)) now 3 own

abbrev pub change_of : Phase → OwnKey → List Slot → Result ℕ WriteFault
change_of phase own slots = judged_change (laid slots) (below (length slots)) (λ block. phase) own

-- A conflict goes first: another session's open write at any candidate, then the largest commit
-- number.
abbrev pub ConflictsGoFirst : Type 0
ConflictsGoFirst =
    (map (insert_of head (at 3 None))
    ((open_change ∷ []) ∷ (once_committed ∷ []) ∷ (twice_committed ∷ [])
    ∷ (twice_committed ∷ open_change ∷ []) ∷ [])
    ≡ map Err (fault.ConflictSession 2 ∷ fault.ConflictCommit 3 ∷ fault.ConflictCommit 5
    ∷ fault.ConflictSession 2 ∷ []))
    × (map (change_of Loose (at 3 None)) ((open_change ∷ []) ∷ (once_committed ∷ []) ∷ [])
    ≡ Err (fault.ConflictSession 2) ∷ Err (fault.ConflictCommit 3) ∷ [])
    × (map (λ stamp. insert_of head (at stamp None) (twice_committed ∷ [])) (5 ∷ 6 ∷ [])
    ≡ Err (fault.ConflictCommit 5) ∷ Err fault.Exists ∷ [])

-- An insert goes to the slot of the own write, else to the next one; the table is full only where
-- there is neither.
abbrev pub InsertsFindASlot : Type 0
InsertsFindASlot =
    (map (λ (h : Head). insert_of h (at 3 None) []) (head ∷ full_head ∷ spent_head ∷ [])
    ≡ Ok 2 ∷ Ok (place_of 2 0) ∷ Err (fault.Full 3) ∷ [])
    × (map (insert_of spent_head (at 3 (Some 0))) ((own_gone ∷ []) ∷ (own_put ∷ []) ∷ [])
    ≡ Ok 0 ∷ Err fault.Exists ∷ [])
    × (insert_of spent_head (at 3 None) (settled old ∷ []) ≡ Err fault.Exists)

-- A change goes to the current row; it finds none, or its block is sealed.
abbrev pub ChangesFindTheRow : Type 0
ChangesFindTheRow =
    (map (change_of Loose (at 3 None)) ([] ∷ (bare ∷ settled old ∷ []) ∷ [])
    ≡ Err fault.Missing ∷ Ok 1 ∷ [])
    × (map (change_of Loose (at 3 (Some 0))) ((own_put ∷ []) ∷ (own_gone ∷ []) ∷ [])
    ≡ Ok 0 ∷ Err fault.Missing ∷ [])
    × (map (change_of (Sealed 4) (at 3 None)) ((settled old ∷ []) ∷ [] ∷ [])
    ≡ Err (fault.Freezing 0 4) ∷ Err fault.Missing ∷ [])

-- key 5's row was moved with stamp 7, and then session 1 wrote it at its new place
abbrev pub moved : List Slot
moved = moved_out 7 old (settled old) ∷ moved_in 7 old bare ∷ []

abbrev pub moved_and_written : List Slot
moved_and_written = moved_out 7 old (settled old) ∷ written 1 (texted (codes "b"))
    (moved_in 7 old bare) ∷ []

-- A move is no conflict, a change goes to the new place, and the own write there is found before
-- the old place.
abbrev pub MovedRowsAreFound : Type 0
MovedRowsAreFound =
    (map (λ stamp. found_by (laid moved) (0 ∷ 1 ∷ []) (at stamp None)) (6 ∷ 7 ∷ [])
    ≡ Some old ∷ Some old ∷ [])
    × (change_of Loose (at 6 None) moved ≡ Ok 1)
    × (found_by (laid moved_and_written) (0 ∷ 1 ∷ []) (at 6 (Some 1)) ≡ Some new)
    × (change_of Loose (at 6 (Some 1)) moved_and_written ≡ Ok 1)

-- An update changes the attributes that differ.
abbrev pub UpdatesChangeWhatDiffers : Type 0
UpdatesChangeWhatDiffers =
    (differences 0 old new ≡ record { column = 1; cell = Text (codes "b") } ∷ [])
    × (differences 0 old old ≡ [])

-- ---- plans

abbrev pub look_at : ℕ → Body → BlockLook
look_at block body = record { block = block; look = looked body }

-- Rows of the loose, cooling blocks fall into gaps below them, the last row first.
abbrev pub PlansFillFromBelow : Type 0
PlansFillFromBelow =
    (plan_of (look_at 0 gap ∷ look_at 1 (rounds 2 gap) ∷ look_at 3 (rounds 2 two_rows) ∷ [])
    ≡ record { key = pos 2; source = place_of 3 1; target = place_of 1 1 }
    ∷ record { key = pos 1; source = place_of 3 0; target = place_of 1 3 }
    ∷ [])
    × (plan_of (look_at 1 (rounds 2 gap) ∷ [])
    ≡ record { key = pos 2; source = place_of 1 2; target = place_of 1 1 } ∷ [])
    × (plan_of (look_at 1 (rounds 2 two_rows) ∷ []) ≡ [])

-- ---- parts

abbrev pub table_of : List ℕ → TableDecl
table_of name = record { name = name; schema = narrow; slots = 4; blocks = 2 }

-- two tables of two blocks with four slots, for three sessions
abbrev pub shape : Shape
shape = record { tables = table_of (codes "t") ∷ table_of (codes "u") ∷ []; passes = 3; first = [] }

-- There are two heads, sixteen shards, four bodies and a desk, in this order; a key's lowest three
-- bits tell its shard.
abbrev pub PartsStandInOrder : Type 0
PartsStandInOrder =
    (length (names shape) ≡ 23)
    × (map (slice_get (names shape)) (1 ∷ 2 ∷ 17 ∷ 18 ∷ 21 ∷ 22 ∷ [])
    ≡ map Some (HeadOf 1 ∷ ShardOf 0 0 ∷ ShardOf 1 7 ∷ BodyOf 0 0 ∷ BodyOf 1 1 ∷ TheDesk ∷ []))
    × (map shard_of (pos 7 ∷ pos 8 ∷ negsuc 0 ∷ negsuc 7 ∷ negsuc 8 ∷ []) ≡ 7 ∷ 0 ∷ 7 ∷ 0 ∷ 7 ∷ [])

-- session 1's transaction, and what it wrote: key 5 of table 0, at slot 0 of block 0
abbrev pub whole : PlaceMap ℕ → OwnTransaction
whole writes = record { session = 1; snapshot = record { stamp = 0; number = 0 }; writes = writes }

abbrev pub wrote : OwnTransaction
wrote = whole ((place_at 0 (pos 5), 0) ∷ [])

abbrev pub pair : MovePair
pair = record { key = pos 2; source = place_of 1 2; target = place_of 1 1 }

-- the parts that an event touches while no part is held
abbrev pub parts_of : CoreEvent → List Name
parts_of event = filter (touched shape (λ name. None) event) (names shape)

-- Which parts events touch: the desk, a block with the head or without, a table's shards, what a
-- transaction wrote.
abbrev pub EventsTouchParts : Type 0
EventsTouchParts =
    (map parts_of (event.Begin 1 ∷ event.Oldest ∷ event.Commit (whole []) None ∷ [])
    ≡ (TheDesk ∷ []) ∷ (TheDesk ∷ []) ∷ (TheDesk ∷ []) ∷ [])
    × (map parts_of (event.Read wrote 0 1 ∷ event.Look 0 1 ∷ event.Image 0 1 None ∷ event.Thaw 0 1
    ∷ [])
    ≡ (BodyOf 0 1 ∷ []) ∷ (BodyOf 0 1 ∷ []) ∷ (BodyOf 0 1 ∷ []) ∷ (BodyOf 0 1 ∷ []) ∷ [])
    × (map parts_of (event.Observe 0 1 ∷ event.Seal 0 1 ∷ [])
    ≡ (HeadOf 0 ∷ BodyOf 0 1 ∷ []) ∷ (HeadOf 0 ∷ BodyOf 0 1 ∷ []) ∷ [])
    × (parts_of (event.Prune 0 1 0) ≡ HeadOf 0 ∷ map (ShardOf 0) (below 8) ++ BodyOf 0 1 ∷ [])
    × (parts_of (event.Commit wrote None) ≡ BodyOf 0 0 ∷ TheDesk ∷ [])
    × (parts_of (event.Abort wrote) ≡ HeadOf 0 ∷ HeadOf 1 ∷ ShardOf 0 5 ∷ BodyOf 0 0 ∷ TheDesk ∷ [])
    × (parts_of (event.Move 0 (pair ∷ [])) ≡ HeadOf 0 ∷ ShardOf 0 2 ∷ BodyOf 0 1 ∷ TheDesk ∷ [])

-- An event on a key touches its shard and the bodies of its candidates, an insert besides the head
-- and the slot's body.
abbrev pub KeysTouchParts : Type 0
KeysTouchParts =
    (filter (touched_by_key 1 (pos 9) (3 ∷ [])) (names shape) ≡ ShardOf 1 1 ∷ BodyOf 1 0 ∷ [])
    × (filter (touched_by_insert 1 (pos 9) (Some (place_of 1 2)) (3 ∷ [])) (names shape)
    ≡ HeadOf 1 ∷ ShardOf 1 1 ∷ BodyOf 1 0 ∷ BodyOf 1 1 ∷ [])

-- ---- whole events, most of them on parts laid by hand, some of which no run reaches

-- the opening parts with one body of table 0 in another's place, and its head where the first slot
-- of block 0 is taken
abbrev pub with_body : ℕ → Body → Parts
with_body block body = each_changed
    (record nothing { head = at_table 0 (taken_by 4); body = at_both 0 block (λ _. body) })
    (names shape)
    (opening shape)

-- session 1 put key 5 in slot 0 of block 0
abbrev pub after_put : Parts
after_put = with_body 0 (with_slot 0 (written 1 (change.Put old))
    (body_at shape (opening shape) 0 0))

-- A begin has the newest stamp and the number of commits, and a session has what it wrote.
abbrev pub TransactionsAreOpened : Type 0
TransactionsAreOpened =
    (transaction shape after_put 1 ≡ None)
    × (transaction shape (effect shape after_put (event.Begin 1)) 1
    ≡ Some (record {
      snapshot = record { stamp = 0; number = 0 };
      writes = record { table = 0; key = pos 5; place = 0 } ∷ [];
    }))
    × (transaction shape (effect shape after_put (event.Begin 2)) 2
    ≡ Some (record { snapshot = record { stamp = 0; number = 0 }; writes = [] }))

-- A commit with writes has the next stamp and number; one without takes neither.
abbrev pub CommitsAreNumbered : Type 0
CommitsAreNumbered =
    let committed_parts = effect shape after_put (event.Commit wrote None) in
    (reply_to shape after_put (event.Commit wrote None) ≡ reply.Committed (Some 1))
    × (slot_at shape committed_parts 0 0 ≡ committed 1 1 1 own_put)
    × ((desk_at shape committed_parts).newest ≡ 1)
    × ((desk_at shape committed_parts).commits ≡ 1)
    × (reply_to shape committed_parts (event.Begin 2)
    ≡ reply.Begun (record { stamp = 1; number = 1 }))
    × (reply_to shape after_put (event.Commit (whole []) None) ≡ reply.Committed None)
    × ((desk_at shape (effect shape after_put (event.Commit (whole []) None))).newest ≡ 0)

-- An abort leaves the slot bare, and the empty head begins anew.
abbrev pub AbortsLeaveNothing : Type 0
AbortsLeaveNothing =
    (slot_at shape (effect shape after_put (event.Abort wrote)) 0 0 ≡ bare)
    × (head_at shape (effect shape after_put (event.Abort wrote)) 0
    ≡ record (opening_head 2 4 0) { inserts = 1 })

-- A session reads its own put, another does not, and a key that it wrote elsewhere is left out.
abbrev pub ReadsSeeOwnWrites : Type 0
ReadsSeeOwnWrites =
    (reply_to shape after_put (event.Read wrote 0 0) ≡ reply.Rows (old ∷ []))
    × (reply_to shape after_put (event.Read (record (whole []) { session = 2 }) 0 0)
    ≡ reply.Rows [])
    × (reply_to shape after_put (event.Read (whole ((place_at 0 (pos 5), 9) ∷ [])) 0 0)
    ≡ reply.Rows [])

-- a cooling block with a gap before its last row
abbrev pub cold : Parts
cold = with_body 1 (rounds 2 gap)

-- A move takes a stamp for the pairs that hold; a pair of another key, or into a slot with a row,
-- is skipped.
abbrev pub MovesTakeOneStamp : Type 0
MovesTakeOneStamp =
    let move = event.Move 0 (record pair { key = pos 3 } ∷ record pair { target = place_of 1 0 } ∷ pair ∷ []) in
    let none_holds = event.Move 0 (record pair { key = pos 3 } ∷ []) in
    (reply_to shape cold move ≡ reply.Moved 1)
    × (slot_at shape (effect shape cold move) 0 (place_of 1 2)
    ≡ moved_out 1 (row_of 2 (codes "b")) (settled (row_of 2 (codes "b"))))
    × (slot_at shape (effect shape cold move) 0 (place_of 1 1)
    ≡ moved_in 1 (row_of 2 (codes "b")) bare)
    × ((body_at shape (effect shape cold move) 0 1).cooling ≡ false)
    × ((desk_at shape (effect shape cold move)).newest ≡ 1)
    × ((desk_at shape (effect shape cold move)).commits ≡ 0)
    × (reply_to shape cold none_holds ≡ reply.Moved 0)
    × (desk_at shape (effect shape cold none_holds) ≡ desk_at shape cold)

-- A freeze of a dense, cooling block: sealed, imaged with its rows, read as shared, thawed.
abbrev pub FreezesGoInTurn : Type 0
FreezesGoInTurn =
    let dense = with_body 1 (rounds 2 two_rows) in
    let sealed = effect shape dense (event.Seal 0 1) in
    let imaged = effect shape sealed (event.Image 0 1 (Some (row_of 1 (codes "a") ∷ row_of 2 (codes "b") ∷ []))) in
    (map (reply_to shape dense) (event.Seal 0 0 ∷ event.Seal 0 1 ∷ event.Image 0 1 None ∷ [])
    ≡ reply.NotSealed seal_fault.Head ∷ reply.Sealed 1 ∷ reply.NoSeal ∷ [])
    × (reply_to shape sealed (event.Image 0 1 None) ≡ reply.Imaged 2)
    × (reply_to shape imaged (event.Read (whole []) 0 1)
    ≡ reply.Shared (row_of 1 (codes "a") ∷ row_of 2 (codes "b") ∷ []))
    × (reply_to shape imaged (event.Image 0 1 None) ≡ reply.NoSeal)
    × ((body_at shape (effect shape imaged (event.Thaw 0 1)) 0 1).slots ≡ two_rows.slots)

abbrev pub made : CoreEvent → Made
made event = record { event = event; refused = false }

-- Events in turn: an event that is refused memory changes nothing.
abbrev pub LogsAreReplayed : Type 0
LogsAreReplayed =
    let log = made (event.Begin 1) ∷ record { event = event.Look 0 0; refused = true } ∷ made (event.Seal 0 1)
    ∷ made (event.Observe 0 0) ∷ made (event.Commit (whole []) None) ∷ made event.Oldest ∷ [] in
    (replies_from shape (opening shape) log
    ≡ reply.Begun (record { stamp = 0; number = 0 }) ∷ reply.Memory ∷ reply.NotSealed
    seal_fault.Empty ∷ reply.Turned false
    ∷ reply.Committed None ∷ reply.Oldest 0 ∷ [])
    × ((body_at shape (replay shape log) 0 0).rounds ≡ 1)
    × (transaction shape (replay shape log) 1 ≡ None)
