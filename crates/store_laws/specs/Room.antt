-- The room of a table, by the inserts that were granted.
use Rattle.std.specs.Prelude.{◌≡◌, ℕ, ◌+◌, ◌*◌, ◌≤◌, ◌==◌, Bool, List, [], ◌∷◌, ◌++◌, length, sum_by}
use Rattle.std.specs.Prelude.{if◌then◌else◌}
use Rattle.block_spec.specs.Bodies.{is_empty}
use Rattle.block_spec.specs.Slots.{Row}
use Rattle.event_spec.specs.declared.event.Event.TheVariants as event
use Rattle.event_spec.specs.declared.own.OwnKey.{OwnKey}
use Rattle.event_spec.specs.declared.reply.Reply.TheVariants as reply
use Rattle.event_spec.specs.declared.reply.WriteFault.TheVariants as fault
use Rattle.event_spec.specs.Effects.{CoreEvent}
use Rattle.event_spec.specs.Lawful.{HasTable, IsLawful}
use Rattle.event_spec.specs.Parts.{Parts, Shape, below, blocks_of, body_at, head_at, is_head}
use Rattle.event_spec.specs.Parts.{slots_of}
use Rattle.event_spec.specs.Replay.{IsLawfulLog, Made, after, opening, replay, reply_after}
use Rattle.event_spec.specs.Replay.{rows_first}
use Rattle.event_spec.specs.Replies.{CoreReply, reply_to}
use Rattle.event_spec.specs.Sound.{IsShape, Sound}
use Rattle.core_laws.specs.Logs.Laws.{HasNoRoom}

-- the slots of a block that are in use: the head's up to the next insert's, all of another one
-- that is
-- not empty
abbrev pub used_in : Shape → Parts → ℕ → ℕ → ℕ
used_in shape parts table block =
    if is_head shape parts table block then (head_at shape parts table).taken
    else if is_empty (body_at shape parts table block) then 0
    else slots_of shape table

abbrev pub used : Shape → Parts → ℕ → ℕ
used shape parts table = sum_by (used_in shape parts table) (below (blocks_of shape table))

abbrev pub writes_told : CoreReply → ℕ
writes_told (reply.Written place) = 1
writes_told _ = 0

-- 1 for an insert into the table that was granted
abbrev pub inserted_by : ℕ → CoreEvent → CoreReply → ℕ
inserted_by table (event.Begin session) told = 0
inserted_by table (event.Get own at key) told = 0
inserted_by table (event.Insert own at row) told = if table == at then writes_told told else 0
inserted_by table (event.Update own at row) told = 0
inserted_by table (event.Delete own at key) told = 0
inserted_by table (event.Read own at block) told = 0
inserted_by table (event.Range own at low high) told = 0
inserted_by table (event.Commit own reads) told = 0
inserted_by table (event.Abort own) told = 0
inserted_by table event.Oldest told = 0
inserted_by table (event.Observe at block) told = 0
inserted_by table (event.Prune at block oldest) told = 0
inserted_by table (event.Look at block) told = 0
inserted_by table (event.Move at moves) told = 0
inserted_by table (event.Seal at block) told = 0
inserted_by table (event.Image at block image) told = 0
inserted_by table (event.Thaw at block) told = 0

-- In the opening core the slots in use are those of its rows, which its head counts as inserts.
abbrev pub OpensWithRows : Type 0
OpensWithRows = (shape : Shape) (table : ℕ) → IsShape shape → HasTable shape table
    → (used shape (opening shape) table ≡ length (rows_first shape table))
    × ((head_at shape (opening shape) table).inserts ≡ length (rows_first shape table))

-- An event takes no more slots than its head counts, which is at most one for an insert.
pub record CountsRoom (shape : Shape) (parts : Parts) (made : Made) (table : ℕ) : Type 0 where
  pub room : used shape (after shape parts made) table + (head_at shape parts table).inserts
      ≤ used shape parts table + (head_at shape (after shape parts made) table).inserts
  pub inserts : (head_at shape (after shape parts made) table).inserts
      ≤ (head_at shape parts table).inserts
      + inserted_by table made.event (reply_after shape parts made)

abbrev pub RoomIsCounted : Type 0
RoomIsCounted = (shape : Shape) (parts : Parts) (made : Made) (table : ℕ)
    → IsShape shape → Sound shape parts → IsLawful shape made.event parts → HasTable shape table
    → CountsRoom shape parts made table

-- Without room for an insert all slots are in use.
abbrev pub FullIsFull : Type 0
FullIsFull = (shape : Shape) (parts : Parts) (own : OwnKey) (table : ℕ)
    → HasNoRoom shape parts own table
    → blocks_of shape table * slots_of shape table ≤ used shape parts table

-- The table was found full with so many slots that its inserts had taken: at least all that it has.
pub record IsSpent (shape : Shape) (parts : Parts) (table inserts : ℕ) : Type 0 where
  pub counted : inserts ≡ (head_at shape parts table).inserts
  pub all : blocks_of shape table * slots_of shape table ≤ inserts

-- An insert of a lawful log that is refused as full found its table so.
abbrev pub FullIsSpent : Type 0
FullIsSpent = (shape : Shape) (before : List Made) (refused : Bool) (own : OwnKey) (table : ℕ)
    (row : Row) (inserts : ℕ)
    → IsShape shape
    → IsLawfulLog
    shape (before ++ record { event = event.Insert own table row; refused = refused } ∷ [])
    → (reply_to shape (replay shape before) (event.Insert own table row)
    ≡ reply.Refused (fault.Full inserts))
    → IsSpent shape (replay shape before) table inserts
