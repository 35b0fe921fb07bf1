-- A body from what it is made of.
use Rattle.std.specs.Prelude.{◌≡◌, ℕ, ◌==◌, ◌≤◌, Bool, true, false, List, [], None, IfSome}
use Rattle.std.specs.Prelude.{is_some, slice_index_or, find}
use Rattle.std.specs.List.{list_any}
use Rattle.std.specs.Option.{option_map_or}
use Rattle.block_spec.specs.declared.change.Change.{Change}
use Rattle.block_spec.specs.declared.change.Change.TheVariants as change
use Rattle.block_spec.specs.declared.phase.Phase.{Phase}
use Rattle.block_spec.specs.Bodies.{Body, is_loose, is_imaged, last_stamp}
use Rattle.undo_chain.specs.Entry.{is_own}
use Rattle.block_body.specs.Frozen.{IsImageOf}
use Rattle.block_body.specs.Rows.{RowsValue}
use Rattle.block_body.specs.Slots.{slots_from}
use Rattle.block_body.specs.Chains.{Chains, AreChains, IsKept, entries_at, is_listed}

abbrev pub body_value : RowsValue → Chains → Phase → Bool → ℕ → ℕ → Body
body_value rows chains phase cooling rounds last = record {
  columns = rows.columns;
  slots = slots_from (entries_at chains) 0 rows.rows;
  phase = phase;
  cooling = cooling;
  rounds = rounds;
  last = last;
}

-- the slots that are listed for a session
pub record SessionSlots : Type 0 where
  pub session : ℕ
  pub slots : List ℕ

-- the slots that are listed for each session
abbrev pub SlotLists : Type 0
SlotLists = List SessionSlots

-- whether slots are those of a session
abbrev pub is_of : ℕ → SessionSlots → Bool
is_of session listed = listed.session == session

-- the slots that are listed for a session, none where it has no list
abbrev pub slots_of : SlotLists → ℕ → List ℕ
slots_of lists session = option_map_or (λ listed. listed.slots) (find (is_of session) lists) []

-- a change is of a row that there is
abbrev pub wants_row : Change → Bool
wants_row (change.Put row) = false
wants_row (change.Patch patch) = true
wants_row change.Gone = true

-- What holds of a body at any time: its chains can be laid back, a slot with an uncommitted entry
-- is listed for its session, a body that is not loose has no version, and its rows are an image's
-- where it is imaged.
pub record IsBody
    (rows : RowsValue) (chains : Chains) (lists : SlotLists) (phase : Phase) (stamp : ℕ)
    : Type 0 where
  pub each : AreChains chains
  pub kept : (slot : ℕ) → IsKept rows slot (slice_index_or rows.rows slot None)
      (entries_at chains slot)
  pub listed : (session slot : ℕ) → list_any (λ undo. is_own undo session) (entries_at chains slot)
      ≡ true →
      is_listed (slots_of lists session) slot ≡ true
  pub quiet : is_loose phase ≡ false → chains ≡ []
  pub image : is_some rows.image ≡ is_imaged phase
  pub frozen : IfSome rows.image (IsImageOf rows.columns rows.rows)
  pub last : stamp ≤ last_stamp
