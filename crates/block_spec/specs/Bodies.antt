-- A block's body: its slots, its phase, and what the observe rounds know of it.
use Rattle.std.specs.Prelude.{ℕ, ◌+◌, ◌-◌, ◌^◌, min, Bool, true, false, not, ◌&&◌, ◌||◌, ◌==◌, List}
use Rattle.std.specs.Prelude.{[], ◌∷◌, Option, None, Some, is_some, is_none, map, replicate, sum_by}
use Rattle.std.specs.Prelude.{count_by, slice_index_or, slice_set, if◌then◌else◌}
use Rattle.std.specs.List.{list_any, list_all, filter_map}
use Rattle.cell_model.specs.declared.column.Column.{Column}
use Rattle.undo_chain.specs.Entry.{is_stamped_by}
use Rattle.block_spec.specs.declared.phase.Phase.{Phase}
use Rattle.block_spec.specs.declared.phase.Phase.TheVariants.{Loose, Sealed, Imaged}
use Rattle.block_spec.specs.declared.phase.SealFault.{SealFault}
use Rattle.block_spec.specs.declared.phase.SealFault.TheVariants as fault
use Rattle.block_spec.specs.Fitting.{columns_of}
use Rattle.block_spec.specs.Slots.{Slot, Row, bare, is_bare, has_none, writer_of, committed}
use Rattle.block_spec.specs.Slots.{rolled_back, pruned, taken_back}

pub record Body : Type 0 where
  -- what its columns take
  pub columns : List Column
  pub slots : List Slot
  pub phase : Phase
  pub cooling : Bool
  -- the observe rounds since it was last modified, at most 2
  pub rounds : ℕ
  -- the stamp of its last seal, 0 before the first
  pub last : ℕ

-- A new body of a table: all its slots are bare, and it is loose and hot.
abbrev pub untouched : List Column → ℕ → Body
untouched schema slots = record {
  columns = columns_of schema;
  slots = replicate slots bare;
  phase = Loose;
  cooling = false;
  rounds = 0;
  last = 0;
}

abbrev pub slot_in : Body → ℕ → Slot
slot_in body j = slice_index_or body.slots j bare

abbrev pub is_loose : Phase → Bool
is_loose Loose = true
is_loose (Sealed g) = false
is_loose (Imaged g) = false

abbrev pub is_sealed : Phase → Bool
is_sealed Loose = false
is_sealed (Sealed g) = true
is_sealed (Imaged g) = false

abbrev pub is_imaged : Phase → Bool
is_imaged Loose = false
is_imaged (Sealed g) = false
is_imaged (Imaged g) = true

-- its rows, in slot order
abbrev pub rows_of : Body → List Row
rows_of body = filter_map (λ slot. slot.row) body.slots

abbrev pub has_row : Body → Bool
has_row body = list_any (λ slot. is_some slot.row) body.slots

-- no slot has a row or an entry
abbrev pub is_empty : Body → Bool
is_empty body = list_all is_bare body.slots

-- no slot has an entry
abbrev pub is_quiet : Body → Bool
is_quiet body = list_all (λ slot. has_none slot.entries) body.slots

-- the slots with rows stand before those without
abbrev pub is_front : List Slot → Bool
is_front [] = true
is_front (slot ∷ slots) = if is_some slot.row then is_front slots
    else list_all (λ slot. is_none slot.row) slots

-- its rows are a non-empty front of its slots
abbrev pub is_dense : Body → Bool
is_dense body = has_row body && is_front body.slots

-- A modification makes it hot and begins its rounds anew.
abbrev pub modified : Body → Body
modified body = record body { cooling = false; rounds = 0 }

-- a slot is changed, which modifies the body
abbrev pub with_slot : ℕ → (Slot → Slot) → Body → Body
with_slot j change body = record (modified body)
    { slots = slice_set body.slots j (change (slot_in body j)) }

-- A commit of a session changes its entries in every slot, and is no modification.
abbrev pub committed_in : ℕ → ℕ → ℕ → Body → Body
committed_in session stamp number body = record body
    { slots = map (committed session stamp number) body.slots }

abbrev pub is_writer : ℕ → Option ℕ → Bool
is_writer session None = false
is_writer session (Some writer) = writer == session

-- some slot has an uncommitted entry of the session
abbrev pub is_written_by : ℕ → Body → Bool
is_written_by session body = list_any (λ slot. is_writer session (writer_of slot.entries))
    body.slots

-- A roll-back of a session modifies the bodies that it wrote, and no other.
abbrev pub rolled_back_in : ℕ → Body → Body
rolled_back_in session body =
    if is_written_by session body
    then record (modified body) { slots = map (rolled_back session) body.slots } else body

-- A pruning drops entries in every slot, and is no modification.
abbrev pub pruned_in : ℕ → Body → Body
pruned_in oldest body = record body { slots = map (pruned oldest) body.slots }

-- how many entries a pruning drops
abbrev pub dropped_from : ℕ → Body → ℕ
dropped_from oldest body = sum_by
    (λ slot. count_by (λ undo. is_stamped_by undo oldest) slot.entries) body.slots

-- One half of a move is taken back, after which the block is cooling with two rounds again.
abbrev pub taken_back_in : ℕ → Body → Body
taken_back_in j body = record (with_slot j taken_back body) { cooling = true; rounds = 2 }

-- One more observe round: a loose, hot body with a row that is not the head turns cooling in a
-- round after which it counts 2.
abbrev pub turns : Bool → Body → Bool
turns head body = is_loose body.phase && not body.cooling && not head && has_row body
    && (min (body.rounds + 1) 2 == 2)

abbrev pub observed : Bool → Body → Body
observed head body = record body {
  rounds = min (body.rounds + 1) 2;
  cooling = body.cooling || turns head body;
}

-- the last stamp of a block
abbrev pub last_stamp : ℕ
last_stamp = 2 ^ 30 - 1

-- Why a body is not sealed: the first reason, in this order.
abbrev pub seal_fault : Bool → Body → Option SealFault
seal_fault head body =
    if not (is_loose body.phase) then Some fault.Phase
    else if head then Some fault.Head
    else if not (has_row body) then Some fault.Empty
    else if not (is_front body.slots) then Some fault.Gaps
    else if not (is_quiet body) then Some fault.Versions
    else if not body.cooling then Some fault.Hot
    else if body.last == last_stamp then Some fault.Last
    else None

-- A seal has one more than the block's last stamp.
abbrev pub sealed : Body → Body
sealed body = record body { phase = Sealed (body.last + 1); last = body.last + 1 }

abbrev pub imaged_phase : Phase → Phase
imaged_phase Loose = Loose
imaged_phase (Sealed g) = Imaged g
imaged_phase (Imaged g) = Imaged g

-- A sealed body with its Arrow buffers is imaged, with the stamp of its seal.
abbrev pub imaged : Body → Body
imaged body = record body { phase = imaged_phase body.phase }

-- A thaw makes it loose and hot, and leaves its rounds.
abbrev pub thawed : Body → Body
thawed body = record body { phase = Loose; cooling = false }
