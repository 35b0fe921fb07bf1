-- What a change is, over the slot of each table and place and the candidates of each table and key.
use Rattle.std.specs.Prelude.{◌≡◌, ◌⊎◌, ℕ, ℤ, true, false, ◌||◌, List, is_some}
use Rattle.block_spec.specs.declared.change.Change.{Change}
use Rattle.block_spec.specs.Slots.{Slot, Row, bare, is_bare, writer_of, row_after, written, pruned}
use Rattle.block_spec.specs.Slots.{moved_out, moved_in}
use Rattle.event_spec.specs.Follows.{StandsBefore, is_current}
use Rattle.event_spec.specs.Lawful.{Among}
use Rattle.event_spec.specs.SlotSound.{Keyed}
use Rattle.isolation_spec.specs.Contents.{key_of}
use Rattle.core_laws.specs.Slots.Laws.{IsUndone, plain}
use Rattle.std.specs.Prelude.{IfSome, Some}

-- the slot of each table and place, and the candidates of each table and key
abbrev pub SlotMap : Type 0
SlotMap = ℕ → ℕ → Slot

abbrev pub CandidateMap : Type 0
CandidateMap = ℕ → ℤ → List ℕ

-- the slot of one table and place, and of no other
abbrev pub IsOther : ℕ → ℕ → ℕ → ℕ → Type 0
IsOther table place other another = (other ≡ table) → (another ≡ place) → ⊥

-- The candidates after a change are those before it, and a place of one key, which stands behind
-- those of its key where it is new.
pub record IsAdded (before after : CandidateMap) (table place : ℕ) (key : ℤ) : Type 0 where
  pub added : Among place (after table key)
  pub kept : (other another : ℕ) (word : ℤ) → Among another (before other word)
      → Among another (after other word)
  pub more : (other another : ℕ) (word : ℤ) → Among another (after other word)
      → Among another (before other word) ⊎ ((other ≡ table) × (another ≡ place) × (word ≡ key))
  pub behind : (other one another : ℕ) (word : ℤ) → StandsBefore one another (after other word)
      → StandsBefore one another (before other word)
      ⊎ (Among one (before other word) × (Among another (before other word) → ⊥)
      × (other ≡ table) × (another ≡ place) × (word ≡ key))

-- The candidates after a change are those before it whose slot is not bare then, in their order.
pub record IsSwept (slot : SlotMap) (before after : CandidateMap) : Type 0 where
  pub kept : (table place : ℕ) (key : ℤ) → Among place (after table key)
      → Among place (before table key) × (is_bare (slot table place) ≡ false)
  pub stays : (table place : ℕ) (key : ℤ) → Among place (before table key)
      → is_bare (slot table place) ≡ false
      → Among place (after table key)
  pub order : (table one other : ℕ) (key : ℤ) → StandsBefore one other (after table key)
      → StandsBefore one other (before table key)

-- A session may write a slot: the write is undone by its before-image and leaves the key, nobody
-- else's entry stands there, no other slot of the key is current, and it is itself where it is a
-- candidate.
pub record MayWrite (slot : SlotMap) (places : CandidateMap) (session table place : ℕ) (key : ℤ)
    (change : Change)
    : Type 0 where
  pub undone : IsUndone (slot table place) change
  pub leaves : IfSome (row_after (slot table place).row change) (λ cells. key_of cells ≡ key)
  pub row_there : (is_some (row_after (slot table place).row change)
      || is_some (slot table place).row) ≡ true
  pub keyed : Keyed key (slot table place).row (slot table place).entries
  pub one_key : (other : ℤ) → Among place (places table other) → other ≡ key
  pub free : (writer : ℕ) → writer_of (slot table place).entries ≡ Some writer → writer ≡ session
  pub alone : (another : ℕ) → Among another (places table key) → is_current (slot table another)
      ≡ true → another ≡ place
  pub current : Among place (places table key) → is_current (slot table place) ≡ true

-- The slots after a write are those before it, but for the one written.
pub record IsWritten (before after : SlotMap) (session table place : ℕ) (change : Change) : Type 0 where
  pub here : after table place ≡ written session change (before table place)
  pub others : (other another : ℕ) → IsOther table place other another → after other another
      ≡ before other another

-- The slots after a pruning are those before it, each pruned or as it was.
abbrev pub IsPruned : SlotMap → SlotMap → ℕ → Type 0
IsPruned before after oldest =
    (table place : ℕ) → (after table place ≡ pruned oldest (before table place))
    ⊎ (after table place ≡ before table place)

-- The slots after a row of a table moved from one slot, of which it is all, to another, which was
-- bare.
pub record IsMoved (before after : SlotMap) (stamp table source target : ℕ) (row : Row) : Type 0 where
  pub source_before : before table source ≡ plain row
  pub target_before : before table target ≡ bare
  pub source_after : after table source ≡ moved_out stamp row (plain row)
  pub target_after : after table target ≡ moved_in stamp row bare
  pub others : (other another : ℕ) → IsOther table source other another
      → IsOther table target other another
      → after other another ≡ before other another
