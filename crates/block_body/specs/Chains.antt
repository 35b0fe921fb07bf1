-- The version chains of a body, by slot.
use Rattle.std.specs.Prelude.{◌≡◌, ℕ, zero, suc, ◌+◌, ◌<◌, ◌≤◌, ◌^◌, Bool, ◌==◌, List, [], ◌∷◌}
use Rattle.std.specs.Prelude.{Option, None, Some, length, slice_index_or, count_by, All}
use Rattle.std.specs.List.{list_any}
use Rattle.std.specs.Ordering.{nat_cmp}
use Rattle.std.specs.Map.{lookup}
use Rattle.std.specs.BTreeMap.{is_at}
use Rattle.block_spec.specs.declared.change.Before.{Before}
use Rattle.undo_chain.specs.declared.undo.Undo.{Undo}
use Rattle.block_spec.specs.Fitting.{BeforeFits}
use Rattle.block_spec.specs.Slots.{Row, Slot, laid_back}
use Rattle.block_columns.specs.Columns.{WantsRow}
use Rattle.block_body.specs.Rows.{RowsValue}
use Rattle.block_body.specs.Slots.{slot_of}
use Rattle.undo_chain.specs.Entry.{is_stamped_by}
use Rattle.undo_chain.specs.Lawful.{IsLawful}
use Rattle.undo_chain.specs.State.{ChainState}

abbrev pub Chains : Type 0
Chains = List (ℕ × ChainState Before)

-- the chains as a table of them is seen
pub record ChainsValue : Type 0 where
  pub entries : Chains

abbrev pub chain_at : Chains → ℕ → Option (ChainState Before)
chain_at chains slot = lookup (is_at (nat_cmp slot)) chains

abbrev pub entries_of : Option (ChainState Before) → List (Undo Before)
entries_of None = []
entries_of (Some chain) = chain.entries

-- the entries of a slot, newest first
abbrev pub entries_at : Chains → ℕ → List (Undo Before)
entries_at chains slot = entries_of (chain_at chains slot)

-- a slot with its row and its entries
abbrev pub slot_at : List (Option Row) → Chains → ℕ → Slot
slot_at rows chains slot = slot_of (slice_index_or rows slot None) (entries_at chains slot)

-- A chain that is kept has an entry and no more than can be counted, and is lawful.
pub record IsChain (chain : ChainState Before) : Type 0 where
  pub some : 0 < length chain.entries
  pub few : length chain.entries ≤ 2 ^ 31
  pub lawful : IsLawful chain.entries

pub record AreChains (chains : Chains) : Type 0 where
  pub each : (slot : ℕ) (chain : ChainState Before) → chain_at chains slot ≡ Some chain
      → IsChain chain

-- a slot is one of those listed
abbrev pub is_listed : List ℕ → ℕ → Bool
is_listed slots slot = list_any (λ other. other == slot) slots

-- how many entries of the slots below a number have a stamp at most `oldest`
abbrev pub stamped_below : (ℕ → List (Undo Before)) → ℕ → ℕ → ℕ
stamped_below entries oldest zero = 0
stamped_below entries oldest (suc n) = stamped_below entries oldest n + count_by
    (λ undo. is_stamped_by undo oldest) (entries n)

-- Each before-image finds what it wants of the row on which it is laid back.
abbrev pub LaysBack : Option Row → List (Undo Before) → Type 0
LaysBack row [] = Unit {0}
LaysBack row (e ∷ es) = WantsRow e.before row × LaysBack (laid_back row e.before) es

-- The entries of a slot can be laid back on its row: it has memory where it has an entry, and what
-- they lay back fits.
pub record IsKept (rows : RowsValue) (slot : ℕ) (row : Option Row)
    (entries : List (Undo Before)) : Type 0 where
  pub room : 0 < length entries → slot < rows.room
  pub within : 0 < length entries → slot < length rows.rows
  pub fits : All (λ undo. BeforeFits rows.columns undo.before) entries
  pub lays : LaysBack row entries
