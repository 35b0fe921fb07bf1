-- What a table of chains is made of.
use Rattle.std.specs.Prelude.{◌≡◌, ℕ, zero, suc, ◌+◌, ◌*◌, ◌<◌, ◌≤◌, ◌^◌, List, [], ◌∷◌}
use Rattle.std.specs.Prelude.{Option, None, Some, length, slice_index_or}
use Rattle.block_spec.specs.declared.change.Before.{Before}
use Rattle.undo_chain.specs.declared.undo.Undo.{Undo}
use Rattle.undo_chain.specs.State.{ChainState}
use Rattle.block_body.specs.Chains.{Chains}

-- each slot with its chain
abbrev pub paired : List ℕ → List (ChainState Before) → Chains
paired [] chains = []
paired (slot ∷ slots) [] = []
paired (slot ∷ slots) (chain ∷ chains) = (slot, chain) ∷ paired slots chains

-- a chain, unless it has no entry
abbrev pub kept_for : List (Undo Before) → ChainState Before → Option (ChainState Before)
kept_for [] chain = None
kept_for (undo ∷ entries) chain = Some chain

abbrev pub kept : ChainState Before → Option (ChainState Before)
kept chain = kept_for chain.entries chain

-- 1 for what is not 0
abbrev pub mark : ℕ → ℕ
mark zero = 0
mark (suc n) = 1

-- how many of the slots from one on have a place
abbrev pub taken_from : (ℕ → ℕ) → ℕ → ℕ → ℕ
taken_from place from zero = 0
taken_from place from (suc n) = taken_from place from n + mark (place (from + n))

-- The chain of each slot of the list stands where the slot's place says, no other slot has a place,
-- and those that have one are counted by groups of 64.
pub record IsTable (places used slots : List ℕ) (held : ℕ) : Type 0 where
  pub few : length places ≤ 2 ^ 32
  pub grouped : length places ≤ 64 * length used
  pub long : held ≡ length slots
  pub named : (i : ℕ) → i < length slots
      → slice_index_or places (slice_index_or slots i 0) 0 ≡ i + 1
  pub within : (slot i : ℕ) → slice_index_or places slot 0 ≡ i + 1 → i < length slots
  pub placed : (slot i : ℕ) → slice_index_or places slot 0 ≡ i + 1 → slice_index_or slots i 0 ≡ slot
  pub counted : (group : ℕ) → slice_index_or used group 0
      ≡ taken_from (λ slot. slice_index_or places slot 0) (group * 64) 64
