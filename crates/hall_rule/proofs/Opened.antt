-- The table that a hall begins with keeps the rule.
use Rattle.std.proofs.Common.{◌≡◌, ℕ, ◌≤◌, List, [], None, Some, length}
use Rattle.std.specs.Prelude.{slice_get, slice_index}
use Rattle.atomic_table.specs.Table.{opening}
use Rattle.hall_rule.specs.HallInvariant.{latch_word}
use Rattle.hall_rule.specs.Hands.{all_in}
use Rattle.hall_rule.specs.Meaning.{Meaning}
use Rattle.hall_rule.specs.Opening.{first_view}
use Rattle.hall_rule.specs.Rule.{Rule}
use Rattle.hall_rule.specs.Slots.{spread}
use Rattle.hall_rule.proofs.Opens.{kept, owners}
use Rattle.hall_rule.proofs.PassWords.{opens_words}
use Rattle.hall_rule.proofs.Halves.{both}

module _ {P E T F : Type 0} (M : Meaning P E T F) (begins : M.sound M.start) (rests : (q : ℕ) → M.transaction M.start q ≡ None) (cold : (k : ℕ) (p : P) → slice_get M.start k ≡ Some p → M.head p ≡ 0) (some' : 1 ≤ M.passes) (limit : M.passes ≤ 128)
    (words : List ℕ) (wide : length words ≡ latch_word (length M.start)) (zero' : (k : ℕ) → slice_index words k ≡ 0) where
  -- The hall with its first pass, which has every hand, keeps the invariant.
  pub opens : Rule M (opening words (spread (all_in M.start)) (first_view M.start M.passes))
  opens = ([], owners M begins rests some' limit words wide zero', both (kept M begins rests some' limit words wide zero') (opens_words M cold words zero'))
