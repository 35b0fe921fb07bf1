-- Whether a reader sees a row, without the row.
use Rattle.std.proofs.Common.{◌≡◌, ◌∙◌, ℕ, Bool, true, false, List, [], ◌∷◌, Option, None, Some, is_some, refl, ap}
use Rattle.std.specs.Prelude.{◌↔◌, IsTrue, IsSome, fold}
use Rattle.undo_chain.specs.Visible.{images_laid_back}
use Rattle.block_spec.specs.declared.change.Before.{Before}
use Rattle.block_spec.specs.declared.change.Before.TheVariants as before
use Rattle.block_spec.specs.Slots.{Row, Slot, laid_back, seen}
use Rattle.block_body.specs.Presence.{had_row}

-- what a contract tells of a row's presence, as an equation
pub told_there : (b : Bool) (o : Option Row) → IsTrue b ↔ IsSome o → b ≡ is_some o
told_there true None told = absurd (none_some (told.0 refl))
  where
    none_some : false ≡ true → ⊥
    none_some e = cc
told_there true (Some x) told = refl
told_there false None told = refl
told_there false (Some x) told = absurd (none_some (told.1 refl))
  where
    none_some : false ≡ true → ⊥
    none_some e = cc

-- one before-image laid back
once_there : (row : Option Row) (b : Before) → had_row (is_some row) b ≡ is_some (laid_back row b)
once_there row before.Empty = refl
once_there row (before.Whole old) = refl
once_there None (before.Part patch) = refl
once_there (Some cells) (before.Part patch) = refl

-- A row is seen after before-images were laid back exactly where one is there by their kinds.
pub all_there : (images : List Before) (row : Option Row) → fold had_row (is_some row) images ≡ is_some (fold laid_back row images)
all_there [] row = refl
all_there (b ∷ images) row = ap (λ (has : Bool). fold had_row has images) (once_there row b) ∙ all_there images (laid_back row b)

-- the same of a slot
pub slot_shows : (slot : Slot) (stamp session : ℕ) (has : Bool) → has ≡ is_some slot.row
    → fold had_row has (images_laid_back slot.entries stamp session) ≡ is_some (seen slot stamp session)
slot_shows slot stamp session has is =
    ap (λ (b : Bool). fold had_row b (images_laid_back slot.entries stamp session)) is ∙ all_there (images_laid_back slot.entries stamp session) slot.row
