-- What the images that a reader lays back make of a row, whatever a row is: for layers that lay
-- real images back on real rows.
use Rattle.std.proofs.Common.{◌≡◌, ℕ, List, ◌∷◌, ◌∙◌, ap}
use Rattle.std.specs.Prelude.{fold}
use Rattle.undo_chain.specs.declared.undo.Undo.{Undo}
use Rattle.undo_chain.specs.Visible.{images_laid_back, visible_row}

-- where a reader lays the same images back, it sees the same
pub visible_row-same : {Row D : Type 0} (lay_back : Row → D → Row) (row : Row) (new old : List (Undo D)) (stamp session : ℕ) →
    images_laid_back new stamp session ≡ images_laid_back old stamp session →
    visible_row lay_back row new stamp session ≡ visible_row lay_back row old stamp session
visible_row-same lay_back row new old stamp session same = ap (λ (images : List _). fold lay_back row images) same

-- where a reader lays one image back before the same ones, and this undoes the change of the row,
-- it sees the same
pub visible_row-change : {Row D : Type 0} (lay_back : Row → D → Row) (row changed : Row) (before : D) (new old : List (Undo D))
    (stamp session : ℕ) → images_laid_back new stamp session ≡ before ∷ images_laid_back old stamp session →
    lay_back changed before ≡ row →
    visible_row lay_back changed new stamp session ≡ visible_row lay_back row old stamp session
visible_row-change lay_back row changed before new old stamp session more undone =
    ap (λ (images : List _). fold lay_back changed images) more
    ∙ ap (λ r. fold lay_back r (images_laid_back old stamp session)) undone
