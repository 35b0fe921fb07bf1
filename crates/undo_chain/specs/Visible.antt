-- The row of a slot that a reader sees.
use Rattle.std.specs.Prelude.{ℕ, List, not, map, fold}
use Rattle.std.specs.List.{take_while}
use Rattle.undo_chain.specs.declared.undo.Undo.{Undo}
use Rattle.undo_chain.specs.Entry.{is_in_view}

-- The before-images that a reader lays back, newest first: those of the entries above the newest
-- one in its view.
abbrev pub images_laid_back : {D : Type 0} → List (Undo D) → ℕ → ℕ → List D
images_laid_back entries stamp session =
    map (λ undo. undo.before) (take_while (λ undo. not (is_in_view undo stamp session)) entries)

-- The visible row of a slot is its current row with these before-images laid back, newest first.
abbrev pub visible_row : {Row D : Type 0} → (Row → D → Row) → Row → List (Undo D) → ℕ → ℕ → Row
visible_row lay_back row entries stamp session = fold lay_back row
    (images_laid_back entries stamp session)
