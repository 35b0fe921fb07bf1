-- What stands in the way of a write to a slot.
use Rattle.std.specs.Prelude.{ℕ, List, [], ◌∷◌, Option, None, Some, option_map, map, filter, find}
use Rattle.std.specs.Prelude.{fold, max}
use Rattle.undo_chain.specs.declared.undo.Undo.{Undo}
use Rattle.undo_chain.specs.declared.chain.Newer.{Newer}
use Rattle.undo_chain.specs.declared.chain.Newer.TheVariants.{Nothing, Session, Number}
use Rattle.undo_chain.specs.Entry.{is_open_write_of_another, is_commit_above}

-- Another session that has an uncommitted write here.
abbrev pub other_writer : {D : Type 0} → List (Undo D) → ℕ → Option ℕ
other_writer entries session =
    option_map (λ undo. undo.session) (find (λ undo. is_open_write_of_another undo session) entries)

-- The numbers of the commits above a snapshot's stamp.
abbrev pub numbers_above : {D : Type 0} → List (Undo D) → ℕ → List ℕ
numbers_above entries stamp = map (λ undo. undo.number)
    (filter (λ undo. is_commit_above undo stamp) entries)

-- The largest of some numbers, where there are any.
abbrev pub largest : List ℕ → Option ℕ
largest [] = None
largest (x ∷ xs) = Some (fold max x xs)

-- An uncommitted write of another session goes first, then the newest commit.
abbrev pub conflict_by : Option ℕ → Option ℕ → Newer
conflict_by (Some writer) number = Session writer
conflict_by None (Some number) = Number number
conflict_by None None = Nothing

-- What a write by a session meets: another session's uncommitted write, else the newest commit
-- above its snapshot.
abbrev pub conflict_of : {D : Type 0} → List (Undo D) → ℕ → ℕ → Newer
conflict_of entries stamp session = conflict_by (other_writer entries session)
    (largest (numbers_above entries stamp))
