-- Writes and commits in front of those that are left.
use Rattle.std.proofs.Common.{◌≡◌, ℕ, ◌+◌, List, [], ◌∷◌, ◌++◌, drop, flat_map, sym, ap, ◌∙◌}
use Rattle.std.proofs.Common.{◌<◌, append_assoc, drop-cons, add-one, get_or, length, suc}
use Rattle.std.specs.Prelude.{Option}
use Rattle.cell_model.specs.declared.cell.Cell.{Cell}
use Rattle.cell_model.specs.declared.table.TableDecl.{TableDecl}
use Rattle.isolation_spec.specs.Contents.{History, WriteSet}
use Rattle.isolation_spec.specs.declared.place.Place.{Place}
use Rattle.log_text.specs.Lines.{commit_line, commit_lines, write_words}
use Rattle.word_text.specs.Words.{behind_spaces}
use Rattle.word_text.proofs.Spaces.{behind_spaces-append}
use Rattle.workload_spec.specs.Words.{lines_text}

-- what is left from a place on
left_from : {X : Type 0} (xs : List X) (i : ℕ) (x : X) → i < length xs → x ≡ get_or xs i x
    → drop i xs ≡ x ∷ drop (i + 1) xs
left_from xs i x inside is =
    drop-cons xs i x inside
    ∙ (ap (λ y. y ∷ drop (suc i) xs) (sym is) ∙ ap (λ k. x ∷ drop k xs) (sym (add-one i)))

module _ (tables : List TableDecl) (out more : List ℕ) (i : ℕ) where
  -- a write's words in front of those of the writes that are left
  pub write_next : (writes : WriteSet) (write : Place × Option (List Cell))
      → i < length writes → write ≡ get_or writes i write → more ≡ out ++ behind_spaces (write_words tables write)
      → more ++ behind_spaces (flat_map (write_words tables) (drop (i + 1) writes))
      ≡ out ++ behind_spaces (flat_map (write_words tables) (drop i writes))
  write_next writes write inside is more_is =
      let rest : List (List ℕ) = flat_map (write_words tables) (drop (i + 1) writes) in
      ap (λ (x : List ℕ). x ++ behind_spaces rest) more_is
      ∙ append_assoc out (behind_spaces (write_words tables write)) (behind_spaces rest)
      ∙ ap (λ (x : List ℕ). out ++ x) (sym (behind_spaces-append (write_words tables write) rest))
      ∙ ap (λ (x : WriteSet). out ++ behind_spaces (flat_map (write_words tables) x))
      (sym (left_from writes i write inside is))

  -- a commit's line in front of those of the commits that are left
  pub commit_next : (commits : History) (writes : WriteSet)
      → i < length commits → writes ≡ get_or commits i writes
      → more ≡ out ++ (commit_line tables (i + 1) writes ++ 10 ∷ [])
      → more ++ lines_text (commit_lines tables (i + 1 + 1) (drop (i + 1) commits))
      ≡ out ++ lines_text (commit_lines tables (i + 1) (drop i commits))
  commit_next commits writes inside is more_is =
      let rest : List ℕ = lines_text (commit_lines tables (i + 1 + 1) (drop (i + 1) commits)) in
      ap (λ (x : List ℕ). x ++ rest) more_is
      ∙ append_assoc out (commit_line tables (i + 1) writes ++ 10 ∷ []) rest
      ∙ ap (λ (x : History). out ++ lines_text (commit_lines tables (i + 1) x))
      (sym (left_from commits i writes inside is))
