-- The lines of rows.
use Rattle.std.proofs.Common.{◌≡◌, ℕ, ◌+◌, ◌≤◌, List, [], ◌∷◌, ◌++◌, length, map, drop, refl, sym, ap}
use Rattle.std.proofs.Common.{◌∙◌, arith, append_assoc, length-append, drop-cons}
use Rattle.std.proofs.Common.{add-one, suc}
use Rattle.std.specs.Prelude.{Some, slice_get}
use Rattle.std.proofs.lemmas.Grind.{flat_map-append}
use Rattle.std.proofs.lemmas.Option.{get_or_from_slice_get, slice_get_within}
use Rattle.cell_model.specs.declared.cell.Cell.{Cell}
use Rattle.workload_spec.specs.ReplyText.{row_line}
use Rattle.workload_spec.specs.Words.{lines_text}

-- A line that is ended by a line feed.
abbrev pub ended : List ℕ → List ℕ
ended line = line ++ 10 ∷ []

-- The text of more lines stands behind that of the first ones.
pub lines-append : (lines more : List (List ℕ))
    → lines_text (lines ++ more) ≡ lines_text lines ++ lines_text more
lines-append lines more = flat_map-append ended lines more

-- each line has a byte at least
lines_are_long : (lines : List (List ℕ)) → length lines ≤ length (lines_text lines)
lines_are_long [] = omega arith
lines_are_long (line ∷ lines) =
    let rest = lines_are_long lines in
    omega (arith, rest, length-append (ended line) (lines_text lines), length-append line (10 ∷ []))

-- A mapped list is as long as the list.
length-map : {A B : Type 0} (f : A → B) (xs : List A) → length (map f xs) ≡ length xs
length-map f [] = refl
length-map f (x ∷ xs) = ap suc (length-map f xs)

-- so a text grows by as many bytes as there are rows, at least
pub rows_are_fewer : (text : List ℕ) (rows : List (List Cell)) (grown : List ℕ)
    → grown ≡ text ++ lines_text (map row_line rows) → length text + length rows ≤ length grown
rows_are_fewer text rows grown is =
    omega (
      arith,
      ap length is,
      length-append text (lines_text (map row_line rows)),
      lines_are_long (map row_line rows),
      length-map row_line rows,
    )

-- a row's line in front of those that are left
pub row_next : (rows : List (List Cell)) (i : ℕ) (row : List Cell) (out more : List ℕ)
    → slice_get rows i ≡ Some row → more ≡ out ++ (row_line row ++ 10 ∷ [])
    → more ++ lines_text (map row_line (drop (i + 1) rows))
    ≡ out ++ lines_text (map row_line (drop i rows))
row_next rows i row out more at more_is =
    let rest : List ℕ = lines_text (map row_line (drop (i + 1) rows)) in
    let front : drop i rows ≡ row ∷ drop (i + 1) rows =
    drop-cons rows i row (slice_get_within rows i row at)
    ∙ (ap (λ (x : List Cell). x ∷ drop (suc i) rows) (get_or_from_slice_get rows i row row at)
    ∙ ap (λ k. row ∷ drop k rows) (sym (add-one i))) in
    ap (λ (x : List ℕ). x ++ rest) more_is
    ∙ (append_assoc out (ended (row_line row)) rest
    ∙ ap (λ (x : List (List Cell)). out ++ lines_text (map row_line x)) (sym front))
