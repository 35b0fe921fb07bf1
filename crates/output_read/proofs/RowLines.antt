-- Rows at the front of lines are read one by one.
use Rattle.std.proofs.Common.{◌≡◌, ℕ, ◌+◌, ◌-◌, ◌<◌, ◌≤◌, Bool, true, false, cond, ◌&&◌, not, List, [], ◌∷◌, ◌++◌, length, take, map, Option, None, Some, refl, sym, ap, ◌∙◌, subst, arith, suc, zero, append-nil, append_assoc, ℤ, int_lt, ◌⊎◌, inl, inr, length-append}
use Rattle.std.specs.Prelude.{◌==◌, codes, is_some}
use Rattle.std.specs.List.{list_all}
use Rattle.std.specs.Option.{option_map_or}
use Rattle.std.proofs.lemmas.Bool.{and_parts, and_from, eq-eqb}
use Rattle.std.proofs.lemmas.List.{length_push}
use Rattle.std.proofs.lemmas.List.Folds.{list_all-append}
use Rattle.cell_model.specs.declared.cell.Cell.{Cell}
use Rattle.cell_model.specs.declared.column.Column.{Column}
use Rattle.cell_model.specs.Rows.{fits}
use Rattle.isolation_spec.specs.Contents.{key_of}
use Rattle.workload_spec.specs.ReplyText.{row_line}
use Rattle.workload_spec.specs.Words.{cell_words, spaced, lines_text}
use Rattle.outcome_spec.specs.Lines.{lines_of}
use Rattle.outcome_spec.specs.Reading.{row_at, rows_above}
use Rattle.reply_text.specs.Shown.{is_row}
use Rattle.reply_text.specs.Readers.{◌>>=◌, where_true, behind, row_in}
use Rattle.reply_text.proofs.PieceLemmas.{step, where_is, gives, behind_is}
use Rattle.reply_text.proofs.RowsBack.{row_back}
use Rattle.reply_text.proofs.SaidSound.{row_is, row_words}
use Rattle.output_read.specs.Rows.{AreAbove, key_above, row_behind}
use Rattle.output_read.proofs.Fitting.{never, row_fits, row_at_is, row_at_back}
use Rattle.output_read.proofs.Texts.{first-line}

-- Lines that are the same with their ends are the same without them.
ends-alike : (xs ys : List ℕ) → xs ++ 10 ∷ [] ≡ ys ++ 10 ∷ [] → xs ≡ ys
ends-alike [] [] h = refl
ends-alike [] (y ∷ []) h = absurd (let n : ⊥ = cc in n)
ends-alike [] (y ∷ z ∷ ys) h = absurd (let n : ⊥ = cc in n)
ends-alike (x ∷ []) [] h = absurd (let n : ⊥ = cc in n)
ends-alike (x ∷ z ∷ xs) [] h = absurd (let n : ⊥ = cc in n)
ends-alike (x ∷ xs) (y ∷ ys) h =
    let first : x ≡ y = cc in
    let rest : xs ++ 10 ∷ [] ≡ ys ++ 10 ∷ [] = cc in
    ap (λ (n : ℕ). n ∷ xs) first ∙ ap (λ (zs : List ℕ). y ∷ zs) (ends-alike xs ys rest)

module _ (columns : List Column) (some : 0 < length columns) where
  -- A row that fits is read from its line without the end.
  behind-row : (row : List Cell) → is_row row ≡ true → fits columns row ≡ true → row_behind columns (row_line row) ≡ Some row
  behind-row [] is fit = absurd (never is)
  behind-row (key ∷ cells) is fit =
      gives (row_in (spaced (cell_words (key ∷ cells)))) (λ row. where_true (fits columns row) row) (Some (key ∷ cells)) (key ∷ cells) (row_back (key ∷ cells) is)
      (ap (λ (b : Bool). where_true b (key ∷ cells)) fit)

  -- A row that is read from a line without its end is read from it with the end.
  row-of-line : (line : List ℕ) (row : List Cell) → row_behind columns line ≡ Some row → row_at columns (line ++ 10 ∷ []) ≡ Some row
  row-of-line line row h =
      step (behind (codes "| ") line >>= row_in) (λ r. where_true (fits columns r) r) row h (λ other at e.
      step (behind (codes "| ") line) row_in other at (λ cells front is.
      let w = where_is (fits columns other) other row e in
      let r = row_is cells other is in
      let text : row_line other ≡ line = row_words (codes "|") other cells r ∙ sym (behind_is (codes "| ") line cells front) in
      ap (λ (l : List ℕ). row_at columns (l ++ 10 ∷ [])) (sym text) ∙ row_at_back columns other w.0 ∙ ap Some w.1))

  -- What row a line is with its end and without it are the same, if there is any.
  row-by : (line : List ℕ) (o p : Option (List Cell)) → row_at columns (line ++ 10 ∷ []) ≡ o → row_behind columns line ≡ p → o ≡ p
  row-by line None None is be = refl
  row-by line None (Some row) is be = sym is ∙ row-of-line line row be
  row-by line (Some row) p is be =
      let at = row_at_is columns (line ++ 10 ∷ []) row is in
      let same : row_line row ≡ line = ends-alike (row_line row) line at.0 in
      sym (behind-row row (row_fits columns row some at.1) at.1) ∙ ap (row_behind columns) same ∙ be

  -- the row of a line with its end
  pub row-line : (line : List ℕ) → row_at columns (line ++ 10 ∷ []) ≡ row_behind columns line
  row-line line = row-by line (row_at columns (line ++ 10 ∷ [])) (row_behind columns line) refl refl

  -- A line in which no byte is an end does not end with one.
  no-ends : (line : List ℕ) → list_all (λ byte. not (byte == 10)) line ≡ true → (xs : List ℕ) → xs ++ 10 ∷ [] ≡ line → ⊥
  no-ends [] whole [] e = (let n : ⊥ = cc in n)
  no-ends [] whole (x ∷ xs) e = (let n : ⊥ = cc in n)
  no-ends (byte ∷ line) whole [] e =
      let same : 10 ≡ byte = cc in
      never (sym (ap not (eq-eqb byte 10 (sym same))) ∙ (and_parts (not (byte == 10)) (list_all (λ b. not (b == 10)) line) whole).0)
  no-ends (byte ∷ line) whole (x ∷ xs) e = no-ends line (and_parts (not (byte == 10)) (list_all (λ b. not (b == 10)) line) whole).1 xs (let r : xs ++ 10 ∷ [] ≡ line = cc in r)

  -- a line without an end is no row
  pub no-row : (line : List ℕ) → list_all (λ byte. not (byte == 10)) line ≡ true → row_at columns line ≡ None
  no-row line whole = by (row_at columns line) refl
    where
      by : (o : Option (List Cell)) → row_at columns line ≡ o → o ≡ None
      by None is = refl
      by (Some row) is = absurd (no-ends line whole (row_line row) (row_at_is columns line row is).0)

-- ---- how far the rows were read

-- so many rows were read, and what is behind them is read on above the last key
pub record Walked (columns : List Column) (count : ℕ) (lines : List ℕ) (rows : ℕ) (below : Option ℤ) (rest : List ℕ) : Type 0 where
  pub done : List (List Cell)
  pub counted : length done ≡ rows
  pub within : rows ≤ count
  pub text : lines ≡ lines_text (map row_line done) ++ rest
  pub fit : list_all (fits columns) done ≡ true
  pub on : rows_above columns None (take count (lines_of lines)) ≡ done ++ rows_above columns below (take (count - rows) (lines_of rest))

-- nothing more is read
walk-ends : (columns : List Column) (count : ℕ) (lines : List ℕ) (rows : ℕ) (below : Option ℤ) (rest : List ℕ) → Walked columns count lines rows below rest
    → rows_above columns below (take (count - rows) (lines_of rest)) ≡ [] → AreAbove columns count lines rows rest
walk-ends columns count lines rows below rest w none = record {
  rows = w.done;
  are = w.on ∙ ap (λ (more : List (List Cell)). w.done ++ more) none ∙ append-nil w.done;
  counted = w.counted;
  text = w.text;
  fit = w.fit;
}

-- Where the first line is no row, no rows are read.
above-none : (columns : List Column) (below : Option ℤ) (line : List ℕ) (lines : List (List ℕ)) → row_at columns line ≡ None → rows_above columns below (line ∷ lines) ≡ []
above-none columns below line lines is =
    ap (λ (x : Option (List Cell)). elim x as (λ y. List (List Cell)) [ Some row ↦ cond (option_map_or (λ b. int_lt b (key_of row)) below true) (row ∷ rows_above columns (Some (key_of row)) lines) [] | None ↦ [] ]) is

-- Where the first line is a row, it and those behind are read if its key is above.
above-some : (columns : List Column) (below : Option ℤ) (line : List ℕ) (lines : List (List ℕ)) (row : List Cell) (b : Bool) → row_at columns line ≡ Some row → option_map_or (λ last. int_lt last (key_of row)) below true ≡ b
    → rows_above columns below (line ∷ lines) ≡ cond b (row ∷ rows_above columns (Some (key_of row)) lines) []
above-some columns below line lines row b is rises =
    ap (λ (x : Option (List Cell)). elim x as (λ y. List (List Cell)) [ Some r ↦ cond (option_map_or (λ last. int_lt last (key_of r)) below true) (r ∷ rows_above columns (Some (key_of r)) lines) [] | None ↦ [] ]) is
    ∙ ap (λ (c : Bool). cond c (row ∷ rows_above columns (Some (key_of row)) lines) []) rises

-- Where the first line is no row, none of the first so many lines is read.
take-none : (columns : List Column) (below : Option ℤ) (n : ℕ) (line : List ℕ) (lines : List (List ℕ)) → row_at columns line ≡ None → rows_above columns below (take n (line ∷ lines)) ≡ []
take-none columns below zero line lines is = refl
take-none columns below (suc n) line lines is = above-none columns below line (take n lines) is

module _ (columns : List Column) (some : 0 < length columns) (count : ℕ) (lines : List ℕ) (rows : ℕ) (below : Option ℤ) (rest : List ℕ) (w : Walked columns count lines rows below rest) where
  -- what is left has no end
  pub walk-endless : list_all (λ byte. not (byte == 10)) rest ≡ true → (lines_of rest ≡ []) ⊎ (lines_of rest ≡ rest ∷ []) → AreAbove columns count lines rows rest
  walk-endless whole (inl none) =
      walk-ends columns count lines rows below rest w (ap (λ (ls : List (List ℕ)). rows_above columns below (take (count - rows) ls)) none ∙ empty (count - rows))
    where
      empty : (n : ℕ) → rows_above columns below (take n []) ≡ []
      empty zero = refl
      empty (suc n) = refl
  walk-endless whole (inr one) =
      walk-ends columns count lines rows below rest w
      (ap (λ (ls : List (List ℕ)). rows_above columns below (take (count - rows) ls)) one ∙ take-none columns below (count - rows) rest [] (no-row columns some rest whole))

  module _ (line others : List ℕ) (is : rest ≡ line ++ 10 ∷ others) (whole : list_all (λ byte. not (byte == 10)) line ≡ true) where
    rest-lines : lines_of rest ≡ (line ++ 10 ∷ []) ∷ lines_of others
    rest-lines = first-line rest line others is whole

    -- the next line is no row
    pub walk-stops : row_behind columns line ≡ None → AreAbove columns count lines rows rest
    walk-stops none =
        walk-ends columns count lines rows below rest w
        (ap (λ (ls : List (List ℕ)). rows_above columns below (take (count - rows) ls)) rest-lines
        ∙ take-none columns below (count - rows) (line ++ 10 ∷ []) (lines_of others) (row-line columns some line ∙ none))

    -- or one whose key does not rise
    pub walk-falls : (row : List Cell) → row_behind columns line ≡ Some row → option_map_or (λ last. int_lt last (key_of row)) below true ≡ false → AreAbove columns count lines rows rest
    walk-falls row at falls =
        walk-ends columns count lines rows below rest w
        (ap (λ (ls : List (List ℕ)). rows_above columns below (take (count - rows) ls)) rest-lines ∙ fallen (count - rows))
      where
        fallen : (n : ℕ) → rows_above columns below (take n ((line ++ 10 ∷ []) ∷ lines_of others)) ≡ []
        fallen zero = refl
        fallen (suc n) = above-some columns below (line ++ 10 ∷ []) (take n (lines_of others)) row false (row-line columns some line ∙ at) falls

    -- a line that is a row with a key above the last is one row more
    pub walk-on : (row : List Cell) → row_behind columns line ≡ Some row → option_map_or (λ last. int_lt last (key_of row)) below true ≡ true → rows < count
        → Walked columns count lines (rows + 1) (Some (key_of row)) others
    walk-on row at rises few =
        let row_is : row_at columns (line ++ 10 ∷ []) ≡ Some row = row-line columns some line ∙ at in
        let text = row_at_is columns (line ++ 10 ∷ []) row row_is in
        let same : row_line row ++ 10 ∷ others ≡ rest = sym (append_assoc (row_line row) (10 ∷ []) others) ∙ ap (λ (l : List ℕ). l ++ others) text.0 ∙ append_assoc line (10 ∷ []) others ∙ sym is in
        record {
          done = w.done ++ row ∷ [];
          counted = length_push w.done row ∙ (let e = w.counted in let m : length w.done + 1 ≡ rows + 1 = omega (arith, e) in m);
          within = omega (arith, few);
          text = w.text ∙ ap (λ (t : List ℕ). lines_text (map row_line w.done) ++ t) (sym same) ∙ pushed w.done row others;
          fit = list_all-append (fits columns) w.done (row ∷ []) ∙ and_from (list_all (fits columns) w.done) (fits columns row && true) w.fit (and_from (fits columns row) true text.1 refl);
          on = w.on
              ∙ ap (λ (ls : List (List ℕ)). w.done ++ rows_above columns below (take (count - rows) ls)) rest-lines
              ∙ ap (λ (n : ℕ). w.done ++ rows_above columns below (take n ((line ++ 10 ∷ []) ∷ lines_of others))) (let e : count - rows ≡ suc (count - (rows + 1)) = omega (arith, few) in e)
              ∙ ap (λ (more : List (List Cell)). w.done ++ more) (above-some columns below (line ++ 10 ∷ []) (take (count - (rows + 1)) (lines_of others)) row true row_is rises)
              ∙ sym (append_assoc w.done (row ∷ []) (rows_above columns (Some (key_of row)) (take (count - (rows + 1)) (lines_of others))));
        }
      where
        pushed : (done : List (List Cell)) (row : List Cell) (others : List ℕ) → lines_text (map row_line done) ++ (row_line row ++ 10 ∷ others) ≡ lines_text (map row_line (done ++ row ∷ [])) ++ others
        pushed [] row others = sym (append_assoc (row_line row ++ 10 ∷ []) [] others ∙ append_assoc (row_line row) (10 ∷ []) others)
        pushed (first ∷ done) row others =
            append_assoc (row_line first ++ 10 ∷ []) (lines_text (map row_line done)) (row_line row ++ 10 ∷ others)
            ∙ ap (λ (t : List ℕ). (row_line first ++ 10 ∷ []) ++ t) (pushed done row others)
            ∙ sym (append_assoc (row_line first ++ 10 ∷ []) (lines_text (map row_line (done ++ row ∷ []))) others)

    -- by what is read of the line
    key-cases : (key : Option ℤ) → key ≡ key_above columns below line → rows < count
        → (key ≡ None → AreAbove columns count lines rows rest) × ((found : ℤ) → key ≡ Some found → Walked columns count lines (rows + 1) (Some found) others)
    key-cases key is few = by (row_behind columns line) refl
      where
        rising : (row : List Cell) → row_behind columns line ≡ Some row → (b : Bool) → option_map_or (λ last. int_lt last (key_of row)) below true ≡ b → key ≡ where_true b (key_of row)
            → (key ≡ None → AreAbove columns count lines rows rest) × ((found : ℤ) → key ≡ Some found → Walked columns count lines (rows + 1) (Some found) others)
        rising row at true rises e = (
          λ none. absurd (let m : where_true true (key_of row) ≡ None = sym e ∙ none in let n : ⊥ = cc in n),
          λ found is_found. subst (λ (z : ℤ). Walked columns count lines (rows + 1) (Some z) others) (let m : where_true true (key_of row) ≡ Some found = sym e ∙ is_found in let k : key_of row ≡ found = cc in k) (walk-on row at rises few),
        )
        rising row at false rises e = (
          λ none. walk-falls row at rises,
          λ found is_found. absurd (let m : where_true false (key_of row) ≡ Some found = sym e ∙ is_found in let n : ⊥ = cc in n),
        )

        by : (o : Option (List Cell)) → row_behind columns line ≡ o → (key ≡ None → AreAbove columns count lines rows rest) × ((found : ℤ) → key ≡ Some found → Walked columns count lines (rows + 1) (Some found) others)
        by None at = (
          λ none. walk-stops at,
          λ found is_found. absurd (let m : key ≡ None = is ∙ ap (λ (o : Option (List Cell)). o >>= λ row. where_true (option_map_or (λ last. int_lt last (key_of row)) below true) (key_of row)) at in let n : ⊥ = cc in n),
        )
        by (Some row) at =
            rising row at (option_map_or (λ last. int_lt last (key_of row)) below true) refl
            (is ∙ ap (λ (o : Option (List Cell)). o >>= λ r. where_true (option_map_or (λ last. int_lt last (key_of r)) below true) (key_of r)) at)

    -- a line without a key above the last ends the rows
    pub key-none : None ≡ key_above columns below line → rows < count → AreAbove columns count lines rows rest
    key-none is few = (key-cases None is few).0 refl

    -- a line with a key above the last is one row more, and that key is the last
    pub key-some : (key : ℤ) → Some key ≡ key_above columns below line → rows < count → Walked columns count lines (rows + 1) (Some key) others
    key-some key is few = (key-cases (Some key) is few).1 key refl

    -- where the line has no key above the last, as an option tells, the rows end
    pub key-lacks : (key : Option ℤ) → key ≡ key_above columns below line → is_some key ≡ false → rows < count → AreAbove columns count lines rows rest
    key-lacks None is none few = key-none is few
    key-lacks (Some key) is none few = absurd (never (sym none))

    -- where the line has a key above the last, as an option tells, it is one row more
    pub key-kept : (key : Option ℤ) → key ≡ key_above columns below line → is_some key ≡ true → rows < count → Walked columns count lines (rows + 1) key others
    key-kept None is some few = absurd (never some)
    key-kept (Some key) is some few = key-some key is few

-- The text of rows has at least as many bytes as there are rows.
text-long : (rows : List (List Cell)) → length rows ≤ length (lines_text (map row_line rows))
text-long [] = omega arith
text-long (row ∷ rows) =
    let a = length-append (row_line row ++ 10 ∷ []) (lines_text (map row_line rows)) in
    let b = length_push (row_line row) 10 in
    let d = text-long rows in
    omega (arith, a, b, d)

-- each row has a byte at least
pub above-short : (columns : List Column) (count : ℕ) (lines : List ℕ) (many : ℕ) (rest : List ℕ) → AreAbove columns count lines many rest → many + length rest ≤ length lines
above-short columns count lines many rest above =
    let a = ap (λ (t : List ℕ). length t) above.text in
    let b = length-append (lines_text (map row_line above.rows)) rest in
    let d = text-long above.rows in
    let e = above.counted in
    omega (arith, a, b, d, e)
