-- The first line of a text, and what it says.
use Rattle.std.proofs.Common.{◌≡◌, ℕ, Bool, true, false, cond, ◌&&◌, not, List, [], ◌∷◌, ◌++◌, length, Option, None, Some, refl, sym, ap, ◌∙◌, ◌⊎◌, inl, inr}
use Rattle.std.specs.Prelude.{◌==◌, bytes_eq, codes, option_map, if◌then◌else◌}
use Rattle.std.specs.List.{list_all}
use Rattle.std.proofs.lemmas.Bool.{and_parts, and_from, eqb-true}
use Rattle.cell_model.specs.declared.table.TableDecl.{TableDecl}
use Rattle.workload_spec.specs.declared.reply.Who.{Who}
use Rattle.workload_spec.specs.declared.reply.Said.{Said}
use Rattle.workload_spec.specs.declared.reply.Said.TheVariants as said
use Rattle.workload_spec.specs.Reading.{parts, parted, onto_first}
use Rattle.workload_spec.specs.Words.{line_feed, spaced, cell_words}
use Rattle.outcome_spec.specs.Entries.{is_same}
use Rattle.outcome_spec.specs.Lines.{lines_of}
use Rattle.reply_text.specs.Readers.{◌>>=◌, where_true, behind, cut, u64_in, Heading, head_in, row_in, told_in, said_in, scanned_in}
use Rattle.reply_text.proofs.PieceLemmas.{step, where_is, cut_back}
use Rattle.reply_text.proofs.RowsBack.{row_back}
use Rattle.reply_text.proofs.SaidSound.{said_is}
use Rattle.timeline_laws.proofs.ReadLines.{lines_behind_first}
use Rattle.output_read.specs.Fronts.{IsSaidBy, has_head, said_at, words_at, words_behind, said_first, words_first}
use Rattle.output_read.proofs.Fitting.{never}

-- the first line, and what stands behind it
pub first-line : (text line rest : List ℕ) → text ≡ line ++ 10 ∷ rest → list_all (λ byte. not (byte == 10)) line ≡ true → lines_of text ≡ (line ++ 10 ∷ []) ∷ lines_of rest
first-line text line rest is whole = ap lines_of is ∙ lines_behind_first line rest whole

module _ (round : ℕ) (who : Who) (index : ℕ) where
  -- a line with its end says the words that it says without it
  pub words-line : (line : List ℕ) → list_all (λ byte. not (byte == 10)) line ≡ true → words_at round who index (line ++ 10 ∷ []) ≡ words_behind round who index line
  words-line line whole = ap (λ (o : Option (List ℕ × List ℕ)). o >>= λ both. head_in both.0 >>= λ head. where_true (bytes_eq both.1 [] && head.round == round && is_same head.who who && head.index == index) head.words) (cut_back 10 line [] whole)

  -- ---- a line without its end

  -- A text that begins with an end of a line is not one part.
  parts-more : (byte : ℕ) (text : List ℕ) → (byte == 10) ≡ true → parts 10 (byte ∷ text) ≡ (byte ∷ text) ∷ [] → ⊥
  parts-more byte text h is =
      let e : [] ∷ parts 10 text ≡ (byte ∷ text) ∷ [] = sym (ap (λ (b : Bool). parted b byte (parts 10 text)) h) ∙ is in
      (let n : ⊥ = cc in n)

  -- Where one part has a byte in front, it was one part without the byte, or none.
  onto-back : (byte : ℕ) (text : List ℕ) (ps : List (List ℕ)) → onto_first byte ps ≡ (byte ∷ text) ∷ [] → (ps ≡ text ∷ []) ⊎ (ps ≡ [])
  onto-back byte text [] h = inr refl
  onto-back byte text (p ∷ ps) h = inl (let e : p ∷ ps ≡ text ∷ [] = cc in e)

  -- A text has a part at least.
  some-parts : (text : List ℕ) → parts 10 text ≡ [] → ⊥
  some-parts [] h = (let n : ⊥ = cc in n)
  some-parts (byte ∷ text) h = by (byte == 10) (parts 10 text) h
    where
      by : (b : Bool) (ps : List (List ℕ)) → parted b byte ps ≡ [] → ⊥
      by true ps e = (let n : ⊥ = cc in n)
      by false [] e = (let n : ⊥ = cc in n)
      by false (p ∷ ps) e = (let n : ⊥ = cc in n)

  -- no byte ends it
  pub endless : (text : List ℕ) → parts 10 text ≡ text ∷ [] → list_all (λ byte. not (byte == 10)) text ≡ true
  endless [] h = refl
  endless (byte ∷ text) h = by (byte == 10) refl (endless text)
    where
      by : (b : Bool) → (byte == 10) ≡ b → (parts 10 text ≡ text ∷ [] → list_all (λ byte. not (byte == 10)) text ≡ true) → list_all (λ byte. not (byte == 10)) (byte ∷ text) ≡ true
      by true e later = absurd (parts-more byte text e h)
      by false e later =
          let is : onto_first byte (parts 10 text) ≡ (byte ∷ text) ∷ [] = sym (ap (λ (b : Bool). parted b byte (parts 10 text)) e) ∙ h in
          and_from (not (byte == 10)) (list_all (λ b. not (b == 10)) text) (ap not e) (elim (onto-back byte text (parts 10 text) is) [ inl one ↦ later one | inr none ↦ absurd (some-parts text none) ])

  -- A text without an end of a line is not cut.
  no-cut : (text : List ℕ) → list_all (λ byte. not (byte == 10)) text ≡ true → cut 10 text ≡ None
  no-cut [] h = refl
  no-cut (byte ∷ text) h =
      let p = and_parts (not (byte == 10)) (list_all (λ b. not (b == 10)) text) h in
      by (byte == 10) refl p.0 (no-cut text p.1)
    where
      by : (b : Bool) → (byte == 10) ≡ b → not b ≡ true → cut 10 text ≡ None → cond {A = Option (List ℕ × List ℕ)} b (Some ([], text)) (option_map (λ both. (byte ∷ both.0, both.1)) (cut 10 text)) ≡ None
      by true e n later = absurd (never n)
      by false e n later = ap (λ (o : Option (List ℕ × List ℕ)). option_map (λ both. (byte ∷ both.0, both.1)) o) later

  -- a text without an end of a line is one line or none
  pub lines-one : (text : List ℕ) → list_all (λ byte. not (byte == 10)) text ≡ true → (lines_of text ≡ []) ⊎ (lines_of text ≡ text ∷ [])
  lines-one [] h = inl refl
  lines-one (byte ∷ text) h =
      let p = and_parts (not (byte == 10)) (list_all (λ b. not (b == 10)) text) h in
      inr (by (byte == 10) refl p.0 (lines-one text p.1))
    where
      onto : (o : (lines_of text ≡ []) ⊎ (lines_of text ≡ text ∷ [])) → (text ≡ [] → ⊥) ⊎ (text ≡ []) → onto_first byte (lines_of text) ≡ (byte ∷ text) ∷ []
      onto (inl none) (inr empty) = ap (onto_first byte) none ∙ ap (λ (t : List ℕ). (byte ∷ t) ∷ []) (sym empty)
      onto (inl none) (inl some) = absurd (some (emptied text none))
        where
          emptied : (t : List ℕ) → lines_of t ≡ [] → t ≡ []
          emptied [] e = refl
          emptied (b ∷ t) e = absurd (by_byte (b == 10) (lines_of t) e)
            where
              by_byte : (x : Bool) (ls : List (List ℕ)) → (if x then (b ∷ []) ∷ ls else onto_first b ls) ≡ [] → ⊥
              by_byte true ls k = (let n : ⊥ = cc in n)
              by_byte false [] k = (let n : ⊥ = cc in n)
              by_byte false (l ∷ ls) k = (let n : ⊥ = cc in n)
      onto (inr one) other = ap (onto_first byte) one

      empty-or : (t : List ℕ) → (t ≡ [] → ⊥) ⊎ (t ≡ [])
      empty-or [] = inr refl
      empty-or (b ∷ t) = inl (λ e. let n : ⊥ = cc in n)

      by : (b : Bool) → (byte == 10) ≡ b → not b ≡ true → (lines_of text ≡ []) ⊎ (lines_of text ≡ text ∷ []) → (if b then (byte ∷ []) ∷ lines_of text else onto_first byte (lines_of text)) ≡ (byte ∷ text) ∷ []
      by true e n later = absurd (never n)
      by false e n later = onto later (empty-or text)

  -- a text without an end of a line says no words
  pub no-words : (text : List ℕ) → list_all (λ byte. not (byte == 10)) text ≡ true → words_first round who index (lines_of text) ≡ None
  no-words text h = elim (lines-one text h) [
    | inl none ↦ ap (words_first round who index) none
    | inr one ↦ ap (words_first round who index) one
        ∙ ap (λ (o : Option (List ℕ × List ℕ)). o >>= λ both. head_in both.0 >>= λ head. where_true (bytes_eq both.1 [] && head.round == round && is_same head.who who && head.index == index) head.words) (no-cut text h)
  ]

  -- ---- what it says

  module _ (tables : List TableDecl) where
    told-by : (words : List ℕ) (b : Bool) (o : Option Said) → told_in tables words [] ≡ o → (o >>= λ told. where_true b told) ≡ (where_true b words >>= λ ws. told_in tables ws [])
    told-by words true None is = sym is
    told-by words true (Some told) is = sym is
    told-by words false None is = refl
    told-by words false (Some told) is = refl

    regrouped : (head : Heading) (o : Option Said) → ((o >>= λ told. Some (record { round = head.round; who = head.who; index = head.index; said = told })) >>= λ reply. where_true (has_head round who index reply) reply.said)
        ≡ (o >>= λ told. where_true (head.round == round && is_same head.who who && head.index == index) told)
    regrouped head None = refl
    regrouped head (Some told) = refl

    said-by : (o : Option Heading) → ((o >>= λ head. told_in tables head.words [] >>= λ told. Some (record { round = head.round; who = head.who; index = head.index; said = told }))
        >>= λ reply. where_true (has_head round who index reply) reply.said)
        ≡ ((o >>= λ head. where_true (head.round == round && is_same head.who who && head.index == index) head.words) >>= λ words. told_in tables words [])
    said-by None = refl
    said-by (Some head) =
        regrouped head (told_in tables head.words []) ∙ told-by head.words (head.round == round && is_same head.who who && head.index == index) (told_in tables head.words []) refl

    -- a line with its end
    pub said-line : (line : List ℕ) → list_all (λ byte. not (byte == 10)) line ≡ true → said_at tables round who index (line ++ 10 ∷ []) ≡ (words_behind round who index line >>= λ words. told_in tables words [])
    said-line line whole =
        ap (λ (o : Option (List ℕ × List ℕ)). (o >>= λ lines. head_in lines.0 >>= λ head. told_in tables head.words lines.1 >>= λ told. Some (record { round = head.round; who = head.who; index = head.index; said = told }))
        >>= λ reply. where_true (has_head round who index reply) reply.said) (cut_back 10 line [] whole)
        ∙ said-by (head_in line)

    -- a text without an end of a line says nothing
    pub no-said : (text : List ℕ) → list_all (λ byte. not (byte == 10)) text ≡ true → said_first tables round who index (lines_of text) ≡ None
    no-said text h = elim (lines-one text h) [
      | inl none ↦ ap (said_first tables round who index) none
      | inr one ↦ ap (said_first tables round who index) one
          ∙ ap (λ (o : Option (List ℕ × List ℕ)). (o >>= λ lines. head_in lines.0 >>= λ head. told_in tables head.words lines.1 >>= λ told. Some (record { round = head.round; who = head.who; index = head.index; said = told }))
          >>= λ reply. where_true (has_head round who index reply) reply.said) (no-cut text h)
    ]

    row-by : (words : List ℕ) (row : List _) (o : Option (List ℕ)) → behind (codes "rows ") words ≡ o
        → (elim o as (λ x. Option Said) [ Some word ↦ scanned_in word [] | None ↦ said_in tables words ]) ≡ Some (said.Found row) → (behind (codes "row ") words >>= row_in) ≡ Some row
    row-by words row (Some word) is h =
        step (u64_in word) _ (said.Found row) h (λ count counted e1.
        step (Rattle.reply_text.specs.Readers.rows_in (parts line_feed [])) _ (said.Found row) e1 (λ rows read e2.
        let w = where_is (length rows == count) (said.Scanned rows) (said.Found row) e2 in
        absurd (let e = w.1 in let n : ⊥ = cc in n)))
    row-by words row None is h =
        let t = said_is tables words (said.Found row) h in
        row-from words row t.fits t.text
      where
        row-from : (words : List ℕ) (row : List _) → Rattle.reply_text.specs.Shown.is_row row ≡ true → spaced (codes "row" ∷ cell_words row) ≡ words → (behind (codes "row ") words >>= row_in) ≡ Some row
        row-from words [] fit text = absurd (never fit)
        row-from words (key ∷ cells) fit text = ap (λ (ws : List ℕ). behind (codes "row ") ws >>= row_in) (sym text) ∙ row_back (key ∷ cells) fit

    -- its words are those of a row, where one is said
    pub said-words : (words : List ℕ) (told : Said) → told_in tables words [] ≡ Some told → IsSaidBy words told
    said-words words (said.Found row) h = row-by words row (behind (codes "rows ") words) refl h
    said-words words _ h = tt

    said-from : (text : List ℕ) (line : List ℕ) (rest : List ℕ) → text ≡ line ++ 10 ∷ rest → list_all (λ byte. not (byte == 10)) line ≡ true
        → said_first tables round who index (lines_of text) ≡ (words_first round who index (lines_of text) >>= λ words. told_in tables words [])
    said-from text line rest is whole =
        ap (said_first tables round who index) (first-line text line rest is whole) ∙ said-line line whole
        ∙ ap (λ (o : Option (List ℕ)). o >>= λ words. told_in tables words []) (sym (words-line line whole))
        ∙ ap (λ (ls : List (List ℕ)). words_first round who index ls >>= λ words. told_in tables words []) (sym (first-line text line rest is whole))

    -- a text has a first line with an end, or no end
    pub record Split (text : List ℕ) : Type 0 where
      pub line : List ℕ
      pub rest : List ℕ
      pub is : text ≡ line ++ 10 ∷ rest
      pub whole : list_all (λ byte. not (byte == 10)) line ≡ true

    splits : (text : List ℕ) → Split text ⊎ (list_all (λ byte. not (byte == 10)) text ≡ true)
    splits [] = inr refl
    splits (byte ∷ text) = by (byte == 10) refl (splits text)
      where
        by : (b : Bool) → (byte == 10) ≡ b → Split text ⊎ (list_all (λ byte. not (byte == 10)) text ≡ true) → Split (byte ∷ text) ⊎ (list_all (λ byte. not (byte == 10)) (byte ∷ text) ≡ true)
        by true e later = inl (record { line = []; rest = text; is = ap (λ (b : ℕ). b ∷ text) (eqb-true byte 10 e); whole = refl })
        by false e (inl s) = inl (record { line = byte ∷ s.line; rest = s.rest; is = ap (λ (t : List ℕ). byte ∷ t) s.is; whole = and_from (not (byte == 10)) (list_all (λ b. not (b == 10)) s.line) (ap not e) s.whole })
        by false e (inr none) = inr (and_from (not (byte == 10)) (list_all (λ b. not (b == 10)) text) (ap not e) none)

    -- what the first line of a text says, by its words
    pub said-first : (text : List ℕ) → said_first tables round who index (lines_of text) ≡ (words_first round who index (lines_of text) >>= λ words. told_in tables words [])
    said-first text = elim (splits text) [
      | inl s ↦ said-from text s.line s.rest s.is s.whole
      | inr none ↦ no-said text none ∙ ap (λ (o : Option (List ℕ)). o >>= λ words. told_in tables words []) (sym (no-words text none))
    ]

    -- what the words of the first line say is what that line says
    pub said-some : (text : List ℕ) (words : List ℕ) (o : Option Said) → Some words ≡ words_first round who index (lines_of text) → o ≡ told_in tables words [] → o ≡ said_first tables round who index (lines_of text)
    said-some text words o is told = told ∙ ap (λ (w : Option (List ℕ)). w >>= λ ws. told_in tables ws []) is ∙ sym (said-first text)

    -- where the first line has no words for this reply, it says nothing
    pub said-none : (text : List ℕ) → None ≡ words_first round who index (lines_of text) → None ≡ said_first tables round who index (lines_of text)
    said-none text is = ap (λ (w : Option (List ℕ)). w >>= λ ws. told_in tables ws []) is ∙ sym (said-first text)
