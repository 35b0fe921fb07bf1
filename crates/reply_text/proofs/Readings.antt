-- What is read of bytes is a reply with this text.
use Rattle.std.proofs.Common.{◌≡◌, ℕ, Bool, true, false, List, [], ◌∷◌, ◌++◌, length, map, refl, sym, ap, ◌∙◌, subst, append_assoc, append-nil}
use Rattle.std.specs.Prelude.{◌==◌, Option, Some, None, option_map, bytes_eq, codes, decimal, if◌then◌else◌}
use Rattle.std.specs.List.{list_all, join_with_byte}
use Rattle.std.proofs.lemmas.Bool.{eqb-true}
use Rattle.cell_model.specs.declared.cell.Cell.{Cell}
use Rattle.cell_model.specs.declared.table.TableDecl.{TableDecl}
use Rattle.workload_spec.specs.declared.reply.ReplyLine.{ReplyLine}
use Rattle.workload_spec.specs.declared.reply.Who.{Who}
use Rattle.workload_spec.specs.declared.reply.Who.TheVariants.{Session, Worker}
use Rattle.workload_spec.specs.declared.reply.Said.{Said}
use Rattle.workload_spec.specs.declared.reply.Said.TheVariants as said
use Rattle.workload_spec.specs.Words.{spaced, lines_text, line_feed}
use Rattle.workload_spec.specs.Reading.{parts}
use Rattle.workload_spec.specs.ReplyText.{said_words, lines_behind, row_line, who_text, reply_text}
use Rattle.workload_laws.proofs.Lists.{joined}
use Rattle.workload_laws.proofs.Results.{eq_of}
use Rattle.workload_laws.proofs.Parts.{parts_joined}
use Rattle.reply_text.specs.Shown.{is_u32, is_u64, is_row, is_said, is_who, is_reply}
use Rattle.reply_text.specs.Readers.{◌>>=◌, behind, cut, u64_in, u32_in, row_in, rows_in, said_in, scanned_in, told_in, who_in, Heading, head_in, reply_in}
use Rattle.reply_text.proofs.PieceLemmas.{step, mapped, where_is, behind_is, cut_is}
use Rattle.reply_text.proofs.Spelled.{u64_is, u32_is}
use Rattle.reply_text.proofs.SaidSound.{said_is, row_is, row_words}

-- Rows.

-- Lines that are joined by line feeds, with an empty one behind, are their text.
joined_lines : (lines : List (List ℕ)) → join_with_byte line_feed (lines ++ [] ∷ []) ≡ lines_text lines
joined_lines [] = refl
joined_lines (line ∷ []) = sym (append-nil (line ++ line_feed ∷ []))
joined_lines (line ∷ next ∷ lines) = ap (λ (rest : List ℕ). line ++ line_feed ∷ rest) (joined_lines (next ∷ lines)) ∙ sym (append_assoc line (line_feed ∷ []) (lines_text (next ∷ lines)))

record AreRows (lines : List (List ℕ)) (rows : List (List Cell)) : Type 0 where
  fit : list_all is_row rows ≡ true
  text : lines ≡ map row_line rows ++ [] ∷ []

-- A line that is read as a row is the row's, and those behind it are the other rows'.
row_at : (line : List ℕ) (rest : List (List ℕ)) (rows : List (List Cell)) → ((more : List (List Cell)) → rows_in rest ≡ Some more → AreRows rest more)
    → (behind (codes "| ") line >>= row_in >>= λ row. rows_in rest >>= λ more. Some (row ∷ more)) ≡ Some rows → AreRows (line ∷ rest) rows
row_at line rest rows later e =
    step (behind (codes "| ") line >>= row_in) _ rows e (λ row at e1.
    step (behind (codes "| ") line) row_in row at (λ cells bar read.
    step (rows_in rest) _ rows e1 (λ more others e2.
    let same : row ∷ more ≡ rows = cc in
    let r = row_is cells row read in
    let m = later more others in
    let text : line ≡ row_line row = behind_is (codes "| ") line cells bar ∙ sym (row_words (codes "|") row cells r) in
    subst (AreRows (line ∷ rest)) same (record { fit = joined r.fits m.fit; text = ap (λ (l : List ℕ). l ∷ rest) text ∙ ap (λ (ls : List (List ℕ)). row_line row ∷ ls) m.text }))))

-- Lines that are read as rows are the lines of these rows.
rows_are : (lines : List (List ℕ)) (rows : List (List Cell)) → rows_in lines ≡ Some rows → AreRows lines rows
rows_are [] rows e = absurd cc
rows_are ([] ∷ []) rows e = let same : [] ≡ rows = cc in subst (AreRows ([] ∷ [])) same (record { fit = refl; text = refl })
rows_are ((byte ∷ bytes) ∷ []) rows e = absurd cc
rows_are ([] ∷ next ∷ rest) rows e = row_at [] (next ∷ rest) rows (λ more f. rows_are (next ∷ rest) more f) e
rows_are ((byte ∷ bytes) ∷ next ∷ rest) rows e = row_at (byte ∷ bytes) (next ∷ rest) rows (λ more f. rows_are (next ∷ rest) more f) e

-- What a reply says.

record IsTold (tables : List TableDecl) (told : Said) (words others : List ℕ) : Type 0 where
  fits : is_said tables told ≡ true
  text : spaced (said_words tables told) ≡ words
  lines : lines_text (lines_behind told) ≡ others

-- What is read of a scan's words and lines says them, and fits.
scanned_is : (tables : List TableDecl) (word others words : List ℕ) (told : Said) → words ≡ codes "rows " ++ word → scanned_in word others ≡ Some told → IsTold tables told words others
scanned_is tables word others words told at e =
    step (u64_in word) _ told e (λ count counted e1.
    step (rows_in (parts line_feed others)) _ told e1 (λ rows read e2.
    let w = where_is (length rows == count) (said.Scanned rows) told e2 in
    let n = u64_is word count counted in
    let r = rows_are (parts line_feed others) rows read in
    let many : length rows ≡ count = eqb-true (length rows) count w.0 in
    subst (λ (t : Said). IsTold tables t words others) w.1 (record {
      fits = joined (ap is_u64 many ∙ n.fits) r.fit;
      text = ap (λ (k : ℕ). codes "rows " ++ decimal k) many ∙ ap (λ (d : List ℕ). codes "rows " ++ d) n.text ∙ sym at;
      lines = sym (joined_lines (map row_line rows)) ∙ ap (join_with_byte line_feed) (sym r.text) ∙ parts_joined line_feed others;
    })))

-- What is read of words without lines behind them says them, and fits.
alone_is : (tables : List TableDecl) (words others : List ℕ) (told : Said) (last : Bool) → bytes_eq others [] ≡ last → (if last then said_in tables words else None) ≡ Some told → IsTold tables told words others
alone_is tables words others told true is e =
    let t = said_is tables words told e in
    record { fits = t.fits; text = t.text; lines = ap lines_text t.alone ∙ sym (eq_of others [] is) }
alone_is tables words others told false is e = absurd cc

-- What is read of words says them, by whether they begin as a scan's do.
told_by : (tables : List TableDecl) (words others : List ℕ) (told : Said) (o : Option (List ℕ)) → behind (codes "rows ") words ≡ o
    → elim o [ Some word ↦ scanned_in word others | None ↦ if bytes_eq others [] then said_in tables words else None ] ≡ Some told → IsTold tables told words others
told_by tables words others told (Some word) at e = scanned_is tables word others words told (behind_is (codes "rows ") words word at) e
told_by tables words others told None at e = alone_is tables words others told (bytes_eq others []) refl e

-- What is read of words and the lines behind them says them, and fits.
told_is : (tables : List TableDecl) (words others : List ℕ) (told : Said) → told_in tables words others ≡ Some told → IsTold tables told words others
told_is tables words others told e = told_by tables words others told (behind (codes "rows ") words) refl e

-- What stands before it.

-- Whom a word names has this word as text, by whether it begins with the mark of a worker.
who_by : (word : List ℕ) (who : Who) (o : Option (List ℕ)) → behind (codes "w") word ≡ o → elim o [ Some digits ↦ option_map Worker (u32_in digits) | None ↦ option_map Session (u32_in word) ] ≡ Some who → (who_text who ≡ word) × (is_who who ≡ true)
who_by word who (Some digits) at e = mapped Worker (u32_in digits) who e (λ n read same.
    let u = u32_is digits n read in
    (ap who_text (sym same) ∙ ap (λ (d : List ℕ). codes "w" ++ d) u.text ∙ sym (behind_is (codes "w") word digits at), ap is_who (sym same) ∙ u.fits))
who_by word who None at e = mapped Session (u32_in word) who e (λ n read same.
    let u = u32_is word n read in
    (ap who_text (sym same) ∙ u.text, ap is_who (sym same) ∙ u.fits))

pub record IsHead (line : List ℕ) (head : Heading) : Type 0 where
  pub round : is_u32 head.round ≡ true
  pub who : is_who head.who ≡ true
  pub index : is_u64 head.index ≡ true
  pub text : line ≡ decimal head.round ++ 32 ∷ (who_text head.who ++ 32 ∷ (decimal head.index ++ 32 ∷ head.words))

-- a head that is read is its text
pub head_is : (line : List ℕ) (head : Heading) → head_in line ≡ Some head → IsHead line head
head_is line head e =
    step (cut 32 line) _ head e (λ first c1 e1.
    step (u32_in first.0) _ head e1 (λ round n1 e2.
    step (cut 32 first.1) _ head e2 (λ second c2 e3.
    step (who_in second.0) _ head e3 (λ who n2 e4.
    step (cut 32 second.1) _ head e4 (λ third c3 e5.
    step (u64_in third.0) _ head e5 (λ index n3 e6.
    let made : Heading = record { round = round; who = who; index = index; words = third.1 } in
    let same : made ≡ head = cc in
    let a = u32_is first.0 round n1 in
    let b = who_by second.0 who (behind (codes "w") second.0) refl n2 in
    let c = u64_is third.0 index n3 in
    let ending : second.1 ≡ decimal index ++ 32 ∷ third.1 = cut_is 32 second.1 third c3 ∙ ap (λ (w : List ℕ). w ++ 32 ∷ third.1) (sym c.text) in
    let middle : first.1 ≡ who_text who ++ 32 ∷ (decimal index ++ 32 ∷ third.1) = cut_is 32 first.1 second c2 ∙ ap (λ (w : List ℕ). w ++ 32 ∷ second.1) (sym b.0) ∙ ap (λ (w : List ℕ). who_text who ++ 32 ∷ w) ending in
    subst (IsHead line) same (record {
      round = a.fits;
      who = b.1;
      index = c.fits;
      text = cut_is 32 line first c1 ∙ ap (λ (w : List ℕ). w ++ 32 ∷ first.1) (sym a.text) ∙ ap (λ (w : List ℕ). decimal round ++ 32 ∷ w) middle;
    })))))))

-- a reply has words
pub record SomeWords (words : List (List ℕ)) : Type 0 where
  pub first : List ℕ
  pub others : List (List ℕ)
  pub is : words ≡ first ∷ others

-- what is said has a word at least
pub said_some : (tables : List TableDecl) (told : Said) → SomeWords (said_words tables told)
said_some tables (said.At number) = record { first = _; others = _; is = refl }
said_some tables said.InTransaction = record { first = _; others = _; is = refl }
said_some tables said.NoTransaction = record { first = _; others = _; is = refl }
said_some tables (said.Found row) = record { first = _; others = _; is = refl }
said_some tables said.Absent = record { first = _; others = _; is = refl }
said_some tables (said.Scanned rows) = record { first = _; others = _; is = refl }
said_some tables (said.Totalled count sum) = record { first = _; others = _; is = refl }
said_some tables said.Accepted = record { first = _; others = _; is = refl }
said_some tables (said.ConflictSession session) = record { first = _; others = _; is = refl }
said_some tables (said.ConflictCommit number) = record { first = _; others = _; is = refl }
said_some tables said.Exists = record { first = _; others = _; is = refl }
said_some tables said.Missing = record { first = _; others = _; is = refl }
said_some tables said.Full = record { first = _; others = _; is = refl }
said_some tables (said.Freezing table block stamp) = record { first = _; others = _; is = refl }
said_some tables (said.Committed None) = record { first = _; others = _; is = refl }
said_some tables (said.Committed (Some number)) = record { first = _; others = _; is = refl }
said_some tables (said.Stale read number) = record { first = _; others = _; is = refl }
said_some tables said.Aborted = record { first = _; others = _; is = refl }
said_some tables (said.Cooling count) = record { first = _; others = _; is = refl }
said_some tables (said.Pruned count) = record { first = _; others = _; is = refl }
said_some tables (said.Moved count) = record { first = _; others = _; is = refl }
said_some tables (said.Sealed table block stamp) = record { first = _; others = _; is = refl }
said_some tables (said.NotSealed cause) = record { first = _; others = _; is = refl }
said_some tables (said.Frozen table block rows) = record { first = _; others = _; is = refl }
said_some tables said.NotFrozen = record { first = _; others = _; is = refl }
said_some tables (said.Exported number rows batches frozen) = record { first = _; others = _; is = refl }
said_some tables (said.Dirty key) = record { first = _; others = _; is = refl }
said_some tables said.Memory = record { first = _; others = _; is = refl }

-- a line is its head and its words, with a space between each two
pub words_spaced : (round who index : List ℕ) (words : List (List ℕ)) → SomeWords words → spaced (round ∷ who ∷ index ∷ words) ≡ round ++ 32 ∷ (who ++ 32 ∷ (index ++ 32 ∷ spaced words))
words_spaced round who index words some =
    ap (λ (ws : List (List ℕ)). spaced (round ∷ who ∷ index ∷ ws)) some.is ∙ ap (λ (ws : List (List ℕ)). round ++ 32 ∷ (who ++ 32 ∷ (index ++ 32 ∷ spaced ws))) (sym some.is)

-- a reply that is read is one over the tables, and the bytes are its text
pub reply_is : (tables : List TableDecl) (bytes : List ℕ) (reply : ReplyLine) → reply_in tables bytes ≡ Some reply → (is_reply tables reply ≡ true) × (reply_text tables reply ≡ bytes)
reply_is tables bytes reply e =
    step (cut 10 bytes) _ reply e (λ lines c1 e1.
    step (head_in lines.0) _ reply e1 (λ head h e2.
    step (told_in tables head.words lines.1) _ reply e2 (λ told t e3.
    let made : ReplyLine = record { round = head.round; who = head.who; index = head.index; said = told } in
    let same : made ≡ reply = cc in
    let i = head_is lines.0 head h in
    let s = told_is tables head.words lines.1 told t in
    let first : spaced (decimal head.round ∷ who_text head.who ∷ decimal head.index ∷ said_words tables told) ≡ lines.0 =
    words_spaced (decimal head.round) (who_text head.who) (decimal head.index) (said_words tables told) (said_some tables told)
    ∙ ap (λ (w : List ℕ). decimal head.round ++ 32 ∷ (who_text head.who ++ 32 ∷ (decimal head.index ++ 32 ∷ w))) s.text ∙ sym i.text in
    let text : reply_text tables made ≡ bytes =
    append_assoc (spaced (decimal head.round ∷ who_text head.who ∷ decimal head.index ∷ said_words tables told)) (10 ∷ []) (lines_text (lines_behind told))
    ∙ ap (λ (w : List ℕ). w ++ 10 ∷ lines_text (lines_behind told)) first ∙ ap (λ (w : List ℕ). lines.0 ++ 10 ∷ w) s.lines ∙ sym (cut_is 10 bytes lines c1) in
    (ap (is_reply tables) (sym same) ∙ joined (joined (joined i.round i.who) i.index) s.fits, ap (reply_text tables) (sym same) ∙ text))))
