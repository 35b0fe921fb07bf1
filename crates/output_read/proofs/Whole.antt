-- An output read from its start to its end.
use Rattle.std.proofs.Common.{◌≡◌, refl, sym, ap, ◌∙◌, ℕ, List, [], ◌∷◌, Ok, Err, Bool, true, false, length, arith}
use Rattle.std.specs.Prelude.{◌==◌, ◌++◌, if◌then◌else◌}
use Rattle.std.proofs.Common.{append-nil}
use Rattle.cell_model.specs.declared.table.TableDecl.{TableDecl}
use Rattle.workload_spec.specs.declared.script.Script.{Script}
use Rattle.workload_spec.specs.Reading.{onto_first}
use Rattle.outcome_spec.specs.Entries.{Entry}
use Rattle.outcome_spec.specs.Explained.{replies_of}
use Rattle.outcome_spec.specs.Forms.{Due, dues_of, next_line, reading}
use Rattle.outcome_spec.specs.Lines.{lines_of}
use Rattle.output_read.specs.declared.reader.Reader.{Reader}
use Rattle.output_read.specs.Readers.{FailsAt, IsReading, Passes, lines_left, read_by, reads}

-- a byte begins a line
begun : (byte : ℕ) (lines : List (List ℕ)) (tables : List TableDecl) (earlier : List Entry) (b : Bool) → (byte == 10) ≡ b → reading tables [] earlier (Rattle.outcome_spec.specs.Lines.with_byte byte lines) ≡ Err (next_line tables earlier)
begun byte lines tables earlier true e = ap (λ (c : Bool). reading tables [] earlier (if c then (byte ∷ []) ∷ lines else onto_first byte lines)) e
begun byte [] tables earlier false e = ap (λ (c : Bool). reading tables [] earlier (if c then (byte ∷ []) ∷ [] else onto_first byte [])) e
begun byte (line ∷ lines) tables earlier false e = ap (λ (c : Bool). reading tables [] earlier (if c then (byte ∷ []) ∷ line ∷ lines else onto_first byte (line ∷ lines))) e

-- Where nothing is due, a text that is not empty fails at the next line.
left-over : (text : List ℕ) (tables : List TableDecl) (earlier : List Entry) → (length text ≡ 0 → ⊥) → reading tables [] earlier (lines_of text) ≡ Err (next_line tables earlier)
left-over [] tables earlier some = absurd (some refl)
left-over (byte ∷ text) tables earlier some = begun byte (lines_of text) tables earlier (byte == 10) refl

-- Where nothing is due and no text is left, the replies are those that were read.
none-left : (text : List ℕ) (tables : List TableDecl) (earlier : List Entry) → length text ≡ 0 → reading tables [] earlier (lines_of text) ≡ Ok earlier
none-left [] tables earlier none = refl
none-left (byte ∷ text) tables earlier none = absurd (omega (arith, none))

module _ (script : Script) (old : Reader) (tables_are : old.tables.now ≡ script.tables) (none : read_by old ≡ []) where
  -- The replies of a text are what all that is due reads from the start on.
  from-start : replies_of script old.rest.now ≡ reads old (dues_of script ++ [])
  from-start =
      ap (λ (earlier : List Entry). reading script.tables (dues_of script) earlier (lines_left old)) (sym none)
      ∙ ap (λ (tables : List TableDecl). reading tables (dues_of script) (read_by old) (lines_left old)) (sym tables_are)
      ∙ ap (λ (dues : List Due). reads old dues) (sym (append-nil (dues_of script)))

  -- the output fails at the line at which its dues do
  pub whole-failed : (line : ℕ) → FailsAt old (dues_of script) line → replies_of script old.rest.now ≡ Err line
  whole-failed line fails = from-start ∙ fails [] refl

  module _ (new : Reader) (passes : Passes old new (dues_of script)) where
    -- where all dues passed and nothing is left, the output is the replies that were read
    pub whole-read : length new.rest.now ≡ 0 → replies_of script old.rest.now ≡ Ok (read_by new)
    whole-read empty = from-start ∙ passes [] refl ∙ none-left new.rest.now new.tables.now (read_by new) empty

    -- where all dues passed and something is left, the output fails at that line
    pub whole-left : IsReading new → (length new.rest.now ≡ 0 → ⊥) → replies_of script old.rest.now ≡ Err new.line
    whole-left reading_is some = from-start ∙ passes [] refl ∙ left-over new.rest.now new.tables.now (read_by new) some ∙ ap (λ (n : ℕ). Err n) (sym reading_is.line)
