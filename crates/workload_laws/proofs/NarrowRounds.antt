-- Commands, lines and rounds within an extent.
use Rattle.std.proofs.Common.{◌≡◌, ℕ, ◌+◌, ◌<◌, ◌≤◌, Bool, true, false, List, [], ◌∷◌, length, drop, refl, sym, ap, ◌∙◌, subst, arith}
use Rattle.std.specs.Prelude.{◌&&◌, ◌||◌, ◌==◌, not, Option, Some, None, option_map, find, bytes_eq, nat_le, codes, ℤ, Result, Ok, Err}
use Rattle.std.specs.Fmt.{digits}
use Rattle.std.specs.List.{list_all}
use Rattle.std.proofs.lemmas.Bool.{leb-true, and_parts, or_right}
use Rattle.cell_model.specs.declared.cell.Cell.{Cell}
use Rattle.cell_model.specs.declared.cell.Cell.TheVariants.{Num}
use Rattle.cell_model.specs.declared.table.TableDecl.{TableDecl}
use Rattle.workload_spec.specs.declared.command.Command.{Command}
use Rattle.workload_spec.specs.declared.command.Command.TheVariants as command
use Rattle.workload_spec.specs.declared.extent.Commands.{Commands}
use Rattle.workload_spec.specs.declared.extent.Extent.{Extent}
use Rattle.workload_spec.specs.declared.script.Cause.TheVariants as cause
use Rattle.workload_spec.specs.declared.script.Line.{Line}
use Rattle.workload_spec.specs.Extents.{whole, is_taken}
use Rattle.workload_spec.specs.Valid.{is_block_of, is_export}
use Rattle.workload_spec.specs.Reading.{natural_of, onto_first, words_of}
use Rattle.workload_spec.specs.Grammar.{◌>>=◌, or_cause, rule, word, no_word, number, Form, Alone, OfTable, OfKey, OfRow, OfBlock, OfBegin, OfRange, OfTotal, forms, form_of, table_named, key_in, schema_at, cells_of, numbers_named, number_in, formed, line_of, Fault, on_line, rounds_from}
use Rattle.workload_laws.proofs.Results.{step, gives, some_of, rule_of, rule_back, eq_of}
use Rattle.workload_laws.proofs.Lists.{joined, find_is}
use Rattle.workload_laws.proofs.Rounds.{lines_of}
use Rattle.workload_laws.proofs.Commands.{Each, each_found}
use Rattle.workload_laws.proofs.Narrows.{Narrows, alike, behind, joint, narrow_on_line}

-- each command of the form is taken as this flag says
abbrev pub TakenAs : Commands → Bool → Form → Type 0
TakenAs taken flag (Alone made) = is_taken taken made ≡ flag
TakenAs taken flag (OfTable make) = (table : ℕ) → is_taken taken (make table) ≡ flag
TakenAs taken flag (OfKey make) = (table : ℕ) (key : ℤ) → is_taken taken (make table key) ≡ flag
TakenAs taken flag (OfRow make) = (table : ℕ) (row : List Cell) → is_taken taken (make table row) ≡ flag
TakenAs taken flag (OfBlock make) = (table block : ℕ) → is_taken taken (make table block) ≡ flag
TakenAs taken flag (OfBegin takes_checked) = (taken.begin ≡ flag) × (taken.begin_checked ≡ takes_checked)
TakenAs taken flag OfRange = taken.range ≡ flag
TakenAs taken flag OfTotal = taken.total ≡ flag

-- A command is taken as this flag says.
abbrev IsTaken : Commands → Bool → Command → Type 0
IsTaken taken flag made = is_taken taken made ≡ flag

-- A begin is taken as its form is, where its word is.
begin_taken : (taken : Commands) (flag takes_checked : Bool) (words : List (List ℕ)) (tables : List TableDecl) (made : Command) → TakenAs taken flag (OfBegin takes_checked) → formed tables (OfBegin takes_checked) words ≡ Ok made → is_taken taken made ≡ flag
begin_taken taken flag takes_checked [] tables made is e =
    let same : command.Begin false ≡ made = cc in
    subst (IsTaken taken flag) same (and_true taken.begin ∙ is.0)
  where
    and_true : (b : Bool) → (b && true) ≡ b
    and_true true = refl
    and_true false = refl
begin_taken taken flag takes_checked (how ∷ words) tables made is e =
    step (rule cause.Command (takes_checked && bytes_eq how (codes "checked"))) _ made e (λ u is1 e1.
    step (no_word cause.Command words) _ made e1 (λ v is2 e2.
    let same : command.Begin true ≡ made = cc in
    let takes : takes_checked ≡ true = (and_parts takes_checked (bytes_eq how (codes "checked")) (rule_of cause.Command (takes_checked && bytes_eq how (codes "checked")) u is1)).0 in
    subst (IsTaken taken flag) same (taken_by taken.begin taken.begin_checked (is.1 ∙ takes) ∙ is.0)))
  where
    taken_by : (b c : Bool) → c ≡ true → (b && (false || c)) ≡ b
    taken_by true c e = e
    taken_by false c e = refl

-- what is read by a form is taken as the form is
formed_taken : (taken : Commands) (flag : Bool) (tables : List TableDecl) (form : Form) (words : List (List ℕ)) (made : Command) → TakenAs taken flag form → formed tables form words ≡ Ok made → is_taken taken made ≡ flag
formed_taken taken flag tables (Alone alone) words made is e =
    step (no_word cause.Command words) _ made e (λ end is1 e1. let same : alone ≡ made = cc in subst (IsTaken taken flag) same is)
formed_taken taken flag tables (OfTable make) words made is e =
    step (word cause.Command words) _ made e (λ name is1 e1.
    step (no_word cause.Command name.1) _ made e1 (λ end is2 e2.
    step (table_named tables name.0) _ made e2 (λ table is3 e3. let same : make table ≡ made = cc in subst (IsTaken taken flag) same (is table))))
formed_taken taken flag tables (OfKey make) words made is e =
    step (word cause.Command words) _ made e (λ name is1 e1.
    step (word cause.Command name.1) _ made e1 (λ key_word is2 e2.
    step (no_word cause.Command key_word.1) _ made e2 (λ end is3 e3.
    step (table_named tables name.0) _ made e3 (λ table is4 e4.
    step (key_in key_word.0) _ made e4 (λ key is5 e5. let same : make table key ≡ made = cc in subst (IsTaken taken flag) same (is table key))))))
formed_taken taken flag tables (OfRow make) words made is e =
    step (word cause.Command words) _ made e (λ name is1 e1.
    step (word cause.Command name.1) _ made e1 (λ key_word is2 e2.
    step (table_named tables name.0) _ made e2 (λ table is3 e3.
    step (rule cause.Command (length (schema_at tables table) == length key_word.1 + 1)) _ made e3 (λ all is4 e4.
    step (key_in key_word.0) _ made e4 (λ key is5 e5.
    step (cells_of (drop 1 (schema_at tables table)) key_word.1) _ made e5 (λ cells is6 e6. let same : make table (Num key ∷ cells) ≡ made = cc in subst (IsTaken taken flag) same (is table (Num key ∷ cells))))))))
formed_taken taken flag tables (OfBlock make) words made is e =
    step (word cause.Command words) _ made e (λ name is1 e1.
    step (word cause.Command name.1) _ made e1 (λ block_word is2 e2.
    step (no_word cause.Command block_word.1) _ made e2 (λ end is3 e3.
    step (table_named tables name.0) _ made e3 (λ table is4 e4.
    step (or_cause cause.Block (natural_of block_word.0)) _ made e4 (λ block is5 e5.
    step (rule cause.Block (is_block_of tables table block)) _ made e5 (λ there is6 e6. let same : make table block ≡ made = cc in subst (IsTaken taken flag) same (is table block)))))))
formed_taken taken flag tables (OfBegin takes_checked) words made is e = begin_taken taken flag takes_checked words tables made is e
formed_taken taken flag tables OfRange words made is e =
    step (word cause.Command words) _ made e (λ name is1 e1.
    step (word cause.Command name.1) _ made e1 (λ low_word is2 e2.
    step (word cause.Command low_word.1) _ made e2 (λ high_word is3 e3.
    step (no_word cause.Command high_word.1) _ made e3 (λ end is4 e4.
    step (table_named tables name.0) _ made e4 (λ table is5 e5.
    step (key_in low_word.0) _ made e5 (λ low is6 e6.
    step (key_in high_word.0) _ made e6 (λ high is7 e7. let same : command.Range table low high ≡ made = cc in subst (IsTaken taken flag) same is)))))))
formed_taken taken flag tables OfTotal words made is e =
    step (word cause.Command words) _ made e (λ name is1 e1.
    step (word cause.Command name.1) _ made e1 (λ column_word is2 e2.
    step (word cause.Command column_word.1) _ made e2 (λ low_word is3 e3.
    step (word cause.Command low_word.1) _ made e3 (λ high_word is4 e4.
    step (no_word cause.Command high_word.1) _ made e4 (λ end is5 e5.
    step (table_named tables name.0) _ made e5 (λ table is6 e6.
    step (numbers_named (schema_at tables table) column_word.0) _ made e6 (λ column is7 e7.
    step (number_in column.1 low_word.0) _ made e7 (λ low is8 e8.
    step (number_in column.1 high_word.0) _ made e8 (λ high is9 e9. let same : command.Total table column.0 low high ≡ made = cc in subst (IsTaken taken flag) same is)))))))))

-- The same form of the whole format, and of an extent that takes these commands.
abbrev widened : Form → Form
widened (Alone made) = Alone made
widened (OfTable make) = OfTable make
widened (OfKey make) = OfKey make
widened (OfRow make) = OfRow make
widened (OfBlock make) = OfBlock make
widened (OfBegin takes_checked) = OfBegin true
widened OfRange = OfRange
widened OfTotal = OfTotal

abbrev narrowed : Commands → Form → Form
narrowed taken (Alone made) = Alone made
narrowed taken (OfTable make) = OfTable make
narrowed taken (OfKey make) = OfKey make
narrowed taken (OfRow make) = OfRow make
narrowed taken (OfBlock make) = OfBlock make
narrowed taken (OfBegin takes_checked) = OfBegin taken.begin_checked
narrowed taken OfRange = OfRange
narrowed taken OfTotal = OfTotal

-- A command that a form reads is read by the same form of the whole format.
formed_wide : (tables : List TableDecl) (form : Form) (words : List (List ℕ)) (made : Command) → formed tables form words ≡ Ok made → formed tables (widened form) words ≡ Ok made
formed_wide tables (Alone alone) words made e = e
formed_wide tables (OfTable make) words made e = e
formed_wide tables (OfKey make) words made e = e
formed_wide tables (OfRow make) words made e = e
formed_wide tables (OfBlock make) words made e = e
formed_wide tables (OfBegin takes_checked) [] made e = e
formed_wide tables (OfBegin true) (how ∷ words) made e = e
formed_wide tables (OfBegin false) (how ∷ words) made e = absurd cc
formed_wide tables OfRange words made e = e
formed_wide tables OfTotal words made e = e

-- A checked begin that is read is taken only where its word is.
checked_taken : (taken : Commands) (made : Command) → command.Begin true ≡ made → is_taken taken made ≡ true → taken.begin_checked ≡ true
checked_taken taken made same is = (and_parts taken.begin taken.begin_checked (ap (is_taken taken) same ∙ is)).1

-- A command that a form of the whole format reads, and that is taken, is read by the same form of
-- those that are taken.
formed_narrow : (taken : Commands) (tables : List TableDecl) (form : Form) (words : List (List ℕ)) (made : Command) → formed tables form words ≡ Ok made → is_taken taken made ≡ true → formed tables (narrowed taken form) words ≡ Ok made
formed_narrow taken tables (Alone alone) words made e is = e
formed_narrow taken tables (OfTable make) words made e is = e
formed_narrow taken tables (OfKey make) words made e is = e
formed_narrow taken tables (OfRow make) words made e is = e
formed_narrow taken tables (OfBlock make) words made e is = e
formed_narrow taken tables (OfBegin takes_checked) [] made e is = e
formed_narrow taken tables (OfBegin takes_checked) (how ∷ words) made e is =
    step (rule cause.Command (takes_checked && bytes_eq how (codes "checked"))) _ made e (λ u is1 e1.
    step (no_word cause.Command words) _ made e1 (λ v is2 e2.
    let same : command.Begin true ≡ made = cc in
    let named = (and_parts takes_checked (bytes_eq how (codes "checked")) (rule_of cause.Command (takes_checked && bytes_eq how (codes "checked")) u is1)).1 in
    gives (rule cause.Command (taken.begin_checked && bytes_eq how (codes "checked"))) _ (Ok made) tt (rule_back cause.Command (taken.begin_checked && bytes_eq how (codes "checked")) (joined (checked_taken taken made same is) named))
    (gives (no_word cause.Command words) _ (Ok made) v is2 e2)))
formed_narrow taken tables OfRange words made e is = e
formed_narrow taken tables OfTotal words made e is = e

-- A word with its form, and a flag that says whether it is taken.
abbrev Entry : Type 0
Entry = List ℕ × Form × Bool

-- an entry's form is the same as the one of its word in the whole format, and is taken as its flag
-- says
record IsForm (extent : Extent) (entry : Entry) : Type 0 where
  known : form_of whole entry.0 ≡ Some (widened entry.1)
  flag : TakenAs extent.commands entry.2 entry.1

-- Each form of an extent is the whole format's, and is taken as its flag says.
each_form : (extent : Extent) → Each (IsForm extent) (forms extent.commands)
each_form extent = (
  record { known = refl; flag = (refl, refl) },
  (
    record { known = refl; flag = λ t k. refl },
    (
      record { known = refl; flag = λ t. refl },
      (
        record { known = refl; flag = λ t r. refl },
        (
          record { known = refl; flag = λ t r. refl },
          (
            record { known = refl; flag = λ t k. refl },
            (
              record { known = refl; flag = refl },
              (
                record { known = refl; flag = refl },
                (
                  record { known = refl; flag = refl },
                  (
                    record { known = refl; flag = refl },
                    (
                      record { known = refl; flag = λ t. refl },
                      (
                        record { known = refl; flag = λ t b. refl },
                        (
                          record { known = refl; flag = λ t b. refl },
                          (
                            record { known = refl; flag = λ t. refl },
                            (record { known = refl; flag = refl }, (record { known = refl; flag = refl }, tt)),
                          ),
                        ),
                      ),
                    ),
                  ),
                ),
              ),
            ),
          ),
        ),
      ),
    ),
  ),
)

-- A form that is found for a word is that of an entry that is found.
form_by : (o : Option Entry) (form : Form) → option_map (λ entry. entry.1) o ≡ Some form → (entry : Entry) × (o ≡ Some entry) × (entry.1 ≡ form)
form_by None form e = absurd cc
form_by (Some entry) form e = (entry, refl, cc)

-- Whether an entry is that of the word, and is taken.
abbrev stands_for : List ℕ → Entry → Bool
stands_for first entry = bytes_eq entry.0 first && entry.2

-- a form of the whole format that reads this command
record Wide (tables : List TableDecl) (first : List ℕ) (words : List (List ℕ)) (made : Command) : Type 0 where
  form : Form
  known : form_of whole first ≡ Some form
  reads : formed tables form words ≡ Ok made

-- a command that is read within an extent is the whole format's, and is taken
form_narrow : (extent : Extent) (tables : List TableDecl) (first : List ℕ) (form : Form) (words : List (List ℕ)) (made : Command) → form_of extent first ≡ Some form → formed tables form words ≡ Ok made
    → Wide tables first words made × (is_taken extent.commands made ≡ true)
form_narrow extent tables first form words made e read =
    let f = form_by (find (stands_for first) (forms extent.commands)) form e in
    let passes = and_parts (bytes_eq f.0.0 first) f.0.2 (find_is (stands_for first) (forms extent.commands) f.0 f.1) in
    let is = each_found (IsForm extent) (stands_for first) (forms extent.commands) f.0 (each_form extent) f.1 in
    let same = eq_of f.0.0 first passes.0 in (
      record {
        form = widened form;
        known = subst (λ (text : List ℕ). form_of whole text ≡ Some (widened form)) same (is.known ∙ ap (λ (made : Form). Some (widened made)) f.2);
        reads = formed_wide tables form words made read;
      },
      formed_taken extent.commands true tables form words made (subst (λ (form : Form). TakenAs extent.commands true form) f.2 (subst (λ (flag : Bool). TakenAs extent.commands flag f.0.1) passes.1 is.flag)) read,
    )

-- the entry of a word in the whole format beside the extent's
abbrev Beside : Extent → Entry → Type 0
Beside extent entry = (flag : Bool) × TakenAs extent.commands flag (narrowed extent.commands entry.1) × (flag ≡ true → form_of extent entry.0 ≡ Some (narrowed extent.commands entry.1))

-- Each form of the whole format stands beside the extent's.
each_beside : (extent : Extent) → Each (Beside extent) (forms whole.commands)
each_beside extent =
    let c = extent.commands in (
      (c.begin, (refl, refl), λ e. rw e refl),
      (
        (c.get, λ t k. refl, λ e. rw e refl),
        (
          (c.scan, λ t. refl, λ e. rw e refl),
          (
            (c.insert, λ t r. refl, λ e. rw e refl),
            (
              (c.update, λ t r. refl, λ e. rw e refl),
              (
                (c.delete, λ t k. refl, λ e. rw e refl),
                (
                  (c.commit, refl, λ e. rw e refl),
                  (
                    (c.abort, refl, λ e. rw e refl),
                    (
                      (c.observe, refl, λ e. rw e refl),
                      (
                        (c.prune, refl, λ e. rw e refl),
                        (
                          (c.compact, λ t. refl, λ e. rw e refl),
                          (
                            (c.seal, λ t b. refl, λ e. rw e refl),
                            (
                              (c.gather, λ t b. refl, λ e. rw e refl),
                              (
                                (c.export, λ t. refl, λ e. rw e refl),
                                ((c.range, refl, λ e. rw e refl), ((c.total, refl, λ e. rw e refl), tt)),
                              ),
                            ),
                          ),
                        ),
                      ),
                    ),
                  ),
                ),
              ),
            ),
          ),
        ),
      ),
    )

-- a form of an extent that reads this command
record Narrow (extent : Extent) (tables : List TableDecl) (first : List ℕ) (words : List (List ℕ)) (made : Command) : Type 0 where
  form : Form
  known : form_of extent first ≡ Some form
  reads : formed tables form words ≡ Ok made

-- a command of the whole format that is taken is read within the extent
form_back : (extent : Extent) (tables : List TableDecl) (first : List ℕ) (form : Form) (words : List (List ℕ)) (made : Command) → form_of whole first ≡ Some form → formed tables form words ≡ Ok made → is_taken extent.commands made ≡ true
    → Narrow extent tables first words made
form_back extent tables first form words made e read is =
    let f = form_by (find (stands_for first) (forms whole.commands)) form e in
    let same = eq_of f.0.0 first (and_parts (bytes_eq f.0.0 first) f.0.2 (find_is (stands_for first) (forms whole.commands) f.0 f.1)).0 in
    let b = each_found (Beside extent) (stands_for first) (forms whole.commands) f.0 (each_beside extent) f.1 in
    let narrow : Form = narrowed extent.commands form in
    let reads : formed tables narrow words ≡ Ok made = formed_narrow extent.commands tables form words made read is in
    let taken = formed_taken extent.commands b.0 tables narrow words made (subst (λ (form : Form). TakenAs extent.commands b.0 (narrowed extent.commands form)) f.2 b.1) reads in
    record {
      form = narrow;
      known = subst (λ (text : List ℕ). form_of extent text ≡ Some narrow) same (b.2 (sym taken ∙ is) ∙ ap (λ (form : Form). Some (narrowed extent.commands form)) f.2);
      reads = reads;
    }

-- a line of a command that is taken
abbrev pub LineTaken : Extent → Line → Type 0
LineTaken extent line = is_taken extent.commands line.command ≡ true

-- a line within an extent is the whole format's whose command is taken
pub narrow_line : (extent : Extent) (tables : List TableDecl) (sessions : ℕ) (exported : Bool) (words : List (List ℕ)) → Narrows (line_of extent tables sessions exported words) (line_of whole tables sessions exported words) (LineTaken extent)
narrow_line extent tables sessions exported words =
    behind (number cause.Session 1 sessions words) _ _ (LineTaken extent) (λ session is1.
    behind (word cause.Command session.1) _ _ (LineTaken extent) (λ first is2. record {
      to = λ line e.
          step (or_cause cause.Command (form_of extent first.0)) _ line e (λ form is3 e3.
          step (formed tables form first.1) _ line e3 (λ read is4 e4.
          step (rule cause.Export (not (exported && is_export read))) _ line e4 (λ once is5 e5.
          let same : record { session = session.0; command = read } ≡ line = cc in
          let n = form_narrow extent tables first.0 form first.1 read (some_of cause.Command (form_of extent first.0) form is3) is4 in (
            gives (or_cause cause.Command (form_of whole first.0)) _ (Ok line) n.0.form (ap (or_cause cause.Command) n.0.known) (gives (formed tables n.0.form first.1) _ (Ok line) read n.0.reads e4),
            subst (LineTaken extent) same n.1,
          ))));
      back = λ line e kept.
          step (or_cause cause.Command (form_of whole first.0)) _ line e (λ form is3 e3.
          step (formed tables form first.1) _ line e3 (λ read is4 e4.
          step (rule cause.Export (not (exported && is_export read))) _ line e4 (λ once is5 e5.
          let same : record { session = session.0; command = read } ≡ line = cc in
          let n = form_back extent tables first.0 form first.1 read (some_of cause.Command (form_of whole first.0) form is3) is4 (subst (LineTaken extent) (sym same) kept) in
          gives (or_cause cause.Command (form_of extent first.0)) _ (Ok line) n.form (ap (or_cause cause.Command) n.known) (gives (formed tables n.form first.1) _ (Ok line) read n.reads e4))));
    }))

-- Rounds.

-- rounds that are parted only where the extent parts them, of commands that are taken
pub record RoundsTaken (extent : Extent) (rounds : List (List Line)) : Type 0 where
  pub few : (extent.parts_rounds || nat_le (length rounds) 1) ≡ true
  pub each : list_all (λ line. is_taken extent.commands line.command) (lines_of rounds) ≡ true

-- One round without a line is within each extent.
end_taken : (extent : Extent) → RoundsTaken extent ([] ∷ [])
end_taken extent = record { few = or_right extent.parts_rounds true refl; each = refl }

-- The end of the rounds is read within an extent as in the whole format.
rounds_end : (extent : Extent) → Narrows {E = Fault} (Ok ([] ∷ [])) (Ok ([] ∷ [])) (RoundsTaken extent)
rounds_end extent = alike (Ok ([] ∷ [])) (RoundsTaken extent) (λ a same. let e : ([] ∷ []) ≡ a = cc in subst (RoundsTaken extent) e (end_taken extent))

-- Two dashes spell no number of a session.
no_dashes : natural_of (codes "--") ≡ None
unfolding digits
no_dashes = refl

-- a line `--` is no line of a session
dashes_none : (extent : Extent) (tables : List TableDecl) (sessions : ℕ) (exported : Bool) (at : ℕ) → on_line at (line_of extent tables sessions exported (words_of (codes "--"))) ≡ Err (record { line = at; cause = cause.Session })
dashes_none extent tables sessions exported at = rw no_dashes refl

-- Rounds onto which a line was put are at least one.
onto_some : (line : Line) (rounds : List (List Line)) → 0 < length (onto_first line rounds)
onto_some line [] = omega arith
onto_some line (round ∷ rounds) = omega arith

-- what is read of the lines behind a first, as `rounds_from` goes on
abbrev pub behind_line : Extent → List TableDecl → ℕ → ℕ → Bool → List ℕ → List (List ℕ) → Result (List (List Line)) Fault
behind_line extent tables sessions at exported line rest =
    on_line at (line_of extent tables sessions exported (words_of line)) >>= λ read.
    rounds_from extent tables sessions (at + 1) (exported || is_export read.command) rest >>= λ rounds. Ok (onto_first read rounds)

-- what is read behind a line `--`: one more round in front of the others
abbrev pub behind_parting : Extent → List TableDecl → ℕ → ℕ → Bool → List (List ℕ) → Result (List (List Line)) Fault
behind_parting extent tables sessions at exported rest = rounds_from extent tables sessions (at + 1) exported rest >>= λ rounds. Ok ([] ∷ rounds)

-- What is read behind a line that parts rounds, or behind any other.
abbrev behind_either : Extent → List TableDecl → ℕ → ℕ → Bool → List ℕ → List (List ℕ) → Bool → Result (List (List Line)) Fault
behind_either extent tables sessions at exported line rest parts = elim parts as (λ c. Result (List (List Line)) Fault) [
  | true ↦ behind_parting extent tables sessions at exported rest
  | false ↦ behind_line extent tables sessions at exported line rest
]

-- What is read behind a line, whether it parts rounds or not, has a round.
some_by : (extent : Extent) (tables : List TableDecl) (sessions at : ℕ) (exported parts : Bool) (line : List ℕ) (rest : List (List ℕ)) (rounds : List (List Line)) → behind_either extent tables sessions at exported line rest parts ≡ Ok rounds → 0 < length rounds
some_by extent tables sessions at exported true line rest rounds e =
    step (rounds_from extent tables sessions (at + 1) exported rest) _ rounds e (λ read is same. let f : ([] ∷ read) ≡ rounds = cc in omega (arith, ap length f))
some_by extent tables sessions at exported false line rest rounds e =
    step (on_line at (line_of extent tables sessions exported (words_of line))) _ rounds e (λ read is1 e1.
    step (rounds_from extent tables sessions (at + 1) (exported || is_export read.command) rest) _ rounds e1 (λ others is2 same.
    let f : onto_first read others ≡ rounds = cc in omega (arith, ap length f, onto_some read others)))

-- there is a round
pub rounds_some : (extent : Extent) (tables : List TableDecl) (sessions at : ℕ) (exported : Bool) (lines : List (List ℕ)) (rounds : List (List Line)) → rounds_from extent tables sessions at exported lines ≡ Ok rounds → 0 < length rounds
rounds_some extent tables sessions at exported [] rounds e = let f : ([] ∷ []) ≡ rounds = cc in omega (arith, ap length f)
rounds_some extent tables sessions at exported ([] ∷ []) rounds e = let f : ([] ∷ []) ≡ rounds = cc in omega (arith, ap length f)
rounds_some extent tables sessions at exported ((byte ∷ bytes) ∷ []) rounds e = absurd cc
rounds_some extent tables sessions at exported (line ∷ next ∷ rest) rounds e = some_by extent tables sessions at exported (extent.parts_rounds && bytes_eq line (codes "--")) line (next ∷ rest) rounds e

-- A line that is taken, put onto rounds within an extent, leaves them within it.
onto_taken : (extent : Extent) (line : Line) (rounds : List (List Line)) → 0 < length rounds → LineTaken extent line → RoundsTaken extent rounds → RoundsTaken extent (onto_first line rounds)
onto_taken extent line [] some is are = absurd (omega (arith, some))
onto_taken extent line (round ∷ rounds) some is are = record { few = are.few; each = joined is are.each }

-- Of rounds within an extent, the line put onto them is taken, and they were within it.
onto_was : (extent : Extent) (line : Line) (rounds : List (List Line)) → 0 < length rounds → RoundsTaken extent (onto_first line rounds) → LineTaken extent line × RoundsTaken extent rounds
onto_was extent line [] some are = absurd (omega (arith, some))
onto_was extent line (round ∷ rounds) some are =
    let b = and_parts (is_taken extent.commands line.command) (list_all (λ line. is_taken extent.commands line.command) (lines_of (round ∷ rounds))) are.each in
    (b.0, record { few = are.few; each = b.1 })

-- What is read behind a line is narrower where what is read of the rest is.
narrow_behind_line : (extent : Extent) (tables : List TableDecl) (sessions at : ℕ) (exported : Bool) (line : List ℕ) (rest : List (List ℕ))
    → ((seen : Bool) → Narrows (rounds_from extent tables sessions (at + 1) seen rest) (rounds_from whole tables sessions (at + 1) seen rest) (RoundsTaken extent))
    → Narrows (behind_line extent tables sessions at exported line rest) (behind_line whole tables sessions at exported line rest) (RoundsTaken extent)
narrow_behind_line extent tables sessions at exported line rest others =
    joint (on_line at (line_of extent tables sessions exported (words_of line))) (on_line at (line_of whole tables sessions exported (words_of line))) (LineTaken extent) _ _ (RoundsTaken extent)
    (narrow_on_line at _ _ (LineTaken extent) (narrow_line extent tables sessions exported (words_of line)))
    (λ read is1 taken.
    joint (rounds_from extent tables sessions (at + 1) (exported || is_export read.command) rest) (rounds_from whole tables sessions (at + 1) (exported || is_export read.command) rest) (RoundsTaken extent) _ _ (RoundsTaken extent)
    (others (exported || is_export read.command))
    (λ rounds is2 are. alike (Ok (onto_first read rounds)) (RoundsTaken extent) (λ a same. let e : onto_first read rounds ≡ a = cc in
    subst (RoundsTaken extent) e (onto_taken extent read rounds (rounds_some whole tables sessions (at + 1) (exported || is_export read.command) rest rounds is2) taken are)))
    (λ rounds a is2 same kept. let e : onto_first read rounds ≡ a = cc in
    (onto_was extent read rounds (rounds_some whole tables sessions (at + 1) (exported || is_export read.command) rest rounds is2) (subst (RoundsTaken extent) (sym e) kept)).1))
    (λ read a is1 made kept. step (rounds_from whole tables sessions (at + 1) (exported || is_export read.command) rest) _ a made (λ rounds is2 same. let e : onto_first read rounds ≡ a = cc in
    (onto_was extent read rounds (rounds_some whole tables sessions (at + 1) (exported || is_export read.command) rest rounds is2) (subst (RoundsTaken extent) (sym e) kept)).0))

-- Where an extent parts rounds, one more round leaves them within it.
parted_taken : (extent : Extent) (rounds : List (List Line)) → extent.parts_rounds ≡ true → RoundsTaken extent rounds → RoundsTaken extent ([] ∷ rounds)
parted_taken extent rounds parts are = record { few = rw parts refl; each = are.each }

-- Where an extent parts rounds, those behind an empty one are within it, too.
parted_was : (extent : Extent) (rounds : List (List Line)) → extent.parts_rounds ≡ true → RoundsTaken extent ([] ∷ rounds) → RoundsTaken extent rounds
parted_was extent rounds parts are = record { few = rw parts refl; each = are.each }

-- Where an extent does not part rounds, there is one round at most.
one_round : (parts : Bool) (count : ℕ) → parts ≡ false → (parts || nat_le count 1) ≡ true → count ≤ 1
one_round true count none few = absurd cc
one_round false count none few = leb-true count 1 few

-- What is read behind a line that parts rounds or not is narrower within an extent.
narrow_either : (extent : Extent) (tables : List TableDecl) (sessions at : ℕ) (exported : Bool) (line : List ℕ) (rest : List (List ℕ)) (parts dashes : Bool) → extent.parts_rounds ≡ parts → bytes_eq line (codes "--") ≡ dashes
    → ((seen : Bool) → Narrows (rounds_from extent tables sessions (at + 1) seen rest) (rounds_from whole tables sessions (at + 1) seen rest) (RoundsTaken extent))
    → Narrows (behind_either extent tables sessions at exported line rest (parts && dashes)) (behind_either whole tables sessions at exported line rest dashes) (RoundsTaken extent)
narrow_either extent tables sessions at exported line rest true true parts is others =
    joint (rounds_from extent tables sessions (at + 1) exported rest) (rounds_from whole tables sessions (at + 1) exported rest) (RoundsTaken extent) _ _ (RoundsTaken extent) (others exported)
    (λ rounds is1 are. alike (Ok ([] ∷ rounds)) (RoundsTaken extent) (λ a same. let e : ([] ∷ rounds) ≡ a = cc in subst (RoundsTaken extent) e (parted_taken extent rounds parts are)))
    (λ rounds a is1 same kept. let e : ([] ∷ rounds) ≡ a = cc in parted_was extent rounds parts (subst (RoundsTaken extent) (sym e) kept))
narrow_either extent tables sessions at exported line rest false true parts is others = record {
  to = λ a e. absurd (let dashes = eq_of line (codes "--") is in
      let none : on_line at (line_of extent tables sessions exported (words_of line)) ≡ Err (record { line = at; cause = cause.Session }) = rw dashes (dashes_none extent tables sessions exported at) in
      let f = rw none at e in cc);
  back = λ a e kept. absurd (step (rounds_from whole tables sessions (at + 1) exported rest) _ a e (λ rounds is1 same.
      let f : ([] ∷ rounds) ≡ a = cc in
      omega (arith, ap length f, rounds_some whole tables sessions (at + 1) exported rest rounds is1, one_round extent.parts_rounds (length a) parts kept.few)));
}
narrow_either extent tables sessions at exported line rest true false parts is others = narrow_behind_line extent tables sessions at exported line rest others
narrow_either extent tables sessions at exported line rest false false parts is others = narrow_behind_line extent tables sessions at exported line rest others

-- rounds within an extent are the whole format's that keep it
pub narrow_rounds : (extent : Extent) (tables : List TableDecl) (sessions at : ℕ) (exported : Bool) (lines : List (List ℕ)) → Narrows (rounds_from extent tables sessions at exported lines) (rounds_from whole tables sessions at exported lines) (RoundsTaken extent)
narrow_rounds extent tables sessions at exported [] = rounds_end extent
narrow_rounds extent tables sessions at exported ([] ∷ []) = rounds_end extent
narrow_rounds extent tables sessions at exported ((byte ∷ bytes) ∷ []) = record { to = λ a is. absurd cc; back = λ a is kept. absurd cc }
narrow_rounds extent tables sessions at exported (line ∷ next ∷ rest) =
    narrow_either extent tables sessions at exported line (next ∷ rest) extent.parts_rounds (bytes_eq line (codes "--")) refl refl (λ seen. narrow_rounds extent tables sessions (at + 1) seen (next ∷ rest))
