-- The totals that are replied to in an output that is read have the bounds of their columns.
use Rattle.std.proofs.Common.{◌≡◌, ℕ, ◌+◌, ℤ, Bool, true, false, ◌&&◌, ◌==◌, List, [], ◌∷◌, ◌++◌, Option, None, Some, Ok, refl, sym, ◌∙◌, arith}
use Rattle.std.specs.List.{enumerate_from, flat_map, list_all, range_with_len, slice_get}
use Rattle.std.specs.Option.{option_map_or}
use Rattle.std.specs.Prelude.{if◌then◌else◌}
use Rattle.std.proofs.lemmas.Bool.{and_parts, and_from}
use Rattle.std.proofs.lemmas.Int.{ints}
use Rattle.std.proofs.lemmas.List.Folds.{list_all-append}
use Rattle.cell_model.specs.Kinds.{values_of}
use Rattle.cell_model.specs.Values.{is_integer_in, is_integer_of}
use Rattle.cell_model.specs.declared.column.Column.{Column}
use Rattle.cell_model.specs.declared.table.TableDecl.{TableDecl}
use Rattle.cell_model.specs.declared.values.Values.{Values}
use Rattle.cell_model.specs.declared.values.Values.TheVariants.{Signed, Unsigned, Truths, Texts, Blobs, Strips}
use Rattle.cell_model.specs.declared.width.NumberWidth.TheVariants.{Bits8, Bits16, Bits32, Bits64}
use Rattle.workload_spec.specs.Valid.{are_bounds_in, are_numbers, is_command, is_line, is_total, is_valid, is_within, takes_command}
use Rattle.workload_spec.specs.declared.command.Command.{Command}
use Rattle.workload_spec.specs.declared.command.Command.TheVariants as command
use Rattle.workload_spec.specs.declared.reply.Who.{Who}
use Rattle.workload_spec.specs.declared.reply.Who.TheVariants.{Session, Worker}
use Rattle.workload_spec.specs.declared.script.Line.{Line}
use Rattle.workload_spec.specs.declared.script.Script.{Script}
use Rattle.outcome_spec.specs.Entries.{Entry}
use Rattle.outcome_spec.specs.Explained.{replies_of}
use Rattle.outcome_spec.specs.Forms.{Due, command_shown, commands_of, dues_in, dues_of, dues_to, entry_behind, is_worker, replies_due, turn_of}
use Rattle.outcome_spec.specs.Lines.{lines_of}
use Rattle.order_laws.proofs.Dues.{all-flat}
use Rattle.order_laws.proofs.Walk.{walked}
use Rattle.si_machine.specs.Kept.{is_number}
use Rattle.outcome_judge.specs.Asked.{are_bounded, is_bounded}

-- ---- what is due

-- A number of a kind is one as columns have them.
number-small : (values : Values) (number : ℤ) → is_integer_in values number ≡ true → is_number number ≡ true
number-small (Signed Bits8) number h = grind (arith, ints, h)
number-small (Signed Bits16) number h = grind (arith, ints, h)
number-small (Signed Bits32) number h = grind (arith, ints, h)
number-small (Signed Bits64) number h = grind (arith, ints, h)
number-small (Unsigned Bits8) number h = grind (arith, ints, h)
number-small (Unsigned Bits16) number h = grind (arith, ints, h)
number-small (Unsigned Bits32) number h = grind (arith, ints, h)
number-small (Unsigned Bits64) number h = grind (arith, ints, h)
number-small Truths number h = absurd (let never : ⊥ = cc in never)
number-small (Texts width) number h = absurd (let never : ⊥ = cc in never)
number-small (Blobs width) number h = absurd (let never : ⊥ = cc in never)
number-small (Strips bytes) number h = absurd (let never : ⊥ = cc in never)

-- The bounds of a total of some tables are numbers as columns have them.
total-bounded : (tables : List TableDecl) (table column : ℕ) (low high : ℤ) → is_total tables table column low high ≡ true → (is_number low && is_number high) ≡ true
total-bounded tables table column low high h = of-table (slice_get tables table) h
  where
    of-column : (o : Option Column) → option_map_or (λ its. are_bounds_in its low high) o false ≡ true → (is_number low && is_number high) ≡ true
    of-column None k = absurd (let never : ⊥ = cc in never)
    of-column (Some its) k =
        let outer = and_parts (are_numbers (values_of its.kind) && is_integer_of its.kind low) (is_integer_of its.kind high) k in
        let inner = and_parts (are_numbers (values_of its.kind)) (is_integer_of its.kind low) outer.0 in
        and_from (is_number low) (is_number high) (number-small (values_of its.kind) low inner.1) (number-small (values_of its.kind) high outer.1)

    of-table : (o : Option TableDecl) → option_map_or (λ its. option_map_or (λ c. are_bounds_in c low high) (slice_get its.schema column) false) o false ≡ true → (is_number low && is_number high) ≡ true
    of-table None k = absurd (let never : ⊥ = cc in never)
    of-table (Some its) k = of-column (slice_get its.schema column) k

-- A command of some tables is bounded.
command-bounded : (tables : List TableDecl) (asked : Command) → is_command tables asked ≡ true → is_bounded asked ≡ true
command-bounded tables (command.Total table column low high) h = total-bounded tables table column low high h
command-bounded tables _ h = refl

-- what is due is bounded
abbrev is_bounded_due : Due → Bool
is_bounded_due due = is_bounded due.command

-- All of two lists pass where all of each do.
all-both : {X : Type 0} (p : X → Bool) (xs ys : List X) → list_all p xs ≡ true → list_all p ys ≡ true → list_all p (xs ++ ys) ≡ true
all-both p xs ys h k = list_all-append p xs ys ∙ and_from (list_all p xs) (list_all p ys) h k

-- The commands of a session among lines of a script are bounded.
commands-bounded : (script : Script) (session : ℕ) (lines : List Line) → list_all (is_line script) lines ≡ true → list_all is_bounded (commands_of session lines) ≡ true
commands-bounded script session [] h = refl
commands-bounded script session (line ∷ lines) h =
    let parts = and_parts (is_line script line) (list_all (is_line script) lines) h in
    let own = and_parts (is_within 1 script.sessions line.session && is_command script.tables line.command) (takes_command script.version line.command) parts.0 in
    let is = and_parts (is_within 1 script.sessions line.session) (is_command script.tables line.command) own.0 in
    by (line.session == session) refl (command-bounded script.tables line.command is.1) (commands-bounded script session lines parts.1)
  where
    by : (b : Bool) → (line.session == session) ≡ b → is_bounded line.command ≡ true → list_all is_bounded (commands_of session lines) ≡ true → list_all is_bounded (commands_of session (line ∷ lines)) ≡ true
    by true is own rest = rw is (and_from (is_bounded line.command) (list_all is_bounded (commands_of session lines)) own rest)
    by false is own rest = rw is rest

-- What is due to one is bounded where its commands are.
dues-to : (round : ℕ) (who : Who) (commands : List Command) → list_all is_bounded commands ≡ true → list_all is_bounded_due (dues_to round who commands) ≡ true
dues-to round who [] h = refl
dues-to round who (asked ∷ commands) h =
    let parts = and_parts (is_bounded asked) (list_all is_bounded commands) h in
    and_from (is_bounded asked) (list_all is_bounded_due (dues_to round who commands)) parts.0 (dues-to round who commands parts.1)

-- A worker's turn is bounded.
turn-bounded : (tables : List TableDecl) → list_all is_bounded (turn_of tables) ≡ true
turn-bounded tables =
    all-flat is_bounded (λ entry. command.Compact entry.0 ∷ flat_map (λ block. command.Seal entry.0 block ∷ command.Gather entry.0 block ∷ []) (range_with_len 0 entry.1.blocks))
    (λ entry. all-flat is_bounded (λ block. command.Seal entry.0 block ∷ command.Gather entry.0 block ∷ []) (λ block. refl) (range_with_len 0 entry.1.blocks)) (enumerate_from 0 tables)

-- What is due in a round of lines of a script is bounded.
round-bounded : (script : Script) (round : ℕ) (lines : List Line) → list_all (is_line script) lines ≡ true → list_all is_bounded_due (dues_in script round lines) ≡ true
round-bounded script round lines h =
    all-both is_bounded_due (flat_map (λ session. dues_to round (Session session) (commands_of session lines)) (range_with_len 1 script.sessions))
    (flat_map (λ worker. dues_to round (Worker worker) (flat_map (λ turn. turn_of script.tables) (range_with_len 1 script.turns))) (range_with_len 1 script.workers))
    (all-flat is_bounded_due (λ session. dues_to round (Session session) (commands_of session lines)) (λ session. dues-to round (Session session) (commands_of session lines) (commands-bounded script session lines h)) (range_with_len 1 script.sessions))
    (all-flat is_bounded_due (λ worker. dues_to round (Worker worker) (flat_map (λ turn. turn_of script.tables) (range_with_len 1 script.turns)))
    (λ worker. dues-to round (Worker worker) (flat_map (λ turn. turn_of script.tables) (range_with_len 1 script.turns))
    (all-flat is_bounded (λ turn. turn_of script.tables) (λ turn. turn-bounded script.tables) (range_with_len 1 script.turns))) (range_with_len 1 script.workers))

-- So is what is due in rounds from one on.
rounds-bounded : (script : Script) (first : ℕ) (rounds : List (List Line)) → list_all (is_line script) (flat_map (λ round. round) rounds) ≡ true
    → list_all is_bounded_due (flat_map (λ entry. dues_in script entry.0 entry.1) (enumerate_from first rounds)) ≡ true
rounds-bounded script first [] h = refl
rounds-bounded script first (round ∷ rounds) h =
    let parts = and_parts (list_all (is_line script) round) (list_all (is_line script) (flat_map (λ r. r) rounds)) (sym (list_all-append (is_line script) round (flat_map (λ r. r) rounds)) ∙ h) in
    all-both is_bounded_due (dues_in script first round) _ (round-bounded script first round parts.0) (rounds-bounded script (first + 1) rounds parts.1)

-- ---- what is read

-- What is asked of a reply is bounded where what is due is.
shown-bounded : (due : Due) → is_bounded_due due ≡ true → is_bounded (command_shown due) ≡ true
shown-bounded due h = by (is_worker due.who) h
  where
    by : (b : Bool) → is_bounded due.command ≡ true → is_bounded (if b then command.Observe else due.command) ≡ true
    by true h = refl
    by false h = h

-- What is due and what was read is bounded.
abbrev Bounded : List Due → List Entry → Type 0
Bounded dues earlier = (list_all is_bounded_due dues ≡ true) × (are_bounded earlier ≡ true)

-- Any list passes a test that all pass.
all-any : {X : Type 0} (xs : List X) → list_all (λ x. true) xs ≡ true
all-any [] = refl
all-any (x ∷ xs) = all-any xs

-- the replies that are read from an output of a valid script are bounded
pub read-bounded : (script : Script) (text : List ℕ) (entries : List Entry) → is_valid script ≡ true → replies_of script text ≡ Ok entries → are_bounded entries ≡ true
read-bounded script text entries valid is =
    let most = and_parts _ _ valid in
    let lines = and_parts _ _ most.0 in
    (walked script.tables (λ earlier due told. true) (λ earlier due words behind. all-any (replies_due script.tables earlier due words behind)) Bounded
    (λ due dues earlier h. ((and_parts (is_bounded_due due) (list_all is_bounded_due dues) h.0).1, h.1))
    (λ due dues earlier told may h.
    let parts = and_parts (is_bounded_due due) (list_all is_bounded_due dues) h.0 in
    (parts.1, all-both (λ entry. is_bounded entry.command) earlier (entry_behind script.tables earlier due told ∷ []) h.1 (and_from (is_bounded (command_shown due)) true (shown-bounded due parts.0) refl)))
    (dues_of script) [] (lines_of text) entries (rounds-bounded script 1 script.rounds lines.1, refl) is).1.1

-- of bounded replies each is
pub bounded-at : (front : List Entry) (entry : Entry) (rest : List Entry) → are_bounded (front ++ entry ∷ rest) ≡ true → is_bounded entry.command ≡ true
bounded-at [] entry rest h = (and_parts (is_bounded entry.command) (are_bounded rest) h).0
bounded-at (first ∷ front) entry rest h = bounded-at front entry rest (and_parts (is_bounded first.command) (are_bounded (front ++ entry ∷ rest)) h).1
