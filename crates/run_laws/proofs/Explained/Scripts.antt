-- What is asked of a workload's sessions and workers, and its tables.
use Rattle.std.proofs.Common.{◌≡◌, ◌⊎◌, ℕ, zero, suc, ◌<◌, ◌≤◌, ◌^◌, nat_le, nat_lt, min, Bool, true, false, cond, ◌&&◌, ◌==◌, List, [], ◌∷◌, length, Option, None, Some, refl, sym, ap, ◌∙◌, subst, arith}
use mathlib.Core.Logic.{inl, inr}
use Rattle.std.specs.Prelude.{◌*◌, ◌/◌, ◌%◌, is_none, option_map, slice_get, unwrap_or}
use Rattle.std.specs.List.{enumerate_from, flat_map, list_all, range_with_len}
use Rattle.std.specs.Option.{option_map_or}
use Rattle.std.proofs.lemmas.Bool.Decides.{nat_tests}
use Rattle.std.proofs.lemmas.List.Elements.{All-nil}
use Rattle.std.proofs.lemmas.List.Folds.{list_all-append}
use Rattle.std.proofs.lemmas.Option.{slice_get_past}
use Rattle.std.proofs.lemmas.Bool.{and_from}
use Rattle.cell_model.specs.declared.cell.Cell.{Cell}
use Rattle.cell_model.specs.declared.column.Column.{Column}
use Rattle.cell_model.specs.declared.row.RowFault.{RowFault}
use Rattle.cell_model.specs.declared.row.RowFault.TheVariants.{Arity}
use Rattle.cell_model.specs.declared.table.TableDecl.{TableDecl}
use Rattle.cell_model.specs.Rows.{cell_fault, first_fault, fits}
use Rattle.cell_model.specs.Schemas.{begins_with_key, first_twins, most_columns, most_slots_of, row_bits}
use Rattle.core_laws.proofs.Events.Lists.{kept_member, member_flat}
use Rattle.event_spec.specs.declared.event.Event.TheVariants as event
use Rattle.event_spec.specs.Effects.{CoreEvent}
use Rattle.event_spec.specs.Lawful.{Among, HasTable}
use Rattle.event_spec.specs.Parts.{blocks_of, slots_of}
use Rattle.event_spec.specs.Replies.{CoreReply}
use Rattle.event_spec.specs.Sound.{IsShape}
use Rattle.isolation_spec.specs.Commits.{AreCommitsOf, IsCommitOf}
use Rattle.isolation_spec.specs.Contents.{History, key_of, rows_left}
use Rattle.outcome_spec.specs.Forms.{commands_of, is_upkeep, turn_of}
use Rattle.workload_spec.specs.declared.command.Command.{Command}
use Rattle.workload_spec.specs.declared.command.Command.TheVariants as command
use Rattle.workload_spec.specs.declared.script.Line.{Line}
use Rattle.workload_spec.specs.declared.script.Script.{Script}
use Rattle.workload_spec.specs.Valid.{all_lines, are_blocks, are_columns, are_slots, fits_table, has_head, has_version, have_own_names, is_column, is_command, is_export, is_key_number, is_line, is_name, is_table, is_table_place, is_valid, is_within, most_sessions, most_tables, most_turns, most_workers, takes_command}
use Rattle.workload_spec.specs.declared.reply.Said.{Said}
use Rattle.workload_laws.proofs.CommandsBack.{key_cell}
use Rattle.run_spec.specs.Occurrences.{Occurrence}
use Rattle.run_spec.specs.Ran.{shape_of, turns_of}
use Rattle.run_laws.proofs.Calls.Along.{and_first, and_second}
use Rattle.run_laws.specs.Told.Laws.{TellsAt}
use Rattle.run_laws.specs.Moments.Laws.{IsAsked}
use Rattle.run_laws.proofs.Moments.Seats.{either}
use Rattle.run_laws.proofs.Explained.Keys.{KeyFits}

-- What is true is not false.
true_false : true ≡ false → ⊥
true_false e = cc

-- What a test says of all of a list it says of each element.
all_member : {X : Type 0} (p : X → Bool) (xs : List X) (x : X) → list_all p xs ≡ true → Among x xs → p x ≡ true
all_member p [] x all a = absurd a
all_member p (y ∷ xs) x all (inl e) = ap p e ∙ and_first (p y) (list_all p xs) all
all_member p (y ∷ xs) x all (inr a) = all_member p xs x (and_second (p y) (list_all p xs) all) a

-- ---- workers

-- Lists of commands that are each all upkeep are so together.
upkeep_flat : {X : Type 0} (f : X → List Command) → ((x : X) → list_all is_upkeep (f x) ≡ true) → (xs : List X) → list_all is_upkeep (flat_map f xs) ≡ true
upkeep_flat f each [] = refl
upkeep_flat f each (x ∷ xs) = list_all-append is_upkeep (f x) (flat_map f xs) ∙ and_from (list_all is_upkeep (f x)) (list_all is_upkeep (flat_map f xs)) (each x) (upkeep_flat f each xs)

-- The commands of a worker's turns are all upkeep.
turns_upkeep : (script : Script) → list_all is_upkeep (turns_of script) ≡ true
turns_upkeep script = upkeep_flat (λ turn. turn_of script.tables) (λ turn. each) (range_with_len 1 script.turns)
  where
    each : list_all is_upkeep (turn_of script.tables) ≡ true
    each = upkeep_flat
        (λ (entry : ℕ × TableDecl). command.Compact entry.0 ∷ flat_map (λ block. command.Seal entry.0 block ∷ command.Gather entry.0 block ∷ []) (range_with_len 0 entry.1.blocks))
        (λ entry. upkeep_flat (λ block. command.Seal entry.0 block ∷ command.Gather entry.0 block ∷ []) (λ block. refl) (range_with_len 0 entry.1.blocks))
        (enumerate_from 0 script.tables)

-- what is asked of a worker is upkeep
pub worker_upkeep : (script : Script) (seat : ℕ) (asked : Command) → script.sessions < seat → IsAsked script seat asked → is_upkeep asked ≡ true
worker_upkeep script seat asked high is =
    let e : nat_le seat script.sessions ≡ false = grind (arith, nat_tests, high) in
    all_member is_upkeep (turns_of script) asked (turns_upkeep script) (subst (Among asked) (ap (λ b. cond b (commands_of seat is.0) (turns_of script)) e) is.2)

-- ---- keys

-- A row without a fault has the right number of cells, and none with a fault.
fit_parts : (b : Bool) (fault : Option RowFault) → is_none (cond b fault (Some Arity)) ≡ true → (b ≡ true) × (is_none fault ≡ true)
fit_parts true fault fitting = (refl, fitting)
fit_parts false fault fitting = absurd (let never : ⊥ = cc fitting in never)

-- Where neither a first fault nor one behind it is found, the first is none.
first_fits : (own rest : Option RowFault) → is_none (cond (is_none own) rest own) ≡ true → is_none own ≡ true
first_fits None rest none = refl
first_fits (Some fault) rest none = absurd (let never : ⊥ = cc none in never)

-- the key of a row that fits columns which begin with a key is a number of 64 bits
row_key : (columns : List Column) (row : List Cell) → begins_with_key columns ≡ true → fits columns row ≡ true → is_key_number (key_of row) ≡ true
row_key [] row key fitting = absurd (let never : ⊥ = cc key in never)
row_key (column ∷ columns) [] key fitting =
    let same = (fit_parts (length {A = Cell} [] == length (column ∷ columns)) (first_fault 0 (column ∷ columns) []) fitting).0 in
    absurd (let never : ⊥ = grind (arith, nat_tests, same) in never)
row_key (column ∷ columns) (cell ∷ cells) key fitting =
    let found = key_cell column cell key
    (first_fits (cell_fault 0 column cell) (first_fault 1 columns cells) (fit_parts (length (cell ∷ cells) == length (column ∷ columns)) (first_fault 0 (column ∷ columns) (cell ∷ cells)) fitting).1) in
    ap (λ (c : Cell). is_key_number (key_of (c ∷ cells))) found.1 ∙ found.2

-- ---- sessions

module _ (script : Script) (valid : is_valid script ≡ true) where
  -- a valid workload's head is valid: its version and its tables
  pub head : has_head script ≡ true
  head = and_first (has_head script) (nat_lt 0 (length script.rounds)) (and_first (has_head script && nat_lt 0 (length script.rounds)) (list_all (is_line script) (all_lines script))
      (and_first (has_head script && nat_lt 0 (length script.rounds) && list_all (is_line script) (all_lines script)) (nat_le (Rattle.std.specs.Prelude.count_by (λ line. is_export line.command) (all_lines script)) 1) valid))

  -- The lines of a valid script are all as a line has to be.
  lines_are : list_all (is_line script) (all_lines script) ≡ true
  lines_are = and_second (has_head script && nat_lt 0 (length script.rounds)) (list_all (is_line script) (all_lines script))
      (and_first (has_head script && nat_lt 0 (length script.rounds) && list_all (is_line script) (all_lines script)) (nat_le (Rattle.std.specs.Prelude.count_by (λ line. is_export line.command) (all_lines script)) 1) valid)

  -- what is asked of a session is a command of the tables that the version takes
  pub session_line : (seat : ℕ) (asked : Command) → seat ≤ script.sessions → IsAsked script seat asked → (is_command script.tables asked ≡ true) × (takes_command script.version asked ≡ true)
  session_line seat asked low is =
      let e : nat_le seat script.sessions ≡ true = grind (arith, nat_tests, low) in
      let found = kept_member (λ (line : Line). cond (line.session == seat) (Some line.command) None) is.0 asked (subst (Among asked) (ap (λ b. cond b (commands_of seat is.0) (turns_of script)) e) is.2) in
      let of_line : is_line script found.0 ≡ true = all_member (is_line script) (all_lines script) found.0 lines_are (member_flat (λ (round : List Line). round) script.rounds is.0 found.0 is.1 found.1) in
      let it = sym (same (found.0.session == seat) found.0.command found.2) in (
        ap (is_command script.tables) it
            ∙ and_second (is_within 1 script.sessions found.0.session) (is_command script.tables found.0.command)
            (and_first (is_within 1 script.sessions found.0.session && is_command script.tables found.0.command) (takes_command script.version found.0.command) of_line),
        ap (takes_command script.version) it
            ∙ and_second (is_within 1 script.sessions found.0.session && is_command script.tables found.0.command) (takes_command script.version found.0.command) of_line,
      )
    where
      same : (b : Bool) (c : Command) → cond b (Some c) None ≡ Some asked → c ≡ asked
      same true c e = cc
      same false c e = absurd (let never : ⊥ = cc e in never)

  -- what is asked of a session is a command of the tables
  pub session_asked : (seat : ℕ) (asked : Command) → seat ≤ script.sessions → IsAsked script seat asked → is_command script.tables asked ≡ true
  session_asked seat asked low is = (session_line seat asked low is).0

  -- ---- tables

  -- The tables of a valid script are all as a table has to be.
  tables_are : list_all is_table script.tables ≡ true
  tables_are = and_second (has_version script && is_within 1 most_tables (length script.tables)) (list_all is_table script.tables)
      (and_first (has_version script && is_within 1 most_tables (length script.tables) && list_all is_table script.tables) (have_own_names script.tables)
      (and_first (has_version script && is_within 1 most_tables (length script.tables) && list_all is_table script.tables && have_own_names script.tables) (is_within 1 most_sessions script.sessions)
      (and_first (has_version script && is_within 1 most_tables (length script.tables) && list_all is_table script.tables && have_own_names script.tables && is_within 1 most_sessions script.sessions) (nat_le script.workers most_workers)
      (and_first (has_version script && is_within 1 most_tables (length script.tables) && list_all is_table script.tables && have_own_names script.tables && is_within 1 most_sessions script.sessions && nat_le script.workers most_workers) (nat_le script.turns most_turns) head))))

  -- Where all tables are as they have to be, one with a number below their count is.
  table_at : (tables : List TableDecl) (t : ℕ) → list_all is_table tables ≡ true → t < length tables → (decl : TableDecl) × (slice_get tables t ≡ Some decl) × (is_table decl ≡ true)
  table_at [] t all less = absurd (let never : ⊥ = omega (arith, less) in never)
  table_at (x ∷ tables) zero all less = (x, refl, and_first (is_table x) (list_all is_table tables) all)
  table_at (x ∷ tables) (suc t) all less = table_at tables t (and_second (is_table x) (list_all is_table tables) all) (omega (arith, less))

  -- a valid script has at most 16 tables
  pub few_tables : length script.tables ≤ 16
  few_tables =
      let h = head in
      let a = and_first (has_version script && is_within 1 most_tables (length script.tables) && list_all is_table script.tables && have_own_names script.tables && is_within 1 most_sessions script.sessions && nat_le script.workers most_workers) (nat_le script.turns most_turns) h in
      let b = and_first (has_version script && is_within 1 most_tables (length script.tables) && list_all is_table script.tables && have_own_names script.tables && is_within 1 most_sessions script.sessions) (nat_le script.workers most_workers) a in
      let c = and_first (has_version script && is_within 1 most_tables (length script.tables) && list_all is_table script.tables && have_own_names script.tables) (is_within 1 most_sessions script.sessions) b in
      let d = and_first (has_version script && is_within 1 most_tables (length script.tables) && list_all is_table script.tables) (have_own_names script.tables) c in
      let e = and_first (has_version script && is_within 1 most_tables (length script.tables)) (list_all is_table script.tables) d in
      let f = and_second (nat_le 1 (length script.tables)) (nat_le (length script.tables) 16) (and_second (has_version script) (is_within 1 most_tables (length script.tables)) e) in
      grind (arith, nat_tests, f)

  -- the tables of a valid workload are a shape where it begins with nothing
  pub is_shape : script.begun ≡ [] → IsShape (shape_of script)
  is_shape none = record {
    tables = few_tables;
    blocks = blocks;
    slots = slots;
    commits = subst (AreCommitsOf script.tables) (sym none) (All-nil (IsCommitOf script.tables));
    few = let long : length script.begun ≡ 0 = ap length none in omega (arith, long);
    room = λ t has. let rows : length (rows_left script.begun t) ≡ 0 = ap (λ (first : History). length (rows_left first t)) none in omega (arith, rows);
  }
    where
      parts : (decl : TableDecl) → is_table decl ≡ true → (are_slots decl.schema decl.slots ≡ true) × (are_blocks decl.blocks ≡ true)
      parts decl is =
          let a = and_first (is_name decl.name && are_columns decl.schema && are_slots decl.schema decl.slots) (are_blocks decl.blocks) is in (
            and_second (is_name decl.name && are_columns decl.schema) (are_slots decl.schema decl.slots) a,
            and_second (is_name decl.name && are_columns decl.schema && are_slots decl.schema decl.slots) (are_blocks decl.blocks) is,
          )

      blocks : (t : ℕ) → HasTable (shape_of script) t → 1 ≤ blocks_of (shape_of script) t
      blocks t has =
          let at = table_at script.tables t tables_are has in
          let is : blocks_of (shape_of script) t ≡ at.0.blocks = ap (λ o. unwrap_or (option_map (λ (decl : TableDecl). decl.blocks) o) 0) at.1 in
          let low = and_first (nat_le 1 at.0.blocks) (nat_le at.0.blocks 1024) (parts at.0 at.2).1 in
          let least : 1 ≤ at.0.blocks = grind (arith, nat_tests, low) in
          omega (arith, is, least)

      slots : (t : ℕ) → HasTable (shape_of script) t → (1 ≤ slots_of (shape_of script) t) × (slots_of (shape_of script) t ≤ 2 ^ 15)
      slots t has =
          let at = table_at script.tables t tables_are has in
          let is : slots_of (shape_of script) t ≡ at.0.slots = ap (λ o. unwrap_or (option_map (λ (decl : TableDecl). decl.slots) o) 0) at.1 in
          let w = and_first (is_within 8 (most_slots_of at.0.schema) at.0.slots) (at.0.slots % 8 == 0) (parts at.0 at.2).0 in
          let low = and_first (nat_le 8 at.0.slots) (nat_le at.0.slots (most_slots_of at.0.schema)) w in
          let high = and_second (nat_le 8 at.0.slots) (nat_le at.0.slots (most_slots_of at.0.schema)) w in
          let least : 8 ≤ at.0.slots = grind (arith, nat_tests, low) in
          let most : at.0.slots ≤ min (2 ^ 15) (8 * (2 ^ 20 / row_bits at.0.schema)) = grind (arith, nat_tests, high) in
          (omega (arith, is, least), omega (arith, is, most))

  -- a table has at most 1,024 blocks
  pub blocks_few : (t : ℕ) → blocks_of (shape_of script) t ≤ 1024
  blocks_few t = go (nat_lt t (length script.tables)) refl
    where
      go : (b : Bool) → nat_lt t (length script.tables) ≡ b → blocks_of (shape_of script) t ≤ 1024
      go false e =
          let none : slice_get script.tables t ≡ None = slice_get_past script.tables t (grind (arith, nat_tests, e)) in
          let is : blocks_of (shape_of script) t ≡ 0 = ap (λ o. unwrap_or (option_map (λ (decl : TableDecl). decl.blocks) o) 0) none in
          omega (arith, is)
      go true e =
          let at = table_at script.tables t tables_are (grind (arith, nat_tests, e)) in
          let is : blocks_of (shape_of script) t ≡ at.0.blocks = ap (λ o. unwrap_or (option_map (λ (decl : TableDecl). decl.blocks) o) 0) at.1 in
          let within = and_second (is_name at.0.name && are_columns at.0.schema && are_slots at.0.schema at.0.slots) (are_blocks at.0.blocks) at.2 in
          let high = and_second (nat_le 1 at.0.blocks) (nat_le at.0.blocks 1024) within in
          let most : at.0.blocks ≤ 1024 = grind (arith, nat_tests, high) in
          omega (arith, is, most)

  -- ---- keys that are written

  -- The key of a row that fits its table is a number of 64 bits.
  row_fits : (t : ℕ) (row : List Cell) → fits_table script.tables t row ≡ true → is_key_number (key_of row) ≡ true
  row_fits t row fitting = go (nat_lt t (length script.tables)) refl
    where
      go : (b : Bool) → nat_lt t (length script.tables) ≡ b → is_key_number (key_of row) ≡ true
      go false e =
          let none : slice_get script.tables t ≡ None = slice_get_past script.tables t (grind (arith, nat_tests, e)) in
          let never : false ≡ true = sym (ap (λ o. option_map_or (λ (decl : TableDecl). fits decl.schema row) o false) none) ∙ fitting in
          absurd (let no : ⊥ = cc in no)
      go true e =
          let at = table_at script.tables t tables_are (grind (arith, nat_tests, e)) in
          let columns : are_columns at.0.schema ≡ true = and_second (is_name at.0.name) (are_columns at.0.schema)
          (and_first (is_name at.0.name && are_columns at.0.schema) (are_slots at.0.schema at.0.slots)
          (and_first (is_name at.0.name && are_columns at.0.schema && are_slots at.0.schema at.0.slots) (are_blocks at.0.blocks) at.2)) in
          let begins : begins_with_key at.0.schema ≡ true = and_first (begins_with_key at.0.schema) (nat_le (length at.0.schema) most_columns)
          (and_first (begins_with_key at.0.schema && nat_le (length at.0.schema) most_columns) (is_none (first_twins 0 at.0.schema))
          (and_first (begins_with_key at.0.schema && nat_le (length at.0.schema) most_columns && is_none (first_twins 0 at.0.schema)) (list_all is_column at.0.schema) columns)) in
          row_key at.0.schema row begins (ap (λ o. option_map_or (λ (decl : TableDecl). fits decl.schema row) o false) (sym at.1) ∙ fitting)

  -- what is asked and is no upkeep is a command of the tables
  pub asked_fits : (seat : ℕ) (asked : Command) → IsAsked script seat asked → is_upkeep asked ≡ false → is_command script.tables asked ≡ true
  asked_fits seat asked is not_upkeep = go (either script seat)
    where
      go : (seat ≤ script.sessions) ⊎ (script.sessions < seat) → is_command script.tables asked ≡ true
      go (inl low) = session_asked seat asked low is
      go (inr high) = let never : false ≡ true = sym not_upkeep ∙ worker_upkeep script seat asked high is in absurd (let no : ⊥ = cc in no)

  -- an event that a call ends with writes a key of 64 bits, if it writes
  pub event_key : (seat : ℕ) (worker : Bool) (made : List Occurrence) (e : CoreEvent) (told : CoreReply) (asked : Command) (line : Option Said)
      → IsAsked script seat asked → TellsAt worker made e told asked line → KeyFits e
  event_key seat worker made (event.Begin session) told asked line is h = tt
  event_key seat worker made (event.Get own table key) told asked line is h = tt
  event_key seat worker made (event.Insert own table row) told asked line is h =
      row_fits table row (ap (is_command script.tables) (sym h.0) ∙ asked_fits seat asked is (ap is_upkeep h.0))
  event_key seat worker made (event.Update own table row) told asked line is h =
      row_fits table row (ap (is_command script.tables) (sym h.0) ∙ asked_fits seat asked is (ap is_upkeep h.0))
  event_key seat worker made (event.Delete own table key) told asked line is h =
      and_second (is_table_place script.tables table) (is_key_number key) (ap (is_command script.tables) (sym h.0) ∙ asked_fits seat asked is (ap is_upkeep h.0))
  event_key seat worker made (event.Read own table block) told asked line is h = tt
  event_key seat worker made (event.Range own table low high) told asked line is h = tt
  event_key seat worker made (event.Commit own reads) told asked line is h = tt
  event_key seat worker made (event.Abort own) told asked line is h = tt
  event_key seat worker made event.Oldest told asked line is h = tt
  event_key seat worker made (event.Observe table block) told asked line is h = tt
  event_key seat worker made (event.Prune table block oldest) told asked line is h = tt
  event_key seat worker made (event.Look table block) told asked line is h = tt
  event_key seat worker made (event.Move table moves) told asked line is h = tt
  event_key seat worker made (event.Seal table block) told asked line is h = tt
  event_key seat worker made (event.Image table block image) told asked line is h = tt
  event_key seat worker made (event.Thaw table block) told asked line is h = tt
