-- What a workload is made of, and that a store may be built of its tables.
use Rattle.std.proofs.Common.{◌≡◌, ℕ, ◌+◌, ◌≤◌, ◌^◌, ◌/◌, ◌*◌, ◌%◌, ◌==◌, ◌∙◌, min, Bool, true, ◌&&◌, nat_le, nat_lt, Option, None, Some, List, [], ◌∷◌, length, count_by, refl, sym, ap, subst, arith}
use Rattle.std.specs.Prelude.{All, is_none}
use Rattle.std.specs.List.{list_all}
use Rattle.std.proofs.lemmas.Bool.{and_parts, leb-true}
use Rattle.std.proofs.lemmas.List.Elements.{All-cons, All-nil}
use Rattle.cell_model.specs.declared.table.TableDecl.{TableDecl}
use Rattle.cell_model.specs.Schemas.{IsSchema, begins_with_key, first_twins, most_columns, most_slots_of, row_bits}
use Rattle.shared_store.specs.Building.{IsFirstFull, MayOpen}
use Rattle.event_spec.specs.Parts.{Shape}
use Rattle.event_spec.specs.Sound.{IsShape}
use Rattle.isolation_spec.specs.Contents.{History}
use Rattle.run_spec.specs.Ran.{IsRunnable, shape_of}
use Rattle.script_text.proofs.Schemas.{all_named}
use Rattle.store_rounds.specs.Crews.{crew_of}
use Rattle.store_rounds.specs.Prepared.{begun_with}
use Rattle.store_rounds.specs.declared.crew.Crew.{Crew}
use Rattle.workload_spec.specs.declared.script.Line.{Line}
use Rattle.workload_spec.specs.declared.script.Script.{Script}
use Rattle.workload_spec.specs.Valid.{all_lines, are_blocks, are_columns, are_slots, has_head, have_own_names, is_export, is_line, is_name, is_table, is_valid, is_within, least_slots, most_blocks, most_sessions, most_tables, most_turns, most_workers, has_version, is_column}

-- the parts of a conjunction
parts_of_four : (a b c d : Bool) → (a && b && c && d) ≡ true → (a ≡ true) × (b ≡ true) × (c ≡ true) × (d ≡ true)
parts_of_four a b c d all =
    let last = and_parts (a && b && c) d all in
    let third = and_parts (a && b) c last.0 in
    let second = and_parts a b third.0 in
    (second.0, second.1, third.1, last.1)

-- The parts of a conjunction of seven that holds.
parts_of_seven : (a b c d e f g : Bool) → (a && b && c && d && e && f && g) ≡ true
    → (a ≡ true) × (b ≡ true) × (c ≡ true) × (d ≡ true) × (e ≡ true) × (f ≡ true) × (g ≡ true)
parts_of_seven a b c d e f g all =
    let last = and_parts (a && b && c && d && e && f) g all in
    let sixth = and_parts (a && b && c && d && e) f last.0 in
    let fifth = and_parts (a && b && c && d) e sixth.0 in
    let front = parts_of_four a b c d fifth.0 in
    (front.0, front.1, front.2, front.3, fifth.1, sixth.1, last.1)

-- what follows of each follows of all
each_of : {X : Type 0} (holds : X → Bool) (P : X → Type 0) → ((x : X) → holds x ≡ true → P x)
    → (xs : List X) → list_all holds xs ≡ true → All P xs
each_of holds P follows [] all = All-nil P
each_of holds P follows (x ∷ xs) all =
    let parts = and_parts (holds x) (list_all holds xs) all in
    All-cons P x xs (follows x parts.0) (each_of holds P follows xs parts.1)

-- ---- tables

-- what a declared table has
record Declared (table : TableDecl) : Type 0 where
  schema : IsSchema table.schema
  some_slots : 1 ≤ table.slots
  few_slots : table.slots ≤ 2 ^ 15
  some_blocks : 1 ≤ table.blocks
  few_blocks : table.blocks ≤ 2 ^ 10

-- An option that is tested to be none is none.
none_is : {X : Type 0} (o : Option X) → is_none o ≡ true → o ≡ None
none_is None none = refl
none_is (Some x) none = absurd cc

-- A valid table has a schema, and slots and blocks within their bounds.
declared : (table : TableDecl) → is_table table ≡ true → Declared table
declared table valid =
    let parts = parts_of_four (is_name table.name) (are_columns table.schema) (are_slots table.schema table.slots) (are_blocks table.blocks) valid in
    let columns = parts_of_four (begins_with_key table.schema) (nat_le (length table.schema) most_columns) (is_none (first_twins 0 table.schema)) (list_all is_column table.schema) parts.1 in
    let slots = (and_parts (is_within least_slots (most_slots_of table.schema) table.slots) (table.slots % 8 == 0) parts.2).0 in
    let bounds = and_parts (nat_le least_slots table.slots) (nat_le table.slots (most_slots_of table.schema)) slots in
    let low : 8 ≤ table.slots = leb-true least_slots table.slots bounds.0 in
    let high : table.slots ≤ min (2 ^ 15) (8 * (2 ^ 20 / row_bits table.schema)) = leb-true table.slots (most_slots_of table.schema) bounds.1 in
    let blocks = and_parts (nat_le 1 table.blocks) (nat_le table.blocks most_blocks) parts.3 in
    let most : table.blocks ≤ 1024 = leb-true table.blocks most_blocks blocks.1 in
    record {
      schema = record {
        key = columns.0;
        few = leb-true (length table.schema) most_columns columns.1;
        distinct = none_is (first_twins 0 table.schema) columns.2;
        named = record { each = all_named table.schema columns.3 };
      };
      some_slots = omega (arith, low);
      few_slots = omega (arith, high);
      some_blocks = leb-true 1 table.blocks blocks.0;
      few_blocks = omega (arith, most);
    }

-- ---- scripts

-- what the conjunctions of a valid script are
record Parts (script : Script) : Type 0 where
  few_tables : length script.tables ≤ 16
  tables : list_all is_table script.tables ≡ true
  some_sessions : 1 ≤ script.sessions
  few_sessions : script.sessions ≤ 64
  few_workers : script.workers ≤ 16
  few_turns : script.turns ≤ 100
  some_rounds : nat_lt 0 (length script.rounds) ≡ true
  lines : list_all (is_line script) (all_lines script) ≡ true
  few_exports : count_by (λ (line : Line). is_export line.command) (all_lines script) ≤ 1

-- What a valid script keeps, rule by rule.
parts_of : (script : Script) → is_valid script ≡ true → Parts script
parts_of script valid =
    let whole = parts_of_four (has_head script) (nat_lt 0 (length script.rounds)) (list_all (is_line script) (all_lines script))
    (nat_le (count_by (λ (line : Line). is_export line.command) (all_lines script)) 1) valid in
    let head = parts_of_seven (has_version script) (is_within 1 most_tables (length script.tables)) (list_all is_table script.tables) (have_own_names script.tables)
    (is_within 1 most_sessions script.sessions) (nat_le script.workers most_workers) (nat_le script.turns most_turns) whole.0 in
    let sessions = and_parts (nat_le 1 script.sessions) (nat_le script.sessions most_sessions) head.4 in
    let tables = and_parts (nat_le 1 (length script.tables)) (nat_le (length script.tables) most_tables) head.1 in
    record {
      few_tables = leb-true (length script.tables) most_tables tables.1;
      tables = head.2;
      some_sessions = leb-true 1 script.sessions sessions.0;
      few_sessions = leb-true script.sessions most_sessions sessions.1;
      few_workers = leb-true script.workers most_workers head.5;
      few_turns = leb-true script.turns most_turns head.6;
      some_rounds = whole.1;
      lines = whole.2;
      few_exports = leb-true (count_by (λ (line : Line). is_export line.command) (all_lines script)) 1 whole.3;
    }

-- a valid script has a session
pub has_sessions : (script : Script) → is_valid script ≡ true → 1 ≤ script.sessions
has_sessions script valid = (parts_of script valid).some_sessions

-- a valid script has at most 64 sessions
pub few_sessions : (script : Script) → is_valid script ≡ true → script.sessions ≤ 64
few_sessions script valid = (parts_of script valid).few_sessions

-- a valid script has at most 16 workers
pub few_workers : (script : Script) → is_valid script ≡ true → script.workers ≤ 16
few_workers script valid = (parts_of script valid).few_workers

-- a valid script has at most 100 turns in a round
pub few_turns : (script : Script) → is_valid script ≡ true → script.turns ≤ 100
few_turns script valid = (parts_of script valid).few_turns

-- a valid script has a round
pub has_rounds : (script : Script) → is_valid script ≡ true → nat_lt 0 (length script.rounds) ≡ true
has_rounds script valid = (parts_of script valid).some_rounds

-- each line of a valid script is valid
pub lines_are_valid : (script : Script) → is_valid script ≡ true → list_all (is_line script) (all_lines script) ≡ true
lines_are_valid script valid = (parts_of script valid).lines

-- a valid script exports at most once
pub few_exports : (script : Script) → is_valid script ≡ true → count_by (λ (line : Line). is_export line.command) (all_lines script) ≤ 1
few_exports script valid = (parts_of script valid).few_exports

-- a store may be built of its tables
pub may_open : (script : Script) → is_valid script ≡ true → MayOpen script.tables (script.sessions + script.workers)
may_open script valid =
    let parts = parts_of script valid in
    let sessions : script.sessions ≤ 64 = parts.few_sessions in
    let workers : script.workers ≤ 16 = parts.few_workers in
    let each = λ (P : TableDecl → Type 0) (has : (table : TableDecl) → Declared table → P table).
    each_of is_table P (λ table is. has table (declared table is)) script.tables parts.tables in
    record {
      size = record {
        tables_few = parts.few_tables;
        passes_few = omega (arith, sessions, workers);
        blocks_few = each (λ table. table.blocks ≤ 2 ^ 10) (λ table has. has.few_blocks);
        slots_few = each (λ table. table.slots ≤ 2 ^ 15) (λ table has. has.few_slots);
        schemas = each (λ table. IsSchema table.schema) (λ table has. has.schema);
      };
      few = parts.few_tables;
      blocks = each (λ table. 1 ≤ table.blocks) (λ table has. has.some_blocks);
      slots = each (λ table. 1 ≤ table.slots) (λ table has. has.some_slots);
    }

-- ---- a store that was built for a script

-- a store that was built for it has its shape
pub shape_built : (script : Script) (tables : List TableDecl) (crew : Crew) (shape : Shape) → tables ≡ script.tables → crew ≡ crew_of script
    → shape ≡ record { tables = tables; passes = crew.sessions + crew.workers; first = script.begun } → shape ≡ shape_of script
shape_built script tables crew shape own is made =
    made
    ∙ ap (λ (its : List TableDecl). record { tables = its; passes = crew.sessions + crew.workers; first = script.begun }) own
    ∙ ap (λ (crew : Crew). record { tables = script.tables; passes = crew.sessions + crew.workers; first = script.begun }) is

-- and can run it
pub runs_built : (script : Script) (shape : Shape) → is_valid script ≡ true → shape ≡ shape_of script → IsShape shape → IsRunnable script
runs_built script shape valid is measures = record {
  valid = valid;
  shape = subst IsShape is measures;
}

-- a store may be built for its crew
pub may_build : (script : Script) (tables : List TableDecl) (crew : Crew) → is_valid script ≡ true → tables ≡ script.tables → crew ≡ crew_of script → MayOpen tables (crew.sessions + crew.workers)
may_build script tables crew valid own is =
    subst (λ (crew : Crew). MayOpen tables (crew.sessions + crew.workers)) (sym is)
    (subst (λ (its : List TableDecl). MayOpen its (script.sessions + script.workers)) (sym own) (may_open script valid))

-- a crew has a session
pub crew_some : (script : Script) (crew : Crew) → is_valid script ≡ true → crew ≡ crew_of script → 1 ≤ crew.sessions + crew.workers
crew_some script crew valid is =
    let some : 1 ≤ script.sessions = has_sessions script valid in
    let same : crew.sessions ≡ script.sessions = ap (λ (crew : Crew). crew.sessions) is in
    omega (arith, some, same)

-- a script stays valid, whatever commits its store begins with
pub begun_valid : (first : History) (script : Script) → is_valid script ≡ true → is_valid (begun_with first script) ≡ true
begun_valid first script valid = valid

-- a table that has no room in the shape of which a store was to be built has none in the script's
pub full_built : (first : History) (script whole : Script) (tables : List TableDecl) (crew : Crew) (table : ℕ) → whole ≡ begun_with first script → tables ≡ whole.tables → crew ≡ crew_of whole
    → IsFirstFull (record { tables = tables; passes = crew.sessions + crew.workers; first = whole.begun }) table → IsFirstFull (shape_of (begun_with first script)) table
full_built first script whole tables crew table same own is full =
    subst (λ (shape : Shape). IsFirstFull shape table)
    (shape_built whole tables crew (record { tables = tables; passes = crew.sessions + crew.workers; first = whole.begun }) own is refl ∙ ap shape_of same) full
