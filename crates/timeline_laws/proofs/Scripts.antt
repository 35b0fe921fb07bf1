-- What is due in a script: sessions' commands of its tables, and turns of its workers; and the law
-- of a run.
use Rattle.std.proofs.Common.{◌≡◌, ℕ, ◌+◌, ◌≤◌, Bool, true, false, cond, ◌&&◌, ◌||◌, inl, inr, nat_le, nat_lt, eqb, zero, suc, List, [], ◌∷◌, ◌++◌, length, Option, Some, None, Ok, refl, sym, ap, ◌∙◌, subst, arith, append-nil, append_assoc}
use Rattle.std.specs.Prelude.{◌==◌, slice_get, is_some}
use Rattle.std.specs.Option.{option_map_or}
use Rattle.std.specs.List.{list_all, flat_map, cons_option, count_by, range_with_len, enumerate_from}
use Rattle.std.proofs.lemmas.Bool.{and_parts, and_from, leb-true, lt-ltb}
use Rattle.std.proofs.lemmas.Bool.Decides.{nat_tests}
use Rattle.std.proofs.lemmas.List.{map-append, length_push}
use Rattle.std.proofs.lemmas.List.Folds.{list_all-append}
use Rattle.cell_model.specs.declared.table.TableDecl.{TableDecl}
use Rattle.workload_spec.specs.declared.command.Command.{Command}
use Rattle.workload_spec.specs.declared.command.Command.TheVariants as command
use Rattle.workload_spec.specs.declared.script.Line.{Line}
use Rattle.workload_spec.specs.declared.script.Script.{Script}
use Rattle.workload_spec.specs.declared.reply.Who.TheVariants.{Session, Worker}
use Rattle.workload_spec.specs.declared.reply.Said.{Said}
use Rattle.workload_spec.specs.Grammar.{or_cause, table_named}
use Rattle.workload_spec.specs.ScriptText.{name_of_table}
use Rattle.workload_spec.specs.declared.script.Cause.TheVariants as cause
use Rattle.workload_spec.specs.Valid.{is_valid, has_head, is_table, is_table_place, is_command, is_name, is_name_byte, is_lower_case, is_within, are_columns, are_slots, are_blocks, have_own_names, most_tables, most_sessions, most_workers, most_turns, is_line, all_lines, is_export, has_version, takes_command}
use Rattle.workload_laws.proofs.Apart.{is_plain}
use Rattle.workload_laws.proofs.CommandsBack.{place_stands}
use Rattle.outcome_spec.specs.Forms.{Due, commands_of, dues_to, dues_in, dues_of, turn_of, is_upkeep}
use Rattle.timeline_spec.specs.Printed.{printed_of, text_of}
use Rattle.timeline_laws.specs.Laws.{TimelineIsRead, RunIsExplained, InTurnIsExplained}
use Rattle.timeline_laws.proofs.ReadBack.{NamesPlain}
use Rattle.timeline_laws.proofs.Turns.{IsStep, Named}
use Rattle.timeline_laws.proofs.Silence.{AllSteps, AreFormed, BeginsFixed, Pieces, dues_in_pieces, pieces-read}
use Rattle.timeline_laws.proofs.Kept.{AreNamed}
use Rattle.timeline_laws.proofs.States.{EachDue, timeline-replies}
use Rattle.timeline_laws.proofs.Printing.{printed-in-turn}
use Rattle.timeline_laws.proofs.Sound.{timeline-explained}
use Rattle.timeline_laws.proofs.Stated.{AreReplies}
use Rattle.timeline_laws.proofs.Lines.{lines_from}
use Rattle.outcome_spec.specs.Forms.{reading}
use Rattle.timeline_spec.specs.Printed.{printed_from}

-- ---- dues in pieces

-- dues are in pieces that are formed, and no steps stand in front
pub record Laid (tables : List TableDecl) (dues : List Due) : Type 0 where
  pub pieces : Pieces
  pub is : dues ≡ dues_in_pieces pieces
  pub formed : AreFormed tables pieces
  pub begins : BeginsFixed pieces

-- The dues of two lists of pieces, one behind the other, are those of the one, then of the other.
in-pieces-append : (a b : Pieces) → dues_in_pieces (a ++ b) ≡ dues_in_pieces a ++ dues_in_pieces b
in-pieces-append [] b = refl
in-pieces-append (inl due ∷ a) b = ap (λ (dues : List Due). due ∷ dues) (in-pieces-append a b)
in-pieces-append (inr steps ∷ a) b = ap (λ (dues : List Due). steps ++ dues) (in-pieces-append a b) ∙ sym (append_assoc steps (dues_in_pieces a) (dues_in_pieces b))

-- Pieces without steps in front, and more such, have no steps in front.
begins-append : (a b : Pieces) → BeginsFixed a → BeginsFixed b → BeginsFixed (a ++ b)
begins-append [] b h k = k
begins-append (inl due ∷ a) b h k = tt
begins-append (inr steps ∷ a) b h k = h

-- Formed pieces, and more that have no steps in front, are formed together.
formed-append : (tables : List TableDecl) (a b : Pieces) → AreFormed tables a → AreFormed tables b → BeginsFixed b → AreFormed tables (a ++ b)
formed-append tables [] b h k begins = k
formed-append tables (inl due ∷ a) b h k begins = (h.0, formed-append tables a b h.1 k begins)
formed-append tables (inr steps ∷ a) b h k begins = (h.0, begins-append a b h.1 begins, formed-append tables a b h.2 k begins)

module _ (tables : List TableDecl) where
  -- Where nothing is due, it is in pieces.
  laid-none : Laid tables []
  laid-none = record { pieces = []; is = refl; formed = tt; begins = tt }

  -- What is due in pieces, and then in more pieces, is in pieces.
  laid-append : (a b : List Due) → Laid tables a → Laid tables b → Laid tables (a ++ b)
  laid-append a b h k = record {
    pieces = h.pieces ++ k.pieces;
    is = ap (λ (dues : List Due). dues ++ b) h.is ∙ ap (λ (dues : List Due). dues_in_pieces h.pieces ++ dues) k.is ∙ sym (in-pieces-append h.pieces k.pieces);
    formed = formed-append tables h.pieces k.pieces h.formed k.formed k.begins;
    begins = begins-append h.pieces k.pieces h.begins k.begins;
  }

  -- Where each part is due in pieces, so are all parts together.
  laid-flat : {X : Type 0} (f : X → List Due) → ((x : X) → Laid tables (f x)) → (xs : List X) → Laid tables (flat_map f xs)
  laid-flat f h [] = laid-none
  laid-flat f h (x ∷ xs) = laid-append (f x) (flat_map f xs) (h x) (laid-flat f h xs)

  -- What is due of a session is in pieces.
  laid-session : (round session : ℕ) (commands : List Command) → Laid tables (dues_to round (Session session) commands)
  laid-session round session [] = laid-none
  laid-session round session (asked ∷ commands) =
      let rest = laid-session round session commands in
      record {
        pieces = inl (record { round = round; who = Session session; command = asked }) ∷ rest.pieces;
        is = ap (λ (dues : List Due). record { round = round; who = Session session; command = asked } ∷ dues) rest.is;
        formed = (inl (session, refl), rest.formed);
        begins = tt;
      }

  -- ---- a worker's turn

  -- Each of the commands is a step of a turn.
  abbrev EachStep : List Command → Type 0
  EachStep [] = Unit {0}
  EachStep (asked ∷ commands) = IsStep tables asked × EachStep commands

  -- Two lists of steps of a turn make one such list.
  each-append : (a b : List Command) → EachStep a → EachStep b → EachStep (a ++ b)
  each-append [] b h k = k
  each-append (asked ∷ a) b h k = (h.0, each-append a b h.1 k)

  -- The seals and gatherings of a table's blocks are steps of a turn.
  block-steps : (table first count : ℕ) → is_table_place tables table ≡ true → first + count ≤ 1024
      → EachStep (flat_map (λ block. command.Seal table block ∷ command.Gather table block ∷ []) (range_with_len first count))
  block-steps table first zero place few = tt
  block-steps table first (suc count) place few =
      ((place, omega (arith, few)), ((place, omega (arith, few)), block-steps table (first + 1) count place (omega (arith, few))))

  -- The table behind others stands at the place that they count.
  place-at : (front rest : List TableDecl) (table : TableDecl) → slice_get (front ++ table ∷ rest) (length front) ≡ Some table
  place-at [] rest table = refl
  place-at (other ∷ front) rest table = place-at front rest table

  -- A valid table has at most 1024 blocks.
  table-blocks : (table : TableDecl) → is_table table ≡ true → table.blocks ≤ 1024
  table-blocks table is =
      let parts = and_parts (is_name table.name && are_columns table.schema && are_slots table.schema table.slots) (are_blocks table.blocks) is in
      leb-true table.blocks 1024 (and_parts (nat_le 1 table.blocks) (nat_le table.blocks 1024) parts.1).1

  -- What a turn asks of valid tables are steps of a turn.
  table-steps : (front rest : List TableDecl) → tables ≡ front ++ rest → list_all is_table rest ≡ true
      → EachStep (flat_map (λ entry. command.Compact entry.0 ∷ flat_map (λ block. command.Seal entry.0 block ∷ command.Gather entry.0 block ∷ []) (range_with_len 0 entry.1.blocks))
      (enumerate_from (length front) rest))
  table-steps front [] whole valid = tt
  table-steps front (table ∷ rest) whole valid =
      let parts = and_parts (is_table table) (list_all is_table rest) valid in
      let there : is_table_place tables (length front) ≡ true = ap (λ (ts : List TableDecl). is_some (slice_get ts (length front))) whole ∙ ap is_some (place-at front rest table) in
      let blocks : 0 + table.blocks ≤ 1024 = let e = table-blocks table parts.0 in omega (arith, e) in
      let later = table-steps (front ++ table ∷ []) rest (whole ∙ sym (append_assoc front (table ∷ []) rest)) parts.1 in
      each-append (command.Compact (length front) ∷ flat_map (λ block. command.Seal (length front) block ∷ command.Gather (length front) block ∷ []) (range_with_len 0 table.blocks)) _
      (tt, block-steps (length front) 0 table.blocks there blocks)
      (subst (λ (n : ℕ). EachStep (flat_map (λ entry. command.Compact entry.0 ∷ flat_map (λ block. command.Seal entry.0 block ∷ command.Gather entry.0 block ∷ []) (range_with_len 0 entry.1.blocks)) (enumerate_from n rest)))
      (length_push front table) later)

  -- Steps that are asked of a worker are due as steps of its turn.
  all-steps : (round worker : ℕ) (commands : List Command) → EachStep commands → AllSteps tables round worker (dues_to round (Worker worker) commands)
  all-steps round worker [] h = tt
  all-steps round worker (asked ∷ commands) h = (refl, refl, h.0, all-steps round worker commands h.1)

  -- What is due of a worker's turn is in pieces.
  laid-turn : (round worker : ℕ) → list_all is_table tables ≡ true → Laid tables (dues_to round (Worker worker) (turn_of tables))
  laid-turn round worker valid =
      let commands = flat_map (λ (entry : ℕ × TableDecl). command.Compact entry.0 ∷ flat_map (λ block. command.Seal entry.0 block ∷ command.Gather entry.0 block ∷ []) (range_with_len 0 entry.1.blocks)) (enumerate_from 0 tables) in
      let observe : Due = record { round = round; who = Worker worker; command = command.Observe } in
      let prune : Due = record { round = round; who = Worker worker; command = command.Prune } in
      let steps = dues_to round (Worker worker) commands in
      record {
        pieces = inl observe ∷ inl prune ∷ inr steps ∷ [];
        is = ap (λ (dues : List Due). observe ∷ prune ∷ dues) (sym (append-nil steps));
        formed = (inr (worker, refl, inl refl), (inr (worker, refl, inr refl), ((round, worker, all-steps round worker commands (table-steps [] tables refl valid)), tt, tt)));
        begins = tt;
      }

  -- What is due of all turns of a worker is in pieces.
  laid-turns : (round worker : ℕ) → list_all is_table tables ≡ true → (turns : List ℕ) → Laid tables (dues_to round (Worker worker) (flat_map (λ turn. turn_of tables) turns))
  laid-turns round worker valid [] = laid-none
  laid-turns round worker valid (turn ∷ turns) =
      let rest = flat_map (λ (turn : ℕ). turn_of tables) turns in
      subst (Laid tables) (sym (map-append (λ (asked : Command). record { round = round; who = Worker worker; command = asked }) (turn_of tables) rest))
      (laid-append (dues_to round (Worker worker) (turn_of tables)) (dues_to round (Worker worker) rest) (laid-turn round worker valid) (laid-turns round worker valid turns))

-- What is due in a script is in pieces.
pub script-laid : (script : Script) → list_all is_table script.tables ≡ true → Laid script.tables (dues_of script)
script-laid script valid =
    laid-flat script.tables (λ (entry : ℕ × List Line). dues_in script entry.0 entry.1) (λ entry.
    laid-append script.tables (flat_map (λ session. dues_to entry.0 (Session session) (commands_of session entry.1)) (range_with_len 1 script.sessions)) _
    (laid-flat script.tables (λ session. dues_to entry.0 (Session session) (commands_of session entry.1)) (λ session. laid-session script.tables entry.0 session (commands_of session entry.1)) (range_with_len 1 script.sessions))
    (laid-flat script.tables (λ worker. dues_to entry.0 (Worker worker) (flat_map (λ turn. turn_of script.tables) (range_with_len 1 script.turns)))
    (λ worker. laid-turns script.tables entry.0 worker valid (range_with_len 1 script.turns)) (range_with_len 1 script.workers)))
    (enumerate_from 1 script.rounds)

-- ---- whose each due is

module _ (tables : List TableDecl) where
  -- Two lists of what sessions and workers are to do make one such list.
  due-append : (a b : List Due) → EachDue tables a → EachDue tables b → EachDue tables (a ++ b)
  due-append [] b h k = k
  due-append (due ∷ a) b h k = (h.0, due-append a b h.1 k)

  -- Where each part is what sessions and workers are to do, so are all together.
  due-flat : {X : Type 0} (f : X → List Due) → ((x : X) → EachDue tables (f x)) → (xs : List X) → EachDue tables (flat_map f xs)
  due-flat f h [] = tt
  due-flat f h (x ∷ xs) = due-append (f x) (flat_map f xs) (h x) (due-flat f h xs)

  -- Each of the commands is one of upkeep.
  abbrev EachUpkeep : List Command → Type 0
  EachUpkeep [] = Unit {0}
  EachUpkeep (asked ∷ commands) = (is_upkeep asked ≡ true) × EachUpkeep commands

  -- Two lists of upkeep make one such list.
  upkeep-append : (a b : List Command) → EachUpkeep a → EachUpkeep b → EachUpkeep (a ++ b)
  upkeep-append [] b h k = k
  upkeep-append (asked ∷ a) b h k = (h.0, upkeep-append a b h.1 k)

  -- Where each part is upkeep, so are all parts together.
  upkeep-flat : {X : Type 0} (f : X → List Command) → ((x : X) → EachUpkeep (f x)) → (xs : List X) → EachUpkeep (flat_map f xs)
  upkeep-flat f h [] = tt
  upkeep-flat f h (x ∷ xs) = upkeep-append (f x) (flat_map f xs) (h x) (upkeep-flat f h xs)

  -- Each command of a turn is one of upkeep.
  turn-upkeep : (of : List TableDecl) → EachUpkeep (turn_of of)
  turn-upkeep of = (refl, (refl, upkeep-flat table_commands table_upkeep (enumerate_from 0 of)))
    where
      block_commands : ℕ → ℕ → List Command
      block_commands table block = command.Seal table block ∷ command.Gather table block ∷ []

      block_upkeep : (table block : ℕ) → EachUpkeep (block_commands table block)
      block_upkeep table block = (refl, (refl, tt))

      table_commands : ℕ × TableDecl → List Command
      table_commands entry = command.Compact entry.0 ∷ flat_map (block_commands entry.0) (range_with_len 0 entry.1.blocks)

      table_upkeep : (entry : ℕ × TableDecl) → EachUpkeep (table_commands entry)
      table_upkeep entry = (refl, upkeep-flat (block_commands entry.0) (block_upkeep entry.0) (range_with_len 0 entry.1.blocks))

  -- Upkeep that is asked of a worker is due of it.
  due-worker : (round worker : ℕ) (commands : List Command) → EachUpkeep commands → EachDue tables (dues_to round (Worker worker) commands)
  due-worker round worker [] h = tt
  due-worker round worker (asked ∷ commands) h = (inr (worker, refl, h.0), due-worker round worker commands h.1)

  -- Each of the commands is valid with the tables.
  abbrev EachValid : List Command → Type 0
  EachValid [] = Unit {0}
  EachValid (asked ∷ commands) = (is_command tables asked ≡ true) × EachValid commands

  -- Valid commands that are asked of a session are due of it.
  due-session : (round session : ℕ) (commands : List Command) → EachValid commands → EachDue tables (dues_to round (Session session) commands)
  due-session round session [] h = tt
  due-session round session (asked ∷ commands) h = (inl (session, refl, h.0), due-session round session commands h.1)

  -- One more valid command, kept or not, leaves all commands valid.
  kept-command : (b : Bool) (asked : Command) (commands : List Command) → is_command tables asked ≡ true → EachValid commands → EachValid (cons_option (cond b (Some asked) None) commands)
  kept-command true asked commands h k = (h, k)
  kept-command false asked commands h k = k

-- The commands of a session in valid lines are valid.
commands-valid : (script : Script) (session : ℕ) (lines : List Line) → list_all (is_line script) lines ≡ true → EachValid script.tables (commands_of session lines)
commands-valid script session [] h = tt
commands-valid script session (line ∷ lines) h =
    let parts = and_parts (is_line script line) (list_all (is_line script) lines) h in
    kept-command script.tables (line.session == session) line.command (commands_of session lines)
    (and_parts (is_within 1 script.sessions line.session) (is_command script.tables line.command)
    (and_parts (is_within 1 script.sessions line.session && is_command script.tables line.command) (takes_command script.version line.command) parts.0).0).1 (commands-valid script session lines parts.1)

-- What is due in rounds of valid lines is a session's or a worker's.
rounds-due : (script : Script) (round : ℕ) (rounds : List (List Line)) → list_all (is_line script) (flat_map (λ lines. lines) rounds) ≡ true
    → EachDue script.tables (flat_map (λ entry. dues_in script entry.0 entry.1) (enumerate_from round rounds))
rounds-due script round [] h = tt
rounds-due script round (lines ∷ rounds) h =
    let parts = and_parts (list_all (is_line script) lines) (list_all (is_line script) (flat_map (λ lines. lines) rounds)) (sym (list_all-append (is_line script) lines (flat_map (λ lines. lines) rounds)) ∙ h) in
    due-append script.tables (dues_in script round lines) _
    (due-append script.tables (flat_map (λ session. dues_to round (Session session) (commands_of session lines)) (range_with_len 1 script.sessions)) _
    (due-flat script.tables (λ session. dues_to round (Session session) (commands_of session lines)) (λ session. due-session script.tables round session (commands_of session lines) (commands-valid script session lines parts.0)) (range_with_len 1 script.sessions))
    (due-flat script.tables (λ worker. dues_to round (Worker worker) (flat_map (λ turn. turn_of script.tables) (range_with_len 1 script.turns)))
    (λ worker. due-worker script.tables round worker _ (upkeep-flat script.tables (λ turn. turn_of script.tables) (λ turn. turn-upkeep script.tables script.tables) (range_with_len 1 script.turns))) (range_with_len 1 script.workers)))
    (rounds-due script (round + 1) rounds parts.1)

-- ---- names

-- A byte that is a lower-case letter, a digit or an underscore is plain.
name-byte-by : (byte : ℕ) (lower digit under : Bool) → (nat_le 97 byte && nat_le byte 122) ≡ lower → (nat_le 48 byte && nat_le byte 57) ≡ digit → eqb byte 95 ≡ under → (lower || digit || under) ≡ true → is_plain byte ≡ true
name-byte-by byte true digit under l d u h = let parts = and_parts (nat_le 97 byte) (nat_le byte 122) l in lt-ltb 34 byte (let e : 97 ≤ byte = leb-true 97 byte parts.0 in omega (arith, e))
name-byte-by byte false true under l d u h = let parts = and_parts (nat_le 48 byte) (nat_le byte 57) d in lt-ltb 34 byte (let e : 48 ≤ byte = leb-true 48 byte parts.0 in omega (arith, e))
name-byte-by byte false false true l d u h = let e : nat_lt 34 byte ≡ true = grind (arith, nat_tests, u) in e
name-byte-by byte false false false l d u h = absurd (let never : ⊥ = cc in never)

-- A byte that a name may have is plain.
name-byte : (byte : ℕ) → is_name_byte byte ≡ true → is_plain byte ≡ true
name-byte byte h = name-byte-by byte (nat_le 97 byte && nat_le byte 122) (nat_le 48 byte && nat_le byte 57) (eqb byte 95) refl refl refl h

-- A lower-case letter is a plain byte.
lower-byte : (byte : ℕ) → is_lower_case byte ≡ true → is_plain byte ≡ true
lower-byte byte h = let parts = and_parts (nat_le 97 byte) (nat_le byte 122) h in lt-ltb 34 byte (let e : 97 ≤ byte = leb-true 97 byte parts.0 in omega (arith, e))

-- A word of bytes that a name may have is plain.
name-rest : (word : List ℕ) → list_all is_name_byte word ≡ true → list_all is_plain word ≡ true
name-rest [] h = refl
name-rest (byte ∷ word) h =
    let parts = and_parts (is_name_byte byte) (list_all is_name_byte word) h in
    and_from (is_plain byte) (list_all is_plain word) (name-byte byte parts.0) (name-rest word parts.1)

-- A name is a word of plain bytes.
name-plain : (word : List ℕ) → is_name word ≡ true → list_all is_plain word ≡ true
name-plain [] h = refl
name-plain (first ∷ rest) h =
    let parts = and_parts (is_lower_case first && list_all is_name_byte rest) (nat_lt (length rest) 32) h in
    let inner = and_parts (is_lower_case first) (list_all is_name_byte rest) parts.0 in
    and_from (is_plain first) (list_all is_plain rest) (lower-byte first inner.0) (name-rest rest inner.1)

-- The names of valid tables are of plain bytes.
names-plain : (tables : List TableDecl) → list_all is_table tables ≡ true → NamesPlain tables
names-plain [] h table = refl
names-plain (decl ∷ tables) h zero =
    let parts = and_parts (is_table decl) (list_all is_table tables) h in
    let last = and_parts (is_name decl.name && are_columns decl.schema && are_slots decl.schema decl.slots) (are_blocks decl.blocks) parts.0 in
    let third = and_parts (is_name decl.name && are_columns decl.schema) (are_slots decl.schema decl.slots) last.0 in
    name-plain decl.name (and_parts (is_name decl.name) (are_columns decl.schema) third.0).0
names-plain (decl ∷ tables) h (suc table) = names-plain tables (and_parts (is_table decl) (list_all is_table tables) h).1 table

-- No two of valid tables with names of their own have one name.
names-apart : (tables : List TableDecl) → list_all is_table tables ≡ true → have_own_names tables ≡ true → Named tables
names-apart tables all own a b at_a at_b same =
    let first = place_stands tables a all own at_a in
    let second = place_stands tables b all own at_b in
    let e = sym first.named ∙ ap (table_named tables) same ∙ second.named in
    cc

-- What is found is found where it is asked for by its cause.
named-found : (found : Option ℕ) (table : ℕ) → or_cause cause.Unknown found ≡ Ok table → found ≡ Some table
named-found None table h = absurd (let never : ⊥ = cc in never)
named-found (Some place) table h = (let e : place ≡ table = cc in ap Some e)

-- A name begins with a letter.
name-letter : (word : List ℕ) → is_name word ≡ true → (first : ℕ) × (rest : List ℕ) × (word ≡ first ∷ rest) × (58 ≤ first)
name-letter [] h = absurd (let never : ⊥ = cc in never)
name-letter (first ∷ rest) h =
    let parts = and_parts (is_lower_case first && list_all is_name_byte rest) (nat_lt (length rest) 32) h in
    let lower = and_parts (is_lower_case first) (list_all is_name_byte rest) parts.0 in
    let low = and_parts (nat_le 97 first) (nat_le first 122) lower.0 in
    (first, rest, refl, (let e : 97 ≤ first = leb-true 97 first low.0 in omega (arith, e)))

-- The name of a valid table.
table-name : (decl : TableDecl) → is_table decl ≡ true → is_name decl.name ≡ true
table-name decl h =
    let last = and_parts (is_name decl.name && are_columns decl.schema && are_slots decl.schema decl.slots) (are_blocks decl.blocks) h in
    let third = and_parts (is_name decl.name && are_columns decl.schema) (are_slots decl.schema decl.slots) last.0 in
    (and_parts (is_name decl.name) (are_columns decl.schema) third.0).0

-- Valid tables with names of their own are named.
tables-named : (tables : List TableDecl) → list_all is_table tables ≡ true → have_own_names tables ≡ true → AreNamed tables
tables-named tables all own table there =
    let stands = place_stands tables table all own there in
    let name : name_of_table tables table ≡ stands.table.name = ap (λ (o : Option TableDecl). option_map_or (λ t. t.name) o []) stands.at in
    let letter = name-letter stands.table.name (table-name stands.table stands.is) in
    record { at = named-found _ table stands.named; first = letter.0; rest = letter.1; is = name ∙ letter.2; letter = letter.3 }

-- ---- valid scripts

-- what of a valid script is used: its tables, their names and its lines
pub record IsSound (script : Script) : Type 0 where
  pub tables : list_all is_table script.tables ≡ true
  pub names : have_own_names script.tables ≡ true
  pub lines : list_all (is_line script) (all_lines script) ≡ true

-- A valid script has valid tables with names of their own, and valid lines.
script-sound : (script : Script) → is_valid script ≡ true → IsSound script
script-sound script h =
    let a = and_parts (has_head script && nat_lt 0 (length script.rounds) && list_all (is_line script) (all_lines script)) (nat_le (count_by (λ line. is_export line.command) (all_lines script)) 1) h in
    let b = and_parts (has_head script && nat_lt 0 (length script.rounds)) (list_all (is_line script) (all_lines script)) a.0 in
    let c = and_parts (has_head script) (nat_lt 0 (length script.rounds)) b.0 in
    let first = has_version script in
    let second = is_within 1 most_tables (length script.tables) in
    let third = list_all is_table script.tables in
    let fourth = have_own_names script.tables in
    let fifth = is_within 1 most_sessions script.sessions in
    let sixth = nat_le script.workers most_workers in
    let d = and_parts (first && second && third && fourth && fifth && sixth) (nat_le script.turns most_turns) c.0 in
    let e = and_parts (first && second && third && fourth && fifth) sixth d.0 in
    let f = and_parts (first && second && third && fourth) fifth e.0 in
    let g = and_parts (first && second && third) fourth f.0 in
    record { tables = (and_parts (first && second) third g.0).1; names = g.1; lines = b.1 }

-- ---- the law of a run

-- The text of the printed replies is read as these replies.
abbrev IsReadBack : Script → List Due → List (Option Said) → Type 0
IsReadBack script dues told = reading script.tables dues [] (lines_from script.tables (printed_from script.tables [] dues told)) ≡ Ok ([] ++ printed_from script.tables [] dues told)

-- The printed text of a timeline is read back.
pub timeline-read : TimelineIsRead
timeline-read script told timeline valid first may t =
    let sound = script-sound script valid in
    let laid = script-laid script sound.tables in
    let replies = timeline-replies script told timeline first (tables-named script.tables sound.tables sound.names) (rounds-due script 1 script.rounds sound.lines) may t in
    subst (λ (dues : List Due). IsReadBack script dues told) (sym laid.is)
    (pieces-read script.tables (names-plain script.tables sound.tables) (names-apart script.tables sound.tables sound.names) laid.pieces laid.formed [] told
    (subst (λ (dues : List Due). AreReplies script.tables [] dues told) laid.is replies))

-- The printed text of a timeline is explained.
pub run-explained : RunIsExplained
run-explained script told timeline valid first may t = timeline-explained script (text_of script told) (printed_of script told) timeline (timeline-read script told timeline valid first may t) t

-- So is that of replies that came about as they are printed.
pub in-turn-explained : InTurnIsExplained
in-turn-explained script told valid first may runs = run-explained script told (printed_of script told) valid first may (printed-in-turn script told runs)
