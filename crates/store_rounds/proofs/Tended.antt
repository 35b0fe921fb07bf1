-- A worker's commands of upkeep, one behind the other.
use Rattle.std.proofs.Common.{◌≡◌, ℕ, ◌+◌, ◌<◌, ◌≤◌, ◌^◌, Bool, true, false, List, [], ◌∷◌, ◌++◌, map, length, take, get_or, nat_lt, Option, None, Some, refl, sym, ap, subst, ◌∙◌, append-nil, append_assoc, arith}
use mathlib.Core.Logic.{inl, inr}
use Rattle.std.specs.Global.{Vec as GlobalVec}
use Rattle.std.specs.List.{enumerate_from, flat_map, range_with_len}
use Rattle.std.specs.Option.{option_map_or}
use Rattle.std.specs.Prelude.{IfOk, Result, Ok, Err, if◌then◌else◌, option_map, option_to_list, slice_get, unwrap_or}
use Rattle.std.proofs.lemmas.Bool.{lt-ltb}
use Rattle.std.proofs.lemmas.List.{flat_map_more, map-append, take_all, take_more}
use Rattle.std.proofs.lemmas.List.Elements.{All-append, All-cons, All-nil, filter_map-append}
use Rattle.std.proofs.lemmas.List.FromFn.{get_or-enumerate_from, length-enumerate_from}
use Rattle.std.proofs.lemmas.Option.{slice_get-get_or}
use Rattle.cell_model.specs.declared.table.TableDecl.{TableDecl}
use Rattle.event_spec.specs.declared.own.OwnTransaction.{OwnTransaction}
use Rattle.event_spec.specs.Parts.{Shape, blocks_of}
use Rattle.outcome_spec.specs.Forms.{is_silent, is_upkeep, turn_of}
use Rattle.run_laws.specs.Rounds.Lines.{told_by}
use Rattle.run_laws.specs.Rounds.Texts.{IsCounted}
use Rattle.run_laws.proofs.Rounds.Working.{called_earlier, further, nothing_done}
use Rattle.run_spec.specs.Calls.{Call, IsCallBy, line_to}
use Rattle.run_spec.specs.Handed.{Works, own_in}
use Rattle.run_spec.specs.Occurrences.{Logged, Occurrence}
use Rattle.run_spec.specs.Opened.{own_after}
use Rattle.run_spec.specs.Told.{refusal_of}
use Rattle.shared_store.proofs.Scanned.{below_more}
use Rattle.shared_store.specs.Store.{Answers, MakesAtMost, StoreView, seen, shape_in, reads_of}
use Rattle.shared_store.proofs.OwnCommits.{keeps_along}
use Rattle.store_rounds.specs.Sessions.{IsFreeSession}
use Rattle.shared_store.specs.declared.session.Session.{Session}
use Rattle.workload_spec.specs.Valid.{is_block_of}
use Rattle.workload_spec.specs.declared.command.Command.{Command}
use Rattle.workload_spec.specs.declared.command.Command.TheVariants as command
use Rattle.workload_spec.specs.declared.reply.Said.{Said}
use Rattle.workload_spec.specs.declared.reply.Said.TheVariants as said
use Rattle.store_rounds.specs.Keeping.{Counts}
use Rattle.store_rounds.specs.Turns.{KeepsUp, MadeTurn, Tells, asked_of_block, asked_of_table, asked_of_tables, most_of_turn}
use Rattle.store_rounds.specs.declared.upkeep_lines.Lines.{Lines}
use Rattle.store_rounds.proofs.Kept.{none_is_some, upkeep_free}
use Rattle.shared_store.specs.Reads.{ReadSet}
use Rattle.store_rounds.proofs.Keeps.{along_on, along_one, silent_reads}

-- ---- a session's call of upkeep as a worker's

-- A worker's call is a session's, but for its line.
call_by_worker : (shape : Shape) (session : ℕ) (own : Option OwnTransaction) (reads : Option ReadSet) (refusal : Option Said) (command : Command) (made : List Occurrence) (told : Said) → refusal ≡ None
    → IsCallBy shape false session own refusal (record { command = command; made = made; told = Some told; reads = reads })
    → IsCallBy shape true session own refusal (record { command = command; made = made; told = line_to true (Some told); reads = reads })
call_by_worker shape session own reads (Some line) command made told free is = absurd (none_is_some line free)
call_by_worker shape session own reads None command made told free (inl whole) =
    inl (record { events = whole.events; granted = whole.granted; line = ap (line_to true) whole.line })
call_by_worker shape session own reads None command made told free (inr part) =
    inr (record { may = part.may; missed = part.missed; events = part.events; cut = part.cut; line = ap (line_to true) part.line })

-- what a worker's line counts its answer counts
counted_by_worker : (told : Said) → Counts told → (count : ℕ) → line_to true (Some told) ≡ Some (said.Pruned count) → count < 2 ^ 64
counted_by_worker told counts count line = counts count (shown (is_silent told) line)
  where
    shown : (silent : Bool) → (if silent then None else Some told) ≡ Some (said.Pruned count) → told ≡ said.Pruned count
    shown true e = cc
    shown false e = cc

-- one call tells its line
told_by_one : (command : Command) (made : List Occurrence) (told : Option Said) (reads : Option ReadSet)
    → told_by (record { command = command; made = made; told = told; reads = reads } ∷ []) ≡ option_to_list told
told_by_one command made None reads = refl
told_by_one command made (Some told) reads = refl

-- ---- calls one behind the other

-- Calls that go on from where others ended are carried out behind those.
works_on : (shape : Shape) (worker : Bool) (session : ℕ) (old mid new : List Logged) (xs ys : List Call)
    → Works shape worker session old xs mid → Works shape worker session mid ys new → Works shape worker session old (xs ++ ys) new
works_on shape worker session old mid new [] [] a b = (further old mid new a.0 b.0, b.1 ∙ a.1)
works_on shape worker session old mid new [] (y ∷ ys) a b =
    (b.0, called_earlier shape worker session old mid b.0 y a.0 a.1 b.1, b.2)
works_on shape worker session old mid new (x ∷ xs) ys a b =
    (a.0, a.1, works_on shape worker session a.0 mid new xs ys a.2 b)

-- ---- lines one behind the other

-- What is told in two steps is told in one, the second's lines behind the first's.
told_on : (before between now : Lines) (xs ys : List Said) → Tells before between xs → Tells between now ys → Tells before now (xs ++ ys)
told_on before between now xs ys a b kept =
    let second = b kept in
    let first = a second.0 in
    (first.0, second.1 ∙ ap (λ (told : List Said). told ++ ys) first.1 ∙ append_assoc before.told.items xs ys)

-- ---- upkeep, command by command

module _ (store : StoreView) where
  -- before any command there was no upkeep
  pub keeps_nothing : (s : Session) (lines : Lines) → IsFreeSession store s → KeepsUp store s s lines lines [] 0
  keeps_nothing s lines is = record {
    is_session = is;
    same = refl;
    calls = [];
    works = nothing_done (shape_in store) true s.session (seen s);
    asked = refl;
    counted = All-nil IsCounted;
    kept = refl;
    keeps = λ taken keeps. keeps;
    lines = λ kept. (kept, sym (append-nil lines.told.items));
    few = omega arith;
  }

  -- one command of upkeep, with its line
  pub keeps_one : (old new : Session) (before now : Lines) (command : Command) (told : Said) (most : ℕ) → is_upkeep command ≡ true
      → IsFreeSession store new → new.session ≡ old.session → Answers store old new command told → Counts told → MakesAtMost most old new
      → Tells before now (option_to_list (line_to true (Some told))) → KeepsUp store old new before now (command ∷ []) most
  keeps_one old new before now command told most upkeep is same answers counts few tells = record {
    is_session = is;
    same = same;
    calls = call ∷ [];
    works = (
      seen new,
      record {
        stretch = answers.called.stretch;
        is_call = call_by_worker (shape_in store) old.session own (reads_of old) (refusal_of command own) command answers.made told (upkeep_free command own upkeep) answers.called.is_call;
      },
      nothing_done (shape_in store) true old.session (seen new),
    );
    asked = refl;
    counted = All-cons IsCounted call [] (counted_by_worker told counts) (All-nil IsCounted);
    kept = along_one (reads_of old) (reads_of new) call refl (answers.keeps ∙ sym (silent_reads (reads_of old) command told));
    keeps = keeps_along store old new command told answers same;
    lines = subst (Tells before now) (sym (told_by_one command answers.made (line_to true (Some told)) (reads_of old))) tells;
    few = few;
  }
    where
      own : Option OwnTransaction
      own = own_after (own_in (shape_in store) old.session (seen old))

      call : Call
      call = record { command = command; made = answers.made; told = line_to true (Some told); reads = reads_of old }

  -- upkeep behind upkeep is upkeep
  pub keeps_on : (old mid new : Session) (before between now : Lines) (xs ys : List Command) (m n : ℕ)
      → KeepsUp store old mid before between xs m → KeepsUp store mid new between now ys n → KeepsUp store old new before now (xs ++ ys) (m + n)
  keeps_on old mid new before between now xs ys m n a b = record {
    is_session = b.is_session;
    same = b.same ∙ a.same;
    calls = a.calls ++ b.calls;
    works = works_on (shape_in store) true old.session (seen old) (seen mid) (seen new) a.calls b.calls a.works
        (subst (λ session. Works (shape_in store) true session (seen mid) b.calls (seen new)) a.same b.works);
    asked = map-append (λ (call : Call). call.command) a.calls b.calls
        ∙ ap (λ (commands : List Command). commands ++ map (λ (call : Call). call.command) b.calls) a.asked
        ∙ ap (λ (commands : List Command). xs ++ commands) b.asked;
    counted = All-append IsCounted a.calls b.calls a.counted b.counted;
    kept = along_on (reads_of old) a.calls (reads_of mid) b.calls (reads_of new) a.kept b.kept;
    keeps = λ taken keeps. b.keeps taken (a.keeps taken keeps);
    lines = subst (Tells before now) (sym (filter_map-append (λ (call : Call). call.told) a.calls b.calls))
        (told_on before between now (told_by a.calls) (told_by b.calls) a.lines b.lines);
    few = let first = a.few in let second = b.few in omega (arith, first, second);
  }

  -- more events and other words for the commands
  pub keeps_as : (old new : Session) (before now : Lines) (xs ys : List Command) (m n : ℕ) → xs ≡ ys → m ≤ n
      → KeepsUp store old new before now xs m → KeepsUp store old new before now ys n
  keeps_as old new before now xs ys m n same more k = record {
    is_session = k.is_session;
    same = k.same;
    calls = k.calls;
    works = k.works;
    asked = k.asked ∙ same;
    counted = k.counted;
    kept = k.kept;
    keeps = k.keeps;
    lines = k.lines;
    few = let few = k.few in omega (arith, few, more);
  }

  -- a whole turn
  pub turn_made : {E : Type 0} (old new : Session) (before now : Lines) (told : Result (GlobalVec Said) E) (most : ℕ)
      → before.told.items ≡ [] → most ≤ most_of_turn → KeepsUp store old new before now (turn_of (shape_in store).tables) most
      → IfOk told (λ lines. (now.lost ≡ false) × (lines.items ≡ now.told.items)) → MadeTurn store old new told
  turn_made {E} old new before now told most empty few k all = record {
    is_session = k.is_session;
    same = k.same;
    calls = k.calls;
    works = k.works;
    asked = k.asked;
    counted = k.counted;
    kept = k.kept;
    keeps = k.keeps;
    lines = lines_of told all;
    few = let made = k.few in omega (arith, made, few);
  }
    where
      lines_of : (told : Result (GlobalVec Said) E) → IfOk told (λ lines. (now.lost ≡ false) × (lines.items ≡ now.told.items))
          → IfOk told (λ lines. lines.items ≡ told_by k.calls)
      lines_of (Ok lines) all =
          all.1 ∙ (k.lines all.0).1 ∙ ap (λ (told : List Said). told ++ told_by k.calls) empty
      lines_of (Err error) all = tt

-- ---- what is asked of the first blocks and tables

-- a compaction of a table, and what is asked of so many of its blocks
abbrev pub first_blocks : ℕ → ℕ → List Command
first_blocks table count = command.Compact table ∷ flat_map (asked_of_block table) (range_with_len 0 count)

-- what is asked of a table's first blocks, with one block more
pub block_more : (table block : ℕ) → first_blocks table block ++ asked_of_block table block ≡ first_blocks table (block + 1)
block_more table block =
    flat_map_more (asked_of_block table) (command.Compact table ∷ []) (range_with_len 0 block) block
    ∙ ap (λ (blocks : List ℕ). command.Compact table ∷ flat_map (asked_of_block table) blocks) (sym (below_more block))

-- What is asked of a table that is given with its number.
abbrev asked_of_entry : ℕ × TableDecl → List Command
asked_of_entry entry = asked_of_table entry.0 entry.1.blocks

-- what is asked of so many tables
abbrev pub first_tables : List TableDecl → ℕ → List Command
first_tables tables count = flat_map asked_of_entry (take count (enumerate_from 0 tables))

-- what is asked of the first tables, as many as there are, is asked of all
pub all_tables : (tables : List TableDecl) → first_tables tables (length tables) ≡ asked_of_tables tables
all_tables tables =
    let size = length-enumerate_from 0 tables in
    ap (flat_map asked_of_entry) (take_all (length tables) (enumerate_from 0 tables) (omega (arith, size)))

-- what is asked of the first tables, with one table more
pub table_more : (shape : Shape) (table : ℕ) → table < length shape.tables
    → first_tables shape.tables table ++ asked_of_table table (blocks_of shape table) ≡ first_tables shape.tables (table + 1)
table_more shape table low = go shape.tables low
  where
    go : (tables : List TableDecl) → table < length tables
        → first_tables tables table ++ asked_of_table table (unwrap_or (option_map (λ (t : TableDecl). t.blocks) (slice_get tables table)) 0) ≡ first_tables tables (table + 1)
    go [] low = absurd (omega (arith, low))
    go (t ∷ tables) low =
        let all : List TableDecl = t ∷ tables in
        let size = length-enumerate_from 0 all in
        let here : ℕ × TableDecl = (table, get_or all table t) in
        let number : 0 + table ≡ table = omega arith in
        let entry : get_or (enumerate_from 0 all) table (0, t) ≡ here =
        get_or-enumerate_from 0 all table (0, t) low ∙ ap (λ (n : ℕ). (n, get_or all table t)) number in
        let asked : asked_of_table table (unwrap_or (option_map (λ (t : TableDecl). t.blocks) (slice_get all table)) 0) ≡ asked_of_entry here =
        ap (λ (found : Option TableDecl). asked_of_table table (unwrap_or (option_map (λ (t : TableDecl). t.blocks) found) 0)) (slice_get-get_or all table t low) in
        let taken : take (table + 1) (enumerate_from 0 all) ≡ take table (enumerate_from 0 all) ++ here ∷ [] =
        take_more (enumerate_from 0 all) table (0, t) (omega (arith, size, low))
        ∙ ap (λ (e : ℕ × TableDecl). take table (enumerate_from 0 all) ++ e ∷ []) entry in
        ap (λ (commands : List Command). first_tables all table ++ commands) asked
        ∙ flat_map_more asked_of_entry [] (take table (enumerate_from 0 all)) here
        ∙ ap (flat_map asked_of_entry) (sym taken)

-- ---- how many blocks a table has

-- as many as the one that is read at its place has
pub blocks_read : (shape : Shape) (tables : List TableDecl) (table : ℕ) (d : TableDecl) → tables ≡ shape.tables → table < length shape.tables
    → blocks_of shape table ≡ (get_or tables table d).blocks
blocks_read shape tables table d same low =
    ap (λ (ts : List TableDecl). unwrap_or (option_map (λ (t : TableDecl). t.blocks) (slice_get ts table)) 0) (sym same)
    ∙ ap (λ (found : Option TableDecl). unwrap_or (option_map (λ (t : TableDecl). t.blocks) found) 0)
    (slice_get-get_or tables table d (subst (λ (ts : List TableDecl). table < length ts) (sym same) low))

-- a block below that is one
pub block_there : (tables : List TableDecl) (table block : ℕ) → block < unwrap_or (option_map (λ (t : TableDecl). t.blocks) (slice_get tables table)) 0
    → is_block_of tables table block ≡ true
block_there tables table block low = found (slice_get tables table) low
  where
    found : (o : Option TableDecl) → block < unwrap_or (option_map (λ (t : TableDecl). t.blocks) o) 0 → option_map_or (λ (t : TableDecl). nat_lt block t.blocks) o false ≡ true
    found None low = absurd (omega (arith, low))
    found (Some t) low = lt-ltb block t.blocks low
