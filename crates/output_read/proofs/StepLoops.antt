-- The steps of a turn that may be silent are read line by line.
use Rattle.std.proofs.Common.{◌≡◌, ℕ, ◌+◌, ◌-◌, ◌^◌, ◌<◌, ◌≤◌, Bool, true, false, cond, List, [], ◌∷◌, ◌++◌, length, drop, None, Some, Err, refl, sym, ap, ◌∙◌, subst, arith, suc, append_assoc}
use Rattle.std.specs.Prelude.{◌==◌, nat_lt}
use Rattle.std.specs.List.{list_all, enumerate_from}
use Rattle.std.proofs.lemmas.Bool.{and_parts, eq-eqb, lt-ltb, ltb-true, ltb-false, ne_eqb}
use Rattle.std.proofs.lemmas.Option.{same_Some}
use Rattle.cell_model.specs.declared.table.TableDecl.{TableDecl}
use Rattle.workload_spec.specs.declared.command.Command.TheVariants as command
use Rattle.workload_spec.specs.declared.reply.Who.TheVariants.{Worker}
use Rattle.workload_spec.specs.declared.reply.Said.{Said}
use Rattle.workload_spec.specs.declared.reply.Said.TheVariants as said
use Rattle.workload_spec.specs.Valid.{is_table}
use Rattle.outcome_spec.specs.Entries.{Entry}
use Rattle.outcome_spec.specs.Tables.{blocks_at}
use Rattle.outcome_spec.specs.Forms.{Due, entry_behind, line_count, next_line, reading}
use Rattle.reply_text.specs.Shown.{is_u32, is_u64, are_tables}
use Rattle.output_read.specs.declared.kept.KeptReply.{KeptReply}
use Rattle.output_read.specs.declared.reader.Reader.{Reader}
use Rattle.output_read.specs.declared.turns.NextSteps.{NextSteps}
use Rattle.output_read.specs.declared.workers.Shift.{Shift}
use Rattle.output_read.specs.Fronts.{said_first}
use Rattle.output_read.specs.Kept.{entry_of}
use Rattle.output_read.specs.Order.{AddsAll}
use Rattle.output_read.specs.Readers.{IsReading, FailsAt, read_by, lines_left, reads, next_index}
use Rattle.output_read.specs.Turns.{begins_anew, next_steps, next_table, one_more, after_memory, may_seal, may_gather}
use Rattle.output_read.specs.Work.{IsFew, IsShift, ShiftGoes, StepKept, steps_behind, work_dues}
use Rattle.output_read.proofs.Fitting.{never}
use Rattle.output_read.proofs.Keys.{absurdly}
use Rattle.output_read.proofs.Names.{names-plain, tables-valid}
use Rattle.output_read.proofs.Keeping.{Kept, read-more, index-few}
use Rattle.output_read.proofs.Passing.{adds-append, adds-none}
use Rattle.output_read.proofs.SessionReplies.{line-of}
use Rattle.output_read.proofs.Silences.{step_due, no-first, blocks_of, steps_of}
use Rattle.output_read.proofs.Placing.{InTurn, from_next, has-blocks, blocks_from}
use Rattle.output_read.proofs.StepLines.{step-on, step-stop, stop-end, one-kind, unsaid}
use Rattle.output_read.proofs.WorkLines.{kept-entry, reads-on, shift-on, adds-it}

-- ---- the steps behind one are in the turn

module _ (tables : List TableDecl) (round worker : ℕ) (valid : list_all is_table tables ≡ true) where
  -- The steps that may be next are steps of the worker's turn.
  abbrev In : NextSteps → Type 0
  In steps = InTurn tables round worker valid steps

  -- Also one table further, the steps end no later than the turn.
  more-until : (until : ℕ) → until ≤ length tables → one_more tables until ≤ length tables
  more-until until most = by (nat_lt until (length tables)) refl
    where
      by : (b : Bool) → nat_lt until (length tables) ≡ b → cond b (until + 1) until ≤ length tables
      by true h = let e = ltb-true until (length tables) h in omega (arith, e)
      by false h = most

  -- One table further is no table back.
  more-least : (until : ℕ) → until ≤ one_more tables until
  more-least until = by (nat_lt until (length tables))
    where
      by : (b : Bool) → until ≤ cond b (until + 1) until
      by true = omega arith
      by false = omega arith

  -- The next table is in front of where the steps end with one table further.
  grows : (steps : NextSteps) → In steps → steps.table + 1 < length tables → steps.table + 1 < one_more tables steps.until
  grows steps is few = by (nat_lt steps.until (length tables)) refl
    where
      by : (b : Bool) → nat_lt steps.until (length tables) ≡ b → steps.table + 1 < cond b (steps.until + 1) steps.until
      by true h = let e = is.behind in omega (arith, e)
      by false h = let e = ltb-false steps.until (length tables) h in omega (arith, e, few)

  -- The steps behind the next table's compaction are steps of the turn.
  table-in : (steps after : NextSteps) → In steps → next_table tables steps ≡ Some after → In after
  table-in steps after is h = by (nat_lt (steps.table + 1) (length tables)) refl h
    where
      by : (b : Bool) → nat_lt (steps.table + 1) (length tables) ≡ b → cond b (Some (record { table = steps.table + 1; block = 0; sealed = false; until = one_more tables steps.until })) None ≡ Some after → In after
      by true t e =
          let few = ltb-true (steps.table + 1) (length tables) t in
          subst In (same_Some _ after e) (record {
            table = few;
            behind = grows steps is few;
            until = more-until steps.until is.until;
            block = omega arith;
            sealed = λ f. absurd (never f);
          })
      by false t e = absurd (absurdly (sym e))

  -- The steps behind a refusal of memory are steps of the turn.
  memory-in : (steps after : NextSteps) → In steps → after_memory tables steps ≡ Some after → In after
  memory-in steps after is h = by (nat_lt steps.block (blocks_at tables steps.table)) refl h
    where
      by : (b : Bool) → nat_lt steps.block (blocks_at tables steps.table) ≡ b
          → cond b (Some (record { table = steps.table; block = steps.block + 1; sealed = false; until = one_more tables steps.until })) (next_table tables steps) ≡ Some after → In after
      by true t e =
          let few = ltb-true steps.block (blocks_at tables steps.table) t in
          subst In (same_Some _ after e) (record {
            table = is.table;
            behind = let a = is.behind in let b = more-least steps.until in omega (arith, a, b);
            until = more-until steps.until is.until;
            block = omega (arith, few);
            sealed = λ f. absurd (never f);
          })
      by false t e = table-in steps after is e

  -- The steps from a place among a table's blocks on are steps of the turn.
  one-in : (table block : ℕ) (sealed : Bool) (from : ℕ) → block < blocks_at tables table → from ≤ blocks_at tables table → (sealed ≡ true → from < blocks_at tables table) → In (record { table = table; block = from; sealed = sealed; until = table + 1 })
  one-in table block sealed from few most there = record {
    table = has-blocks tables table block few;
    behind = omega arith;
    until = let e = has-blocks tables table block few in omega (arith, e);
    block = most;
    sealed = there;
  }

  -- The steps behind a block's seal are steps of the turn.
  seal-in : (steps after : NextSteps) (table block : ℕ) (b : Bool) → may_seal tables steps table block ≡ b → cond b (Some (record { table = table; block = block; sealed = true; until = table + 1 })) None ≡ Some after → In after
  seal-in steps after table block true t e =
      let few = ltb-true block (blocks_at tables table) (and_parts (nat_lt block (blocks_at tables table)) _ t).0 in
      subst In (same_Some _ after e) (one-in table block true block few (omega (arith, few)) (λ f. few))
  seal-in steps after table block false t e = absurd (absurdly (sym e))

  -- The steps behind a block's gathering are steps of the turn.
  gather-in : (steps after : NextSteps) (table block : ℕ) (b : Bool) → may_gather tables steps table block ≡ b → cond b (Some (record { table = table; block = block + 1; sealed = false; until = table + 1 })) None ≡ Some after → In after
  gather-in steps after table block true t e =
      let few = ltb-true block (blocks_at tables table) (and_parts (nat_lt block (blocks_at tables table)) _ t).0 in
      subst In (same_Some _ after e) (one-in table block false (block + 1) few (omega (arith, few)) (λ f. absurd (never f)))
  gather-in steps after table block false t e = absurd (absurdly (sym e))

  -- the steps behind one that was said are steps of the turn
  pub after-in : (steps after : NextSteps) (told : Said) → In steps → next_steps tables steps told ≡ Some after → In after
  after-in steps after (said.Moved count) is h = table-in steps after is h
  after-in steps after said.Memory is h = memory-in steps after is h
  after-in steps after (said.Sealed table block stamp) is h = seal-in steps after table block (may_seal tables steps table block) refl h
  after-in steps after (said.Frozen table block rows) is h = gather-in steps after table block (may_gather tables steps table block) refl h
  after-in steps after _ is h = absurd (absurdly (sym h))

-- ---- line by line

-- The steps over the first table's blocks, in front of any of them.
abbrev first_steps : NextSteps
first_steps = record { table = 0; block = 0; sealed = false; until = 1 }

module _ (old : Reader) (begun : Shift) (are : are_tables old.tables.now ≡ true) where
  -- The tables of the reader in front of the steps.
  abbrev T : List TableDecl
  T = old.tables.now

  -- Each of the reader's tables is valid.
  valid : list_all is_table T ≡ true
  valid = tables-valid T are

  pub record Stepped (cur : Reader) (shift : Shift) (steps : NextSteps) : Type 0 where
    pub tables : cur.tables.now ≡ T
    pub reading_is : IsReading cur
    pub shift_is : IsShift shift cur
    pub round_is : shift.round ≡ begun.round
    pub worker_is : shift.worker ≡ begun.worker
    pub in_turn : InTurn T begun.round begun.worker (tables-valid T are) steps
    pub adds : AddsAll old cur begun.round (Worker begun.worker)
    pub goes : (dues : List Due) → begins_anew dues ≡ true → reads old (work_dues begun (steps_behind T) ++ dues) ≡ from_next T begun.round begun.worker (tables-valid T are) dues steps (read_by cur) (lines_left cur)

  -- What the turn's steps behind its first compaction read is what is read from the first table on.
  starts-by : (ts : List TableDecl) → 0 < length ts → (v : list_all is_table ts ≡ true) (dues : List Due) (es : List Entry) (ls : List (List ℕ))
      → reading ts (work_dues begun (steps_behind ts) ++ dues) es ls ≡ from_next ts begun.round begun.worker v dues first_steps es ls
  starts-by [] some v dues es ls = absurd (omega (arith, some))
  starts-by (t ∷ ts) some v dues es ls =
      ap (λ (ds : List Due). reading (t ∷ ts) ds es ls)
      (ap (λ (ds : List Due). ds ++ dues) (Rattle.output_read.proofs.Passing.dues-more begun.round (Worker begun.worker) (blocks_of (0, t)) (steps_of (enumerate_from (0 + 1) ts)))
      ∙ append_assoc (work_dues begun (blocks_of (0, t))) (work_dues begun (steps_of (enumerate_from (0 + 1) ts))) dues
      ∙ ap (λ (n : ℕ). work_dues begun (blocks_from 0 0 n) ++ (work_dues begun (steps_of (enumerate_from (0 + 1) ts)) ++ dues)) (let e : t.blocks ≡ t.blocks - 0 = omega arith in e))
      ∙ sym (no-first (reading (t ∷ ts) (work_dues begun (blocks_from 0 0 (t.blocks - 0)) ++ (work_dues begun (steps_of (enumerate_from (0 + 1) ts)) ++ dues)) es ls))

  -- behind the turn's first steps those over the first table's blocks may be next
  pub step-starts : IsFew (length T) → IsReading old → IsShift begun old → Stepped old begun first_steps
  step-starts few reading_is is_shift = record {
    tables = refl;
    reading_is = reading_is;
    shift_is = is_shift;
    round_is = refl;
    worker_is = refl;
    in_turn = record {
      table = few.0;
      behind = omega arith;
      until = let e = few.0 in omega (arith, e);
      block = omega arith;
      sealed = λ f. absurd (never f);
    };
    adds = adds-none old begun.round (Worker begun.worker);
    goes = λ dues anew. starts-by T few.0 (tables-valid T are) dues (read_by old) (lines_left old);
  }

  module _ (cur : Reader) (shift : Shift) (steps : NextSteps) (s : Stepped cur shift steps) where
    cur-are : are_tables cur.tables.now ≡ true
    cur-are = subst (λ (ts : List TableDecl). are_tables ts ≡ true) (sym s.tables) are

    small_round : is_u32 begun.round ≡ true
    small_round = lt-ltb begun.round (2 ^ 32) (let a = s.shift_is.round in let b = s.round_is in omega (arith, a, b))

    small_worker : is_u32 begun.worker ≡ true
    small_worker = lt-ltb begun.worker (2 ^ 32) (let a = s.shift_is.worker in let b = s.worker_is in omega (arith, a, b))

    abbrev its_next : ℕ
    its_next = next_index begun.round (Worker begun.worker) (read_by cur)

    small_there : is_u64 its_next ≡ true
    small_there = lt-ltb its_next (2 ^ 64) (let a = index-few cur begun.round (Worker begun.worker) s.reading_is in let b = s.reading_is.room in omega (arith, a, b))

    index-is : shift.index + 1 ≡ its_next
    index-is = s.shift_is.index ∙ ap (λ (r : ℕ). next_index r (Worker shift.worker) (read_by cur)) s.round_is ∙ ap (λ (w : ℕ). next_index begun.round (Worker w) (read_by cur)) s.worker_is

    heading-is : (ls : List (List ℕ)) → said_first cur.tables.now shift.round (Worker shift.worker) (shift.index + 1) ls ≡ said_first T begun.round (Worker begun.worker) its_next ls
    heading-is ls =
        ap (λ (ts : List TableDecl). said_first ts shift.round (Worker shift.worker) (shift.index + 1) ls) s.tables
        ∙ ap (λ (r : ℕ). said_first T r (Worker shift.worker) (shift.index + 1) ls) s.round_is
        ∙ ap (λ (w : ℕ). said_first T begun.round (Worker w) (shift.index + 1) ls) s.worker_is
        ∙ ap (λ (n : ℕ). said_first T begun.round (Worker begun.worker) n ls) index-is

    -- the line of a step was kept
    pub step-goes : (new : Reader) (after : NextSteps) → new.tables.now ≡ cur.tables.now → StepKept cur new shift steps after → Stepped new (record { round = shift.round; worker = shift.worker; index = shift.index + 1 }) after
    step-goes new after tables k =
        let kept : KeptReply = record { number = cur.line; command = None; round = shift.round; who = Worker shift.worker; index = shift.index + 1; told = k.kept } in
        let same : Kept cur new kept 1 = record { tables = tables; items = k.items; line = k.line; rest = k.rest; shorter = k.shorter; some = omega arith } in
        let entry = kept-entry cur shift cur-are s.reading_is s.shift_is command.Observe kept k.told refl k.said_is in
        let on : next_steps T steps k.told ≡ Some after = sym (ap (λ (ts : List TableDecl). next_steps ts steps k.told) s.tables) ∙ k.on in
        let kind = unsaid T steps k.told after on in
        let count : line_count cur.tables.now (entry_behind cur.tables.now (read_by cur) (step_due shift.round shift.worker command.Observe) k.told) ≡ 1 = ap (λ (ls : List (List ℕ)). suc (length ls)) (one-kind k.told kind) in
        let l = line-of T begun.round (Worker begun.worker) its_next (lines_left cur) k.told (k.says ∙ heading-is (lines_left cur)) in
        let mine : entry_of kept ≡ entry_behind T (read_by cur) (step_due begun.round begun.worker command.Observe) k.told =
        entry
        ∙ ap (λ (ts : List TableDecl). entry_behind ts (read_by cur) (step_due shift.round shift.worker command.Observe) k.told) s.tables
        ∙ ap (λ (r : ℕ). entry_behind T (read_by cur) (step_due r shift.worker command.Observe) k.told) s.round_is
        ∙ ap (λ (w : ℕ). entry_behind T (read_by cur) (step_due begun.round w command.Observe) k.told) s.worker_is in
        let counted : line_count T (entry_behind T (read_by cur) (step_due begun.round begun.worker command.Observe) k.told) ≡ 1 = ap (λ (ls : List (List ℕ)). suc (length ls)) (one-kind k.told kind) in
        record {
          tables = tables ∙ s.tables;
          reading_is = reads-on cur shift cur-are s.reading_is s.shift_is new kept same k.told k.told_ok entry count;
          shift_is = shift-on cur shift cur-are s.reading_is s.shift_is new kept same k.told k.told_ok entry count;
          round_is = s.round_is;
          worker_is = s.worker_is;
          in_turn = after-in T begun.round begun.worker (tables-valid T are) steps after k.told s.in_turn on;
          adds = adds-append old cur new begun.round (Worker begun.worker) s.adds
              (subst (λ (w : ℕ). AddsAll cur new begun.round (Worker w)) s.worker_is (subst (λ (r : ℕ). AddsAll cur new r (Worker shift.worker)) s.round_is (adds-it cur shift cur-are s.reading_is s.shift_is new kept same k.told k.told_ok entry count)));
          goes = λ dues anew.
              s.goes dues anew
              ∙ ap (λ (ls : List (List ℕ)). from_next T begun.round begun.worker (tables-valid T are) dues steps (read_by cur) ls) l.is
              ∙ step-on T are (names-plain T (tables-valid T are)) (tables-valid T are) begun.round begun.worker (read_by cur) small_round small_worker small_there dues anew l.line l.behind k.told l.says steps after s.in_turn on
              ∙ ap (λ (n : ℕ). from_next T begun.round begun.worker (tables-valid T are) dues after (read_by cur ++ entry_behind T (read_by cur) (step_due begun.round begun.worker command.Observe) k.told ∷ []) (drop n (l.line ∷ l.behind))) counted
              ∙ ap (λ (ls : List (List ℕ)). from_next T begun.round begun.worker (tables-valid T are) dues after (read_by cur ++ entry_behind T (read_by cur) (step_due begun.round begun.worker command.Observe) k.told ∷ []) (drop 1 ls)) (sym l.is)
              ∙ ap (λ (ls : List (List ℕ)). from_next T begun.round begun.worker (tables-valid T are) dues after (read_by cur ++ entry_behind T (read_by cur) (step_due begun.round begun.worker command.Observe) k.told ∷ []) ls) (sym k.rest)
              ∙ ap (λ (e : Entry). from_next T begun.round begun.worker (tables-valid T are) dues after (read_by cur ++ e ∷ []) (lines_left new)) (sym mine)
              ∙ ap (λ (es : List Entry). from_next T begun.round begun.worker (tables-valid T are) dues after es (lines_left new)) (sym (read-more cur new kept 1 same));
        }

    -- the next line is none of theirs
    module _ (none : (told : Said) → Some told ≡ said_first cur.tables.now shift.round (Worker shift.worker) (shift.index + 1) (lines_left cur) → next_steps cur.tables.now steps told ≡ None) where
      stops : (dues : List Due) → begins_anew dues ≡ true → reads old (work_dues begun (steps_behind T) ++ dues) ≡ cond (steps.until == length T) (reads cur dues) (Err (next_line T (read_by cur)))
      stops dues anew = s.goes dues anew ∙ by (lines_left cur) refl ∙ ap (λ (ts : List TableDecl). cond (steps.until == length T) (reading ts dues (read_by cur) (lines_left cur)) (Err (next_line T (read_by cur)))) (sym s.tables)
        where
          by : (ls : List (List ℕ)) → lines_left cur ≡ ls
              → from_next T begun.round begun.worker (tables-valid T are) dues steps (read_by cur) (lines_left cur) ≡ cond (steps.until == length T) (reading T dues (read_by cur) (lines_left cur)) (Err (next_line T (read_by cur)))
          by [] is =
              subst (λ (ls : List (List ℕ)). from_next T begun.round begun.worker (tables-valid T are) dues steps (read_by cur) ls ≡ cond (steps.until == length T) (reading T dues (read_by cur) ls) (Err (next_line T (read_by cur)))) (sym is)
              (stop-end T are (names-plain T (tables-valid T are)) (tables-valid T are) begun.round begun.worker (read_by cur) small_round small_worker small_there dues anew steps s.in_turn)
          by (line ∷ behind) is =
              subst (λ (ls : List (List ℕ)). from_next T begun.round begun.worker (tables-valid T are) dues steps (read_by cur) ls ≡ cond (steps.until == length T) (reading T dues (read_by cur) ls) (Err (next_line T (read_by cur)))) (sym is)
              (step-stop T are (names-plain T (tables-valid T are)) (tables-valid T are) begun.round begun.worker (read_by cur) small_round small_worker small_there dues anew line behind steps s.in_turn
              (λ told says. sym (ap (λ (ts : List TableDecl). next_steps ts steps told) s.tables)
              ∙ none told (sym says ∙ sym (heading-is (line ∷ behind)) ∙ ap (λ (ls : List (List ℕ)). said_first cur.tables.now shift.round (Worker shift.worker) (shift.index + 1) ls) (sym is))))

      -- where the turn's end was reached and the next line is none of its steps', the turn was read
      pub step-ends : steps.until ≡ length cur.tables.now → ShiftGoes old cur begun shift (work_dues begun (steps_behind T))
      step-ends whole = record {
        reading = s.reading_is;
        shift_on = s.shift_is;
        round = s.round_is;
        worker = s.worker_is;
        passes = λ dues anew. stops dues anew ∙ ap (λ (b : Bool). cond b (reads cur dues) (Err (next_line T (read_by cur)))) (eq-eqb steps.until (length T) (whole ∙ ap (λ (ts : List TableDecl). length ts) s.tables));
        adds = s.adds;
      }

      -- where the turn's end was not reached and the next line is none of its steps', it fails
      -- there
      pub step-fails : (steps.until ≡ length cur.tables.now → ⊥) → FailsAt old (work_dues begun (steps_behind T)) cur.line
      step-fails apart dues anew =
          stops dues anew
          ∙ ap (λ (b : Bool). cond b (reads cur dues) (Err (next_line T (read_by cur)))) (ne_eqb steps.until (length T) (λ e. apart (e ∙ ap (λ (ts : List TableDecl). length ts) (sym s.tables))))
          ∙ ap Err (ap (λ (ts : List TableDecl). next_line ts (read_by cur)) (sym s.tables) ∙ sym s.reading_is.line)

  -- what the reading of a line asks
  pub asks-tables : (cur : Reader) (shift : Shift) (steps : NextSteps) → Stepped cur shift steps → are_tables cur.tables.now ≡ true
  asks-tables cur shift steps s = subst (λ (ts : List TableDecl). are_tables ts ≡ true) (sym s.tables) are

  -- the tables are still few behind some steps
  pub asks-few : (cur : Reader) (shift : Shift) (steps : NextSteps) → Stepped cur shift steps → IsFew (length T) → IsFew (length cur.tables.now)
  asks-few cur shift steps s few = subst (λ (ts : List TableDecl). IsFew (length ts)) (sym s.tables) few

  -- the steps that may be next are those of a table that is there
  pub asks-steps : (cur : Reader) (shift : Shift) (steps : NextSteps) → Stepped cur shift steps → steps.table < length cur.tables.now
  asks-steps cur shift steps s = subst (λ (ts : List TableDecl). steps.table < length ts) (sym s.tables) s.in_turn.table
