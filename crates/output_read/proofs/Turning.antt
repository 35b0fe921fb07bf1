-- What a worker's step says tells which steps may be next behind it.
use Rattle.std.proofs.Common.{◌≡◌, ℕ, ◌+◌, ◌-◌, ◌≤◌, ◌<◌, Bool, true, false, cond, ◌&&◌, ◌||◌, not, List, [], ◌∷◌, ◌++◌, length, drop, Option, None, Some, Err, refl, sym, ap, ◌∙◌, subst, arith, suc, zero}
use Rattle.std.specs.Prelude.{◌==◌, nat_lt}
use Rattle.std.specs.List.{list_all}
use Rattle.std.proofs.lemmas.Bool.{and_parts, and_from, eqb-true, ltb-true, ltb-false, lt-ltb}
use Rattle.std.proofs.lemmas.Bool.Decides.{nat_tests}
use Rattle.cell_model.specs.declared.table.TableDecl.{TableDecl}
use Rattle.workload_spec.specs.declared.command.Command.{Command}
use Rattle.workload_spec.specs.declared.command.Command.TheVariants as command
use Rattle.workload_spec.specs.declared.reply.Said.{Said}
use Rattle.workload_spec.specs.declared.reply.Said.TheVariants as said
use Rattle.workload_spec.specs.Valid.{is_table}
use Rattle.outcome_spec.specs.Entries.{Entry}
use Rattle.outcome_spec.specs.Tables.{blocks_at}
use Rattle.outcome_spec.specs.Forms.{Due, line_count, next_line, reading, reply_at}
use Rattle.reply_text.specs.Shown.{is_u32, is_u64, are_tables}
use Rattle.timeline_laws.proofs.ReadBack.{NamesPlain}
use Rattle.output_read.specs.declared.turns.NextSteps.{NextSteps}
use Rattle.output_read.specs.Turns.{one_more, next_table, may_seal, may_gather, next_steps}
use Rattle.output_read.proofs.Keys.{said_there}
use Rattle.output_read.proofs.Walks.{Reading, taken}
use Rattle.output_read.proofs.Silences.{first_hit, blocks_of, AreQuiet, AllQuiet, from_steps, compact-hit, compact-next, compact-none}
use Rattle.output_read.proofs.Placing.{blocks_from, blocks-whole, miss-one, hit-one, steps_left, none-says, memory-says, decl_at, entries_at, entries-first, entries-none, InTurn, left-quiet, quiet-next, joined-cap}
use Rattle.output_read.proofs.Stepping.{due_of, there, says, says-is, the_entry, found, found-quiet, missed, step-begun, outcome, now, later, one-read, seal-range, gather-range}

-- ---- tests

-- The blocks behind a block or at it are those not in front of it.
at-seal : (a b : ℕ) → (nat_lt a b || (b == a && true)) ≡ not (nat_lt b a)
at-seal a b = grind (arith, nat_tests)

-- The blocks behind a block, without it, are those not in front of the next.
behind-seal : (a b : ℕ) → (nat_lt a b || (b == a && false)) ≡ not (nat_lt b (a + 1))
behind-seal a b = grind (arith, nat_tests)

-- Another block is not in front of the next where it is not in front of this one.
after-block : (a b : ℕ) → (b == a) ≡ false → not (nat_lt b (a + 1)) ≡ not (nat_lt b a)
after-block a b h = grind (arith, nat_tests, h)

-- No number is below zero.
from-none : (b : ℕ) → not (nat_lt b 0) ≡ true
from-none b = grind (arith, nat_tests)

-- The last two of three may be turned in a conjunction.
and-turned : (own low high : Bool) → (own && (low && high)) ≡ (own && high && low)
and-turned true true true = refl
and-turned true true false = refl
and-turned true false true = refl
and-turned true false false = refl
and-turned false low high = refl

module _ (tables : List TableDecl) (are : are_tables tables ≡ true) (names : NamesPlain tables) (valid : list_all is_table tables ≡ true) (round worker : ℕ) (earlier : List Entry)
    (small_round : is_u32 round ≡ true) (small_worker : is_u32 worker ≡ true)
    (small_there : is_u64 (there tables are names valid round worker earlier small_round small_worker) ≡ true) (line : List ℕ) (behind : List (List ℕ)) where
  -- The line says this as the worker's next reply.
  abbrev Spoken : Said → Type 0
  Spoken told = said_there tables are earlier (due_of tables are names valid round worker earlier small_round small_worker command.Observe) line ≡ Some told

  -- With these dues the reading fails at the line.
  abbrev Ends : List Due → Type 0
  Ends dues = reading tables dues earlier (line ∷ behind) ≡ Err (next_line tables earlier)

  -- The steps that may be next are steps of the worker's turn.
  abbrev InTurnHere : NextSteps → Type 0
  InTurnHere steps = InTurn tables round worker valid steps

  module _ (told : Said) (spoken : Spoken told) (dues : List Due) (end : Ends dues) where
    abbrev test : Command → Bool
    test asked = says tables are names valid round worker earlier small_round small_worker small_there line behind told spoken asked

    -- what is read from the line on
    abbrev pub read_now : NextSteps → Reading
    read_now steps = now tables are names valid round worker earlier small_round small_worker small_there line behind told spoken dues end steps

    -- what is read behind the line
    abbrev pub read_later : NextSteps → Reading
    read_later steps = later tables are names valid round worker earlier small_round small_worker small_there line behind told spoken dues end steps

    -- what is read behind the line, or the fault at it
    abbrev pub read_on : Option NextSteps → Reading
    read_on o = outcome tables are names valid round worker earlier small_round small_worker small_there line behind told spoken dues end o

    chosen-on : (b : Bool) (steps : NextSteps) → cond b (read_later steps) (Err (next_line tables earlier)) ≡ read_on (cond b (Some steps) None)
    chosen-on true steps = refl
    chosen-on false steps = refl

  -- Over all blocks of a table, a block's seal leaves its gathering and the blocks behind it.
  whole-seal : (own : Bool) (table block blocks : ℕ) → cond (own && (not (nat_lt block 0) && nat_lt block (0 + blocks))) (Some (command.Gather table block ∷ blocks_from table (block + 1) (0 + blocks - (block + 1)))) None
      ≡ cond (own && nat_lt block blocks) (Some (command.Gather table block ∷ blocks_from table (block + 1) (blocks - (block + 1)))) None
  whole-seal own table block blocks =
      ap (λ (b : Bool). cond (own && (b && nat_lt block (0 + blocks))) (Some (command.Gather table block ∷ blocks_from table (block + 1) (0 + blocks - (block + 1)))) None) (from-none block)
      ∙ ap (λ (n : ℕ). cond (own && nat_lt block n) (Some (command.Gather table block ∷ blocks_from table (block + 1) (n - (block + 1)))) None) (let e : 0 + blocks ≡ blocks = omega arith in e)

  -- Over all blocks of a table, a block's gathering leaves the blocks behind it.
  whole-gather : (own : Bool) (table block blocks : ℕ) → cond (own && (not (nat_lt block 0) && nat_lt block (0 + blocks))) (Some (blocks_from table (block + 1) (0 + blocks - (block + 1)))) None
      ≡ cond (own && nat_lt block blocks) (Some (blocks_from table (block + 1) (blocks - (block + 1)))) None
  whole-gather own table block blocks =
      ap (λ (b : Bool). cond (own && (b && nat_lt block (0 + blocks))) (Some (blocks_from table (block + 1) (0 + blocks - (block + 1)))) None) (from-none block)
      ∙ ap (λ (n : ℕ). cond (own && nat_lt block n) (Some (blocks_from table (block + 1) (n - (block + 1)))) None) (let e : 0 + blocks ≡ blocks = omega arith in e)

  -- ---- a block is sealed

  module _ (table block stamp : ℕ) (spoken : Spoken (said.Sealed table block stamp)) (dues : List Due) (end : Ends dues) where
    abbrev seal_test : Command → Bool
    seal_test asked = test (said.Sealed table block stamp) spoken dues end asked

    seal-is : (asked : Command) → Rattle.outcome_spec.specs.Forms.is_upkeep asked ≡ true → seal_test asked ≡ (true && Rattle.output_read.specs.Answers.answers_within tables asked (said.Sealed table block stamp))
    seal-is asked up = says-is tables are names valid round worker earlier small_round small_worker small_there line behind (said.Sealed table block stamp) spoken asked up

    abbrev seal_hit : ℕ → List Command
    seal_hit at = command.Gather at block ∷ blocks_from at (block + 1) (blocks_at tables at - (block + 1))

    seal-hits : (at : ℕ) → at < length tables → first_hit seal_test (blocks_of (at, decl_at tables at)) ≡ cond (table == at && nat_lt block (blocks_at tables at)) (Some (seal_hit at)) None
    seal-hits at few =
        ap (first_hit seal_test) (blocks-whole tables round worker valid at few)
        ∙ seal-range seal_test at block (table == at) (λ x. seal-is (command.Seal at x) refl) (λ x. seal-is (command.Gather at x) refl) 0 (blocks_at tables at)
        ∙ whole-seal (table == at) at block (blocks_at tables at)

    seal-left : (at first blocks : ℕ) → first ≤ blocks → first_hit seal_test (blocks_from at first (blocks - first))
        ≡ cond (table == at && nat_lt block blocks && not (nat_lt block first)) (Some (command.Gather at block ∷ blocks_from at (block + 1) (blocks - (block + 1)))) None
    seal-left at first blocks few =
        seal-range seal_test at block (table == at) (λ x. seal-is (command.Seal at x) refl) (λ x. seal-is (command.Gather at x) refl) first (blocks - first)
        ∙ ap (λ (n : ℕ). cond (table == at && (not (nat_lt block first) && nat_lt block n)) (Some (command.Gather at block ∷ blocks_from at (block + 1) (n - (block + 1)))) None) (let e : first + (blocks - first) ≡ blocks = omega (arith, few) in e)
        ∙ ap (λ (b : Bool). cond b (Some (command.Gather at block ∷ blocks_from at (block + 1) (blocks - (block + 1)))) None) (and-turned (table == at) (not (nat_lt block first)) (nat_lt block blocks))

    seal-by : (at from until : ℕ) (sealed : Bool) → from ≤ blocks_at tables at → (sealed ≡ true → from < blocks_at tables at)
        → first_hit seal_test (steps_left tables (record { table = at; block = from; sealed = sealed; until = until }))
        ≡ cond (table == at && nat_lt block (blocks_at tables at) && (nat_lt from block || block == from && not sealed)) (Some (seal_hit at)) None
    seal-by at from until false most some =
        seal-left at from (blocks_at tables at) most
        ∙ ap (λ (b : Bool). cond (table == at && nat_lt block (blocks_at tables at) && b) (Some (seal_hit at)) None) (sym (at-seal from block))
    seal-by at from until true most some =
        miss-one seal_test at (command.Gather at from) (blocks_from at (from + 1) (blocks_at tables at - (from + 1))) (seal-is (command.Gather at from) refl)
        ∙ seal-left at (from + 1) (blocks_at tables at) (let e = some refl in omega (arith, e))
        ∙ ap (λ (b : Bool). cond (table == at && nat_lt block (blocks_at tables at) && b) (Some (seal_hit at)) None) (sym (behind-seal from block))

    -- a line that says that a block was sealed leads to the steps behind its seal
    pub sealed-read : (steps : NextSteps) → InTurnHere steps
        → read_now (said.Sealed table block stamp) spoken dues end steps ≡ read_on (said.Sealed table block stamp) spoken dues end (next_steps tables steps (said.Sealed table block stamp))
    sealed-read steps in_turn =
        one-read tables are names valid round worker earlier small_round small_worker small_there line behind (said.Sealed table block stamp) spoken dues end
        (seal-is (command.Compact 0) refl) (λ at. seal-is (command.Compact at) refl ∙ sym (seal-is (command.Compact 0) refl)) table block seal_hit seal-hits steps in_turn
        (nat_lt steps.block block || block == steps.block && not steps.sealed) (seal-by steps.table steps.block steps.until steps.sealed in_turn.block in_turn.sealed)
        ∙ ap (λ (n : ℕ). cond (may_seal tables steps table block)
        (from_steps tables round worker dues (seal_hit table) (entries_at tables (table + 1)) n (earlier ++ the_entry tables are names valid round worker earlier small_round small_worker small_there line behind (said.Sealed table block stamp) spoken ∷ [])
        (drop (line_count tables (the_entry tables are names valid round worker earlier small_round small_worker small_there line behind (said.Sealed table block stamp) spoken)) (line ∷ behind)))
        (Err (next_line tables earlier))) (let e : 0 ≡ table + 1 - (table + 1) = omega arith in e)
        ∙ chosen-on (said.Sealed table block stamp) spoken dues end (may_seal tables steps table block) (record { table = table; block = block; sealed = true; until = table + 1 })

  -- ---- a block is gathered

  module _ (table block rows : ℕ) (spoken : Spoken (said.Frozen table block rows)) (dues : List Due) (end : Ends dues) where
    abbrev gather_test : Command → Bool
    gather_test asked = test (said.Frozen table block rows) spoken dues end asked

    gather-is : (asked : Command) → Rattle.outcome_spec.specs.Forms.is_upkeep asked ≡ true → gather_test asked ≡ (true && Rattle.output_read.specs.Answers.answers_within tables asked (said.Frozen table block rows))
    gather-is asked up = says-is tables are names valid round worker earlier small_round small_worker small_there line behind (said.Frozen table block rows) spoken asked up

    abbrev gather_hit : ℕ → List Command
    gather_hit at = blocks_from at (block + 1) (blocks_at tables at - (block + 1))

    gather-hits : (at : ℕ) → at < length tables → first_hit gather_test (blocks_of (at, decl_at tables at)) ≡ cond (table == at && nat_lt block (blocks_at tables at)) (Some (gather_hit at)) None
    gather-hits at few =
        ap (first_hit gather_test) (blocks-whole tables round worker valid at few)
        ∙ gather-range gather_test at block (table == at) (λ x. gather-is (command.Seal at x) refl) (λ x. gather-is (command.Gather at x) refl) 0 (blocks_at tables at)
        ∙ whole-gather (table == at) at block (blocks_at tables at)

    gather-left : (at first blocks : ℕ) → first ≤ blocks → first_hit gather_test (blocks_from at first (blocks - first))
        ≡ cond (table == at && nat_lt block blocks && not (nat_lt block first)) (Some (blocks_from at (block + 1) (blocks - (block + 1)))) None
    gather-left at first blocks few =
        gather-range gather_test at block (table == at) (λ x. gather-is (command.Seal at x) refl) (λ x. gather-is (command.Gather at x) refl) first (blocks - first)
        ∙ ap (λ (n : ℕ). cond (table == at && (not (nat_lt block first) && nat_lt block n)) (Some (blocks_from at (block + 1) (n - (block + 1)))) None) (let e : first + (blocks - first) ≡ blocks = omega (arith, few) in e)
        ∙ ap (λ (b : Bool). cond b (Some (blocks_from at (block + 1) (blocks - (block + 1)))) None) (and-turned (table == at) (not (nat_lt block first)) (nat_lt block blocks))

    not-before : (n : ℕ) → not (nat_lt n n) ≡ true
    not-before n = grind (arith, nat_tests)

    gather-first : (at from blocks : ℕ) → from < blocks → first_hit gather_test (command.Gather at from ∷ blocks_from at (from + 1) (blocks - (from + 1)))
        ≡ cond (table == at && nat_lt block blocks && not (nat_lt block from)) (Some (blocks_from at (block + 1) (blocks - (block + 1)))) None
    gather-first at from blocks some = by (table == at && block == from) refl
      where
        rest : List Command
        rest = blocks_from at (from + 1) (blocks - (from + 1))

        by : (b : Bool) → (table == at && block == from) ≡ b → first_hit gather_test (command.Gather at from ∷ blocks_from at (from + 1) (blocks - (from + 1)))
            ≡ cond (table == at && nat_lt block blocks && not (nat_lt block from)) (Some (blocks_from at (block + 1) (blocks - (block + 1)))) None
        by true h =
            let parts = and_parts (table == at) (block == from) h in
            let same : block ≡ from = eqb-true block from parts.1 in
            let within : (table == at && nat_lt from blocks && not (nat_lt from from)) ≡ true =
            and_from (table == at && nat_lt from blocks) (not (nat_lt from from)) (and_from (table == at) (nat_lt from blocks) parts.0 (lt-ltb from blocks some)) (not-before from) in
            hit-one gather_test at (command.Gather at from) (blocks_from at (from + 1) (blocks - (from + 1))) (gather-is (command.Gather at from) refl ∙ h)
            ∙ sym (ap (λ (b : Bool). cond b (Some (blocks_from at (from + 1) (blocks - (from + 1)))) None) within)
            ∙ ap (λ (n : ℕ). cond (table == at && nat_lt n blocks && not (nat_lt n from)) (Some (blocks_from at (n + 1) (blocks - (n + 1)))) None) (sym same)
        by false h =
            miss-one gather_test at (command.Gather at from) (blocks_from at (from + 1) (blocks - (from + 1))) (gather-is (command.Gather at from) refl ∙ h)
            ∙ gather-left at (from + 1) blocks (omega (arith, some))
            ∙ ap (λ (b : Bool). cond b (Some (blocks_from at (block + 1) (blocks - (block + 1)))) None) (apart (table == at) h)
          where
            apart : (own : Bool) → (own && block == from) ≡ false → (own && nat_lt block blocks && not (nat_lt block (from + 1))) ≡ (own && nat_lt block blocks && not (nat_lt block from))
            apart true e = ap (λ (b : Bool). nat_lt block blocks && b) (after-block from block e)
            apart false e = refl

    gather-by : (at from until : ℕ) (sealed : Bool) → from ≤ blocks_at tables at → (sealed ≡ true → from < blocks_at tables at)
        → first_hit gather_test (steps_left tables (record { table = at; block = from; sealed = sealed; until = until }))
        ≡ cond (table == at && nat_lt block (blocks_at tables at) && not (nat_lt block from)) (Some (gather_hit at)) None
    gather-by at from until false most some = gather-left at from (blocks_at tables at) most
    gather-by at from until true most some = gather-first at from (blocks_at tables at) (some refl)

    -- a line that says that a block was frozen leads to the steps behind its gathering
    pub frozen-read : (steps : NextSteps) → InTurnHere steps
        → read_now (said.Frozen table block rows) spoken dues end steps ≡ read_on (said.Frozen table block rows) spoken dues end (next_steps tables steps (said.Frozen table block rows))
    frozen-read steps in_turn =
        one-read tables are names valid round worker earlier small_round small_worker small_there line behind (said.Frozen table block rows) spoken dues end
        (gather-is (command.Compact 0) refl) (λ at. gather-is (command.Compact at) refl ∙ sym (gather-is (command.Compact 0) refl)) table block gather_hit gather-hits steps in_turn
        (not (nat_lt block steps.block)) (gather-by steps.table steps.block steps.until steps.sealed in_turn.block in_turn.sealed)
        ∙ ap (λ (n : ℕ). cond (may_gather tables steps table block)
        (from_steps tables round worker dues (gather_hit table) (entries_at tables (table + 1)) n (earlier ++ the_entry tables are names valid round worker earlier small_round small_worker small_there line behind (said.Frozen table block rows) spoken ∷ [])
        (drop (line_count tables (the_entry tables are names valid round worker earlier small_round small_worker small_there line behind (said.Frozen table block rows) spoken)) (line ∷ behind)))
        (Err (next_line tables earlier))) (let e : 0 ≡ table + 1 - (table + 1) = omega arith in e)
        ∙ chosen-on (said.Frozen table block rows) spoken dues end (may_gather tables steps table block) (record { table = table; block = block + 1; sealed = false; until = table + 1 })

  -- ---- a compaction, or memory that was refused

  module _ (told : Said) (spoken : Spoken told) (dues : List Due) (end : Ends dues) (compacts : (table : ℕ) → test told spoken dues end (command.Compact table) ≡ true) where
    abbrev its_entry : Entry
    its_entry = the_entry tables are names valid round worker earlier small_round small_worker small_there line behind told spoken

    abbrev its_found : (asked : Command) → Rattle.outcome_spec.specs.Forms.is_seal_or_gather asked ≡ true → test told spoken dues end asked ≡ true → reply_at tables earlier (due_of tables are names valid round worker earlier small_round small_worker asked) line behind ≡ Some its_entry
    its_found asked quiet h = found-quiet tables are names valid round worker earlier small_round small_worker small_there line behind told spoken asked quiet h

    compact-taken : (table : ℕ) (rest : List Due) → reading tables (due_of tables are names valid round worker earlier small_round small_worker (command.Compact table) ∷ rest) earlier (line ∷ behind)
        ≡ reading tables rest (earlier ++ its_entry ∷ []) (drop (line_count tables its_entry) (line ∷ behind))
    compact-taken table rest =
        taken tables (due_of tables are names valid round worker earlier small_round small_worker (command.Compact table)) rest earlier line behind its_entry refl
        (found tables are names valid round worker earlier small_round small_worker small_there line behind told spoken (command.Compact table) (compacts table))

    length-left : (xs : List (ℕ × TableDecl)) (k : ℕ) → length (drop k xs) ≡ length xs - k
    length-left xs zero = let e : length xs ≡ length xs - 0 = omega arith in e
    length-left [] (suc k) = let e : 0 ≡ 0 - suc k = omega arith in e
    length-left (x ∷ xs) (suc k) = let e = length-left xs k in let m : length xs - k ≡ length (x ∷ xs) - suc k = omega arith in e ∙ m

    entries-few : (k : ℕ) → length (entries_at tables k) ≡ length tables - k
    entries-few k = length-left (Rattle.std.specs.List.enumerate_from 0 tables) k ∙ ap (λ (n : ℕ). n - k) (Rattle.std.proofs.lemmas.List.FromFn.length-enumerate_from 0 tables)

    abbrev next_entries : List Entry
    next_entries = earlier ++ its_entry ∷ []

    abbrev next_lines : List (List ℕ)
    next_lines = drop (line_count tables its_entry) (line ∷ behind)

    -- as many further tables as there are, or one more
    more-joined : (steps : List Command) (table until : ℕ) → until ≤ length tables → table + 1 ≤ until
        → from_steps tables round worker dues steps (entries_at tables (table + 1)) (suc (until - (table + 1))) next_entries next_lines
        ≡ from_steps tables round worker dues steps (entries_at tables (table + 1)) (one_more tables until - (table + 1)) next_entries next_lines
    more-joined steps table until most some = by (nat_lt until (length tables)) refl
      where
        by : (b : Bool) → nat_lt until (length tables) ≡ b
            → from_steps tables round worker dues steps (entries_at tables (table + 1)) (suc (until - (table + 1))) next_entries next_lines
            ≡ from_steps tables round worker dues steps (entries_at tables (table + 1)) (cond b (until + 1) until - (table + 1)) next_entries next_lines
        by true h = ap (λ (n : ℕ). from_steps tables round worker dues steps (entries_at tables (table + 1)) n next_entries next_lines) (let e : suc (until - (table + 1)) ≡ until + 1 - (table + 1) = omega (arith, some) in e)
        by false h =
            let past = ltb-false until (length tables) h in
            let few = entries-few (table + 1) in
            ap (λ (r : Reading). Rattle.outcome_spec.specs.Forms.further (reading tables (Rattle.output_read.proofs.Silences.worker_dues tables round worker steps ++ Rattle.output_read.proofs.Silences.tail tables round worker dues (entries_at tables (table + 1))) next_entries next_lines) r)
            (joined-cap tables round worker valid dues (until - (table + 1)) (entries_at tables (table + 1)) next_entries next_lines (omega (arith, few, past)))

    quiet-of : (steps : NextSteps) → InTurnHere steps → AreQuiet tables round worker (steps_left tables steps)
    quiet-of steps in_turn = left-quiet tables round worker valid steps in_turn

    its_begun : (asked : Command) → Rattle.outcome_spec.specs.Forms.scanned_by true asked ≡ None → Rattle.outcome_spec.specs.Forms.scanned_by false asked ≡ None → Rattle.outcome_spec.specs.Forms.lines_begun tables earlier (due_of tables are names valid round worker earlier small_round small_worker asked) line behind ≡ 0
    its_begun asked a b = step-begun tables are names valid round worker earlier small_round small_worker small_there line behind asked a b

    its_missed : (asked : Command) → ((words others : List (List ℕ)) → Rattle.output_read.proofs.Answering.IsListed tables words others asked) → test told spoken dues end asked ≡ false → reply_at tables earlier (due_of tables are names valid round worker earlier small_round small_worker asked) line behind ≡ None
    its_missed asked listed h = missed tables are names valid round worker earlier small_round small_worker small_there line behind told spoken asked listed h

    -- the next table's compaction
    compact-on : (steps : NextSteps) → InTurnHere steps → first_hit (test told spoken dues end) (steps_left tables steps) ≡ None → read_now told spoken dues end steps ≡ read_on told spoken dues end (next_table tables steps)
    compact-on steps in_turn is = by (nat_lt (steps.table + 1) (length tables)) refl
      where
        by : (b : Bool) → nat_lt (steps.table + 1) (length tables) ≡ b
            → read_now told spoken dues end steps ≡ read_on told spoken dues end (cond b (Some (record { table = steps.table + 1; block = 0; sealed = false; until = one_more tables steps.until })) None)
        by true h =
            let next = steps.table + 1 in
            let few : next < length tables = ltb-true next (length tables) h in
            let n = steps.until - next in
            let first = entries-first tables next few in
            let quiet = subst (AllQuiet tables round worker dues) first (quiet-next tables round worker valid dues steps in_turn) in
            ap (λ (es : List (ℕ × TableDecl)). from_steps tables round worker dues (steps_left tables steps) es n earlier (line ∷ behind)) first
            ∙ compact-next tables round worker dues earlier line behind its_entry (test told spoken dues end) its_found its_missed its_begun end compact-taken
            (steps_left tables steps) (quiet-of steps in_turn) n (next, decl_at tables next) (entries_at tables (next + 1)) quiet is
            ∙ ap (λ (ss : List Command). from_steps tables round worker dues ss (entries_at tables (next + 1)) n next_entries next_lines)
            (blocks-whole tables round worker valid next few ∙ ap (blocks_from next 0) (let e : blocks_at tables next ≡ blocks_at tables next - 0 = omega arith in e))
            ∙ further-on (nat_lt steps.until (length tables)) refl
          where
            further-on : (b : Bool) → nat_lt steps.until (length tables) ≡ b
                → from_steps tables round worker dues (blocks_from (steps.table + 1) 0 (blocks_at tables (steps.table + 1) - 0)) (entries_at tables (steps.table + 1 + 1)) (steps.until - (steps.table + 1)) next_entries next_lines
                ≡ from_steps tables round worker dues (blocks_from (steps.table + 1) 0 (blocks_at tables (steps.table + 1) - 0)) (entries_at tables (steps.table + 1 + 1)) (cond b (steps.until + 1) steps.until - (steps.table + 1 + 1)) next_entries next_lines
            further-on true t =
                ap (λ (n : ℕ). from_steps tables round worker dues (blocks_from (steps.table + 1) 0 (blocks_at tables (steps.table + 1) - 0)) (entries_at tables (steps.table + 1 + 1)) n next_entries next_lines)
                (let e = in_turn.behind in let m : steps.until - (steps.table + 1) ≡ steps.until + 1 - (steps.table + 1 + 1) = omega (arith, e) in m)
            further-on false t =
                let past = ltb-false steps.until (length tables) t in
                let most = in_turn.until in
                let lower = ltb-true (steps.table + 1) (length tables) h in
                let few = entries-few (steps.table + 1 + 1) in
                ap (λ (n : ℕ). from_steps tables round worker dues (blocks_from (steps.table + 1) 0 (blocks_at tables (steps.table + 1) - 0)) (entries_at tables (steps.table + 1 + 1)) n next_entries next_lines)
                (let m : steps.until - (steps.table + 1) ≡ suc (steps.until - (steps.table + 1 + 1)) = omega (arith, past, most, lower) in m)
                ∙ ap (λ (r : Reading). Rattle.outcome_spec.specs.Forms.further (reading tables (Rattle.output_read.proofs.Silences.worker_dues tables round worker (blocks_from (steps.table + 1) 0 (blocks_at tables (steps.table + 1) - 0)) ++ Rattle.output_read.proofs.Silences.tail tables round worker dues (entries_at tables (steps.table + 1 + 1))) next_entries next_lines) r)
                (joined-cap tables round worker valid dues (steps.until - (steps.table + 1 + 1)) (entries_at tables (steps.table + 1 + 1)) next_entries next_lines (omega (arith, few, past)))
        by false h =
            let past = ltb-false (steps.table + 1) (length tables) h in
            let n = steps.until - (steps.table + 1) in
            ap (λ (es : List (ℕ × TableDecl)). from_steps tables round worker dues (steps_left tables steps) es n earlier (line ∷ behind)) (entries-none tables (steps.table + 1) past)
            ∙ compact-none tables round worker dues earlier line behind its_entry (test told spoken dues end) its_found its_missed its_begun end compact-taken
            (steps_left tables steps) (quiet-of steps in_turn) n is

    -- a gathering at hand, or a compaction
    gather-on : (steps : NextSteps) → InTurnHere steps → (later : List Command) → first_hit (test told spoken dues end) (steps_left tables steps) ≡ Some later
        → read_now told spoken dues end steps ≡ from_steps tables round worker dues later (entries_at tables (steps.table + 1)) (one_more tables steps.until - (steps.table + 1)) next_entries next_lines
    gather-on steps in_turn later is =
        compact-hit tables round worker dues earlier line behind its_entry (test told spoken dues end) its_found its_missed its_begun end compact-taken
        (steps_left tables steps) later (quiet-of steps in_turn) (steps.until - (steps.table + 1)) (entries_at tables (steps.table + 1)) (quiet-next tables round worker valid dues steps in_turn) is
        ∙ more-joined later steps.table steps.until in_turn.until (let e = in_turn.behind in omega (arith, e))

  -- ---- rows are moved

  module _ (count : ℕ) (spoken : Spoken (said.Moved count)) (dues : List Due) (end : Ends dues) where
    moved-is : (asked : Command) → Rattle.outcome_spec.specs.Forms.is_upkeep asked ≡ true → test (said.Moved count) spoken dues end asked ≡ (true && Rattle.output_read.specs.Answers.answers_within tables asked (said.Moved count))
    moved-is asked up = says-is tables are names valid round worker earlier small_round small_worker small_there line behind (said.Moved count) spoken asked up

    moved-none : (table first until : ℕ) (sealed : Bool) → first_hit (test (said.Moved count) spoken dues end) (steps_left tables (record { table = table; block = first; sealed = sealed; until = until })) ≡ None
    moved-none table first until false = none-says (test (said.Moved count) spoken dues end) table (λ x. moved-is (command.Seal table x) refl) (λ x. moved-is (command.Gather table x) refl) first (blocks_at tables table - first)
    moved-none table first until true =
        miss-one (test (said.Moved count) spoken dues end) table (command.Gather table first) (blocks_from table (first + 1) (blocks_at tables table - (first + 1))) (moved-is (command.Gather table first) refl)
        ∙ none-says (test (said.Moved count) spoken dues end) table (λ x. moved-is (command.Seal table x) refl) (λ x. moved-is (command.Gather table x) refl) (first + 1) (blocks_at tables table - (first + 1))

    -- a line that says that rows were moved leads to the steps behind the next compaction
    pub moved-read : (steps : NextSteps) → InTurnHere steps → read_now (said.Moved count) spoken dues end steps ≡ read_on (said.Moved count) spoken dues end (next_steps tables steps (said.Moved count))
    moved-read steps in_turn =
        compact-on (said.Moved count) spoken dues end (λ table. moved-is (command.Compact table) refl) steps in_turn (moved-none steps.table steps.block steps.until steps.sealed)

  -- ---- memory is refused

  module _ (spoken : Spoken said.Memory) (dues : List Due) (end : Ends dues) where
    memory-is : (asked : Command) → Rattle.outcome_spec.specs.Forms.is_upkeep asked ≡ true → test said.Memory spoken dues end asked ≡ (true && Rattle.output_read.specs.Answers.answers_within tables asked said.Memory)
    memory-is asked up = says-is tables are names valid round worker earlier small_round small_worker small_there line behind said.Memory spoken asked up

    memory-first : (table first until : ℕ) (sealed : Bool) → first < blocks_at tables table
        → first_hit (test said.Memory spoken dues end) (steps_left tables (record { table = table; block = first; sealed = sealed; until = until })) ≡ Some (blocks_from table (first + 1) (blocks_at tables table - (first + 1)))
    memory-first table first until false few =
        ap (λ (n : ℕ). first_hit (test said.Memory spoken dues end) (blocks_from table first n)) (let e : blocks_at tables table - first ≡ suc (blocks_at tables table - (first + 1)) = omega (arith, few) in e)
        ∙ memory-says (test said.Memory spoken dues end) table (λ x. memory-is (command.Seal table x) refl) (λ x. memory-is (command.Gather table x) refl) first (blocks_at tables table - (first + 1))
    memory-first table first until true few =
        hit-one (test said.Memory spoken dues end) table (command.Gather table first) (blocks_from table (first + 1) (blocks_at tables table - (first + 1))) (memory-is (command.Gather table first) refl)

    memory-none : (table first until : ℕ) (sealed : Bool) → blocks_at tables table ≤ first → (sealed ≡ true → first < blocks_at tables table)
        → first_hit (test said.Memory spoken dues end) (steps_left tables (record { table = table; block = first; sealed = sealed; until = until })) ≡ None
    memory-none table first until false past some =
        ap (λ (n : ℕ). first_hit (test said.Memory spoken dues end) (blocks_from table first n)) (let e : blocks_at tables table - first ≡ 0 = omega (arith, past) in e)
    memory-none table first until true past some = absurd (let e = some refl in omega (arith, e, past))

    -- a line that says that memory was refused leads to all steps that may have said it
    pub memory-read : (steps : NextSteps) → InTurnHere steps → read_now said.Memory spoken dues end steps ≡ read_on said.Memory spoken dues end (next_steps tables steps said.Memory)
    memory-read steps in_turn = by (nat_lt steps.block (blocks_at tables steps.table)) refl
      where
        by : (b : Bool) → nat_lt steps.block (blocks_at tables steps.table) ≡ b
            → read_now said.Memory spoken dues end steps
            ≡ read_on said.Memory spoken dues end (cond b (Some (record { table = steps.table; block = steps.block + 1; sealed = false; until = one_more tables steps.until })) (next_table tables steps))
        by true h =
            gather-on said.Memory spoken dues end (λ table. memory-is (command.Compact table) refl) steps in_turn (blocks_from steps.table (steps.block + 1) (blocks_at tables steps.table - (steps.block + 1)))
            (memory-first steps.table steps.block steps.until steps.sealed (ltb-true steps.block (blocks_at tables steps.table) h))
        by false h =
            compact-on said.Memory spoken dues end (λ table. memory-is (command.Compact table) refl) steps in_turn
            (memory-none steps.table steps.block steps.until steps.sealed (ltb-false steps.block (blocks_at tables steps.table) h) in_turn.sealed)
