-- The lines of a turn's steps that may be silent.
use Rattle.std.proofs.Common.{◌≡◌, ℕ, ◌+◌, ◌-◌, ◌^◌, ◌<◌, ◌≤◌, Bool, true, false, cond, ◌&&◌, ◌||◌, not, List, [], ◌∷◌, ◌++◌, length, drop, Option, None, Some, Err, refl, sym, ap, ◌∙◌, arith, suc, zero, ◌⊎◌, inl, inr}
use Rattle.std.specs.Prelude.{◌==◌, nat_lt}
use Rattle.std.specs.List.{list_all}
use Rattle.std.proofs.lemmas.Bool.{and_parts, ltb-true}
use Rattle.std.proofs.lemmas.Bool.Decides.{nat_tests}
use Rattle.std.proofs.lemmas.Option.{same_Some}
use Rattle.cell_model.specs.declared.table.TableDecl.{TableDecl}
use Rattle.workload_spec.specs.declared.command.Command.{Command}
use Rattle.workload_spec.specs.declared.command.Command.TheVariants as command
use Rattle.workload_spec.specs.declared.reply.Who.TheVariants.{Worker}
use Rattle.workload_spec.specs.declared.reply.Said.{Said}
use Rattle.workload_spec.specs.declared.reply.Said.TheVariants as said
use Rattle.workload_spec.specs.ReplyText.{lines_behind}
use Rattle.workload_spec.specs.Valid.{is_table, is_table_place}
use Rattle.outcome_spec.specs.Entries.{Entry}
use Rattle.outcome_spec.specs.Forms.{Due, entry_behind, line_count, lines_begun, next_line, reading, reply_at, is_silent, is_upkeep, is_seal_or_gather}
use Rattle.reply_text.specs.Shown.{is_u32, is_u64, is_said, are_tables}
use Rattle.timeline_laws.proofs.ReadBack.{NamesPlain}
use Rattle.timeline_laws.proofs.Turns.{StepSaid}
use Rattle.output_read.specs.declared.turns.NextSteps.{NextSteps}
use Rattle.output_read.specs.Answers.{answers_within}
use Rattle.output_read.specs.Turns.{begins_anew, next_steps}
use Rattle.output_read.proofs.Fitting.{never}
use Rattle.output_read.proofs.Keys.{absurdly, said_there, said-is, one-text, reply_of, misses, next}
use Rattle.output_read.proofs.Walks.{Reading, Late, late, missing, silenced, passed}
use Rattle.output_read.proofs.Silences.{step_due, AreQuiet, worker_dues, reaches, steps-stop}
use Rattle.output_read.proofs.Placing.{InTurn, from_next, left-quiet, quiet-next, entries_at}
use Rattle.output_read.proofs.Stepping.{anew-fails, there, narrow, step-begun, step-fails}
use Rattle.output_read.proofs.Turning.{moved-read, memory-read, sealed-read, frozen-read}

-- what a step says is one of four kinds
abbrev pub is_step_said : Said → Bool
is_step_said (said.Moved count) = true
is_step_said said.Memory = true
is_step_said (said.Sealed table block stamp) = true
is_step_said (said.Frozen table block rows) = true
is_step_said _ = false

-- what a step says stands on one line
pub one-kind : (told : Said) → is_step_said told ≡ true → lines_behind told ≡ []
one-kind (said.Moved count) h = refl
one-kind said.Memory h = refl
one-kind (said.Sealed table block stamp) h = refl
one-kind (said.Frozen table block rows) h = refl
one-kind _ h = absurd (never h)

-- What a step says, where it fits the tables, has its numbers in their widths.
step-kind : (tables : List TableDecl) (told : Said) → is_step_said told ≡ true → is_said tables told ≡ true → StepSaid tables told
step-kind tables (said.Moved count) h fit = ltb-true count (2 ^ 64) fit
step-kind tables said.Memory h fit = tt
step-kind tables (said.Sealed table block stamp) h fit =
    let p = and_parts (is_table_place tables table && is_u32 block) (is_u32 stamp) fit in
    let q = and_parts (is_table_place tables table) (is_u32 block) p.0 in
    (q.0, (let a = ltb-true block (2 ^ 32) q.1 in omega (arith, a)), (let b = ltb-true stamp (2 ^ 32) p.1 in omega (arith, b)))
step-kind tables (said.Frozen table block rows) h fit =
    let p = and_parts (is_table_place tables table && is_u32 block) (is_u32 rows) fit in
    let q = and_parts (is_table_place tables table) (is_u32 block) p.0 in
    (q.0, (let a = ltb-true block (2 ^ 32) q.1 in omega (arith, a)), (let b = ltb-true rows (2 ^ 32) p.1 in omega (arith, b)))
step-kind tables _ h fit = absurd (never h)

-- nothing else is a step's answer in a line
other-seal : (tables : List TableDecl) (table block : ℕ) (told : Said) → is_step_said told ≡ false → (not (is_silent told) && answers_within tables (command.Seal table block) told) ≡ false
other-seal tables table block (said.Sealed of at stamp) h = absurd (never (sym h))
other-seal tables table block _ h = refl

-- What is none of a step's four kinds answers no gathering in a line.
other-gather : (tables : List TableDecl) (table block : ℕ) (told : Said) → is_step_said told ≡ false → (not (is_silent told) && answers_within tables (command.Gather table block) told) ≡ false
other-gather tables table block (said.Frozen of at rows) h = absurd (never (sym h))
other-gather tables table block said.Memory h = absurd (never (sym h))
other-gather tables table block _ h = refl

-- What is none of a step's four kinds answers no compaction in a line.
other-compact : (tables : List TableDecl) (table : ℕ) (told : Said) → is_step_said told ≡ false → (not (is_silent told) && answers_within tables (command.Compact table) told) ≡ false
other-compact tables table (said.Moved count) h = absurd (never (sym h))
other-compact tables table said.Memory h = absurd (never (sym h))
other-compact tables table _ h = refl

-- What is none of a step's four kinds answers neither a seal nor a gathering in a line.
other-quiet : (tables : List TableDecl) (asked : Command) → is_seal_or_gather asked ≡ true → (told : Said) → is_step_said told ≡ false → (not (is_silent told) && answers_within tables asked told) ≡ false
other-quiet tables (command.Seal table block) is told h = other-seal tables table block told h
other-quiet tables (command.Gather table block) is told h = other-gather tables table block told h
other-quiet tables _ is told h = absurd (never is)

-- A seal or a gathering is a command of upkeep.
quiet-upkeep : (asked : Command) → is_seal_or_gather asked ≡ true → is_upkeep asked ≡ true
quiet-upkeep (command.Seal table block) is = refl
quiet-upkeep (command.Gather table block) is = refl
quiet-upkeep _ is = absurd (never is)

-- what leads on to further steps is one of the four kinds that a step says
pub unsaid : (tables : List TableDecl) (steps : NextSteps) (told : Said) (after : NextSteps) → next_steps tables steps told ≡ Some after → is_step_said told ≡ true
unsaid tables steps (said.Moved count) after h = refl
unsaid tables steps said.Memory after h = refl
unsaid tables steps (said.Sealed table block stamp) after h = refl
unsaid tables steps (said.Frozen table block rows) after h = refl
unsaid tables steps _ after h = absurd (absurdly (sym h))

module _ (tables : List TableDecl) (are : are_tables tables ≡ true) (names : NamesPlain tables) (valid : list_all is_table tables ≡ true) (round worker : ℕ) (earlier : List Entry)
    (small_round : is_u32 round ≡ true) (small_worker : is_u32 worker ≡ true)
    (small_there : is_u64 (there tables are names valid round worker earlier small_round small_worker) ≡ true) (dues : List Due) (anew : begins_anew dues ≡ true) where
  -- What is due to the worker of a step.
  abbrev due : Command → Due
  due asked = step_due round worker asked

  -- what is read from the steps that may be next on
  abbrev pub from_here : NextSteps → List Entry → List (List ℕ) → Reading
  from_here steps es ls = from_next tables round worker valid dues steps es ls

  -- The worker's reply behind the earlier ones that says this.
  abbrev the_entry : Said → Entry
  the_entry told = entry_behind tables earlier (due command.Observe) told

  module _ (line : List ℕ) (behind : List (List ℕ)) (told : Said) (spoken : said_there tables are earlier (due command.Observe) line ≡ Some told) where
    ends : is_step_said told ≡ true → reading tables dues earlier (line ∷ behind) ≡ Err (next_line tables earlier)
    ends kind =
        let s = said-is tables are earlier (due command.Observe) line told spoken in
        anew-fails tables are names earlier line behind (reply_of tables are earlier (due command.Observe) told) worker refl (step-kind tables told kind s.fits)
        (sym (one-text tables are (reply_of tables are earlier (due command.Observe) told) (one-kind told kind)) ∙ s.text) dues anew

    -- a line of a step, and what is read behind it
    step-read : (steps : NextSteps) → InTurn tables round worker valid steps → (kind : is_step_said told ≡ true)
        → from_here steps earlier (line ∷ behind)
        ≡ (elim (next_steps tables steps told) as (λ o. Reading) [ Some after ↦ from_here after (earlier ++ the_entry told ∷ []) (drop (line_count tables (the_entry told)) (line ∷ behind)) | None ↦ Err (next_line tables earlier) ])
    step-read steps in_turn kind = by told spoken (ends kind) kind
      where
        by : (s : Said) (is : said_there tables are earlier (due command.Observe) line ≡ Some s) → reading tables dues earlier (line ∷ behind) ≡ Err (next_line tables earlier) → is_step_said s ≡ true
            → from_here steps earlier (line ∷ behind)
            ≡ (elim (next_steps tables steps s) as (λ o. Reading) [ Some after ↦ from_here after (earlier ++ the_entry s ∷ []) (drop (line_count tables (the_entry s)) (line ∷ behind)) | None ↦ Err (next_line tables earlier) ])
        by (said.Moved count) is e k = moved-read tables are names valid round worker earlier small_round small_worker small_there line behind count is dues e steps in_turn
        by said.Memory is e k = memory-read tables are names valid round worker earlier small_round small_worker small_there line behind is dues e steps in_turn
        by (said.Sealed table block stamp) is e k = sealed-read tables are names valid round worker earlier small_round small_worker small_there line behind table block stamp is dues e steps in_turn
        by (said.Frozen table block rows) is e k = frozen-read tables are names valid round worker earlier small_round small_worker small_there line behind table block rows is dues e steps in_turn
        by _ is e k = absurd (never k)

    -- a line that one of the steps that may be next says is read, and the steps behind it are next
    pub step-on : (steps after : NextSteps) → InTurn tables round worker valid steps → next_steps tables steps told ≡ Some after
        → from_here steps earlier (line ∷ behind) ≡ from_here after (earlier ++ the_entry told ∷ []) (drop (line_count tables (the_entry told)) (line ∷ behind))
    step-on steps after in_turn is =
        step-read steps in_turn (unsaid tables steps told after is)
        ∙ ap (λ (o : Option NextSteps). elim o as (λ x. Reading) [ Some a ↦ from_here a (earlier ++ the_entry told ∷ []) (drop (line_count tables (the_entry told)) (line ∷ behind)) | None ↦ Err (next_line tables earlier) ]) is

  -- ---- where no step takes what is there

  -- What is read behind the turn where its end was reached, or else the fault at the next line.
  abbrev outcome : Bool → Reading → Reading
  outcome b read = cond b read (Err (next_line tables earlier))

  -- The end is reached where no more tables are left than may be passed over.
  reaches-is : (n : ℕ) (entries : List (ℕ × TableDecl)) (lines : List (List ℕ)) (ends : Reading) (late_ends : Late (next_line tables earlier) ends)
      (over : (steps : List Command) → AreQuiet tables round worker steps → (rest : List Due) → reading tables (worker_dues tables round worker steps ++ rest) earlier lines ≡ reading tables rest earlier lines)
      (stops : (table : ℕ) (rest : List Due) → reading tables (step_due round worker (command.Compact table) ∷ rest) earlier lines ≡ Err (next_line tables earlier))
      (end : reading tables dues earlier lines ≡ ends) → reaches tables round worker dues earlier lines ends late_ends over stops end n entries ≡ not (nat_lt n (length entries))
  reaches-is zero [] lines e l o s x = refl
  reaches-is (suc n) [] lines e l o s x = grind (arith, nat_tests)
  reaches-is zero (entry ∷ entries) lines e l o s x = grind (arith, nat_tests)
  reaches-is (suc n) (entry ∷ entries) lines e l o s x =
      let h = reaches-is n entries lines e l o s x in
      h ∙ less n (length entries)
    where
      less : (a b : ℕ) → not (nat_lt a b) ≡ not (nat_lt (suc a) (suc b))
      less a b = grind (arith, nat_tests)

  module _ (lines : List (List ℕ))
      (over_one : (asked : Command) → is_seal_or_gather asked ≡ true → ((words others : List (List ℕ)) → Rattle.output_read.proofs.Answering.IsListed tables words others asked) → Rattle.outcome_spec.specs.Forms.scanned_by true asked ≡ None → Rattle.outcome_spec.specs.Forms.scanned_by false asked ≡ None
      → (rest : List Due) → reading tables (due asked ∷ rest) earlier lines ≡ reading tables rest earlier lines)
      (stops : (table : ℕ) (rest : List Due) → reading tables (due (command.Compact table) ∷ rest) earlier lines ≡ Err (next_line tables earlier)) where
    over : (steps : List Command) → AreQuiet tables round worker steps → (rest : List Due) → reading tables (worker_dues tables round worker steps ++ rest) earlier lines ≡ reading tables rest earlier lines
    over [] quiet rest = refl
    over (asked ∷ steps) quiet rest = over_one asked quiet.0.0 quiet.0.1 quiet.0.2 quiet.0.3 (worker_dues tables round worker steps ++ rest) ∙ over steps quiet.1 rest

    stopped : (steps : NextSteps) → InTurn tables round worker valid steps → from_here steps earlier lines ≡ outcome (steps.until == length tables) (reading tables dues earlier lines)
    stopped steps in_turn =
        let n = steps.until - (steps.table + 1) in
        let entries = entries_at tables (steps.table + 1) in
        let ends = reading tables dues earlier lines in
        let late_ends = late tables dues earlier lines in
        steps-stop tables round worker dues earlier lines ends late_ends over stops refl (Rattle.output_read.proofs.Placing.steps_left tables steps) (left-quiet tables round worker valid steps in_turn) n entries (quiet-next tables round worker valid dues steps in_turn)
        ∙ ap (λ (b : Bool). outcome b ends) (reaches-is n entries lines ends late_ends over stops refl
        ∙ ap (λ (k : ℕ). not (nat_lt n k)) (Rattle.output_read.proofs.Placing.entries-count tables (steps.table + 1))
        ∙ at-end steps.until steps.table (length tables) in_turn.behind in_turn.until)
      where
        at-end : (until table many : ℕ) → table < until → until ≤ many → not (nat_lt (until - (table + 1)) (many - (table + 1))) ≡ (until == many)
        at-end until table many behind most = grind (arith, nat_tests, behind, most)

  -- where no line is left, what is due behind the turn is read if its end was reached, or it fails
  pub stop-end : (steps : NextSteps) → InTurn tables round worker valid steps → from_here steps earlier [] ≡ outcome (steps.until == length tables) (reading tables dues earlier [])
  stop-end steps in_turn =
      stopped [] (λ asked quiet listed a b rest. silenced tables (due asked) rest earlier quiet) (λ table rest. missing tables (due (command.Compact table)) rest earlier refl) steps in_turn

  module _ (line : List ℕ) (behind : List (List ℕ)) where
    none-at : (asked : Command) → ((words others : List (List ℕ)) → Rattle.output_read.proofs.Answering.IsListed tables words others asked) → ((told : Said) → said_there tables are earlier (due command.Observe) line ≡ Some told → Rattle.output_read.proofs.Keys.may tables are earlier (due asked) told ≡ true → ⊥)
        → reply_at tables earlier (due asked) line behind ≡ None
    none-at asked listed h = misses tables are earlier (due asked) (narrow tables are names valid round worker earlier small_round small_worker small_there asked) line behind (λ up. listed (drop 3 (Rattle.outcome_spec.specs.Reading.words_in line)) behind) h

    begun-none : (asked : Command) → Rattle.outcome_spec.specs.Forms.scanned_by true asked ≡ None → Rattle.outcome_spec.specs.Forms.scanned_by false asked ≡ None → lines_begun tables earlier (due asked) line behind ≡ 0
    begun-none asked a b = step-begun tables are names valid round worker earlier small_round small_worker small_there line behind asked a b

    stop-line : ((asked : Command) → is_upkeep asked ≡ true → (told : Said) → said_there tables are earlier (due command.Observe) line ≡ Some told → (not (is_silent told) && answers_within tables asked told) ≡ true → (is_seal_or_gather asked ≡ true) ⊎ ((table : ℕ) × (asked ≡ command.Compact table)) → ⊥)
        → (steps : NextSteps) → InTurn tables round worker valid steps → from_here steps earlier (line ∷ behind) ≡ outcome (steps.until == length tables) (reading tables dues earlier (line ∷ behind))
    stop-line none steps in_turn =
        stopped (line ∷ behind)
        (λ asked quiet listed a b rest. passed tables (due asked) rest earlier line behind quiet
        (none-at asked listed (λ told is can. none asked (quiet-upkeep asked quiet) told is (sym (may-upkeep asked (quiet-upkeep asked quiet) told) ∙ can) (inl quiet)))
        (begun-none asked a b))
        (λ table rest. step-fails tables are names valid round worker earlier small_round small_worker small_there (command.Compact table) refl refl refl rest line behind
        (none-at (command.Compact table) (λ words others. tt) (λ told is can. none (command.Compact table) refl told is (sym (may-upkeep (command.Compact table) refl told) ∙ can) (inr (table, refl)))))
        steps in_turn
      where
        may-upkeep : (asked : Command) → is_upkeep asked ≡ true → (told : Said) → Rattle.output_read.proofs.Keys.may tables are earlier (due asked) told ≡ (not (is_silent told) && answers_within tables asked told)
        may-upkeep asked up told =
            ap (λ (b : Bool). not (is_silent told) && cond (Rattle.outcome_spec.specs.Forms.is_within (Worker worker) earlier || b) (answers_within tables asked told) (Rattle.output_read.specs.Answers.answers_without asked told)) up
            ∙ ap (λ (b : Bool). not (is_silent told) && cond b (answers_within tables asked told) (Rattle.output_read.specs.Answers.answers_without asked told)) (Rattle.timeline_laws.proofs.Tests.or-last (Rattle.outcome_spec.specs.Forms.is_within (Worker worker) earlier))

    -- the line is none of the steps that may be next
    pub step-stop : (steps : NextSteps) → InTurn tables round worker valid steps → ((told : Said) → said_there tables are earlier (due command.Observe) line ≡ Some told → next_steps tables steps told ≡ None)
        → from_here steps earlier (line ∷ behind) ≡ outcome (steps.until == length tables) (reading tables dues earlier (line ∷ behind))
    step-stop steps in_turn none = by (said_there tables are earlier (due command.Observe) line) refl
      where
        nothing-more : (b : Bool) → Err (next_line tables earlier) ≡ outcome b (Err (next_line tables earlier))
        nothing-more true = refl
        nothing-more false = refl

        of-kind : (told : Said) (is : said_there tables are earlier (due command.Observe) line ≡ Some told) (b : Bool) → is_step_said told ≡ b
            → from_here steps earlier (line ∷ behind) ≡ outcome (steps.until == length tables) (reading tables dues earlier (line ∷ behind))
        of-kind told is true kind =
            step-read line behind told is steps in_turn kind
            ∙ ap (λ (o : Option NextSteps). elim o as (λ x. Reading) [ Some a ↦ from_here a (earlier ++ the_entry told ∷ []) (drop (line_count tables (the_entry told)) (line ∷ behind)) | None ↦ Err (next_line tables earlier) ]) (none told is)
            ∙ nothing-more (steps.until == length tables)
            ∙ ap (outcome (steps.until == length tables)) (sym (ends line behind told is kind))
        of-kind told is false kind =
            stop-line (λ asked up other other_is can which.
            let same : other ≡ told = same_Some other told (sym other_is ∙ is) in
            elim which [
              | inl quiet ↦ never (sym (other-quiet tables asked quiet other (ap is_step_said same ∙ kind)) ∙ can)
              | inr compact ↦ never (sym (ap (λ (a : Command). not (is_silent other) && answers_within tables a other) compact.1 ∙ other-compact tables compact.0 other (ap is_step_said same ∙ kind)) ∙ can)
            ]) steps in_turn

        by : (o : Option Said) → said_there tables are earlier (due command.Observe) line ≡ o → from_here steps earlier (line ∷ behind) ≡ outcome (steps.until == length tables) (reading tables dues earlier (line ∷ behind))
        by None is = stop-line (λ asked up other other_is can which. absurdly (sym other_is ∙ is)) steps in_turn
        by (Some told) is = of-kind told is (is_step_said told) refl
