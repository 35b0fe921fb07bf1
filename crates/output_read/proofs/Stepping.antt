-- A line of a worker's step, and what is read behind it.
use Rattle.std.proofs.Common.{◌≡◌, ℕ, ◌+◌, ◌-◌, ◌≤◌, ◌<◌, Bool, true, false, cond, ◌&&◌, ◌||◌, not, List, [], ◌∷◌, ◌++◌, length, drop, take, Option, None, Some, Err, refl, sym, ap, ◌∙◌, subst, arith, suc, zero, ◌⊎◌, inl, inr}
use Rattle.std.specs.Prelude.{◌==◌, nat_lt, bytes_eq, decimal, codes, slice_index_or}
use Rattle.std.specs.List.{list_all}
use Rattle.std.specs.Option.{option_map_or}
use Rattle.std.proofs.lemmas.Bool.{eqb-true, eq-eqb, ne_eqb, ltb-true, ltb-false}
use Rattle.std.proofs.lemmas.Slice.Eq.{bytes_eq-Decides}
use Rattle.std.proofs.lemmas.Option.{same_Some}
use Rattle.cell_model.specs.declared.table.TableDecl.{TableDecl}
use Rattle.workload_spec.specs.declared.command.Command.{Command}
use Rattle.workload_spec.specs.declared.command.Command.TheVariants as command
use Rattle.workload_spec.specs.declared.reply.ReplyLine.{ReplyLine}
use Rattle.workload_spec.specs.declared.reply.Who.{Who}
use Rattle.workload_spec.specs.declared.reply.Who.TheVariants.{Session, Worker}
use Rattle.workload_spec.specs.declared.reply.Said.{Said}
use Rattle.workload_spec.specs.declared.reply.Said.TheVariants as said
use Rattle.workload_spec.specs.Valid.{is_table}
use Rattle.workload_spec.specs.ReplyText.{said_words, who_text}
use Rattle.outcome_spec.specs.Entries.{Entry}
use Rattle.outcome_spec.specs.Reading.{words_in, u64_at, rows_above}
use Rattle.outcome_spec.specs.Tables.{blocks_at, columns_at}
use Rattle.outcome_spec.specs.Forms.{Due, next_line, reading, reply_at, entry_behind, lines_begun, lines_of_scan, scan_line, scanned_by, is_seal_or_gather, is_upkeep, is_within, is_silent, is_worker, may_be_silent}
use Rattle.reply_text.specs.Shown.{is_u32, is_u64, is_who, are_tables}
use Rattle.timeline_laws.proofs.Lines.{first_line, all-words, a-word, said-words, IsSaid}
use Rattle.timeline_laws.proofs.ReadBack.{NamesPlain}
use Rattle.timeline_laws.proofs.ReadLines.{words_of_line}
use Rattle.timeline_laws.proofs.ReadNumbers.{is_digit_byte, digits_decimal, plain_decimal}
use Rattle.timeline_laws.proofs.Tests.{or-last}
use Rattle.timeline_laws.proofs.Turns.{StepSaid, any-found, begin-found, session-not-step, begin-not-step, step-is-said}
use Rattle.output_read.specs.declared.turns.NextSteps.{NextSteps}
use Rattle.output_read.specs.Answers.{answers_within, answers_without}
use Rattle.output_read.specs.Turns.{begins_turn, begins_anew}
use Rattle.output_read.proofs.Fitting.{never}
use Rattle.output_read.proofs.Answering.{IsListed}
use Rattle.output_read.proofs.Keys.{said_there, may, next, IsNarrow, matches, misses}
use Rattle.output_read.proofs.Walks.{Reading, failed}
use Rattle.output_read.proofs.Scans.{scan_text}
use Rattle.output_read.proofs.Silences.{step_due, first_hit, blocks_of, AllQuiet, from_steps, beyond, beyond-is, NoneHit, one-here, one-later, one-none, all-none}
use Rattle.output_read.proofs.Placing.{blocks_from, steps_left, none-says, seal-says, gather-says, seal-none, gather-none, decl_at, entries_at, entries-first, has-blocks, entries-none, InTurn, left-quiet, quiet-next, from_next}

-- ---- a worker's line is none of a session's, nor of what begins a turn

-- a number's first digit is no `w`
no-worker : (word rest : List ℕ) → list_all is_digit_byte word ≡ true → word ≡ 119 ∷ rest → ⊥
no-worker word rest digits e = never (sym (ap (list_all is_digit_byte) e) ∙ digits)

module _ (tables : List TableDecl) (are : are_tables tables ≡ true) (names : NamesPlain tables) where
  -- a scan's first line is a session's
  scan-not-step : (reply : ReplyLine) (worker : ℕ) → reply.who ≡ Worker worker → IsSaid tables reply.said → (round session index count : ℕ)
      → first_line tables reply ++ 10 ∷ [] ≡ scan_text round (Session session) index count → ⊥
  scan-not-step reply worker is_who said round session index count e =
      let own = words_of_line (decimal reply.round) (who_text reply.who ∷ decimal reply.index ∷ said_words tables reply.said) (all-words reply.round reply.index reply.who (said_words tables reply.said) (said-words tables reply.said said)) in
      let other = words_of_line (decimal round) (decimal session ∷ decimal index ∷ codes "rows" ∷ decimal count ∷ []) (all-words round index (Session session) (codes "rows" ∷ decimal count ∷ []) (a-word (codes "rows") refl, (a-word (decimal count) (plain_decimal count), tt))) in
      let same : who_text reply.who ≡ decimal session = ap (λ (words : List (List ℕ)). slice_index_or words 1 []) (sym own ∙ ap words_in e ∙ other) in
      no-worker (decimal session) (decimal worker) (digits_decimal session) (sym same ∙ ap who_text is_who)

  module _ (earlier : List Entry) (line : List ℕ) (behind : List (List ℕ)) (reply : ReplyLine) (worker : ℕ) (is_who : reply.who ≡ Worker worker) (step : StepSaid tables reply.said)
      (is_line : first_line tables reply ++ 10 ∷ [] ≡ line) where
    begun-session : (due : Due) (session : ℕ) → due.who ≡ Session session → (o : Option ℕ) → option_map_or (lines_of_scan tables (entry_behind tables earlier due said.Memory).reply line behind) o 0 ≡ 0
    begun-session due session is None = refl
    begun-session due session is (Some table) = by (bytes_eq line (scan_line (entry_behind tables earlier due said.Memory).reply (u64_at (drop 3 (words_in line)) 1))) refl
      where
        by : (b : Bool) → bytes_eq line (scan_line (entry_behind tables earlier due said.Memory).reply (u64_at (drop 3 (words_in line)) 1)) ≡ b → lines_of_scan tables (entry_behind tables earlier due said.Memory).reply line behind table ≡ 0
        by true same =
            let e : line ≡ scan_line (entry_behind tables earlier due said.Memory).reply (u64_at (drop 3 (words_in line)) 1) = (bytes_eq-Decides line (scan_line (entry_behind tables earlier due said.Memory).reply (u64_at (drop 3 (words_in line)) 1))).0 same in
            let mine : scan_line (entry_behind tables earlier due said.Memory).reply (u64_at (drop 3 (words_in line)) 1) ≡ scan_text due.round (Session session) (entry_behind tables earlier due said.Memory).reply.index (u64_at (drop 3 (words_in line)) 1) =
            ap (λ (who : Who). scan_text due.round who (entry_behind tables earlier due said.Memory).reply.index (u64_at (drop 3 (words_in line)) 1)) is in
            absurd (scan-not-step reply worker is_who (step-is-said tables names reply.said step) due.round session (entry_behind tables earlier due said.Memory).reply.index (u64_at (drop 3 (words_in line)) 1) (is_line ∙ e ∙ mine))
        by false same = ap (λ (b : Bool). cond b (1 + length (rows_above (columns_at tables table) None (take (u64_at (drop 3 (words_in line)) 1) behind))) 0) same

    none-of : (due : Due) (o : Option Entry) → reply_at tables earlier due line behind ≡ o → ((entry : Entry) → o ≡ Some entry → ⊥) → reply_at tables earlier due line behind ≡ None
    none-of due None is h = is
    none-of due (Some entry) is h = absurd (h entry refl)

    plus-none : (n k : ℕ) → k ≡ 0 → n + k ≡ n
    plus-none n k e = omega (arith, e)

    not-session : (due : Due) (session : ℕ) → due.who ≡ Session session → reply_at tables earlier due line behind ≡ None
    not-session due session is = none-of due (reply_at tables earlier due line behind) refl (λ entry at.
        let f = any-found tables earlier due line behind entry at in
        session-not-step tables names (entry_behind tables earlier due f.told) reply behind session worker is is_who
        (subst (λ (l : List ℕ). Rattle.outcome_spec.specs.Forms.begins_with tables (l ∷ behind) (entry_behind tables earlier due f.told) ≡ true) (sym is_line) f.passes))

    not-begin : (due : Due) (other : ℕ) → due.who ≡ Worker other → (due.command ≡ command.Observe) ⊎ (due.command ≡ command.Prune) → reply_at tables earlier due line behind ≡ None
    not-begin due other is begins = none-of due (reply_at tables earlier due line behind) refl (λ entry at.
        let f = begin-found tables earlier due other is begins line behind entry at in
        begin-not-step tables names (entry_behind tables earlier due f.told) reply behind f.of step
        (subst (λ (l : List ℕ). Rattle.outcome_spec.specs.Forms.begins_with tables (l ∷ behind) (entry_behind tables earlier due f.told) ≡ true) (sym is_line) f.passes))

    begins-which : (asked : Command) → begins_turn asked ≡ true → (asked ≡ command.Observe) ⊎ (asked ≡ command.Prune)
    begins-which command.Observe h = inl refl
    begins-which command.Prune h = inr refl
    begins-which _ h = absurd (never h)

    unscanned : (within : Bool) (asked : Command) → (asked ≡ command.Observe) ⊎ (asked ≡ command.Prune) → scanned_by within asked ≡ None
    unscanned within asked (inl is) = ap (scanned_by within) is
    unscanned within asked (inr is) = ap (scanned_by within) is

    -- what is due anew has no such line
    pub anew-fails : (dues : List Due) → begins_anew dues ≡ true → reading tables dues earlier (line ∷ behind) ≡ Err (next_line tables earlier)
    anew-fails [] anew = refl
    anew-fails (due ∷ dues) anew = by due.who refl anew
      where
        fails : may_be_silent due ≡ false → reply_at tables earlier due line behind ≡ None → lines_begun tables earlier due line behind ≡ 0 → reading tables (due ∷ dues) earlier (line ∷ behind) ≡ Err (next_line tables earlier)
        fails speaks none begun = failed tables due dues earlier line behind speaks none ∙ ap Err (plus-none (next_line tables earlier) (lines_begun tables earlier due line behind) begun)

        worker-speaks : (asked : Command) → (asked ≡ command.Observe) ⊎ (asked ≡ command.Prune) → is_seal_or_gather asked ≡ false
        worker-speaks asked (inl is) = ap is_seal_or_gather is
        worker-speaks asked (inr is) = ap is_seal_or_gather is

        by : (who : Who) → due.who ≡ who → (elim who as (λ w. Bool) [ Session number ↦ true | Worker number ↦ begins_turn due.command ]) ≡ true → reading tables (due ∷ dues) earlier (line ∷ behind) ≡ Err (next_line tables earlier)
        by (Session session) is h =
            fails (ap (λ (w : Who). is_worker w && is_seal_or_gather due.command) is) (not-session due session is)
            (begun-session due session is (scanned_by (is_within due.who earlier) due.command))
        by (Worker other) is h =
            let begins = begins-which due.command h in
            fails (ap (λ (w : Who). is_worker w && is_seal_or_gather due.command) is ∙ worker-speaks due.command begins) (not-begin due other is begins)
            (ap (λ (o : Option ℕ). option_map_or (lines_of_scan tables (entry_behind tables earlier due said.Memory).reply line behind) o 0) (unscanned (is_within due.who earlier) due.command begins))

-- ---- what is read behind the line of a step

module _ (tables : List TableDecl) (are : are_tables tables ≡ true) (names : NamesPlain tables) (valid : list_all is_table tables ≡ true) (round worker : ℕ) (earlier : List Entry)
    (small_round : is_u32 round ≡ true) (small_worker : is_u32 worker ≡ true) where
  -- what is due of a worker's step
  abbrev pub due_of : Command → Due
  due_of asked = step_due round worker asked

  -- the index of the worker's next reply
  abbrev pub there : ℕ
  there = next tables are earlier (due_of command.Observe)

  module _ (small_there : is_u64 there ≡ true) where
    -- the numbers of what is due to the worker have their widths
    pub narrow : (asked : Command) → IsNarrow tables are earlier (due_of asked)
    narrow asked = record { round = small_round; who = small_worker; index = small_there }

    begun-by : (f : ℕ → ℕ) (b : Bool) (asked : Command) → scanned_by true asked ≡ None → scanned_by false asked ≡ None → option_map_or f (scanned_by b asked) 0 ≡ 0
    begun-by f true asked h k = ap (λ (o : Option ℕ). option_map_or f o 0) h
    begun-by f false asked h k = ap (λ (o : Option ℕ). option_map_or f o 0) k

    -- of a step that scans nothing no line was begun
    pub step-begun : (line : List ℕ) (behind : List (List ℕ)) (asked : Command) → scanned_by true asked ≡ None → scanned_by false asked ≡ None → lines_begun tables earlier (due_of asked) line behind ≡ 0
    step-begun line behind asked h k = begun-by (lines_of_scan tables (entry_behind tables earlier (due_of asked) said.Memory).reply line behind) (is_within (Worker worker) earlier) asked h k

    zero-more : (n k : ℕ) → k ≡ 0 → n + k ≡ n
    zero-more n k e = omega (arith, e)

    -- a step that may not be silent fails where the line isn't its
    pub step-fails : (asked : Command) → is_seal_or_gather asked ≡ false → scanned_by true asked ≡ None → scanned_by false asked ≡ None → (rest : List Due) (line : List ℕ) (behind : List (List ℕ))
        → reply_at tables earlier (due_of asked) line behind ≡ None → reading tables (due_of asked ∷ rest) earlier (line ∷ behind) ≡ Err (next_line tables earlier)
    step-fails asked speaks a b rest line behind none =
        failed tables (due_of asked) rest earlier line behind speaks none
        ∙ ap Err (zero-more (next_line tables earlier) (lines_begun tables earlier (due_of asked) line behind) (step-begun line behind asked a b))

    module _ (line : List ℕ) (behind : List (List ℕ)) (told : Said) (spoken : said_there tables are earlier (due_of command.Observe) line ≡ Some told) where
      -- a step may say what the line says
      abbrev pub says : Command → Bool
      says asked = may tables are earlier (due_of asked) told

      -- the reply that the line is, as it is kept of a worker
      abbrev pub the_entry : Entry
      the_entry = entry_behind tables earlier (due_of command.Observe) told

      -- upkeep may say what answers it and is no silence
      pub says-is : (asked : Command) → is_upkeep asked ≡ true → says asked ≡ (not (is_silent told) && answers_within tables asked told)
      says-is asked up =
          ap (λ (b : Bool). not (is_silent told) && cond (is_within (Worker worker) earlier || b) (answers_within tables asked told) (answers_without asked told)) up
          ∙ ap (λ (b : Bool). not (is_silent told) && cond b (answers_within tables asked told) (answers_without asked told)) (or-last (is_within (Worker worker) earlier))

      -- a step that may say what the line says finds its reply there
      pub found : (asked : Command) → says asked ≡ true → reply_at tables earlier (due_of asked) line behind ≡ Some (entry_behind tables earlier (due_of asked) told)
      found asked h = matches tables are earlier (due_of asked) names line behind told spoken h

      -- the reply that a seal or gathering finds is the one that is kept
      pub found-quiet : (asked : Command) → is_seal_or_gather asked ≡ true → says asked ≡ true → reply_at tables earlier (due_of asked) line behind ≡ Some the_entry
      found-quiet asked quiet h = found asked h

      -- a step that may not say what the line says finds no reply there
      pub missed : (asked : Command) → ((words others : List (List ℕ)) → IsListed tables words others asked) → says asked ≡ false → reply_at tables earlier (due_of asked) line behind ≡ None
      missed asked listed h =
          misses tables are earlier (due_of asked) (narrow asked) line behind (λ up. listed (drop 3 (words_in line)) behind)
          (λ other is can. never (sym h ∙ ap says_of (same_Some told other (sym spoken ∙ is)) ∙ can))
        where
          says_of : Said → Bool
          says_of s = may tables are earlier (due_of asked) s

      module _ (dues : List Due) (end : reading tables dues earlier (line ∷ behind) ≡ Err (next_line tables earlier)) where
        -- what is read from the line on, with the steps that may be next
        abbrev pub now : NextSteps → Reading
        now steps = from_next tables round worker valid dues steps earlier (line ∷ behind)

        -- what is read behind the line, with the steps that may be next behind it
        abbrev pub later : NextSteps → Reading
        later steps = from_next tables round worker valid dues steps (earlier ++ the_entry ∷ []) (drop (Rattle.outcome_spec.specs.Forms.line_count tables the_entry) (line ∷ behind))

        -- what is read behind the line, or the fault at it where no step takes it
        abbrev pub outcome : Option NextSteps → Reading
        outcome o = elim o as (λ x. Reading) [ Some steps ↦ later steps | None ↦ Err (next_line tables earlier) ]

        -- the steps that may be next are steps of the turn
        abbrev pub StepsIn : NextSteps → Type 0
        StepsIn steps = InTurn tables round worker valid steps

        -- ---- a line that one step says

        module _ (stops : says (command.Compact 0) ≡ false) (compact_alike : (table : ℕ) → says (command.Compact table) ≡ says (command.Compact 0)) where
          compact-stops : (table : ℕ) (rest : List Due) → reading tables (due_of (command.Compact table) ∷ rest) earlier (line ∷ behind) ≡ Err (next_line tables earlier)
          compact-stops table rest = step-fails (command.Compact table) refl refl refl rest line behind (missed (command.Compact table) (λ words others. tt) (compact_alike table ∙ stops))

          abbrev NoHits : List (ℕ × TableDecl) → Type 0
          NoHits entries = NoneHit tables round worker dues earlier line behind the_entry says found-quiet missed (step-begun line behind) end compact-stops entries

          module _ (table block : ℕ) (hit : ℕ → List Command)
              (hits : (at : ℕ) → at < length tables → first_hit says (blocks_of (at, decl_at tables at)) ≡ cond (table == at && nat_lt block (blocks_at tables at)) (Some (hit at)) None) where
            none-hit : (at : ℕ) → at < length tables → (table == at && nat_lt block (blocks_at tables at)) ≡ false → first_hit says (blocks_of (at, decl_at tables at)) ≡ None
            none-hit at few out = hits at few ∙ ap (λ (b : Bool). cond b (Some (hit at)) None) out

            no-hits : (left at : ℕ) → at + left ≡ length tables → ((i : ℕ) → at ≤ i → i < length tables → (table == i && nat_lt block (blocks_at tables i)) ≡ false) → NoHits (entries_at tables at)
            no-hits zero at whole out = subst NoHits (sym (entries-none tables at (omega (arith, whole)))) tt
            no-hits (suc left) at whole out =
                let few : at < length tables = omega (arith, whole) in
                subst NoHits (sym (entries-first tables at few)) (none-hit at few (out at (omega arith) few), no-hits left (at + 1) (omega (arith, whole)) (λ i low high. out i (omega (arith, low)) high))

            other : (i : ℕ) → (table ≡ i → ⊥) → (table == i && nat_lt block (blocks_at tables i)) ≡ false
            other i apart = ap (λ (b : Bool). b && nat_lt block (blocks_at tables i)) (ne_eqb table i apart)

            beyond-hits : (at : ℕ) → table < at → NoHits (entries_at tables at)
            beyond-hits at past = by (nat_lt at (length tables)) refl
              where
                by : (b : Bool) → nat_lt at (length tables) ≡ b → NoHits (entries_at tables at)
                by true h = no-hits (length tables - at) at (let e = ltb-true at (length tables) h in omega (arith, e)) (λ i low high. other i (λ same. omega (arith, past, low, same)))
                by false h = subst NoHits (sym (entries-none tables at (ltb-false at (length tables) h))) tt

            -- the tables in front of the one that is hit
            record Front (at : ℕ) (distance : ℕ) : Type 0 where
              front : List (ℕ × TableDecl)
              many : length front ≡ distance
              whole : entries_at tables at ≡ front ++ (at + distance, decl_at tables (at + distance)) ∷ entries_at tables (at + distance + 1)
              none : NoHits front

            front-of : (distance at : ℕ) → at + distance < length tables → at + distance ≡ table → Front at distance
            front-of zero at few is = record {
              front = [];
              many = refl;
              whole = entries-first tables at (omega (arith, few)) ∙ ap (λ (n : ℕ). (n, decl_at tables n) ∷ entries_at tables (n + 1)) (let e : at ≡ at + 0 = omega arith in e);
              none = tt;
            }
            front-of (suc distance) at few is =
                let f = front-of distance (at + 1) (omega (arith, few)) (omega (arith, is)) in
                let here : at < length tables = omega (arith, few) in
                record {
                  front = (at, decl_at tables at) ∷ f.front;
                  many = let m = f.many in omega (arith, m);
                  whole = entries-first tables at here ∙ ap (λ (es : List (ℕ × TableDecl)). (at, decl_at tables at) ∷ es) f.whole
                      ∙ ap (λ (n : ℕ). (at, decl_at tables at) ∷ (f.front ++ (n, decl_at tables n) ∷ entries_at tables (n + 1))) (let e : at + 1 + distance ≡ at + suc distance = omega arith in e);
                  none = (none-hit at here (other at (λ same. omega (arith, is, same))), f.none);
                }

            -- ---- and the step that says it

            abbrev the_next : List Entry
            the_next = earlier ++ the_entry ∷ []

            abbrev the_lines : List (List ℕ)
            the_lines = drop (Rattle.outcome_spec.specs.Forms.line_count tables the_entry) (line ∷ behind)

            abbrev target : Reading
            target = from_steps tables round worker dues (hit table) (entries_at tables (table + 1)) 0 the_next the_lines

            abbrev fails_here : Reading
            fails_here = Err (next_line tables earlier)

            off-block : nat_lt block (blocks_at tables table) ≡ false → (i : ℕ) → (table == i && nat_lt block (blocks_at tables i)) ≡ false
            off-block off i = by (table == i) refl
              where
                by : (b : Bool) → (table == i) ≡ b → (b && nat_lt block (blocks_at tables i)) ≡ false
                by true same = ap (λ (n : ℕ). nat_lt block (blocks_at tables n)) (sym (eqb-true table i same)) ∙ off
                by false same = refl

            module _ (steps : NextSteps) (in_turn : StepsIn steps) (at_hand : Bool)
                (left : first_hit says (steps_left tables steps) ≡ cond (table == steps.table && nat_lt block (blocks_at tables steps.table) && at_hand) (Some (hit steps.table)) None) where
              abbrev further_tables : List (ℕ × TableDecl)
              further_tables = entries_at tables (steps.table + 1)

              abbrev ahead : ℕ
              ahead = steps.until - (steps.table + 1)

              nothing : first_hit says (steps_left tables steps) ≡ None → NoHits further_tables → now steps ≡ fails_here
              nothing is none =
                  all-none tables round worker dues earlier line behind the_entry says found-quiet missed (step-begun line behind) end compact-stops
                  (steps_left tables steps) (left-quiet tables round worker valid steps in_turn) ahead further_tables (quiet-next tables round worker valid dues steps in_turn) is none

              not-left : (table == steps.table && nat_lt block (blocks_at tables steps.table)) ≡ false → first_hit says (steps_left tables steps) ≡ None
              not-left off = left ∙ ap (λ (b : Bool). cond (b && at_hand) (Some (hit steps.table)) None) off

              here-on : table ≡ steps.table → nat_lt block (blocks_at tables table) ≡ true → at_hand ≡ true → now steps ≡ target
              here-on same on hand =
                  let eq : (table == steps.table) ≡ true = eq-eqb table steps.table same in
                  let there : nat_lt block (blocks_at tables steps.table) ≡ true = ap (λ (n : ℕ). nat_lt block (blocks_at tables n)) (sym same) ∙ on in
                  let is : first_hit says (steps_left tables steps) ≡ Some (hit steps.table) =
                  left ∙ ap (λ (b : Bool). cond (b && nat_lt block (blocks_at tables steps.table) && at_hand) (Some (hit steps.table)) None) eq
                  ∙ ap (λ (b : Bool). cond (b && at_hand) (Some (hit steps.table)) None) there ∙ ap (λ (b : Bool). cond b (Some (hit steps.table)) None) hand in
                  one-here tables round worker dues earlier line behind the_entry says found-quiet missed (step-begun line behind) end compact-stops
                  (steps_left tables steps) (hit steps.table) (left-quiet tables round worker valid steps in_turn) ahead further_tables (quiet-next tables round worker valid dues steps in_turn)
                  (beyond-hits (steps.table + 1) (omega (arith, same))) is
                  ∙ ap (λ (n : ℕ). from_steps tables round worker dues (hit n) (entries_at tables (n + 1)) 0 the_next the_lines) (sym same)

              module _ (apart : table ≡ steps.table → ⊥) (past : steps.table < table) (few : table < length tables) where
                abbrev distance : ℕ
                distance = table - (steps.table + 1)

                far : steps.table + 1 + distance ≡ table
                far = omega (arith, past)

                the-front : Front (steps.table + 1) distance
                the-front = front-of distance (steps.table + 1) (let e = far in omega (arith, e, few)) far

                whole : further_tables ≡ (the-front).front ++ (table, decl_at tables table) ∷ entries_at tables (table + 1)
                whole = (the-front).whole ∙ ap (λ (n : ℕ). (the-front).front ++ (n, decl_at tables n) ∷ entries_at tables (n + 1)) far

                not-here : first_hit says (steps_left tables steps) ≡ None
                not-here = not-left (other steps.table apart)

                quiet-whole : AllQuiet tables round worker dues ((the-front).front ++ (table, decl_at tables table) ∷ entries_at tables (table + 1))
                quiet-whole = subst (AllQuiet tables round worker dues) whole (quiet-next tables round worker valid dues steps in_turn)

                later-on : nat_lt block (blocks_at tables table) ≡ true → table < steps.until → now steps ≡ target
                later-on on before =
                    let is : first_hit says (blocks_of (table, decl_at tables table)) ≡ Some (hit table) =
                    hits table few ∙ ap (λ (b : Bool). cond (b && nat_lt block (blocks_at tables table)) (Some (hit table)) None) (eq-eqb table table refl) ∙ ap (λ (b : Bool). cond b (Some (hit table)) None) on in
                    let count : ahead ≡ beyond (the-front).front (steps.until - (table + 1)) =
                    (let b = beyond-is (the-front).front (steps.until - (table + 1)) in let m = (the-front).many in omega (arith, b, m, past, before)) in
                    ap (λ (es : List (ℕ × TableDecl)). from_steps tables round worker dues (steps_left tables steps) es ahead earlier (line ∷ behind)) whole
                    ∙ ap (λ (n : ℕ). from_steps tables round worker dues (steps_left tables steps) ((the-front).front ++ (table, decl_at tables table) ∷ entries_at tables (table + 1)) n earlier (line ∷ behind)) count
                    ∙ one-later tables round worker dues earlier line behind the_entry says found-quiet missed (step-begun line behind) end compact-stops
                    (steps_left tables steps) (hit table) (left-quiet tables round worker valid steps in_turn) (the-front).front (table, decl_at tables table) (entries_at tables (table + 1)) (steps.until - (table + 1)) quiet-whole
                    not-here (the-front).none is (beyond-hits (table + 1) (omega arith))

                too-far : steps.until ≤ table → now steps ≡ fails_here
                too-far behind_it =
                    ap (λ (es : List (ℕ × TableDecl)). from_steps tables round worker dues (steps_left tables steps) es ahead earlier (line ∷ behind)) whole
                    ∙ one-none tables round worker dues earlier line behind the_entry says found-quiet missed (step-begun line behind) end compact-stops
                    (steps_left tables steps) (left-quiet tables round worker valid steps in_turn) ahead (the-front).front ((table, decl_at tables table) ∷ entries_at tables (table + 1))
                    (let m = (the-front).many in omega (arith, m, past, behind_it)) quiet-whole not-here (the-front).none

              not-equal : (table == steps.table) ≡ false → table ≡ steps.table → ⊥
              not-equal no_same same = never (sym no_same ∙ eq-eqb table steps.table same)

              below : nat_lt steps.table table ≡ false → (table ≡ steps.table → ⊥) → table < steps.table + 1
              below h apart = let e = ltb-false steps.table table h in omega (arith, e)

              not-past : table ≡ steps.table → nat_lt steps.table table ≡ false
              not-past same = ap (λ (n : ℕ). nat_lt steps.table n) same ∙ self steps.table
                where
                  self : (n : ℕ) → nat_lt n n ≡ false
                  self n = by (nat_lt n n) refl
                    where
                      by : (b : Bool) → nat_lt n n ≡ b → b ≡ false
                      by true h = absurd (let e = ltb-true n n h in omega (arith, e))
                      by false h = refl

              -- the outcome of the line of one step
              pub one-read : now steps ≡ cond (nat_lt block (blocks_at tables table) && (table == steps.table && at_hand || nat_lt steps.table table && nat_lt table steps.until)) target fails_here
              one-read = by-block (nat_lt block (blocks_at tables table)) refl
                where
                  by-until : (b : Bool) → nat_lt table steps.until ≡ b → (table ≡ steps.table → ⊥) → steps.table < table → nat_lt block (blocks_at tables table) ≡ true → now steps ≡ cond b target fails_here
                  by-until true h apart past on = later-on apart past (has-blocks tables table block (ltb-true block (blocks_at tables table) on)) on (ltb-true table steps.until h)
                  by-until false h apart past on = too-far apart past (has-blocks tables table block (ltb-true block (blocks_at tables table) on)) (ltb-false table steps.until h)

                  by-past : (b : Bool) → nat_lt steps.table table ≡ b → (table ≡ steps.table → ⊥) → nat_lt block (blocks_at tables table) ≡ true → now steps ≡ cond (b && nat_lt table steps.until) target fails_here
                  by-past true h apart on = by-until (nat_lt table steps.until) refl apart (ltb-true steps.table table h) on
                  by-past false h apart on = nothing (not-left (other steps.table apart)) (beyond-hits (steps.table + 1) (below h apart))

                  by-hand : (b : Bool) → at_hand ≡ b → table ≡ steps.table → nat_lt block (blocks_at tables table) ≡ true → now steps ≡ cond (b || nat_lt steps.table table && nat_lt table steps.until) target fails_here
                  by-hand true h same on = here-on same on h
                  by-hand false h same on =
                      nothing (left ∙ ap (λ (b : Bool). cond (table == steps.table && nat_lt block (blocks_at tables steps.table) && b) (Some (hit steps.table)) None) h ∙ no-hand (table == steps.table) (nat_lt block (blocks_at tables steps.table)))
                      (beyond-hits (steps.table + 1) (omega (arith, same)))
                      ∙ ap (λ (b : Bool). cond (b && nat_lt table steps.until) target fails_here) (sym (not-past same))
                    where
                      no-hand : (a c : Bool) → cond (a && c && false) (Some (hit steps.table)) None ≡ None
                      no-hand true true = refl
                      no-hand true false = refl
                      no-hand false true = refl
                      no-hand false false = refl

                  by-table : (b : Bool) → (table == steps.table) ≡ b → nat_lt block (blocks_at tables table) ≡ true
                      → now steps ≡ cond (b && at_hand || nat_lt steps.table table && nat_lt table steps.until) target fails_here
                  by-table true h on = by-hand at_hand refl (eqb-true table steps.table h) on
                  by-table false h on = by-past (nat_lt steps.table table) refl (not-equal h) on

                  by-block : (b : Bool) → nat_lt block (blocks_at tables table) ≡ b → now steps ≡ cond (b && (table == steps.table && at_hand || nat_lt steps.table table && nat_lt table steps.until)) target fails_here
                  by-block true h = by-table (table == steps.table) refl h
                  by-block false h =
                      nothing (not-left (off-block h steps.table)) (no-hits (length tables - (steps.table + 1)) (steps.table + 1) (let e = in_turn.table in omega (arith, e)) (λ i low high. off-block h i))

-- ---- which blocks of a table say something

module _ (test : Command → Bool) (table : ℕ) (block : ℕ) where
  -- a test that holds at one seal of the table, or of none
  module _ (own : Bool) (seals : (at : ℕ) → test (command.Seal table at) ≡ (own && block == at)) (gathers : (at : ℕ) → test (command.Gather table at) ≡ false) where
    -- what a block's seal says leaves its gathering and the blocks behind, where the range has it
    pub seal-range : (first count : ℕ) → first_hit test (blocks_from table first count)
        ≡ cond (own && (not (nat_lt block first) && nat_lt block (first + count))) (Some (command.Gather table block ∷ blocks_from table (block + 1) (first + count - (block + 1)))) None
    seal-range first count = by own refl
      where
        by-high : (b : Bool) → nat_lt block (first + count) ≡ b → own ≡ true → first ≤ block → first_hit test (blocks_from table first count) ≡ cond b (Some (command.Gather table block ∷ blocks_from table (block + 1) (first + count - (block + 1)))) None
        by-high true h o low = seal-says test table block (λ at. seals at ∙ ap (λ (x : Bool). x && block == at) o) gathers first count low (ltb-true block (first + count) h)
        by-high false h o low =
            let past = ltb-false block (first + count) h in
            seal-none test table block (λ at. seals at ∙ ap (λ (x : Bool). x && block == at) o) gathers first count (λ at l high same. omega (arith, past, high, same))

        by-low : (b : Bool) → nat_lt block first ≡ b → own ≡ true → first_hit test (blocks_from table first count) ≡ cond (not b && nat_lt block (first + count)) (Some (command.Gather table block ∷ blocks_from table (block + 1) (first + count - (block + 1)))) None
        by-low true h o =
            let before = ltb-true block first h in
            seal-none test table block (λ at. seals at ∙ ap (λ (x : Bool). x && block == at) o) gathers first count (λ at low l same. omega (arith, before, low, same))
        by-low false h o = by-high (nat_lt block (first + count)) refl o (ltb-false block first h)

        by : (b : Bool) → own ≡ b → first_hit test (blocks_from table first count)
            ≡ cond (b && (not (nat_lt block first) && nat_lt block (first + count))) (Some (command.Gather table block ∷ blocks_from table (block + 1) (first + count - (block + 1)))) None
        by true o = by-low (nat_lt block first) refl o
        by false o = none-says test table (λ at. seals at ∙ ap (λ (x : Bool). x && block == at) o) gathers first count

  -- a test that holds at one gathering of the table, or of none
  module _ (own : Bool) (seals : (at : ℕ) → test (command.Seal table at) ≡ false) (gathers : (at : ℕ) → test (command.Gather table at) ≡ (own && block == at)) where
    -- what a block's gathering says leaves the blocks behind it, where the range has it
    pub gather-range : (first count : ℕ) → first_hit test (blocks_from table first count)
        ≡ cond (own && (not (nat_lt block first) && nat_lt block (first + count))) (Some (blocks_from table (block + 1) (first + count - (block + 1)))) None
    gather-range first count = by own refl
      where
        by-high : (b : Bool) → nat_lt block (first + count) ≡ b → own ≡ true → first ≤ block → first_hit test (blocks_from table first count) ≡ cond b (Some (blocks_from table (block + 1) (first + count - (block + 1)))) None
        by-high true h o low = gather-says test table block seals (λ at. gathers at ∙ ap (λ (x : Bool). x && block == at) o) first count low (ltb-true block (first + count) h)
        by-high false h o low =
            let past = ltb-false block (first + count) h in
            gather-none test table block seals (λ at. gathers at ∙ ap (λ (x : Bool). x && block == at) o) first count (λ at l high same. omega (arith, past, high, same))

        by-low : (b : Bool) → nat_lt block first ≡ b → own ≡ true → first_hit test (blocks_from table first count) ≡ cond (not b && nat_lt block (first + count)) (Some (blocks_from table (block + 1) (first + count - (block + 1)))) None
        by-low true h o =
            let before = ltb-true block first h in
            gather-none test table block seals (λ at. gathers at ∙ ap (λ (x : Bool). x && block == at) o) first count (λ at low l same. omega (arith, before, low, same))
        by-low false h o = by-high (nat_lt block (first + count)) refl o (ltb-false block first h)

        by : (b : Bool) → own ≡ b → first_hit test (blocks_from table first count)
            ≡ cond (b && (not (nat_lt block first) && nat_lt block (first + count))) (Some (blocks_from table (block + 1) (first + count - (block + 1)))) None
        by true o = by-low (nat_lt block first) refl o
        by false o = none-says test table seals (λ at. gathers at ∙ ap (λ (x : Bool). x && block == at) o) first count
