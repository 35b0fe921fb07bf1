-- A worker's lines, by what the next line says.
use Rattle.std.proofs.Common.{◌≡◌, ℕ, ◌+◌, ◌^◌, ◌<◌, ◌≤◌, Bool, true, false, cond, ◌&&◌, ◌||◌, not, List, [], ◌∷◌, ◌++◌, length, drop, Option, None, Some, Err, refl, sym, ap, ◌∙◌, arith, suc}
use Rattle.std.specs.Prelude.{◌==◌}
use Rattle.std.specs.Option.{option_map_or}
use Rattle.std.proofs.lemmas.Bool.{and_from, and_parts, eq-eqb, lt-ltb}
use Rattle.std.proofs.lemmas.Option.{same_Some}
use Rattle.cell_model.specs.declared.table.TableDecl.{TableDecl}
use Rattle.workload_spec.specs.declared.command.Command.{Command}
use Rattle.workload_spec.specs.declared.command.Command.TheVariants as command
use Rattle.workload_spec.specs.declared.reply.Who.{Who}
use Rattle.workload_spec.specs.declared.reply.Who.TheVariants.{Worker}
use Rattle.workload_spec.specs.declared.reply.Said.{Said}
use Rattle.workload_spec.specs.declared.reply.Said.TheVariants as said
use Rattle.outcome_spec.specs.Entries.{Entry, is_same}
use Rattle.outcome_spec.specs.Reading.{words_in}
use Rattle.outcome_spec.specs.Forms.{Due, entry_behind, line_count, lines_of_scan, next_line, is_within, is_silent, is_upkeep, is_seal_or_gather, scanned_by}
use Rattle.reply_text.specs.Shown.{is_u32, are_tables}
use Rattle.timeline_laws.proofs.ReadBack.{NamesPlain}
use Rattle.timeline_laws.proofs.Tests.{or-last}
use Rattle.output_read.specs.declared.kept.KeptReply.{KeptReply}
use Rattle.output_read.specs.declared.reader.Reader.{Reader}
use Rattle.output_read.specs.declared.workers.Shift.{Shift}
use Rattle.output_read.specs.Answers.{answers, answers_within, answers_without, answers_observe, answers_prune, answers_compact}
use Rattle.output_read.specs.Fronts.{said_at, said_first, is_single}
use Rattle.output_read.specs.Kept.{entry_of, is_told, said_of}
use Rattle.output_read.specs.Order.{AddsAll}
use Rattle.output_read.specs.Readers.{IsReading, FailsAll, read_by, lines_left, is_of, next_index}
use Rattle.output_read.specs.Work.{IsShift, IsSpoken, StepRead, work_dues}
use Rattle.output_read.proofs.Fitting.{never}
use Rattle.output_read.proofs.Answering.{IsListed}
use Rattle.output_read.proofs.Keys.{absurdly, who-same, said_there, may, next, IsNarrow, matches, misses, alone, chosen-scanned}
use Rattle.output_read.proofs.Names.{names-plain, tables-valid}
use Rattle.output_read.proofs.Keeping.{Kept, read-more, still-reading, passes-all, fails-at, fails-end, next-index, index-few}
use Rattle.output_read.proofs.Passing.{adds-one}
use Rattle.output_read.proofs.SessionReplies.{line-of}
use Rattle.output_read.proofs.Silences.{step_due}

-- ---- steps that have a line

-- What answers an observation is not silent.
loud-observe : (told : Said) → answers_observe told ≡ true → is_silent told ≡ false
loud-observe (said.Cooling count) h = refl
loud-observe _ h = absurd (never h)

-- What answers a pruning is not silent.
loud-prune : (told : Said) → answers_prune told ≡ true → is_silent told ≡ false
loud-prune (said.Pruned count) h = refl
loud-prune _ h = absurd (never h)

-- What answers a compaction is not silent.
loud-compact : (told : Said) → answers_compact told ≡ true → is_silent told ≡ false
loud-compact (said.Moved count) h = refl
loud-compact said.Memory h = refl
loud-compact _ h = absurd (never h)

-- What answers a step that has a line in any case is not silent.
loud : (tables : List TableDecl) (asked : Command) → IsSpoken asked → (told : Said) → answers tables true asked told ≡ true → is_silent told ≡ false
loud tables command.Observe is told h = loud-observe told h
loud tables command.Prune is told h = loud-prune told h
loud tables (command.Compact table) is told h = loud-compact told h
loud tables _ is told h = absurd is

-- A step that has a line in any case is upkeep.
spoken-upkeep : (asked : Command) → IsSpoken asked → is_upkeep asked ≡ true
spoken-upkeep command.Observe is = refl
spoken-upkeep command.Prune is = refl
spoken-upkeep (command.Compact table) is = refl
spoken-upkeep _ is = absurd is

-- A step that has a line in any case is no seal and no gathering.
spoken-speaks : (asked : Command) → IsSpoken asked → is_seal_or_gather asked ≡ false
spoken-speaks command.Observe is = refl
spoken-speaks command.Prune is = refl
spoken-speaks (command.Compact table) is = refl
spoken-speaks _ is = absurd is

-- A step that has a line in any case scans no table.
spoken-unscanned : (within : Bool) (asked : Command) → IsSpoken asked → scanned_by within asked ≡ None
spoken-unscanned within command.Observe is = refl
spoken-unscanned within command.Prune is = refl
spoken-unscanned within (command.Compact table) is = refl
spoken-unscanned within _ is = absurd is

-- A step that has a line in any case names only what there is.
spoken-listed : (tables : List TableDecl) (words behind : List (List ℕ)) (asked : Command) → IsSpoken asked → IsListed tables words behind asked
spoken-listed tables words behind command.Observe is = tt
spoken-listed tables words behind command.Prune is = tt
spoken-listed tables words behind (command.Compact table) is = tt
spoken-listed tables words behind _ is = absurd is

module _ (old : Reader) (shift : Shift) (are : are_tables old.tables.now ≡ true) (reading_is : IsReading old) (is_shift : IsShift shift old) where
  -- The tables of the reader in front of the step.
  abbrev T : List TableDecl
  T = old.tables.now

  -- The replies that were read in front of the step.
  abbrev E : List Entry
  E = read_by old

  -- The worker of the shift, as whom a reply answers.
  abbrev who : Who
  who = Worker shift.worker

  -- The index of the worker's next reply in the round.
  abbrev heading : ℕ
  heading = shift.index + 1

  -- What is due to the shift's worker of a step.
  abbrev due : Command → Due
  due asked = step_due shift.round shift.worker asked

  -- the names of the reader's tables are plain words
  pub plain : NamesPlain T
  plain = names-plain T (tables-valid T are)

  -- The worker's next index by the replies that were read fits 64 bits.
  few-index : next_index shift.round who E < 2 ^ 64
  few-index = let a = index-few old shift.round who reading_is in let b = reading_is.room in omega (arith, a, b)

  -- the next index fits 64 bits
  pub heading-small : heading < 2 ^ 64
  heading-small = let a = few-index in let b = is_shift.index in omega (arith, a, b)

  -- the next index is not above the number of the line
  pub heading-low : heading ≤ old.line
  heading-low = let a = index-few old shift.round who reading_is in let b = is_shift.index in omega (arith, a, b)

  -- The round of the shift fits 32 bits.
  small_round : is_u32 shift.round ≡ true
  small_round = lt-ltb shift.round (2 ^ 32) is_shift.round

  -- The number of the shift's worker fits 32 bits.
  small_worker : is_u32 shift.worker ≡ true
  small_worker = lt-ltb shift.worker (2 ^ 32) is_shift.worker

  -- The numbers of what is due to the worker have their widths.
  narrow-of : (asked : Command) → IsNarrow T are E (due asked)
  narrow-of asked = record { round = small_round; who = small_worker; index = lt-ltb (next T are E (due asked)) (2 ^ 64) few-index }

  -- what a line says at the shift's next index is what it says as the reply that is due
  pub said-there : (asked : Command) (line : List ℕ) (told : Said) → said_at T shift.round who heading line ≡ Some told → said_there T are E (due asked) line ≡ Some told
  said-there asked line told h = ap (λ (n : ℕ). said_at T shift.round who n line) (sym is_shift.index) ∙ h

  -- What a line says as the reply that is due it says at the shift's next index.
  said-here : (asked : Command) (line : List ℕ) (told : Said) → said_there T are E (due asked) line ≡ Some told → said_at T shift.round who heading line ≡ Some told
  said-here asked line told h = ap (λ (n : ℕ). said_at T shift.round who n line) is_shift.index ∙ h

  -- what was kept of a worker's line is the reply to the step
  pub kept-entry : (asked : Command) (kept : KeptReply) (told : Said) → kept ≡ record { number = old.line; command = None; round = shift.round; who = who; index = heading; told = kept.told } → said_of kept.told ≡ told
      → entry_of kept ≡ entry_behind T E (due asked) told
  kept-entry asked kept told is said_is =
      ap entry_of is
      ∙ ap (λ (s : Said). record { number = old.line; command = command.Observe; reply = record { round = shift.round; who = who; index = heading; said = s } }) said_is
      ∙ ap (λ (n : ℕ). record { number = n; command = command.Observe; reply = record { round = shift.round; who = who; index = heading; said = told } }) reading_is.line
      ∙ ap (λ (n : ℕ). record { number = next_line T E; command = command.Observe; reply = record { round = shift.round; who = who; index = n; said = told } }) is_shift.index

  -- the shift behind a kept line
  module _ (new : Reader) (kept : KeptReply) (k : Kept old new kept 1) (told : Said) (told_ok : is_told kept.told ≡ true) (entry : entry_of kept ≡ entry_behind T E (due command.Observe) told)
      (count : line_count T (entry_behind T E (due command.Observe) told) ≡ 1) where
    own : is_of shift.round who (entry_of kept) ≡ true
    own = ap (λ (e : Entry). is_of shift.round who e) entry ∙ and_from (shift.round == shift.round) (is_same who who) (eq-eqb shift.round shift.round refl) (who-same who)

    abbrev after : Shift
    after = record { round = shift.round; worker = shift.worker; index = heading }

    -- the reader behind a kept line reads on
    pub reads-on : IsReading new
    reads-on = still-reading old new kept 1 k reading_is told_ok (ap (line_count T) entry ∙ count)

    -- the shift behind a kept line counts one line more
    pub shift-on : IsShift after new
    shift-on = record {
      round = is_shift.round;
      worker = is_shift.worker;
      index = (let a = is_shift.index in let b = next-index shift.round who E (entry_of kept) own in
          let e : heading + 1 ≡ next_index shift.round who (E ++ entry_of kept ∷ []) = omega (arith, a, b) in e) ∙ ap (next_index shift.round who) (sym (read-more old new kept 1 k));
    }

    -- a kept line adds a reply to the worker
    pub adds-it : AddsAll old new shift.round who
    adds-it = adds-one old new shift.round who (record { entry = entry_of kept; is = read-more old new kept 1 k; own = own })

  -- ---- a step that has a line

  module _ (asked : Command) (spoken : IsSpoken asked) where
    may-is : (told : Said) → may T are E (due asked) told ≡ (not (is_silent told) && answers T true asked told)
    may-is told =
        ap (λ (b : Bool). not (is_silent told) && cond (is_within who E || b) (answers_within T asked told) (answers_without asked told)) (spoken-upkeep asked spoken)
        ∙ ap (λ (b : Bool). not (is_silent told) && cond b (answers_within T asked told) (answers_without asked told)) (or-last (is_within who E))

    spoken-may : (told : Said) → answers T true asked told ≡ true → may T are E (due asked) told ≡ true
    spoken-may told h = may-is told ∙ and_from (not (is_silent told)) (answers T true asked told) (ap not (loud T asked spoken told h)) h

    one-line : (told : Said) → answers T true asked told ≡ true → line_count T (entry_behind T E (due asked) told) ≡ 1
    one-line told h = ap (λ (ls : List (List ℕ)). suc (length ls)) (alone T true asked told h)

    -- a step is read where a line that answers it was kept
    pub work-goes : (new : Reader) (kept : KeptReply) (told : Said) → Kept old new kept 1 → kept ≡ record { number = old.line; command = None; round = shift.round; who = who; index = heading; told = kept.told }
        → said_of kept.told ≡ told → is_told kept.told ≡ true → Some told ≡ said_first T shift.round who heading (lines_left old) → answers T true asked told ≡ true
        → StepRead old new shift (record { round = shift.round; worker = shift.worker; index = heading }) asked
    work-goes new kept told k kept_is said_is told_ok says can =
        let l = line-of T shift.round who heading (lines_left old) told says in
        let entry = kept-entry asked kept told kept_is said_is in
        let at = matches T are E (due asked) plain l.line l.behind told (said-there asked l.line told l.says) (spoken-may told can) in
        let count = one-line told can in
        record {
          reading = reads-on new kept k told told_ok entry count;
          shift_on = shift-on new kept k told told_ok entry count;
          round = refl;
          worker = refl;
          passes = passes-all old new kept 1 k (due asked) told (spoken-speaks asked spoken) entry (ap (line_count T) entry ∙ count) l.line l.behind l.is at;
          adds = adds-it new kept k told told_ok entry count;
        }

    zero-fails : FailsAll old (due asked ∷ []) (old.line + 0) → FailsAll old (due asked ∷ []) old.line
    zero-fails h dues = h dues ∙ ap Err (let e : old.line + 0 ≡ old.line = omega arith in e)

    work-fails : (lines : List (List ℕ)) → lines_left old ≡ lines → ((told : Said) → Some told ≡ said_first T shift.round who heading lines → answers T true asked told ≡ true → ⊥) → FailsAll old (work_dues shift (asked ∷ [])) old.line
    work-fails [] front none = fails-end old (due asked) reading_is (spoken-speaks asked spoken) front
    work-fails (line ∷ behind) front none =
        zero-fails (fails-at old (due asked) line behind 0 reading_is (spoken-speaks asked spoken) front
        (misses T are E (due asked) (narrow-of asked) line behind (λ up. spoken-listed T (drop 3 (words_in line)) behind asked spoken)
        (λ told is can. none told (sym (said-here asked line told is)) (and_parts (not (is_silent told)) (answers T true asked told) (sym (may-is told) ∙ can)).1))
        (ap (λ (o : Option ℕ). option_map_or (lines_of_scan T (entry_behind T E (due asked) said.Memory).reply line behind) o 0) (spoken-unscanned (is_within who E) asked spoken)))

    -- a step that has a line in any case fails where the next line says nothing
    pub work-nothing : None ≡ said_first T shift.round who heading (lines_left old) → FailsAll old (work_dues shift (asked ∷ [])) old.line
    work-nothing none = work-fails (lines_left old) refl (λ told is can. absurdly (is ∙ sym none))

    -- a step that has a line in any case fails where the next line says what does not answer it
    pub work-other : (told : Said) → Some told ≡ said_first T shift.round who heading (lines_left old) → answers T true asked told ≡ false → FailsAll old (work_dues shift (asked ∷ [])) old.line
    work-other told is cannot = work-fails (lines_left old) refl (λ other other_is can. never (sym cannot ∙ ap (answers T true asked) (same_Some told other (is ∙ sym other_is)) ∙ can))

    -- what answers a step stands on one line
    pub work-single : (told : Said) → answers T true asked told ≡ true → is_single told ≡ true
    work-single told can = by told can
      where
        by : (s : Said) → answers T true asked s ≡ true → is_single s ≡ true
        by (said.Scanned rows) h = absurd (chosen-scanned T asked rows true h)
        by _ h = refl
