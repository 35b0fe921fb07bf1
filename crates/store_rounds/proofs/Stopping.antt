-- A run that stops behind a round whose lines are not printed.
use Rattle.std.proofs.Common.{◌≡◌, ℕ, zero, suc, ◌+◌, ◌-◌, ◌<◌, ◌≤◌, ◌==◌, nat_le, Bool, true, false, cond, ◌&&◌, ◌||◌, List, [], ◌∷◌, ◌++◌, map, length, take, Option, None, Some, refl, sym, ap, ◌∙◌, subst, append-nil, append_assoc, arith, length-append}
use mathlib.Core.Logic.{inl, inr}
use Rattle.std.specs.Prelude.{◌≢◌, ◌⊎◌}
use Rattle.std.specs.List.{cons_option, list_all, list_any, range_with_len}
use Rattle.std.proofs.lemmas.Bool.{and_parts}
use Rattle.std.proofs.lemmas.Bool.Decides.{nat_tests}
use Rattle.std.proofs.lemmas.List.{length-map, map-append}
use Rattle.std.proofs.lemmas.List.Folds.{list_any-append}
use Rattle.outcome_spec.specs.Forms.{commands_of}
use Rattle.workload_spec.specs.Valid.{is_export, is_within}
use Rattle.workload_spec.specs.declared.command.Command.{Command}
use Rattle.workload_spec.specs.declared.reply.Who.{Who}
use Rattle.workload_spec.specs.declared.reply.Who.TheVariants.{Session as TheSession, Worker as TheWorker}
use Rattle.workload_spec.specs.declared.script.Line.{Line}
use Rattle.workload_spec.specs.declared.script.Script.{Script}
use Rattle.run_spec.specs.Calls.{Call}
use Rattle.run_spec.specs.Ran.{IsRunnable, RoundRun, Share}
use Rattle.run_laws.proofs.Rounds.Fronts.{first_lines_are_so, first_lines_ask, fronts_are_valid}
use Rattle.run_laws.specs.Rounds.Fronts.{AreFirstLines, first_lines, lines_of}
use Rattle.run_laws.specs.Rounds.Lines.{round_text, rounds_text}
use Rattle.shared_store.specs.Store.{StoreView}
use Rattle.shared_store.specs.declared.session.Session.{Session}
use Rattle.store_rounds.specs.Crews.{crew_of, crew_shares, shares_of}
use Rattle.store_rounds.specs.Rounds.{AskedUpToExport, CallsStopAtExport, NotBegun, OneEndsAtExport, RanToExport, RoundStops}
use Rattle.store_rounds.specs.Runs.{RunsIn}
use Rattle.store_rounds.specs.Worked.{EndsAtExport, asked_in, share_of}
use Rattle.store_rounds.specs.Grouped.{MayHaveHandedOver}
use Rattle.store_rounds.specs.Logging.{FitsRecord, IsTooLong, OfLogged}
use Rattle.store_rounds.specs.Workloads.{LinesEndAtExport, GoesPart, GoesTo, GoesTooLong, GoesUnadded, GoesUnshown, ToldMemory, added_by}
use Rattle.store_rounds.specs.declared.fault.RunFault.{RunFault}
use Rattle.store_rounds.specs.declared.fault.RunFault.TheVariants as fault
use Rattle.store_rounds.proofs.Duties.{two_counted}
use Rattle.store_rounds.proofs.HandedOver.{standing_stays}
use Rattle.store_rounds.proofs.WholeRounds.{ends_exports}
use Rattle.store_rounds.proofs.Running.{RoundDone, Running, both, counted_further, more, ran_further, round, round_once, round_within, sent_further, stands_further, text_further, keeps_more, keeps_now}
use Rattle.store_rounds.proofs.Went.{explained_so_far, went, went_so_far}

-- ---- the lines that were carried out

-- how many commands each session carried out
abbrev counts_of : (ℕ → List Call) → ℕ → ℕ
counts_of calls session = length (asked_in (calls session))

-- Taking as many as the first part has gives the first part.
taken_all : (xs ys : List Command) → take (length xs) (xs ++ ys) ≡ xs
taken_all [] [] = refl
taken_all [] (y ∷ ys) = refl
taken_all (x ∷ xs) ys = ap (λ (zs : List Command). x ∷ zs) (taken_all xs ys)

-- Each session carried out the commands of the lines that were carried out.
asked_first : (sessions : ℕ) (lines : List Line) (calls : ℕ → List Call) → AskedUpToExport sessions lines calls
    → (k : ℕ) → k < sessions → asked_in (calls (k + 1)) ≡ commands_of (k + 1) (first_lines (counts_of calls) lines)
asked_first sessions lines calls some k within = go (some k within)
  where
    with_rest : (rest : List Command) → commands_of (k + 1) lines ≡ asked_in (calls (k + 1)) ++ rest
        → asked_in (calls (k + 1)) ≡ commands_of (k + 1) (first_lines (counts_of calls) lines)
    with_rest rest part =
        sym (first_lines_ask (counts_of calls) lines (k + 1)
        ∙ ap (take (counts_of calls (k + 1))) part
        ∙ taken_all (asked_in (calls (k + 1))) rest)

    go : (asked_in (calls (k + 1)) ≡ commands_of (k + 1) lines) ⊎ CallsStopAtExport (calls (k + 1)) (commands_of (k + 1) lines)
        → asked_in (calls (k + 1)) ≡ commands_of (k + 1) (first_lines (counts_of calls) lines)
    go (inl whole) = with_rest [] (sym whole ∙ sym (append-nil (asked_in (calls (k + 1)))))
    go (inr stops) = with_rest stops.rest stops.asked

-- a session's commands are those of its lines
commands_in_lines : (session : ℕ) (lines : List Line) → commands_of session lines ≡ map (λ (line : Line). line.command) (lines_of session lines)
commands_in_lines session [] = refl
commands_in_lines session (line ∷ lines) = go (line.session == session) (commands_in_lines session lines)
  where
    go : (own : Bool) → commands_of session lines ≡ map (λ (line : Line). line.command) (lines_of session lines)
        → cons_option (cond own (Some line.command) None) (commands_of session lines)
        ≡ map (λ (line : Line). line.command) (cond own (line ∷ lines_of session lines) (lines_of session lines))
    go true rest = ap (λ (cs : List Command). line.command ∷ cs) rest
    go false rest = rest

-- the last of some lines asks the last command
last_asks : (lines : List Line) (front : List Command) (last : Command) → map (λ (line : Line). line.command) lines ≡ front ++ last ∷ []
    → (others : List Line) × (line : Line) × (lines ≡ others ++ line ∷ []) × (line.command ≡ last)
last_asks [] [] last e = absurd (let never : ⊥ = cc e in never)
last_asks [] (c ∷ front) last e = absurd (let never : ⊥ = cc e in never)
last_asks (line ∷ []) [] last e = ([], line, refl, cc e)
last_asks (line ∷ next ∷ lines) [] last e = absurd (let never : ⊥ = cc e in never)
last_asks (line ∷ lines) (c ∷ front) last e =
    let behind = last_asks lines front last (cc e) in
    (line ∷ behind.0, behind.1, ap (λ (ls : List Line). line ∷ ls) behind.2, behind.3)

-- a session's lines end where its calls do
ends_at_export : (k : ℕ) (calls : List Call) (lines : List Line) → asked_in calls ≡ commands_of (k + 1) lines → EndsAtExport calls → LinesEndAtExport lines (k + 1)
ends_at_export k calls lines asked ends =
    let last = last_asks (lines_of (k + 1) lines) (asked_in ends.front) ends.last.command
    (sym (commands_in_lines (k + 1) lines) ∙ sym asked ∙ ap asked_in ends.calls_are
    ∙ map-append (λ (call : Call). call.command) ends.front (ends.last ∷ [])) in
    record {
      front = last.0;
      last = last.1;
      lines_are = last.2;
      asked = ap is_export last.3 ∙ ends.asked;
    }

-- a front that is as long is the whole
whole_front : (front rest whole : List Line) → whole ≡ front ++ rest → length front ≡ length whole → front ≡ whole
whole_front front [] whole split same = sym (append-nil front) ∙ sym split
whole_front front (line ∷ rest) whole split same =
    let sizes = ap length split in absurd (omega (arith, same, sizes, length-append front (line ∷ rest)))

-- nobody else has lines
foreign : (sessions session : ℕ) (lines : List Line) → list_all (λ (line : Line). is_within 1 sessions line.session) lines ≡ true
    → ((k : ℕ) → k < sessions → session ≡ k + 1 → ⊥) → lines_of session lines ≡ []
foreign sessions session [] all other = refl
foreign sessions session (line ∷ lines) all other =
    let parts = and_parts (is_within 1 sessions line.session) (list_all (λ (line : Line). is_within 1 sessions line.session) lines) all in
    let here = and_parts (nat_le 1 line.session) (nat_le line.session sessions) parts.0 in
    go (line.session == session) refl here.0 here.1 (foreign sessions session lines parts.1 other)
  where
    go : (own : Bool) → (line.session == session) ≡ own → nat_le 1 line.session ≡ true → nat_le line.session sessions ≡ true → lines_of session lines ≡ []
        → cond own (line ∷ lines_of session lines) (lines_of session lines) ≡ []
    go true is low high rest =
        let same : line.session ≡ session = grind (arith, nat_tests, is) in
        let one : 1 ≤ line.session = grind (arith, nat_tests, low) in
        let most : line.session ≤ sessions = grind (arith, nat_tests, high) in
        absurd (other (session - 1) (omega (arith, same, one, most)) (omega (arith, same, one)))
    go false is low high rest = rest

-- ---- what each was told

-- A mapped range is what is in front of a place, that place, and what is behind.
map_split : {X : Type 0} (f : ℕ → X) (a m n : ℕ) → map f (range_with_len a (m + suc n)) ≡ map f (range_with_len a m) ++ f (m + a) ∷ map f (range_with_len (m + a + 1) n)
map_split f a zero n =
    ap (λ k. map f (range_with_len a k)) (let e : 0 + suc n ≡ suc n = omega arith in e)
    ∙ ap (λ k. f k ∷ map f (range_with_len (k + 1) n)) (let e : a ≡ 0 + a = omega arith in e)
map_split f a (suc m) n =
    ap (λ k. map f (range_with_len a k)) (let e : suc m + suc n ≡ suc (m + suc n) = omega arith in e)
    ∙ ap (λ xs. f a ∷ xs) (map_split f (a + 1) m n)
    ∙ ap (λ k. f a ∷ (map f (range_with_len (a + 1) m) ++ f k ∷ map f (range_with_len (k + 1) n))) (let e : m + (a + 1) ≡ suc m + a = omega arith in e)

-- Among the crew's shares is that of the session whose calls end at an export.
told_memory : (script : Script) (calls : Who → List Call) (one : OneEndsAtExport script.sessions (λ n. calls (TheSession n)))
    → ToldMemory (crew_shares (crew_of script) calls) (one.place + 1)
told_memory script calls one =
    let own : ℕ → Share = λ n. share_of (TheSession n) (calls (TheSession n)) in
    let workers : List Share = shares_of TheWorker script.workers (λ n. calls (TheWorker n)) in
    let rest : ℕ = script.sessions - (one.place + 1) in
    let within = one.within in
    record {
      before = map own (range_with_len 1 one.place);
      share = own (one.place + 1);
      behind = map own (range_with_len (one.place + 1 + 1) rest) ++ workers;
      shares_are = ap (λ n. map own (range_with_len 1 n) ++ workers) (let e : script.sessions ≡ one.place + suc rest = omega (arith, within) in e)
          ∙ ap (λ shares. shares ++ workers) (map_split own 1 one.place rest)
          ∙ append_assoc (map own (range_with_len 1 one.place)) (own (one.place + 1) ∷ map own (range_with_len (one.place + 1 + 1) rest)) workers;
      who = refl;
      ends = one.ends;
    }

-- ---- the run

module _ (script : Script) (store : StoreView) (old new : List Session) (asked rest : List (List Line)) (before now exported exported_now exported_later : Option (List ℕ)) (number : ℕ) (lines : List Line)
    (valid : IsRunnable script) (split : asked ++ lines ∷ rest ≡ script.rounds)
    (running : Running script store old asked before now exported exported_now number) where
  module _ (kept : List Line) (done : RoundDone script store old new kept exported_now exported_later) (row : List Session) (Logs : OfLogged) where
    abbrev these : List Share
    these = crew_shares (crew_of script) done.calls

    -- the rounds whose commits may be in the log
    abbrev added : Bool → List RoundRun
    added adds = added_by adds running.rounds (round script store old new asked before now exported exported_now exported_later number running kept done)

    goes_to : (adds : Bool) → AreFirstLines kept lines
        → RunsIn script store row exported exported_later Logs (asked ++ kept ∷ [])
        (both script store old new asked before now exported exported_now exported_later number running kept done) (added adds) (length running.rounds)
        (rounds_text script.tables 1 (both script store old new asked before now exported exported_now exported_later number running kept done))
        → GoesTo (RunsIn script store row exported exported_later Logs) adds script kept before now
    goes_to adds first went = record {
      whole = asked;
      round = lines;
      rest = rest;
      rounds = sym split;
      first = first;
      ran = running.rounds;
      last = round script store old new asked before now exported exported_now exported_later number running kept done;
      shown = rounds_text script.tables 1 running.rounds;
      hidden = round_text script.tables (number + 1) these;
      of_round = ap (λ n. round_text script.tables (n + 1) these) running.asked_count;
      explained_shown = explained_so_far script running.rounds running.finished exported exported_now running.counted (keeps_now script store old asked before now exported exported_now number running) running.sent
          asked (lines ∷ rest) (sym split) valid running.ran;
      went = subst (RunsIn script store row exported exported_later Logs (asked ++ kept ∷ [])
          (both script store old new asked before now exported exported_now exported_later number running kept done) (added adds) (length running.rounds))
          (text_further script store old new asked before now exported exported_now exported_later number running kept done) went;
      printed = running.printed;
    }

  module _ (did : RanToExport store (crew_of script) old new lines exported_now exported_later) (Logs : OfLogged) where
    abbrev counts : ℕ → ℕ
    counts = counts_of (λ n. did.calls (TheSession n))

    abbrev first : List Line
    first = first_lines counts lines

    abbrev first_done : RoundDone script store old new first exported_now exported_later
    first_done = record {
      calls = did.calls;
      ran = did.ran;
      asked = asked_first script.sessions lines (λ n. did.calls (TheSession n)) did.asked;
      turned = did.turned;
      sent = did.sent;
    }

    first_goes : Logs running.rounds (length running.rounds) → GoesTo (RunsIn script store new exported exported_later Logs) false script first before now
    first_goes logs = goes_to first first_done new Logs false (first_lines_are_so counts lines) (record {
      went = went script
          (both script store old new asked before now exported exported_now exported_later number running first first_done)
          (running.finished ++ more script store old new asked before now exported exported_now exported_later number running first first_done)
          exported exported_later
          (counted_further script store old new asked before now exported exported_now exported_later number running first first_done)
          (keeps_more script store old new asked before now exported exported_now exported_later number running first first_done)
          (sent_further script store old new asked before now exported exported_now exported_later number running first first_done)
          (asked ++ first ∷ []) (record { valid = fronts_are_valid script counts lines asked rest (sym split) valid.valid; shape = valid.shape })
          (ran_further script store old new asked before now exported exported_now exported_later number running first first_done);
      stands = stands_further script store old new asked before now exported exported_now exported_later number running first first_done;
      logs = logs;
    })

    -- a session that stopped has an export among its lines
    has_export : (k : ℕ) → k < script.sessions → EndsAtExport (did.calls (TheSession (k + 1))) → list_any is_export (commands_of (k + 1) lines) ≡ true
    has_export k within ends = go (did.asked k within)
      where
        calls : List Call
        calls = did.calls (TheSession (k + 1))

        in_front : (xs ys : List Command) → list_any is_export xs ≡ true → list_any is_export (xs ++ ys) ≡ true
        in_front xs ys any = list_any-append is_export xs ys ∙ ap (λ b. b || list_any is_export ys) any

        go : (asked_in calls ≡ commands_of (k + 1) lines) ⊎ CallsStopAtExport calls (commands_of (k + 1) lines) → list_any is_export (commands_of (k + 1) lines) ≡ true
        go (inl whole) = ap (list_any is_export) (sym whole) ∙ ends_exports calls ends
        go (inr stops) = ap (list_any is_export) stops.asked ∙ in_front (asked_in calls) stops.rest (ends_exports calls ends)

    -- the others' lines are whole
    others : (other : ℕ) → other ≢ did.last.place + 1 → lines_of other first ≡ lines_of other lines
    others other apart = go (nat_le 1 other && nat_le other script.sessions) refl
      where
        own : (k : ℕ) → k < script.sessions → k + 1 ≢ did.last.place + 1
            → (asked_in (did.calls (TheSession (k + 1))) ≡ commands_of (k + 1) lines) ⊎ CallsStopAtExport (did.calls (TheSession (k + 1))) (commands_of (k + 1) lines)
            → lines_of (k + 1) first ≡ lines_of (k + 1) lines
        own k within apart (inl whole) =
            let part = first_lines_are_so counts lines (k + 1) in
            let command = λ (line : Line). line.command in
            let same = ap length (sym (commands_in_lines (k + 1) first) ∙ sym (first_done.asked k within) ∙ whole ∙ commands_in_lines (k + 1) lines) in
            let one = length-map (lines_of (k + 1) first) command in
            let all = length-map (lines_of (k + 1) lines) command in
            whole_front (lines_of (k + 1) first) part.0 (lines_of (k + 1) lines) part.1 (omega (arith, same, one, all))
        own k within apart (inr stops) =
            let two = two_counted (k + 1) (did.last.place + 1) lines apart (has_export k within stops.last) (has_export did.last.place did.last.within did.last.ends) in
            let once = round_once script asked rest lines split valid in
            absurd (omega (arith, two, once))

        go : (b : Bool) → (nat_le 1 other && nat_le other script.sessions) ≡ b → lines_of other first ≡ lines_of other lines
        go true is =
            let parts = and_parts (nat_le 1 other) (nat_le other script.sessions) is in
            let low : 1 ≤ other = (let l = parts.0 in grind (arith, nat_tests, l)) in
            let high : other ≤ script.sessions = (let h = parts.1 in grind (arith, nat_tests, h)) in
            let within : other - 1 < script.sessions = omega (arith, low, high) in
            let back : other - 1 + 1 ≡ other = omega (arith, low) in
            subst (λ n. lines_of n first ≡ lines_of n lines) back
            (own (other - 1) within (λ same. apart (sym back ∙ same)) (did.asked (other - 1) within))
        go false is =
            let none : lines_of other lines ≡ [] =
            foreign script.sessions other lines (round_within script store old asked rest lines running.is split valid)
            (λ k low same. absurd (grind (arith, nat_tests, is, low, same))) in
            let part = first_lines_are_so counts lines other in
            let sizes = ap length (sym none ∙ part.1) in
            let some = ap length none in
            whole_front (lines_of other first) part.0 (lines_of other lines) part.1
            (omega (arith, sizes, some, length-append (lines_of other first) part.0))

  -- behind a round that was whole
  module _ (all_done : RoundDone script store old new lines exported_now exported_later) (row : List Session) (may : MayHaveHandedOver new row) (Logs : OfLogged) where
    pub all_goes : (adds : Bool)
        → Logs (added_by adds running.rounds (round script store old new asked before now exported exported_now exported_later number running lines all_done)) (length running.rounds)
        → GoesTo (RunsIn script store row exported exported_later Logs) adds script lines before now
    all_goes adds logs = goes_to lines all_done row Logs adds (λ session. ([], sym (append-nil (lines_of session lines)))) (record {
      went = went_so_far script
          (both script store old new asked before now exported exported_now exported_later number running lines all_done)
          (running.finished ++ more script store old new asked before now exported exported_now exported_later number running lines all_done)
          exported exported_later
          (counted_further script store old new asked before now exported exported_now exported_later number running lines all_done)
          (keeps_more script store old new asked before now exported exported_now exported_later number running lines all_done)
          (sent_further script store old new asked before now exported exported_now exported_later number running lines all_done)
          (asked ++ lines ∷ []) rest (sym split ∙ sym (append_assoc asked (lines ∷ []) rest)) valid
          (ran_further script store old new asked before now exported exported_now exported_later number running lines all_done);
      stands = standing_stays store (running.finished ++ more script store old new asked before now exported exported_now exported_later number running lines all_done) new row may
          (stands_further script store old new asked before now exported exported_now exported_later number running lines all_done);
      logs = logs;
    })

  -- before a round that was not begun
  stops_before : (Logs : OfLogged) → Logs running.rounds (length running.rounds) → NotBegun old new exported_now exported_later
      → GoesPart (RunsIn script store new exported exported_later Logs) script fault.Memory before now
  stops_before Logs logs none =
      subst (λ row. GoesPart (RunsIn script store row exported exported_later Logs) script fault.Memory before now) (sym none.same)
      (subst (λ later. GoesPart (RunsIn script store old exported later Logs) script fault.Memory before now) (sym none.none_sent)
      (inl (record {
        whole = asked;
        round = lines;
        rest = rest;
        rounds = sym split;
        ran = running.rounds;
        text = rounds_text script.tables 1 running.rounds;
        went = record {
          went = went_so_far script running.rounds running.finished exported exported_now running.counted (keeps_now script store old asked before now exported exported_now number running) running.sent asked (lines ∷ rest) (sym split) valid running.ran;
          stands = running.stands;
          logs = logs;
        };
        printed = running.printed;
      })))

  -- a run whose round stops it tells which rounds ran, and how far the last one did
  pub running_stops : (Logs : OfLogged) → Logs running.rounds (length running.rounds)
      → (failed : RunFault) → RoundStops store (crew_of script) old new lines exported_now exported_later failed
      → GoesPart (RunsIn script store new exported exported_later Logs) script failed before now
  unfolding first_goes goes_to
  running_stops Logs logs fault.Out stops = absurd stops
  running_stops Logs logs fault.Export stops = record {
    lines = first stops Logs;
    to = first_goes stops Logs logs;
    session = stops.last.place + 1;
    last = ends_at_export stops.last.place (stops.calls (TheSession (stops.last.place + 1))) (first stops Logs)
        ((first_done stops Logs).asked stops.last.place stops.last.within) stops.last.ends;
    told = told_memory script stops.calls stops.last;
    others = others stops Logs;
  }
  running_stops Logs logs fault.Memory stops = stops_before Logs logs stops
  running_stops Logs logs fault.Log stops = absurd stops
  running_stops Logs logs fault.GroupTooLong stops = absurd stops

  -- A run that stops behind a round which was whole tells so.
  pub running_unshown : (all_done : RoundDone script store old new lines exported_now exported_later) (row : List Session) (may : MayHaveHandedOver new row) (Logs : OfLogged) (adds : Bool)
      → Logs (added_by adds running.rounds (round script store old new asked before now exported exported_now exported_later number running lines all_done)) (length running.rounds)
      → GoesUnshown (RunsIn script store row exported exported_later Logs) adds script before now
  unfolding all_goes goes_to
  running_unshown all_done row may Logs adds logs = record { lines = lines; to = all_goes all_done row may Logs adds logs; whole = refl }

  -- So does one whose commits the log failed to take.
  pub running_unadded : (all_done : RoundDone script store old new lines exported_now exported_later) (row : List Session) (may : MayHaveHandedOver new row) (Logs : OfLogged)
      → Logs (both script store old new asked before now exported exported_now exported_later number running lines all_done) (length running.rounds)
      → FitsRecord script running.rounds (round script store old new asked before now exported exported_now exported_later number running lines all_done)
      → GoesUnadded (RunsIn script store row exported exported_later Logs) script before now
  unfolding running_unshown all_goes goes_to
  running_unadded all_done row may Logs logs fits = record { unshown = running_unshown all_done row may Logs true logs; fits = fits }

  -- So does one whose commits are too long for a record of the log.
  pub running_too_long : (all_done : RoundDone script store old new lines exported_now exported_later) (row : List Session) (may : MayHaveHandedOver new row) (Logs : OfLogged)
      → Logs running.rounds (length running.rounds)
      → IsTooLong script running.rounds (round script store old new asked before now exported exported_now exported_later number running lines all_done)
      → GoesTooLong (RunsIn script store row exported exported_later Logs) script before now
  unfolding running_unshown all_goes goes_to
  running_too_long all_done row may Logs logs long = record { unshown = running_unshown all_done row may Logs false logs; long = long }
