-- A run's lines come about one behind the other, at its moments.
use Rattle.std.proofs.Common.{◌≡◌, ◌⊎◌, ℕ, ◌+◌, ◌*◌, ◌<◌, ◌≤◌, Bool, true, false, cond, ◌==◌, List, [], ◌∷◌, ◌++◌, map, Option, None, Some, refl, sym, ap, ◌∙◌, subst, arith, append_assoc, append-nil}
use mathlib.Core.Logic.{inl, inr}
use Rattle.std.specs.Prelude.{IfSome, option_and_then, sum, sum_by}
use Rattle.std.specs.List.{cons_option, list_all}
use Rattle.std.proofs.lemmas.Option.{none-some}
use Rattle.core_laws.proofs.Events.Apart.{kept_among}
use Rattle.core_laws.specs.Events.Laws.{IsStep, command_in}
use Rattle.core_laws.specs.Events.Named.{FollowsMachine}
use Rattle.event_spec.specs.declared.event.Event.TheVariants as event
use Rattle.event_spec.specs.declared.own.OwnTransaction.{OwnTransaction}
use Rattle.event_spec.specs.declared.reply.Reply.TheVariants as reply
use Rattle.event_spec.specs.Effects.{CoreEvent, change_judged, insert_judged, stale_in}
use Rattle.event_spec.specs.Lawful.{Among, IsLawful, reads_handed, session_of, takes_memory}
use Rattle.event_spec.specs.Parts.{Parts, Shape}
use Rattle.event_spec.specs.Replay.{IsLawfulFrom, after, opening, reply_after}
use Rattle.event_spec.specs.Replies.{reply_to, reply_to_commit}
use Rattle.isolation_spec.specs.Contents.{key_of}
use Rattle.isolation_spec.specs.Machine.{IsolationMachine, transaction_of}
use Rattle.isolation_spec.specs.Machine as machine
use Rattle.isolation_spec.specs.declared.read.Read.{Read}
use Rattle.outcome_spec.specs.Entries.{Entry, shown_in}
use Rattle.outcome_spec.specs.Runs.{writes_committed_in}
use Rattle.outcome_spec.specs.Forms.{is_upkeep, is_worker}
use Rattle.outcome_spec.specs.Upkeep.{freezes_in, inserts_in, moved_in, pruned_in, rows_in}
use Rattle.timeline_spec.specs.Timeline.{CountsFrom, RunsFrom, Takes}
use Rattle.workload_spec.specs.declared.command.Command.{Command}
use Rattle.workload_spec.specs.declared.command.Command.TheVariants as command
use Rattle.workload_spec.specs.declared.reply.Said.{Said}
use Rattle.workload_spec.specs.declared.reply.Said.TheVariants as said
use Rattle.workload_spec.specs.declared.script.Script.{Script}
use Rattle.core_laws.proofs.Logs.Logs.{made_step}
use Rattle.run_spec.specs.Calls.{Call, line_to}
use Rattle.run_spec.specs.Occurrences.{Logged, Occurrence, events_in, occurrence_of, occurrences_from, replies_in, under}
use Rattle.run_spec.specs.Opened.{own_after}
use Rattle.run_spec.specs.Ran.{IsRunnable, shape_of}
use Rattle.run_spec.specs.Told.{dropped_told, is_shared, stale_of, told_by}
use Rattle.run_laws.proofs.Moments.Reads.{Reads, ReadsAt, runs_read}
use Rattle.run_laws.proofs.Calls.Along.{and_first, and_second, named}
use Rattle.run_laws.specs.Calls.Along.{are_named}
use Rattle.run_laws.specs.Calls.Asking.{is_of}
use Rattle.run_laws.specs.Calls.Coming.{EndsAt}
use Rattle.run_laws.specs.Calls.Moments.{Lined, Moment, events_at}
use Rattle.run_laws.specs.Calls.Open.{AgreesWith, IsNamed, OpenAs}
use Rattle.run_laws.specs.Calls.Upkeep.{AreReplied}
use Rattle.run_laws.proofs.Calls.Upkeep.{rest_replied, under_replied}
use Rattle.run_laws.proofs.Told.Tells.{calls_go_on_quietly, last_events_are_told, not_silent, refusals_are_plain}
use Rattle.run_laws.specs.Told.Laws.{TellsAt, is_plain, is_quiet}
use Rattle.run_laws.specs.Moments.Laws.{AreMoments, Ends, GoesOn, IsPrinted, Stands, command_told, with_event}
use Rattle.run_laws.specs.Moments.Moments.{moments_of, replies_at, who_at, with_reply}
use Rattle.run_laws.proofs.Moments.Seats.{either}
use Rattle.run_laws.proofs.Moments.Standing.{own_last}
use Rattle.run_laws.proofs.Moments.Rounds.{runs_have_moments}
use Rattle.run_laws.proofs.Calls.Named.{run_lawful, run_named}
use Rattle.run_spec.specs.Traces.{as_log}
use Rattle.run_laws.specs.Explained.Timelines.{RunsGiveTimelines}
use Rattle.run_laws.proofs.Explained.Bringing.{brings_end, brings_on, kept_alone, prune_counts, shown_as, whose_is}
use Rattle.run_laws.proofs.Explained.Counting.{event_says, plain_counts}
use Rattle.run_laws.proofs.Explained.Dropping.{Brings, untold_at}
use Rattle.run_laws.proofs.Explained.Pruning.{Way, all_blocks, dropped_at, goes_on, is_pruning, last_pruning, prune_calls, told_last, untold, way_last, way_of}
use Rattle.run_laws.proofs.Explained.Holding.{AddsAt, Counted, Holds, ends_adds, ends_replied, ends_tells, freezes_with, holds_first, inserts_with, next_holds, same_holds, seals_with}
use Rattle.run_laws.proofs.Explained.Exporting.{exports_by}
use Rattle.run_laws.proofs.Explained.Keys.{KeysAgree, SameKeys, quiet_fits, quiet_stays}
use Rattle.run_laws.proofs.Explained.Scripts.{event_key, worker_upkeep}
use Rattle.run_laws.proofs.Explained.Shown.{Adds, accepted, plain_adds, quiet_none, shown, write_line}
use Rattle.run_laws.proofs.Explained.Taking.{Ended, ends_at, front_quiet, own_same, takes}

-- What is true is not false.
true_false : true ≡ false → ⊥
true_false e = cc

-- The events of a pruning are quiet.
pruning_quiet : (e : CoreEvent) → is_pruning e ≡ true → is_quiet e ≡ true
pruning_quiet event.Oldest p = refl
pruning_quiet (event.Prune table block oldest) p = refl
pruning_quiet (event.Begin session) p = absurd (true_false (sym p))
pruning_quiet (event.Get own table key) p = absurd (true_false (sym p))
pruning_quiet (event.Insert own table row) p = absurd (true_false (sym p))
pruning_quiet (event.Update own table row) p = absurd (true_false (sym p))
pruning_quiet (event.Delete own table key) p = absurd (true_false (sym p))
pruning_quiet (event.Read own table block) p = absurd (true_false (sym p))
pruning_quiet (event.Range own table low high) p = absurd (true_false (sym p))
pruning_quiet (event.Commit own reads) p = absurd (true_false (sym p))
pruning_quiet (event.Abort own) p = absurd (true_false (sym p))
pruning_quiet (event.Observe table block) p = absurd (true_false (sym p))
pruning_quiet (event.Look table block) p = absurd (true_false (sym p))
pruning_quiet (event.Move table moves) p = absurd (true_false (sym p))
pruning_quiet (event.Seal table block) p = absurd (true_false (sym p))
pruning_quiet (event.Image table block image) p = absurd (true_false (sym p))
pruning_quiet (event.Thaw table block) p = absurd (true_false (sym p))

-- ---- silence leaves the machine

-- what is told is not nothing
pub told_something : (told : Option Said) (line : Said) → told ≡ Some line → told ≡ None → ⊥
told_something told line is none = none-some line (sym none ∙ is)

-- A commit, refused or not, is not silent.
commit_heard : (shape : Shape) (parts : Parts) (worker : Bool) (told : Option Said) (own : OwnTransaction) (stale : Option (Read × ℕ)) → told ≡ line_to worker (told_by 0 0 (reply_to_commit shape parts own stale)) → told ≡ None → ⊥
commit_heard shape parts worker told own (Some stale) is none =
    told_something told (said.Stale (stale_of stale.0) stale.1) (is ∙ not_silent worker (said.Stale (stale_of stale.0) stale.1) refl) none
commit_heard shape parts worker told own None is none =
    let n : Option ℕ = cond (Rattle.event_spec.specs.Effects.is_some_write own.writes) (Some ((Rattle.event_spec.specs.Parts.desk_at shape parts).commits + 1)) None in
    told_something told (said.Committed n) (is ∙ not_silent worker (said.Committed n) refl) none

-- An event at which a call ends in silence leaves the machine.
silent_stays : (shape : Shape) (parts : Parts) (worker : Bool) (made : List Occurrence) (asked : Command) (told : Option Said) (at next : IsolationMachine) (e : CoreEvent) (refused : Bool)
    → TellsAt worker made e (cond refused reply.Memory (reply_to shape parts e)) asked told → told ≡ None
    → IsStep (command_in e) (reads_handed e) at (cond refused reply.Memory (reply_to shape parts e)) next → next ≡ at
silent_stays shape parts worker made asked told at next (event.Begin session) true h none step = absurd (told_something told said.Memory (h.1 ∙ not_silent worker said.Memory refl) none)
silent_stays shape parts worker made asked told at next (event.Begin session) false h none step =
    absurd (told_something told (said.At (Rattle.event_spec.specs.Parts.desk_at shape parts).commits) (h.1 ∙ not_silent worker (said.At (Rattle.event_spec.specs.Parts.desk_at shape parts).commits) refl) none)
silent_stays shape parts worker made asked told at next (event.Get own table key) refused h none step = absurd (told_something told h.0 h.1 none)
silent_stays shape parts worker made asked told at next (event.Insert own table row) true h none step = absurd (told_something told said.Memory (h.1 ∙ not_silent worker said.Memory refl) none)
silent_stays shape parts worker made asked told at next (event.Insert own table row) false h none step =
    let w = write_line table (insert_judged shape parts own table (key_of row)) in absurd (told_something told w.0 (h.1 ∙ ap (line_to worker) w.1 ∙ not_silent worker w.0 w.2) none)
silent_stays shape parts worker made asked told at next (event.Update own table row) true h none step = absurd (told_something told said.Memory (h.1 ∙ not_silent worker said.Memory refl) none)
silent_stays shape parts worker made asked told at next (event.Update own table row) false h none step =
    let w = write_line table (change_judged shape parts own table (key_of row)) in absurd (told_something told w.0 (h.1 ∙ ap (line_to worker) w.1 ∙ not_silent worker w.0 w.2) none)
silent_stays shape parts worker made asked told at next (event.Delete own table key) true h none step = absurd (told_something told said.Memory (h.1 ∙ not_silent worker said.Memory refl) none)
silent_stays shape parts worker made asked told at next (event.Delete own table key) false h none step =
    let w = write_line table (change_judged shape parts own table key) in absurd (told_something told w.0 (h.1 ∙ ap (line_to worker) w.1 ∙ not_silent worker w.0 w.2) none)
silent_stays shape parts worker made asked told at next (event.Read own table block) refused h none step = step
silent_stays shape parts worker made asked told at next (event.Range own table low high) refused h none step = absurd (told_something told h.0 h.1 none)
silent_stays shape parts worker made asked told at next (event.Commit own reads) true h none step = absurd (told_something told said.Memory (h.1 ∙ not_silent worker said.Memory refl) none)
silent_stays shape parts worker made asked told at next (event.Commit own reads) false h none step = absurd (commit_heard shape parts worker told own (stale_in shape parts own reads) h.1 none)
silent_stays shape parts worker made asked told at next (event.Abort own) true h none step = absurd (told_something told said.Memory (h.1 ∙ not_silent worker said.Memory refl) none)
silent_stays shape parts worker made asked told at next (event.Abort own) false h none step = absurd (told_something told said.Aborted (h.1 ∙ not_silent worker said.Aborted refl) none)
silent_stays shape parts worker made asked told at next event.Oldest refused h none step = step
silent_stays shape parts worker made asked told at next (event.Observe table block) refused h none step = step
silent_stays shape parts worker made asked told at next (event.Prune table block oldest) refused h none step = step
silent_stays shape parts worker made asked told at next (event.Look table block) refused h none step = step
silent_stays shape parts worker made asked told at next (event.Move table moves) refused h none step = step
silent_stays shape parts worker made asked told at next (event.Seal table block) refused h none step = step
silent_stays shape parts worker made asked told at next (event.Image table block image) refused h none step = step
silent_stays shape parts worker made asked told at next (event.Thaw table block) refused h none step = step

-- Upkeep has no accepted insert into any table.
upkeep_accepted : (t : ℕ) (asked : Command) (told : Option Said) → is_upkeep asked ≡ true → accepted t asked told ≡ 0
upkeep_accepted t asked None up = refl
upkeep_accepted t command.Observe (Some line) up = refl
upkeep_accepted t command.Prune (Some line) up = refl
upkeep_accepted t (command.Compact table) (Some line) up = refl
upkeep_accepted t (command.Seal table block) (Some line) up = refl
upkeep_accepted t (command.Gather table block) (Some line) up = refl
upkeep_accepted t (command.Begin checked) (Some line) up = absurd (true_false (sym up))
upkeep_accepted t (command.Get table key) (Some line) up = absurd (true_false (sym up))
upkeep_accepted t (command.Scan table) (Some line) up = absurd (true_false (sym up))
upkeep_accepted t (command.Range table low high) (Some line) up = absurd (true_false (sym up))
upkeep_accepted t (command.Total table column low high) (Some line) up = absurd (true_false (sym up))
upkeep_accepted t (command.Insert table row) (Some line) up = absurd (true_false (sym up))
upkeep_accepted t (command.Update table row) (Some line) up = absurd (true_false (sym up))
upkeep_accepted t (command.Delete table key) (Some line) up = absurd (true_false (sym up))
upkeep_accepted t command.Commit (Some line) up = absurd (true_false (sym up))
upkeep_accepted t command.Abort (Some line) up = absurd (true_false (sym up))
upkeep_accepted t (command.Export table) (Some line) up = absurd (true_false (sym up))

-- One more reply counts no fewer accepted inserts of a table.
inserts_rise : (t : ℕ) (lines : List Entry) (printed : Option Entry) → inserts_in t lines ≤ inserts_in t (with_reply lines printed)
inserts_rise t lines None = omega arith
inserts_rise t lines (Some entry) = let more = Rattle.run_laws.proofs.Explained.Shown.inserts_more t lines entry in omega (arith, more)

-- ---- one moment

module _ (script : Script) (valid : IsRunnable script) where
  -- a line and those behind it
  lines_on : (at next : IsolationMachine) (lines : List Entry) (printed : Option Entry) (moments : List Moment)
      → (printed ≡ None → next ≡ at)
      → ((entry : Entry) → printed ≡ Some entry → Takes script.tables lines at entry next × CountsFrom script.begun script.tables lines entry.command entry.reply.said)
      → RunsFrom script.begun script.tables (with_reply lines printed) next (replies_at moments)
      → RunsFrom script.begun script.tables lines at (cons_option printed (replies_at moments))
  lines_on at next lines None moments stays comes rest = subst (λ m. RunsFrom script.begun script.tables lines m (replies_at moments)) (stays refl) rest
  lines_on at next lines (Some entry) moments stays comes rest = let here = comes entry refl in (next, here.0, here.1, rest)

  -- What a session has open in front of quiet events the machine has open for it.
  opens : (seat : ℕ) (at : IsolationMachine) (front began done : List Occurrence) → AgreesWith front at → under seat front ≡ began ++ done → list_all is_quiet (events_in done) ≡ true
      → OpenAs seat (own_after began) (transaction_of seat at)
  opens seat at front began done agrees behind quiet =
      subst (λ o. OpenAs seat o (transaction_of seat at)) (ap own_after behind ∙ own_same began done quiet) (agrees seat)

  -- What a session wrote in front of quiet events its machine's transaction wrote.
  keys_same : (seat : ℕ) (at : IsolationMachine) (front began done : List Occurrence) → KeysAgree front at → under seat front ≡ began ++ done → list_all is_quiet (events_in done) ≡ true
      → SameKeys (own_after began) (transaction_of seat at)
  keys_same seat at front began done agrees behind quiet =
      subst (λ o. SameKeys o (transaction_of seat at)) (ap own_after behind ∙ own_same began done quiet) (agrees seat)

  -- A printed reply says what its call told, whose it is, and of which command.
  is_said : (who : Rattle.workload_spec.specs.declared.reply.Who.Who) (call : Call) (printed : Option Entry) (entry : Entry) → IsPrinted who call printed → printed ≡ Some entry
      → (call.told ≡ Some entry.reply.said) × (entry.reply.who ≡ who) × (entry.command ≡ command_told who call.command)
  is_said who call printed entry is e = subst (IsPrinted who call) e is

  -- A call without a printed reply told nothing.
  is_silent : (who : Rattle.workload_spec.specs.declared.reply.Who.Who) (call : Call) (printed : Option Entry) → IsPrinted who call printed → printed ≡ None → call.told ≡ None
  is_silent who call printed is e = subst (IsPrinted who call) e is

  -- a moment without an event
  module _ (parts : Parts) (front : List Occurrence) (at : IsolationMachine) (lines : List Entry) (seat : ℕ) (low : 1 ≤ seat) (line : Lined)
      (held : Holds script parts front at lines) (ends : Ends script front seat None line) where
    none : line.call.made ≡ []
    none = ends.made ∙ ap (λ xs. xs ++ []) (ends.none refl)

    plain : (said' : Said) × (line.call.told ≡ Some said') × ((is_plain said' ≡ true) ⊎ (said' ≡ said.Moved 0))
    plain = refusals_are_plain (shape_of script) (is_worker (who_at script seat)) seat ends.began line.call ends.is_call none

    alone_adds : (t b : ℕ) → Adds t b line.call.told 0 0
    alone_adds t b = plain_adds t b line.call.told plain.0 plain.1 plain.2

    -- what holds at each moment holds behind one without an event
    pub alone_held : Holds script parts front at (with_reply lines line.printed)
    alone_held = same_holds script parts front at lines (with_reply lines line.printed)
        (λ t b. let w = seals_with t b lines (who_at script seat) line.call line.printed ends.printed in let a = (alone_adds t b).seals_are in omega (arith, w, a))
        (λ t b. let w = freezes_with t b lines (who_at script seat) line.call line.printed ends.printed in let a = (alone_adds t b).images_are in omega (arith, w, a))
        (λ t. inserts_rise t lines line.printed)
        (kept_alone script parts front lines seat low held.kept line.printed line.call.told line.call.command
        (shown_as (who_at script seat) line.call line.printed ends.printed) (whose_is (who_at script seat) line.call line.printed ends.printed) plain.0 plain.1 plain.2)
        held

    -- a call that ends without an event leaves the machine
    pub alone_ended : Ended script seat parts front at at line.call
    alone_ended = record {
      began = ends.began;
      is_call = ends.is_call;
      replied = subst (AreReplied (shape_of script)) (sym none) tt;
      ends = subst (λ made. EndsAt made at at) (sym none) refl;
      open' = opens seat at front ends.began ends.done held.agrees ends.behind (subst (λ xs. list_all is_quiet (events_in xs) ≡ true) (sym (ends.none refl)) refl);
      asked = ends.asked;
      ok = held.ok;
      follows = held.follows;
      reads = held.reads;
      whole = ends.behind ∙ ap (λ xs. ends.began ++ xs) (sym (append-nil ends.done) ∙ sym ends.made);
      narrow = held.narrow;
      keys = keys_same seat at front ends.began ends.done held.keys ends.behind (subst (λ xs. list_all is_quiet (events_in xs) ≡ true) (sym (ends.none refl)) refl);
    }

    alone_counts : (asked : Command) (said' : Said) → (is_plain said' ≡ true) ⊎ (said' ≡ said.Moved 0) → CountsFrom script.begun script.tables lines asked said'
    alone_counts asked said' (inl e) = plain_counts script.begun script.tables lines asked said' e
    alone_counts asked said' (inr e) = subst (CountsFrom script.begun script.tables lines asked) (sym e) (let few : 0 ≤ 64 = omega arith in few)

    same_said : (a b : Said) → Some a ≡ Some b → a ≡ b
    same_said a b e = cc

    alone_comes : (is_worker (who_at script seat) ≡ false → Reads script lines seat line.call) → (entry : Entry) → line.printed ≡ Some entry → Takes script.tables lines at entry at × CountsFrom script.begun script.tables lines entry.command entry.reply.said
    alone_comes read entry e =
        let is = is_said (who_at script seat) line.call line.printed entry ends.printed e in (
          takes script valid seat parts front at at line.call lines entry alone_ended is.0 is.1 is.2 (λ session. (read session).told)
              (λ table asked. exports_by script valid seat parts front at at line.call alone_ended table asked lines entry.reply.said is.0
              (λ o among. absurd (subst (Among o) none among))),
          subst (CountsFrom script.begun script.tables lines entry.command) (same_said plain.0 entry.reply.said (sym plain.1 ∙ is.0)) (alone_counts entry.command plain.0 plain.2),
        )

    alone : (is_worker (who_at script seat) ≡ false → Reads script lines seat line.call) → (moments : List Moment) → RunsFrom script.begun script.tables (with_reply lines line.printed) at (replies_at moments) → RunsFrom script.begun script.tables lines at (cons_option line.printed (replies_at moments))
    alone read moments rest = lines_on at at lines line.printed moments (λ e. refl) (alone_comes read) rest

  -- a moment with an event
  module _ (parts : Parts) (front : List Occurrence) (at : IsolationMachine) (lines : List Entry) (seat : ℕ) (low : 1 ≤ seat) (high : seat ≤ script.sessions + script.workers) (entry : Logged) (same : entry.session ≡ seat)
      (held : Holds script parts front at lines) (lawful : IsLawful (shape_of script) entry.made.event parts) (memory : entry.made.refused ≡ true → takes_memory entry.made.event ≡ true)
      (is_named : IsNamed entry) where
    abbrev made : Occurrence
    made = occurrence_of (shape_of script) parts entry

    -- an event is a step of the machine, and the parts go on following it
    pub moved : (next : IsolationMachine) × IsStep (command_in entry.made.event) (reads_handed entry.made.event) at (reply_after (shape_of script) parts entry.made) next × FollowsMachine (shape_of script) (after (shape_of script) parts entry.made) next
    moved = made_step (shape_of script) parts entry.made at valid.shape held.ok held.follows lawful memory

    low_session : 1 ≤ entry.session
    low_session = omega (arith, low, same)

    high_session : entry.session ≤ script.sessions + script.workers
    high_session = omega (arith, high, same)

    -- of a call that goes on
    pub onward : GoesOn script front seat (occurrence_of (shape_of script) parts entry)
        → (Holds script (after (shape_of script) parts entry.made) (front ++ occurrence_of (shape_of script) parts entry ∷ []) at lines)
    onward goes = subst (λ m. Holds script (after (shape_of script) parts entry.made) (front ++ occurrence_of (shape_of script) parts entry ∷ []) m lines)
        (quiet_stays at moved.0 entry.made.event (reply_after (shape_of script) parts entry.made) quiet moved.1)
        (next_holds script parts front at moved.0 lines lines entry valid.shape lawful is_named (quiet_fits entry.made.event quiet) moved.1 moved.2 counted
        low_session high_session
        (brings_on script parts front lines entry.session entry.made.event (reply_after (shape_of script) parts entry.made) low_session held.kept quiet) held)
      where
        quiet : is_quiet entry.made.event ≡ true
        quiet = calls_go_on_quietly (shape_of script) (is_worker (who_at script seat)) seat goes.began goes.call goes.done (occurrence_of (shape_of script) parts entry) goes.next goes.rest goes.is_call goes.made

        counted : Counted script parts entry.made lines lines
        counted = record {
          seals = λ t b. let n = (quiet_none t b entry.made.event (reply_after (shape_of script) parts entry.made) quiet).0 in omega (arith, n);
          freezes = λ t b. let n = (quiet_none t b entry.made.event (reply_after (shape_of script) parts entry.made) quiet).1 in omega (arith, n);
          inserts = λ t. let n = (quiet_none t 0 entry.made.event (reply_after (shape_of script) parts entry.made) quiet).2 in omega (arith, n);
        }

    -- of a call that ends
    module _ (line : Lined) (ends : Ends script front seat (Some (occurrence_of (shape_of script) parts entry)) line) where
      adds : AddsAt (shape_of script) parts entry.made line.call.told line.call.command
      adds = ends_adds script parts front lines seat entry line same held.replied ends

      of_worker : is_worker (who_at script seat) ≡ true → is_upkeep line.call.command ≡ true
      of_worker e = go (either script seat)
        where
          go : (seat ≤ script.sessions) ⊎ (script.sessions < seat) → is_upkeep line.call.command ≡ true
          go (inl low) = absurd (true_false (sym e ∙ ap is_worker (Rattle.run_laws.proofs.Moments.Seats.session_at script seat low)))
          go (inr high) = worker_upkeep script seat line.call.command high ends.asked

      counted : Counted script parts entry.made lines (with_reply lines line.printed)
      counted = record {
        seals = λ t b. let w = seals_with t b lines (who_at script seat) line.call line.printed ends.printed in let a = (adds.adds t b).seals_are in omega (arith, w, a);
        freezes = λ t b. let w = freezes_with t b lines (who_at script seat) line.call line.printed ends.printed in let a = (adds.adds t b).images_are in omega (arith, w, a);
        inserts = λ t.
            let w = inserts_with t lines (who_at script seat) line.call line.printed ends.printed (λ e. upkeep_accepted t line.call.command line.call.told (of_worker e)) in
            let a = adds.inserts t in omega (arith, w, a);
      }

      call_so_far : AreReplied (shape_of script) line.call.made
      call_so_far = ends_replied script parts front lines seat entry line same held.replied ends

      pruning : line.call.command ≡ command.Prune → is_pruning entry.made.event ≡ true
      pruning asked =
          let p = prune_calls (shape_of script) (is_worker (who_at script seat)) seat ends.began line.call ends.is_call call_so_far asked in
          last_pruning ends.done (occurrence_of (shape_of script) parts entry) (subst (λ os. list_all is_pruning (events_in os) ≡ true) ends.made p.pruning)

      -- a pruning tells all that was not told
      all_told : line.call.command ≡ command.Prune
          → untold (all_blocks (shape_of script)) (goes_on (way_of (under seat front)) entry.made.event (reply_after (shape_of script) parts entry.made)) + sum_by dropped_told (replies_in line.call.made)
          ≤ untold_at script front seat + dropped_at entry.made.event (reply_after (shape_of script) parts entry.made)
      all_told asked =
          let p = prune_calls (shape_of script) (is_worker (who_at script seat)) seat ends.began line.call ends.is_call call_so_far asked in
          told_last (all_blocks (shape_of script)) (sum_by dropped_told (replies_in line.call.made)) (way_of (under seat front)) entry.made.event (reply_after (shape_of script) parts entry.made)
          (pruning asked) (ap (λ (w : Way). w.prunes) way ∙ p.blocks) (ap (λ (w : Way). w.drops) way ∙ p.drops)
        where
          way : goes_on (way_of (under seat front)) entry.made.event (reply_after (shape_of script) parts entry.made) ≡ way_of (ends.began ++ line.call.made)
          way =
              sym (way_last (under seat front) (occurrence_of (shape_of script) parts entry))
              ∙ ap (λ os. way_of (os ++ occurrence_of (shape_of script) parts entry ∷ [])) ends.behind
              ∙ ap way_of (append_assoc ends.began ends.done (occurrence_of (shape_of script) parts entry ∷ []))
              ∙ ap (λ os. way_of (ends.began ++ os)) (sym ends.made)

      brings : Brings script parts front lines (with_reply lines line.printed) seat entry.made.event (reply_after (shape_of script) parts entry.made)
      brings = brings_end script parts front lines seat low held.kept line.printed line.call.told line.call.command line.call.made
          (shown_as (who_at script seat) line.call line.printed ends.printed) (whose_is (who_at script seat) line.call line.printed ends.printed) of_worker
          entry.made.event entry.made.refused (subst (λ n. IfSome (session_of entry.made.event) (λ s. s ≡ n)) same is_named) memory
          (ends_tells script parts front lines seat entry line same held.replied ends) all_told

      prune_counted : line.call.command ≡ command.Prune
          → sum_by dropped_told (replies_in line.call.made) + sum (shown_in pruned_in lines) ≤ writes_committed_in lines + 2 * sum (shown_in moved_in lines)
      prune_counted asked = prune_counts script parts front lines entry (sum_by dropped_told (replies_in line.call.made)) seat low high held.ok lawful held.kept
          (pruning_quiet entry.made.event (pruning asked)) (all_told asked)

      -- what holds at each moment holds behind one with an event
      pub after_held : Holds script (after (shape_of script) parts entry.made) (front ++ occurrence_of (shape_of script) parts entry ∷ []) moved.0 (with_reply lines line.printed)
      after_held = next_holds script parts front at moved.0 lines (with_reply lines line.printed) entry valid.shape lawful is_named
          (event_key script valid.valid seat (is_worker (who_at script seat)) line.call.made entry.made.event (reply_after (shape_of script) parts entry.made) line.call.command line.call.told ends.asked
          (ends_tells script parts front lines seat entry line same held.replied ends))
          moved.1 moved.2 counted low_session high_session
          (subst (λ n. Brings script parts front lines (with_reply lines line.printed) n entry.made.event (reply_after (shape_of script) parts entry.made)) (sym same) brings) held

      whole : under seat (front ++ occurrence_of (shape_of script) parts entry ∷ []) ≡ ends.began ++ line.call.made
      whole =
          ap (λ n. under n (front ++ occurrence_of (shape_of script) parts entry ∷ [])) (sym same)
          ∙ own_last front (occurrence_of (shape_of script) parts entry)
          ∙ ap (λ n. under n front ++ occurrence_of (shape_of script) parts entry ∷ []) same
          ∙ ap (λ xs. xs ++ occurrence_of (shape_of script) parts entry ∷ []) ends.behind
          ∙ append_assoc ends.began ends.done (occurrence_of (shape_of script) parts entry ∷ [])
          ∙ ap (λ xs. ends.began ++ xs) (sym ends.made)

      call_replied : AreReplied (shape_of script) line.call.made
      call_replied = rest_replied (shape_of script) ends.began line.call.made
          (subst (AreReplied (shape_of script)) whole (under_replied (shape_of script) seat (front ++ occurrence_of (shape_of script) parts entry ∷ []) after_held.replied))

      -- the line tells what the event is replied
      pub tells_at : TellsAt (is_worker (who_at script seat)) line.call.made entry.made.event (reply_after (shape_of script) parts entry.made) line.call.command line.call.told
      tells_at = last_events_are_told (shape_of script) (is_worker (who_at script seat)) seat ends.began line.call ends.done (occurrence_of (shape_of script) parts entry) ends.is_call call_replied ends.made

      -- the call that ends with the event ended between the two states
      pub ended : Ended script seat (after (shape_of script) parts entry.made) (front ++ occurrence_of (shape_of script) parts entry ∷ []) at moved.0 line.call
      ended = record {
        began = ends.began;
        is_call = ends.is_call;
        replied = call_replied;
        ends = subst (λ xs. EndsAt xs at moved.0) (sym ends.made) (ends_at ends.done (occurrence_of (shape_of script) parts entry) at moved.0 moved.1);
        open' = opens seat at front ends.began ends.done held.agrees ends.behind
            (front_quiet (shape_of script) (is_worker (who_at script seat)) seat ends.began line.call [] ends.done (occurrence_of (shape_of script) parts entry) ends.is_call ends.made);
        asked = ends.asked;
        ok = after_held.ok;
        follows = after_held.follows;
        reads = after_held.reads;
        whole = whole;
        narrow = after_held.narrow;
        keys = keys_same seat at front ends.began ends.done held.keys ends.behind
            (front_quiet (shape_of script) (is_worker (who_at script seat)) seat ends.began line.call [] ends.done (occurrence_of (shape_of script) parts entry) ends.is_call ends.made);
      }

      -- its images are of blocks that were frozen in front
      was_frozen : (o : Occurrence) → Among o line.call.made → (own : OwnTransaction) (t b : ℕ) → o.event ≡ event.Read own t b → is_shared o.reply ≡ true
          → 1 ≤ freezes_in t b lines + shown (rows_in t b) line.call.told
      was_frozen o among own t b read shared =
          let low = after_held.frozen o (kept_among (λ (o : Occurrence). o.session == seat) (front ++ occurrence_of (shape_of script) parts entry ∷ []) o
          (subst (Among o) (sym whole) (behind ends.began line.call.made among))).0 own t b read shared in
          let w = freezes_with t b lines (who_at script seat) line.call line.printed ends.printed in
          omega (arith, low, w)
        where
          behind : (began made : List Occurrence) → Among o made → Among o (began ++ made)
          behind [] made a = a
          behind (x ∷ began) made a = inr (behind began made a)

      comes : (is_worker (who_at script seat) ≡ false → Reads script lines seat line.call) → (printed : Entry) → line.printed ≡ Some printed → Takes script.tables lines at printed moved.0 × CountsFrom script.begun script.tables lines printed.command printed.reply.said
      comes read printed e =
          let is = is_said (who_at script seat) line.call line.printed printed ends.printed e in (
            takes script valid seat (after (shape_of script) parts entry.made) (front ++ occurrence_of (shape_of script) parts entry ∷ []) at moved.0 line.call lines printed ended is.0 is.1 is.2 (λ session. (read session).told)
                (λ table asked. exports_by script valid seat (after (shape_of script) parts entry.made) (front ++ occurrence_of (shape_of script) parts entry ∷ []) at moved.0 line.call ended table asked
                lines printed.reply.said is.0 was_frozen),
            subst (λ c. CountsFrom script.begun script.tables lines c printed.reply.said) (sym is.2)
                (event_says script parts front at moved.0 lines valid.shape held (who_at script seat) entry.made.event entry.made.refused line.call.made line.call.command line.call.told
                lawful moved.1 prune_counted tells_at printed.reply.said is.0),
          )

      stays : line.printed ≡ None → moved.0 ≡ at
      stays e = silent_stays (shape_of script) parts (is_worker (who_at script seat)) line.call.made line.call.command line.call.told at moved.0 entry.made.event entry.made.refused
          tells_at (is_silent (who_at script seat) line.call line.printed ends.printed e) moved.1

  -- ---- all moments

  -- a list with an event is not empty
  pub no_event : (o : Occurrence) (os : List Occurrence) → o ∷ os ≡ [] → ⊥
  no_event o os e = cc

  -- equal lists have the same first
  pub first_is : (a b : Occurrence) (xs ys : List Occurrence) → a ∷ xs ≡ b ∷ ys → a ≡ b
  first_is a b xs ys e = cc

  -- and the same rest
  pub rest_is : (a b : Occurrence) (xs ys : List Occurrence) → a ∷ xs ≡ b ∷ ys → xs ≡ ys
  rest_is a b xs ys e = cc

  -- Behind whatever holds in front, the replies of these moments come about in their order.
  abbrev On : List Moment → Type 0
  On ms = (log : List Logged) (parts : Parts) (front : List Occurrence) (at : IsolationMachine) (lines : List Entry)
      → Holds script parts front at lines → IsLawfulFrom (shape_of script) parts (map (λ entry. entry.made) log) → are_named log ≡ true
      → AreMoments script front ms → ReadsAt script lines ms → events_at ms ≡ occurrences_from (shape_of script) parts log
      → RunsFrom script.begun script.tables lines at (replies_at ms)

  -- With one moment in front of others, the replies still come about in their order.
  one : (seat : ℕ) → 1 ≤ seat → seat ≤ script.sessions + script.workers → (event : Option Occurrence) (line : Option Lined) (ms : List Moment) → On ms
      → (log : List Logged) (parts : Parts) (front : List Occurrence) (at : IsolationMachine) (lines : List Entry)
      → Holds script parts front at lines → IsLawfulFrom (shape_of script) parts (map (λ entry. entry.made) log) → are_named log ≡ true
      → IfSome event (λ o. o.session ≡ seat) → Stands script front seat event line → AreMoments script (with_event front event) ms
      → IfSome line (λ line. is_worker (who_at script seat) ≡ false → Reads script lines seat line.call)
      → ReadsAt script (with_reply lines (option_and_then (λ (line : Lined). line.printed) line)) ms
      → cons_option event (events_at ms) ≡ occurrences_from (shape_of script) parts log
      → RunsFrom script.begun script.tables lines at (cons_option (option_and_then (λ (line : Lined). line.printed) line) (replies_at ms))
  one seat low high None None ms on log parts front at lines held lawful are its stands rest read reads events = absurd stands
  one seat low high None (Some line) ms on log parts front at lines held lawful are its stands rest read reads events =
      alone parts front at lines seat low line held stands read ms
      (on log parts front at (with_reply lines line.printed) (alone_held parts front at lines seat low line held stands) lawful are rest reads events)
  one seat low high (Some o) line ms on [] parts front at lines held lawful are its stands rest read reads events = absurd (no_event o (events_at ms) events)
  one seat low high (Some o) None ms on (entry ∷ log) parts front at lines held lawful are its stands rest read reads events =
      let same : o ≡ occurrence_of (shape_of script) parts entry = first_is o (occurrence_of (shape_of script) parts entry) (events_at ms) (occurrences_from (shape_of script) (after (shape_of script) parts entry.made) log) events in
      let seat_is : entry.session ≡ seat = ap (λ (o : Occurrence). o.session) (sym same) ∙ its in
      let goes = subst (GoesOn script front seat) same stands in
      let here = named entry.session entry.made.event (and_first (is_of entry.session entry.made.event) (are_named log) are) in
      on log (after (shape_of script) parts entry.made) (front ++ occurrence_of (shape_of script) parts entry ∷ []) at lines
      (onward parts front at lines seat low high entry seat_is held lawful.0 lawful.1 here goes)
      lawful.2 (and_second (is_of entry.session entry.made.event) (are_named log) are)
      (subst (λ o. AreMoments script (front ++ o ∷ []) ms) same rest) reads
      (rest_is o (occurrence_of (shape_of script) parts entry) (events_at ms) (occurrences_from (shape_of script) (after (shape_of script) parts entry.made) log) events)
  one seat low high (Some o) (Some line) ms on (entry ∷ log) parts front at lines held lawful are its stands rest read reads events =
      let same : o ≡ occurrence_of (shape_of script) parts entry = first_is o (occurrence_of (shape_of script) parts entry) (events_at ms) (occurrences_from (shape_of script) (after (shape_of script) parts entry.made) log) events in
      let seat_is : entry.session ≡ seat = ap (λ (o : Occurrence). o.session) (sym same) ∙ its in
      let ends = subst (λ o. Ends script front seat (Some o) line) same stands in
      let here = named entry.session entry.made.event (and_first (is_of entry.session entry.made.event) (are_named log) are) in
      let next = (moved parts front at lines seat low high entry seat_is held lawful.0 lawful.1 here).0 in
      lines_on at next lines line.printed ms
      (stays parts front at lines seat low high entry seat_is held lawful.0 lawful.1 here line ends)
      (comes parts front at lines seat low high entry seat_is held lawful.0 lawful.1 here line ends read)
      (on log (after (shape_of script) parts entry.made) (front ++ occurrence_of (shape_of script) parts entry ∷ []) next (with_reply lines line.printed)
      (after_held parts front at lines seat low high entry seat_is held lawful.0 lawful.1 here line ends)
      lawful.2 (and_second (is_of entry.session entry.made.event) (are_named log) are)
      (subst (λ o. AreMoments script (front ++ o ∷ []) ms) same rest) reads
      (rest_is o (occurrence_of (shape_of script) parts entry) (events_at ms) (occurrences_from (shape_of script) (after (shape_of script) parts entry.made) log) events))

  -- where it holds, the lines of all moments to come come about one behind the other
  pub all_run : (ms : List Moment) → On ms
  all_run [] log parts front at lines held lawful are moments reads events = tt
  all_run (m ∷ ms) log parts front at lines held lawful are moments reads events =
      one m.session moments.0.low moments.0.high m.event m.line ms (all_run ms) log parts front at lines held lawful are moments.0.event_is moments.0.stands moments.1 reads.0 reads.1 events

-- The moments of a run are a timeline of its printed replies.
pub runs_give_timelines : RunsGiveTimelines
runs_give_timelines script log text valid ran =
    let moments = runs_have_moments script log text ran in
    record {
      threads = moments.threads;
      order = moments.order;
      runs = all_run script valid (moments_of script ran.rounds) (as_log ran.trace) (opening (shape_of script)) [] (machine.opening_from script.begun) []
          (holds_first script valid.shape) (run_lawful script log text ran) (run_named script log text ran) moments.calls (runs_read script log text valid.valid ran) moments.events;
    }
