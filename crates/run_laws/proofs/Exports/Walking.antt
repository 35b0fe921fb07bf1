-- Along the moments of a run: the line of an export says what was sent.
use Rattle.std.proofs.Common.{◌≡◌, ◌⊎◌, ℕ, ◌+◌, ◌<◌, ◌≤◌, Bool, true, false, cond, List, [], ◌∷◌, ◌++◌, map, Option, None, Some, refl, sym, ap, ◌∙◌, subst}
use mathlib.Core.Logic.{inl, inr}
use Rattle.std.specs.Prelude.{IfSome, option_and_then}
use Rattle.std.specs.List.{cons_option}
use Rattle.event_spec.specs.Parts.{Parts}
use Rattle.event_spec.specs.Replay.{IsLawfulFrom, after}
use Rattle.isolation_spec.specs.Machine.{IsolationMachine}
use Rattle.outcome_spec.specs.Entries.{Entry}
use Rattle.outcome_spec.specs.Forms.{is_seal_or_gather, is_worker}
use Rattle.outcome_spec.specs.Tables.{blocks_at, columns_at}
use Rattle.outcome_spec.specs.Upkeep.{exported_table}
use Rattle.timeline_laws.proofs.Cuts.{change-of}
use Rattle.timeline_laws.proofs.Histories.{run}
use Rattle.timeline_spec.specs.Timeline.{Each, TimelineFrom, open_of}
use Rattle.workload_spec.specs.declared.command.Command.{Command}
use Rattle.workload_spec.specs.declared.command.Command.TheVariants as command
use Rattle.workload_spec.specs.declared.reply.Said.{Said}
use Rattle.workload_spec.specs.declared.reply.Said.TheVariants as said
use Rattle.workload_spec.specs.declared.reply.Who.{Who}
use Rattle.workload_spec.specs.declared.reply.Who.TheVariants.{Session}
use Rattle.workload_spec.specs.declared.script.Script.{Script}
use Rattle.run_spec.specs.Calls.{Call}
use Rattle.run_spec.specs.Occurrences.{Logged, Occurrence, occurrence_of, occurrences_from}
use Rattle.run_spec.specs.Ran.{IsRunnable, shape_of}
use Rattle.run_laws.proofs.Moments.Reads.{Reads, ReadsAt}
use Rattle.run_laws.proofs.Calls.Along.{and_first, and_second, named}
use Rattle.run_laws.specs.Calls.Along.{are_named}
use Rattle.run_laws.specs.Calls.Asking.{is_of}
use Rattle.run_laws.specs.Calls.Coming.{is_single}
use Rattle.run_laws.specs.Calls.Moments.{Lined, Moment, events_at}
use Rattle.run_laws.proofs.Told.Tells.{refusals_are_plain}
use Rattle.run_laws.specs.Told.Laws.{is_plain}
use Rattle.run_laws.proofs.Moments.Seats.{either, session_at, worker_at}
use Rattle.run_laws.specs.Moments.Laws.{AreMoments, Ends, GoesOn, IsPrinted, Stands, command_told, with_event}
use Rattle.run_laws.specs.Moments.Moments.{replies_at, who_at, with_reply}
use Rattle.run_laws.proofs.Explained.Explaining.{Loud, event_loud, plain_or_moved}
use Rattle.run_laws.proofs.Explained.Holding.{Holds}
use Rattle.run_laws.proofs.Explained.Taking.{Ended, stays, takes}
use Rattle.run_laws.proofs.Explained.Walk.{after_held, alone_ended, alone_held, ended, first_is, moved, no_event, onward, rest_is, tells_at}
use Rattle.export_spec.specs.Calls.{SendsAs, SendsBy}
use Rattle.export_spec.specs.Sent.{SaysOfBytes}
use Rattle.run_laws.proofs.Exports.Lines.{Rest, rest_next, says_so}
use Rattle.run_laws.proofs.Exports.Once.{change_once, others_stay}
use Rattle.run_laws.proofs.Exports.Saying.{SaysBy, says_by}
use Rattle.run_laws.proofs.Exports.Sent.{EachLine}

-- True and false are never the same.
true_false : true ≡ false → ⊥
true_false e = cc

-- A command that is not single is not single where it shows as an observation, either.
single_command : (b : Bool) (asked : Command) → is_single asked ≡ false → is_single (cond b command.Observe asked) ≡ false
single_command true asked other = refl
single_command false asked other = other

-- A seal or a gathering is no single command.
seal_other : (asked : Command) → is_seal_or_gather asked ≡ true → is_single asked ≡ false
seal_other (command.Seal table block) e = refl
seal_other (command.Gather table block) e = refl
seal_other (command.Scan table) e = refl
seal_other (command.Range table low high) e = absurd (true_false (sym e))
seal_other (command.Total table column low high) e = refl
seal_other (command.Export table) e = refl
seal_other command.Observe e = refl
seal_other command.Prune e = refl
seal_other (command.Compact table) e = refl
seal_other (command.Begin checked) e = absurd (true_false (sym e))
seal_other (command.Get table key) e = absurd (true_false (sym e))
seal_other (command.Insert table row) e = absurd (true_false (sym e))
seal_other (command.Update table row) e = absurd (true_false (sym e))
seal_other (command.Delete table key) e = absurd (true_false (sym e))
seal_other command.Commit e = absurd (true_false (sym e))
seal_other command.Abort e = absurd (true_false (sym e))

-- An export is no single command.
export_other : (asked : Command) (table : ℕ) → asked ≡ command.Export table → is_single asked ≡ false
export_other asked table is = ap is_single is

module _ (script : Script) (valid : IsRunnable script) (printed timeline : List Entry) (t : TimelineFrom script.begun script.tables printed timeline) (bytes : List ℕ) where
  -- the lines that are to come
  abbrev ToCome : List Entry → IsolationMachine → List Entry → Type 0
  ToCome lines at entries = Rest script.begun script.tables printed timeline t lines at entries

  -- what a line says of what was sent
  abbrev pub Says : Entry → Type 0
  Says entry = SaysOfBytes (run script.begun script.tables printed timeline t) entry entry.command bytes

  -- ---- a line of a call that ended

  module _ (seat : ℕ) (parts : Parts) (front : List Occurrence) (at next : IsolationMachine) (call : Call) (is_ended : Ended script seat parts front at next call)
      (lines : List Entry) (loud : Loud (is_worker (who_at script seat)) call.command call.told)
      (read : is_worker (who_at script seat) ≡ false → Reads script lines seat call) where
    -- it leaves the machine that the timeline has there
    same_next : (entry : Entry) (entries : List Entry) → IsPrinted (who_at script seat) call (Some entry) → (rest : ToCome lines at (entry ∷ entries)) → next ≡ rest.runs.0
    same_next entry entries is rest = go (is_single call.command) refl
      where
        go : (b : Bool) → is_single call.command ≡ b → next ≡ rest.runs.0
        go true e = change_once entry.reply.who entry.command entry.reply.said at next rest.runs.0
            (change-of script.tables lines at next entry rest.shown.sane
            (takes script valid seat parts front at next call lines entry is_ended is.0 is.1 is.2 (λ session. (read session).told)
            (λ table asked. absurd (true_false (sym e ∙ export_other call.command table asked)))))
            (change-of script.tables lines at rest.runs.0 entry rest.shown.sane rest.runs.1)
        go false e =
            stays script valid seat parts front at next call is_ended e
            ∙ sym (others_stay script.tables lines at entry rest.runs.0 entry.reply.who entry.command
            (ap is_single is.2 ∙ single_command (is_worker (who_at script seat)) call.command e) rest.runs.1)

    silent_stays : call.told ≡ None → next ≡ at
    silent_stays none = stays script valid seat parts front at next call is_ended
        (seal_other call.command (and_second (is_worker (who_at script seat)) (is_seal_or_gather call.command) (loud.silent none)))

    -- an export's line says what was sent
    line_says : (entry : Entry) (entries : List Entry) → IsPrinted (who_at script seat) call (Some entry) → ToCome lines at (entry ∷ entries) → SendsBy script.tables call bytes → Says entry
    line_says entry entries is rest sent = go entry.command refl
      where
        exports : (table : ℕ) → entry.command ≡ command.Export table → (seat ≤ script.sessions) ⊎ (script.sessions < seat)
            → SaysOfBytes (run script.begun script.tables printed timeline t) entry (command.Export table) bytes
        exports table asked (inr high) =
            let never : command.Observe ≡ command.Export table = ap (λ w. command_told w call.command) (sym (worker_at script seat high)) ∙ sym is.2 ∙ asked in
            absurd (let no : ⊥ = cc in no)
        exports table asked (inl low) =
            let mine : call.command ≡ command.Export table = ap (λ w. command_told w call.command) (sym (session_at script seat low)) ∙ sym is.2 ∙ asked in
            let as_sent : SendsAs (columns_at script.tables table) (blocks_at script.tables table) call.made entry.reply.said bytes =
            subst (λ (told : Option Said). IfSome told (λ told. SendsAs (columns_at script.tables table) (blocks_at script.tables table) call.made told bytes)) is.0
            (subst (λ (c : Command). IfSome (exported_table c) (λ table. IfSome call.told (λ told. SendsAs (columns_at script.tables table) (blocks_at script.tables table) call.made told bytes))) mine sent) in
            let says = says_by script valid seat parts front at next call is_ended table mine bytes entry.reply.said is.0 as_sent in
            let who : entry.reply.who ≡ Session seat = is.1 ∙ session_at script seat low in
            says_so script.begun script.tables printed timeline t lines at entry entries rest bytes (open_of entry.reply.who at) refl table entry.reply.said
            (subst (λ (w : Who). SaysBy script.tables at (open_of w at) table entry.reply.said bytes) (sym who) says)

        go : (asked : Command) → entry.command ≡ asked → SaysOfBytes (run script.begun script.tables printed timeline t) entry asked bytes
        go (command.Export table) asked = exports table asked (either script seat)
        go _ asked = tt

    -- the line, and those behind it
    line_done : (ms : List Moment) (line : Option Entry) → IsPrinted (who_at script seat) call line → SendsBy script.tables call bytes
        → ToCome lines at (cons_option line (replies_at ms))
        → (ToCome (with_reply lines line) next (replies_at ms) → Each Says (replies_at ms))
        → Each Says (cons_option line (replies_at ms))
    line_done ms None is sent rest behind = behind (subst (λ m. ToCome lines m (replies_at ms)) (sym (silent_stays is)) rest)
    line_done ms (Some entry) is sent rest behind = (
      line_says entry (replies_at ms) is rest sent,
      behind (subst (λ m. ToCome (lines ++ entry ∷ []) m (replies_at ms)) (sym (same_next entry (replies_at ms) is rest))
          (rest_next script.begun script.tables printed timeline t lines at entry (replies_at ms) rest)),
    )

  -- ---- one moment

  -- what holds of all moments that are to come
  abbrev pub On : List Moment → Type 0
  On ms = (log : List Logged) (parts : Parts) (front : List Occurrence) (at : IsolationMachine) (lines : List Entry)
      → Holds script parts front at lines → IsLawfulFrom (shape_of script) parts (map (λ entry. entry.made) log) → are_named log ≡ true
      → AreMoments script front ms → ReadsAt script lines ms → events_at ms ≡ occurrences_from (shape_of script) parts log
      → EachLine (λ line. SendsBy script.tables line.call bytes) ms → ToCome lines at (replies_at ms)
      → Each Says (replies_at ms)

  -- one without an event
  module _ (parts : Parts) (front : List Occurrence) (at : IsolationMachine) (lines : List Entry) (seat : ℕ) (low : 1 ≤ seat) (line : Lined)
      (held : Holds script parts front at lines) (ends : Ends script front seat None line) where
    plain : (said' : Said) × (line.call.told ≡ Some said') × ((is_plain said' ≡ true) ⊎ (said' ≡ said.Moved 0))
    plain = refusals_are_plain (shape_of script) (is_worker (who_at script seat)) seat ends.began line.call ends.is_call (ends.made ∙ ap (λ xs. xs ++ []) (ends.none refl))

    alone_loud : Loud (is_worker (who_at script seat)) line.call.command line.call.told
    alone_loud = plain_or_moved (is_worker (who_at script seat)) line.call.command line.call.told plain.0 plain.1 plain.2

    alone_done : (is_worker (who_at script seat) ≡ false → Reads script lines seat line.call) → (ms : List Moment) → SendsBy script.tables line.call bytes → ToCome lines at (cons_option line.printed (replies_at ms))
        → (ToCome (with_reply lines line.printed) at (replies_at ms) → Each Says (replies_at ms))
        → Each Says (cons_option line.printed (replies_at ms))
    alone_done read ms sent rest behind = line_done seat parts front at at line.call (alone_ended script valid parts front at lines seat low line held ends) lines alone_loud read ms line.printed
        ends.printed sent rest behind

  -- What holds of the moments that follow holds with one moment more in front.
  one : (seat : ℕ) → 1 ≤ seat → seat ≤ script.sessions + script.workers → (event : Option Occurrence) (line : Option Lined) (ms : List Moment) → On ms
      → (log : List Logged) (parts : Parts) (front : List Occurrence) (at : IsolationMachine) (lines : List Entry)
      → Holds script parts front at lines → IsLawfulFrom (shape_of script) parts (map (λ entry. entry.made) log) → are_named log ≡ true
      → IfSome event (λ o. o.session ≡ seat) → Stands script front seat event line → AreMoments script (with_event front event) ms
      → IfSome line (λ line. is_worker (who_at script seat) ≡ false → Reads script lines seat line.call)
      → ReadsAt script (with_reply lines (option_and_then (λ (line : Lined). line.printed) line)) ms
      → cons_option event (events_at ms) ≡ occurrences_from (shape_of script) parts log
      → IfSome line (λ line. SendsBy script.tables line.call bytes) → EachLine (λ line. SendsBy script.tables line.call bytes) ms
      → ToCome lines at (cons_option (option_and_then (λ (line : Lined). line.printed) line) (replies_at ms))
      → Each Says (cons_option (option_and_then (λ (line : Lined). line.printed) line) (replies_at ms))
  one seat low high None None ms on log parts front at lines held lawful are its stands rest read reads events sent others to_come = absurd stands
  one seat low high None (Some line) ms on log parts front at lines held lawful are its stands rest read reads events sent others to_come =
      alone_done parts front at lines seat low line held stands read ms sent to_come
      (on log parts front at (with_reply lines line.printed) (alone_held script valid parts front at lines seat low line held stands) lawful are rest reads events others)
  one seat low high (Some o) line ms on [] parts front at lines held lawful are its stands rest read reads events sent others to_come = absurd (no_event script valid o (events_at ms) events)
  one seat low high (Some o) None ms on (entry ∷ log) parts front at lines held lawful are its stands rest read reads events sent others to_come =
      let same : o ≡ occurrence_of (shape_of script) parts entry = first_is script valid o (occurrence_of (shape_of script) parts entry) (events_at ms) (occurrences_from (shape_of script) (after (shape_of script) parts entry.made) log) events in
      let seat_is : entry.session ≡ seat = ap (λ (o : Occurrence). o.session) (sym same) ∙ its in
      let goes = subst (GoesOn script front seat) same stands in
      let here = named entry.session entry.made.event (and_first (is_of entry.session entry.made.event) (are_named log) are) in
      on log (after (shape_of script) parts entry.made) (front ++ occurrence_of (shape_of script) parts entry ∷ []) at lines
      (onward script valid parts front at lines seat low high entry seat_is held lawful.0 lawful.1 here goes)
      lawful.2 (and_second (is_of entry.session entry.made.event) (are_named log) are)
      (subst (λ o. AreMoments script (front ++ o ∷ []) ms) same rest) reads
      (rest_is script valid o (occurrence_of (shape_of script) parts entry) (events_at ms) (occurrences_from (shape_of script) (after (shape_of script) parts entry.made) log) events)
      others to_come
  one seat low high (Some o) (Some line) ms on (entry ∷ log) parts front at lines held lawful are its stands rest read reads events sent others to_come =
      let same : o ≡ occurrence_of (shape_of script) parts entry = first_is script valid o (occurrence_of (shape_of script) parts entry) (events_at ms) (occurrences_from (shape_of script) (after (shape_of script) parts entry.made) log) events in
      let seat_is : entry.session ≡ seat = ap (λ (o : Occurrence). o.session) (sym same) ∙ its in
      let ends = subst (λ o. Ends script front seat (Some o) line) same stands in
      let here = named entry.session entry.made.event (and_first (is_of entry.session entry.made.event) (are_named log) are) in
      let next = moved script valid parts front at lines seat low high entry seat_is held lawful.0 lawful.1 here in
      let tells = tells_at script valid parts front at lines seat low high entry seat_is held lawful.0 lawful.1 here line ends in
      let is_ended = ended script valid parts front at lines seat low high entry seat_is held lawful.0 lawful.1 here line ends in
      let loud = event_loud (shape_of script) parts (is_worker (who_at script seat)) line.call.made line.call.command line.call.told entry.made.event entry.made.refused tells in
      line_done seat (after (shape_of script) parts entry.made) (front ++ occurrence_of (shape_of script) parts entry ∷ []) at next.0 line.call is_ended lines loud read ms line.printed ends.printed sent to_come
      (on log (after (shape_of script) parts entry.made) (front ++ occurrence_of (shape_of script) parts entry ∷ []) next.0 (with_reply lines line.printed)
      (after_held script valid parts front at lines seat low high entry seat_is held lawful.0 lawful.1 here line ends)
      lawful.2 (and_second (is_of entry.session entry.made.event) (are_named log) are)
      (subst (λ o. AreMoments script (front ++ o ∷ []) ms) same rest) reads
      (rest_is script valid o (occurrence_of (shape_of script) parts entry) (events_at ms) (occurrences_from (shape_of script) (after (shape_of script) parts entry.made) log) events)
      others)

  -- ---- all moments

  -- where it holds, each line of an export to come says what was sent
  pub all_say : (ms : List Moment) → On ms
  all_say [] log parts front at lines held lawful are moments reads events sent rest = tt
  all_say (m ∷ ms) log parts front at lines held lawful are moments reads events sent rest =
      one m.session moments.0.low moments.0.high m.event m.line ms (all_say ms) log parts front at lines held lawful are moments.0.event_is moments.0.stands moments.1 reads.0 reads.1 events sent.0 sent.1 rest
