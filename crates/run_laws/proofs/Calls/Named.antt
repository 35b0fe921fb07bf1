-- Each event of a run stands under its own session.
use Rattle.std.proofs.Common.{◌≡◌, ◌≢◌, ◌⊎◌, ℕ, zero, suc, ◌+◌, ◌-◌, ◌<◌, ◌≤◌, nat_le, Bool, true, false, cond, ◌&&◌, ◌==◌, List, [], ◌∷◌, ◌++◌, map, refl, sym, ap, ◌∙◌, subst, arith}
use mathlib.Core.Logic.{inl, inr}
use Rattle.std.specs.Prelude.{All}
use Rattle.std.specs.List.{flat_map, list_all, range_with_len}
use Rattle.std.proofs.lemmas.Bool.Decides.{nat_tests}
use Rattle.std.proofs.lemmas.List.Elements.{All-append, All-head, All-nil, All-tail, filter-append}
use Rattle.std.proofs.lemmas.Bool.{and_from}
use Rattle.event_spec.specs.Parts.{Parts, Shape}
use Rattle.event_spec.specs.Replay.{IsLawfulLog, after, opening}
use Rattle.outcome_spec.specs.Forms.{commands_of, is_worker}
use Rattle.workload_spec.specs.declared.reply.Who.{Who}
use Rattle.workload_spec.specs.declared.reply.Who.TheVariants.{Session, Worker}
use Rattle.workload_spec.specs.declared.script.Line.{Line}
use Rattle.workload_spec.specs.declared.script.Script.{Script}
use Rattle.run_spec.specs.Occurrences.{Logged, Occurrence, events_in, occurrences_from, under}
use Rattle.run_spec.specs.Ran.{Ran, Agenda, AreRounds, IsDone, IsOfScript, IsRound, RoundRun, Share, agenda_of, agendas_in, session_of, shape_of, turns_of}
use Rattle.run_spec.specs.Traces.{Action, as_log, log_in}
use Rattle.store_laws.proofs.Traces.{whole_is_lawful}
use Rattle.run_laws.proofs.Calls.Laying.{lends_lawful}
use Rattle.run_laws.specs.Calls.Along.{are_named}
use Rattle.run_laws.specs.Calls.Asking.{is_of}
use Rattle.run_laws.specs.Calls.Named.{RunsGoAlong}
use Rattle.run_laws.proofs.Calls.Along.{all_append, and_first, and_second, calls_are_the_sessions, machines_go_along}

-- Two numbers are the same or not.
same_or_not : (a b : ℕ) → (a ≡ b) ⊎ (a ≢ b)
same_or_not a b = go (a == b) refl
  where
    go : (t : Bool) → (a == b) ≡ t → (a ≡ b) ⊎ (a ≢ b)
    go true e = inl (grind (arith, nat_tests))
    go false e = inr (λ s. absurd (grind (arith, nat_tests)))

-- ---- each session of a script has a share

-- One of the agendas is that of this session or worker.
abbrev HasWho : Who → List Agenda → Type 0
HasWho who [] = ⊥
HasWho who (agenda ∷ agendas) = (agenda.who ≡ who) ⊎ HasWho who agendas

-- Where one is among the agendas of the shares, there is a share of it, with what all have.
share_of : (P : Share → Type 0) (who : Who) (shares : List Share) → HasWho who (map agenda_of shares) → All P shares
    → (share : Share) × (share.who ≡ who) × P share
share_of P who [] has all = absurd has
share_of P who (share ∷ shares) (inl e) all = (share, e, All-head P share shares all)
share_of P who (share ∷ shares) (inr has) all = share_of P who shares has (All-tail P share shares all)

-- Who is among the first agendas is among both.
has_left : (who : Who) (xs ys : List Agenda) → HasWho who xs → HasWho who (xs ++ ys)
has_left who [] ys has = absurd has
has_left who (x ∷ xs) ys (inl e) = inl e
has_left who (x ∷ xs) ys (inr has) = inr (has_left who xs ys has)

-- Who is among the second agendas is among both.
has_right : (who : Who) (xs ys : List Agenda) → HasWho who ys → HasWho who (xs ++ ys)
has_right who [] ys has = has
has_right who (x ∷ xs) ys has = inr (has_right who xs ys has)

-- Who is in a range of agendas by number is among them.
has_range : (f : ℕ → Agenda) (who : ℕ → Who) → ((k : ℕ) → (f k).who ≡ who k) → (base n q : ℕ) → base ≤ q → q < base + n
    → HasWho (who q) (map f (range_with_len base n))
has_range f who same base zero q low high = absurd (omega (arith, low, high))
has_range f who same base (suc n) q low high = go (same_or_not base q)
    (λ ne. has_range f who same (base + 1) n q (omega (arith, low, ne)) (omega (arith, high)))
  where
    go : (base ≡ q) ⊎ (base ≢ q) → (base ≢ q → HasWho (who q) (map f (range_with_len (base + 1) n)))
        → HasWho (who q) (map f (range_with_len base (suc n)))
    go (inl e) later = inl (same base ∙ ap who e)
    go (inr ne) later = inr (later ne)

-- whose events stand under a session, and that each round asks something of them
pub record Asked (script : Script) (q : ℕ) : Type 0 where
  pub who : Who
  pub is : session_of script who ≡ q
  pub has : (lines : List Line) → HasWho who (agendas_in script lines)

-- Each number of a script's sessions and workers is of one that each round asks.
asked_of : (script : Script) (q : ℕ) → 1 ≤ q → q ≤ script.sessions + script.workers → Asked script q
asked_of script q low high = go (nat_le q script.sessions) refl
  where
    go : (b : Bool) → nat_le q script.sessions ≡ b → Asked script q
    go true e =
        let within : q ≤ script.sessions = grind (arith, nat_tests, e) in record {
          who = Session q;
          is = refl;
          has = λ lines. has_left
              (Session q)
              (map (λ n. record { who = Session n; commands = commands_of n lines }) (range_with_len 1 script.sessions))
              (map (λ n. record { who = Worker n; commands = turns_of script }) (range_with_len 1 script.workers))
              (has_range
              (λ n. record { who = Session n; commands = commands_of n lines })
              (λ n. Session n)
              (λ k. refl)
              1
              script.sessions
              q
              low
              (omega (arith, within)));
        }
    go false e =
        let beyond : script.sessions < q = grind (arith, nat_tests, e) in record {
          who = Worker (q - script.sessions);
          is = omega (arith, beyond);
          has = λ lines. has_right
              (Worker (q - script.sessions))
              (map (λ n. record { who = Session n; commands = commands_of n lines }) (range_with_len 1 script.sessions))
              (map (λ n. record { who = Worker n; commands = turns_of script }) (range_with_len 1 script.workers))
              (has_range
              (λ n. record { who = Worker n; commands = turns_of script })
              (λ n. Worker n)
              (λ k. refl)
              1
              script.workers
              (q - script.sessions)
              (omega (arith, beyond))
              (omega (arith, beyond, high)));
        }

-- ---- each session's events, round by round

-- each session's events among these are its own
abbrev Own : Script → List Occurrence → Type 0
Own script events = (q : ℕ) → 1 ≤ q → q ≤ script.sessions + script.workers
    → list_all (is_of q) (events_in (under q events)) ≡ true

-- Where each session's events are its own among two lists, they are among both.
own_append : (script : Script) (xs ys : List Occurrence) → Own script xs → Own script ys → Own script (xs ++ ys)
own_append script xs ys own more q low high =
    ap (λ (zs : List Occurrence). list_all (is_of q) (events_in zs)) (filter-append (λ (o : Occurrence). o.session == q) xs ys)
    ∙ all_append q (under q xs) (under q ys) (own q low high) (more q low high)

-- Each session's events of a round are its own, where those in front are.
round_own : (script : Script) (front : List Occurrence) (round : RoundRun) (lines : List Line)
    → map agenda_of round.shares ≡ agendas_in script lines → IsRound script front round
    → Own script front → Own script round.made
round_own script front round lines asked is own q low high =
    let at = asked_of script q low high in
    let share = share_of
    (IsDone script front round.made)
    at.who
    round.shares
    (subst (λ (agendas : List Agenda). HasWho at.who agendas) (sym asked) (at.has lines))
    is.done in
    let same : session_of script share.0.who ≡ q = ap (session_of script) share.1 ∙ at.is in
    let before : list_all (is_of (session_of script share.0.who)) (events_in (under (session_of script share.0.who) front)) ≡ true =
    subst (λ n. list_all (is_of n) (events_in (under n front)) ≡ true) (sym same) (own q low high) in
    subst
    (λ n. list_all (is_of n) (events_in (under n round.made)) ≡ true)
    same
    (ap (λ (made : List Occurrence). list_all (is_of (session_of script share.0.who)) (events_in made)) share.2.events
    ∙ calls_are_the_sessions
    (shape_of script)
    (is_worker share.0.who)
    (session_of script share.0.who)
    (under (session_of script share.0.who) front)
    share.0.calls
    before
    share.2.calls)

-- Lists that are one begin with the same element.
heads : {X : Type 0} (a b : X) (xs ys : List X) → a ∷ xs ≡ b ∷ ys → a ≡ b
heads a b xs ys e = cc

-- Lists that are one go on alike behind the first.
tails : {X : Type 0} (a b : X) (xs ys : List X) → a ∷ xs ≡ b ∷ ys → xs ≡ ys
tails a b xs ys e = cc

-- The events of rounds, one round behind the other.
abbrev made_in : List RoundRun → List Occurrence
made_in rounds = flat_map (λ (round : RoundRun). round.made) rounds

-- Each session's events of some rounds are its own, where those in front are.
rounds_own : (script : Script) (front : List Occurrence) (rounds : List RoundRun) (asked : List (List Line))
    → map (λ (round : RoundRun). map agenda_of round.shares) rounds ≡ map (agendas_in script) asked
    → AreRounds script front rounds → Own script front → Own script (made_in rounds)
rounds_own script front [] asked e are own = λ q low high. refl
rounds_own script front (round ∷ rounds) [] e are own = absurd (let never : ⊥ = cc e in never)
rounds_own script front (round ∷ rounds) (lines ∷ asked) e are own =
    let shares : List (List Agenda) = map (λ (round : RoundRun). map agenda_of round.shares) rounds in
    let here = round_own script front round lines
    (heads (map agenda_of round.shares) (agendas_in script lines) shares (map (agendas_in script) asked) e) are.0 own in
    own_append
    script
    round.made
    (made_in rounds)
    here
    (rounds_own
    script
    (front ++ round.made)
    rounds
    asked
    (tails (map agenda_of round.shares) (agendas_in script lines) shares (map (agendas_in script) asked) e)
    are.1
    (own_append script front round.made own here))

-- The events of rounds stand under sessions and workers of the script.
all_of_script : (script : Script) (front : List Occurrence) (rounds : List RoundRun) → AreRounds script front rounds
    → All (IsOfScript script) (made_in rounds)
all_of_script script front [] are = All-nil (IsOfScript script)
all_of_script script front (round ∷ rounds) are = All-append
    (IsOfScript script)
    round.made
    (made_in rounds)
    are.0.nobody_else
    (all_of_script script (front ++ round.made) rounds are.1)

-- ---- each event

-- Where the events with or without a first one pass, those behind it do.
rest_passes : (q : ℕ) (b : Bool) (first : Occurrence) (rest : List Occurrence)
    → list_all (is_of q) (events_in (cond b (first ∷ rest) rest)) ≡ true → list_all (is_of q) (events_in rest) ≡ true
rest_passes q true first rest e = and_second (is_of q first.event) (list_all (is_of q) (events_in rest)) e
rest_passes q false first rest e = e

-- The event is of the session under which it stands, or of none.
abbrev is_its : Occurrence → Bool
is_its occurrence = is_of occurrence.session occurrence.event

-- Each of the events is its session's, where those of each session are its own.
each_is_its : (script : Script) (events : List Occurrence) → Own script events → All (IsOfScript script) events
    → list_all is_its events ≡ true
each_is_its script [] own all = refl
each_is_its script (first ∷ rest) own all =
    let here : IsOfScript script first = All-head (IsOfScript script) first rest all in
    let test : (first.session == first.session) ≡ true = grind (arith, nat_tests) in
    let passes : list_all (is_of first.session) (events_in (first ∷ under first.session rest)) ≡ true =
    ap (λ (b : Bool). list_all (is_of first.session) (events_in (cond b (first ∷ under first.session rest) (under first.session rest)))) (sym test)
    ∙ own first.session here.0 here.1 in
    and_from
    (is_its first)
    (list_all is_its rest)
    (and_first (is_of first.session first.event) (list_all (is_of first.session) (events_in (under first.session rest))) passes)
    (each_is_its
    script
    rest
    (λ q low high. rest_passes q (first.session == q) first (under q rest) (own q low high))
    (All-tail (IsOfScript script) first rest all))

-- A log is named exactly where each of its occurrences is its session's.
named_log : (shape : Shape) (parts : Parts) (log : List Logged)
    → are_named log ≡ list_all is_its (occurrences_from shape parts log)
named_log shape parts [] = refl
named_log shape parts (entry ∷ log) =
    ap (λ (b : Bool). is_of entry.session entry.made.event && b) (named_log shape (after shape parts entry.made) log)

-- Where each entry of a trace is its session's, so is each event's.
named_events : (trace : List Action) → are_named (as_log trace) ≡ true → are_named (log_in trace) ≡ true
named_events [] named = refl
named_events (action ∷ trace) named =
    go (named_events trace (and_second first (are_named (as_log trace)) named)) action.lent
  where
    first : Bool
    first = is_of action.entry.session action.entry.made.event

    go : are_named (log_in trace) ≡ true → (lent : Bool) → are_named (cond lent (log_in trace) (action.entry ∷ log_in trace)) ≡ true
    go h true = h
    go h false = and_from first (are_named (log_in trace)) (and_first first (are_named (as_log trace)) named) h

-- The events and lends of a run stand under their own sessions.
pub run_named : (script : Script) (log : List Logged) (text : List ℕ) → (ran : Ran script log text) → are_named (as_log ran.trace) ≡ true
run_named script log text ran =
    named_log (shape_of script) (opening (shape_of script)) (as_log ran.trace)
    ∙ ap (list_all is_its) ran.parted
    ∙ each_is_its
    script
    (made_in ran.rounds)
    (rounds_own script [] ran.rounds script.rounds ran.asked ran.done (λ q low high. refl))
    (all_of_script script [] ran.rounds ran.done)

-- A run's trace is lawful as a log in which each lend is its read.
pub run_lawful : (script : Script) (log : List Logged) (text : List ℕ) → (ran : Ran script log text)
    → IsLawfulLog (shape_of script) (map (λ entry. entry.made) (as_log ran.trace))
run_lawful script log text ran = whole_is_lawful
    (shape_of script)
    (opening (shape_of script))
    ran.trace
    (lends_lawful (shape_of script) (opening (shape_of script)) ran.trace ran.lends)
    (subst (λ log. IsLawfulLog (shape_of script) (map (λ entry. entry.made) log)) ran.log_is ran.lawful)

-- the machine goes along the log of a run
pub runs_go_along : RunsGoAlong
runs_go_along script log text is_shape ran = machines_go_along
    (shape_of script)
    log
    is_shape
    ran.lawful
    (ap are_named ran.log_is ∙ named_events ran.trace (run_named script log text ran))
