-- A round in which all met is done.
use Rattle.std.proofs.Common.{◌≡◌, ℕ, zero, suc, ◌+◌, Bool, List, [], ◌∷◌, ◌++◌, fold, map, refl, sym, ap, ◌∙◌, subst, arith, append-nil, append_assoc}
use Rattle.std.specs.List.{flat_map, range_with_len}
use Rattle.std.specs.Prelude.{All, Option, None}
use Rattle.std.proofs.lemmas.List.Elements.{All-cons, All-head, All-nil, All-tail, All-weaker}
use Rattle.std.proofs.lemmas.List.Sums.{fold-append}
use Rattle.event_spec.specs.declared.own.OwnTransaction.{OwnTransaction}
use Rattle.event_spec.specs.Parts.{Shape}
use Rattle.event_spec.specs.Replay.{opening}
use Rattle.outcome_spec.specs.Forms.{commands_of, is_worker}
use Rattle.workload_spec.specs.declared.reply.Who.TheVariants.{Session, Worker}
use Rattle.workload_spec.specs.declared.script.Line.{Line}
use Rattle.workload_spec.specs.declared.script.Script.{Script}
use Rattle.run_spec.specs.Calls.{AreCalls, Call, IsCallBy}
use Rattle.run_spec.specs.Handed.{Brings, GoesOn, Stretch, Works, own_in, parts_left}
use Rattle.run_spec.specs.Occurrences.{Logged, Occurrence, occurrences_from, occurrences_in, under}
use Rattle.run_spec.specs.Opened.{own_after, own_behind}
use Rattle.run_spec.specs.Ran.{Agenda, IsDone, IsOfScript, Share, agenda_of, agendas_in, session_of, shape_of, turns_of}
use Rattle.run_spec.specs.Told.{refusal_of}
use Rattle.run_spec.specs.Traces.{Action, LendsFit, as_log, log_in}
use Rattle.store_laws.proofs.Entries.{own_on}
use Rattle.store_laws.proofs.Stretches.{nothing_is_a_stretch, same_rest, stretches_join, stretches_leave_open}
use Rattle.store_laws.proofs.Traces.{same_open}
use Rattle.run_laws.proofs.Calls.Laying.{lends_are_laid, lends_lawful}
use Rattle.run_laws.specs.Calls.Laying.{HasOwn, IsOneOf, IsTraceOf, OwnTrace}
use Rattle.run_laws.specs.Calls.Meeting.{IsNamedIn, MetRoundsAreDone}

-- ---- one's own between two logs

-- A list that begins with an event is not empty.
no_first : (x : Occurrence) (xs : List Occurrence) → x ∷ xs ≡ [] → ⊥
no_first x xs e = cc

-- Where two lists in a row have nothing, the first has nothing.
none_of_none : (xs ys : List Occurrence) → xs ++ ys ≡ [] → xs ≡ []
none_of_none [] ys e = refl
none_of_none (x ∷ xs) ys e = absurd (no_first x (xs ++ ys) e)

-- one's own events since a log
abbrev own_since : Shape → ℕ → List Logged → List Logged → List Occurrence
own_since shape session log more = under session (occurrences_from shape (parts_left shape log) more)

-- a log between two that have the same events of one's own has these
pub between : (shape : Shape) (session : ℕ) (first met later : List Logged) → GoesOn first met → GoesOn met later
    → own_in shape session later ≡ own_in shape session first → own_in shape session met ≡ own_in shape session first
between shape session first met later a b same =
    let since : List Occurrence = own_since shape session first a.0 in
    let more : List Occurrence = own_since shape session met b.0 in
    let one : own_in shape session met ≡ own_in shape session first ++ since =
    ap (own_in shape session) a.1 ∙ own_on shape session first a.0 in
    let two : own_in shape session later ≡ own_in shape session met ++ more =
    ap (own_in shape session) b.1 ∙ own_on shape session met b.0 in
    let none : since ++ more ≡ [] = same_rest (own_in shape session first) (since ++ more) []
    (sym (append_assoc (own_in shape session first) since more)
    ∙ ap (λ (made : List Occurrence). made ++ more) (sym one)
    ∙ sym two ∙ same ∙ sym (append-nil (own_in shape session first))) in
    one
    ∙ ap (λ (made : List Occurrence). own_in shape session first ++ made) (none_of_none since more none)
    ∙ append-nil (own_in shape session first)

-- ---- calls one behind the other

-- Behind events that leave the same open, calls are the same calls.
calls_behind : (shape : Shape) (worker : Bool) (session : ℕ) (front other : List Occurrence) (calls : List Call)
    → own_after front ≡ own_after other → AreCalls shape worker session front calls → AreCalls shape worker session other calls
calls_behind shape worker session front other [] same are = tt
calls_behind shape worker session front other (call ∷ calls) same are = (
  subst (λ own. IsCallBy shape worker session own (refusal_of call.command own) call) same are.0,
  calls_behind shape worker session (front ++ call.made) (other ++ call.made) calls (same_behind call.made) are.1,
)
  where
    step : Option OwnTransaction → Occurrence → Option OwnTransaction
    step own occurrence = own_behind own occurrence.event occurrence.reply

    same_behind : (made : List Occurrence) → own_after (front ++ made) ≡ own_after (other ++ made)
    same_behind made =
        fold-append (λ own (o : Occurrence). own_behind own o.event o.reply) None front made
        ∙ ap (λ own. fold (λ own (o : Occurrence). own_behind own o.event o.reply) own made) same
        ∙ sym (fold-append (λ own (o : Occurrence). own_behind own o.event o.reply) None other made)

-- The events and lends that some calls made, one call behind the other.
abbrev made_by : List Call → List Occurrence
made_by calls = flat_map (λ (call : Call). call.made) calls

-- Calls one behind the other make a stretch of their events and lends, and each is a call behind
-- those before it.
works_are_calls : (shape : Shape) (worker : Bool) (session : ℕ) (old new : List Logged) (calls : List Call)
    → Works shape worker session old calls new
    → Stretch shape session old new (made_by calls) × AreCalls shape worker session (own_in shape session old) calls
works_are_calls shape worker session old new [] w = (nothing_is_a_stretch shape session old new w.0 w.1, tt)
works_are_calls shape worker session old new (call ∷ calls) w =
    let behind = works_are_calls shape worker session w.0 new calls w.2 in (
      stretches_join shape session old w.0 new call.made (made_by calls) w.1.stretch behind.0,
      (
        w.1.is_call,
        calls_behind shape worker session (own_in shape session w.0) (own_in shape session old ++ call.made) calls
            (stretches_leave_open shape session old w.0 call.made w.1.stretch)
            behind.1,
      ),
    )

-- ---- one's share of a round

-- Logs that are one and begin alike go on alike.
same_more : (xs ys zs : List Logged) → xs ++ ys ≡ xs ++ zs → ys ≡ zs
same_more [] ys zs e = e
same_more (x ∷ xs) ys zs e = same_more xs ys zs (let tail : xs ++ ys ≡ xs ++ zs = cc in tail)

module _ (script : Script) (finished : List Action) (now : List Logged) (lends : LendsFit (shape_of script) (opening (shape_of script)) finished) where
  abbrev shape : Shape
  shape = shape_of script

  abbrev old : List Logged
  old = log_in finished

  abbrev Brought : Share → Type 0
  Brought = Brings script old (old ++ now)

  abbrev seat : Share → ℕ
  seat share = session_of script share.who

  module _ (share : Share) (brings : Brought share) where
    works : Stretch shape (seat share) brings.began brings.ended (made_by share.calls) × AreCalls shape (is_worker share.who) (seat share) (own_in shape (seat share) brings.began) share.calls
    works = works_are_calls shape (is_worker share.who) (seat share) brings.began brings.ended share.calls brings.works

    -- from the finished rounds on one made one's share, and nothing more until all met
    abbrev stretch : Stretch shape (seat share) old (old ++ now) ([] ++ (made_by share.calls ++ []))
    stretch = stretches_join shape (seat share) old brings.began (old ++ now) [] (made_by share.calls ++ [])
        (nothing_is_a_stretch shape (seat share) old brings.began brings.saw brings.nothing_yet)
        (stretches_join shape (seat share) brings.began brings.ended (old ++ now) (made_by share.calls) []
        works.0
        (nothing_is_a_stretch shape (seat share) brings.ended (old ++ now) brings.in_met
        (between shape (seat share) brings.ended (old ++ now) brings.later brings.in_met brings.seen brings.nothing_more)))

    -- one's own trace of the round
    abbrev own : OwnTrace
    own = record { session = seat share; trace = stretch.trace }

    own_is : IsTraceOf shape (parts_left shape old) now own
    own_is = record { log_is = sym (same_more old now (log_in stretch.trace) stretch.goes_on); lends = stretch.lends }

    -- in front of the round one had open what one had when one began
    open_before : own_after (own_in shape (seat share) brings.began) ≡ own_after (under (seat share) (occurrences_in shape (as_log finished)))
    open_before = ap own_after brings.nothing_yet
        ∙ sym (same_open shape (seat share) (opening shape) finished (lends_lawful shape (opening shape) finished lends) None)

    done : (trace : List Action) → HasOwn shape (parts_left shape old) trace own
        → IsDone script (occurrences_in shape (as_log finished)) (occurrences_from shape (parts_left shape old) (as_log trace)) share
    done trace has = record {
      events = has ∙ stretch.own ∙ append-nil (made_by share.calls);
      calls = calls_behind shape (is_worker share.who) (seat share)
          (own_in shape (seat share) brings.began)
          (under (seat share) (occurrences_in shape (as_log finished)))
          share.calls
          open_before
          works.1;
    }

  -- each one's own trace of it
  abbrev owns : (shares : List Share) → All Brought shares → List OwnTrace
  owns [] brought = []
  owns (share ∷ shares) brought =
      own share (All-head Brought share shares brought) ∷ owns shares (All-tail Brought share shares brought)

  owns_are : (shares : List Share) (brought : All Brought shares) → All (IsTraceOf shape (parts_left shape old) now) (owns shares brought)
  owns_are [] brought = All-nil (IsTraceOf shape (parts_left shape old) now)
  owns_are (share ∷ shares) brought = All-cons (IsTraceOf shape (parts_left shape old) now)
      (own share (All-head Brought share shares brought))
      (owns shares (All-tail Brought share shares brought))
      (own_is share (All-head Brought share shares brought))
      (owns_are shares (All-tail Brought share shares brought))

  owns_seats : (shares : List Share) (brought : All Brought shares) → map (λ own. own.session) (owns shares brought) ≡ map (λ (agenda : Agenda). session_of script agenda.who) (map agenda_of shares)
  owns_seats [] brought = refl
  owns_seats (share ∷ shares) brought = ap (λ seats. seat share ∷ seats) (owns_seats shares (All-tail Brought share shares brought))

  shares_done : (trace : List Action) (shares : List Share) (brought : All Brought shares) → All (HasOwn shape (parts_left shape old) trace) (owns shares brought)
      → All (IsDone script (occurrences_in shape (as_log finished)) (occurrences_from shape (parts_left shape old) (as_log trace))) shares
  shares_done trace [] brought has = All-nil (IsDone script (occurrences_in shape (as_log finished)) (occurrences_from shape (parts_left shape old) (as_log trace)))
  shares_done trace (share ∷ shares) brought has =
      let first = own share (All-head Brought share shares brought) in
      let rest = owns shares (All-tail Brought share shares brought) in
      All-cons (IsDone script (occurrences_in shape (as_log finished)) (occurrences_from shape (parts_left shape old) (as_log trace))) share shares
      (done share (All-head Brought share shares brought) trace (All-head (HasOwn shape (parts_left shape old) trace) first rest has))
      (shares_done trace shares (All-tail Brought share shares brought) (All-tail (HasOwn shape (parts_left shape old) trace) first rest has))

-- ---- the sessions and workers of a script stand in a row

map_append : {X Y : Type 0} (f : X → Y) (xs ys : List X) → map f (xs ++ ys) ≡ map f xs ++ map f ys
map_append f [] ys = refl
map_append f (x ∷ xs) ys = ap (λ zs. f x ∷ zs) (map_append f xs ys)

range_map : (f : ℕ → Agenda) (g : ℕ → ℕ) (seat : Agenda → ℕ) → ((n : ℕ) → seat (f n) ≡ g n) → (base n : ℕ) → map seat (map f (range_with_len base n)) ≡ map g (range_with_len base n)
range_map f g seat same base zero = refl
range_map f g seat same base (suc n) =
    ap (λ first. first ∷ map seat (map f (range_with_len (base + 1) n))) (same base)
    ∙ ap (λ rest. g base ∷ rest) (range_map f g seat same (base + 1) n)

range_same : (base n : ℕ) → map (λ k. k) (range_with_len base n) ≡ range_with_len base n
range_same base zero = refl
range_same base (suc n) = ap (λ rest. base ∷ rest) (range_same (base + 1) n)

range_shifted : (s base n : ℕ) → map (λ k. s + k) (range_with_len base n) ≡ range_with_len (s + base) n
range_shifted s base zero = refl
range_shifted s base (suc n) =
    let next : s + (base + 1) ≡ s + base + 1 = omega arith in
    ap (λ rest. (s + base) ∷ rest) (range_shifted s (base + 1) n ∙ ap (λ b. range_with_len b n) next)

range_append : (base n m : ℕ) → range_with_len base n ++ range_with_len (base + n) m ≡ range_with_len base (n + m)
range_append base zero m =
    let none : base + 0 ≡ base = omega arith in
    let all : 0 + m ≡ m = omega arith in
    ap (λ b. range_with_len b m) none ∙ ap (λ k. range_with_len base k) (sym all)
range_append base (suc n) m =
    let next : base + suc n ≡ base + 1 + n = omega arith in
    let more : suc n + m ≡ suc (n + m) = omega arith in
    ap (λ b. base ∷ range_with_len (base + 1) n ++ range_with_len b m) next
    ∙ ap (λ rest. base ∷ rest) (range_append (base + 1) n m)
    ∙ ap (λ k. range_with_len base k) (sym more)

seats_in_row : (script : Script) (lines : List Line) → map (λ (agenda : Agenda). session_of script agenda.who) (agendas_in script lines) ≡ range_with_len 1 (script.sessions + script.workers)
seats_in_row script lines =
    let seat : Agenda → ℕ = λ (agenda : Agenda). session_of script agenda.who in
    let swapped : script.sessions + 1 ≡ 1 + script.sessions = omega arith in
    map_append seat
    (map (λ session. record { who = Session session; commands = commands_of session lines }) (range_with_len 1 script.sessions))
    (map (λ worker. record { who = Worker worker; commands = turns_of script }) (range_with_len 1 script.workers))
    ∙ ap (λ seats. seats ++ map seat (map (λ worker. record { who = Worker worker; commands = turns_of script }) (range_with_len 1 script.workers)))
    (range_map (λ session. record { who = Session session; commands = commands_of session lines }) (λ k. k) seat (λ n. refl) 1 script.sessions ∙ range_same 1 script.sessions)
    ∙ ap (λ seats. range_with_len 1 script.sessions ++ seats)
    (range_map (λ worker. record { who = Worker worker; commands = turns_of script }) (λ k. script.sessions + k) seat (λ n. refl) 1 script.workers
    ∙ range_shifted script.sessions 1 script.workers
    ∙ ap (λ b. range_with_len b script.workers) swapped)
    ∙ range_append 1 script.sessions script.workers

-- What all bring to the end of a round in which all met is done in it.
pub met_rounds_are_done : MetRoundsAreDone
met_rounds_are_done script lines finished now shares lends agendas named brought =
    let shape = shape_of script in
    let count = script.sessions + script.workers in
    let mine = owns script finished now lends shares brought in
    let laid = lends_are_laid shape (parts_left shape (log_in finished)) now 1 count mine
    (owns_seats script finished now lends shares brought ∙ ap (map (λ (agenda : Agenda). session_of script agenda.who)) agendas ∙ seats_in_row script lines)
    (All-weaker (IsNamedIn script) (λ (entry : Logged). IsOneOf 1 count entry.session) (λ entry is. let high = is.1 in (is.0, omega (arith, high))) now named)
    (owns_are script finished now lends shares brought) in
    record {
      trace = laid.trace;
      log_is = sym laid.log_is;
      lends = laid.lends;
      round = record {
        done = shares_done script finished now lends laid.trace shares brought laid.each;
        nobody_else = All-weaker (λ (o : Occurrence). IsOneOf 1 count o.session) (IsOfScript script)
            (λ o is. let high = is.1 in (is.0, omega (arith, high)))
            (occurrences_from shape (parts_left shape (log_in finished)) (as_log laid.trace))
            laid.within;
      };
    }
