-- The moments of all rounds.
use Rattle.std.proofs.Common.{◌≡◌, ◌⊎◌, ℕ, zero, suc, ◌+◌, ◌<◌, ◌≤◌, Bool, true, false, cond, ◌==◌, Option, None, Some, List, [], ◌∷◌, ◌++◌, map, refl, sym, ap, ◌∙◌, subst, arith}
use mathlib.Core.Logic.{inl, inr}
use Rattle.std.specs.Prelude.{IfSome}
use Rattle.std.specs.List.{cons_option, filter, filter_map, flat_map, range_with_len}
use Rattle.std.proofs.lemmas.Bool.Decides.{nat_tests}
use Rattle.cell_model.specs.declared.table.TableDecl.{TableDecl}
use Rattle.run_spec.specs.Calls.{Call}
use Rattle.std.proofs.lemmas.List.Elements.{filter-append, filter_map-append}
use Rattle.event_spec.specs.Lawful.{Among}
use Rattle.outcome_spec.specs.Entries.{Entry, is_same, thread}
use Rattle.timeline_laws.proofs.Order.{Each-append, Each-timeline, Each-weaker}
use Rattle.timeline_laws.proofs.Printing.{printed-in-order}
use Rattle.timeline_laws.proofs.Spans.{order-filter}
use Rattle.timeline_spec.specs.Printed.{printed_of}
use Rattle.timeline_spec.specs.Timeline.{Each, InOrder}
use Rattle.workload_spec.specs.declared.reply.Who.{Who}
use Rattle.workload_spec.specs.declared.script.Line.{Line}
use Rattle.workload_spec.specs.declared.script.Script.{Script}
use Rattle.run_spec.specs.Occurrences.{Occurrence}
use Rattle.run_spec.specs.Ran.{Agenda, AreRounds, IsRound, RoundRun, Share, agenda_of, agendas_in, told_in}
use Rattle.run_laws.proofs.Calls.Moments.{moments_are_the_round}
use Rattle.run_laws.specs.Calls.Moments.{Lined, Moment, events_at, lines_at, lines_of}
use Rattle.run_laws.specs.Moments.Laws.{AreMoments, EachCall, EachEnds, EachOf, EachShare, RunsHaveMoments}
use Rattle.run_laws.specs.Moments.Moments.{all_printed, due_of, lined, pending_at, pending_of, printed_by, with_reply, moments_from, moments_of, printed_in, replies_at, reply_of, round_moments, seats_of, shares_lined, who_at}
use Rattle.run_laws.proofs.Moments.Printing.{printed_are, rounds_printed}
use Rattle.run_laws.proofs.Moments.Seats.{Aligned, Seat, aligned, all_seats_are, calls_at, parted, waits}
use Rattle.run_laws.proofs.Moments.Standing.{merged_are, with_events}
use Rattle.run_laws.proofs.Moments.Threads.{IsStranger, Rises, in_order, of_script, once, rises_append, shares_dropped, shares_in, shares_kept, thread_of_seat, thread_of_stranger}

module _ (script : Script) (lines : List Line) (there : Among lines script.rounds) (front : List Occurrence) (earlier : List Entry) (number : ℕ) (round : RoundRun) (is : IsRound script front round)
    (al : Aligned script lines 1 (script.sessions + script.workers) round.shares) where
  -- The moments of the round.
  abbrev moments : List Moment
  moments = round_moments script earlier number round

  -- The moments of the round stand one behind the other, after the events in front.
  are : AreMoments script front (round_moments script earlier number round)
  are = merged_are script (seats_of script) (all_seats_are script lines there number front earlier round is al) front round.made (calls_at script lines there number front earlier round is al)
      is.nobody_else (parted script lines there number front earlier round is al) (waits script lines there number front earlier round is al)

  -- The moments of the round have its events in their order.
  events : events_at (round_moments script earlier number round) ≡ round.made
  events = (moments_are_the_round (seats_of script) round.made (calls_at script lines there number front earlier round is al) (parted script lines there number front earlier round is al)).0

  -- The moments of the round have the printed replies of each session and worker.
  threads : (who : Who) → thread who (all_printed (shares_lined script.tables earlier number round.shares)) ≡ thread who (replies_at (round_moments script earlier number round))
  threads who = go (of_script script who)
    where
      go : ((q : ℕ) × Seat script q × (who ≡ who_at script q)) ⊎ IsStranger script who
          → thread who (all_printed (shares_lined script.tables earlier number round.shares)) ≡ thread who (replies_at (round_moments script earlier number round))
      go (inl h) =
          let low = h.1.0 in let high = h.1.1 in
          subst (λ w. thread w (all_printed (shares_lined script.tables earlier number round.shares)) ≡ thread w (replies_at (round_moments script earlier number round))) (sym h.2)
          (shares_kept script lines number 1 (script.sessions + script.workers) earlier round.shares h.0 al
          ∙ ap printed_in (sym ((moments_are_the_round (seats_of script) round.made (calls_at script lines there number front earlier round is al) (parted script lines there number front earlier round is al)).1 h.0
          (once 1 (script.sessions + script.workers) h.0 (omega (arith, low)) (omega (arith, high)))))
          ∙ sym (thread_of_seat script front h.0 (round_moments script earlier number round) are))
      go (inr out) =
          shares_dropped script lines number 1 (script.sessions + script.workers) earlier round.shares who al (λ q low high. out q (low, omega (arith, high)))
          ∙ sym (thread_of_stranger script front who (round_moments script earlier number round) out are)

  -- The replies of a round's moments are of that round.
  in_round : Each (λ entry. entry.reply.round ≡ number) (replies_at (round_moments script earlier number round))
  in_round = Each-timeline (λ entry. entry.reply.round ≡ number) (all_printed (shares_lined script.tables earlier number round.shares)) (replies_at (round_moments script earlier number round))
      threads (shares_in script lines number script.tables earlier round.shares)

-- Lists of agendas that are the same have the same first.
heads : (a b : List Agenda) (xs ys : List (List Agenda)) → a ∷ xs ≡ b ∷ ys → a ≡ b
heads a b xs ys e = cc

-- Lists of agendas that are the same are so without the first.
tails : (a b : List Agenda) (xs ys : List (List Agenda)) → a ∷ xs ≡ b ∷ ys → xs ≡ ys
tails a b xs ys e = cc

-- what holds of the moments of some rounds
record HaveRounds (script : Script) (front : List Occurrence) (earlier : List Entry) (number : ℕ) (rounds : List RoundRun) : Type 0 where
  are : AreMoments script front (moments_from script earlier number rounds)
  events : events_at (moments_from script earlier number rounds) ≡ flat_map (λ (round : RoundRun). round.made) rounds
  threads : (who : Who) → thread who (rounds_printed script.tables earlier number rounds) ≡ thread who (replies_at (moments_from script earlier number rounds))
  rises : Rises (replies_at (moments_from script earlier number rounds))
  later : Each (λ entry. number ≤ entry.reply.round) (replies_at (moments_from script earlier number rounds))

-- ---- facts of calls

-- A fact of each call that ends at some moments and at others is one of those at each.
ends_first : (script : Script) (P : Who → Call → Type 0) (xs ys : List Moment) → EachEnds script P (xs ++ ys) → EachEnds script P xs × EachEnds script P ys
ends_first script P [] ys each = (tt, each)
ends_first script P (x ∷ xs) ys each = let rest = ends_first script P xs ys each.1 in ((each.0, rest.0), rest.1)

-- A fact of each call that ends at the moments is one of each line at a seat.
ends_at_seat : (script : Script) (P : Who → Call → Type 0) (q : ℕ) (moments : List Moment) → EachEnds script P moments → (line : Lined) → Among line (lines_at q moments) → P (who_at script q) line.call
ends_at_seat script P q [] each line among = absurd among
ends_at_seat script P q (m ∷ ms) each line among = go (m.session == q) refl among (ends_at_seat script P q ms each.1 line)
  where
    here : m.session ≡ q → (o : Option Lined) → IfSome o (λ line. P (who_at script m.session) line.call) → Among line (cons_option o (lines_at q ms))
        → (Among line (lines_at q ms) → P (who_at script q) line.call) → P (who_at script q) line.call
    here same None is among rest = rest among
    here same (Some l) is (inl e) rest = subst (λ n. P (who_at script n) line.call) same (subst (λ (l : Lined). P (who_at script m.session) l.call) (sym e) is)
    here same (Some l) is (inr among) rest = rest among

    go : (b : Bool) → (m.session == q) ≡ b
        → Among line (filter_map (λ (moment : Moment). moment.line) (cond (m.session == q) (m ∷ filter (λ (moment : Moment). moment.session == q) ms) (filter (λ (moment : Moment). moment.session == q) ms)))
        → (Among line (lines_at q ms) → P (who_at script q) line.call) → P (who_at script q) line.call
    go true e among rest = here (grind (arith, nat_tests, e)) m.line each.0
        (subst (λ b. Among line (filter_map (λ (moment : Moment). moment.line) (cond b (m ∷ filter (λ (moment : Moment). moment.session == q) ms) (filter (λ (moment : Moment). moment.session == q) ms)))) e among) rest
    go false e among rest = rest
        (subst (λ b. Among line (filter_map (λ (moment : Moment). moment.line) (cond b (m ∷ filter (λ (moment : Moment). moment.session == q) ms) (filter (λ (moment : Moment). moment.session == q) ms)))) e among)

-- A fact of each of the lines of calls is one of each of the calls.
lined_each : (tables : List TableDecl) (P : Who → Call → Type 0) (w : Who) (earlier : List Entry) (number : ℕ) (who : Who) (calls : List Call)
    → ((line : Lined) → Among line (lined tables earlier number who calls) → P w line.call) → EachOf P w calls
lined_each tables P w earlier number who [] each = tt
lined_each tables P w earlier number who (call ∷ calls) each = (
  each (record { call = call; printed = printed_by tables earlier (due_of number who call) call.told }) (inl refl),
  lined_each tables P w (with_reply earlier (printed_by tables earlier (due_of number who call) call.told)) number who calls (λ line a. each line (inr a)),
)

-- Each of some lines is one of the calls that are pending for them.
pending_back : (line : Lined) (lines : List Lined) → Among line lines → Among line (lines_of (map pending_of lines))
pending_back line [] among = absurd among
pending_back line (l ∷ lines) (inl e) = inl e
pending_back line (l ∷ lines) (inr a) = inr (pending_back line lines a)

-- A fact of each line that is pending at its seat is one of each call of the shares.
shares_each : (script : Script) (asked_lines : List Line) (P : Who → Call → Type 0) (number a n : ℕ) (earlier : List Entry) (shares : List Share) → Aligned script asked_lines a n shares
    → ((q : ℕ) → a ≤ q → q < a + n → (line : Lined) → Among line (lines_of (pending_at (range_with_len a n) (shares_lined script.tables earlier number shares) q)) → P (who_at script q) line.call)
    → EachShare P shares
shares_each script asked_lines P number a zero earlier [] al each = tt
shares_each script asked_lines P number a zero earlier (share ∷ shares) al each = absurd al
shares_each script asked_lines P number a (suc n) earlier [] al each = absurd al
shares_each script asked_lines P number a (suc n) earlier (share ∷ shares) al each =
    let lines : List Lined = lined script.tables earlier number share.who share.calls in
    let more : List (List Lined) = shares_lined script.tables (earlier ++ printed_in lines) number shares in
    let same : (a == a) ≡ true = grind (arith, nat_tests) in (
      subst (λ w. EachOf P w share.calls) (sym al.0)
          (lined_each script.tables P (who_at script a) earlier number share.who share.calls
          (λ line among. each a (omega arith) (omega arith) line
          (subst (λ b. Among line (lines_of (cond b (map pending_of lines) (pending_at (range_with_len (a + 1) n) more a)))) (sym same) (pending_back line lines among)))),
      shares_each script asked_lines P number (a + 1) n (earlier ++ printed_in lines) shares al.2
          (λ q low high line among. each q (omega (arith, low)) (omega (arith, high)) line
          (subst (λ b. Among line (lines_of (cond b (map pending_of lines) (pending_at (range_with_len (a + 1) n) more q))))
          (let other : false ≡ (a == q) = grind (arith, nat_tests, low) in other) among)),
    )

-- The moments of rounds, one behind the other, have their events and printed replies.
have_rounds : (script : Script) (front : List Occurrence) (earlier : List Entry) (number : ℕ) (rounds : List RoundRun) (asked : List (List Line))
    → map (λ (round : RoundRun). map agenda_of round.shares) rounds ≡ map (agendas_in script) asked
    → ((lines : List Line) → Among lines asked → Among lines script.rounds)
    → AreRounds script front rounds → HaveRounds script front earlier number rounds
have_rounds script front earlier number [] asked e within are = record { are = tt; events = refl; threads = λ who. refl; rises = tt; later = tt }
have_rounds script front earlier number (round ∷ rounds) [] e within are = absurd (let never : ⊥ = cc e in never)
have_rounds script front earlier number (round ∷ rounds) (lines ∷ asked) e within are =
    let al = aligned script lines round.shares (heads (map agenda_of round.shares) (agendas_in script lines) (map (λ (round : RoundRun). map agenda_of round.shares) rounds) (map (agendas_in script) asked) e) in
    let printed : List Entry = all_printed (shares_lined script.tables earlier number round.shares) in
    let rest = have_rounds script (front ++ round.made) (earlier ++ printed) (number + 1) rounds asked
    (tails (map agenda_of round.shares) (agendas_in script lines) (map (λ (round : RoundRun). map agenda_of round.shares) rounds) (map (agendas_in script) asked) e) (λ other a. within other (inr a)) are.1 in
    let here : List Moment = round_moments script earlier number round in
    let more : List Moment = moments_from script (earlier ++ printed) (number + 1) rounds in
    let split : replies_at (here ++ more) ≡ replies_at here ++ replies_at more = filter_map-append reply_of here more in
    let there = within lines (inl refl) in
    let own = in_round script lines there front earlier number round are.0 al in
    let up : Each (λ entry. number ≤ entry.reply.round) (replies_at more) =
    Each-weaker (λ entry. number + 1 ≤ entry.reply.round) (λ entry. number ≤ entry.reply.round) (λ entry low. omega (arith, low)) (replies_at more) rest.later in
    record {
      are = with_events script front here more (Rattle.run_laws.proofs.Moments.Rounds.are script lines there front earlier number round are.0 al)
          (subst (λ es. AreMoments script (front ++ es) more) (sym (Rattle.run_laws.proofs.Moments.Rounds.events script lines there front earlier number round are.0 al)) rest.are);
      events = filter_map-append (λ (moment : Moment). moment.event) here more
          ∙ ap (λ es. es ++ events_at more) (Rattle.run_laws.proofs.Moments.Rounds.events script lines there front earlier number round are.0 al)
          ∙ ap (λ es. round.made ++ es) rest.events;
      threads = λ who.
          filter-append (λ (entry : Entry). is_same entry.reply.who who) printed (rounds_printed script.tables (earlier ++ printed) (number + 1) rounds)
          ∙ ap (λ es. es ++ thread who (rounds_printed script.tables (earlier ++ printed) (number + 1) rounds)) (Rattle.run_laws.proofs.Moments.Rounds.threads script lines there front earlier number round are.0 al who)
          ∙ ap (λ es. thread who (replies_at here) ++ es) (rest.threads who)
          ∙ sym (filter-append (λ (entry : Entry). is_same entry.reply.who who) (replies_at here) (replies_at more))
          ∙ ap (thread who) (sym split);
      rises = subst Rises (sym split) (rises_append number (replies_at here) (replies_at more) own up rest.rises);
      later = subst (Each (λ entry. number ≤ entry.reply.round)) (sym split)
          (Each-append (λ entry. number ≤ entry.reply.round) (replies_at here) (replies_at more)
          (Each-weaker (λ entry. entry.reply.round ≡ number) (λ entry. number ≤ entry.reply.round) (λ entry is. omega (arith, is)) (replies_at here) own) up);
    }

-- A run's moments have its events in order, and the printed replies of each session and worker.
pub runs_have_moments : RunsHaveMoments
runs_have_moments script log text ran =
    let all = have_rounds script [] [] 1 ran.rounds script.rounds ran.asked (λ lines a. a) ran.done in
    let threads : (who : Who) → thread who (printed_of script (told_in ran.rounds)) ≡ thread who (replies_at (moments_of script ran.rounds)) =
    λ who. ap (thread who) (printed_are script ran.rounds ran.asked) ∙ all.threads who in
    record {
      events = all.events ∙ sym ran.parted;
      threads = threads;
      order = in_order (replies_at (moments_of script ran.rounds)) all.rises
          (λ who. subst InOrder (threads who) (order-filter (λ entry. is_same entry.reply.who who) (printed_of script (told_in ran.rounds)) (printed-in-order script (told_in ran.rounds))));
      calls = all.are;
    }

-- A fact of each call that ends at the moments of rounds is one of each of their calls.
rounds_each : (script : Script) (P : Who → Call → Type 0) (front : List Occurrence) (earlier : List Entry) (number : ℕ) (rounds : List RoundRun) (asked : List (List Line))
    → map (λ (round : RoundRun). map agenda_of round.shares) rounds ≡ map (agendas_in script) asked
    → ((lines : List Line) → Among lines asked → Among lines script.rounds)
    → AreRounds script front rounds → EachEnds script P (moments_from script earlier number rounds) → EachCall P rounds
rounds_each script P front earlier number [] asked e within are each = tt
rounds_each script P front earlier number (round ∷ rounds) [] e within are each = absurd (let never : ⊥ = cc e in never)
rounds_each script P front earlier number (round ∷ rounds) (lines ∷ asked) e within are each =
    let al = aligned script lines round.shares (heads (map agenda_of round.shares) (agendas_in script lines) (map (λ (round : RoundRun). map agenda_of round.shares) rounds) (map (agendas_in script) asked) e) in
    let printed : List Entry = all_printed (shares_lined script.tables earlier number round.shares) in
    let there = within lines (inl refl) in
    let here : List Moment = round_moments script earlier number round in
    let more : List Moment = moments_from script (earlier ++ printed) (number + 1) rounds in
    let both = ends_first script P here more each in (
      shares_each script lines P number 1 (script.sessions + script.workers) earlier round.shares al
          (λ q low high line among. ends_at_seat script P q here both.0 line
          (subst (Among line) (sym ((moments_are_the_round (seats_of script) round.made (calls_at script lines there number front earlier round are.0 al) (parted script lines there number front earlier round are.0 al)).1 q
          (once 1 (script.sessions + script.workers) q low high))) among)),
      rounds_each script P (front ++ round.made) (earlier ++ printed) (number + 1) rounds asked
          (tails (map agenda_of round.shares) (agendas_in script lines) (map (λ (round : RoundRun). map agenda_of round.shares) rounds) (map (agendas_in script) asked) e)
          (λ other a. within other (inr a)) are.1 both.1,
    )

-- Each call of a run ends at one of its moments.
pub each_call : (script : Script) (log : List Rattle.run_spec.specs.Occurrences.Logged) (text : List ℕ) (ran : Rattle.run_spec.specs.Ran.Ran script log text) (P : Who → Call → Type 0)
    → EachEnds script P (moments_of script ran.rounds) → EachCall P ran.rounds
each_call script log text ran P each = rounds_each script P [] [] 1 ran.rounds script.rounds ran.asked (λ lines a. a) ran.done each
