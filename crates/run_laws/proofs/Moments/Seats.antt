-- Who stands at which seat, and each seat's share of a round.
use Rattle.std.proofs.Common.{◌≡◌, ◌≢◌, ◌⊎◌, ℕ, zero, suc, ◌+◌, ◌-◌, ◌<◌, ◌≤◌, nat_le, Bool, true, false, cond, ◌==◌, List, [], ◌∷◌, ◌++◌, map, Option, None, Some, refl, sym, ap, ◌∙◌, subst, arith}
use mathlib.Core.Logic.{inl, inr}
use Rattle.std.specs.Prelude.{All}
use Rattle.std.specs.List.{flat_map, range_with_len}
use Rattle.std.proofs.lemmas.Bool.Decides.{nat_tests}
use Rattle.std.proofs.lemmas.List.Elements.{All-cons, All-head, All-nil, All-tail}
use Rattle.cell_model.specs.declared.table.TableDecl.{TableDecl}
use Rattle.outcome_spec.specs.Entries.{Entry, is_same}
use Rattle.outcome_spec.specs.Forms.{commands_of, is_worker}
use Rattle.workload_spec.specs.declared.reply.Who.{Who}
use Rattle.workload_spec.specs.declared.reply.Who.TheVariants.{Session, Worker}
use Rattle.workload_spec.specs.declared.script.Line.{Line}
use Rattle.workload_spec.specs.declared.script.Script.{Script}
use Rattle.run_spec.specs.Calls.{AreCalls, Call}
use Rattle.run_spec.specs.Occurrences.{Occurrence, under}
use Rattle.run_spec.specs.Ran.{Agenda, IsDone, IsOfScript, IsRound, RoundRun, Share, agenda_of, agendas_in, session_of, shape_of, turns_of}
use Rattle.run_laws.proofs.Calls.Moments.{events_to_come}
use Rattle.run_laws.specs.Calls.Moments.{AreParted, Lined, Pending}
use Rattle.event_spec.specs.Lawful.{Among}
use Rattle.workload_spec.specs.declared.command.Command.{Command}
use Rattle.run_laws.specs.Moments.Laws.{IsAsked, IsPrinted, commands_at}
use Rattle.run_laws.specs.Moments.Moments.{due_of, lined, pending_at, pending_of, printed_by, printed_in, seats_of, shares_lined, who_at, with_reply}
use Rattle.run_laws.proofs.Moments.Standing.{Awaits, Waits}

-- the number is the seat of a session or a worker of the script
abbrev pub Seat : Script → ℕ → Type 0
Seat script seat = (1 ≤ seat) × (seat ≤ script.sessions + script.workers)

-- ---- who stands at a seat

-- the first seats are those of the sessions
pub session_at : (script : Script) (q : ℕ) → q ≤ script.sessions → who_at script q ≡ Session q
session_at script q low = ap (λ b. cond b (Session q) (Worker (q - script.sessions))) (let e : nat_le q script.sessions ≡ true = grind (arith, nat_tests, low) in e)

-- and the others those of the workers
pub worker_at : (script : Script) (q : ℕ) → script.sessions < q → who_at script q ≡ Worker (q - script.sessions)
worker_at script q high = ap (λ b. cond b (Session q) (Worker (q - script.sessions))) (let e : nat_le q script.sessions ≡ false = grind (arith, nat_tests, high) in e)

-- a seat is one of these or of those
pub either : (script : Script) (q : ℕ) → (q ≤ script.sessions) ⊎ (script.sessions < q)
either script q = go (nat_le q script.sessions) refl
  where
    go : (b : Bool) → nat_le q script.sessions ≡ b → (q ≤ script.sessions) ⊎ (script.sessions < q)
    go true e = inl (grind (arith, nat_tests, e))
    go false e = inr (grind (arith, nat_tests, e))

-- its number is the seat
pub stands_at : (script : Script) (q : ℕ) → session_of script (who_at script q) ≡ q
stands_at script q = go (either script q)
  where
    go : (q ≤ script.sessions) ⊎ (script.sessions < q) → session_of script (who_at script q) ≡ q
    go (inl low) = ap (session_of script) (session_at script q low)
    go (inr high) = ap (session_of script) (worker_at script q high) ∙ omega (arith, high)

-- two seats of one session or worker are one
pub same_seat : (script : Script) (q r : ℕ) → is_same (who_at script q) (who_at script r) ≡ true → q ≡ r
same_seat script q r e =
    sym (stands_at script q)
    ∙ ap (session_of script) (Rattle.timeline_laws.proofs.Order.same-is (who_at script q) (who_at script r) e)
    ∙ stands_at script r

-- ---- the shares stand in the order of the seats

-- the shares are those of the seats from a number on, with what each is asked
abbrev pub Aligned : Script → List Line → ℕ → ℕ → List Share → Type 0
Aligned script lines a zero [] = Unit {0}
Aligned script lines a zero (share ∷ shares) = ⊥
Aligned script lines a (suc n) [] = ⊥
Aligned script lines a (suc n) (share ∷ shares) =
    (share.who ≡ who_at script a)
    × (map (λ (call : Call). call.command) share.calls ≡ commands_at script lines a)
    × Aligned script lines (a + 1) n shares

-- Lists of agendas that are the same have the same first.
heads : (a b : Agenda) (xs ys : List Agenda) → a ∷ xs ≡ b ∷ ys → a ≡ b
heads a b xs ys e = cc

-- Lists of agendas that are the same are so without the first.
tails : (a b : Agenda) (xs ys : List Agenda) → a ∷ xs ≡ b ∷ ys → xs ≡ ys
tails a b xs ys e = cc

-- An empty list of agendas has no first one.
none_some : (a : Agenda) (xs : List Agenda) → [] ≡ a ∷ xs → ⊥
none_some a xs e = cc

-- A list of agendas with a first is not empty.
some_none : (a : Agenda) (xs : List Agenda) → a ∷ xs ≡ [] → ⊥
some_none a xs e = cc

module _ (script : Script) (lines : List Line) where
  -- A session's agenda for these lines: its commands among them.
  abbrev session_agenda : ℕ → Agenda
  session_agenda session = record { who = Session session; commands = commands_of session lines }

  -- A worker's agenda: the turns of the script.
  abbrev worker_agenda : ℕ → Agenda
  worker_agenda worker = record { who = Worker worker; commands = turns_of script }

  -- Shares with the agendas of the workers are those of the workers' seats.
  workers_aligned : (a n seat : ℕ) (shares : List Share) → 1 ≤ a → seat ≡ script.sessions + a
      → map agenda_of shares ≡ map worker_agenda (range_with_len a n) → Aligned script lines seat n shares
  workers_aligned a zero seat [] low is e = tt
  workers_aligned a zero seat (share ∷ shares) low is e = absurd (some_none (agenda_of share) (map agenda_of shares) e)
  workers_aligned a (suc n) seat [] low is e = absurd (none_some (worker_agenda a) (map worker_agenda (range_with_len (a + 1) n)) e)
  workers_aligned a (suc n) seat (share ∷ shares) low is e = (
    ap (λ (g : Agenda). g.who) (heads (agenda_of share) (worker_agenda a) (map agenda_of shares) (map worker_agenda (range_with_len (a + 1) n)) e)
        ∙ ap Worker (let minus : a ≡ seat - script.sessions = omega (arith, is) in minus)
        ∙ sym (worker_at script seat (omega (arith, is, low))),
    ap (λ (g : Agenda). g.commands) (heads (agenda_of share) (worker_agenda a) (map agenda_of shares) (map worker_agenda (range_with_len (a + 1) n)) e)
        ∙ ap (λ b. cond b (commands_of seat lines) (turns_of script)) (let f : false ≡ nat_le seat script.sessions = grind (arith, nat_tests, is, low) in f),
    workers_aligned (a + 1) n (seat + 1) shares (omega (arith, low)) (omega (arith, is))
        (tails (agenda_of share) (worker_agenda a) (map agenda_of shares) (map worker_agenda (range_with_len (a + 1) n)) e),
  )

  -- Shares with the sessions' agendas, and others behind, are those of the seats in order.
  sessions_aligned : (a n : ℕ) (shares : List Share) (rest : List Agenda) (m : ℕ) → 1 ≤ a → a + n ≡ script.sessions + 1
      → ((left : List Share) → map agenda_of left ≡ rest → Aligned script lines (a + n) m left)
      → map agenda_of shares ≡ map session_agenda (range_with_len a n) ++ rest → Aligned script lines a (n + m) shares
  sessions_aligned a zero shares rest m low is more e =
      subst (λ k. Aligned script lines a k shares) (let z : m ≡ zero + m = omega arith in z)
      (subst (λ k. Aligned script lines k m shares) (let z : a + zero ≡ a = omega arith in z) (more shares e))
  sessions_aligned a (suc n) [] rest m low is more e =
      absurd (none_some (session_agenda a) (map session_agenda (range_with_len (a + 1) n) ++ rest) e)
  sessions_aligned a (suc n) (share ∷ shares) rest m low is more e =
      subst (λ k. Aligned script lines a k (share ∷ shares)) (let z : suc (n + m) ≡ suc n + m = omega arith in z) (
        ap (λ (g : Agenda). g.who) (heads (agenda_of share) (session_agenda a) (map agenda_of shares) (map session_agenda (range_with_len (a + 1) n) ++ rest) e)
            ∙ sym (session_at script a (omega (arith, is))),
        ap (λ (g : Agenda). g.commands) (heads (agenda_of share) (session_agenda a) (map agenda_of shares) (map session_agenda (range_with_len (a + 1) n) ++ rest) e)
            ∙ ap (λ b. cond b (commands_of a lines) (turns_of script)) (let f : true ≡ nat_le a script.sessions = grind (arith, nat_tests, is) in f),
        sessions_aligned (a + 1) n shares rest m (omega (arith, low)) (omega (arith, is))
            (λ left l. subst (λ k. Aligned script lines k m left) (let z : a + suc n ≡ (a + 1) + n = omega arith in z) (more left l))
            (tails (agenda_of share) (session_agenda a) (map agenda_of shares) (map session_agenda (range_with_len (a + 1) n) ++ rest) e),
      )

  -- a round's shares are those of all seats
  pub aligned : (shares : List Share) → map agenda_of shares ≡ agendas_in script lines
      → Aligned script lines 1 (script.sessions + script.workers) shares
  aligned shares e = sessions_aligned 1 script.sessions shares (map worker_agenda (range_with_len 1 script.workers)) script.workers
      (omega arith) (omega arith)
      (λ left l. workers_aligned 1 script.workers (1 + script.sessions) left (omega arith) (omega arith) l) e

-- ---- what waits at a seat

-- the share at a seat, lined behind some printed replies
pub record ShareAt (script : Script) (lines : List Line) (number : ℕ) (front made : List Occurrence) (q : ℕ) (calls : List Pending) : Type 0 where
  pub share : Share
  pub earlier : List Entry
  pub who_is : share.who ≡ who_at script q
  pub asked : map (λ (call : Call). call.command) share.calls ≡ commands_at script lines q
  pub done : IsDone script front made share
  pub is : calls ≡ map pending_of (lined script.tables earlier number share.who share.calls)

-- Numbers that are not the same fail the test for equality.
test_other : (r q : ℕ) → (r ≡ q → ⊥) → (r == q) ≡ false
test_other r q ne = go (r == q) refl
  where
    go : (b : Bool) → (r == q) ≡ b → (r == q) ≡ false
    go true e = absurd (ne (grind (arith, nat_tests, e)))
    go false e = e

module _ (script : Script) (asked_lines : List Line) (number : ℕ) (front made : List Occurrence) where
  -- What is pending at a seat of the shares is its share, lined.
  share_at : (a n : ℕ) (earlier : List Entry) (shares : List Share) (q : ℕ) → Aligned script asked_lines a n shares → All (IsDone script front made) shares
      → a ≤ q → q < a + n
      → ShareAt script asked_lines number front made q (pending_at (range_with_len a n) (shares_lined script.tables earlier number shares) q)
  share_at a zero earlier shares q al all low high = absurd (let never : ⊥ = omega (arith, low, high) in never)
  share_at a (suc n) earlier [] q al all low high = absurd al
  share_at a (suc n) earlier (share ∷ shares) q al all low high = go (a == q) refl
      (λ ne. share_at (a + 1) n (earlier ++ printed_in (lined script.tables earlier number share.who share.calls)) shares q al.2
      (All-tail (IsDone script front made) share shares all) (omega (arith, low, ne)) (omega (arith, high)))
    where
      lines : List Lined
      lines = lined script.tables earlier number share.who share.calls

      more : List (List Lined)
      more = shares_lined script.tables (earlier ++ printed_in lines) number shares

      go : (b : Bool) → (a == q) ≡ b
          → (a ≢ q → ShareAt script asked_lines number front made q (pending_at (range_with_len (a + 1) n) (shares_lined script.tables (earlier ++ printed_in (lined script.tables earlier number share.who share.calls)) number shares) q))
          → ShareAt script asked_lines number front made q (pending_at (range_with_len a (suc n)) (shares_lined script.tables earlier number (share ∷ shares)) q)
      go true e rest = record {
        share = share;
        earlier = earlier;
        who_is = al.0 ∙ ap (who_at script) (let same : a ≡ q = grind (arith, nat_tests, e) in same);
        asked = al.1 ∙ ap (commands_at script asked_lines) (let same : a ≡ q = grind (arith, nat_tests, e) in same);
        done = All-head (IsDone script front made) share shares all;
        is = ap (λ b. cond b (map pending_of lines) (pending_at (range_with_len (a + 1) n) more q)) e;
      }
      go false e rest =
          let r = rest (λ same. absurd (let never : ⊥ = grind (arith, nat_tests, e, same) in never)) in record {
            share = r.share;
            earlier = r.earlier;
            who_is = r.who_is;
            asked = r.asked;
            done = r.done;
            is = ap (λ b. cond b (map pending_of lines) (pending_at (range_with_len (a + 1) n) more q)) e ∙ r.is;
          }

-- no share is at another number
pub none_at : (a n : ℕ) (shares : List (List Lined)) (q : ℕ) → (q < a) ⊎ (a + n ≤ q) → pending_at (range_with_len a n) shares q ≡ []
none_at a zero shares q out = refl
none_at a (suc n) [] q out = refl
none_at a (suc n) (lines ∷ shares) q out =
    ap (λ b. cond b (map pending_of lines) (pending_at (range_with_len (a + 1) n) shares q)) (test_other a q (ne out))
    ∙ none_at (a + 1) n shares q (further out)
  where
    ne : (q < a) ⊎ (a + suc n ≤ q) → a ≡ q → ⊥
    ne (inl less) e = absurd (let never : ⊥ = omega (arith, less, e) in never)
    ne (inr more) e = absurd (let never : ⊥ = omega (arith, more, e) in never)

    further : (q < a) ⊎ (a + suc n ≤ q) → (q < a + 1) ⊎ ((a + 1) + n ≤ q)
    further (inl less) = inl (omega (arith, less))
    further (inr more) = inr (omega (arith, more))

-- the calls of a share have its events
pub lined_events : (tables : List TableDecl) (earlier : List Entry) (number : ℕ) (who : Who) (calls : List Call)
    → events_to_come (map pending_of (lined tables earlier number who calls)) ≡ flat_map (λ (call : Call). call.made) calls
lined_events tables earlier number who [] = refl
lined_events tables earlier number who (call ∷ calls) =
    ap (λ es. call.made ++ es) (lined_events tables (with_reply earlier (printed_by tables earlier (due_of number who call) call.told)) number who calls)

-- The reply that is printed by what a call told is the call's.
printed_is : (tables : List TableDecl) (earlier : List Entry) (number : ℕ) (who : Who) (call : Call)
    → IsPrinted who call (printed_by tables earlier (due_of number who call) call.told)
printed_is tables earlier number who call = go call.told refl
  where
    go : (told : Option Rattle.workload_spec.specs.declared.reply.Said.Said) → call.told ≡ told → IsPrinted who call (printed_by tables earlier (due_of number who call) told)
    go None e = e
    go (Some said) e = (e, refl, refl)

-- The lined calls of one seat wait to end behind what it made before.
lined_await : (script : Script) (q : ℕ) (number : ℕ) (earlier : List Entry) (began : List Occurrence) (calls : List Call)
    → AreCalls (shape_of script) (is_worker (who_at script q)) q began calls
    → ((asked : Command) → Among asked (map (λ (call : Call). call.command) calls) → IsAsked script q asked)
    → Awaits script q began [] (map pending_of (lined script.tables earlier number (who_at script q) calls))
lined_await script q number earlier began [] are asked = tt
lined_await script q number earlier began (call ∷ calls) are asked = (
  refl,
  are.0,
  printed_is script.tables earlier number (who_at script q) call,
  λ none. refl,
  asked call.command (inl refl),
  lined_await script q number
      (with_reply earlier (printed_by script.tables earlier (due_of number (who_at script q) call) call.told))
      (began ++ call.made) calls are.1 (λ command a. asked command (inr a)),
)

-- ---- a round

module _ (script : Script) (lines : List Line) (there : Among lines script.rounds) (number : ℕ) (front : List Occurrence) (earlier : List Entry) (round : RoundRun) (is : IsRound script front round)
    (al : Aligned script lines 1 (script.sessions + script.workers) round.shares) where
  -- the calls of the round at a seat
  abbrev pub calls_at : ℕ → List Pending
  calls_at = pending_at (seats_of script) (shares_lined script.tables earlier number round.shares)

  -- Each seat has its share of the round.
  inside : (q : ℕ) → Seat script q → ShareAt script lines number front round.made q (calls_at q)
  inside q s = let low = s.0 in let high = s.1 in
      share_at script lines number front round.made 1 (script.sessions + script.workers) earlier round.shares q al is.done (omega (arith, low)) (omega (arith, high))

  -- A number is a seat, or it is below or above all seats.
  seat_or : (q : ℕ) → Seat script q ⊎ ((q < 1) ⊎ (1 + (script.sessions + script.workers) ≤ q))
  seat_or q = go (nat_le 1 q) (nat_le q (script.sessions + script.workers)) refl refl
    where
      go : (a b : Bool) → nat_le 1 q ≡ a → nat_le q (script.sessions + script.workers) ≡ b → Seat script q ⊎ ((q < 1) ⊎ (1 + (script.sessions + script.workers) ≤ q))
      go true true e f = inl (grind (arith, nat_tests, e), grind (arith, nat_tests, f))
      go true false e f = inr (inr (grind (arith, nat_tests, f)))
      go false b e f = inr (inl (grind (arith, nat_tests, e)))

  -- At a number that is no seat no event was made.
  nobody : (q : ℕ) → (q < 1) ⊎ (1 + (script.sessions + script.workers) ≤ q) → (made : List Occurrence) → All (IsOfScript script) made → under q made ≡ []
  nobody q out [] all = refl
  nobody q out (o ∷ made) all =
      let h = All-head (IsOfScript script) o made all in
      let low = h.0 in let high = h.1 in
      ap (λ b. cond b (o ∷ under q made) (under q made)) (test_other o.session q (ne low high out)) ∙ nobody q out made (All-tail (IsOfScript script) o made all)
    where
      ne : 1 ≤ o.session → o.session ≤ script.sessions + script.workers → (q < 1) ⊎ (1 + (script.sessions + script.workers) ≤ q) → o.session ≡ q → ⊥
      ne low high (inl less) e = absurd (let never : ⊥ = omega (arith, low, less, e) in never)
      ne low high (inr more) e = absurd (let never : ⊥ = omega (arith, high, more, e) in never)

  -- the events of the round are parted into those of the calls at each seat
  pub parted : AreParted round.made calls_at
  parted q = go (seat_or q)
    where
      go : Seat script q ⊎ ((q < 1) ⊎ (1 + (script.sessions + script.workers) ≤ q)) → under q round.made ≡ events_to_come (calls_at q)
      go (inl s) =
          let at = inside q s in
          ap (λ n. under n round.made) (sym (stands_at script q) ∙ ap (session_of script) (sym at.who_is))
          ∙ at.done.events
          ∙ sym (lined_events script.tables at.earlier number at.share.who at.share.calls)
          ∙ ap events_to_come (sym at.is)
      go (inr out) =
          nobody q out round.made is.nobody_else
          ∙ ap events_to_come (sym (none_at 1 (script.sessions + script.workers) (shares_lined script.tables earlier number round.shares) q out))

  -- at each seat its calls of the round wait behind what its session or worker made before
  pub waits : (q : ℕ) → Waits script q front (calls_at q)
  waits q = go (seat_or q)
    where
      go : Seat script q ⊎ ((q < 1) ⊎ (1 + (script.sessions + script.workers) ≤ q)) → Waits script q front (calls_at q)
      go (inl s) =
          let at = inside q s in
          let seat : session_of script at.share.who ≡ q = ap (session_of script) at.who_is ∙ stands_at script q in
          let calls : AreCalls (shape_of script) (is_worker (who_at script q)) q (under q front) at.share.calls =
          subst (λ w. AreCalls (shape_of script) (is_worker w) q (under q front) at.share.calls) at.who_is
          (subst (λ n. AreCalls (shape_of script) (is_worker at.share.who) n (under n front) at.share.calls) seat at.done.calls) in
          record {
            began = under q front;
            done = [];
            behind = sym (Rattle.std.proofs.Common.append-nil (under q front));
            awaits = subst (Awaits script q (under q front) [])
                (ap (λ w. map pending_of (lined script.tables at.earlier number w at.share.calls)) (sym at.who_is) ∙ sym at.is)
                (lined_await script q number at.earlier (under q front) at.share.calls calls
                (λ command a. (lines, there, subst (Among command) at.asked a)));
          }
      go (inr out) = record {
        began = under q front;
        done = [];
        behind = sym (Rattle.std.proofs.Common.append-nil (under q front));
        awaits = subst (Awaits script q (under q front) [])
            (sym (none_at 1 (script.sessions + script.workers) (shares_lined script.tables earlier number round.shares) q out)) tt;
      }

  -- each of the script's seats is one
  pub all_seats_are : All (Seat script) (seats_of script)
  all_seats_are = go 1 (script.sessions + script.workers) (omega arith) (omega arith)
    where
      go : (a n : ℕ) → 1 ≤ a → a + n ≤ 1 + (script.sessions + script.workers) → All (Seat script) (range_with_len a n)
      go a zero low high = All-nil (Seat script)
      go a (suc n) low high = All-cons (Seat script) a (range_with_len (a + 1) n) (low, omega (arith, high)) (go (a + 1) n (omega (arith, low)) (omega (arith, high)))
