-- The replies that are due stand in order.
use Rattle.std.proofs.Common.{◌≡◌, ℕ, ◌+◌, zero, suc, Bool, true, false, ◌&&◌, ◌||◌, not, eqb, nat_lt, nat_le, List, [], ◌∷◌, ◌++◌, refl, sym, ◌∙◌, subst, arith}
use Rattle.std.specs.Prelude.{flat_map}
use Rattle.std.specs.List.{list_all, range_with_len, enumerate_from}
use Rattle.std.proofs.lemmas.Bool.{and_parts, and_from, or_left, or_right}
use Rattle.std.proofs.lemmas.Bool.Decides.{nat_tests}
use Rattle.std.proofs.lemmas.List.Folds.{list_all-append}
use Rattle.cell_model.specs.declared.table.TableDecl.{TableDecl}
use Rattle.workload_spec.specs.declared.command.Command.{Command}
use Rattle.workload_spec.specs.declared.command.Command.TheVariants as command
use Rattle.workload_spec.specs.declared.reply.Who.{Who}
use Rattle.workload_spec.specs.declared.reply.Who.TheVariants.{Session, Worker}
use Rattle.workload_spec.specs.declared.script.Line.{Line}
use Rattle.workload_spec.specs.declared.script.Script.{Script}
use Rattle.outcome_spec.specs.Entries.{is_same}
use Rattle.outcome_spec.specs.Forms.{Due, dues_to, dues_in, dues_of, turn_of, commands_of, is_upkeep, is_worker}
use Rattle.order_laws.specs.Places.{is_earlier, is_up_to}
use Rattle.order_laws.proofs.Places.{same-is}
use Rattle.order_laws.proofs.Pieces.{all-weaker}
use Rattle.order_laws.proofs.Order.{same-itself}

-- what is due to one in a round is due in front of, or with, what is due to another
abbrev pub is_ahead_of : ℕ → Who → Due → Bool
is_ahead_of round who due = nat_lt round due.round || eqb round due.round && is_up_to who due.who

-- each of the dues is ahead of all behind it
abbrev pub DuesRise : List Due → Type 0
DuesRise [] = Unit {0}
DuesRise (due ∷ dues) = (list_all (is_ahead_of due.round due.who) dues ≡ true) × DuesRise dues

-- Where all of two lists pass a test, all of both in a row do.
all-append : {X : Type 0} (p : X → Bool) (a b : List X) → list_all p a ≡ true → list_all p b ≡ true → list_all p (a ++ b) ≡ true
all-append p a b h k = list_all-append p a b ∙ and_from (list_all p a) (list_all p b) h k

-- Dues of two lists rise in a row where each of the first is ahead of the second.
rise-append : (a b : List Due) → DuesRise a → DuesRise b → list_all (λ d. list_all (is_ahead_of d.round d.who) b) a ≡ true → DuesRise (a ++ b)
rise-append [] b h k cross = k
rise-append (d ∷ a) b h k cross =
    let parts = and_parts (list_all (is_ahead_of d.round d.who) b) (list_all (λ x. list_all (is_ahead_of x.round x.who) b) a) cross in
    (all-append (is_ahead_of d.round d.who) a b h.0 parts.0, rise-append a b h.1 k parts.1)

-- ---- to one in a round

-- What is due is of this round and to this one.
abbrev is_to : ℕ → Who → Due → Bool
is_to round who due = eqb due.round round && is_same due.who who

-- All that is due to one in a round is of this round and to this one.
all-to : (round : ℕ) (who : Who) (commands : List Command) → list_all (is_to round who) (dues_to round who commands) ≡ true
all-to round who [] = refl
all-to round who (asked ∷ commands) =
    let equal : eqb round round ≡ true = grind (arith, nat_tests) in
    and_from (eqb round round && is_same who who) (list_all (is_to round who) (dues_to round who commands)) (and_from (eqb round round) (is_same who who) equal (same-itself who)) (all-to round who commands)

-- those of a round, to one at or behind another
ahead-by : (round : ℕ) (who : Who) (due : Due) → eqb due.round round ≡ true → is_up_to who due.who ≡ true → is_ahead_of round who due ≡ true
ahead-by round who due h k =
    or_right (nat_lt round due.round) (eqb round due.round && is_up_to who due.who)
    (and_from (eqb round due.round) (is_up_to who due.who) (let e : eqb round due.round ≡ true = grind (arith, nat_tests, h) in e) k)

-- What is due to one in a round is behind or with what is due to that one.
to-ahead : (round : ℕ) (who : Who) (due : Due) → is_to round who due ≡ true → is_ahead_of round who due ≡ true
to-ahead round who due h =
    let parts = and_parts (eqb due.round round) (is_same due.who who) h in
    let same : is_up_to who due.who ≡ true = or_right (is_earlier who due.who) (is_same who due.who) (subst (λ (w : Who). is_same who w ≡ true) (sym (same-is due.who who parts.1)) (same-itself who)) in
    ahead-by round who due parts.0 same

-- What is due to one in a round stands in order.
rise-to : (round : ℕ) (who : Who) (commands : List Command) → DuesRise (dues_to round who commands)
rise-to round who [] = tt
rise-to round who (asked ∷ commands) =
    (all-weaker (is_to round who) (is_ahead_of round who) (to-ahead round who) (dues_to round who commands) (all-to round who commands), rise-to round who commands)

-- ---- to sessions in a round, and to workers

-- It is a session from this number on.
abbrev from_session : ℕ → Who → Bool
from_session first (Session n) = nat_le first n
from_session first (Worker n) = false

-- It is a worker from this number on.
abbrev from_worker : ℕ → Who → Bool
from_worker first (Session n) = false
from_worker first (Worker n) = nat_le first n

-- What is due is of this round and to one of those chosen.
abbrev is_within_round : (Who → Bool) → ℕ → Due → Bool
is_within_round chosen round due = eqb due.round round && chosen due.who

-- of one number on, those of the next on are part
session-later : (a : ℕ) (who : Who) → from_session (a + 1) who ≡ true → from_session a who ≡ true
session-later a (Session n) h = grind (arith, nat_tests, h)
session-later a (Worker n) h = h

-- A worker from the next number on is one from this number on.
worker-later : (a : ℕ) (who : Who) → from_worker (a + 1) who ≡ true → from_worker a who ≡ true
worker-later a (Session n) h = h
worker-later a (Worker n) h = grind (arith, nat_tests, h)

-- A session is one from its own number on.
session-own : (a : ℕ) (who : Who) → is_same who (Session a) ≡ true → from_session a who ≡ true
session-own a (Session n) h = grind (arith, nat_tests, h)
session-own a (Worker n) h = absurd (let never : ⊥ = cc in never)

-- A worker is one from its own number on.
worker-own : (a : ℕ) (who : Who) → is_same who (Worker a) ≡ true → from_worker a who ≡ true
worker-own a (Session n) h = absurd (let never : ⊥ = cc in never)
worker-own a (Worker n) h = grind (arith, nat_tests, h)

-- A session stands in front of the sessions from the next number on.
session-behind : (a : ℕ) (who : Who) → from_session (a + 1) who ≡ true → is_up_to (Session a) who ≡ true
session-behind a (Session n) h = or_left (nat_lt a n) (eqb a n) (grind (arith, nat_tests, h))
session-behind a (Worker n) h = refl

-- A worker stands in front of the workers from the next number on.
worker-behind : (a : ℕ) (who : Who) → from_worker (a + 1) who ≡ true → is_up_to (Worker a) who ≡ true
worker-behind a (Session n) h = absurd (let never : ⊥ = cc in never)
worker-behind a (Worker n) h = or_left (nat_lt a n) (eqb a n) (grind (arith, nat_tests, h))

-- What is due in a round to some is due to more than these.
within-weaker : (p q : Who → Bool) → ((who : Who) → p who ≡ true → q who ≡ true) → (round : ℕ) (dues : List Due) → list_all (is_within_round p round) dues ≡ true → list_all (is_within_round q round) dues ≡ true
within-weaker p q so round dues h =
    all-weaker (is_within_round p round) (is_within_round q round)
    (λ d k. let parts = and_parts (eqb d.round round) (p d.who) k in and_from (eqb d.round round) (q d.who) parts.0 (so d.who parts.1)) dues h

-- what is due to one, in front of what is due to those behind
cross-to : (round : ℕ) (who : Who) (behind : Who → Bool) → ((other : Who) → behind other ≡ true → is_up_to who other ≡ true) → (later : List Due) → list_all (is_within_round behind round) later ≡ true
    → (dues : List Due) → list_all (is_to round who) dues ≡ true → list_all (λ d. list_all (is_ahead_of d.round d.who) later) dues ≡ true
cross-to round who behind so later h [] k = refl
cross-to round who behind so later h (d ∷ dues) k =
    let parts = and_parts (is_to round who d) (list_all (is_to round who) dues) k in
    let its = and_parts (eqb d.round round) (is_same d.who who) parts.0 in
    let round_is : d.round ≡ round = grind (arith, nat_tests, its.0) in
    let who_is = same-is d.who who its.1 in
    let ahead : list_all (is_ahead_of round who) later ≡ true =
    all-weaker (is_within_round behind round) (is_ahead_of round who)
    (λ x m. let both = and_parts (eqb x.round round) (behind x.who) m in ahead-by round who x both.0 (so x.who both.1)) later h in
    let mine : list_all (is_ahead_of d.round d.who) later ≡ true =
    subst (λ (w : Who). list_all (is_ahead_of d.round w) later ≡ true) (sym who_is) (subst (λ (r : ℕ). list_all (is_ahead_of r who) later ≡ true) (sym round_is) ahead) in
    and_from (list_all (is_ahead_of d.round d.who) later) (list_all (λ x. list_all (is_ahead_of x.round x.who) later) dues) mine (cross-to round who behind so later h dues parts.1)

-- What is due to one in a round is due to those among whom that one is.
to-within : (p : Who → Bool) (who : Who) → ((other : Who) → is_same other who ≡ true → p other ≡ true) → (round : ℕ) (dues : List Due) → list_all (is_to round who) dues ≡ true → list_all (is_within_round p round) dues ≡ true
to-within p who so round dues h =
    all-weaker (is_to round who) (is_within_round p round) (λ d k. let parts = and_parts (eqb d.round round) (is_same d.who who) k in and_from (eqb d.round round) (p d.who) parts.0 (so d.who parts.1)) dues h

module _ (round : ℕ) (asked : ℕ → List Command) where
  -- what is due to the sessions from one on stands in order, all of the round
  pub sessions-from : (a n : ℕ) → DuesRise (flat_map (λ s. dues_to round (Session s) (asked s)) (range_with_len a n)) × (list_all (is_within_round (from_session a) round) (flat_map (λ s. dues_to round (Session s) (asked s)) (range_with_len a n)) ≡ true)
  sessions-from a zero = (tt, refl)
  sessions-from a (suc n) =
      let rest = sessions-from (a + 1) n in
      let own = all-to round (Session a) (asked a) in (
        rise-append (dues_to round (Session a) (asked a)) (flat_map (λ s. dues_to round (Session s) (asked s)) (range_with_len (a + 1) n)) (rise-to round (Session a) (asked a)) rest.0
            (cross-to round (Session a) (from_session (a + 1)) (session-behind a) (flat_map (λ s. dues_to round (Session s) (asked s)) (range_with_len (a + 1) n)) rest.1 (dues_to round (Session a) (asked a)) own),
        all-append (is_within_round (from_session a) round) (dues_to round (Session a) (asked a)) (flat_map (λ s. dues_to round (Session s) (asked s)) (range_with_len (a + 1) n))
            (to-within (from_session a) (Session a) (session-own a) round (dues_to round (Session a) (asked a)) own)
            (within-weaker (from_session (a + 1)) (from_session a) (session-later a) round (flat_map (λ s. dues_to round (Session s) (asked s)) (range_with_len (a + 1) n)) rest.1),
      )

  -- what is due to the workers from one on stands in order, all of the round
  pub workers-from : (a n : ℕ) → DuesRise (flat_map (λ w. dues_to round (Worker w) (asked w)) (range_with_len a n)) × (list_all (is_within_round (from_worker a) round) (flat_map (λ w. dues_to round (Worker w) (asked w)) (range_with_len a n)) ≡ true)
  workers-from a zero = (tt, refl)
  workers-from a (suc n) =
      let rest = workers-from (a + 1) n in
      let own = all-to round (Worker a) (asked a) in (
        rise-append (dues_to round (Worker a) (asked a)) (flat_map (λ s. dues_to round (Worker s) (asked s)) (range_with_len (a + 1) n)) (rise-to round (Worker a) (asked a)) rest.0
            (cross-to round (Worker a) (from_worker (a + 1)) (worker-behind a) (flat_map (λ s. dues_to round (Worker s) (asked s)) (range_with_len (a + 1) n)) rest.1 (dues_to round (Worker a) (asked a)) own),
        all-append (is_within_round (from_worker a) round) (dues_to round (Worker a) (asked a)) (flat_map (λ s. dues_to round (Worker s) (asked s)) (range_with_len (a + 1) n))
            (to-within (from_worker a) (Worker a) (worker-own a) round (dues_to round (Worker a) (asked a)) own)
            (within-weaker (from_worker (a + 1)) (from_worker a) (worker-later a) round (flat_map (λ s. dues_to round (Worker s) (asked s)) (range_with_len (a + 1) n)) rest.1),
      )

-- ---- round by round

-- Every session stands in front of every worker.
session-worker : (a b : Who) → from_session 1 a ≡ true → from_worker 1 b ≡ true → is_up_to a b ≡ true
session-worker (Session a) (Session b) h k = absurd (let never : ⊥ = cc in never)
session-worker (Session a) (Worker b) h k = refl
session-worker (Worker a) b h k = absurd (let never : ⊥ = cc in never)

-- those of a round to sessions, in front of those to workers
cross-kinds : (round : ℕ) (later : List Due) → list_all (is_within_round (from_worker 1) round) later ≡ true
    → (dues : List Due) → list_all (is_within_round (from_session 1) round) dues ≡ true → list_all (λ d. list_all (is_ahead_of d.round d.who) later) dues ≡ true
cross-kinds round later h [] k = refl
cross-kinds round later h (d ∷ dues) k =
    let parts = and_parts (is_within_round (from_session 1) round d) (list_all (is_within_round (from_session 1) round) dues) k in
    let its = and_parts (eqb d.round round) (from_session 1 d.who) parts.0 in
    let round_is : d.round ≡ round = grind (arith, nat_tests, its.0) in
    let ahead : list_all (is_ahead_of round d.who) later ≡ true =
    all-weaker (is_within_round (from_worker 1) round) (is_ahead_of round d.who)
    (λ x m. let both = and_parts (eqb x.round round) (from_worker 1 x.who) m in ahead-by round d.who x both.0 (session-worker d.who x.who its.1 both.1)) later h in
    and_from (list_all (is_ahead_of d.round d.who) later) (list_all (λ x. list_all (is_ahead_of x.round x.who) later) dues)
    (subst (λ (r : ℕ). list_all (is_ahead_of r d.who) later ≡ true) (sym round_is) ahead) (cross-kinds round later h dues parts.1)

-- What is due in a round to some is of that round.
of-round : (p : Who → Bool) (round : ℕ) (dues : List Due) → list_all (is_within_round p round) dues ≡ true → list_all (λ d. eqb d.round round) dues ≡ true
of-round p round dues h = all-weaker (is_within_round p round) (λ d. eqb d.round round) (λ d k. (and_parts (eqb d.round round) (p d.who) k).0) dues h

module _ (script : Script) where
  -- what is due in a round stands in order, all of it of the round
  pub round-rises : (round : ℕ) (lines : List Line) → DuesRise (dues_in script round lines) × (list_all (λ d. eqb d.round round) (dues_in script round lines) ≡ true)
  round-rises round lines =
      let first = sessions-from round (λ session. commands_of session lines) 1 script.sessions in
      let second = workers-from round (λ worker. flat_map (λ turn. turn_of script.tables) (range_with_len 1 script.turns)) 1 script.workers in
      let a = flat_map (λ session. dues_to round (Session session) (commands_of session lines)) (range_with_len 1 script.sessions) in
      let b = flat_map (λ worker. dues_to round (Worker worker) (flat_map (λ turn. turn_of script.tables) (range_with_len 1 script.turns))) (range_with_len 1 script.workers) in (
        rise-append a b first.0 second.0 (cross-kinds round b second.1 a first.1),
        all-append (λ d. eqb d.round round) a b (of-round (from_session 1) round a first.1) (of-round (from_worker 1) round b second.1),
      )

  -- what is due in a round, in front of what is due in later ones
  cross-rounds : (round : ℕ) (later : List Due) → list_all (λ d. nat_le (round + 1) d.round) later ≡ true
      → (dues : List Due) → list_all (λ d. eqb d.round round) dues ≡ true → list_all (λ d. list_all (is_ahead_of d.round d.who) later) dues ≡ true
  cross-rounds round later h [] k = refl
  cross-rounds round later h (d ∷ dues) k =
      let parts = and_parts (eqb d.round round) (list_all (λ x. eqb x.round round) dues) k in
      let round_is : d.round ≡ round = grind (arith, nat_tests, parts.0) in
      let ahead : list_all (is_ahead_of round d.who) later ≡ true =
      all-weaker (λ x. nat_le (round + 1) x.round) (is_ahead_of round d.who)
      (λ x m. or_left (nat_lt round x.round) (eqb round x.round && is_up_to d.who x.who) (let e : nat_lt round x.round ≡ true = grind (arith, nat_tests, m) in e)) later h in
      and_from (list_all (is_ahead_of d.round d.who) later) (list_all (λ x. list_all (is_ahead_of x.round x.who) later) dues)
      (subst (λ (r : ℕ). list_all (is_ahead_of r d.who) later ≡ true) (sym round_is) ahead) (cross-rounds round later h dues parts.1)

  -- What is of one round is of that round or a later one.
  round-least : (round : ℕ) (dues : List Due) → list_all (λ d. eqb d.round round) dues ≡ true → list_all (λ d. nat_le round d.round) dues ≡ true
  round-least round dues h = all-weaker (λ d. eqb d.round round) (λ d. nat_le round d.round) (λ d k. grind (arith, nat_tests, k)) dues h

  -- What is of a later round is of this round or a later one.
  rounds-later : (round : ℕ) (dues : List Due) → list_all (λ d. nat_le (round + 1) d.round) dues ≡ true → list_all (λ d. nat_le round d.round) dues ≡ true
  rounds-later round dues h = all-weaker (λ d. nat_le (round + 1) d.round) (λ d. nat_le round d.round) (λ d k. grind (arith, nat_tests, k)) dues h

  -- What is due in rounds from a number on stands in order, none of it of an earlier round.
  rounds-from : (round : ℕ) (rounds : List (List Line)) → DuesRise (flat_map (λ entry. dues_in script entry.0 entry.1) (enumerate_from round rounds))
      × (list_all (λ d. nat_le round d.round) (flat_map (λ entry. dues_in script entry.0 entry.1) (enumerate_from round rounds)) ≡ true)
  rounds-from round [] = (tt, refl)
  rounds-from round (lines ∷ rounds) =
      let own = round-rises round lines in
      let rest = rounds-from (round + 1) rounds in
      let a = dues_in script round lines in
      let b = flat_map (λ entry. dues_in script entry.0 entry.1) (enumerate_from (round + 1) rounds) in (
        rise-append a b own.0 rest.0 (cross-rounds round b rest.1 a own.1),
        all-append (λ d. nat_le round d.round) a b (round-least round a own.1) (rounds-later round b rest.1),
      )

  -- what a script has due stands in order
  pub dues-rise : DuesRise (dues_of script)
  dues-rise = (rounds-from 1 script.rounds).0

-- ---- a worker is asked upkeep alone

-- what is due is a session's, or upkeep
abbrev pub is_upkeep_due : Due → Bool
is_upkeep_due due = not (is_worker due.who) || is_upkeep due.command

-- What is due to a session is a session's.
to-session : (round s : ℕ) (commands : List Command) → list_all is_upkeep_due (dues_to round (Session s) commands) ≡ true
to-session round s [] = refl
to-session round s (asked ∷ commands) = to-session round s commands

-- What is due to a worker is upkeep where its commands are.
to-worker : (round w : ℕ) (commands : List Command) → list_all is_upkeep commands ≡ true → list_all is_upkeep_due (dues_to round (Worker w) commands) ≡ true
to-worker round w [] h = refl
to-worker round w (asked ∷ commands) h =
    let parts = and_parts (is_upkeep asked) (list_all is_upkeep commands) h in
    and_from (is_upkeep asked) (list_all is_upkeep_due (dues_to round (Worker w) commands)) parts.0 (to-worker round w commands parts.1)

-- a test that all of each list pass all of the joined lists pass
pub all-flat : {X Y : Type 0} (p : Y → Bool) (f : X → List Y) → ((x : X) → list_all p (f x) ≡ true) → (xs : List X) → list_all p (flat_map f xs) ≡ true
all-flat p f each [] = refl
all-flat p f each (x ∷ xs) = all-append p (f x) (flat_map f xs) (each x) (all-flat p f each xs)

-- whatever a script has due to a worker is upkeep
pub dues-upkeep : (script : Script) → list_all is_upkeep_due (dues_of script) ≡ true
dues-upkeep script =
    all-flat is_upkeep_due (λ entry. dues_in script entry.0 entry.1)
    (λ entry. all-append is_upkeep_due
    (flat_map (λ session. dues_to entry.0 (Session session) (commands_of session entry.1)) (range_with_len 1 script.sessions))
    (flat_map (λ worker. dues_to entry.0 (Worker worker) (flat_map (λ turn. turn_of script.tables) (range_with_len 1 script.turns))) (range_with_len 1 script.workers))
    (all-flat is_upkeep_due (λ session. dues_to entry.0 (Session session) (commands_of session entry.1)) (λ session. to-session entry.0 session (commands_of session entry.1)) (range_with_len 1 script.sessions))
    (all-flat is_upkeep_due (λ worker. dues_to entry.0 (Worker worker) (flat_map (λ turn. turn_of script.tables) (range_with_len 1 script.turns)))
    (λ worker. to-worker entry.0 worker (flat_map (λ turn. turn_of script.tables) (range_with_len 1 script.turns))
    (all-flat is_upkeep (λ turn. turn_of script.tables) (λ turn. turn-upkeep script.tables) (range_with_len 1 script.turns))) (range_with_len 1 script.workers)))
    (enumerate_from 1 script.rounds)
  where
    turn-upkeep : (tables : List TableDecl) → list_all is_upkeep (turn_of tables) ≡ true
    turn-upkeep tables =
        all-flat is_upkeep (λ entry. command.Compact entry.0 ∷ flat_map (λ block. command.Seal entry.0 block ∷ command.Gather entry.0 block ∷ []) (range_with_len 0 entry.1.blocks))
        (λ entry. all-flat is_upkeep (λ block. command.Seal entry.0 block ∷ command.Gather entry.0 block ∷ []) (λ block. refl) (range_with_len 0 entry.1.blocks)) (enumerate_from 0 tables)
