-- Printed replies are numbered, and may have come about in the order of their lines.
use Rattle.timeline_laws.specs.Laws.{PrintedAreInOrder, PrintedInTurn}
use Rattle.std.proofs.Common.{◌≡◌, ℕ, ◌+◌, ◌<◌, ◌≤◌, Bool, true, false, cond, ◌&&◌, eqb, nat_lt, List, [], ◌∷◌, ◌++◌, Option, None, Some, refl, sym, ap, ◌∙◌, subst, arith}
use Rattle.std.specs.List.{flat_map, count_by, sum_by, range_with_len, enumerate_from}
use Rattle.std.proofs.lemmas.Bool.Decides.{nat_tests}
use Rattle.std.proofs.lemmas.Bool.{eqb-true}
use Rattle.std.proofs.lemmas.List.Sums.{sum_by-append, sum_by-cons}
use Rattle.cell_model.specs.declared.table.TableDecl.{TableDecl}
use Rattle.workload_spec.specs.declared.command.Command.{Command}
use Rattle.workload_spec.specs.declared.script.Line.{Line}
use Rattle.workload_spec.specs.declared.script.Script.{Script}
use Rattle.workload_spec.specs.declared.reply.Who.{Who}
use Rattle.workload_spec.specs.declared.reply.Who.TheVariants.{Session, Worker}
use Rattle.workload_spec.specs.declared.reply.Said.{Said}
use Rattle.outcome_spec.specs.Entries.{Entry, is_same, is_before}
use Rattle.outcome_spec.specs.Forms.{Due, commands_of, dues_to, dues_in, dues_of, turn_of, entry_behind}
use Rattle.timeline_spec.specs.Timeline.{Each, Follows, InOrder}
use Rattle.timeline_spec.specs.Printed.{printed_from}
use Rattle.timeline_laws.proofs.Tests.{and-false, or-last}
use Rattle.timeline_laws.proofs.Order.{same-is, same-itself}

-- ---- the rounds of what is due

-- rounds that go up from this one, or stay
abbrev pub Rises : ℕ → List Due → Type 0
Rises round [] = Unit {0}
Rises round (due ∷ dues) = (round ≤ due.round) × Rises due.round dues

-- all of one round
abbrev AllIn : ℕ → List Due → Type 0
AllIn round [] = Unit {0}
AllIn round (due ∷ dues) = (due.round ≡ round) × AllIn round dues

-- Two lists of what is due in one round make one such list.
all-append : (round : ℕ) (a b : List Due) → AllIn round a → AllIn round b → AllIn round (a ++ b)
all-append round [] b h k = k
all-append round (due ∷ a) b h k = (h.0, all-append round a b h.1 k)

-- Rounds that go up from a round go up from each lower one.
rises-more : (low round : ℕ) (dues : List Due) → low ≤ round → Rises round dues → Rises low dues
rises-more low round [] h k = tt
rises-more low round (due ∷ dues) h k = let e : round ≤ due.round = k.0 in (omega (arith, h, e), k.1)

-- What is due in one round, and then from that round on, goes up.
rises-all : (low round : ℕ) (a b : List Due) → low ≤ round → AllIn round a → Rises round b → Rises low (a ++ b)
rises-all low round [] b h k r = rises-more low round b h r
rises-all low round (due ∷ a) b h k r =
    let e : due.round ≡ round = k.0 in
    (omega (arith, h, e), rises-all due.round round a b (omega (arith, e)) k.1 r)

-- What is due to one in a round is of that round.
to-all : (round : ℕ) (who : Who) (commands : List Command) → AllIn round (dues_to round who commands)
to-all round who [] = tt
to-all round who (asked ∷ commands) = (refl, to-all round who commands)

-- Where each part is due in one round, so are all parts together.
flat-all : (round : ℕ) (f : ℕ → List Due) → ((x : ℕ) → AllIn round (f x)) → (xs : List ℕ) → AllIn round (flat_map f xs)
flat-all round f h [] = tt
flat-all round f h (x ∷ xs) = all-append round (f x) (flat_map f xs) (h x) (flat-all round f h xs)

-- All that is due in a script's round is of that round.
in-all : (script : Script) (round : ℕ) (lines : List Line) → AllIn round (dues_in script round lines)
in-all script round lines =
    all-append round
    (flat_map (λ session. dues_to round (Session session) (commands_of session lines)) (range_with_len 1 script.sessions))
    (flat_map (λ worker. dues_to round (Worker worker) (flat_map (λ turn. turn_of script.tables) (range_with_len 1 script.turns))) (range_with_len 1 script.workers))
    (flat-all round (λ session. dues_to round (Session session) (commands_of session lines)) (λ session. to-all round (Session session) (commands_of session lines)) (range_with_len 1 script.sessions))
    (flat-all round (λ worker. dues_to round (Worker worker) (flat_map (λ turn. turn_of script.tables) (range_with_len 1 script.turns)))
    (λ worker. to-all round (Worker worker) (flat_map (λ turn. turn_of script.tables) (range_with_len 1 script.turns))) (range_with_len 1 script.workers))

-- What is due in rounds one behind the other goes up.
rounds-rise : (script : Script) (low round : ℕ) (rounds : List (List Line)) → low ≤ round → Rises low (flat_map (λ entry. dues_in script entry.0 entry.1) (enumerate_from round rounds))
rounds-rise script low round [] h = tt
rounds-rise script low round (lines ∷ rounds) h =
    rises-all low round (dues_in script round lines) (flat_map (λ entry. dues_in script entry.0 entry.1) (enumerate_from (round + 1) rounds)) h (in-all script round lines)
    (rises-more round (round + 1) (flat_map (λ entry. dues_in script entry.0 entry.1) (enumerate_from (round + 1) rounds)) (omega arith) (rounds-rise script (round + 1) (round + 1) rounds (omega arith)))

-- ---- the replies so far

-- Where the middle part fails, so does the conjunction.
middle-none : (a b : Bool) → (a && false && b) ≡ false
middle-none true b = refl
middle-none false b = refl

-- the replies of the same round and session or worker
abbrev with_it : Entry → Entry → Bool
with_it entry other = eqb other.reply.round entry.reply.round && is_same other.reply.who entry.reply.who

-- a reply is among those so far: its index counts them
record Counted (tables : List TableDecl) (whole : List Entry) (round : ℕ) (entry : Entry) : Type 0 where
  index : entry.reply.index ≤ count_by (with_it entry) whole
  low : entry.reply.round ≤ round

-- A reply that is counted is so with one more reply, and for a later round.
counted-more : (tables : List TableDecl) (whole : List Entry) (round next : ℕ) (last entry : Entry) → round ≤ next → Counted tables whole round entry → Counted tables (whole ++ last ∷ []) next entry
counted-more tables whole round next last entry up h =
    let a : entry.reply.index ≤ count_by (with_it entry) whole = h.index in
    let c : entry.reply.round ≤ round = h.low in
    record {
      index = omega (arith, a, sum_by-append (λ other. cond (with_it entry other) 1 0) whole (last ∷ []));
      low = omega (arith, c, up);
    }

-- A reply that is counted for a round is counted for a later one.
counted-on : (tables : List TableDecl) (whole : List Entry) (round next : ℕ) (entry : Entry) → round ≤ next → Counted tables whole round entry → Counted tables whole next entry
counted-on tables whole round next entry up h = let c : entry.reply.round ≤ round = h.low in record { index = h.index; low = omega (arith, c, up) }

module _ (tables : List TableDecl) (earlier : List Entry) (due : Due) (told : Said) where
  -- The reply that tells this where it is due.
  abbrev new : Entry
  new = entry_behind tables earlier due told

  -- The new reply is counted among those so far and itself.
  new-counted : Counted tables (earlier ++ new ∷ []) due.round new
  new-counted =
      let here : with_it new new ≡ true = let e : eqb due.round due.round ≡ true = grind (arith, nat_tests) in rw (e, same-itself due.who) refl in
      let one : sum_by (λ other. cond (with_it new other) 1 0) (new ∷ []) ≡ 1 = sum_by-cons (λ other. cond (with_it new other) 1 0) new [] ∙ (rw here refl) in
      record {
        index = omega (arith, sum_by-append (λ other. cond (with_it new other) 1 0) earlier (new ∷ []), one);
        low = omega arith;
      }

  -- a reply of the same round and session or worker has a smaller index
  index-less : (e : Entry) → Counted tables earlier due.round e → (a b : Bool) → eqb e.reply.round due.round ≡ a → is_same e.reply.who due.who ≡ b → (a && b) ≡ true → e.reply.index < new.reply.index
  index-less e h true true is_a is_b both_true =
      let round : e.reply.round ≡ due.round = eqb-true e.reply.round due.round is_a in
      let who : e.reply.who ≡ due.who = same-is e.reply.who due.who is_b in
      let c : e.reply.index ≤ count_by (with_it e) earlier = h.index in
      let same : count_by (with_it e) earlier ≡ count_by (λ other. eqb other.reply.round due.round && is_same other.reply.who due.who) earlier =
      ap (λ (r : ℕ). count_by (λ other. eqb other.reply.round r && is_same other.reply.who e.reply.who) earlier) round
      ∙ ap (λ (w : Who). count_by (λ other. eqb other.reply.round due.round && is_same other.reply.who w) earlier) who in
      let d : new.reply.index ≡ 1 + count_by (λ other. eqb other.reply.round due.round && is_same other.reply.who due.who) earlier = refl in
      omega (arith, c, same, d)
  index-less e h true false is_a is_b both_true = absurd (let never : ⊥ = cc in never)
  index-less e h false b is_a is_b both_true = absurd (let never : ⊥ = cc in never)

  -- A reply that is not to the one due is not so the other way round.
  turned-back : (e : Entry) (b : Bool) → is_same due.who e.reply.who ≡ b → is_same e.reply.who due.who ≡ false → is_same due.who e.reply.who ≡ false
  turned-back e true h k =
      let f : is_same e.reply.who due.who ≡ true = subst (λ (w : Who). is_same w due.who ≡ true) (same-is due.who e.reply.who h) (same-itself due.who) in
      let never : true ≡ false = sym f ∙ k in
      absurd (let impossible : ⊥ = cc in impossible)
  turned-back e false h k = h

  -- Where the one due is whom a reply is to, it is so the other way round.
  turned-who : (e : Entry) → is_same due.who e.reply.who ≡ true → is_same e.reply.who due.who ≡ true
  turned-who e h = subst (λ (w : Who). is_same w due.who ≡ true) (same-is due.who e.reply.who h) (same-itself due.who)

  -- the new reply is not before one of those so far
  not-before-by : (e : Entry) → Counted tables earlier due.round e → (a b : Bool) → eqb e.reply.round due.round ≡ a → is_same e.reply.who due.who ≡ b → is_before new e ≡ false
  not-before-by e h true true is_a is_b =
      let less : e.reply.index < new.reply.index = index-less e h true true is_a is_b refl in
      let round : nat_lt due.round e.reply.round ≡ false = let low : e.reply.round ≤ due.round = h.low in grind (arith, nat_tests, low) in
      let index : nat_lt new.reply.index e.reply.index ≡ false = grind (arith, nat_tests, less) in
      rw (round, index) (and-false (eqb due.round e.reply.round && is_same due.who e.reply.who))
  not-before-by e h true false is_a is_b =
      let round : nat_lt due.round e.reply.round ≡ false = let low : e.reply.round ≤ due.round = h.low in grind (arith, nat_tests, low) in
      let who : is_same due.who e.reply.who ≡ false = turned-back e (is_same due.who e.reply.who) refl is_b in
      rw (round, who) (middle-none (eqb due.round e.reply.round) (nat_lt new.reply.index e.reply.index))
  not-before-by e h false b is_a is_b =
      let round : nat_lt due.round e.reply.round ≡ false = let low : e.reply.round ≤ due.round = h.low in grind (arith, nat_tests, low) in
      let other : eqb due.round e.reply.round ≡ false = grind (arith, nat_tests, is_a) in
      rw (round, other) refl

  -- A counted reply to the same session or worker is before the new reply.
  in-turn-by : (e : Entry) → Counted tables earlier due.round e → is_same due.who e.reply.who ≡ true → (a : Bool) → eqb e.reply.round due.round ≡ a → is_before e new ≡ true
  in-turn-by e h same true is_a =
      let same_who : is_same e.reply.who due.who ≡ true = turned-who e same in
      let less : e.reply.index < new.reply.index = index-less e h true true is_a same_who refl in
      let index : nat_lt e.reply.index new.reply.index ≡ true = grind (arith, nat_tests, less) in
      rw (is_a, same_who, index) (or-last (nat_lt e.reply.round due.round))
  in-turn-by e h same false is_a =
      let low : e.reply.round ≤ due.round = h.low in
      let round : nat_lt e.reply.round due.round ≡ true = grind (arith, nat_tests, is_a, low) in
      rw round refl

  -- The new reply may come about behind each of those so far.
  new-follows : (e : Entry) → Counted tables earlier due.round e → Follows e new
  new-follows e h = record {
    not_before = not-before-by e h (eqb e.reply.round due.round) (is_same e.reply.who due.who) refl refl;
    in_turn = λ same. in-turn-by e h same (eqb e.reply.round due.round) refl;
  }

-- ---- all replies

-- All replies printed behind one that is counted may come about behind it.
all-follow : (tables : List TableDecl) (earlier : List Entry) (dues : List Due) (told : List (Option Said)) (low : ℕ) (e : Entry) → Rises low dues → Counted tables earlier low e
    → Each (Follows e) (printed_from tables earlier dues told)
all-follow tables earlier [] told low e rise h = tt
all-follow tables earlier (due ∷ dues) [] low e rise h = tt
all-follow tables earlier (due ∷ dues) (None ∷ told) low e rise h = all-follow tables earlier dues told due.round e rise.1 (counted-on tables earlier low due.round e rise.0 h)
all-follow tables earlier (due ∷ dues) (Some said ∷ told) low e rise h =
    let here = counted-on tables earlier low due.round e rise.0 h in
    let rest = all-follow tables (earlier ++ entry_behind tables earlier due said ∷ []) dues told due.round e rise.1 (counted-more tables earlier due.round due.round (entry_behind tables earlier due said) e (omega arith) here) in
    (new-follows tables earlier due said e here, rest)

-- Replies to what is due in rounds that go up are in order.
all-in-order : (tables : List TableDecl) (earlier : List Entry) (dues : List Due) (told : List (Option Said)) (low : ℕ) → Rises low dues
    → InOrder (printed_from tables earlier dues told)
all-in-order tables earlier [] told low rise = tt
all-in-order tables earlier (due ∷ dues) [] low rise = tt
all-in-order tables earlier (due ∷ dues) (None ∷ told) low rise = all-in-order tables earlier dues told due.round rise.1
all-in-order tables earlier (due ∷ dues) (Some said ∷ told) low rise =
    let e = entry_behind tables earlier due said in
    let behind = all-follow tables (earlier ++ e ∷ []) dues told due.round e rise.1 (new-counted tables earlier due said) in
    let rest = all-in-order tables (earlier ++ e ∷ []) dues told due.round rise.1 in
    (behind, rest)

-- Printed replies are in order.
pub printed-in-order : PrintedAreInOrder
printed-in-order script told = all-in-order script.tables [] (dues_of script) told 0 (rounds-rise script 0 1 script.rounds (omega arith))

-- Replies that came about as they are printed are a timeline.
pub printed-in-turn : PrintedInTurn
printed-in-turn script told runs =
    record { threads = λ who. refl; order = printed-in-order script told; runs = runs }
