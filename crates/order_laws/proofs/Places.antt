-- Replies that rise by their places.
use Rattle.std.proofs.Common.{◌≡◌, ℕ, ◌+◌, ◌-◌, ◌<◌, ◌≤◌, ◌⊎◌, inl, inr, Bool, true, false, ◌&&◌, not, eqb, nat_lt, nat_le, List, [], ◌∷◌, ◌++◌, take, drop, length, refl, sym, ap, ◌∙◌, subst, arith, append_assoc}
use Rattle.std.specs.List.{list_all}
use Rattle.std.proofs.lemmas.Bool.{and_parts, and_from, or_cases, or_from, or_left, or_right, not-true, not_from_false, eqb-true, ltb-true, false_from_ne_true, and_right}
use Rattle.std.proofs.lemmas.Bool.Decides.{nat_tests}
use Rattle.std.proofs.lemmas.List.{take_at, drop_at, drop-drop, length-append}
use Rattle.std.proofs.lemmas.List.Folds.{list_all-append}
use Rattle.workload_spec.specs.declared.reply.Who.{Who}
use Rattle.workload_spec.specs.declared.reply.Who.TheVariants.{Session, Worker}
use Rattle.outcome_spec.specs.Entries.{Entry, is_same, before, after, not_after}
use Rattle.order_laws.specs.Places.{is_earlier, is_up_to, is_among, is_in_front, is_up_to_own, is_ahead, Rises, round_start, own_start, own_end, round_end, between}
use Rattle.order_laws.specs.Sides.{Sides, is_past, is_beside, is_own}
use Rattle.order_laws.proofs.Order.{sides-before, sides-not_after, sides-after, same-itself}
use Rattle.order_laws.proofs.Pieces.{Parted, parted-front, parted-back, all-drop, all-drop-take, front-reaches, back-reaches, all-weaker, all-both, cut-between, drop-between, count-weaker}

-- The other reply is of no later round.
abbrev is_up_to_round : Entry → Entry → Bool
is_up_to_round entry other = nat_le other.reply.round entry.reply.round

-- ---- facts of two or three replies

-- Who is earlier than another is not the same one.
earlier-apart : (a b : Who) → is_earlier a b ≡ true → is_same a b ≡ false
earlier-apart (Session a) (Session b) h = grind (arith, nat_tests)
earlier-apart (Session a) (Worker b) h = refl
earlier-apart (Worker a) (Session b) h = refl
earlier-apart (Worker a) (Worker b) h = grind (arith, nat_tests)

-- who is earlier is not later
pub earlier-not : (a b : Who) → is_earlier a b ≡ true → is_earlier b a ≡ false
earlier-not (Session a) (Session b) h = grind (arith, nat_tests)
earlier-not (Session a) (Worker b) h = refl
earlier-not (Worker a) (Session b) h = absurd (let never : ⊥ = cc in never)
earlier-not (Worker a) (Worker b) h = grind (arith, nat_tests)

-- sessions or workers that are taken as one are one
pub same-is : (a b : Who) → is_same a b ≡ true → a ≡ b
same-is (Session a) (Session b) h = let e : a ≡ b = grind (arith, nat_tests) in ap (λ n. Session n) e
same-is (Session a) (Worker b) h = absurd (let never : ⊥ = cc in never)
same-is (Worker a) (Session b) h = absurd (let never : ⊥ = cc in never)
same-is (Worker a) (Worker b) h = let e : a ≡ b = grind (arith, nat_tests) in ap (λ n. Worker n) e

-- Who is earlier than one that is earlier than a third is earlier than the third.
earlier-trans : (a b c : Who) → is_earlier a b ≡ true → is_earlier b c ≡ true → is_earlier a c ≡ true
earlier-trans (Session a) (Session b) (Session c) h k = grind (arith, nat_tests)
earlier-trans (Session a) (Session b) (Worker c) h k = refl
earlier-trans (Session a) (Worker b) (Session c) h k = absurd (let never : ⊥ = cc in never)
earlier-trans (Session a) (Worker b) (Worker c) h k = refl
earlier-trans (Worker a) (Session b) c h k = absurd (let never : ⊥ = cc in never)
earlier-trans (Worker a) (Worker b) (Session c) h k = absurd (let never : ⊥ = cc in never)
earlier-trans (Worker a) (Worker b) (Worker c) h k = grind (arith, nat_tests)

-- nobody is earlier than himself
pub earlier-itself : (a : Who) → is_earlier a a ≡ false
earlier-itself (Session a) = grind (arith, nat_tests)
earlier-itself (Worker a) = grind (arith, nat_tests)

-- ---- one reply's line in front of another's

pub record Behind (x y : Entry) : Type 0 where
  pub later : x.reply.round < y.reply.round

pub record Beside (x y : Entry) : Type 0 where
  pub round : x.reply.round ≡ y.reply.round
  pub who : is_earlier x.reply.who y.reply.who ≡ true

pub record Own (x y : Entry) : Type 0 where
  pub round : x.reply.round ≡ y.reply.round
  pub who : x.reply.who ≡ y.reply.who
  pub index : x.reply.index < y.reply.index

-- A reply that is among is of an earlier round, or of the same one and to a chosen one.
among-parts : (chosen : Who → Bool) (entry other : Entry) → is_among chosen entry other ≡ true
    → (other.reply.round < entry.reply.round) ⊎ ((other.reply.round ≡ entry.reply.round) × (chosen other.reply.who ≡ true))
among-parts chosen entry other h = by (or_cases (is_past entry other) (eqb other.reply.round entry.reply.round && chosen other.reply.who) h)
  where
    by : (is_past entry other ≡ true) ⊎ ((eqb other.reply.round entry.reply.round && chosen other.reply.who) ≡ true)
        → (other.reply.round < entry.reply.round) ⊎ ((other.reply.round ≡ entry.reply.round) × (chosen other.reply.who ≡ true))
    by (inl past) = inl (ltb-true other.reply.round entry.reply.round past)
    by (inr beside) =
        let parts = and_parts (eqb other.reply.round entry.reply.round) (chosen other.reply.who) beside in
        inr (eqb-true other.reply.round entry.reply.round parts.0, parts.1)

-- A reply of an earlier round is among, whoever is chosen.
among-past : (chosen : Who → Bool) (entry other : Entry) → other.reply.round < entry.reply.round → is_among chosen entry other ≡ true
among-past chosen entry other h =
    or_left (is_past entry other) (eqb other.reply.round entry.reply.round && chosen other.reply.who) (grind (arith, nat_tests))

-- A reply of the same round to a chosen one is among.
among-beside : (chosen : Who → Bool) (entry other : Entry) → other.reply.round ≡ entry.reply.round → chosen other.reply.who ≡ true → is_among chosen entry other ≡ true
among-beside chosen entry other round h =
    or_right (is_past entry other) (eqb other.reply.round entry.reply.round && chosen other.reply.who)
    (and_from (eqb other.reply.round entry.reply.round) (chosen other.reply.who) (grind (arith, nat_tests)) h)

-- ahead of another by its round, in it by its session or worker, or by its index
pub ahead-cases : (x y : Entry) → is_ahead x y ≡ true → Behind x y ⊎ (Beside x y ⊎ Own x y)
ahead-cases x y h = by (or_cases (is_in_front y x) (is_own y x && nat_lt x.reply.index y.reply.index) h)
  where
    from : (x.reply.round < y.reply.round) ⊎ ((x.reply.round ≡ y.reply.round) × (is_earlier x.reply.who y.reply.who ≡ true)) → Behind x y ⊎ (Beside x y ⊎ Own x y)
    from (inl less) = inl (record { later = less })
    from (inr same) = inr (inl (record { round = same.0; who = same.1 }))

    by : (is_in_front y x ≡ true) ⊎ ((is_own y x && nat_lt x.reply.index y.reply.index) ≡ true) → Behind x y ⊎ (Beside x y ⊎ Own x y)
    by (inl front) = from (among-parts (λ who. is_earlier who y.reply.who) y x front)
    by (inr own) =
        let parts = and_parts (is_own y x) (nat_lt x.reply.index y.reply.index) own in
        let its = and_parts (eqb x.reply.round y.reply.round) (is_same x.reply.who y.reply.who) parts.0 in
        inr (inr (record {
          round = eqb-true x.reply.round y.reply.round its.0;
          who = same-is x.reply.who y.reply.who its.1;
          index = ltb-true x.reply.index y.reply.index parts.1;
        }))

-- The reply that another is ahead of is of no earlier round.
no-earlier-round : (x y : Entry) → is_ahead x y ≡ true → x.reply.round ≤ y.reply.round
no-earlier-round x y h = by (ahead-cases x y h)
  where
    by : Behind x y ⊎ (Beside x y ⊎ Own x y) → x.reply.round ≤ y.reply.round
    by (inl b) = omega (arith, b.later)
    by (inr (inl b)) = omega (arith, b.round)
    by (inr (inr o)) = omega (arith, o.round)

-- ---- tests that fail from some reply on

-- Behind a reply that is not of an earlier round none is.
past-stays : (entry x y : Entry) → is_ahead x y ≡ true → is_past entry x ≡ false → not (is_past entry y) ≡ true
past-stays entry x y ahead fails =
    let low = no-earlier-round x y ahead in
    let e : is_past entry y ≡ false = grind (arith, nat_tests, low, fails) in
    not_from_false (is_past entry y) e

-- Behind a reply that is of a later round each is.
round-stays : (entry x y : Entry) → is_ahead x y ≡ true → is_up_to_round entry x ≡ false → not (is_up_to_round entry y) ≡ true
round-stays entry x y ahead fails =
    let low = no-earlier-round x y ahead in
    let e : is_up_to_round entry y ≡ false = grind (arith, nat_tests, low, fails) in
    not_from_false (is_up_to_round entry y) e

-- a choice of sessions and workers that has each one in front of one that it has
abbrev IsFront : (Who → Bool) → Type 0
IsFront chosen = (a b : Who) → is_earlier a b ≡ true → chosen b ≡ true → chosen a ≡ true

-- Behind a reply that is not among none is, where the choice is a front.
among-stays : (chosen : Who → Bool) → IsFront chosen → (entry x y : Entry) → is_ahead x y ≡ true → is_among chosen entry x ≡ false → not (is_among chosen entry y) ≡ true
among-stays chosen fronts entry x y ahead fails =
    not_from_false (is_among chosen entry y) (false_from_ne_true (is_among chosen entry y)
    (λ passes. both (back (ahead-cases x y ahead) (among-parts chosen entry y passes))))
  where
    both : is_among chosen entry x ≡ true → ⊥
    both h = let never : true ≡ false = sym h ∙ fails in let impossible : ⊥ = cc in impossible

    back : Behind x y ⊎ (Beside x y ⊎ Own x y) → (y.reply.round < entry.reply.round) ⊎ ((y.reply.round ≡ entry.reply.round) × (chosen y.reply.who ≡ true)) → is_among chosen entry x ≡ true
    back (inl b) (inl past) = among-past chosen entry x (omega (arith, b.later, past))
    back (inl b) (inr same) = among-past chosen entry x (omega (arith, b.later, same.0))
    back (inr (inl b)) (inl past) = among-past chosen entry x (omega (arith, b.round, past))
    back (inr (inl b)) (inr same) = among-beside chosen entry x (b.round ∙ same.0) (fronts x.reply.who y.reply.who b.who same.1)
    back (inr (inr o)) (inl past) = among-past chosen entry x (omega (arith, o.round, past))
    back (inr (inr o)) (inr same) = among-beside chosen entry x (o.round ∙ same.0) (subst (λ (w : Who). chosen w ≡ true) (sym o.who) same.1)

-- Those that are earlier than one are a front.
earlier-front : (who : Who) → IsFront (λ w. is_earlier w who)
earlier-front who a b h k = earlier-trans a b who h k

-- Those that are up to one are a front.
up-to-front : (who : Who) → IsFront (λ w. is_up_to w who)
up-to-front who a b h k = by (or_cases (is_earlier b who) (is_same b who) k)
  where
    by : (is_earlier b who ≡ true) ⊎ (is_same b who ≡ true) → is_up_to a who ≡ true
    by (inl early) = or_left (is_earlier a who) (is_same a who) (earlier-trans a b who h early)
    by (inr same) = or_left (is_earlier a who) (is_same a who) (subst (λ (w : Who). is_earlier a w ≡ true) (same-is b who same) h)

-- ---- so the replies are parted

-- Replies that rise are parted by a test that fails behind each that fails.
parted-by : (p : Entry → Bool) → ((x y : Entry) → is_ahead x y ≡ true → p x ≡ false → not (p y) ≡ true) → (entries : List Entry) → Rises entries → Parted p entries
parted-by p stays [] h = tt
parted-by p stays (x ∷ entries) h = (
  λ fails. all-weaker (is_ahead x) (λ y. not (p y)) (λ y ahead. stays x y ahead fails) entries h.0,
  parted-by p stays entries h.1,
)

-- the replies of earlier rounds stand in front of the others
pub past-parts : (entry : Entry) (entries : List Entry) → Rises entries → Parted (is_past entry) entries
past-parts entry entries rises = parted-by (is_past entry) (past-stays entry) entries rises

-- so do those in front of the reply's own
pub front-parts : (entry : Entry) (entries : List Entry) → Rises entries → Parted (is_in_front entry) entries
front-parts entry entries rises =
    parted-by (is_in_front entry) (among-stays (λ w. is_earlier w entry.reply.who) (earlier-front entry.reply.who) entry) entries rises

-- and those up to its own
pub own-parts : (entry : Entry) (entries : List Entry) → Rises entries → Parted (is_up_to_own entry) entries
own-parts entry entries rises =
    parted-by (is_up_to_own entry) (among-stays (λ w. is_up_to w entry.reply.who) (up-to-front entry.reply.who) entry) entries rises

-- and those up to its round
pub round-parts : (entry : Entry) (entries : List Entry) → Rises entries → Parted (is_up_to_round entry) entries
round-parts entry entries rises = parted-by (is_up_to_round entry) (round-stays entry) entries rises

-- ---- the replies about one

-- each reply in front is ahead of it
pub front-ahead : (front : List Entry) (entry : Entry) (rest : List Entry) → Rises (front ++ entry ∷ rest) → list_all (λ other. is_ahead other entry) front ≡ true
front-ahead [] entry rest h = refl
front-ahead (x ∷ front) entry rest h =
    let split : (list_all (is_ahead x) front && list_all (is_ahead x) (entry ∷ rest)) ≡ true = sym (list_all-append (is_ahead x) front (entry ∷ rest)) ∙ h.0 in
    let behind = and_parts (list_all (is_ahead x) front) (list_all (is_ahead x) (entry ∷ rest)) split in
    and_from (is_ahead x entry) (list_all (λ other. is_ahead other entry) front) (and_parts (is_ahead x entry) (list_all (is_ahead x) rest) behind.1).0 (front-ahead front entry rest h.1)

-- and it is ahead of each behind
pub rest-behind : (front : List Entry) (entry : Entry) (rest : List Entry) → Rises (front ++ entry ∷ rest) → list_all (is_ahead entry) rest ≡ true
rest-behind [] entry rest h = h.0
rest-behind (x ∷ front) entry rest h = rest-behind front entry rest h.1

-- what the tests tell of a reply beside or behind one
beside-front : (entry other : Entry) → not (is_past entry other) ≡ true → is_in_front entry other ≡ true → is_beside entry other ≡ true
beside-front entry other late front = by (or_cases (is_past entry other) (eqb other.reply.round entry.reply.round && is_earlier other.reply.who entry.reply.who) front)
  where
    by : (is_past entry other ≡ true) ⊎ ((eqb other.reply.round entry.reply.round && is_earlier other.reply.who entry.reply.who) ≡ true) → is_beside entry other ≡ true
    by (inl past) = absurd (let e = not-true (is_past entry other) late in let never : true ≡ false = sym past ∙ e in let impossible : ⊥ = cc in impossible)
    by (inr beside) =
        let parts = and_parts (eqb other.reply.round entry.reply.round) (is_earlier other.reply.who entry.reply.who) beside in
        and_from (eqb other.reply.round entry.reply.round) (not (is_same other.reply.who entry.reply.who)) parts.0
        (not_from_false (is_same other.reply.who entry.reply.who) (earlier-apart other.reply.who entry.reply.who parts.1))

-- Sessions or workers that are one are taken as one.
same-of : (a b : Who) → a ≡ b → is_same a b ≡ true
same-of a b e = subst (λ (w : Who). is_same a w ≡ true) e (same-itself a)

-- What is ahead of a reply and not in front of its own is its own, with a smaller index.
own-front : (entry other : Entry) → not (is_in_front entry other) ≡ true → is_ahead other entry ≡ true → (is_own entry other && nat_lt other.reply.index entry.reply.index) ≡ true
own-front entry other late ahead = by (or_cases (is_in_front entry other) (is_own entry other && nat_lt other.reply.index entry.reply.index) ahead)
  where
    by : (is_in_front entry other ≡ true) ⊎ ((is_own entry other && nat_lt other.reply.index entry.reply.index) ≡ true) → (is_own entry other && nat_lt other.reply.index entry.reply.index) ≡ true
    by (inl front) = absurd (let e = not-true (is_in_front entry other) late in let never : true ≡ false = sym front ∙ e in let impossible : ⊥ = cc in impossible)
    by (inr own) = own

-- behind a reply, up to its own: its own
own-back : (entry other : Entry) → is_ahead entry other ≡ true → is_up_to_own entry other ≡ true → (is_own entry other && nat_lt entry.reply.index other.reply.index) ≡ true
own-back entry other ahead own = by (ahead-cases entry other ahead) (among-parts (λ who. is_up_to who entry.reply.who) entry other own)
  where
    never-both : is_earlier entry.reply.who other.reply.who ≡ true → is_up_to other.reply.who entry.reply.who ≡ true → ⊥
    never-both h k = from (or_cases (is_earlier other.reply.who entry.reply.who) (is_same other.reply.who entry.reply.who) k)
      where
        from : (is_earlier other.reply.who entry.reply.who ≡ true) ⊎ (is_same other.reply.who entry.reply.who ≡ true) → ⊥
        from (inl early) = let e : false ≡ true = sym (earlier-not entry.reply.who other.reply.who h) ∙ early in let impossible : ⊥ = cc in impossible
        from (inr same) =
            let w = same-is other.reply.who entry.reply.who same in
            let e : is_earlier entry.reply.who entry.reply.who ≡ true = subst (λ (x : Who). is_earlier entry.reply.who x ≡ true) w h in
            let f : false ≡ true = sym (earlier-itself entry.reply.who) ∙ e in
            let impossible : ⊥ = cc in impossible

    by : Behind entry other ⊎ (Beside entry other ⊎ Own entry other) → (other.reply.round < entry.reply.round) ⊎ ((other.reply.round ≡ entry.reply.round) × (is_up_to other.reply.who entry.reply.who ≡ true))
        → (is_own entry other && nat_lt entry.reply.index other.reply.index) ≡ true
    by (inl b) (inl past) = absurd (omega (arith, b.later, past))
    by (inl b) (inr same) = absurd (omega (arith, b.later, same.0))
    by (inr (inl b)) (inl past) = absurd (omega (arith, b.round, past))
    by (inr (inl b)) (inr same) = absurd (never-both b.who same.1)
    by (inr (inr o)) own =
        and_from (is_own entry other) (nat_lt entry.reply.index other.reply.index)
        (and_from (eqb other.reply.round entry.reply.round) (is_same other.reply.who entry.reply.who) (grind (arith, nat_tests, o.round)) (same-of other.reply.who entry.reply.who (sym o.who)))
        (grind (arith, nat_tests, o.index))

-- behind its own, up to its round: beside it
beside-back : (entry other : Entry) → is_ahead entry other ≡ true → (not (is_up_to_own entry other) && is_up_to_round entry other) ≡ true → is_beside entry other ≡ true
beside-back entry other ahead h =
    and_from (eqb other.reply.round entry.reply.round) (not (is_same other.reply.who entry.reply.who)) same
    (not_from_false (is_same other.reply.who entry.reply.who) (false_from_ne_true (is_same other.reply.who entry.reply.who) apart))
  where
    parts : (not (is_up_to_own entry other) ≡ true) × (is_up_to_round entry other ≡ true)
    parts = and_parts (not (is_up_to_own entry other)) (is_up_to_round entry other) h

    same : eqb other.reply.round entry.reply.round ≡ true
    same = let low = no-earlier-round entry other ahead in let high = parts.1 in grind (arith, nat_tests, low, high)

    apart : is_same other.reply.who entry.reply.who ≡ true → ⊥
    apart k =
        let e : is_up_to_own entry other ≡ true =
        among-beside (λ who. is_up_to who entry.reply.who) entry other (eqb-true other.reply.round entry.reply.round same) (or_right (is_earlier other.reply.who entry.reply.who) (is_same other.reply.who entry.reply.who) k) in
        let f = not-true (is_up_to_own entry other) parts.0 in
        let never : true ≡ false = sym e ∙ f in
        let impossible : ⊥ = cc in impossible

-- A reply that is not up to the round of one is of a later round.
later-back : (entry other : Entry) → not (is_up_to_round entry other) ≡ true → is_past other entry ≡ true
later-back entry other h = let e = not-true (is_up_to_round entry other) h in grind (arith, nat_tests, e)

module _ (front : List Entry) (entry : Entry) (rest : List Entry) (rises : Rises (front ++ entry ∷ rest)) where
  -- All replies: those in front, the one and those behind it.
  abbrev es : List Entry
  es = front ++ entry ∷ rest

  -- The place of the reply.
  abbrev at : ℕ
  at = length front

  -- The place at which the reply's round begins.
  abbrev rs : ℕ
  rs = round_start es entry

  -- The place at which its own of the round begin.
  abbrev os : ℕ
  os = own_start es entry

  -- The place at which its own of the round end.
  abbrev oe : ℕ
  oe = own_end es entry

  -- The place at which the reply's round ends.
  abbrev re : ℕ
  re = round_end es entry

  -- The replies of earlier rounds stand in front of all others.
  past-parted : Parted (is_past entry) es
  past-parted = past-parts entry es rises

  -- The replies in front of the reply's own stand in front of all others.
  front-parted : Parted (is_in_front entry) es
  front-parted = front-parts entry es rises

  -- The replies up to the reply's own stand in front of all others.
  own-parted : Parted (is_up_to_own entry) es
  own-parted = own-parts entry es rises

  -- The replies up to the reply's round stand in front of all others.
  round-parted : Parted (is_up_to_round entry) es
  round-parted = round-parts entry es rises

  -- The reply is not in front of its own.
  itself-not-front : is_in_front entry entry ≡ false
  itself-not-front =
      let round : nat_lt entry.reply.round entry.reply.round ≡ false = grind (arith, nat_tests) in
      or_from (is_past entry entry) (eqb entry.reply.round entry.reply.round && is_earlier entry.reply.who entry.reply.who) round
      (rw (earlier-itself entry.reply.who) (and_right (eqb entry.reply.round entry.reply.round) false refl))

  -- The reply is up to its own.
  itself-own : is_up_to_own entry entry ≡ true
  itself-own = among-beside (λ w. is_up_to w entry.reply.who) entry entry refl (or_right (is_earlier entry.reply.who entry.reply.who) (is_same entry.reply.who entry.reply.who) (same-itself entry.reply.who))

  -- the places in order
  pub os-at : os ≤ at
  os-at = front-reaches (is_in_front entry) os front entry rest itself-not-front (parted-front (is_in_front entry) es front-parted)

  -- the reply stands in front of where its own end
  pub at-oe : at < oe
  at-oe = back-reaches (is_up_to_own entry) oe front entry rest itself-own (parted-back (is_up_to_own entry) es own-parted)

  -- its round begins not behind where its own begin
  pub rs-os : rs ≤ os
  rs-os = count-weaker (is_past entry) (is_in_front entry) (λ x h. or_left (is_past entry x) (eqb x.reply.round entry.reply.round && is_earlier x.reply.who entry.reply.who) h) es

  -- its own end not behind where its round ends
  pub oe-re : oe ≤ re
  oe-re = count-weaker (is_up_to_own entry) (is_up_to_round entry) (λ x h. in-round x (among-parts (λ w. is_up_to w entry.reply.who) entry x h)) es
    where
      in-round : (x : Entry) → (x.reply.round < entry.reply.round) ⊎ ((x.reply.round ≡ entry.reply.round) × (is_up_to x.reply.who entry.reply.who ≡ true)) → is_up_to_round entry x ≡ true
      in-round x (inl less) = grind (arith, nat_tests, less)
      in-round x (inr same) = let e = same.0 in grind (arith, nat_tests, e)

  -- Up to its place stand those in front of the reply.
  front-is : take at es ≡ front
  front-is = take_at front (entry ∷ rest) at refl

  -- Behind its place stand those behind the reply.
  rest-is : drop (at + 1) es ≡ rest
  rest-is = ap (λ ys. drop (at + 1) ys) (sym (append_assoc front (entry ∷ []) rest)) ∙ drop_at (front ++ entry ∷ []) rest (at + 1) (length-append front (entry ∷ []))

  -- The reply is ahead of all that stand from a place behind it on.
  ahead-from : (n : ℕ) → at < n → list_all (is_ahead entry) (drop n es) ≡ true
  ahead-from n h =
      let e : at + 1 + (n - (at + 1)) ≡ n = omega (arith, h) in
      let cut : drop (n - (at + 1)) (drop (at + 1) es) ≡ drop n es = drop-drop (n - (at + 1)) (at + 1) es ∙ ap (λ k. drop k es) e in
      subst (λ (ys : List Entry). list_all (is_ahead entry) ys ≡ true) cut
      (all-drop (is_ahead entry) (n - (at + 1)) (drop (at + 1) es) (subst (λ (ys : List Entry). list_all (is_ahead entry) ys ≡ true) (sym rest-is) (rest-behind front entry rest rises)))

  -- Those in front are cut where its round and where its own begin.
  front-cut : front ≡ take rs es ++ (between rs os es ++ between os at es)
  front-cut =
      sym front-is ∙ cut-between os at es os-at
      ∙ ap (λ ys. ys ++ between os at es) (cut-between rs os es rs-os)
      ∙ append_assoc (take rs es) (between rs os es) (between os at es)

  -- Those behind are cut where its own and where its round end.
  rest-cut : rest ≡ between (at + 1) oe es ++ (between oe re es ++ drop re es)
  rest-cut =
      let low : at + 1 ≤ oe = omega (arith, at-oe) in
      sym rest-is ∙ drop-between (at + 1) oe es low ∙ ap (λ ys. between (at + 1) oe es ++ ys) (drop-between oe re es oe-re)

  -- Three lists with a fourth behind them are the first with the others behind it.
  regroup : (a b c : List Entry) (d : List Entry) → (a ++ (b ++ c)) ++ d ≡ a ++ (b ++ (c ++ d))
  regroup a b c d = append_assoc a (b ++ c) d ∙ ap (λ ys. a ++ ys) (append_assoc b c d)

  -- the replies about this one, by their places
  pub sides : Sides es entry
  sides = record {
    past = take rs es;
    front = between rs os es;
    own = between os at es;
    rest = between (at + 1) oe es;
    back = between oe re es;
    later = drop re es;
    whole = ap (λ ys. ys ++ entry ∷ rest) front-cut ∙ ap (λ ys. (take rs es ++ (between rs os es ++ between os at es)) ++ entry ∷ ys) rest-cut
        ∙ regroup (take rs es) (between rs os es) (between os at es) (entry ∷ (between (at + 1) oe es ++ (between oe re es ++ drop re es)));
    past_are = parted-front (is_past entry) es past-parted;
    front_are = all-both (λ x. not (is_past entry x)) (is_in_front entry) (is_beside entry) (beside-front entry) (between rs os es)
        (all-drop-take (λ x. not (is_past entry x)) rs os es (parted-back (is_past entry) es past-parted))
        (all-drop (is_in_front entry) rs (take os es) (parted-front (is_in_front entry) es front-parted));
    own_are = all-both (λ x. not (is_in_front entry x)) (λ x. is_ahead x entry) (λ x. is_own entry x && nat_lt x.reply.index entry.reply.index) (own-front entry) (between os at es)
        (all-drop-take (λ x. not (is_in_front entry x)) os at es (parted-back (is_in_front entry) es front-parted))
        (all-drop (λ x. is_ahead x entry) os (take at es) (subst (λ (ys : List Entry). list_all (λ x. is_ahead x entry) ys ≡ true) (sym front-is) (front-ahead front entry rest rises)));
    rest_are = all-both (is_ahead entry) (is_up_to_own entry) (λ x. is_own entry x && nat_lt entry.reply.index x.reply.index) (own-back entry) (between (at + 1) oe es)
        (all-drop-take (is_ahead entry) (at + 1) oe es (subst (λ (ys : List Entry). list_all (is_ahead entry) ys ≡ true) (sym rest-is) (rest-behind front entry rest rises)))
        (all-drop (is_up_to_own entry) (at + 1) (take oe es) (parted-front (is_up_to_own entry) es own-parted));
    back_are = all-both (is_ahead entry) (λ x. not (is_up_to_own entry x) && is_up_to_round entry x) (is_beside entry) (beside-back entry) (between oe re es)
        (all-drop-take (is_ahead entry) oe re es (ahead-from oe at-oe))
        (all-both (λ x. not (is_up_to_own entry x)) (is_up_to_round entry) (λ x. not (is_up_to_own entry x) && is_up_to_round entry x) (λ x h k. and_from (not (is_up_to_own entry x)) (is_up_to_round entry x) h k) (between oe re es)
        (all-drop-take (λ x. not (is_up_to_own entry x)) oe re es (parted-back (is_up_to_own entry) es own-parted))
        (all-drop (is_up_to_round entry) oe (take re es) (parted-front (is_up_to_round entry) es round-parted)));
    later_are = all-weaker (λ x. not (is_up_to_round entry x)) (λ x. is_past x entry) (later-back entry) (drop re es) (parted-back (is_up_to_round entry) es round-parted);
  }

  -- Up to the place behind it stand those in front and the reply.
  front-more : take (at + 1) es ≡ front ++ entry ∷ []
  front-more = ap (λ ys. take (at + 1) ys) (sym (append_assoc front (entry ∷ []) rest)) ∙ take_at (front ++ entry ∷ []) rest (at + 1) (length-append front (entry ∷ []))

  -- before the reply are those in front of its round, and its own in front of it
  pub places-before : before es entry ≡ take rs es ++ between os at es
  unfolding sides
  places-before = sides-before es entry sides

  -- not after it are those up to it and the rest of its round that is not its own
  pub places-not_after : not_after es entry ≡ take (at + 1) es ++ between oe re es
  unfolding sides
  places-not_after =
      sides-not_after es entry sides
      ∙ sym (regroup (take rs es) (between rs os es) (between os at es) (entry ∷ between oe re es))
      ∙ ap (λ ys. ys ++ entry ∷ between oe re es) (sym front-cut)
      ∙ sym (append_assoc front (entry ∷ []) (between oe re es))
      ∙ ap (λ ys. ys ++ between oe re es) (sym front-more)

  -- after it are its own behind it and those behind its round
  pub places-after : after es entry ≡ between (at + 1) oe es ++ drop re es
  unfolding sides
  places-after = sides-after es entry sides

-- What is before a reply, not after it and after it stands between these places.
abbrev Stands : List Entry → Entry → List Entry → Type 0
Stands front entry es = (before es entry ≡ take (round_start es entry) es ++ between (own_start es entry) (length front) es)
    × (not_after es entry ≡ take (length front + 1) es ++ between (own_end es entry) (round_end es entry) es)
    × (after es entry ≡ between (length front + 1) (own_end es entry) es ++ drop (round_end es entry) es)

-- What is before a reply, not after it and after it.
pub by-places : (front : List Entry) (entry : Entry) (rest entries : List Entry) → entries ≡ front ++ entry ∷ rest → Rises entries
    → (before entries entry ≡ take (round_start entries entry) entries ++ between (own_start entries entry) (length front) entries)
    × (not_after entries entry ≡ take (length front + 1) entries ++ between (own_end entries entry) (round_end entries entry) entries)
    × (after entries entry ≡ between (length front + 1) (own_end entries entry) entries ++ drop (round_end entries entry) entries)
by-places front entry rest entries whole rises =
    let r : Rises (front ++ entry ∷ rest) = subst Rises whole rises in
    subst (Stands front entry) (sym whole) (places-before front entry rest r, places-not_after front entry rest r, places-after front entry rest r)

module _ (front : List Entry) (entry : Entry) (rest : List Entry) (rises : Rises (front ++ entry ∷ rest)) where
  -- Behind the reply, up to where its own end, all are its own.
  own-behind : list_all (is_own entry) (between (length front + 1) (own_end (front ++ entry ∷ rest) entry) (front ++ entry ∷ rest)) ≡ true
  unfolding sides
  own-behind =
      all-weaker (λ other. is_own entry other && nat_lt entry.reply.index other.reply.index) (is_own entry)
      (λ other h. (and_parts (is_own entry other) (nat_lt entry.reply.index other.reply.index) h).0)
      (between (length front + 1) (own_end (front ++ entry ∷ rest) entry) (front ++ entry ∷ rest)) (sides front entry rest rises).rest_are

  -- From where its own end to where its round ends, all are others' of its round.
  beside-behind : list_all (is_beside entry) (between (own_end (front ++ entry ∷ rest) entry) (round_end (front ++ entry ∷ rest) entry) (front ++ entry ∷ rest)) ≡ true
  unfolding sides
  beside-behind = (sides front entry rest rises).back_are

-- Behind a reply are its own up to the end of its own, and then others' up to the end of its round.
pub behind-places : (front : List Entry) (entry : Entry) (rest entries : List Entry) → entries ≡ front ++ entry ∷ rest → Rises entries
    → (list_all (is_own entry) (between (length front + 1) (own_end entries entry) entries) ≡ true)
    × (list_all (is_beside entry) (between (own_end entries entry) (round_end entries entry) entries) ≡ true)
behind-places front entry rest entries whole rises =
    let r : Rises (front ++ entry ∷ rest) = subst Rises whole rises in (
      subst (λ (es : List Entry). list_all (is_own entry) (between (length front + 1) (own_end es entry) es) ≡ true) (sym whole) (own-behind front entry rest r),
      subst (λ (es : List Entry). list_all (is_beside entry) (between (own_end es entry) (round_end es entry) es) ≡ true) (sym whole) (beside-behind front entry rest r),
    )
