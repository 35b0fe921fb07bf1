-- Which replies of each side are before one, and which it is before.
use Rattle.std.proofs.Common.{◌≡◌, ℕ, Bool, true, false, cond, ◌&&◌, not, eqb, nat_lt, List, [], ◌∷◌, ◌++◌, refl, ap, ◌∙◌, ◌+◌, sum_by, append-nil, arith}
use Rattle.std.specs.List.{filter, list_all}
use Rattle.std.proofs.lemmas.Bool.{and_parts, not-true, not_from_false, not_from_true}
use Rattle.std.proofs.lemmas.Bool.Decides.{nat_tests}
use Rattle.std.proofs.lemmas.List.Elements.{filter-append}
use Rattle.std.proofs.lemmas.List.Sums.{sum_by-append, sum_by-cons}
use Rattle.workload_spec.specs.declared.reply.Who.{Who}
use Rattle.workload_spec.specs.declared.reply.Who.TheVariants.{Session, Worker}
use Rattle.outcome_spec.specs.Entries.{Entry, is_same, is_before, is_not_after, before, after, not_after}
use Rattle.order_laws.specs.Sides.{Sides, is_past, is_beside, is_own, round_about}

-- ---- a test that all pass, or none

-- what passes one test, which implies another, is kept by the other
pub keep-all : {X : Type 0} (p q : X → Bool) → ((x : X) → p x ≡ true → q x ≡ true) → (xs : List X) → list_all p xs ≡ true → filter q xs ≡ xs
keep-all p q so [] h = refl
keep-all p q so (x ∷ xs) h =
    let parts = and_parts (p x) (list_all p xs) h in
    rw (so x parts.0) (ap (λ ys. x ∷ ys) (keep-all p q so xs parts.1))

-- what passes one test, which excludes another, is dropped by the other
pub keep-none : {X : Type 0} (p q : X → Bool) → ((x : X) → p x ≡ true → q x ≡ false) → (xs : List X) → list_all p xs ≡ true → filter q xs ≡ []
keep-none p q so [] h = refl
keep-none p q so (x ∷ xs) h =
    let parts = and_parts (p x) (list_all p xs) h in
    rw (so x parts.0) (keep-none p q so xs parts.1)

-- ---- the order, by its three tests

-- Whether two are one session or worker is told alike either way around.
same-turned : (a b : Who) → is_same a b ≡ is_same b a
same-turned (Session a) (Session b) = grind (arith, nat_tests)
same-turned (Session a) (Worker b) = refl
same-turned (Worker a) (Session b) = refl
same-turned (Worker a) (Worker b) = grind (arith, nat_tests)

-- each is the same as himself
pub same-itself : (a : Who) → is_same a a ≡ true
same-itself (Session a) = grind (arith, nat_tests)
same-itself (Worker a) = grind (arith, nat_tests)

-- A number that is below another is neither above nor equal to it.
less-not : (a b : ℕ) → nat_lt a b ≡ true → (nat_lt b a ≡ false) × (eqb b a ≡ false)
less-not a b h = (grind (arith, nat_tests, h), grind (arith, nat_tests, h))

-- Of equal numbers neither is below the other, and they are equal either way around.
equal-not : (a b : ℕ) → eqb a b ≡ true → (nat_lt a b ≡ false) × (nat_lt b a ≡ false) × (eqb b a ≡ true)
equal-not a b h = (grind (arith, nat_tests, h), grind (arith, nat_tests, h), grind (arith, nat_tests, h))

module _ (entry other : Entry) where
  -- A reply of an earlier round is before the one.
  past-before : is_past entry other ≡ true → is_before other entry ≡ true
  past-before h = rw h refl

  -- The one is not before a reply of an earlier round.
  past-not-behind : is_past entry other ≡ true → is_before entry other ≡ false
  past-not-behind h =
      let facts = less-not other.reply.round entry.reply.round h in
      rw (facts.0, facts.1) refl

  -- Another's reply of the same round is not before the one.
  beside-not-before : is_beside entry other ≡ true → is_before other entry ≡ false
  beside-not-before h =
      let parts = and_parts (eqb other.reply.round entry.reply.round) (not (is_same other.reply.who entry.reply.who)) h in
      let facts = equal-not other.reply.round entry.reply.round parts.0 in
      let apart : is_same other.reply.who entry.reply.who ≡ false = not-true (is_same other.reply.who entry.reply.who) parts.1 in
      rw (facts.0, parts.0, apart) refl

  -- The one is not before another's reply of its round.
  beside-not-behind : is_beside entry other ≡ true → is_before entry other ≡ false
  beside-not-behind h =
      let parts = and_parts (eqb other.reply.round entry.reply.round) (not (is_same other.reply.who entry.reply.who)) h in
      let facts = equal-not other.reply.round entry.reply.round parts.0 in
      let apart : is_same entry.reply.who other.reply.who ≡ false = same-turned entry.reply.who other.reply.who ∙ not-true (is_same other.reply.who entry.reply.who) parts.1 in
      rw (facts.1, facts.2, apart) refl

module _ (entry other : Entry) where
  -- A reply of its own with a smaller index is before the one.
  own-before : (is_own entry other && nat_lt other.reply.index entry.reply.index) ≡ true → is_before other entry ≡ true
  own-before h =
      let parts = and_parts (is_own entry other) (nat_lt other.reply.index entry.reply.index) h in
      let own = and_parts (eqb other.reply.round entry.reply.round) (is_same other.reply.who entry.reply.who) parts.0 in
      let facts = equal-not other.reply.round entry.reply.round own.0 in
      rw (facts.0, own.0, own.1, parts.1) refl

  -- The one is not before a reply of its own with a smaller index.
  own-not-behind : (is_own entry other && nat_lt other.reply.index entry.reply.index) ≡ true → is_before entry other ≡ false
  own-not-behind h =
      let parts = and_parts (is_own entry other) (nat_lt other.reply.index entry.reply.index) h in
      let own = and_parts (eqb other.reply.round entry.reply.round) (is_same other.reply.who entry.reply.who) parts.0 in
      let facts = equal-not other.reply.round entry.reply.round own.0 in
      let less = less-not other.reply.index entry.reply.index parts.1 in
      rw (facts.1, facts.2, same-turned entry.reply.who other.reply.who ∙ own.1, less.0) refl

  -- A reply of its own with a greater index is not before the one.
  rest-not-before : (is_own entry other && nat_lt entry.reply.index other.reply.index) ≡ true → is_before other entry ≡ false
  rest-not-before h =
      let parts = and_parts (is_own entry other) (nat_lt entry.reply.index other.reply.index) h in
      let own = and_parts (eqb other.reply.round entry.reply.round) (is_same other.reply.who entry.reply.who) parts.0 in
      let facts = equal-not other.reply.round entry.reply.round own.0 in
      let less = less-not entry.reply.index other.reply.index parts.1 in
      rw (facts.0, own.0, own.1, less.0) refl

  -- The one is before a reply of its own with a greater index.
  rest-behind : (is_own entry other && nat_lt entry.reply.index other.reply.index) ≡ true → is_before entry other ≡ true
  rest-behind h =
      let parts = and_parts (is_own entry other) (nat_lt entry.reply.index other.reply.index) h in
      let own = and_parts (eqb other.reply.round entry.reply.round) (is_same other.reply.who entry.reply.who) parts.0 in
      let facts = equal-not other.reply.round entry.reply.round own.0 in
      rw (facts.1, facts.2, same-turned entry.reply.who other.reply.who ∙ own.1, parts.1) refl

-- A reply is not before itself.
not-before-itself : (entry : Entry) → is_before entry entry ≡ false
not-before-itself entry =
    let round : nat_lt entry.reply.round entry.reply.round ≡ false = grind (arith, nat_tests) in
    let equal : eqb entry.reply.round entry.reply.round ≡ true = grind (arith, nat_tests) in
    let index : nat_lt entry.reply.index entry.reply.index ≡ false = grind (arith, nat_tests) in
    rw (round, equal, same-itself entry.reply.who, index) refl

-- ---- the sides, kept or left

module _ (q : Entry → Bool) where
  -- What a test keeps of the replies about one is what it keeps of each of the six sides.
  split-six : (a b c : List Entry) (entry : Entry) (d e f : List Entry)
      → filter q (a ++ (b ++ (c ++ entry ∷ (d ++ (e ++ f))))) ≡ filter q a ++ (filter q b ++ (filter q c ++ (cond (q entry) (entry ∷ (filter q d ++ (filter q e ++ filter q f))) (filter q d ++ (filter q e ++ filter q f)))))
  split-six a b c entry d e f =
      filter-append q a (b ++ (c ++ entry ∷ (d ++ (e ++ f))))
      ∙ ap (λ xs. filter q a ++ xs) (filter-append q b (c ++ entry ∷ (d ++ (e ++ f)))
      ∙ ap (λ xs. filter q b ++ xs) (filter-append q c (entry ∷ (d ++ (e ++ f)))
      ∙ ap (λ xs. filter q c ++ cond (q entry) (entry ∷ xs) xs) (filter-append q d (e ++ f) ∙ ap (λ xs. filter q d ++ xs) (filter-append q e f))))

-- before a reply are those of earlier rounds and its own in front of it
pub sides-before : (entries : List Entry) (entry : Entry) (sides : Sides entries entry) → before entries entry ≡ sides.past ++ sides.own
sides-before entries entry sides =
    let q : Entry → Bool = λ other. is_before other entry in
    let kept_past = keep-all (is_past entry) q (past-before entry) sides.past sides.past_are in
    let kept_front = keep-none (is_beside entry) q (beside-not-before entry) sides.front sides.front_are in
    let kept_own = keep-all (λ other. is_own entry other && nat_lt other.reply.index entry.reply.index) q (own-before entry) sides.own sides.own_are in
    let kept_rest = keep-none (λ other. is_own entry other && nat_lt entry.reply.index other.reply.index) q (rest-not-before entry) sides.rest sides.rest_are in
    let kept_back = keep-none (is_beside entry) q (beside-not-before entry) sides.back sides.back_are in
    let kept_later = keep-none (λ other. is_past other entry) q (λ other h. past-not-behind other entry h) sides.later sides.later_are in
    ap (filter q) sides.whole
    ∙ split-six q sides.past sides.front sides.own entry sides.rest sides.back sides.later
    ∙ rw (kept_past, kept_front, kept_own, kept_rest, kept_back, kept_later, not-before-itself entry, append-nil) refl

-- not after it are these, itself, and the others' of its round
pub sides-not_after : (entries : List Entry) (entry : Entry) (sides : Sides entries entry) → not_after entries entry ≡ sides.past ++ (sides.front ++ (sides.own ++ entry ∷ sides.back))
sides-not_after entries entry sides =
    let q : Entry → Bool = λ other. is_not_after other entry in
    let kept_past = keep-all (is_past entry) q (λ other h. not_from_false (is_before entry other) (past-not-behind entry other h)) sides.past sides.past_are in
    let kept_front = keep-all (is_beside entry) q (λ other h. not_from_false (is_before entry other) (beside-not-behind entry other h)) sides.front sides.front_are in
    let kept_own = keep-all (λ other. is_own entry other && nat_lt other.reply.index entry.reply.index) q (λ other h. not_from_false (is_before entry other) (own-not-behind entry other h)) sides.own sides.own_are in
    let kept_rest = keep-none (λ other. is_own entry other && nat_lt entry.reply.index other.reply.index) q (λ other h. not_from_true (is_before entry other) (rest-behind entry other h)) sides.rest sides.rest_are in
    let kept_back = keep-all (is_beside entry) q (λ other h. not_from_false (is_before entry other) (beside-not-behind entry other h)) sides.back sides.back_are in
    let kept_later = keep-none (λ other. is_past other entry) q (λ other h. not_from_true (is_before entry other) (past-before other entry h)) sides.later sides.later_are in
    ap (filter q) sides.whole
    ∙ split-six q sides.past sides.front sides.own entry sides.rest sides.back sides.later
    ∙ rw (kept_past, kept_front, kept_own, kept_rest, kept_back, kept_later, not-before-itself entry, append-nil) refl

-- after it are its own behind it and those of later rounds
pub sides-after : (entries : List Entry) (entry : Entry) (sides : Sides entries entry) → after entries entry ≡ sides.rest ++ sides.later
sides-after entries entry sides =
    let q : Entry → Bool = λ other. is_before entry other in
    let kept_past = keep-none (is_past entry) q (past-not-behind entry) sides.past sides.past_are in
    let kept_front = keep-none (is_beside entry) q (beside-not-behind entry) sides.front sides.front_are in
    let kept_own = keep-none (λ other. is_own entry other && nat_lt other.reply.index entry.reply.index) q (own-not-behind entry) sides.own sides.own_are in
    let kept_rest = keep-all (λ other. is_own entry other && nat_lt entry.reply.index other.reply.index) q (rest-behind entry) sides.rest sides.rest_are in
    let kept_back = keep-none (is_beside entry) q (beside-not-behind entry) sides.back sides.back_are in
    let kept_later = keep-all (λ other. is_past other entry) q (λ other h. past-before other entry h) sides.later sides.later_are in
    ap (filter q) sides.whole
    ∙ split-six q sides.past sides.front sides.own entry sides.rest sides.back sides.later
    ∙ rw (kept_past, kept_front, kept_own, kept_rest, kept_back, kept_later, not-before-itself entry) refl

-- ---- sums

module _ (f : Entry → ℕ) where
  -- A sum with one reply more in front is its value and the sum of the others.
  sum-cons : (entry : Entry) (entries : List Entry) → sum_by f (entry ∷ entries) ≡ f entry + sum_by f entries
  sum-cons entry entries = sum_by-cons f entry entries

  -- A sum over two lists, a reply and two more lists is added up of these.
  sum-round : (a b : List Entry) (entry : Entry) (c d : List Entry)
      → sum_by f (a ++ (b ++ entry ∷ (c ++ d))) ≡ sum_by f a + (sum_by f b + (f entry + (sum_by f c + sum_by f d)))
  sum-round a b entry c d =
      sum_by-append f a (b ++ entry ∷ (c ++ d))
      ∙ ap (λ n. sum_by f a + n) (sum_by-append f b (entry ∷ (c ++ d))
      ∙ ap (λ n. sum_by f b + n) (sum-cons entry (c ++ d) ∙ ap (λ n. f entry + n) (sum_by-append f c d)))

  -- A sum over three lists, a reply and one more list is added up of these.
  sum-not_after : (a b c : List Entry) (entry : Entry) (d : List Entry)
      → sum_by f (a ++ (b ++ (c ++ entry ∷ d))) ≡ sum_by f a + (sum_by f b + (sum_by f c + (f entry + sum_by f d)))
  sum-not_after a b c entry d =
      sum_by-append f a (b ++ (c ++ entry ∷ d))
      ∙ ap (λ n. sum_by f a + n) (sum_by-append f b (c ++ entry ∷ d)
      ∙ ap (λ n. sum_by f b + n) (sum_by-append f c (entry ∷ d) ∙ ap (λ n. sum_by f c + n) (sum-cons entry d)))

  -- a sum over those before it
  pub sums-before : (entries : List Entry) (entry : Entry) (sides : Sides entries entry) → sum_by f (before entries entry) ≡ sum_by f sides.past + sum_by f sides.own
  sums-before entries entry sides = ap (sum_by f) (sides-before entries entry sides) ∙ sum_by-append f sides.past sides.own

  -- a sum over those not after it and its own behind it, by earlier rounds and its round
  pub sums-not_after : (entries : List Entry) (entry : Entry) (sides : Sides entries entry)
      → sum_by f (not_after entries entry) + sum_by f sides.rest ≡ sum_by f sides.past + sum_by f (round_about sides)
  sums-not_after entries entry sides =
      let left = ap (sum_by f) (sides-not_after entries entry sides) ∙ sum-not_after sides.past sides.front sides.own entry sides.back in
      let right = sum-round sides.front sides.own entry sides.rest sides.back in
      omega (arith, left, right)
