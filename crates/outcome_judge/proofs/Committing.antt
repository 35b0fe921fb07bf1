-- Commits before a reply that wrote a place, by the highest number that is told before it.
use Rattle.std.proofs.Common.{◌≡◌, ℕ, ◌≤◌, max, Bool, true, false, cond, ◌&&◌, ◌||◌, not, eqb, nat_lt, nat_le, List, [], ◌∷◌, Option, None, Some, refl, sym, ap, ◌∙◌, subst, arith}
use Rattle.std.specs.List.{filter, find, list_all, list_any}
use Rattle.std.specs.Option.{option_map_or}
use Rattle.std.specs.Prelude.{if◌then◌else◌, ◌==◌}
use Rattle.std.proofs.lemmas.Bool.{and_parts, and_from, eqb-true, or_right, or_left}
use Rattle.std.proofs.lemmas.Bool.Decides.{nat_tests}
use Rattle.workload_spec.specs.declared.reply.Who.{Who}
use Rattle.outcome_spec.specs.Entries.{Entry, before, commit_in, is_before, is_reply, is_same}
use Rattle.outcome_spec.specs.Runs.{commit_line, commits_as}
use Rattle.mark_index.specs.Marks.{highest}
use Rattle.order_laws.proofs.Places.{same-is}
use Rattle.order_laws.proofs.Order.{same-itself}
use Rattle.outcome_counts.proofs.Shown.{both-ways}
use Rattle.outcome_judge.specs.Writers.{is_line_of, is_number_in, number_told}
use Rattle.outcome_judge.proofs.Spans.{found-in}
use Rattle.outcome_judge.proofs.Tops.{any-filter}

-- ---- what is in a list

-- the list has the element
abbrev pub Among : {X : Type 0} → X → List X → Type 0
Among {X} x xs = (q : X → Bool) → q x ≡ true → list_any q xs ≡ true

-- A list has its first element.
among-first : {X : Type 0} (x : X) (xs : List X) → Among x (x ∷ xs)
among-first x xs q is = or_left (q x) (list_any q xs) is

-- What a list has it has with one element more in front.
among-behind : {X : Type 0} (x y : X) (xs : List X) → Among x xs → Among x (y ∷ xs)
among-behind x y xs h q is = or_right (q y) (list_any q xs) (h q is)

-- Where all elements pass, none fails.
none-fails : {X : Type 0} (p : X → Bool) (xs : List X) → list_all p xs ≡ true → list_any (λ x. not (p x)) xs ≡ false
none-fails p [] h = refl
none-fails p (x ∷ xs) h =
    let parts = and_parts (p x) (list_all p xs) h in
    ap (λ (b : Bool). not b || list_any (λ y. not (p y)) xs) parts.0 ∙ none-fails p xs parts.1

-- what all of a list pass, one that it has passes
pub all-at : {X : Type 0} (p : X → Bool) (xs : List X) (x : X) → list_all p xs ≡ true → Among x xs → p x ≡ true
all-at p xs x h among = by (p x) refl
  where
    by : (b : Bool) → p x ≡ b → b ≡ true
    by true is = refl
    by false is = absurd (let e : list_any (λ y. not (p y)) xs ≡ true = among (λ y. not (p y)) (ap not is) in let f = none-fails p xs h in let never : true ≡ false = sym e ∙ f in let impossible : ⊥ = cc in impossible)

-- Where each element that a list has passes, all pass.
all-from : {X : Type 0} (p : X → Bool) (xs : List X) → ((x : X) → Among x xs → p x ≡ true) → list_all p xs ≡ true
all-from p [] h = refl
all-from p (x ∷ xs) h = and_from (p x) (list_all p xs) (h x (among-first x xs)) (all-from p xs (λ y among. h y (among-behind y x xs among)))

-- All that a test keeps pass it.
filter-passes : {X : Type 0} (p : X → Bool) (xs : List X) → list_all p (filter p xs) ≡ true
filter-passes p [] = refl
filter-passes p (x ∷ xs) = by (p x) refl (filter-passes p xs)
  where
    by : (b : Bool) → p x ≡ b → list_all p (filter p xs) ≡ true → list_all p (filter p (x ∷ xs)) ≡ true
    by true is rest = rw (is, is) rest
    by false is rest = rw is rest

-- An element that a list has and that passes is among those kept.
among-filter : {X : Type 0} (p : X → Bool) (xs : List X) (x : X) → Among x xs → p x ≡ true → Among x (filter p xs)
among-filter p xs x among is q its = any-filter q p xs ∙ among (λ y. q y && p y) (and_from (q x) (p x) its is)

-- ---- the highest

-- Where no value is above a bound, the highest is not.
highest-within : {X : Type 0} (value : X → ℕ) (bound : ℕ) (xs : List X) → ((x : X) → Among x xs → value x ≤ bound) → highest value xs ≤ bound
highest-within value bound [] h = omega arith
highest-within value bound (x ∷ xs) h =
    let first = h x (among-first x xs) in
    let rest = highest-within value bound xs (λ y among. h y (among-behind y x xs among)) in
    omega (arith, first, rest)

-- Where some value is at least a number, the highest is at least that.
any-low : {X : Type 0} (value : X → ℕ) (n : ℕ) (xs : List X) → list_any (λ x. nat_le n (value x)) xs ≡ true → n ≤ highest value xs
any-low value n [] h = absurd (let never : ⊥ = cc in never)
any-low value n (x ∷ xs) h = by (nat_le n (value x)) refl h (any-low value n xs)
  where
    by : (b : Bool) → nat_le n (value x) ≡ b → (b || list_any (λ y. nat_le n (value y)) xs) ≡ true → (list_any (λ y. nat_le n (value y)) xs ≡ true → n ≤ highest value xs) → n ≤ max (value x) (highest value xs)
    by true is k rest = let low : n ≤ value x = grind (arith, nat_tests, is) in omega (arith, low)
    by false is k rest = let low = rest k in omega (arith, low)

-- The highest is no less than the value of an element.
highest-above : {X : Type 0} (value : X → ℕ) (xs : List X) (x : X) → Among x xs → value x ≤ highest value xs
highest-above value xs x among = any-low value (value x) xs (among (λ y. nat_le (value x) (value y)) (grind (arith, nat_tests)))

-- ---- lines

pub record LineOf {X : Type 0} (p : X → Bool) (xs : List X) (x : X) : Type 0 where
  pub passes : p x ≡ true
  pub among : Among x xs

-- what is found passes, and is in the list
pub line-of : {X : Type 0} (p : X → Bool) (xs : List X) (x : X) → find p xs ≡ Some x → LineOf p xs x
line-of p [] x h = absurd (let never : ⊥ = cc in never)
line-of {X = X} p (y ∷ xs) x h = by (p y) refl h (line-of p xs x)
  where
    by : (b : Bool) → p y ≡ b → cond b (Some y) (find p xs) ≡ Some x → (find p xs ≡ Some x → LineOf p xs x) → LineOf p (y ∷ xs) x
    by true is k rest = let e : y ≡ x = cc in subst (LineOf p (y ∷ xs)) e (record { passes = is; among = among-first y xs })
    by false is k rest = let later = rest k in record { passes = later.passes; among = among-behind x y xs later.among }

-- a reply is itself
pub reply-itself : (x : Entry) → is_reply x x ≡ true
reply-itself x = and_from (eqb x.reply.round x.reply.round && is_same x.reply.who x.reply.who) (eqb x.reply.index x.reply.index)
    (and_from (eqb x.reply.round x.reply.round) (is_same x.reply.who x.reply.who) (grind (arith, nat_tests)) (same-itself x.reply.who)) (grind (arith, nat_tests))

-- one reply stands before another as often as it does
reply-before : (x y entry : Entry) → is_reply x y ≡ true → is_before x entry ≡ is_before y entry
reply-before x y entry h =
    let outer = and_parts (eqb x.reply.round y.reply.round && is_same x.reply.who y.reply.who) (eqb x.reply.index y.reply.index) h in
    let inner = and_parts (eqb x.reply.round y.reply.round) (is_same x.reply.who y.reply.who) outer.0 in
    let round : x.reply.round ≡ y.reply.round = eqb-true x.reply.round y.reply.round inner.0 in
    let index : x.reply.index ≡ y.reply.index = eqb-true x.reply.index y.reply.index outer.1 in
    let who = same-is x.reply.who y.reply.who inner.1 in
    ap (λ (n : ℕ). nat_lt n entry.reply.round || ((eqb n entry.reply.round && is_same x.reply.who entry.reply.who) && nat_lt x.reply.index entry.reply.index)) round
    ∙ ap (λ (w : Who). nat_lt y.reply.round entry.reply.round || ((eqb y.reply.round entry.reply.round && is_same w entry.reply.who) && nat_lt x.reply.index entry.reply.index)) who
    ∙ ap (λ (n : ℕ). nat_lt y.reply.round entry.reply.round || ((eqb y.reply.round entry.reply.round && is_same y.reply.who entry.reply.who) && nat_lt n entry.reply.index)) index

-- A number that is tested to be the one shown is shown.
shown-is : (number : ℕ) (shown : Option ℕ) → option_map_or (λ n. n == number) shown false ≡ true → shown ≡ Some number
shown-is number None h = absurd (let never : ⊥ = cc in never)
shown-is number (Some n) h = ap (λ (k : ℕ). Some k) (eqb-true n number h)

-- ---- none of the numbers above a bound is before

module _ (entries : List Entry) (entry : Entry) (numbers : List ℕ) where
  -- The number of which a reply is the line, if it is one of these, else zero.
  abbrev value : Entry → ℕ
  value x = number_told entries numbers x

  -- the line of the number stands before the reply
  abbrev pub comes_before : ℕ → Bool
  comes_before number = option_map_or (λ line. is_before line entry) (commit_line entries number) false

  -- the number is up to the bound, or its line does not come before
  abbrev pub is_free : ℕ → ℕ → Bool
  is_free bound later = nat_le later bound || not (comes_before later)

  -- A number that is tested to be in the list is one that it has.
  number-among : (number : ℕ) → is_number_in numbers number ≡ true → Among number numbers
  number-among number h q is =
      let at = found-in (λ its. its == number) numbers h in
      at.found q (ap q (eqb-true at.item number at.passes) ∙ is)

  -- the line of a number comes before where the reply that is it does
  line-before : (number : ℕ) (x : Entry) → is_line_of entries number x ≡ true → is_before x entry ≡ true → comes_before number ≡ true
  line-before number x h is = by (commit_line entries number) h
    where
      by : (line : Option Entry) → option_map_or (λ l. is_reply l x) line false ≡ true → option_map_or (λ l. is_before l entry) line false ≡ true
      by None k = absurd (let never : ⊥ = cc in never)
      by (Some line) k = reply-before line x entry k ∙ is

  module _ (snapshot bound : ℕ) (low : snapshot ≤ bound) where
    each-low : list_all (is_free bound) (filter (nat_lt snapshot) numbers) ≡ true → (x : Entry) → Among x (before entries entry) → value x ≤ bound
    each-low h x among = by-number (commit_in x.reply.said)
      where
        stands : is_before x entry ≡ true
        stands = all-at (λ y. is_before y entry) (before entries entry) x (filter-passes (λ y. is_before y entry) entries) among

        high : (number : ℕ) → is_line_of entries number x ≡ true → is_number_in numbers number ≡ true → (b : Bool) → nat_le number bound ≡ b → number ≤ bound
        high number line is true k = grind (arith, nat_tests, k)
        high number line is false k =
            let above : nat_lt snapshot number ≡ true = grind (arith, nat_tests, k, low) in
            let free : is_free bound number ≡ true = all-at (is_free bound) (filter (nat_lt snapshot) numbers) number h (among-filter (nat_lt snapshot) numbers number (number-among number is) above) in
            let comes = line-before number x line stands in
            let e : (false || not true) ≡ true = ap (λ (b : Bool). b || not true) (sym k) ∙ ap (λ (b : Bool). nat_le number bound || not b) (sym comes) ∙ free in
            absurd (let never : ⊥ = cc in never)

        by-test : (number : ℕ) (b : Bool) → (is_line_of entries number x && is_number_in numbers number) ≡ b → (if b then number else 0) ≤ bound
        by-test number true is = let parts = and_parts (is_line_of entries number x) (is_number_in numbers number) is in high number parts.0 parts.1 (nat_le number bound) refl
        by-test number false is = omega arith

        by-number : (shown : Option ℕ) → option_map_or (λ number. if is_line_of entries number x && is_number_in numbers number then number else 0) shown 0 ≤ bound
        by-number None = omega arith
        by-number (Some number) = by-test number (is_line_of entries number x && is_number_in numbers number) refl

    each-free : highest value (before entries entry) ≤ bound → (later : ℕ) → Among later (filter (nat_lt snapshot) numbers) → is_free bound later ≡ true
    each-free h later among = by (commit_line entries later) refl
      where
        inside : is_number_in numbers later ≡ true
        inside =
            let at = found-in (λ x. (x == later) && nat_lt snapshot x) numbers (sym (any-filter (λ its. its == later) (nat_lt snapshot) numbers) ∙ among (λ its. its == later) (grind (arith, nat_tests))) in
            at.found (λ its. its == later) (and_parts (at.item == later) (nat_lt snapshot at.item) at.passes).0

        told : (line : Entry) → commit_line entries later ≡ Some line → is_before line entry ≡ true → later ≤ bound
        told line is stands =
            let its = line-of (commits_as later) entries line is in
            let shown = shown-is later (commit_in line.reply.said) its.passes in
            let own : is_line_of entries later line ≡ true = ap (λ (o : Option Entry). option_map_or (λ l. is_reply l line) o false) is ∙ reply-itself line in
            let worth : value line ≡ later =
            ap (λ (o : Option ℕ). option_map_or (λ number. if is_line_of entries number line && is_number_in numbers number then number else 0) o 0) shown
            ∙ ap (λ (b : Bool). if b && is_number_in numbers later then later else 0) own ∙ ap (λ (b : Bool). if b then later else 0) inside in
            let most = highest-above value (before entries entry) line (among-filter (λ y. is_before y entry) entries line its.among stands) in
            omega (arith, worth, most, h)

        by-before : (line : Entry) → commit_line entries later ≡ Some line → (b : Bool) → is_before line entry ≡ b → (nat_le later bound || not b) ≡ true
        by-before line is true stands = or_left (nat_le later bound) false (let l = told line is stands in grind (arith, nat_tests, l))
        by-before line is false stands = or_right (nat_le later bound) true refl

        by : (line : Option Entry) → commit_line entries later ≡ line → is_free bound later ≡ true
        by None is = ap (λ (o : Option Entry). nat_le later bound || not (option_map_or (λ l. is_before l entry) o false)) is ∙ or_right (nat_le later bound) true refl
        by (Some line) is = ap (λ (o : Option Entry). nat_le later bound || not (option_map_or (λ l. is_before l entry) o false)) is ∙ by-before line is (is_before line entry) refl

    -- the highest number told before the reply keeps to a bound where each does, or comes later
    pub none-above : nat_le (highest value (before entries entry)) bound ≡ list_all (is_free bound) (filter (nat_lt snapshot) numbers)
    none-above = both-ways _ _
        (λ h. all-from (is_free bound) (filter (nat_lt snapshot) numbers) (each-free (grind (arith, nat_tests, h))))
        (λ h. let l = highest-within value bound (before entries entry) (each-low h) in grind (arith, nat_tests, l))
