-- Marks that follow the elements one by one.
use Rattle.std.proofs.Common.{◌≡◌, ℕ, ◌+◌, ◌-◌, ◌*◌, ◌^◌, ◌<◌, ◌≤◌, ◌⊎◌, inl, inr, max, zero, suc, Bool, true, false, cond, List, [], ◌∷◌, ◌++◌, length, take, drop, get_or, nat_lt, Option, None, Some, refl, sym, ap, ◌∙◌, subst, arith, append_assoc, append-nil, zero-add, Result, Ok, Err, OnOk}
use Rattle.std.specs.List.{filter, last_or, list_all, count_by, sum_by}
use Rattle.std.specs.List.Sorted.{IsNonDecreasingBy}
use Rattle.std.specs.Option.{option_map_or}
use Rattle.std.specs.Prelude.{if◌then◌else◌}
use Rattle.std.proofs.lemmas.Bool.{and_parts, and_from, ltb-true, cases_lt, lt-ltb, le-ltb}
use Rattle.std.proofs.lemmas.List.{take_at, length-append, drop-append-le, drop_all, length-take-le}
use Rattle.std.proofs.lemmas.List.Elements.{filter-append}
use Rattle.std.proofs.lemmas.List.Folds.{list_all-append}
use Rattle.std.proofs.lemmas.List.Sums.{sum_by-cons, sum_by-append}
use Rattle.std.proofs.lemmas.List.Sorted.{IsNonDecreasingBy-push}
use Rattle.mark_index.specs.declared.marks.Peak.{Peak}
use Rattle.mark_index.specs.declared.marks.Sum.{Sum}
use Rattle.mark_index.specs.Marks.{highest, part, count_below, AreCounted, last_below, most_below, own_below, ArePeaks, AreStarts, next_peak, AreSums, last_sum, total_below, next_sum}

-- what follows where a result is one that went well
pub on-ok : {T E : Type 0} (P Q : Type 0) (r : Result T E) → (P → Q) → OnOk r P → OnOk r Q
on-ok P Q (Ok x) f h = f h
on-ok P Q (Err e) f h = tt

-- ---- tests that all pass

-- what passes a test passes one that it implies
pub all-weaker : {X : Type 0} (p q : X → Bool) → ((x : X) → p x ≡ true → q x ≡ true) → (xs : List X) → list_all p xs ≡ true → list_all q xs ≡ true
all-weaker p q so [] h = refl
all-weaker p q so (x ∷ xs) h =
    let parts = and_parts (p x) (list_all p xs) h in
    and_from (q x) (list_all q xs) (so x parts.0) (all-weaker p q so xs parts.1)

-- where all elements pass, the one at each place does
pub all-get : {X : Type 0} (p : X → Bool) (xs : List X) (i : ℕ) (d : X) → i < length xs → list_all p xs ≡ true → p (get_or xs i d) ≡ true
all-get p [] i d within h = absurd (omega (arith, within))
all-get p (x ∷ xs) zero d within h = (and_parts (p x) (list_all p xs) h).0
all-get p (x ∷ xs) (suc i) d within h = all-get p xs i d (omega (arith, within)) (and_parts (p x) (list_all p xs) h).1

-- where all elements pass and one more does, all of them with it do
pub all-push : {X : Type 0} (p : X → Bool) (xs : List X) (x : X) → list_all p xs ≡ true → p x ≡ true → list_all p (xs ++ x ∷ []) ≡ true
all-push p xs x h k = list_all-append p xs (x ∷ []) ∙ rw (h, k) refl

-- where all elements pass the test, it keeps them all
pub filter-all : {X : Type 0} (p : X → Bool) (xs : List X) → list_all p xs ≡ true → filter p xs ≡ xs
filter-all p [] h = refl
filter-all p (x ∷ xs) h =
    let parts = and_parts (p x) (list_all p xs) h in
    rw parts.0 (ap (λ (ys : List _). x ∷ ys) (filter-all p xs parts.1))

-- where all pass all are counted
pub count-all : {X : Type 0} (p : X → Bool) (xs : List X) → list_all p xs ≡ true → count_by p xs ≡ length xs
count-all p [] h = refl
count-all p (x ∷ xs) h =
    let parts = and_parts (p x) (list_all p xs) h in
    let rest = count-all p xs parts.1 in
    sum_by-cons (λ y. cond (p y) 1 0) x xs ∙ rw parts.0 (omega (arith, rest))

-- how many pass with one element more
pub count-push : {X : Type 0} (p : X → Bool) (xs : List X) (x : X) → count_by p (xs ++ x ∷ []) ≡ count_by p xs + cond (p x) 1 0
count-push p xs x =
    let whole = sum_by-append (λ y. cond (p y) 1 0) xs (x ∷ []) in
    let one : 0 + cond (p x) 1 0 ≡ cond (p x) 1 0 = zero-add (cond (p x) 1 0) in
    whole ∙ ap (λ (k : ℕ). count_by p xs + k) one

-- Places that are all below a number are all below one that is no less.
lower : {X : Type 0} (place : X → ℕ) (m n : ℕ) → m ≤ n → (xs : List X) → list_all (λ x. nat_lt (place x) m) xs ≡ true → list_all (λ x. nat_lt (place x) n) xs ≡ true
lower place m n h xs k = all-weaker (λ x. nat_lt (place x) m) (λ x. nat_lt (place x) n) (λ x is. lt-ltb (place x) n (let low = ltb-true (place x) m is in omega (arith, low, h))) xs k

-- elements that rise by their places do so with one behind them that is above all
pub rises-push : {X : Type 0} (place : X → ℕ) (xs : List X) (x : X) → IsNonDecreasingBy place xs → list_all (λ y. nat_lt (place y) (place x)) xs ≡ true → IsNonDecreasingBy place (xs ++ x ∷ [])
rises-push place xs x rise within =
    IsNonDecreasingBy-push place xs x rise
    (λ d some. let last = ltb-true (place (get_or xs (length xs - 1) d)) (place x) (all-get (λ y. nat_lt (place y) (place x)) xs (length xs - 1) d (omega (arith, some)) within) in omega (arith, last))

-- a place is up to another or the next
pub up-to-next : (place n : ℕ) → place ≤ n + 1 → (place ≤ n) ⊎ (place ≡ n + 1)
up-to-next place n h = by (cases_lt n place)
  where
    by : (n < place) ⊎ (place ≤ n) → (place ≤ n) ⊎ (place ≡ n + 1)
    by (inl above) = inr (omega (arith, above, h))
    by (inr low) = inl low

-- ---- an element more

module _ {X : Type 0} (xs front : List X) (x : X) (rest : List X) (n : ℕ) (whole : xs ≡ front ++ x ∷ rest) (far : length front ≡ n) where
  -- the elements up to the next are those in front of it
  pub take-front : take n xs ≡ front
  take-front = ap (take n) whole ∙ take_at front (x ∷ rest) n far

  -- and with the next one they are one more
  pub take-next : take (n + 1) xs ≡ take n xs ++ x ∷ []
  take-next =
      let long : length (front ++ x ∷ []) ≡ n + 1 = length-append front (x ∷ []) ∙ ap (λ (k : ℕ). k + 1) far in
      ap (take (n + 1)) (whole ∙ sym (append_assoc front (x ∷ []) rest)) ∙ take_at (front ++ x ∷ []) rest (n + 1) long ∙ ap (λ ys. ys ++ x ∷ []) (sym take-front)

  -- ---- counts

  module _ (test : X → Bool) (places : List ℕ) (counted : AreCounted test xs n places) where
    all-counted : (k : ℕ) → n ≤ k → count_below k places ≡ length places
    all-counted k h = count-all (λ place. nat_lt place k) places (lower (λ p. p) n k h places counted.within)

    count-next : count_by test (take (n + 1) xs) ≡ count_by test (take n xs) + cond (test x) 1 0
    count-next = ap (count_by test) take-next ∙ count-push test (take n xs) x

    same-count : count_by test (take n xs) ≡ length places
    same-count = sym (counted.count n (omega arith)) ∙ all-counted n (omega arith)

    by-no : test x ≡ false → (place : ℕ) → (place ≤ n) ⊎ (place ≡ n + 1) → count_below place places ≡ count_by test (take place xs)
    by-no fails place (inl low) = counted.count place low
    by-no fails place (inr at) =
        let next : count_by test (take (n + 1) xs) ≡ length places = count-next ∙ ap (λ (b : Bool). count_by test (take n xs) + cond b 1 0) fails ∙ (let s = same-count in omega (arith, s)) in
        rw at (all-counted (n + 1) (omega arith) ∙ sym next)

    -- an element that fails leaves the places as they are
    pub counted-no : test x ≡ false → AreCounted test xs (n + 1) places
    counted-no fails = record {
      rise = counted.rise;
      within = lower (λ p. p) n (n + 1) (omega arith) places counted.within;
      count = λ place h. by-no fails place (up-to-next place n h);
    }

    pushed-count : (k : ℕ) → count_below k (places ++ n ∷ []) ≡ count_below k places + cond (nat_lt n k) 1 0
    pushed-count k = count-push (λ y. nat_lt y k) places n

    by-yes : test x ≡ true → (place : ℕ) → (place ≤ n) ⊎ (place ≡ n + 1) → count_below place (places ++ n ∷ []) ≡ count_by test (take place xs)
    by-yes passes place (inl low) =
        let late : nat_lt n place ≡ false = le-ltb n place low in
        let pushed : count_below place (places ++ n ∷ []) ≡ count_below place places + 0 = pushed-count place ∙ ap (λ (b : Bool). count_below place places + cond b 1 0) late in
        let old = counted.count place low in
        omega (arith, pushed, old)
    by-yes passes place (inr at) =
        let here : nat_lt n (n + 1) ≡ true = lt-ltb n (n + 1) (omega arith) in
        let pushed : count_below (n + 1) (places ++ n ∷ []) ≡ length places + 1 = pushed-count (n + 1) ∙ ap (λ (b : Bool). count_below (n + 1) places + cond b 1 0) here ∙ ap (λ (k : ℕ). k + 1) (all-counted (n + 1) (omega arith)) in
        let next : count_by test (take (n + 1) xs) ≡ length places + 1 = count-next ∙ ap (λ (b : Bool). count_by test (take n xs) + cond b 1 0) passes ∙ ap (λ (k : ℕ). k + 1) same-count in
        rw at (pushed ∙ sym next)

    -- one that passes puts its place behind the others
    pub counted-yes : test x ≡ true → AreCounted test xs (n + 1) (places ++ n ∷ [])
    counted-yes passes = record {
      rise = rises-push (λ p. p) places n counted.rise counted.within;
      within = all-push (λ place. nat_lt place (n + 1)) places n (lower (λ p. p) n (n + 1) (omega arith) places counted.within) (lt-ltb n (n + 1) (omega arith));
      count = λ place h. by-yes passes place (up-to-next place n h);
    }

-- ---- the highest

-- the highest value with one element more
pub highest-push : {X : Type 0} (value : X → ℕ) (xs : List X) (x : X) → highest value (xs ++ x ∷ []) ≡ max (highest value xs) (value x)
highest-push value [] x = omega arith
highest-push value (y ∷ xs) x = let rest = highest-push value xs x in omega (arith, rest)

-- the highest value of two lists in a row
pub highest-append : {X : Type 0} (value : X → ℕ) (xs ys : List X) → highest value (xs ++ ys) ≡ max (highest value xs) (highest value ys)
highest-append value [] ys = omega arith
highest-append value (x ∷ xs) ys = let rest = highest-append value xs ys in omega (arith, rest)

-- the last of a list with one element more is this element
pub last-push : {X : Type 0} (first : Option X) (xs : List X) (x : X) → last_or first (xs ++ x ∷ []) ≡ Some x
last-push first [] x = refl
last-push first (y ∷ xs) x = last-push (Some y) xs x

module _ {X : Type 0} (value : X → ℕ) (starts : ℕ → ℕ) (xs front : List X) (x : X) (rest : List X) (n : ℕ) (whole : xs ≡ front ++ x ∷ rest) (far : length front ≡ n)
    (begins : AreStarts xs starts) (peaks : List Peak) (noted : ArePeaks value starts xs n peaks) where
  -- The place of the next element is within the list.
  long : n < length xs
  long = let l = ap length whole in let m = length-append front (x ∷ rest) in omega (arith, l, m, far)

  -- All peaks are below the next element's place and each one behind it.
  all-below : (k : ℕ) → n ≤ k → filter (λ peak. nat_lt peak.place k) peaks ≡ peaks
  all-below k h = filter-all (λ peak. nat_lt peak.place k) peaks (lower (λ (p : Peak). p.place) n k h peaks noted.within)

  -- The last peak below the place behind the next element is the one below its own.
  last-next : last_below (n + 1) peaks ≡ last_below n peaks
  last-next = ap (last_or None) (all-below (n + 1) (omega arith) ∙ sym (all-below n (omega arith)))

  -- With the next element the highest value is the greater of the old one and its own.
  highest-next : highest value (take (n + 1) xs) ≡ max (highest value (take n xs)) (value x)
  highest-next = ap (highest value) (take-next xs front x rest n whole far) ∙ highest-push value (take n xs) x

  -- the part up to the next place
  part-next : (start : ℕ) → start ≤ n → part start (n + 1) xs ≡ part start n xs ++ x ∷ []
  part-next start h = ap (drop start) (take-next xs front x rest n whole far) ∙ drop-append-le start (take n xs) (x ∷ []) (let l = length-take-le n xs (omega (arith, long)) in omega (arith, l, h))

  -- With the next element the highest from a start on is the greater of the old one and its own.
  own-next : (start : ℕ) → start ≤ n → highest value (part start (n + 1) xs) ≡ max (highest value (part start n xs)) (value x)
  own-next start h = ap (highest value) (part-next start h) ∙ highest-push value (part start n xs) x

  -- The part that begins behind the next element and ends there is empty.
  part-none : part (n + 1) (n + 1) xs ≡ []
  part-none = drop_all (n + 1) (take (n + 1) xs) (let l = length-take-le (n + 1) xs (omega (arith, long)) in omega (arith, l))

  -- Where the last peak is below a start, or there is none, zero is told from there on.
  below-start : (start : ℕ) → n < start → (last : Option Peak) → (last ≡ None) ⊎ ((p : Peak) × (last ≡ Some p) × (p.place ≤ n)) → option_map_or (λ peak. if nat_lt peak.place start then 0 else peak.own) last 0 ≡ 0
  below-start start h last (inl none) = rw none refl
  below-start start h last (inr found) = rw (found.1, lt-ltb found.0.place start (let low = found.2 in omega (arith, low, h))) refl

  -- The last of peaks up to a place is up to it, or there is none.
  last-within : (ps : List Peak) (first : Option Peak) → (first ≡ None) ⊎ ((p : Peak) × (first ≡ Some p) × (p.place ≤ n)) → list_all (λ peak. nat_lt peak.place (n + 1)) ps ≡ true
      → (last_or first ps ≡ None) ⊎ ((p : Peak) × (last_or first ps ≡ Some p) × (p.place ≤ n))
  last-within [] first h k = h
  last-within (p ∷ ps) first h k =
      let parts = and_parts (nat_lt p.place (n + 1)) (list_all (λ peak. nat_lt peak.place (n + 1)) ps) k in
      let low = ltb-true p.place (n + 1) parts.0 in
      last-within ps (Some p) (inr (p, refl, omega (arith, low))) parts.1

  -- Where all peaks are below a place, the last below it is the last of all.
  last-is : (k : ℕ) → list_all (λ peak. nat_lt peak.place k) peaks ≡ true → last_below k peaks ≡ last_or None peaks
  last-is k h = ap (last_or None) (filter-all (λ peak. nat_lt peak.place k) peaks h)

  -- All peaks are below the place behind the next element.
  within-next : list_all (λ peak. nat_lt peak.place (n + 1)) peaks ≡ true
  within-next = lower (λ (p : Peak). p.place) n (n + 1) (omega arith) peaks noted.within

  -- ---- no peak more

  -- Where the next value is zero, the peaks tell the highest up to the next place too.
  missed-most : value x ≡ 0 → (place : ℕ) → (place ≤ n) ⊎ (place ≡ n + 1) → most_below place peaks ≡ highest value (take place xs)
  missed-most none place (inl low) = noted.most place low
  missed-most none place (inr at) =
      let old = noted.most n (omega arith) in
      let next : highest value (take (n + 1) xs) ≡ highest value (take n xs) = highest-next ∙ (let e = none in omega (arith, e)) in
      rw at (ap (λ (o : Option Peak). option_map_or (λ peak. peak.most) o 0) last-next ∙ old ∙ sym next)

  -- A part that begins behind the next element has zero by the peaks so far.
  fresh-own : own_below (n + 1) (n + 1) peaks ≡ 0
  fresh-own = below-start (n + 1) (omega arith) (last_below (n + 1) peaks) (subst (λ (o : Option Peak). (o ≡ None) ⊎ ((p : Peak) × (o ≡ Some p) × (p.place ≤ n))) (sym (last-is (n + 1) within-next)) (last-within peaks None (inl refl) within-next))

  -- Where the next value is zero, the peaks tell the highest of the part behind the element.
  missed-own-at : value x ≡ 0 → (n + 1 < length xs) → (starts (n + 1) ≡ n + 1) ⊎ (starts (n + 1) ≡ starts n) → own_below (starts (n + 1)) (n + 1) peaks ≡ highest value (part (starts (n + 1)) (n + 1) xs)
  missed-own-at none inside (inl fresh) = rw fresh (fresh-own ∙ sym (ap (highest value) part-none))
  missed-own-at none inside (inr same) =
      let old = noted.own n (omega arith) long in
      let next : highest value (part (starts n) (n + 1) xs) ≡ highest value (part (starts n) n xs) = own-next (starts n) (begins.up_to n long) ∙ (let e = none in omega (arith, e)) in
      rw same (ap (λ (o : Option Peak). option_map_or (λ peak. if nat_lt peak.place (starts n) then 0 else peak.own) o 0) last-next ∙ old ∙ sym next)

  -- Where the next value is zero, the peaks tell the highest of each place's part.
  missed-own : value x ≡ 0 → (place : ℕ) → place < length xs → (place ≤ n) ⊎ (place ≡ n + 1) → own_below (starts place) place peaks ≡ highest value (part (starts place) place xs)
  missed-own none place inside (inl low) = noted.own place low inside
  missed-own none place inside (inr at) = subst (λ (k : ℕ). own_below (starts k) k peaks ≡ highest value (part (starts k) k xs)) (sym at) (missed-own-at none (omega (arith, inside, at)) (begins.go_on n (omega (arith, inside, at))))

  -- an element whose value is 0 leaves the peaks as they are
  pub peaks-missed : value x ≡ 0 → ArePeaks value starts xs (n + 1) peaks
  peaks-missed none = record {
    rise = noted.rise;
    within = within-next;
    most = λ place h. missed-most none place (up-to-next place n h);
    own = λ place h inside. missed-own none place inside (up-to-next place n h);
  }

  -- ---- a peak more

  -- The peak of the next element.
  abbrev mark : Peak
  mark = next_peak peaks n (starts n) (value x)

  -- The new peak leaves the last one below each place up to its own.
  pushed-old : (k : ℕ) → k ≤ n → last_below k (peaks ++ mark ∷ []) ≡ last_below k peaks
  pushed-old k h =
      ap (last_or None) (filter-append (λ peak. nat_lt peak.place k) peaks (mark ∷ [])
      ∙ ap (λ (b : Bool). filter (λ peak. nat_lt peak.place k) peaks ++ cond b (mark ∷ []) []) (le-ltb n k h) ∙ append-nil (filter (λ peak. nat_lt peak.place k) peaks))

  -- With the new peak all are below the place behind the next element.
  within-pushed : list_all (λ peak. nat_lt peak.place (n + 1)) (peaks ++ mark ∷ []) ≡ true
  within-pushed = all-push (λ peak. nat_lt peak.place (n + 1)) peaks mark within-next (lt-ltb n (n + 1) (omega arith))

  -- The new peak is the last below the place behind the next element.
  pushed-last : last_below (n + 1) (peaks ++ mark ∷ []) ≡ Some mark
  pushed-last = ap (last_or None) (filter-all (λ peak. nat_lt peak.place (n + 1)) (peaks ++ mark ∷ []) within-pushed) ∙ last-push None peaks mark

  -- With the new peak the highest value is told up to each place and the next.
  pushed-most : (place : ℕ) → (place ≤ n) ⊎ (place ≡ n + 1) → most_below place (peaks ++ mark ∷ []) ≡ highest value (take place xs)
  pushed-most place (inl low) = ap (λ (o : Option Peak). option_map_or (λ peak. peak.most) o 0) (pushed-old place low) ∙ noted.most place low
  pushed-most place (inr at) =
      let old = noted.most n (omega arith) in
      rw at (ap (λ (o : Option Peak). option_map_or (λ peak. peak.most) o 0) pushed-last ∙ ap (λ (k : ℕ). max k (value x)) old ∙ sym highest-next)

  -- A part that begins behind the next element has zero with the new peak too.
  pushed-fresh : own_below (n + 1) (n + 1) (peaks ++ mark ∷ []) ≡ 0
  pushed-fresh = ap (λ (o : Option Peak). option_map_or (λ peak. if nat_lt peak.place (n + 1) then 0 else peak.own) o 0) pushed-last ∙ ap (λ (b : Bool). if b then 0 else mark.own) (lt-ltb n (n + 1) (omega arith))

  -- With the new peak the highest is told of the part behind the element.
  pushed-own-at : (n + 1 < length xs) → (starts (n + 1) ≡ n + 1) ⊎ (starts (n + 1) ≡ starts n) → own_below (starts (n + 1)) (n + 1) (peaks ++ mark ∷ []) ≡ highest value (part (starts (n + 1)) (n + 1) xs)
  pushed-own-at inside (inl fresh) = rw fresh (pushed-fresh ∙ sym (ap (highest value) part-none))
  pushed-own-at inside (inr same) =
      let old = noted.own n (omega arith) long in
      rw same (ap (λ (o : Option Peak). option_map_or (λ peak. if nat_lt peak.place (starts n) then 0 else peak.own) o 0) pushed-last
      ∙ ap (λ (b : Bool). if b then 0 else mark.own) (le-ltb n (starts n) (begins.up_to n long))
      ∙ ap (λ (k : ℕ). max k (value x)) old ∙ sym (own-next (starts n) (begins.up_to n long)))

  -- With the new peak the highest is told of each place's part.
  pushed-own : (place : ℕ) → place < length xs → (place ≤ n) ⊎ (place ≡ n + 1) → own_below (starts place) place (peaks ++ mark ∷ []) ≡ highest value (part (starts place) place xs)
  pushed-own place inside (inl low) = ap (λ (o : Option Peak). option_map_or (λ peak. if nat_lt peak.place (starts place) then 0 else peak.own) o 0) (pushed-old place low) ∙ noted.own place low inside
  pushed-own place inside (inr at) = subst (λ (k : ℕ). own_below (starts k) k (peaks ++ mark ∷ []) ≡ highest value (part (starts k) k xs)) (sym at) (pushed-own-at (omega (arith, inside, at)) (begins.go_on n (omega (arith, inside, at))))

  -- the next element's peak, put behind the others, tells of it too
  pub peaks-pushed : ArePeaks value starts xs (n + 1) (peaks ++ mark ∷ [])
  peaks-pushed = record {
    rise = rises-push (λ (p : Peak). p.place) peaks mark noted.rise noted.within;
    within = within-pushed;
    most = λ place h. pushed-most place (up-to-next place n h);
    own = λ place h inside. pushed-own place inside (up-to-next place n h);
  }

-- ---- at the start

-- before the first element no place is counted
pub counted-nil : {X : Type 0} (test : X → Bool) (xs : List X) → AreCounted test xs 0 []
counted-nil test xs = record {
  rise = λ i j d h k. absurd (omega (arith, k));
  within = refl;
  count = λ place h. let e : place ≡ 0 = omega (arith, h) in rw e refl;
}

-- and there is no peak
pub peaks-nil : {X : Type 0} (value : X → ℕ) (starts : ℕ → ℕ) (xs : List X) → AreStarts xs starts → ArePeaks value starts xs 0 []
peaks-nil value starts xs begins = record {
  rise = λ i j d h k. absurd (omega (arith, k));
  within = refl;
  most = λ place h. let e : place ≡ 0 = omega (arith, h) in rw e refl;
  own = λ place h inside. none place (let up = begins.up_to place inside in omega (arith, h, up)) (omega (arith, h));
}
  where
    none : (place : ℕ) → starts place ≡ 0 → place ≡ 0 → 0 ≡ highest value (part (starts place) place xs)
    none place e z = rw (e, z) refl

-- ---- an element more, by a test

-- the places follow the next element, be it one that passes or not
pub counted-next : {X : Type 0} (test : X → Bool) (xs front : List X) (x : X) (rest : List X) (n : ℕ) → xs ≡ front ++ x ∷ rest → length front ≡ n
    → (old new : List ℕ) → AreCounted test xs n old → (passes : Bool) → test x ≡ passes → new ≡ (if passes then old ++ n ∷ [] else old) → AreCounted test xs (n + 1) new
counted-next test xs front x rest n whole far old new counted true is now =
    subst (AreCounted test xs (n + 1)) (sym now) (counted-yes xs front x rest n whole far test old counted is)
counted-next test xs front x rest n whole far old new counted false is now =
    subst (AreCounted test xs (n + 1)) (sym now) (counted-no xs front x rest n whole far test old counted is)

-- so do the peaks, where an element without one has the value 0
pub peaks-next : {X : Type 0} (value : X → ℕ) (starts : ℕ → ℕ) (xs front : List X) (x : X) (rest : List X) (n : ℕ) → xs ≡ front ++ x ∷ rest → length front ≡ n
    → AreStarts xs starts → (old new : List Peak) → ArePeaks value starts xs n old
    → (passes : Bool) → (passes ≡ false → value x ≡ 0) → new ≡ (if passes then old ++ next_peak old n (starts n) (value x) ∷ [] else old) → ArePeaks value starts xs (n + 1) new
peaks-next value starts xs front x rest n whole far begins old new noted true none now =
    subst (ArePeaks value starts xs (n + 1)) (sym now) (peaks-pushed value starts xs front x rest n whole far begins old noted)
peaks-next value starts xs front x rest n whole far begins old new noted false none now =
    subst (ArePeaks value starts xs (n + 1)) (sym now) (peaks-missed value starts xs front x rest n whole far begins old noted (none refl))

-- ---- sums

module _ {X : Type 0} (value : X → ℕ) (xs front : List X) (x : X) (rest : List X) (n : ℕ) (whole : xs ≡ front ++ x ∷ rest) (far : length front ≡ n)
    (sums : List Sum) (summed : AreSums value xs n sums) where
  -- All sums are below the next element's place and each one behind it.
  sums-all : (k : ℕ) → n ≤ k → filter (λ sum. nat_lt sum.place k) sums ≡ sums
  sums-all k h = filter-all (λ sum. nat_lt sum.place k) sums (lower (λ (s : Sum). s.place) n k h sums summed.within)

  -- The last sum below the place behind the next element is the one below its own.
  same-sum : last_sum (n + 1) sums ≡ last_sum n sums
  same-sum = ap (last_or None) (sums-all (n + 1) (omega arith) ∙ sym (sums-all n (omega arith)))

  -- With the next element the sum of the values is the old one and its own.
  sum-next : sum_by value (take (n + 1) xs) ≡ sum_by value (take n xs) + value x
  sum-next =
      let one = sum_by-cons value x [] in
      let none : sum_by value [] ≡ 0 = refl in
      let whole_sum = ap (sum_by value) (take-next xs front x rest n whole far) ∙ sum_by-append value (take n xs) (x ∷ []) in
      omega (arith, one, none, whole_sum)

  -- All sums are below the place behind the next element.
  within-more : list_all (λ sum. nat_lt sum.place (n + 1)) sums ≡ true
  within-more = lower (λ (s : Sum). s.place) n (n + 1) (omega arith) sums summed.within

  -- Where the next value is zero, the sums tell the total up to the next place too.
  sums-missed-at : value x ≡ 0 → (place : ℕ) → (place ≤ n) ⊎ (place ≡ n + 1) → total_below place sums ≡ sum_by value (take place xs)
  sums-missed-at none place (inl low) = summed.total place low
  sums-missed-at none place (inr at) =
      let old = summed.total n (omega arith) in
      let next : sum_by value (take (n + 1) xs) ≡ sum_by value (take n xs) = sum-next ∙ (let e = none in omega (arith, e)) in
      rw at (ap (λ (o : Option Sum). option_map_or (λ sum. sum.total) o 0) same-sum ∙ old ∙ sym next)

  -- With no new sum the totals have at most 64 bits for each element.
  small-missed : (place : ℕ) → (place ≤ n) ⊎ (place ≡ n + 1) → total_below place sums ≤ place * 2 ^ 64
  small-missed place (inl low) = summed.small place low
  small-missed place (inr at) =
      let small = summed.small n (omega arith) in
      let same = ap (λ (o : Option Sum). option_map_or (λ sum. sum.total) o 0) same-sum in
      subst (λ (k : ℕ). total_below k sums ≤ k * 2 ^ 64) (sym at) (omega (arith, small, same))

  -- an element whose value is 0 leaves the sums as they are
  pub sums-missed : value x ≡ 0 → AreSums value xs (n + 1) sums
  sums-missed none = record {
    rise = summed.rise;
    within = within-more;
    total = λ place h. sums-missed-at none place (up-to-next place n h);
    small = λ place h. small-missed place (up-to-next place n h);
  }

  -- The sum that is put for the next element.
  abbrev sum_mark : Sum
  sum_mark = next_sum sums n (value x)

  -- The new sum leaves the last one below each place up to its own.
  old-sum : (k : ℕ) → k ≤ n → last_sum k (sums ++ sum_mark ∷ []) ≡ last_sum k sums
  old-sum k h =
      ap (last_or None) (filter-append (λ sum. nat_lt sum.place k) sums (sum_mark ∷ [])
      ∙ ap (λ (b : Bool). filter (λ sum. nat_lt sum.place k) sums ++ cond b (sum_mark ∷ []) []) (le-ltb n k h) ∙ append-nil (filter (λ sum. nat_lt sum.place k) sums))

  -- With the new sum all are below the place behind the next element.
  within-sum : list_all (λ sum. nat_lt sum.place (n + 1)) (sums ++ sum_mark ∷ []) ≡ true
  within-sum = all-push (λ sum. nat_lt sum.place (n + 1)) sums sum_mark within-more (lt-ltb n (n + 1) (omega arith))

  -- The new sum is the last below the place behind the next element.
  new-sum : last_sum (n + 1) (sums ++ sum_mark ∷ []) ≡ Some sum_mark
  new-sum = ap (last_or None) (filter-all (λ sum. nat_lt sum.place (n + 1)) (sums ++ sum_mark ∷ []) within-sum) ∙ last-push None sums sum_mark

  -- With the new sum the total behind the next element is the old one and its value.
  new-total : total_below (n + 1) (sums ++ sum_mark ∷ []) ≡ total_below n sums + value x
  new-total = ap (λ (o : Option Sum). option_map_or (λ sum. sum.total) o 0) new-sum

  -- With the new sum the total is told up to each place and the next.
  sums-pushed-at : (place : ℕ) → (place ≤ n) ⊎ (place ≡ n + 1) → total_below place (sums ++ sum_mark ∷ []) ≡ sum_by value (take place xs)
  sums-pushed-at place (inl low) = ap (λ (o : Option Sum). option_map_or (λ sum. sum.total) o 0) (old-sum place low) ∙ summed.total place low
  sums-pushed-at place (inr at) =
      let old = summed.total n (omega arith) in
      rw at (new-total ∙ ap (λ (k : ℕ). k + value x) old ∙ sym sum-next)

  -- With the new sum the totals have at most 64 bits for each element.
  small-pushed : value x < 2 ^ 64 → (place : ℕ) → (place ≤ n) ⊎ (place ≡ n + 1) → total_below place (sums ++ sum_mark ∷ []) ≤ place * 2 ^ 64
  small-pushed fits place (inl low) =
      let old = summed.small place low in
      let same = ap (λ (o : Option Sum). option_map_or (λ sum. sum.total) o 0) (old-sum place low) in
      omega (arith, old, same)
  small-pushed fits place (inr at) =
      let small = summed.small n (omega arith) in
      let new = new-total in
      subst (λ (k : ℕ). total_below k (sums ++ sum_mark ∷ []) ≤ k * 2 ^ 64) (sym at) (omega (arith, small, new, fits))

  -- the next element's sum, put behind the others, tells of it too
  pub sums-pushed : value x < 2 ^ 64 → AreSums value xs (n + 1) (sums ++ sum_mark ∷ [])
  sums-pushed fits = record {
    rise = rises-push (λ (s : Sum). s.place) sums sum_mark summed.rise summed.within;
    within = within-sum;
    total = λ place h. sums-pushed-at place (up-to-next place n h);
    small = λ place h. small-pushed fits place (up-to-next place n h);
  }

-- the sums follow the next element, where one without a sum has the value 0
pub sums-next : {X : Type 0} (value : X → ℕ) (xs front : List X) (x : X) (rest : List X) (n : ℕ) → xs ≡ front ++ x ∷ rest → length front ≡ n
    → (old new : List Sum) → AreSums value xs n old → value x < 2 ^ 64
    → (passes : Bool) → (passes ≡ false → value x ≡ 0) → new ≡ (if passes then old ++ next_sum old n (value x) ∷ [] else old) → AreSums value xs (n + 1) new
sums-next value xs front x rest n whole far old new summed fits true none now =
    subst (AreSums value xs (n + 1)) (sym now) (sums-pushed value xs front x rest n whole far old summed fits)
sums-next value xs front x rest n whole far old new summed fits false none now =
    subst (AreSums value xs (n + 1)) (sym now) (sums-missed value xs front x rest n whole far old summed (none refl))
