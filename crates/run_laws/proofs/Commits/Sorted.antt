-- Commits that are sorted by number are just those with the numbers in order, of which they are a
-- permutation.
use Rattle.std.proofs.Common.{◌≡◌, inl, inr, ℕ, zero, suc, ◌+◌, ◌<◌, ◌≤◌, Bool, true, false, cond, ◌==◌, List, [], ◌∷◌, map, length, get_or, count_by, refl, sym, ap, ◌∙◌, arith}
use Rattle.std.specs.Prelude.{All}
use Rattle.std.specs.List.{range_with_len}
use Rattle.std.specs.List.Sorted.{IsNonDecreasingBy, IsPermutation}
use Rattle.std.proofs.lemmas.Bool.Decides.{nat_tests}
use Rattle.std.proofs.lemmas.List.Elements.{All-cons, All-head, All-nil, All-tail}
use Rattle.std.proofs.lemmas.List.Sorted.{All-permutation, sum_by-IsPermutation}
use Rattle.std.proofs.lemmas.List.Sums.{sum_by-cons}
use Rattle.event_spec.specs.Lawful.{Among}
use Rattle.run_spec.specs.declared.commit.Commit.{Commit}

-- The number of a commit.
abbrev number_of : Commit → ℕ
number_of c = c.number

-- how many of some commits have a number
abbrev counted : ℕ → List Commit → ℕ
counted k cs = count_by (λ (c : Commit). c.number == k) cs

-- One commit more is counted where it has the number.
counted_more : (k : ℕ) (c : Commit) (cs : List Commit) → counted k (c ∷ cs) ≡ cond (c.number == k) 1 0 + counted k cs
counted_more k c cs = sum_by-cons (λ (x : Commit). cond (x.number == k) 1 0) c cs

-- A commit has its own number.
counted_own : (c : Commit) (cs : List Commit) → 1 ≤ counted c.number (c ∷ cs)
counted_own c cs =
    let same : (c.number == c.number) ≡ true = grind (arith, nat_tests) in
    let whole = counted_more c.number c cs ∙ ap (λ (b : Bool). cond b 1 0 + counted c.number cs) same in
    omega (arith, whole)

-- A number that some commits have and the first has not is one of the others'.
counted_behind : (k : ℕ) (c : Commit) (cs : List Commit) (b : Bool) → (c.number == k) ≡ b → b ≡ false → 1 ≤ counted k (c ∷ cs) → 1 ≤ counted k cs
counted_behind k c cs b is not h =
    let whole = counted_more k c cs ∙ ap (λ (t : Bool). cond t 1 0 + counted k cs) (is ∙ not) in
    omega (arith, whole, h)

-- Where a number is counted, a commit has it.
counted_at : (k : ℕ) (cs : List Commit) (d : Commit) → 1 ≤ counted k cs → (j : ℕ) × (j < length cs) × ((get_or cs j d).number ≡ k)
counted_at k [] d h = absurd (let never : ⊥ = omega (arith, h) in never)
counted_at k (c ∷ cs) d h = go (c.number == k) refl (counted_at k cs d)
  where
    go : (b : Bool) → (c.number == k) ≡ b → (1 ≤ counted k cs → (j : ℕ) × (j < length cs) × ((get_or cs j d).number ≡ k))
        → (j : ℕ) × (j < length (c ∷ cs)) × ((get_or (c ∷ cs) j d).number ≡ k)
    go true is further = (zero, (let long : 0 < suc (length cs) = omega arith in long), (let same : c.number ≡ k = grind (arith, nat_tests, is) in same))
    go false is further =
        let rest = further (counted_behind k c cs false is refl h) in
        (suc rest.0, (let low = rest.1 in let long : suc rest.0 < suc (length cs) = omega (arith, low) in long), rest.2)

-- the commits have the numbers from this one on, in order
abbrev Numbered : ℕ → List Commit → Type 0
Numbered a cs = map number_of cs ≡ range_with_len a (length cs)

-- The first has the first number.
numbered_head : (a : ℕ) (c : Commit) (cs : List Commit) → Numbered a (c ∷ cs) → c.number ≡ a
numbered_head a c cs h = let both : c.number ∷ map number_of cs ≡ a ∷ range_with_len (a + 1) (length cs) = h in cc

-- The others go on.
numbered_tail : (a : ℕ) (c : Commit) (cs : List Commit) → Numbered a (c ∷ cs) → Numbered (a + 1) cs
numbered_tail a c cs h = let both : c.number ∷ map number_of cs ≡ a ∷ range_with_len (a + 1) (length cs) = h in cc

-- A counted number is not below the first.
counted_above : (a k : ℕ) (cs : List Commit) → Numbered a cs → 1 ≤ counted k cs → a ≤ k
counted_above a k [] h some = absurd (let never : ⊥ = omega (arith, some) in never)
counted_above a k (c ∷ cs) h some = go (c.number == k) refl (counted_above (a + 1) k cs (numbered_tail a c cs h))
  where
    go : (b : Bool) → (c.number == k) ≡ b → (1 ≤ counted k cs → a + 1 ≤ k) → a ≤ k
    go true is further = let first = numbered_head a c cs h in let same : c.number ≡ k = grind (arith, nat_tests, is) in omega (arith, first, same)
    go false is further = let more = further (counted_behind k c cs false is refl some) in omega (arith, more)

-- Nor is that of one of them.
among_above : (a : ℕ) (c : Commit) (cs : List Commit) → Numbered a cs → Among c cs → a ≤ c.number
among_above a c [] h one = absurd one
among_above a c (x ∷ cs) h (inl same) = let first = numbered_head a x cs h in let e = ap number_of same in omega (arith, first, e)
among_above a c (x ∷ cs) h (inr one) = let more = among_above (a + 1) c cs (numbered_tail a x cs h) one in omega (arith, more)

-- Of these commits two with one number are one.
one_number : (a : ℕ) (x z : Commit) (cs : List Commit) → Numbered a cs → Among x cs → Among z cs → x.number ≡ z.number → x ≡ z
one_number a x z [] h one other same = absurd one
one_number a x z (c ∷ cs) h (inl is) (inl at) same = is ∙ sym at
one_number a x z (c ∷ cs) h (inl is) (inr at) same =
    let low = among_above (a + 1) z cs (numbered_tail a c cs h) at in
    let first = numbered_head a c cs h in
    let e = ap number_of is in
    absurd (omega (arith, low, first, e, same))
one_number a x z (c ∷ cs) h (inr is) (inl at) same =
    let low = among_above (a + 1) x cs (numbered_tail a c cs h) is in
    let first = numbered_head a c cs h in
    let e = ap number_of at in
    absurd (omega (arith, low, first, e, same))
one_number a x z (c ∷ cs) h (inr is) (inr at) same = one_number (a + 1) x z cs (numbered_tail a c cs h) is at same

-- The head of commits that do not fall is at most a number that is counted behind it.
head_least : (x : Commit) (xs : List Commit) (k : ℕ) → IsNonDecreasingBy number_of (x ∷ xs) → 1 ≤ counted k xs → x.number ≤ k
head_least x xs k rises some =
    let found = counted_at k xs x some in
    let low = found.1 in
    let most = rises zero (suc found.0) x (omega arith) (let long : suc found.0 < suc (length xs) = omega (arith, low) in long) in
    let same = found.2 in
    omega (arith, most, same)

-- The others do not fall either.
rises_tail : (x : Commit) (xs : List Commit) → IsNonDecreasingBy number_of (x ∷ xs) → IsNonDecreasingBy number_of xs
rises_tail x xs rises i j d le lt = rises (suc i) (suc j) d (omega (arith, le)) (let long : suc j < suc (length xs) = omega (arith, lt) in long)

-- Commits that do not fall and have each number as often as those in order have the same numbers.
same_numbers : (a : ℕ) (xs ys : List Commit) → Numbered a ys → IsNonDecreasingBy number_of xs → ((k : ℕ) → counted k xs ≡ counted k ys) → map number_of xs ≡ map number_of ys
same_numbers a [] [] h rises count = refl
same_numbers a (x ∷ xs) [] h rises count = absurd (let own = counted_own x xs in let none = count x.number in let never : ⊥ = omega (arith, own, none) in never)
same_numbers a [] (y ∷ ys) h rises count = absurd (let own = counted_own y ys in let none = count y.number in let never : ⊥ = omega (arith, own, none) in never)
same_numbers a (x ∷ xs) (y ∷ ys) h rises count =
    ap (λ (n : ℕ). n ∷ map number_of xs) heads
    ∙ ap (λ (ns : List ℕ). y.number ∷ ns) (same_numbers (a + 1) xs ys (numbered_tail a y ys h) (rises_tail x xs rises) tails)
  where
    first : y.number ≡ a
    first = numbered_head a y ys h

    low : y.number ≤ x.number
    low = let own = counted_own x xs in let c = count x.number in
        let at = counted_above a x.number (y ∷ ys) h (omega (arith, own, c)) in omega (arith, at, first)

    high : x.number ≤ y.number
    high = go (x.number == y.number) refl
      where
        go : (b : Bool) → (x.number == y.number) ≡ b → x.number ≤ y.number
        go true is = let same : x.number ≡ y.number = grind (arith, nat_tests, is) in omega (arith, same)
        go false is =
            let own = counted_own y ys in
            let c = count y.number in
            head_least x xs y.number rises (counted_behind y.number x xs false is refl (omega (arith, own, c)))

    heads : x.number ≡ y.number
    heads = omega (arith, low, high)

    tails : (k : ℕ) → counted k xs ≡ counted k ys
    tails k =
        let all = count k in
        let front = counted_more k x xs ∙ ap (λ (n : ℕ). cond (n == k) 1 0 + counted k xs) heads in
        let back = counted_more k y ys in
        omega (arith, all, front, back)

-- Commits with the same numbers, all among those in order, are the same.
each_same : (a : ℕ) (xs zs ys : List Commit) → Numbered a ys → map number_of xs ≡ map number_of zs
    → All (λ (c : Commit). Among c ys) xs → All (λ (c : Commit). Among c ys) zs → xs ≡ zs
each_same a [] [] ys h same in_xs in_zs = refl
each_same a [] (z ∷ zs) ys h same in_xs in_zs = absurd (let never : ⊥ = cc in never)
each_same a (x ∷ xs) [] ys h same in_xs in_zs = absurd (let never : ⊥ = cc in never)
each_same a (x ∷ xs) (z ∷ zs) ys h same in_xs in_zs =
    ap (λ (c : Commit). c ∷ xs)
    (one_number a x z ys h (All-head (λ (c : Commit). Among c ys) x xs in_xs) (All-head (λ (c : Commit). Among c ys) z zs in_zs)
    (let both : x.number ∷ map number_of xs ≡ z.number ∷ map number_of zs = same in cc))
    ∙ ap (λ (cs : List Commit). z ∷ cs)
    (each_same a xs zs ys h (let both : x.number ∷ map number_of xs ≡ z.number ∷ map number_of zs = same in cc)
    (All-tail (λ (c : Commit). Among c ys) x xs in_xs) (All-tail (λ (c : Commit). Among c ys) z zs in_zs))

-- What is among some is among them behind one more.
all_wider : (y : Commit) (xs ys : List Commit) → All (λ (c : Commit). Among c ys) xs → All (λ (c : Commit). Among c (y ∷ ys)) xs
all_wider y [] ys h = All-nil (λ (c : Commit). Among c (y ∷ ys))
all_wider y (x ∷ xs) ys h = All-cons (λ (c : Commit). Among c (y ∷ ys)) x xs (inr (All-head (λ (c : Commit). Among c ys) x xs h))
    (all_wider y xs ys (All-tail (λ (c : Commit). Among c ys) x xs h))

-- Each of some commits is among them.
all_among : (ys : List Commit) → All (λ (c : Commit). Among c ys) ys
all_among [] = All-nil (λ (c : Commit). Among c [])
all_among (y ∷ ys) = All-cons (λ (c : Commit). Among c (y ∷ ys)) y ys (inl refl) (all_wider y ys ys (all_among ys))

-- A sorted permutation of commits whose numbers go up by one is those commits.
pub sorted_are : (a : ℕ) (ys sorted : List Commit) → Numbered a ys → IsPermutation ys sorted → IsNonDecreasingBy number_of sorted → sorted ≡ ys
sorted_are a ys sorted h moved rises = each_same a sorted ys ys h
    (same_numbers a sorted ys h rises (λ k. sum_by-IsPermutation (λ (c : Commit). cond (c.number == k) 1 0) ys sorted moved))
    (All-permutation (λ (c : Commit). Among c ys) ys sorted moved (all_among ys))
    (all_among ys)
