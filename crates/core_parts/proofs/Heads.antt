-- Ascending lists of blocks, and heads that learn of empty blocks one by one.
use Rattle.std.proofs.Common.{◌≡◌, ◌≢◌, ◌⊎◌, ℕ, zero, suc, ◌+◌, ◌-◌, ◌^◌, ◌<◌, ◌≤◌, Bool, true, false, cond, not, ◌&&◌, ◌||◌, ◌==◌, nat_lt, List, [], ◌∷◌, ◌++◌, get_or, length, refl, sym, ap, ◌∙◌, subst, arith}
use mathlib.Core.Logic.{inl, inr}
use Rattle.std.specs.Prelude.{filter}
use Rattle.std.specs.List.{insert, range_with_len}
use Rattle.std.proofs.lemmas.Bool.Decides.{nat_tests}
use Rattle.std.proofs.lemmas.List.Edits.{length-insert}
use Rattle.core_laws.proofs.Events.Lists.{member_below}
use Rattle.core_laws.proofs.Events.Slots.{num, num_refl}
use Rattle.event_spec.specs.Effects.{with_empty}
use Rattle.event_spec.specs.Lawful.{Among}
use Rattle.event_spec.specs.Parts.{below}
use Rattle.core_laws.proofs.Frames.Replies.{filter_same}
use Rattle.core_parts.specs.Heads.{Rises, with_block}
use Rattle.core_parts.specs.Laws.{GainsGoOn, KnowingRests, SweptKnows}

-- True is not the same as false.
true_false : true ≡ false → ⊥
true_false e = cc

-- A number below another is tested as below it.
lt_true : (a b : ℕ) → a < b → nat_lt a b ≡ true
lt_true a b less = grind (arith, nat_tests)

-- A number not below another is tested as not below it.
lt_false : (a b : ℕ) → b ≤ a → nat_lt a b ≡ false
lt_false a b le = grind (arith, nat_tests)

-- Numbers that differ are tested as different.
eq_false : (a b : ℕ) → a ≢ b → (a == b) ≡ false
eq_false a b ne = grind (arith, nat_tests)

-- Of two numbers one is below the other, or they are the same.
order : (a b : ℕ) → (a < b) ⊎ (a ≡ b) ⊎ (b < a)
order a b = go (nat_lt a b) (nat_lt b a) refl refl
  where
    go : (x y : Bool) → nat_lt a b ≡ x → nat_lt b a ≡ y → (a < b) ⊎ (a ≡ b) ⊎ (b < a)
    go true y e f = inl (grind (arith, nat_tests))
    go false true e f = inr (inr (grind (arith, nat_tests)))
    go false false e f = inr (inl (grind (arith, nat_tests)))

-- ---- ascending lists

-- blocks that rise from a number rise from a lower one
pub rises_more : (least more limit : ℕ) (xs : List ℕ) → least ≤ more → Rises more limit xs → Rises least limit xs
rises_more least more limit [] le r = r
rises_more least more limit (x ∷ xs) le r = let a = r.0 in (omega (arith, a, le), r.1, r.2)

-- No block of those that rise from a number is below that number.
from_least : (least limit : ℕ) (xs : List ℕ) (j : ℕ) → Rises least limit xs → j < length xs → least ≤ get_or xs j 0
from_least least limit [] j r less = absurd (omega (arith, less))
from_least least limit (x ∷ xs) zero r less = r.0
from_least least limit (x ∷ xs) (suc j) r less =
    let rest = from_least (x + 1) limit xs j r.2 (omega (arith, less)) in let a = r.0 in omega (arith, rest, a)

-- of two places in blocks that rise the later has no lower block
pub sorted : (least limit : ℕ) (xs : List ℕ) → Rises least limit xs → (i j : ℕ) → i ≤ j → j < length xs → get_or xs i 0 ≤ get_or xs j 0
sorted least limit [] r i j le less = absurd (omega (arith, less))
sorted least limit (x ∷ xs) r zero zero le less = omega arith
sorted least limit (x ∷ xs) r zero (suc j) le less = let rest = from_least (x + 1) limit xs j r.2 (omega (arith, less)) in omega (arith, rest)
sorted least limit (x ∷ xs) r (suc i) zero le less = absurd (omega (arith, le))
sorted least limit (x ∷ xs) r (suc i) (suc j) le less = sorted (x + 1) limit xs r.2 i j (omega (arith, le)) (omega (arith, less))

-- so many numbers have their room
pub few : (least limit : ℕ) (xs : List ℕ) → least ≤ limit → Rises least limit xs → least + length xs ≤ limit
few least limit [] le r = omega (arith, le)
few least limit (x ∷ xs) le r =
    let b = r.1 in let a = r.0 in let rest = few (x + 1) limit xs (omega (arith, b)) r.2 in omega (arith, rest, a)

-- a block goes where those before it are less, and those from there on more
pub inserted : (xs : List ℕ) (at block : ℕ) → at ≤ length xs → ((k : ℕ) → k < at → get_or xs k 0 < block) → ((k : ℕ) → at ≤ k → k < length xs → block < get_or xs k 0)
    → insert xs at block ≡ with_block block xs
inserted [] zero block le less more = refl
inserted [] (suc at) block le less more = absurd (omega (arith, le))
inserted (x ∷ xs) zero block le less more =
    ap (λ b. cond b (block ∷ x ∷ xs) (cond (block == x) (x ∷ xs) (x ∷ with_block block xs))) (sym (lt_true block x (more 0 (omega arith) (omega arith))))
inserted (x ∷ xs) (suc at) block le less more =
    let here : x < block = less 0 (omega arith) in
    ap (λ ys. x ∷ ys) (inserted xs at block (omega (arith, le)) (λ k a. less (suc k) (omega (arith, a))) (λ k a b. more (suc k) (omega (arith, a)) (omega (arith, b))))
    ∙ ap (λ b. cond b (x ∷ xs) (x ∷ with_block block xs)) (sym (eq_false block x (omega (arith, here))))
    ∙ ap (λ b. cond b (block ∷ x ∷ xs) (cond (block == x) (x ∷ xs) (x ∷ with_block block xs))) (sym (lt_false block x (omega (arith, here))))

-- a block that is there stays
pub there : (least limit : ℕ) (xs : List ℕ) (at block : ℕ) → Rises least limit xs → at < length xs → get_or xs at 0 ≡ block → with_block block xs ≡ xs
there least limit [] at block r less is = absurd (omega (arith, less))
there least limit (x ∷ xs) zero block r less is =
    ap (λ b. cond b (block ∷ x ∷ xs) (cond (block == x) (x ∷ xs) (x ∷ with_block block xs))) (lt_false block x (omega (arith, is)))
    ∙ ap (λ b. cond b (x ∷ xs) (x ∷ with_block block xs)) (ap (λ y. block == y) is ∙ num_refl block)
there least limit (x ∷ xs) (suc at) block r less is =
    let more = from_least (x + 1) limit xs at r.2 (omega (arith, less)) in
    ap (λ b. cond b (block ∷ x ∷ xs) (cond (block == x) (x ∷ xs) (x ∷ with_block block xs))) (lt_false block x (omega (arith, is, more)))
    ∙ ap (λ b. cond b (x ∷ xs) (x ∷ with_block block xs)) (eq_false block x (omega (arith, is, more)))
    ∙ ap (λ ys. x ∷ ys) (there (x + 1) limit xs at block r.2 (omega (arith, less)) is)

-- with one block more, put in its place, they still rise
pub rises_with : (least limit : ℕ) (xs : List ℕ) (block : ℕ) → Rises least limit xs → least ≤ block → block < limit → Rises least limit (with_block block xs)
rises_with least limit [] block r le less = (le, less, tt)
rises_with least limit (x ∷ xs) block r le less = go (order block x) (λ a. rises_with (x + 1) limit xs block r.2 a less)
  where
    go : (block < x) ⊎ (block ≡ x) ⊎ (x < block) → (x + 1 ≤ block → Rises (x + 1) limit (with_block block xs)) → Rises least limit (with_block block (x ∷ xs))
    go (inl a) rest =
        subst (λ b. Rises least limit (cond b (block ∷ x ∷ xs) (cond (block == x) (x ∷ xs) (x ∷ with_block block xs)))) (sym (lt_true block x a))
        (le, less, (omega (arith, a), r.1, r.2))
    go (inr (inl a)) rest =
        subst (λ b. Rises least limit (cond b (block ∷ x ∷ xs) (cond (block == x) (x ∷ xs) (x ∷ with_block block xs)))) (sym (lt_false block x (omega (arith, a))))
        (subst (λ b. Rises least limit (cond b (x ∷ xs) (x ∷ with_block block xs))) (sym (ap (λ y. y == x) a ∙ num_refl x)) r)
    go (inr (inr a)) rest =
        subst (λ b. Rises least limit (cond b (block ∷ x ∷ xs) (cond (block == x) (x ∷ xs) (x ∷ with_block block xs)))) (sym (lt_false block x (omega (arith, a))))
        (subst (λ b. Rises least limit (cond b (x ∷ xs) (x ∷ with_block block xs))) (sym (eq_false block x (omega (arith, a))))
        (r.0, r.1, rest (omega (arith, a))))

-- there is room for one block more
pub room_for : (xs : List ℕ) (at block room : ℕ) → Rises 0 (2 ^ 10) xs → 2 ^ 10 ≤ room → block < 2 ^ 10 → at ≤ length xs → insert xs at block ≡ with_block block xs → length xs < room
room_for xs at block room r most less within is =
    let all = few 0 (2 ^ 10) (with_block block xs) (omega arith) (rises_with 0 (2 ^ 10) xs block r (omega arith) less) in
    let long : length (with_block block xs) ≡ length xs + 1 = ap length (sym is) ∙ length-insert xs at block within in
    omega (arith, all, long, most)

-- numbers that go up by one rise
pub rises_range : (least limit a n : ℕ) → least ≤ a → a + n ≤ limit → Rises least limit (range_with_len a n)
rises_range least limit a zero le room = tt
rises_range least limit a (suc n) le room = (le, omega (arith, room), rises_range (a + 1) limit (a + 1) n (omega arith) (omega (arith, room)))

-- the numbers from 1 on are those that are not 0
pub positive : (a n : ℕ) → 1 ≤ a → filter (λ b. not (b == 0)) (range_with_len a n) ≡ range_with_len a n
positive a zero le = refl
positive a (suc n) le =
    ap (λ b. cond (not b) (a ∷ filter (λ b. not (b == 0)) (range_with_len (a + 1) n)) (filter (λ b. not (b == 0)) (range_with_len (a + 1) n))) (eq_false a 0 (omega (arith, le)))
    ∙ ap (λ ys. a ∷ ys) (positive (a + 1) n (omega arith))

-- the blocks but 0 of a table that has some, and of one that has none
pub all_but_first : (n k : ℕ) → k ≡ n - 1 → range_with_len 1 k ≡ filter (λ block. not (block == 0)) (below n)
all_but_first zero k is = let none : k ≡ 0 = omega (arith, is) in ap (range_with_len 1) none
all_but_first (suc n) k is =
    let same : k ≡ n = omega (arith, is) in
    ap (range_with_len 1) same ∙ sym (positive 1 n (omega arith)) ∙ sym (ap (λ b. cond (not b) (0 ∷ filter (λ block. not (block == 0)) (range_with_len (0 + 1) n)) (filter (λ block. not (block == 0)) (range_with_len (0 + 1) n))) (num_refl 0))

-- with the next at the end they go up further
pub range_more : (a n : ℕ) → range_with_len a n ++ (a + n) ∷ [] ≡ range_with_len a (n + 1)
range_more a zero =
    let one : a + 0 ≡ a = omega arith in let two : 0 + 1 ≡ suc 0 = omega arith in
    ap (λ x. x ∷ []) one ∙ sym (ap (range_with_len a) two)
range_more a (suc n) =
    let one : a + suc n ≡ a + 1 + n = omega arith in let two : suc n + 1 ≡ suc (n + 1) = omega arith in
    ap (λ ys. a ∷ ys) (ap (λ x. range_with_len (a + 1) n ++ x ∷ []) one ∙ range_more (a + 1) n)
    ∙ sym (ap (range_with_len a) two)

-- ---- sweeps over all blocks

-- A block below a range adds nothing to those of the range that pass.
above_all : (p : ℕ → Bool) (a n block : ℕ) → block < a → filter (λ c. p c || (c == block)) (range_with_len a n) ≡ filter p (range_with_len a n)
above_all p a n block less = filter_same p (λ c. p c || (c == block)) (range_with_len a n) (λ c x. same c (higher a n c x))
  where
    higher : (a n c : ℕ) → Among c (range_with_len a n) → a ≤ c
    higher a zero c x = absurd x
    higher a (suc n) c (inl e) = omega (arith, e)
    higher a (suc n) c (inr x) = let r = higher (a + 1) n c x in omega (arith, r)

    or_false : (b : Bool) → (b || false) ≡ b
    or_false true = refl
    or_false false = refl

    same : (c : ℕ) → a ≤ c → (p c || (c == block)) ≡ p c
    same c le = ap (λ b. p c || b) (eq_false c block (omega (arith, le, less))) ∙ or_false (p c)

-- a block that is below all of an ascending list is its first
first : (least limit : ℕ) (xs : List ℕ) (block : ℕ) → block < least → Rises least limit xs → with_block block xs ≡ block ∷ xs
first least limit [] block less r = refl
first least limit (x ∷ xs) block less r =
    let a = r.0 in ap (λ b. cond b (block ∷ x ∷ xs) (cond (block == x) (x ∷ xs) (x ∷ with_block block xs))) (lt_true block x (omega (arith, a, less)))

-- Of blocks that rise those that pass a test rise.
rises_filter : (p : ℕ → Bool) (least limit : ℕ) (xs : List ℕ) → Rises least limit xs → Rises least limit (filter p xs)
rises_filter p least limit [] r = r
rises_filter p least limit (x ∷ xs) r = go (p x) (rises_filter p (x + 1) limit xs r.2)
  where
    go : (b : Bool) → Rises (x + 1) limit (filter p xs) → Rises least limit (cond b (x ∷ filter p xs) (filter p xs))
    go true rest = (r.0, r.1, rest)
    go false rest = let a = r.0 in rises_more least (x + 1) limit (filter p xs) (omega (arith, a)) rest

-- With a block of a range put among those that pass, they are as if it passed too.
with_filter : (p : ℕ → Bool) (a n block : ℕ) → a ≤ block → block < a + n → with_block block (filter p (range_with_len a n)) ≡ filter (λ c. p c || (c == block)) (range_with_len a n)
with_filter p a zero block le less = absurd (omega (arith, le, less))
with_filter p a (suc n) block le less = go (order a block) (p a) refl (λ x y. with_filter p (a + 1) n block x y)
  where
    passes : (b : Bool) → (b || true) ≡ true
    passes true = refl
    passes false = refl

    or_false : (b : Bool) → (b || false) ≡ b
    or_false true = refl
    or_false false = refl

    go : (a < block) ⊎ (a ≡ block) ⊎ (block < a) → (b : Bool) → p a ≡ b
        → (a + 1 ≤ block → block < a + 1 + n → with_block block (filter p (range_with_len (a + 1) n)) ≡ filter (λ c. p c || (c == block)) (range_with_len (a + 1) n))
        → with_block block (cond (p a) (a ∷ filter p (range_with_len (a + 1) n)) (filter p (range_with_len (a + 1) n)))
        ≡ cond (p a || (a == block)) (a ∷ filter (λ c. p c || (c == block)) (range_with_len (a + 1) n)) (filter (λ c. p c || (c == block)) (range_with_len (a + 1) n))
    go (inr (inr x)) b is rest = absurd (omega (arith, x, le))
    go (inl x) true is rest =
        ap (λ b. with_block block (cond b (a ∷ filter p (range_with_len (a + 1) n)) (filter p (range_with_len (a + 1) n)))) is
        ∙ ap (λ b. cond b (block ∷ a ∷ filter p (range_with_len (a + 1) n)) (cond (block == a) (a ∷ filter p (range_with_len (a + 1) n)) (a ∷ with_block block (filter p (range_with_len (a + 1) n))))) (lt_false block a (omega (arith, x)))
        ∙ ap (λ b. cond b (a ∷ filter p (range_with_len (a + 1) n)) (a ∷ with_block block (filter p (range_with_len (a + 1) n)))) (eq_false block a (omega (arith, x)))
        ∙ ap (λ ys. a ∷ ys) (rest (omega (arith, x)) (omega (arith, less)))
        ∙ ap (λ b. cond (b || (a == block)) (a ∷ filter (λ c. p c || (c == block)) (range_with_len (a + 1) n)) (filter (λ c. p c || (c == block)) (range_with_len (a + 1) n))) (sym is)
    go (inl x) false is rest =
        ap (λ b. with_block block (cond b (a ∷ filter p (range_with_len (a + 1) n)) (filter p (range_with_len (a + 1) n)))) is
        ∙ rest (omega (arith, x)) (omega (arith, less))
        ∙ ap (λ b. cond b (a ∷ filter (λ c. p c || (c == block)) (range_with_len (a + 1) n)) (filter (λ c. p c || (c == block)) (range_with_len (a + 1) n)))
        (sym (ap (λ b. b || (a == block)) is ∙ eq_false a block (omega (arith, x))))
    go (inr (inl x)) true is rest =
        ap (λ b. with_block block (cond b (a ∷ filter p (range_with_len (a + 1) n)) (filter p (range_with_len (a + 1) n)))) is
        ∙ ap (λ b. cond b (block ∷ a ∷ filter p (range_with_len (a + 1) n)) (cond (block == a) (a ∷ filter p (range_with_len (a + 1) n)) (a ∷ with_block block (filter p (range_with_len (a + 1) n))))) (lt_false block a (omega (arith, x)))
        ∙ ap (λ b. cond b (a ∷ filter p (range_with_len (a + 1) n)) (a ∷ with_block block (filter p (range_with_len (a + 1) n)))) (ap (λ y. y == a) (sym x) ∙ num_refl a)
        ∙ ap (λ ys. a ∷ ys) (sym (above_all p (a + 1) n block (omega (arith, x))))
        ∙ ap (λ b. cond (b || (a == block)) (a ∷ filter (λ c. p c || (c == block)) (range_with_len (a + 1) n)) (filter (λ c. p c || (c == block)) (range_with_len (a + 1) n))) (sym is)
    go (inr (inl x)) false is rest =
        ap (λ b. with_block block (cond b (a ∷ filter p (range_with_len (a + 1) n)) (filter p (range_with_len (a + 1) n)))) is
        ∙ first (a + 1) (a + 1 + n) (filter p (range_with_len (a + 1) n)) block (omega (arith, x)) (rises_filter p (a + 1) (a + 1 + n) (range_with_len (a + 1) n) (rises_range (a + 1) (a + 1 + n) (a + 1) n (omega arith) (omega arith)))
        ∙ ap (λ ys. block ∷ ys) (sym (above_all p (a + 1) n block (omega (arith, x))))
        ∙ ap (λ y. y ∷ filter (λ c. p c || (c == block)) (range_with_len (a + 1) n)) (sym x)
        ∙ ap (λ b. cond b (a ∷ filter (λ c. p c || (c == block)) (range_with_len (a + 1) n)) (filter (λ c. p c || (c == block)) (range_with_len (a + 1) n)))
        (sym (ap (λ b. p a || b) (ap (λ y. a == y) (sym x) ∙ num_refl a) ∙ passes (p a)))

-- ---- the laws

-- A head that knows the empty blocks and gains one knows them all again.
pub gains_go_on : GainsGoOn
gains_go_on blocks block empty after head knows less is own = go (block == head.block) refl
  where
    others : (x : ℕ) → Among x (below blocks) → after x ≡ (empty x || (x == block))
    others x a = is x (let r = member_below 0 blocks x a in omega (arith, r))

    passes : (b : Bool) → (b || true) ≡ true
    passes true = refl
    passes false = refl

    or_false : (b : Bool) → (b || false) ≡ b
    or_false true = refl
    or_false false = refl

    hidden : (a b : Bool) → b ≡ true → (a && not b) ≡ false
    hidden true true e = refl
    hidden true false e = absurd (true_false (sym e))
    hidden false b e = refl

    shown : (a b : Bool) → b ≡ false → (a && not b) ≡ a
    shown true b e = ap not e
    shown false b e = refl

    -- the head's own block became empty
    here : (x : ℕ) → block ≡ head.block → after x ≡ (empty x || (x == block)) → (after x && not (x == head.block)) ≡ (empty x && not (x == head.block))
    here x same at = at_block (x == head.block) refl
      where
        at_block : (b : Bool) → (x == head.block) ≡ b → (after x && not (x == head.block)) ≡ (empty x && not (x == head.block))
        at_block true e = hidden (after x) (x == head.block) e ∙ sym (hidden (empty x) (x == head.block) e)
        at_block false e = ap (λ b. b && not (x == head.block)) (at ∙ ap (λ b. empty x || b) (ap (λ y. x == y) same ∙ e) ∙ or_false (empty x))

    -- another block did
    there_is : (x : ℕ) → (block == head.block) ≡ false → after x ≡ (empty x || (x == block)) → (after x && not (x == head.block)) ≡ ((empty x && not (x == head.block)) || (x == block))
    there_is x apart at = at_block (x == block) refl
      where
        at_block : (b : Bool) → (x == block) ≡ b → (after x && not (x == head.block)) ≡ ((empty x && not (x == head.block)) || (x == block))
        at_block true e =
            let same = num x block e in
            ap (λ b. b && not (x == head.block)) (at ∙ ap (λ b. empty x || b) e ∙ passes (empty x))
            ∙ ap (λ y. not (y == head.block)) same ∙ ap not apart
            ∙ sym (ap (λ b. (empty x && not (x == head.block)) || b) e ∙ passes (empty x && not (x == head.block)))
        at_block false e =
            ap (λ b. b && not (x == head.block)) (at ∙ ap (λ b. empty x || b) e ∙ or_false (empty x))
            ∙ sym (ap (λ b. (empty x && not (x == head.block)) || b) e ∙ or_false (empty x && not (x == head.block)))

    taken : (b : Bool) → after head.block ≡ b → (block == head.block) ≡ false → head.taken ≡ cond (after head.block) 0 head.taken
    taken true e apart = knows.own (at (empty head.block) (sym (is head.block own) ∙ e)) ∙ ap (λ b. cond b 0 head.taken) (sym e)
      where
        flip : (head.block == block) ≡ false
        flip = eq_false head.block block (λ s. true_false (sym (ap (λ y. block == y) s ∙ num_refl block) ∙ apart))

        at : (b : Bool) → (b || (head.block == block)) ≡ true → b ≡ true
        at true x = refl
        at false x = absurd (true_false (sym x ∙ flip))
    taken false e apart = ap (λ b. cond b 0 head.taken) (sym e)

    go : (b : Bool) → (block == head.block) ≡ b
        → cond (block == head.block) (record head { taken = 0 }) (record head { empty = with_block block head.empty }) ≡ with_empty blocks after head
    go true e =
        let same = num block head.block e in
        ap (λ b. cond b (record head { taken = 0 }) (record head { empty = with_block block head.empty })) e
        ∙ ap (λ n. record head { taken = n }) (sym (ap (λ b. cond b 0 head.taken) (is head.block own ∙ ap (λ b. empty head.block || b) (ap (λ y. head.block == y) same ∙ num_refl head.block) ∙ passes (empty head.block))))
        ∙ ap (λ bs. record head { taken = cond (after head.block) 0 head.taken; empty = bs })
        (knows.others ∙ sym (filter_same (λ x. empty x && not (x == head.block)) (λ x. after x && not (x == head.block)) (below blocks) (λ x a. here x same (others x a))))
    go false e =
        ap (λ b. cond b (record head { taken = 0 }) (record head { empty = with_block block head.empty })) e
        ∙ ap (λ n. record head { taken = n; empty = with_block block head.empty }) (taken (after head.block) refl e)
        ∙ ap (λ bs. record head { taken = cond (after head.block) 0 head.taken; empty = bs })
        (ap (with_block block) knows.others
        ∙ with_filter (λ x. empty x && not (x == head.block)) 0 blocks block (omega arith) (omega (arith, less))
        ∙ sym (filter_same (λ x. (empty x && not (x == head.block)) || (x == block)) (λ x. after x && not (x == head.block)) (below blocks) (λ x a. there_is x e (others x a))))

-- A head that knows them is as if it went over all blocks.
pub knowing_rests : KnowingRests
knowing_rests blocks empty after head knows own is =
    ap (λ n. record head { taken = n; empty = filter (λ x. after x && not (x == head.block)) (below blocks) }) (taken (after head.block) refl)
    ∙ ap (λ bs. record head { empty = bs })
    (filter_same (λ x. empty x && not (x == head.block)) (λ x. after x && not (x == head.block)) (below blocks) (λ x a. ap (λ b. b && not (x == head.block)) (is x (let r = member_below 0 blocks x a in omega (arith, r))))
    ∙ sym knows.others)
  where
    taken : (b : Bool) → after head.block ≡ b → cond (after head.block) 0 head.taken ≡ head.taken
    taken true e = ap (λ b. cond b 0 head.taken) e ∙ sym (knows.own (sym (is head.block own) ∙ e))
    taken false e = ap (λ b. cond b 0 head.taken) e

-- A head knows them after it went over all.
pub swept_knows : SweptKnows
swept_knows blocks empty head = record {
  others = refl;
  own = λ e. ap (λ b. cond b 0 head.taken) e;
}
