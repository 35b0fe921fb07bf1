-- Sums over the replies before one, and over those not after it, against the sum over those in
-- front of it.
use Rattle.std.proofs.Common.{◌≡◌, ℕ, ◌+◌, ◌≤◌, Bool, true, false, cond, not, List, [], ◌∷◌, ◌++◌, Option, None, Some, refl, sym, ap, ◌∙◌, subst, arith}
use Rattle.std.specs.Prelude.{sum, unwrap_or, fold}
use Rattle.std.specs.Option.{option_map_or}
use Rattle.std.specs.List.{filter, count_by, sum_by, cons_option}
use Rattle.std.specs.List.Sorted.{IsPermutation}
use Rattle.std.proofs.lemmas.List.Sums.{sum_by-cons, sum_by-append}
use Rattle.std.proofs.lemmas.List.Sorted.{sum_by-IsPermutation}
use Rattle.workload_spec.specs.declared.reply.Said.{Said}
use Rattle.outcome_spec.specs.Entries.{Entry, is_before, is_not_after, before, not_after, shown_in}
use Rattle.timeline_spec.specs.Timeline.{Each, Follows, InOrder}
use Rattle.timeline_laws.proofs.Order.{Each-weaker, before-itself, order-front, order-rest}

-- One more reply adds its part to a sum where it is chosen.
chosen-sum : (f : Entry → ℕ) (b : Bool) (entry : Entry) (kept : List Entry) → sum_by f (cond b (entry ∷ kept) kept) ≡ cond b (f entry) 0 + sum_by f kept
chosen-sum f true entry kept = sum_by-cons f entry kept
chosen-sum f false entry kept = let e : sum_by f kept ≡ 0 + sum_by f kept = omega arith in e

-- the sum over those that pass a test
pub sum-filter : (f : Entry → ℕ) (p : Entry → Bool) (entries : List Entry) → sum_by f (filter p entries) ≡ sum_by (λ entry. cond (p entry) (f entry) 0) entries
sum-filter f p [] = refl
sum-filter f p (entry ∷ entries) =
    chosen-sum f (p entry) entry (filter p entries) ∙ ap (λ (n : ℕ). cond (p entry) (f entry) 0 + n) (sum-filter f p entries)
    ∙ sym (sum_by-cons (λ other. cond (p other) (f other) 0) entry entries)

-- A sum over replies that each count nothing is zero.
sum-zero : (f : Entry → ℕ) (entries : List Entry) → Each (λ entry. f entry ≡ 0) entries → sum_by f entries ≡ 0
sum-zero f [] h = refl
sum-zero f (entry ∷ entries) h = sum_by-cons f entry entries ∙ (rw (h.0, sum-zero f entries h.1) refl)

-- A sum is at most another where each part is at most the other's.
sum-most : (f g : Entry → ℕ) (entries : List Entry) → Each (λ entry. f entry ≤ g entry) entries → sum_by f entries ≤ sum_by g entries
sum-most f g [] h = omega arith
sum-most f g (entry ∷ entries) h =
    let first : f entry ≤ g entry = h.0 in
    let rest : sum_by f entries ≤ sum_by g entries = sum-most f g entries h.1 in
    omega (arith, sum_by-cons f entry entries, sum_by-cons g entry entries, first, rest)

-- A part that counts only where it is chosen is at most the whole part.
part-most : (f : Entry → ℕ) (b : Bool) (entry : Entry) → cond b (f entry) 0 ≤ f entry
part-most f true entry = omega arith
part-most f false entry = omega arith

-- A part that is chosen counts at least as the whole part.
part-all : (f : Entry → ℕ) (b : Bool) (entry : Entry) → b ≡ true → f entry ≤ cond b (f entry) 0
part-all f true entry h = omega arith
part-all f false entry h = absurd (let never : ⊥ = cc in never)

-- A part that is not chosen counts nothing.
part-none : (f : Entry → ℕ) (b : Bool) (entry : Entry) → b ≡ false → cond b (f entry) 0 ≡ 0
part-none f true entry h = absurd (let never : ⊥ = cc in never)
part-none f false entry h = refl

-- What each reply counts where it passes is at most what it counts.
each-part-of : (f : Entry → ℕ) (p : Entry → Bool) (entries : List Entry) → Each (λ other. cond (p other) (f other) 0 ≤ f other) entries
each-part-of f p [] = tt
each-part-of f p (entry ∷ entries) = (part-most f (p entry) entry, each-part-of f p entries)

module _ (printed timeline front : List Entry) (entry : Entry) (rest : List Entry) (same : IsPermutation timeline printed)
    (whole : timeline ≡ front ++ entry ∷ rest) (order : InOrder timeline) (f : Entry → ℕ) where
  -- A sum over printed replies that pass is parted at the reply's place.
  parted : (p : Entry → Bool) → sum_by f (filter p printed) ≡ sum_by (λ other. cond (p other) (f other) 0) front + (cond (p entry) (f entry) 0 + sum_by (λ other. cond (p other) (f other) 0) rest)
  parted p =
      sum-filter f p printed ∙ sum_by-IsPermutation (λ other. cond (p other) (f other) 0) timeline printed same ∙ ap (sum_by (λ other. cond (p other) (f other) 0)) whole
      ∙ sum_by-append (λ other. cond (p other) (f other) 0) front (entry ∷ rest)
      ∙ ap (λ (n : ℕ). sum_by (λ other. cond (p other) (f other) 0) front + n) (sum_by-cons (λ other. cond (p other) (f other) 0) entry rest)

  -- The timeline, cut at the reply, is in order.
  in_order : InOrder (front ++ entry ∷ rest)
  in_order = subst InOrder whole order

  -- The sum over those before is at most that over those in front.
  pub sum-before : sum_by f (before printed entry) ≤ sum_by f front
  sum-before =
      let p : Entry → Bool = λ other. is_before other entry in
      let most : sum_by (λ other. cond (is_before other entry) (f other) 0) front ≤ sum_by f front =
      sum-most (λ other. cond (is_before other entry) (f other) 0) f front (Each-weaker (λ earlier. Follows earlier entry) (λ other. cond (is_before other entry) (f other) 0 ≤ f other) (λ other h. part-most f (is_before other entry) other) front (order-front front entry rest in_order)) in
      let here : cond (is_before entry entry) (f entry) 0 ≡ 0 = part-none f (is_before entry entry) entry (before-itself entry) in
      let none : sum_by (λ other. cond (is_before other entry) (f other) 0) rest ≡ 0 =
      sum-zero (λ other. cond (is_before other entry) (f other) 0) rest (Each-weaker (Follows entry) (λ other. cond (is_before other entry) (f other) 0 ≡ 0) (λ other h. part-none f (is_before other entry) other h.not_before) rest (order-rest front entry rest in_order)) in
      omega (arith, parted (λ other. is_before other entry), most, here, none)

  -- The sum over those not after is at least that over those in front, and at most that over all.
  pub sum-not_after : sum_by f front ≤ sum_by f (not_after printed entry)
  sum-not_after =
      let all : sum_by f front ≤ sum_by (λ other. cond (is_not_after other entry) (f other) 0) front =
      sum-most f (λ other. cond (is_not_after other entry) (f other) 0) front (Each-weaker (λ earlier. Follows earlier entry) (λ other. f other ≤ cond (is_not_after other entry) (f other) 0) (λ other h. part-all f (is_not_after other entry) other (ap not h.not_before)) front (order-front front entry rest in_order)) in
      omega (arith, parted (λ other. is_not_after other entry), all)

  -- the sum over some replies is at most that over all
  pub sum-at-most : (p : Entry → Bool) → sum_by f (filter p printed) ≤ sum_by f printed
  sum-at-most p =
      let most : sum_by (λ other. cond (p other) (f other) 0) printed ≤ sum_by f printed = sum-most (λ other. cond (p other) (f other) 0) f printed (each-part-of f p printed) in
      omega (arith, sum-filter f p printed, most)

-- ---- what is counted as a sum over the replies

-- One more number, if there is one, counts where it passes.
counted-step : (p : ℕ → Bool) (o : Option ℕ) (others : List ℕ) → count_by p (cons_option o others) ≡ option_map_or (λ n. cond (p n) 1 0) o 0 + count_by p others
counted-step p None others = let e : count_by p others ≡ 0 + count_by p others = omega arith in e
counted-step p (Some n) others = sum_by-cons (λ m. cond (p m) 1 0) n others

-- counting the shown numbers that pass is a sum over the replies
pub counted : (p : ℕ → Bool) (shown : Said → Option ℕ) (entries : List Entry) → count_by p (shown_in shown entries) ≡ sum_by (λ entry. option_map_or (λ n. cond (p n) 1 0) (shown entry.reply.said) 0) entries
counted p shown [] = refl
counted p shown (entry ∷ entries) =
    counted-step p (shown entry.reply.said) (shown_in shown entries)
    ∙ ap (λ (n : ℕ). option_map_or (λ m. cond (p m) 1 0) (shown entry.reply.said) 0 + n) (counted p shown entries)
    ∙ sym (sum_by-cons (λ other. option_map_or (λ m. cond (p m) 1 0) (shown other.reply.said) 0) entry entries)

-- A sum that begins at a number is that number and the sum.
sum-from : (a : ℕ) (xs : List ℕ) → fold ◌+◌ a xs ≡ a + sum xs
sum-from a [] = omega arith
sum-from a (x ∷ xs) =
    let first : fold ◌+◌ (a + x) xs ≡ (a + x) + sum xs = sum-from (a + x) xs in
    let second : fold ◌+◌ (0 + x) xs ≡ (0 + x) + sum xs = sum-from (0 + x) xs in
    omega (arith, first, second)

-- One more number, if there is one, is added to the sum.
summed-step : (o : Option ℕ) (others : List ℕ) → sum (cons_option o others) ≡ unwrap_or o 0 + sum others
summed-step None others = let e : sum others ≡ 0 + sum others = omega arith in e
summed-step (Some n) others = let e : 0 + n ≡ n = omega arith in ap (λ (m : ℕ). fold ◌+◌ m others) e ∙ sum-from n others

-- the sum of the shown numbers is a sum over the replies
pub summed : (shown : Said → Option ℕ) (entries : List Entry) → sum (shown_in shown entries) ≡ sum_by (λ entry. unwrap_or (shown entry.reply.said) 0) entries
summed shown [] = refl
summed shown (entry ∷ entries) =
    summed-step (shown entry.reply.said) (shown_in shown entries)
    ∙ ap (λ (n : ℕ). unwrap_or (shown entry.reply.said) 0 + n) (summed shown entries)
    ∙ sym (sum_by-cons (λ other. unwrap_or (shown other.reply.said) 0) entry entries)
