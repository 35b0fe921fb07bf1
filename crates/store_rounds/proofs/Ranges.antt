-- Lists by their places, and what the places of a range give.
use Rattle.std.proofs.Common.{◌≡◌, ℕ, zero, suc, ◌+◌, ◌-◌, ◌<◌, ◌≤◌, nat_le, Bool, true, false, cond, ◌||◌, List, [], ◌∷◌, ◌++◌, map, length, get_or, take, drop, refl, sym, ap, ◌∙◌, append-nil, append_assoc, arith}
use Rattle.std.specs.List.{flat_map, list_any, range_with_len}
use Rattle.std.proofs.lemmas.Bool.Decides.{nat_tests}
use Rattle.std.proofs.lemmas.Grind.{elements}

-- ---- places

module _ {X : Type 0} where
  -- a place within the first list is that list's
  pub at_front : (front back : List X) (k : ℕ) (d : X) → k < length front → get_or (front ++ back) k d ≡ get_or front k d
  at_front front back k d within = grind (arith, elements)

  -- a place behind the first list is the second list's
  pub at_back : (front back : List X) (n k : ℕ) (d : X) → length front ≡ n → get_or (front ++ back) (n + k) d ≡ get_or back k d
  at_back front back n k d size = grind (arith, elements)

  -- what a list has at a place does not depend on what stands for nothing there
  pub any_default : (xs : List X) (k : ℕ) (d e : X) → k < length xs → get_or xs k d ≡ get_or xs k e
  any_default xs k d e within = grind (arith, elements)

  -- one of a list that has one
  pub any_of : (xs : List X) (k : ℕ) → k < length xs → X
  any_of [] k within = absurd (omega (arith, within))
  any_of (x ∷ xs) k within = x

  -- where one of a list is so, it stands at a place
  pub some_place : (f : X → Bool) (xs : List X) → list_any f xs ≡ true → (k : ℕ) × (k < length xs) × ((d : X) → f (get_or xs k d) ≡ true)
  some_place f [] some = absurd (let never : ⊥ = cc some in never)
  some_place f (x ∷ xs) some = go (f x) refl some (some_place f xs)
    where
      go : (b : Bool) → f x ≡ b → b || list_any f xs ≡ true
          → (list_any f xs ≡ true → (k : ℕ) × (k < length xs) × ((d : X) → f (get_or xs k d) ≡ true))
          → (k : ℕ) × (k < length (x ∷ xs)) × ((d : X) → f (get_or (x ∷ xs) k d) ≡ true)
      go true here e behind = (0, omega arith, λ d. here)
      go false here e behind = let rest = behind e in (suc rest.0, omega (arith, rest.1), rest.2)

-- ---- ranges

module _ {X : Type 0} where
  -- two that agree on a range give the same list over it
  pub same_on_range : (f g : ℕ → X) (a n : ℕ) → ((k : ℕ) → a ≤ k → k < a + n → f k ≡ g k) → map f (range_with_len a n) ≡ map g (range_with_len a n)
  same_on_range f g a zero same = refl
  same_on_range f g a (suc n) same =
      ap (λ x. x ∷ map f (range_with_len (a + 1) n)) (same a (omega arith) (omega arith))
      ∙ ap (λ xs. g a ∷ xs) (same_on_range f g (a + 1) n (λ k low high. same k (omega (arith, low)) (omega (arith, high))))

  -- two that agree on a range give the same joined lists over it
  pub same_flat : (f g : ℕ → List X) (a n : ℕ) → ((k : ℕ) → a ≤ k → k < a + n → f k ≡ g k) → flat_map f (range_with_len a n) ≡ flat_map g (range_with_len a n)
  same_flat f g a zero same = refl
  same_flat f g a (suc n) same =
      ap (λ (xs : List X). xs ++ flat_map f (range_with_len (a + 1) n)) (same a (omega arith) (omega arith))
      ∙ ap (λ (xs : List X). g a ++ xs) (same_flat f g (a + 1) n (λ k low high. same k (omega (arith, low)) (omega (arith, high))))

  -- the last of a range
  pub one_behind : (f : ℕ → List X) (a n j : ℕ) → a + n ≡ j → flat_map f (range_with_len a (suc n)) ≡ flat_map f (range_with_len a n) ++ f j
  one_behind f a zero j at' = append-nil (f a) ∙ ap f (let e : a ≡ j = omega (arith, at') in e)
  one_behind f a (suc n) j at' =
      ap (λ (xs : List X). f a ++ xs) (one_behind f (a + 1) n j (omega (arith, at')))
      ∙ sym (append_assoc (f a) (flat_map f (range_with_len (a + 1) n)) (f j))

  -- a range in two parts, the second counted on
  pub flat_split : (f : ℕ → List X) (a m n : ℕ) → flat_map f (range_with_len a (m + n)) ≡ flat_map f (range_with_len a m) ++ flat_map f (range_with_len (m + a) n)
  flat_split f a zero n =
      ap (λ k. flat_map f (range_with_len a k)) (let e : 0 + n ≡ n = omega arith in e)
      ∙ ap (λ k. flat_map f (range_with_len k n)) (let e : a ≡ 0 + a = omega arith in e)
  flat_split f a (suc m) n =
      ap (λ k. flat_map f (range_with_len a k)) (let e : suc m + n ≡ suc (m + n) = omega arith in e)
      ∙ ap (λ (xs : List X). f a ++ xs) (flat_split f (a + 1) m n)
      ∙ ap (λ k. f a ++ (flat_map f (range_with_len (a + 1) m) ++ flat_map f (range_with_len k n))) (let e : m + (a + 1) ≡ suc m + a = omega arith in e)
      ∙ sym (append_assoc (f a) (flat_map f (range_with_len (a + 1) m)) (flat_map f (range_with_len (suc m + a) n)))

  -- a range that begins later gives the same where the other is asked that much later
  pub shifted : (f g : ℕ → List X) (m a n : ℕ) → ((k : ℕ) → a ≤ k → k < a + n → f (m + k) ≡ g k)
      → flat_map f (range_with_len (m + a) n) ≡ flat_map g (range_with_len a n)
  shifted f g m a zero same = refl
  shifted f g m a (suc n) same =
      ap (λ (xs : List X). xs ++ flat_map f (range_with_len (m + a + 1) n)) (same a (omega arith) (omega arith))
      ∙ ap (λ k. g a ++ flat_map f (range_with_len k n)) (let e : m + a + 1 ≡ m + (a + 1) = omega arith in e)
      ∙ ap (λ (xs : List X). g a ++ xs) (shifted f g m (a + 1) n (λ k low high. same k (omega (arith, low)) (omega (arith, high))))

  -- what two parts give, by the places of both
  abbrev pub joined : ℕ → (ℕ → List X) → (ℕ → List X) → ℕ → List X
  joined middle f g n = cond (nat_le n middle) (f n) (g (n - middle))

  -- up to the middle stands what the first part gives
  pub joined_front : (middle : ℕ) (f g : ℕ → List X) (n : ℕ) → n ≤ middle → joined middle f g n ≡ f n
  joined_front middle f g n low =
      let is : nat_le n middle ≡ true = grind (arith, nat_tests, low) in
      ap (λ b. cond b (f n) (g (n - middle))) is

  -- behind the middle stands what the second part gives
  pub joined_back : (middle : ℕ) (f g : ℕ → List X) (n j : ℕ) → middle + j ≡ n → 0 < j → joined middle f g n ≡ g j
  joined_back middle f g n j same some =
      let is : nat_le n middle ≡ false = grind (arith, nat_tests, same, some) in
      ap (λ b. cond b (f n) (g (n - middle))) is ∙ ap g (let e : n - middle ≡ j = omega (arith, same) in e)

  -- over both ranges the joined lists are those of the first and then those of the second
  pub joined_flat : (m n : ℕ) (f g : ℕ → List X) → flat_map (joined m f g) (range_with_len 1 (m + n)) ≡ flat_map f (range_with_len 1 m) ++ flat_map g (range_with_len 1 n)
  joined_flat m n f g =
      flat_split (joined m f g) 1 m n
      ∙ ap (λ (xs : List X). xs ++ flat_map (joined m f g) (range_with_len (m + 1) n))
      (same_flat (joined m f g) f 1 m (λ k low high. joined_front m f g k (omega (arith, high))))
      ∙ ap (λ (xs : List X). flat_map f (range_with_len 1 m) ++ xs)
      (shifted (joined m f g) g m 1 n (λ k low high. joined_back m f g (m + k) k refl (omega (arith, low))))

-- what the elements of a list give, place by place
pub flat_at : {X Y : Type 0} (f : X → List Y) (t : ℕ → List Y) (a : ℕ) (xs : List X) → ((k : ℕ) (d : X) → k < length xs → f (get_or xs k d) ≡ t (a + k))
    → flat_map f xs ≡ flat_map t (range_with_len a (length xs))
flat_at f t a [] each = refl
flat_at {X} {Y} f t a (x ∷ xs) each =
    ap (λ (ys : List Y). ys ++ flat_map f xs) (each 0 x (omega arith) ∙ ap t (let e : a + 0 ≡ a = omega arith in e))
    ∙ ap (λ (ys : List Y). t a ++ ys)
    (flat_at f t (a + 1) xs (λ k d within. each (suc k) d (omega (arith, within)) ∙ ap t (let e : a + suc k ≡ a + 1 + k = omega arith in e)))

-- a list that was written over as many places is what was written
pub written_over : {X : Type 0} (new old : List X) (n : ℕ) → n ≡ length old → length new ≡ length old → take n (new ++ drop (length new) old) ≡ new
written_over new old n size same = ap (λ k. take k (new ++ drop (length new) old)) (size ∙ sym same) ∙ all_of new old same
  where
    all_of : {X : Type 0} (new old : List X) → length new ≡ length old → take (length new) (new ++ drop (length new) old) ≡ new
    all_of [] old same = refl
    all_of (x ∷ new) [] same = absurd (omega (arith, same))
    all_of {X} (x ∷ new) (y ∷ old) same = ap (λ (xs : List X). x ∷ xs) (all_of new old (omega (arith, same)))
