-- The last of the numbers of a range that pass a test.
use Rattle.std.proofs.Common.{◌≡◌, ◌⊎◌, ℕ, zero, suc, ◌+◌, ◌<◌, ◌≤◌, ◌==◌, nat_lt, Bool, true, false, cond, ◌∷◌, Option, None, Some, refl, sym, ap, ◌∙◌, arith, inl, inr}
use Rattle.std.specs.List.{filter, last_or, range_with_len}
use Rattle.std.proofs.lemmas.Bool.Decides.{nat_tests}

-- True is not the same as false.
pub true_false : true ≡ false → ⊥
true_false e = cc

-- none of the range passes
abbrev pub NonePass : (ℕ → Bool) → ℕ → ℕ → Type 0
NonePass p at len = (j : ℕ) → at ≤ j → j < at + len → p j ≡ false

-- this one of the range is the last that passes
pub record LastPass (p : ℕ → Bool) (at len k : ℕ) : Type 0 where
  pub low : at ≤ k
  pub high : k < at + len
  pub passes : p k ≡ true
  pub later : (j : ℕ) → k < j → j < at + len → p j ≡ false

-- the last is the one in front where none passes, else the last that passes
Told : (ℕ → Bool) → ℕ → ℕ → Option ℕ → Type 0
Told p at len o =
    ((last_or o (filter p (range_with_len at len)) ≡ o) × NonePass p at len)
    ⊎ ((k : ℕ) × (last_or o (filter p (range_with_len at len)) ≡ Some k) × LastPass p at len k)

-- one way or the other
told : (p : ℕ → Bool) (at len : ℕ) (o : Option ℕ) → Told p at len o
unfolding Told
told p at zero o = inl (refl, λ j low high. absurd (let h : at ≤ j = low in let g : j < at + 0 = high in omega (arith, h, g)))
told p at (suc len) o = go (p at) refl (told p (at + 1) len)
  where
    here : (b : Bool) → p at ≡ b → (j : ℕ) → at ≤ j → j < at + suc len → ((j : ℕ) → at + 1 ≤ j → j < at + 1 + len → p j ≡ false) → b ≡ false → p j ≡ false
    here b e j low high rest f = by (at == j) refl
      where
        by : (t : Bool) → (at == j) ≡ t → p j ≡ false
        by true same = let s : at ≡ j = grind (arith, nat_tests, same) in ap p (sym s) ∙ e ∙ f
        by false other = rest j (grind (arith, nat_tests, low, other)) (omega (arith, high))

    after : (k : ℕ) → LastPass p (at + 1) len k → LastPass p at (suc len) k
    after k l = record { low = omega (arith, l.low); high = omega (arith, l.high); passes = l.passes; later = λ j less high. l.later j less (omega (arith, high)) }

    go : (b : Bool) → p at ≡ b → ((o : Option ℕ) → Told p (at + 1) len o) → Told p at (suc len) o
    go true e rest = by (rest (Some at))
      where
        by : Told p (at + 1) len (Some at) → Told p at (suc len) o
        by (inl none) = inr (
          at,
          ap (λ (b : Bool). last_or o (cond b (at ∷ filter p (range_with_len (at + 1) len)) (filter p (range_with_len (at + 1) len)))) e ∙ none.0,
          record { low = omega arith; high = omega arith; passes = e; later = λ j less high. none.1 j (omega (arith, less)) (omega (arith, high)) },
        )
        by (inr some) = inr (some.0, ap (λ (b : Bool). last_or o (cond b (at ∷ filter p (range_with_len (at + 1) len)) (filter p (range_with_len (at + 1) len)))) e ∙ some.1, after some.0 some.2)
    go false e rest = by (rest o)
      where
        by : Told p (at + 1) len o → Told p at (suc len) o
        by (inl none) = inl (
          ap (λ (b : Bool). last_or o (cond b (at ∷ filter p (range_with_len (at + 1) len)) (filter p (range_with_len (at + 1) len)))) e ∙ none.0,
          λ j low high. here false e j low high none.1 refl,
        )
        by (inr some) = inr (some.0, ap (λ (b : Bool). last_or o (cond b (at ∷ filter p (range_with_len (at + 1) len)) (filter p (range_with_len (at + 1) len)))) e ∙ some.1, after some.0 some.2)

-- the last that passes, if one does
pub last_cases : (p : ℕ → Bool) (at len : ℕ)
    → ((last_or None (filter p (range_with_len at len)) ≡ None) × NonePass p at len)
    ⊎ ((k : ℕ) × (last_or None (filter p (range_with_len at len)) ≡ Some k) × LastPass p at len k)
unfolding Told
last_cases p at len = told p at len None

-- where one is the last that passes, it is told
pub last_is : (p : ℕ → Bool) (at len k : ℕ) → LastPass p at len k → last_or None (filter p (range_with_len at len)) ≡ Some k
last_is p at len k l = go (last_cases p at len)
  where
    same : (other : ℕ) → LastPass p at len other → other ≡ k
    same other m = decide (nat_lt other k) (nat_lt k other) refl refl
      where
        decide : (x y : Bool) → nat_lt other k ≡ x → nat_lt k other ≡ y → other ≡ k
        decide true y e f = absurd (true_false (sym l.passes ∙ m.later k (grind (arith, nat_tests, e)) l.high))
        decide false true e f = absurd (true_false (sym m.passes ∙ l.later other (grind (arith, nat_tests, f)) m.high))
        decide false false e f = grind (arith, nat_tests, e, f)

    go : ((last_or None (filter p (range_with_len at len)) ≡ None) × NonePass p at len)
        ⊎ ((other : ℕ) × (last_or None (filter p (range_with_len at len)) ≡ Some other) × LastPass p at len other)
        → last_or None (filter p (range_with_len at len)) ≡ Some k
    go (inl none) = absurd (true_false (sym l.passes ∙ none.1 k l.low l.high))
    go (inr some) = some.1 ∙ ap Some (same some.0 some.2)

-- where none passes, none is told
pub last_none : (p : ℕ → Bool) (at len : ℕ) → NonePass p at len → last_or None (filter p (range_with_len at len)) ≡ None
last_none p at len none = go (last_cases p at len)
  where
    go : ((last_or None (filter p (range_with_len at len)) ≡ None) × NonePass p at len)
        ⊎ ((other : ℕ) × (last_or None (filter p (range_with_len at len)) ≡ Some other) × LastPass p at len other)
        → last_or None (filter p (range_with_len at len)) ≡ None
    go (inl n) = n.0
    go (inr some) = absurd (true_false (sym some.2.passes ∙ none some.0 some.2.low some.2.high))
