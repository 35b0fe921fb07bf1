-- What a crash leaves around a closed gate, as lists of bytes.
use Rattle.std.proofs.Common.{◌≡◌, ℕ, ◌+◌, ◌≤◌, List, [], ◌∷◌, ◌++◌, length, take, drop, refl, sym}
use Rattle.std.proofs.Common.{◌∙◌, ap, arith, append_assoc, length-append}
use Rattle.std.proofs.lemmas.List.{take_at, drop_at, nil_from_length}
use Rattle.disk_ports.specs.FileSteps.{Lays, Tears}

one : (xs : List ℕ) → length xs ≡ 1 → (x : ℕ) × (xs ≡ x ∷ [])
one [] is = absurd (omega (arith, is))
one (x ∷ []) is = (x, refl)
one (x ∷ y ∷ xs) is = absurd (omega (arith, is))

module _ (front rest : List ℕ) (gate : ℕ) (place : length front ≡ gate) where
  size : length (front ++ 0 ∷ []) ≡ gate + 1
  size = omega (arith, length-append front (0 ∷ []), place)

  behind_is : front ++ 0 ∷ rest ≡ (front ++ 0 ∷ []) ++ rest
  behind_is = sym (append_assoc front (0 ∷ []) rest)

  up_to_gate : take (gate + 1) (front ++ 0 ∷ rest) ≡ front ++ 0 ∷ []
  up_to_gate = ap (λ (l : List ℕ). take (gate + 1) l) behind_is
      ∙ take_at (front ++ 0 ∷ []) rest (gate + 1) size

  back : drop (gate + 1) (front ++ 0 ∷ rest) ≡ rest
  back = ap (λ (l : List ℕ). drop (gate + 1) l) behind_is
      ∙ drop_at (front ++ 0 ∷ []) rest (gate + 1) size

  up_to : take gate (front ++ 0 ∷ rest) ≡ front
  up_to = take_at front (0 ∷ rest) gate place

  long : gate + 1 ≤ length (front ++ 0 ∷ rest)
  long = omega (arith, ap length behind_is, length-append (front ++ 0 ∷ []) rest, size)

  -- a write behind the gate that a crash cuts short
  pub torn_behind : (count : ℕ) (c : List ℕ) → Tears (gate + 1) count (front ++ 0 ∷ rest) c
      → (after : List ℕ) × (c ≡ front ++ 0 ∷ after)
  torn_behind count c torn =
      let after = torn.any ++ (drop (gate + 1 + count) (front ++ 0 ∷ rest) ++ torn.past) in (
        after,
        torn.is ∙ ap (λ (l : List ℕ). l ++ after) up_to_gate
            ∙ append_assoc front (0 ∷ []) after,
      )

  -- one that is done
  pub laid_behind : (piece c : List ℕ) → Lays (gate + 1) piece (front ++ 0 ∷ rest) c
      → (after : List ℕ) × (c ≡ front ++ 0 ∷ (piece ++ after))
  laid_behind piece c laid =
      let after = drop (gate + 1 + length piece) (front ++ 0 ∷ rest) in
      let none : laid.gap ≡ [] = nil_from_length laid.gap (omega (arith, laid.size, long)) in (
        after,
        laid.is
            ∙ ap (λ (l : List ℕ). l ++ (laid.gap ++ (piece ++ after))) up_to_gate
            ∙ ap (λ (l : List ℕ). (front ++ 0 ∷ []) ++ (l ++ (piece ++ after))) none
            ∙ append_assoc front (0 ∷ []) (piece ++ after),
      )

  -- a write of the gate that a crash cuts short
  pub torn_gate : (c : List ℕ) → Tears gate 1 (front ++ 0 ∷ rest) c → (g : ℕ) × (past : List ℕ)
      × (c ≡ front ++ g ∷ (rest ++ past))
  torn_gate c torn =
      let found = one torn.any (omega (arith, torn.size, long)) in (
        found.0,
        torn.past,
        torn.is
            ∙ ap (λ (l : List ℕ).
            l ++ (torn.any ++ (drop (gate + 1) (front ++ 0 ∷ rest) ++ torn.past))) up_to
            ∙ ap (λ (l : List ℕ).
            front ++ (l ++ (drop (gate + 1) (front ++ 0 ∷ rest) ++ torn.past))) found.1
            ∙ ap (λ (l : List ℕ). front ++ found.0 ∷ (l ++ torn.past)) back,
      )

  -- one that is done
  pub laid_gate : (c : List ℕ) → Lays gate (1 ∷ []) (front ++ 0 ∷ rest) c → c ≡ front ++ 1 ∷ rest
  laid_gate c laid =
      let none : laid.gap ≡ [] = nil_from_length laid.gap (omega (arith, laid.size, long)) in
      laid.is
      ∙ ap (λ (l : List ℕ). l ++ (laid.gap ++ ((1 ∷ []) ++ drop (gate + 1) (front ++ 0 ∷ rest))))
      up_to
      ∙ ap (λ (l : List ℕ). front ++ (l ++ ((1 ∷ []) ++ drop (gate + 1) (front ++ 0 ∷ rest)))) none
      ∙ ap (λ (l : List ℕ). front ++ 1 ∷ l) back
