-- Pieces one after another: each stands where those before it end.
use Rattle.std.proofs.Common.{◌≡◌, ℕ, zero, suc, ◌+◌, ◌*◌, ◌<◌, ◌≤◌, List, [], ◌∷◌, ◌++◌, length, take, get_or, sym, ap, ◌∙◌, subst, arith, length-append}
use Rattle.std.specs.Prelude.{flat_map}
use Rattle.std.proofs.lemmas.List.{get_or-append-add, length-take-le}
use Rattle.stream_laws.proofs.Pieces.{Has, has-between}

-- a piece that stands behind a front
pub has-behind : (front bytes : List ℕ) (place : ℕ) (piece : List ℕ) → Has bytes place piece
    → Has (front ++ bytes) (length front + place) piece
has-behind front bytes place piece has = record {
  within = omega (arith, length-append front bytes, has.within);
  same = λ i h.
      ap (λ (n : ℕ). get_or (front ++ bytes) n 0) (omega arith)
      ∙ get_or-append-add front bytes (place + i) 0
      ∙ has.same i h;
}

module _ {X : Type 0} (f : X → List ℕ) where
  -- where the piece of an item begins
  abbrev pub begins : List X → ℕ → ℕ
  begins xs i = length (flat_map f (take i xs))

  -- the piece of an item stands there
  pub piece-there : (xs : List X) (i : ℕ) (d : X) → i < length xs
      → Has (flat_map f xs) (begins xs i) (f (get_or xs i d))
  piece-there [] i d inside = absurd (omega arith)
  piece-there (x ∷ xs) zero d inside = has-between [] (f x) (flat_map f xs)
  piece-there (x ∷ xs) (suc i) d inside =
      let P : ℕ → Type 0 = λ n. Has (f x ++ flat_map f xs) n (f (get_or xs i d)) in
      subst P (sym (length-append (f x) (flat_map f (take i xs))))
      (has-behind (f x) (flat_map f xs) (begins xs i) (f (get_or xs i d))
      (piece-there xs i d (omega arith)))

  -- the next begins where it ends
  pub begins-next : (xs : List X) (i : ℕ) (d : X) → i < length xs
      → begins xs (i + 1) ≡ begins xs i + length (f (get_or xs i d))
  begins-next [] i d inside = absurd (omega arith)
  begins-next (x ∷ xs) zero d inside = length-append (f x) [] ∙ omega arith
  begins-next (x ∷ xs) (suc i) d inside =
      let next : suc i + 1 ≡ suc (i + 1) = omega arith in
      let rest = begins-next xs i d (omega arith) in
      ap (begins (x ∷ xs)) next
      ∙ omega (
        arith,
        length-append (f x) (flat_map f (take (i + 1) xs)),
        length-append (f x)
            (flat_map f (take i xs)),
        rest,
      )

  -- no piece begins behind the end
  pub begins-within : (xs : List X) (i : ℕ) → begins xs i ≤ length (flat_map f xs)
  begins-within [] zero = omega arith
  begins-within [] (suc i) = omega arith
  begins-within (x ∷ xs) zero = omega arith
  begins-within (x ∷ xs) (suc i) =
      omega (
        arith,
        begins-within xs i,
        length-append (f x) (flat_map f (take i xs)),
        length-append
            (f x) (flat_map f xs),
      )

  -- pieces of one size
  pub length-pieces : (size : ℕ) (xs : List X) → ((x : X) → length (f x) ≡ size)
      → length (flat_map f xs) ≡ length xs * size
  length-pieces size [] same = omega arith
  length-pieces size (x ∷ xs) same =
      omega (arith, length-append (f x) (flat_map f xs), same x, length-pieces size xs same)

  -- of pieces of one size each begins behind so many of it
  pub begins-even : (size : ℕ) (xs : List X) (i : ℕ) → ((x : X) → length (f x) ≡ size)
      → i ≤ length xs → begins xs i ≡ i * size
  begins-even size xs i same inside =
      length-pieces size (take i xs) same ∙ ap (λ (n : ℕ). n * size) (length-take-le i xs inside)
