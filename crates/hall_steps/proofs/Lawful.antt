-- Each turn of a word that a hall makes is a lawful move.
use Rattle.std.proofs.Common.{◌≡◌, ℕ, ◌+◌, ◌/◌, ◌%◌, ◌^◌, ◌<◌, Option, Some, refl, sym, ap, subst, ◌∙◌, inl, arith}
use Rattle.std.specs.Prelude.{IsSomeAnd}
use Rattle.block_word.specs.Word.{IsInRange, IsLawfulMove, stamps_taken, state_of, unpacked}
use Rattle.hall_rule.specs.Heads.{IsFrozen, head_in}
use Rattle.hall_steps.specs.Hall.{with_head}

-- what a number stands for has its room
in_range : (n : ℕ) → IsInRange (unpacked n)
in_range n = record { stamp = omega arith; readers = omega arith }

-- a turn of which there are six
turn : (n m x y taken : ℕ) → stamps_taken (state_of x) (state_of y) ≡ Some taken → n / 2 ^ 62 ≡ x → m / 2 ^ 62 ≡ y → m / 2 ^ 32 % 2 ^ 30 ≡ n / 2 ^ 32 % 2 ^ 30 + taken → m % 2 ^ 32 ≡ n % 2 ^ 32 → IsLawfulMove (unpacked n) (unpacked m)
turn n m x y taken known from to stamp readers =
    let takes : stamps_taken (state_of (n / 2 ^ 62)) (state_of (m / 2 ^ 62)) ≡ Some taken = ap (λ (i : ℕ). stamps_taken (state_of i) (state_of (m / 2 ^ 62))) from ∙ (ap (λ (i : ℕ). stamps_taken (state_of x) (state_of i)) to ∙ known) in
    let stamps : IsSomeAnd (stamps_taken (state_of (n / 2 ^ 62)) (state_of (m / 2 ^ 62))) (λ (k : ℕ). m / 2 ^ 32 % 2 ^ 30 ≡ n / 2 ^ 32 % 2 ^ 30 + k) = subst (λ (o : Option ℕ). IsSomeAnd o (λ (k : ℕ). m / 2 ^ 32 % 2 ^ 30 ≡ n / 2 ^ 32 % 2 ^ 30 + k)) (sym takes) stamp in
    record { from = in_range n; to = in_range m; move = inl (stamps, readers) }

-- What the holder of a block that is to be thawed makes of its word.
pub thawing_is_lawful : (n : ℕ) → n < 2 ^ 64 → IsFrozen (head_in n) → IsLawfulMove (unpacked n) (unpacked (with_head n (head_in n % 2 ^ 30)))
thawing_is_lawful n small frozen =
    let low = frozen.0 in
    let high = frozen.1 in
    turn n (with_head n (head_in n % 2 ^ 30)) 3 0 0 refl (omega (arith, low, high)) (omega (arith, low, high)) (omega (arith, low, high)) (omega arith)
