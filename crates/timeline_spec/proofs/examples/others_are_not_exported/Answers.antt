use Rattle.std.proofs.Common.{◌≡◌, ℕ, ◌≤◌, nat_le, false, refl, arith}
use Rattle.std.proofs.lemmas.Bool.Decides.{nat_tests}
use Rattle.timeline_spec.proofs.examples.others_are_not_exported.Goals as goal

more : (a b : ℕ) → a ≤ b → nat_le a b ≡ false → ⊥
more a b h e = grind (arith, nat_tests, h, e)

pub returns : goal.returns
returns c = (
  λ h. absurd (let never : ⊥ = cc (h.snapshot) in never),
  λ h. absurd (let never : ⊥ = cc (h.rows_are) in never),
  λ h. more _ _ h.full_blocks refl,
  λ h. more _ _ h.blocks refl,
  λ h. more _ _ h.were_frozen refl,
  λ h. more _ _ h.images refl,
  λ h. absurd (let never : ⊥ = cc (h) in never),
  λ h. h,
  λ h. h,
  λ h. absurd (let never : ⊥ = cc (h.clean) in never),
  λ h. absurd (let never : ⊥ = cc (h) in never),
  λ h. absurd (let never : ⊥ = cc (h) in never),
  λ h. more _ _ h.some_rows refl,
  λ h. absurd (let never : ⊥ = cc (h.1) in never),
  λ h. absurd (let never : ⊥ = cc (h.0) in never),
)
