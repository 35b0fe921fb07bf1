use Rattle.std.proofs.Common.{◌≡◌, inl, inr, ℕ, zero, suc, ◌≤◌, List, [], ◌∷◌, length, drop, get_or, refl, ap, subst, lit≤, arith}
use Rattle.disk_ports.specs.FileSteps.{Tears}
use Rattle.disk_ports.specs.Memory.{Step, held_since, may_hold, outcomes}
use Rattle.disk_ports.specs.Examples.{synced}
use Rattle.disk_ports.proofs.examples.crashes_leave_torn_ranges.Goals as goal

first_of : (a b : ℕ) (xs ys : List ℕ) → a ∷ xs ≡ b ∷ ys → a ≡ b
first_of a b xs ys same = ap (λ (l : List ℕ). get_or l 0 0) same

second_of : (a b x y : ℕ) (xs ys : List ℕ) → x ∷ a ∷ xs ≡ y ∷ b ∷ ys → a ≡ b
second_of a b x y xs ys same = ap (λ (l : List ℕ). get_or l 1 0) same

-- the byte before the range is that of the file before
before_stays : (c : List ℕ) → (d : List ℕ) × (d ≡ 1 ∷ 2 ∷ []) × Tears 1 1 d c → get_or c 0 0 ≡ 1
before_stays c (d, is, torn) =
    let torn' : Tears 1 1 (1 ∷ 2 ∷ []) c = subst (λ f. Tears 1 1 f c) is torn in
    ap (λ (l : List ℕ). get_or l 0 0) torn'.is

begins_so : (c : List ℕ) (back : ℕ) → outcomes synced.first (drop back synced.past) c → get_or c 0 0 ≡ 1
begins_so c zero left = ap (λ (l : List ℕ). get_or l 0 0) left
begins_so c (suc zero) left = ap (λ (l : List ℕ). get_or l 0 0) left
begins_so c (suc (suc zero)) left = before_stays c left
begins_so c (suc (suc (suc back))) left = ap (λ (l : List ℕ). get_or l 0 0) (subst (λ (p : List Step). outcomes synced.first p c) (none_left back) left)
  where
    none_left : (n : ℕ) → drop n (let none : List Step = [] in none) ≡ []
    none_left zero = refl
    none_left (suc n) = refl

other_first : ¬ held_since synced 0 (3 ∷ 9 ∷ [])
other_first (inl now) = absurd (omega (arith, first_of 3 1 (9 ∷ []) (9 ∷ []) now))
other_first (inr left) = absurd (omega (arith, begins_so (3 ∷ 9 ∷ []) left.back left.left))

behind_sync : (c : List ℕ) (back : ℕ) → 2 ≤ length (drop back synced.past) → outcomes synced.first (drop back synced.past) c → c ≡ 1 ∷ 9 ∷ []
behind_sync c zero le left = left
behind_sync c (suc zero) le left = left
behind_sync c (suc (suc zero)) le left = absurd (omega (arith, le))
behind_sync c (suc (suc (suc back))) le left = absurd (omega (arith, le, ap length (none_left back)))
  where
    none_left : (n : ℕ) → drop n (let none : List Step = [] in none) ≡ []
    none_left zero = refl
    none_left (suc n) = refl

torn_behind_sync : ¬ held_since synced 2 (1 ∷ 7 ∷ [])
torn_behind_sync (inl now) = absurd (omega (arith, second_of 7 9 1 1 [] [] now))
torn_behind_sync (inr left) = absurd (omega (arith, second_of 7 9 1 1 [] [] (behind_sync (1 ∷ 7 ∷ []) left.back left.from left.left)))

old_now : ¬ may_hold synced (1 ∷ 2 ∷ [])
old_now (inl now) = absurd (omega (arith, second_of 2 9 1 1 [] [] now))
old_now (inr left) = absurd (omega (arith, second_of 2 9 1 1 [] [] left))

pub returns : goal.returns
returns c = (
  inr (record {
    back = 2;
    from = lit≤ tt;
    left = (1 ∷ 2 ∷ [], refl, record { any = 7 ∷ []; past = 5 ∷ []; size = refl; is = refl });
  }),
  other_first,
  torn_behind_sync,
  old_now,
  inl refl,
  (λ leaves. let from = leaves (3 ∷ 2 ∷ []) refl in absurd (omega (arith, before_stays (3 ∷ 2 ∷ []) from))),
)
