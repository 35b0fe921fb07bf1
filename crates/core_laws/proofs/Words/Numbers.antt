-- Each name has the number at which it stands.
use Rattle.std.proofs.Common.{◌≡◌, ℕ, zero, suc, ◌+◌, Bool, true, false, cond, List, [], ◌∷◌, Option, None, Some, refl, sym, ap, ◌∙◌, arith}
use Rattle.std.specs.Prelude.{option_map, slice_get}
use Rattle.core_laws.proofs.Events.States.{name_is}
use Rattle.core_laws.proofs.Frames.Distinct.{stands_once}
use Rattle.core_laws.proofs.Frames.Looks.{name_self}
use Rattle.core_laws.specs.Words.Words.{number_among}
use Rattle.event_spec.specs.Parts.{Name, Shape, names, same_name}

-- at a name's number stands the name
pub name_at : (ns : List Name) (w : Name) (k : ℕ) → number_among ns w ≡ Some k → slice_get ns k ≡ Some w
name_at [] w k is = cc
name_at (n ∷ ns) w k is = go (same_name n w) refl (λ j e. name_at ns w j e)
  where
    behind : (o : Option ℕ) → number_among ns w ≡ o → ((j : ℕ) → number_among ns w ≡ Some j → slice_get ns j ≡ Some w)
        → option_map (λ k. k + 1) o ≡ Some k → slice_get (n ∷ ns) k ≡ Some w
    behind None e each never = cc
    behind (Some j) e each at =
        let next : j + 1 ≡ k = cc in
        ap (slice_get (n ∷ ns)) (sym next ∙ (let s : j + 1 ≡ suc j = omega arith in s)) ∙ each j e

    go : (b : Bool) → same_name n w ≡ b → ((j : ℕ) → number_among ns w ≡ Some j → slice_get ns j ≡ Some w) → slice_get (n ∷ ns) k ≡ Some w
    go true same each =
        let here : Some 0 ≡ Some k = ap (λ b. cond b (Some 0) (option_map (λ k. k + 1) (number_among ns w))) (sym same) ∙ is in
        let first : 0 ≡ k = cc in
        ap (slice_get (n ∷ ns)) (sym first) ∙ ap Some (name_is n w same)
    go false other each = behind (number_among ns w) refl each
        (ap (λ b. cond b (Some 0) (option_map (λ k. k + 1) (number_among ns w))) (sym other) ∙ is)

-- where a name stands there is a number of it
there : (ns : List Name) (k : ℕ) (w : Name) → slice_get ns k ≡ Some w → (j : ℕ) × (number_among ns w ≡ Some j)
there [] k w is = cc
there (n ∷ ns) zero w is =
    let same : n ≡ w = cc in
    (0, ap (λ b. cond b (Some 0) (option_map (λ k. k + 1) (number_among ns w))) (ap (λ m. same_name n m) (sym same) ∙ name_self n))
there (n ∷ ns) (suc k) w is = go (same_name n w) refl (there ns k w is)
  where
    go : (b : Bool) → same_name n w ≡ b → ((j : ℕ) × (number_among ns w ≡ Some j)) → (j : ℕ) × (number_among (n ∷ ns) w ≡ Some j)
    go true same behind = (0, ap (λ b. cond b (Some 0) (option_map (λ k. k + 1) (number_among ns w))) same)
    go false other behind = (
      behind.0 + 1,
      ap (λ b. cond b (Some 0) (option_map (λ k. k + 1) (number_among ns w))) other ∙ ap (option_map (λ k. k + 1)) behind.1,
    )

-- a name of a part has its place as number
pub number_at : (sh : Shape) (k : ℕ) (w : Name) → slice_get (names sh) k ≡ Some w → number_among (names sh) w ≡ Some k
number_at sh k w is =
    let found = there (names sh) k w is in
    found.1 ∙ ap Some (stands_once sh found.0 k w (name_at (names sh) w found.0 found.1) is)
