-- What becomes of listed slots, one after another.
use Rattle.std.proofs.Common.{◌≡◌, ◌≢◌, ◌∙◌, ℕ, ◌+◌, ◌<◌, Bool, true, false, cond, eqb, ◌||◌, List, take, length, get_or, sym, ap, ⊎_elim}
use Rattle.std.proofs.lemmas.Bool.{cases_eq, eq-eqb, ne_eqb}
use Rattle.std.proofs.lemmas.List.Folds.{list_any_more}
use Rattle.block_body.specs.Chains.{is_listed}

-- A listed slot that is changed once more is as if it was changed once.
once : {X : Type 0} (S : X → X) → ((x : X) → S (S x) ≡ S x) →
    (b : Bool) (es now : X) → now ≡ cond b (S es) es → S now ≡ cond (b || true) (S es) es
once S twice true es now is = ap S is ∙ twice es
once S twice false es now is = ap S is

-- A slot that is not the next listed one is as it was.
apart : {X : Type 0} (S : X → X) (b : Bool) (es now : X) → now ≡ cond b (S es) es → now ≡ cond (b || false) (S es) es
apart S true es now is = is
apart S false es now is = is

-- a list of slots grows by one, which is changed as the others were
pub listed_more : {X : Type 0} (S : X → X) → ((x : X) → S (S x) ≡ S x) →
    (old now new : ℕ → X) (slots : List ℕ) (i x : ℕ) → i < length slots → x ≡ get_or slots i 0 →
    ((k : ℕ) → now k ≡ cond (is_listed (take i slots) k) (S (old k)) (old k)) →
    new x ≡ S (now x) → ((k : ℕ) → k ≢ x → new k ≡ now k) →
    (k : ℕ) → new k ≡ cond (is_listed (take (i + 1) slots) k) (S (old k)) (old k)
listed_more S twice old now new slots i x lt is was here others k =
    more ∙ ap (λ b. cond b (S (old k)) (old k)) (sym (list_any_more (λ other. eqb other k) slots i 0 lt ∙ ap (λ (n : ℕ). is_listed (take i slots) k || eqb n k) (sym is)))
  where
    more : new k ≡ cond (is_listed (take i slots) k || eqb x k) (S (old k)) (old k)
    more = ⊎_elim same other (cases_eq k x)
      where
        same : k ≡ x → new k ≡ cond (is_listed (take i slots) k || eqb x k) (S (old k)) (old k)
        same at =
            ap new at ∙ here ∙ ap (λ n. S (now n)) (sym at)
            ∙ once S twice (is_listed (take i slots) k) (old k) (now k) (was k)
            ∙ ap (λ b. cond (is_listed (take i slots) k || b) (S (old k)) (old k)) (sym (eq-eqb x k (sym at)))

        other : k ≢ x → new k ≡ cond (is_listed (take i slots) k || eqb x k) (S (old k)) (old k)
        other at =
            others k at
            ∙ apart S (is_listed (take i slots) k) (old k) (now k) (was k)
            ∙ ap (λ b. cond (is_listed (take i slots) k || b) (S (old k)) (old k)) (sym (ne_eqb x k (λ e. at (sym e))))
