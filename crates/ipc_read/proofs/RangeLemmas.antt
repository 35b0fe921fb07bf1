-- What holds of all the first numbers.
use Rattle.std.proofs.Common.{◌≡◌, ℕ, ◌+◌, ◌<◌, Bool, true, false, [], ◌∷◌, map, refl, sym, ap, ◌∙◌, arith}
use Rattle.std.specs.List.{list_all, range_with_len}
use Rattle.std.proofs.lemmas.List.FromFn.{get_or-range_with_len, length-range_with_len, map-range_with_len_more}
use Rattle.std.proofs.lemmas.List.Folds.{list_all-append, list_all-map, list_all_at}
use Rattle.std.proofs.lemmas.Bool.{and_from}

-- one number more
pub all_next : (p : ℕ → Bool) (n : ℕ) → list_all p (range_with_len 0 n) ≡ true → p n ≡ true → list_all p (range_with_len 0 (n + 1)) ≡ true
all_next p n before here =
    let id : Bool → Bool = λ (b : Bool). b in
    let same : (m : ℕ) → list_all id (map p (range_with_len 0 m)) ≡ list_all p (range_with_len 0 m) = λ m. list_all-map id p (range_with_len 0 m) in
    let last : list_all id (p n ∷ []) ≡ true = and_from (p n) true here refl in
    sym (same (n + 1))
    ∙ (ap (list_all id) (map-range_with_len_more p 0 n n (omega arith))
    ∙ (list_all-append id (map p (range_with_len 0 n)) (p n ∷ [])
    ∙ and_from (list_all id (map p (range_with_len 0 n))) (list_all id (p n ∷ [])) (same n ∙ before) last))

-- one at which it does not hold
pub all_fails : (p : ℕ → Bool) (i n : ℕ) → i < n → p i ≡ false → list_all p (range_with_len 0 n) ≡ false
all_fails p i n lt here =
    let at : p (0 + i) ≡ false = ap p (omega arith) ∙ here in
    list_all_at p (range_with_len 0 n) i 0 (omega (arith, length-range_with_len 0 n)) (ap p (get_or-range_with_len 0 n i 0 lt) ∙ at)
