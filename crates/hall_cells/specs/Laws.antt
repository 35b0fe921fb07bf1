-- The laws of the marks.
use Rattle.std.proofs.Common.{◌≡◌, ◌≢◌, ℕ, zero, suc, ◌+◌, ◌<◌, eqb, cond, List, [], ◌∷◌, Option}
use Rattle.std.proofs.Common.{None, Some, length, set, get_or-set_same, get_or-set_other}
use Rattle.std.proofs.Common.{◌^◌, inl, inr, length-set, refl, sym, ap, subst, ◌∙◌, eq-eqb, ne_eqb}
use Rattle.std.proofs.Common.{arith}
use Rattle.std.specs.Prelude.{slice_get, slice_index}
use Rattle.hall_cells.specs.Marks.{Fits, IsLeast, IsOpening, Stands, Teaches, after_deed, open_of}
use Rattle.hall_cells.specs.Marks.{reply_of, session_of, touches_part}
use Rattle.hall_cells.specs.declared.deed.Deed.{Deed}
use Rattle.hall_cells.specs.declared.deed.Deed.TheVariants.{Begin, End, Raise}
use Rattle.hall_cells.specs.declared.deed.Least.{Least}
use Rattle.hall_rule.specs.Hands.{Agrees, Covers, Holds, OnlyHeld}
use Rattle.hall_rule.specs.Heads.{Turns}
use Rattle.hall_rule.proofs.Lists.{by_cases}

pub get_set_else : (l : List ℕ) (k i a : ℕ) → i ≢ k → slice_get (set l k a) i ≡ slice_get l i
get_set_else [] k i a ne = refl
get_set_else (x ∷ xs) zero zero a ne = absurd (ne refl)
get_set_else (x ∷ xs) zero (suc i) a ne = refl
get_set_else (x ∷ xs) (suc k) zero a ne = refl
get_set_else (x ∷ xs) (suc k) (suc i) a ne = get_set_else xs k i a (λ e. ne (ap suc e))

pub index_of_get : (l : List ℕ) (k p : ℕ) → slice_get l k ≡ Some p → slice_index l k ≡ p
index_of_get [] k p e = absurd (cc)
index_of_get (x ∷ xs) zero p e = cc
index_of_get (x ∷ xs) (suc k) p e = index_of_get xs k p e

-- the session 0 has no transaction, and another has it where the part 0 names it
pub opened : (sh : ℕ) (s : List ℕ) (q : ℕ) → slice_index s 0 ≡ q → 0 < q → open_of sh s q ≡ Some q
opened sh s zero e lt = absurd (omega (arith, lt))
opened sh s (suc q) e lt = ap (λ b. cond b (Some (suc q)) None) (eq-eqb (slice_index s 0) (suc q) e)

pub opened_is : (sh : ℕ) (s : List ℕ) (q : ℕ) → open_of sh s q ≡ Some q → slice_index s 0 ≡ q
opened_is sh s zero e = absurd (cc)
opened_is sh s (suc q) e = by_cases (slice_index s 0) (suc q) (slice_index s 0 ≡ suc q) (λ x. x)
    (λ ne.
    let none' = sym (ne_eqb (slice_index s 0) (suc q) ne) in
    let f : None ≡ Some (suc q) = ap (λ b. cond b (Some (suc q)) None) none' ∙ e in
    absurd (cc))

closed : (sh : ℕ) (s : List ℕ) (q : ℕ) → slice_index s 0 ≢ q → open_of sh s q ≡ None
closed sh s zero ne = refl
closed sh s (suc q) ne = ap (λ b. cond b (Some (suc q)) None) (ne_eqb (slice_index s 0) (suc q) ne)

-- who has an open transaction, or is none, may raise a mark
pub opened_stands : (sh : ℕ) (s : List ℕ) (q p by : ℕ)
    → ((r : ℕ) → session_of (Raise q p by) ≡ Some r → open_of sh s r ≡ Some r)
    → Stands sh (Raise q p by) s
opened_stands sh s zero p by open' = tt
opened_stands sh s (suc q) p by open' = opened_is sh s (suc q) (open' (suc q) refl)

pub opened_ends : (sh : ℕ) (s : List ℕ) (q : ℕ) → open_of sh s q ≡ Some q → Stands sh (End q) s
opened_ends sh s zero e = absurd (cc)
opened_ends sh s (suc q) e = opened_is sh s (suc q) e

pub ended_closed : (sh : ℕ) (s : List ℕ) (q : ℕ) → 0 < length s → open_of sh (set s 0 0) q ≡ None
ended_closed sh s zero lt = refl
ended_closed sh s (suc q) lt =
    let n = get_or-set_same s 0 0 0 lt in
    closed sh (set s 0 0) (suc q) (λ e. absurd (omega (arith, n, e)))

-- a raised mark leaves each transaction as it was
pub raise_leaves : (sh : ℕ) (s : List ℕ) (p x q : ℕ) → 0 < p → open_of sh (set s p x) q
    ≡ open_of sh s q
raise_leaves sh s p x zero lt = refl
raise_leaves sh s p x (suc q) lt =
    let n : slice_index (set s p x) 0 ≡ slice_index s 0 =
    get_or-set_other s p 0 x 0 (λ e. absurd (omega (arith, e, lt))) in
    ap (λ y. cond (eqb y (suc q)) (Some (suc q)) None) n

pub rests : (sh : ℕ) (s : List ℕ) (q : ℕ) → IsOpening sh s → open_of sh s q ≡ None
rests sh s zero o = refl
rests sh s (suc q) o = closed sh s (suc q) (λ e. absurd (let i = o.idle in omega (arith, i, e)))

pub sized : (sh : ℕ) (e : Deed) (s : List ℕ) → length s ≡ sh → length (after_deed sh e s) ≡ length s
sized sh (Begin q) s ok = length-set s 0 q
sized sh (End q) s ok = length-set s 0 0
sized sh (Raise q p by) s ok = length-set s p (slice_index s p + by)

pub ascends : (sh : ℕ) (e : Deed) (h i : List (Option ℕ)) (k : ℕ) → touches_part sh e h k
    ≡ touches_part sh e i k
ascends sh (Begin q) h i k = refl
ascends sh (Raise q p by) h i k = refl
ascends sh (End q) h i k = refl

pub frame : (sh : ℕ) (e : Deed) (h : List (Option ℕ)) (s : List ℕ) → length s ≡ sh
    → Covers (touches_part sh e) h → Agrees h s → Fits sh e s → OnlyHeld h s (after_deed sh e s)
frame sh (Begin q) h s ok covers agrees fits k away =
    let n = agrees.0 in
    let f = fits.0 in
    let held = covers 0 (omega (arith, n, f, ok)) (eq-eqb 0 0 refl) in
    get_set_else s 0 k q (λ e. away (subst (Holds h) (sym e) held))
frame sh (End q) h s ok covers agrees fits k away =
    let n = agrees.0 in
    let f = fits in
    let held = covers 0 (omega (arith, n, f, ok)) (eq-eqb 0 0 refl) in
    get_set_else s 0 k 0 (λ e. away (subst (Holds h) (sym e) held))
frame sh (Raise q p by) h s ok covers agrees fits k away =
    let n = agrees.0 in
    let f = fits.1 in
    let held = covers p (omega (arith, n, f, ok)) (eq-eqb p p refl) in
    get_set_else s p k (slice_index s p + by) (λ e. away (subst (Holds h) (sym e) held))

same_index : (h : List (Option ℕ)) (s t : List ℕ) (k : ℕ) → Agrees h s → Agrees h t → Holds h k
    → slice_index t k ≡ slice_index s k
same_index h s t k a b held = index_of_get t k held.0 (b.1 k held.0 held.1) ∙ sym
    (index_of_get s k held.0 (a.1 k held.0 held.1))

pub local : (sh : ℕ) (e : Deed) (h : List (Option ℕ)) (s t : List ℕ) → length s ≡ sh
    → Covers (touches_part sh e) h → Agrees h s → Agrees h t → Fits sh e s → Fits sh e t
local sh (Begin q) h s t ok covers a b fits =
    let n = a.0 in
    let f = fits.0 in
    let held = covers 0 (omega (arith, n, f, ok)) (eq-eqb 0 0 refl) in
    (fits.0, same_index h s t 0 a b held ∙ fits.1, fits.2)
local sh (End q) h s t ok covers a b fits = fits
local sh (Raise q p by) h s t ok covers a b fits =
    let n = a.0 in
    let f = fits.1 in
    let held = covers p (omega (arith, n, f, ok)) (eq-eqb p p refl) in
    let e = same_index h s t p a b held in
    (fits.0, fits.1, let f = fits.2 in omega (arith, e, f))

pub depends : (sh : ℕ) (e : Deed) (s t : List ℕ)
    → ((q : ℕ) → session_of e ≡ Some q → open_of sh t q ≡ open_of sh s q) → Stands sh e s
    → Stands sh e t
depends sh (Begin q) s t same stands = tt
depends sh (End zero) s t same stands = stands
depends sh (End (suc q)) s t same stands = opened_is sh t (suc q)
    (same (suc q) refl ∙ opened sh s (suc q) stands (omega arith))
depends sh (Raise zero p by) s t same stands = tt
depends sh (Raise (suc q) p by) s t same stands = opened_is sh t (suc q)
    (same (suc q) refl ∙ opened sh s (suc q) stands (omega arith))

pub leaves : (sh : ℕ) (e : Deed) (s : List ℕ) (q : ℕ) → length s ≡ sh → Stands sh e s → Fits sh e s
    → session_of e ≢ Some q → open_of sh (after_deed sh e s) q ≡ open_of sh s q
leaves sh (Begin r) s zero ok stands fits ne = refl
leaves sh (Begin r) s (suc q) ok stands fits ne =
    let f = fits.0 in
    let g = fits.1 in
    let n : slice_index (set s 0 r) 0 ≡ r = get_or-set_same s 0 r 0 (omega (arith, ok, f)) in
    closed sh (set s 0 r) (suc q) (λ e. ne (ap Some (sym n ∙ e))) ∙ sym
    (closed sh s (suc q) (λ e. absurd (omega (arith, g, e))))
leaves sh (End r) s zero ok stands fits ne = refl
leaves sh (End zero) s (suc q) ok stands fits ne = absurd stands
leaves sh (End (suc r)) s (suc q) ok stands fits ne =
    let f = fits in
    let n : slice_index (set s 0 0) 0 ≡ 0 = get_or-set_same s 0 0 0 (omega (arith, ok, f)) in
    closed sh (set s 0 0) (suc q) (λ e. absurd (omega (arith, n, e))) ∙ sym
    (closed sh s (suc q) (λ e. ne (ap Some (sym stands ∙ e))))
leaves sh (Raise r p by) s zero ok stands fits ne = refl
leaves sh (Raise r p by) s (suc q) ok stands fits ne =
    let f = fits.0 in
    let x : ℕ = slice_index s p + by in
    let n : slice_index (set s p x) 0 ≡ slice_index s 0 =
    get_or-set_other s p 0 x 0 (λ e. absurd (omega (arith, e, f))) in
    ap (λ x. cond (eqb x (suc q)) (Some (suc q)) None) n

pub outlives : (sh : ℕ) (e : Deed) (f : Least) (s : List ℕ) → length s ≡ sh → Fits sh e s
    → IsLeast sh f s → IsLeast sh f (after_deed sh e s)
outlives sh (Begin q) f s ok fits least =
    let p = least.0 in let a = least.1 in
    let n : slice_index (set s 0 q) f.part ≡ slice_index s f.part =
    get_or-set_other s 0 f.part q 0 (λ e. absurd (omega (arith, e, p))) in
    (p, omega (arith, n, a))
outlives sh (End q) f s ok fits least =
    let p = least.0 in let a = least.1 in
    let n : slice_index (set s 0 0) f.part ≡ slice_index s f.part =
    get_or-set_other s 0 f.part 0 0 (λ e. absurd (omega (arith, e, p))) in
    (p, omega (arith, n, a))
outlives sh (Raise q p by) f s ok fits least =
    let a = least.1 in
    let x : ℕ = slice_index s p + by in
    by_cases f.part p (IsLeast sh f (set s p x))
    (λ e.
    let b = fits.1 in
    let n : slice_index (set s p x) p ≡ x = get_or-set_same s p x 0 (omega (arith, b, ok)) in
    let n' : slice_index (set s p x) f.part ≡ x = ap (slice_index (set s p x)) e ∙ n in
    let m : slice_index s f.part ≡ slice_index s p = ap (slice_index s) e in
    (least.0, omega (arith, n', m, a)))
    (λ ne.
    let n : slice_index (set s p x) f.part ≡ slice_index s f.part =
    get_or-set_other s p f.part x 0 ne in
    (least.0, omega (arith, n, a)))

pub learns : (sh : ℕ) (e : Deed) (f : Least) (s : List ℕ) → length s ≡ sh → Fits sh e s
    → Teaches sh e (reply_of sh e s) f → IsLeast sh f (after_deed sh e s)
learns sh (Begin q) f s ok fits h = absurd h
learns sh (End q) f s ok fits h = absurd h
learns sh (Raise q p by) f s ok fits h =
    let x : ℕ = slice_index s p + by in
    let b = fits.1 in
    let n : slice_index (set s p x) p ≡ x = get_or-set_same s p x 0 (omega (arith, b, ok)) in
    let n' : slice_index (set s p x) f.part ≡ x = ap (slice_index (set s p x)) h.0 ∙ n in
    let a = h.1 in
    let c = fits.0 in
    let d = h.0 in
    (omega (arith, c, d), omega (arith, n', a))

-- the word of a mark, which is no block, stays 0
pub wordless : 0 < 2 ^ 32
wordless = omega arith

pub unturned : (k : ℕ) → Turns (None ≡ Some k) 0 0
unturned k = inr ((λ thaws. absurd (cc)), inl refl)
