-- The open transactions: the one at an index is the one of its session, and a change or an end of
-- it is the machine's.
use Rattle.std.proofs.Common.{◌≡◌, ℕ, ◌<◌, zero, suc, Bool, true, false, cond, not, eqb, List, [], ◌∷◌, length, map, get_or, Option, None, Some, refl, sym, ap, ◌∙◌, arith}
use Rattle.std.specs.Prelude.{remove}
use Rattle.std.specs.List.{filter}
use Rattle.std.proofs.Math.ListN.{set}
use Rattle.isolation_spec.specs.Machine.{Transaction}
use Rattle.timeline_laws.proofs.Machine.{at_session, Apart, eqb-itself, eqb-turned}

-- Where nothing is found with one in front, that one is not it, nor any behind.
missed : (b : Bool) (t : Transaction) (later : Option Transaction) → cond b (Some t) later ≡ None → (b ≡ false) × (later ≡ None)
missed true t later h = absurd (let never : ⊥ = cc in never)
missed false t later h = (refl, h)

-- none of the transactions is of a session that is missed
other-at : (session : ℕ) (ts : List Transaction) (i : ℕ) (d : Transaction) → at_session session ts ≡ None → i < length ts → eqb (get_or ts i d).session session ≡ false
other-at session [] i d none within = absurd (omega (arith, within))
other-at session (t ∷ ts) zero d none within = (missed (eqb t.session session) t (at_session session ts) none).0
other-at session (t ∷ ts) (suc i) d none within =
    other-at session ts i d (missed (eqb t.session session) t (at_session session ts) none).1 (omega (arith, within))

-- Where none of the transactions is the session's, a change of it changes none.
map-none : (session : ℕ) (f : Transaction → Transaction) (ts : List Transaction) → at_session session ts ≡ None → map (λ t. cond (eqb t.session session) (f t) t) ts ≡ ts
map-none session f [] none = refl
map-none session f (t ∷ ts) none =
    let parts = missed (eqb t.session session) t (at_session session ts) none in
    rw (parts.0, map-none session f ts parts.1) refl

-- a change of the transaction at an index is that of its session's
pub set-changed : (f : Transaction → Transaction) (ts : List Transaction) (i : ℕ) (d : Transaction) → Apart ts → i < length ts
    → set ts i (f (get_or ts i d)) ≡ map (λ t. cond (eqb t.session (get_or ts i d).session) (f t) t) ts
set-changed f [] i d apart within = absurd (omega (arith, within))
set-changed f (t ∷ ts) zero d apart within = rw (eqb-itself t.session, map-none t.session f ts apart.0) refl
set-changed f (t ∷ ts) (suc i) d apart within =
    let inside : i < length ts = omega (arith, within) in
    let other : eqb t.session (get_or ts i d).session ≡ false = eqb-turned t.session (get_or ts i d).session ∙ other-at t.session ts i d apart.0 inside in
    ap (λ (us : List Transaction). t ∷ us) (set-changed f ts i d apart.1 inside)
    ∙ ap (λ (b : Bool). cond b (f t) t ∷ map (λ u. cond (eqb u.session (get_or ts i d).session) (f u) u) ts) (sym other)

-- Where none of the transactions is the session's, all are left without it.
keep-none : (session : ℕ) (ts : List Transaction) → at_session session ts ≡ None → filter (λ t. not (eqb t.session session)) ts ≡ ts
keep-none session [] none = refl
keep-none session (t ∷ ts) none =
    let parts = missed (eqb t.session session) t (at_session session ts) none in
    rw (parts.0) (ap (λ (us : List Transaction). t ∷ us) (keep-none session ts parts.1))

-- without the transaction at an index there is none of its session
pub removed : (ts : List Transaction) (i : ℕ) (d : Transaction) → Apart ts → i < length ts
    → remove ts i ≡ filter (λ t. not (eqb t.session (get_or ts i d).session)) ts
removed [] i d apart within = absurd (omega (arith, within))
removed (t ∷ ts) zero d apart within = rw (eqb-itself t.session) (sym (keep-none t.session ts apart.0))
removed (t ∷ ts) (suc i) d apart within =
    let inside : i < length ts = omega (arith, within) in
    let other : eqb t.session (get_or ts i d).session ≡ false = eqb-turned t.session (get_or ts i d).session ∙ other-at t.session ts i d apart.0 inside in
    rw other (ap (λ (us : List Transaction). t ∷ us) (removed ts i d apart.1 inside))

-- images of a list without an element are those without its image
pub map-remove : {X Y : Type 0} (f : X → Y) (xs : List X) (i : ℕ) → map f (remove xs i) ≡ remove (map f xs) i
map-remove f [] zero = refl
map-remove f [] (suc i) = refl
map-remove f (x ∷ xs) zero = refl
map-remove f (x ∷ xs) (suc i) = ap (λ (ys : List _). f x ∷ ys) (map-remove f xs i)
