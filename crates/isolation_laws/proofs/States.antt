-- The states of a history: from one number to a later one a place stays that no commit between them
-- wrote.
use Rattle.std.proofs.Common.{◌≡◌, ℕ, zero, suc, ◌+◌, ◌<◌, false, List, [], ◌∷◌, Option, None, Some, is_some, fold, take, get_or, All, refl, sym, ap, subst, ◌∙◌, arith, pos}
use Rattle.std.proofs.lemmas.List.Elements.{All-head, All-tail}
use Rattle.cell_model.specs.declared.cell.Cell.{Cell}
use Rattle.isolation_spec.specs.Contents.{at_place, State, History, laid_over, state_at}
use Rattle.isolation_spec.specs.Machine.{writes_place}
use Rattle.isolation_spec.specs.declared.place.Place.{Place}
use Rattle.isolation_spec.specs.Order.{InOrder}
use Rattle.isolation_laws.proofs.Overlays.{at-laid_over, over}

-- One commit more lays its writes over; behind the last there is nothing to lay.
next-onto : (rows : State) (history : History) (m : ℕ) → fold laid_over rows (take (suc m) history) ≡ laid_over (fold laid_over rows (take m history)) (get_or history m [])
next-onto rows [] zero = refl
next-onto rows [] (suc m) = refl
next-onto rows (w ∷ ws) zero = refl
next-onto rows (w ∷ ws) (suc m) = next-onto (laid_over rows w) ws m

-- the write set of a number is in order where all are
pub set-order : (history : History) (m : ℕ) → All InOrder history → InOrder (get_or history m [])
set-order [] m all = tt
set-order (w ∷ ws) zero all = All-head InOrder w ws all
set-order (w ∷ ws) (suc m) all = set-order ws m (All-tail InOrder w ws all)

-- Some place.
pub any : Place
any = record { table = 0; key = pos 0 }

-- each state is in order
pub state-order : (history : History) (m : ℕ) → All InOrder history → InOrder (state_at history m)
state-order history zero all = tt
state-order history (suc m) all =
    subst InOrder (sym (next-onto [] history m))
    (at-laid_over (state_at history m) (get_or history m []) any (state-order history m all) (set-order history m all)).1

-- nothing is there where the test says so
nothing : (a : Option (Option (List Cell))) → is_some a ≡ false → a ≡ None
nothing None e = refl
nothing (Some x) e = cc

-- a place that no commit between two numbers wrote stays
pub state-stays : (history : History) (place : Place) (n d : ℕ) → All InOrder history
    → ((i : ℕ) → i < d → writes_place place (get_or history (n + i) []) ≡ false)
    → at_place (state_at history (n + d)) place ≡ at_place (state_at history n) place
state-stays history place n zero all none =
    let e : n + 0 ≡ n = omega arith in
    ap (λ (m : ℕ). at_place (state_at history m) place) e
state-stays history place n (suc d) all none =
    let here = at-laid_over (state_at history (n + d)) (get_or history (n + d) []) place (state-order history (n + d) all) (set-order history (n + d) all) in
    let e : n + suc d ≡ suc (n + d) = omega arith in
    ap (λ (m : ℕ). at_place (state_at history m) place) e
    ∙ ap (λ (rows : State). at_place rows place) (next-onto [] history (n + d))
    ∙ here.0
    ∙ ap (λ found. over found (at_place (state_at history (n + d)) place)) (nothing (at_place (get_or history (n + d) []) place) (none d (omega arith)))
    ∙ state-stays history place n d all (λ i less. none i (omega (arith, less)))
