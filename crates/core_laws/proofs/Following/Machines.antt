-- The machine: its open transactions after a step, and what its history has at a place.
use Rattle.std.proofs.Common.{◌≡◌, ◌≢◌, ℕ, zero, suc, ◌+◌, ◌≤◌, Bool, true, false, not, cond, ◌==◌, List, [], ◌∷◌, ◌++◌, map, Option, None, Some, option_map, fold, is_some, refl, sym, ap, subst, ◌∙◌, arith, take, drop, length, take_all, All, length-drop, ◌-◌}
use Rattle.std.specs.Prelude.{filter, find}
use Rattle.std.specs.Option.{option_or}
use Rattle.std.proofs.lemmas.Bool.Decides.{nat_tests}
use Rattle.std.proofs.lemmas.List.{drop_all, take-append-le, drop-append-le, take-append-drop, length_push}
use Rattle.std.proofs.lemmas.List.Elements.{All-head, All-tail}
use Rattle.std.proofs.lemmas.List.Sums.{fold-append}
use Rattle.cell_model.specs.declared.cell.Cell.{Cell}
use Rattle.isolation_spec.specs.Contents.{at_place, State, WriteSet, History, laid_over, state_at}
use Rattle.isolation_spec.specs.Machine.{Transaction, entered, writes_place, later_writers}
use Rattle.isolation_laws.proofs.Later.{last_writer, last-later}
use Rattle.std.specs.List.{last_or}
use Rattle.isolation_spec.specs.declared.place.Place.{Place}
use Rattle.event_spec.specs.Follows.{OneEach}
use Rattle.isolation_spec.specs.Order.{InOrder}
use Rattle.isolation_laws.proofs.Overlays.{at-laid_over, over}
use Rattle.isolation_laws.proofs.States.{state-order}

-- the transaction of a session among some
abbrev pub of : ℕ → List Transaction → Option Transaction
of q ts = find (λ t. t.session == q) ts

-- what is found is of the session
pub found_session : (q : ℕ) (ts : List Transaction) (t : Transaction) → of q ts ≡ Some t → t.session ≡ q
found_session q [] t is = cc
found_session q (x ∷ ts) t is = go (x.session == q) refl (found_session q ts t) is
  where
    go : (b : Bool) → (x.session == q) ≡ b → (of q ts ≡ Some t → t.session ≡ q) → cond b (Some x) (of q ts) ≡ Some t → t.session ≡ q
    go true e rest is = let same : x ≡ t = cc in sym (ap (λ (u : Transaction). u.session) same) ∙ (grind (arith, nat_tests))
    go false e rest is = rest is

-- ---- a transaction more

-- the transaction of a session behind one more is the old one, or else the new one
pub of-append : (q : ℕ) (ts : List Transaction) (new : Transaction) → of q (ts ++ new ∷ []) ≡ option_or (of q ts) (cond (new.session == q) (Some new) None)
of-append q [] new = go (new.session == q)
  where
    go : (b : Bool) → cond b (Some new) None ≡ option_or None (cond b (Some new) None)
    go b = refl
of-append q (x ∷ ts) new = go (x.session == q) (of-append q ts new)
  where
    go : (b : Bool) → of q (ts ++ new ∷ []) ≡ option_or (of q ts) (cond (new.session == q) (Some new) None)
        → cond b (Some x) (of q (ts ++ new ∷ [])) ≡ option_or (cond b (Some x) (of q ts)) (cond (new.session == q) (Some new) None)
    go true rest = refl
    go false rest = rest

-- What an option has is not changed by nothing as the alternative.
or_none : {X : Type 0} (a : Option X) → option_or a None ≡ a
or_none None = refl
or_none (Some x) = refl

-- Numbers that are not the same fail the test for equality.
ne_false : (a b : ℕ) → a ≢ b → (a == b) ≡ false
ne_false a b ne = grind (arith, nat_tests)

-- Numbers that are the same pass the test for equality.
eq_true : (a b : ℕ) → a ≡ b → (a == b) ≡ true
eq_true a b e = grind (arith, nat_tests)

-- a transaction more leaves those of other sessions
pub of-append-other : (q : ℕ) (ts : List Transaction) (new : Transaction) → new.session ≢ q → of q (ts ++ new ∷ []) ≡ of q ts
of-append-other q ts new ne =
    of-append q ts new ∙ ap (λ b. option_or (of q ts) (cond b (Some new) None)) (ne_false new.session q ne) ∙ or_none (of q ts)

-- a session that had none has the one that was added
pub of-append-new : (ts : List Transaction) (new : Transaction) → of new.session ts ≡ None → of new.session (ts ++ new ∷ []) ≡ Some new
of-append-new ts new none =
    of-append new.session ts new ∙ ap (λ a. option_or a (cond (new.session == new.session) (Some new) None)) none
    ∙ ap (λ b. cond b (Some new) None) (eq_true new.session new.session refl)

-- each session still has one transaction at most, where the new one's had none
pub one-append : (ts : List Transaction) (new : Transaction) → OneEach ts → of new.session ts ≡ None → OneEach (ts ++ new ∷ [])
one-append [] new one none = (refl, tt)
one-append (x ∷ ts) new one none = go (x.session == new.session) refl none (one-append ts new one.1)
  where
    go : (b : Bool) → (x.session == new.session) ≡ b → cond b (Some x) (of new.session ts) ≡ None → (of new.session ts ≡ None → OneEach (ts ++ new ∷ [])) → OneEach (x ∷ ts ++ new ∷ [])
    go true e n rest = cc
    go false e n rest = (of-append-other x.session ts new (λ same. let t : (x.session == new.session) ≡ true = eq_true x.session new.session (sym same) in let never : true ≡ false = sym t ∙ e in cc) ∙ one.0, rest n)

-- ---- without a session's

-- The transactions of all sessions but one.
abbrev kept : ℕ → List Transaction → List Transaction
kept q ts = filter (λ t. not (t.session == q)) ts

-- without one session's transaction those of others stay
pub of-without : (r q : ℕ) (ts : List Transaction) → r ≢ q → of r (kept q ts) ≡ of r ts
of-without r q [] ne = refl
of-without r q (x ∷ ts) ne = go (x.session == q) (x.session == r) refl refl (of-without r q ts ne)
  where
    go : (b c : Bool) → (x.session == q) ≡ b → (x.session == r) ≡ c → of r (kept q ts) ≡ of r ts
        → of r (cond (not (x.session == q)) (x ∷ kept q ts) (kept q ts)) ≡ of r (x ∷ ts)
    go true true b c rest = absurd (ne (grind (arith, nat_tests)))
    go true false b c rest = ap (λ b. of r (cond (not b) (x ∷ kept q ts) (kept q ts))) b ∙ rest ∙ ap (λ c. cond c (Some x) (of r ts)) (sym c)
    go false c' b c rest = ap (λ b. of r (cond (not b) (x ∷ kept q ts) (kept q ts))) b ∙ ap (cond (x.session == r) (Some x)) rest

-- without its transaction a session has none
pub of-without-own : (q : ℕ) (ts : List Transaction) → of q (kept q ts) ≡ None
of-without-own q [] = refl
of-without-own q (x ∷ ts) = go (x.session == q) refl (of-without-own q ts)
  where
    go : (b : Bool) → (x.session == q) ≡ b → of q (kept q ts) ≡ None → of q (cond (not (x.session == q)) (x ∷ kept q ts) (kept q ts)) ≡ None
    go true b rest = ap (λ b. of q (cond (not b) (x ∷ kept q ts) (kept q ts))) b ∙ rest
    go false b rest = ap (λ b. of q (cond (not b) (x ∷ kept q ts) (kept q ts))) b ∙ ap (λ b. cond b (Some x) (of q (kept q ts))) b ∙ rest

-- A session without a transaction has none when one session's are left out.
none_kept : (r q : ℕ) (ts : List Transaction) → of r ts ≡ None → of r (kept q ts) ≡ None
none_kept r q ts none = go (r == q) refl
  where
    go : (b : Bool) → (r == q) ≡ b → of r (kept q ts) ≡ None
    go true e = let same : r ≡ q = grind (arith, nat_tests) in subst (λ p. of p (kept q ts) ≡ None) (sym same) (of-without-own q ts)
    go false e = of-without r q ts (λ same. let t : (r == q) ≡ true = eq_true r q same in let never : true ≡ false = sym t ∙ e in cc) ∙ none

-- each session still has one transaction at most, without one
pub one-without : (q : ℕ) (ts : List Transaction) → OneEach ts → OneEach (kept q ts)
one-without q [] one = tt
one-without q (x ∷ ts) one = go (x.session == q) (one-without q ts one.1)
  where
    go : (b : Bool) → OneEach (kept q ts) → OneEach (cond (not b) (x ∷ kept q ts) (kept q ts))
    go true rest = rest
    go false rest = (none_kept x.session q ts one.0, rest)

-- ---- with a write

-- one session's transaction with a write more; the others as they are
abbrev pub enters : ℕ → Place → Option (List Cell) → Transaction → Transaction
enters q place value t = cond (t.session == q) (entered place value t) t

-- A write that is entered leaves the session of a transaction.
enters_session : (q : ℕ) (place : Place) (value : Option (List Cell)) (t : Transaction) → (enters q place value t).session ≡ t.session
enters_session q place value t = go (t.session == q)
  where
    go : (b : Bool) → (cond b (entered place value t) t).session ≡ t.session
    go true = refl
    go false = refl

-- the transaction of a session with a write entered is the one that it had, with it
pub of-map : (r q : ℕ) (place : Place) (value : Option (List Cell)) (ts : List Transaction) → of r (map (enters q place value) ts) ≡ option_map (enters q place value) (of r ts)
of-map r q place value [] = refl
of-map r q place value (x ∷ ts) =
    ap (λ s. cond (s == r) (Some (enters q place value x)) (of r (map (enters q place value) ts))) (enters_session q place value x)
    ∙ go (x.session == r) (of-map r q place value ts)
  where
    go : (b : Bool) → of r (map (enters q place value) ts) ≡ option_map (enters q place value) (of r ts)
        → cond b (Some (enters q place value x)) (of r (map (enters q place value) ts)) ≡ option_map (enters q place value) (cond b (Some x) (of r ts))
    go true rest = refl
    go false rest = rest

-- the session's own transaction has the write that was entered
pub of-with_own : (q : ℕ) (place : Place) (value : Option (List Cell)) (ts : List Transaction) (tr : Transaction) → of q ts ≡ Some tr
    → of q (map (enters q place value) ts) ≡ Some (entered place value tr)
of-with_own q place value ts tr is =
    of-map q q place value ts ∙ ap (option_map (enters q place value)) is
    ∙ ap (λ b. Some (cond b (entered place value tr) tr)) (eq_true tr.session q (found_session q ts tr is))

-- the transactions of others stay when a write is entered
pub of-with_own-other : (r q : ℕ) (place : Place) (value : Option (List Cell)) (ts : List Transaction) → r ≢ q → of r (map (enters q place value) ts) ≡ of r ts
of-with_own-other r q place value ts ne = of-map r q place value ts ∙ go (of r ts) refl
  where
    go : (a : Option Transaction) → of r ts ≡ a → option_map (enters q place value) a ≡ a
    go None is = refl
    go (Some t) is = ap (λ b. Some (cond b (entered place value t) t)) (ne_false t.session q (λ e. ne (sym (found_session r ts t is) ∙ e)))

-- each session still has one transaction at most, with a write entered
pub one-with_own : (q : ℕ) (place : Place) (value : Option (List Cell)) (ts : List Transaction) → OneEach ts → OneEach (map (enters q place value) ts)
one-with_own q place value [] one = tt
one-with_own q place value (x ∷ ts) one = (
  ap (λ s. of s (map (enters q place value) ts)) (enters_session q place value x) ∙ of-map x.session q place value ts ∙ ap (option_map (enters q place value)) one.0,
  one-with_own q place value ts one.1,
)

-- ---- the history

-- A write set more is the last that wrote a place if it did, and else it is as before.
last-append : (place : Place) (at : ℕ) (ws : List WriteSet) (w : WriteSet)
    → last_writer place at (ws ++ w ∷ []) ≡ cond (writes_place place w) (Some (at + length ws)) (last_writer place at ws)
last-append place at [] w = go (writes_place place w)
  where
    go : (b : Bool) → option_or None (cond b (Some at) None) ≡ cond b (Some (at + 0)) None
    go true = ap Some (omega arith)
    go false = refl
last-append place at (x ∷ ws) w =
    ap (λ a. option_or a (cond (writes_place place x) (Some at) None)) (last-append place (at + 1) ws w)
    ∙ go (writes_place place w)
  where
    go : (b : Bool) → option_or (cond b (Some (at + 1 + length ws)) (last_writer place (at + 1) ws)) (cond (writes_place place x) (Some at) None)
        ≡ cond b (Some (at + suc (length ws))) (option_or (last_writer place (at + 1) ws) (cond (writes_place place x) (Some at) None))
    go true = ap Some (omega arith)
    go false = refl

-- The last writer behind a snapshot is the new commit if it wrote the place, else as before.
last-writer-after : (place : Place) (n : ℕ) (history : History) (w : WriteSet) → n ≤ length history
    → last_writer place (n + 1) (drop n (history ++ w ∷ [])) ≡ cond (writes_place place w) (Some (length history + 1)) (last_writer place (n + 1) (drop n history))
last-writer-after place n history w le =
    ap (last_writer place (n + 1)) (drop-append-le n history (w ∷ []) le)
    ∙ last-append place (n + 1) (drop n history) w
    ∙ ap (λ k. cond (writes_place place w) (Some k) (last_writer place (n + 1) (drop n history))) (let l : length (drop n history) ≡ length history - n = length-drop n history in omega (arith, l, le))

-- the last commit behind a snapshot that wrote a place
abbrev pub last_behind : Place → ℕ → History → Option ℕ
last_behind place number history = last_or None (later_writers history number place)

-- one commit more is the last that wrote a place if it wrote it, and else it is the one before
pub last-after : (place : Place) (n : ℕ) (history : History) (w : WriteSet) → n ≤ length history
    → last_behind place n (history ++ w ∷ []) ≡ cond (writes_place place w) (Some (length history + 1)) (last_behind place n history)
last-after place n history w le =
    last-later (history ++ w ∷ []) n place ∙ last-writer-after place n history w le
    ∙ ap (cond (writes_place place w) (Some (length history + 1))) (sym (last-later history n place))

-- no commit is behind a snapshot of all of them
pub last-none : (place : Place) (n : ℕ) (history : History) → length history ≤ n → last_behind place n history ≡ None
last-none place n history le = last-later history n place ∙ ap (last_writer place (n + 1)) (drop_all n history le)

-- one commit more leaves the states of earlier numbers
pub state-before : (history : History) (w : WriteSet) (n : ℕ) → n ≤ length history → state_at (history ++ w ∷ []) n ≡ state_at history n
state-before history w n le = ap (fold laid_over []) (take-append-le n history (w ∷ []) le)

-- the state after one commit more is the one before with its writes laid over
pub state-after : (history : History) (w : WriteSet) → state_at (history ++ w ∷ []) (length history + 1) ≡ laid_over (state_at history (length history)) w
state-after history w =
    ap (fold laid_over []) (take_all (length history + 1) (history ++ w ∷ []) (let l : length (history ++ w ∷ []) ≡ length history + 1 = length_push history w in omega (arith, l)))
    ∙ fold-append laid_over [] history (w ∷ [])
    ∙ ap (λ h. laid_over (fold laid_over [] h) w) (sym (take_all (length history) history (omega arith)))

-- Where all write sets are in order, those behind the first are.
All-drop : (n : ℕ) (ws : List WriteSet) → All InOrder ws → All InOrder (drop n ws)
All-drop zero ws all = all
All-drop (suc n) [] all = all
All-drop (suc n) (w ∷ ws) all = All-drop n ws (All-tail InOrder w ws all)

-- where no later commit wrote a place, it has what it had
stays_onto : (place : Place) (at : ℕ) (rows : State) (ws : List WriteSet) → InOrder rows → All InOrder ws → last_writer place at ws ≡ None → at_place (fold laid_over rows ws) place ≡ at_place rows place
stays_onto place at rows [] order all none = refl
stays_onto place at rows (w ∷ ws) order all none =
    let here = at-laid_over rows w place order (All-head InOrder w ws all) in
    let parts = both (last_writer place (at + 1) ws) (is_some (at_place w place)) none in
    stays_onto place (at + 1) (laid_over rows w) ws here.1 (All-tail InOrder w ws all) parts.0
    ∙ here.0 ∙ ap (λ found. over found (at_place rows place)) (nothing (at_place w place) parts.1)
  where
    both : (a : Option ℕ) (b : Bool) → option_or a (cond b (Some at) None) ≡ None → (a ≡ None) × (b ≡ false)
    both None true n = cc
    both None false n = (refl, refl)
    both (Some x) b n = cc

    nothing : (a : Option (Option (List Cell))) → is_some a ≡ false → a ≡ None
    nothing None e = refl
    nothing (Some x) e = cc

-- a place that no later commit wrote has at last what it had
pub state-stays : (place : Place) (history : History) (n : ℕ) → All InOrder history → last_behind place n history ≡ None
    → at_place (state_at history (length history)) place ≡ at_place (state_at history n) place
state-stays place history n all none =
    ap (λ (h : History). at_place (fold laid_over [] h) place) (take_all (length history) history (omega arith) ∙ sym (take-append-drop n history))
    ∙ ap (λ (rows : State). at_place rows place) (fold-append laid_over [] (take n history) (drop n history))
    ∙ stays_onto place (n + 1) (state_at history n) (drop n history) (state-order history n all) (All-drop n history all) (sym (last-later history n place) ∙ none)
