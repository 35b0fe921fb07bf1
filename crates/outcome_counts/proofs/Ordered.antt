-- Replies that rise came about in order, and each is the only one of its round, session or worker,
-- and index.
use Rattle.std.proofs.Common.{◌≡◌, Bool, true, false, ◌&&◌, eqb, nat_lt, List, [], ◌∷◌, ◌++◌, ◌⊎◌, inl, inr, refl, sym, ◌∙◌, subst, arith}
use Rattle.std.specs.List.{list_all}
use Rattle.std.proofs.lemmas.Bool.{and_parts, false_from_ne_true}
use Rattle.std.proofs.lemmas.Bool.Decides.{nat_tests}
use Rattle.workload_spec.specs.declared.reply.Who.{Who}
use Rattle.outcome_spec.specs.Entries.{Entry, is_same, is_before}
use Rattle.order_laws.specs.Places.{Rises, is_ahead, is_earlier}
use Rattle.order_laws.proofs.Places.{Behind, Beside, Own, ahead-cases, same-is, earlier-itself}
use Rattle.order_laws.proofs.Order.{same-itself}
use Rattle.timeline_spec.specs.Timeline.{Each, Follows, InOrder}
use Rattle.timeline_laws.proofs.Order.{Each-at}
use Rattle.timeline_laws.proofs.Unique.{Only, unique}
use Rattle.timeline_laws.proofs.Belongs.{At}
use Rattle.timeline_laws.proofs.Tests.{and-false}

-- A reply of no earlier round and of another session or worker is not before this one.
apart-before : (x y : Entry) → nat_lt y.reply.round x.reply.round ≡ false → (is_same y.reply.who x.reply.who ≡ true → ⊥) → is_before y x ≡ false
apart-before x y less never =
    let apart = false_from_ne_true (is_same y.reply.who x.reply.who) never in
    rw (less, apart) (and-left (eqb y.reply.round x.reply.round) (nat_lt y.reply.index x.reply.index))
  where
    and-left : (a b : Bool) → ((a && false) && b) ≡ false
    and-left true b = refl
    and-left false b = refl

-- A reply of a later round, beside in the round, or further on among one's own, follows.
follows-by : (x y : Entry) → Behind x y ⊎ (Beside x y ⊎ Own x y) → Follows x y
follows-by x y (inl b) =
    let l = b.later in
    let less : nat_lt y.reply.round x.reply.round ≡ false = grind (arith, nat_tests, l) in
    let equal : eqb y.reply.round x.reply.round ≡ false = grind (arith, nat_tests, l) in
    let before : nat_lt x.reply.round y.reply.round ≡ true = grind (arith, nat_tests, l) in
    record { not_before = rw (less, equal) refl; in_turn = λ same. rw before refl }
follows-by x y (inr (inl b)) =
    let r = b.round in
    let less : nat_lt y.reply.round x.reply.round ≡ false = grind (arith, nat_tests, r) in
    let never : is_same y.reply.who x.reply.who ≡ true → ⊥ = λ same.
    (let e : is_earlier x.reply.who x.reply.who ≡ true = subst (λ (w : Who). is_earlier x.reply.who w ≡ true) (same-is y.reply.who x.reply.who same) b.who in
    let f : true ≡ false = sym e ∙ earlier-itself x.reply.who in
    let impossible : ⊥ = cc in impossible) in
    record { not_before = apart-before x y less never; in_turn = λ same. absurd (never same) }
follows-by x y (inr (inr o)) =
    let r = o.round in
    let i = o.index in
    let less : nat_lt y.reply.round x.reply.round ≡ false = grind (arith, nat_tests, r) in
    let equal : eqb x.reply.round y.reply.round ≡ true = grind (arith, nat_tests, r) in
    let back : nat_lt y.reply.index x.reply.index ≡ false = grind (arith, nat_tests, i) in
    let index : nat_lt x.reply.index y.reply.index ≡ true = grind (arith, nat_tests, i) in
    let less2 : nat_lt x.reply.round y.reply.round ≡ false = grind (arith, nat_tests, r) in
    let same : is_same x.reply.who y.reply.who ≡ true = subst (λ (w : Who). is_same x.reply.who w ≡ true) o.who (same-itself x.reply.who) in
    record {
      not_before = rw (less, back) (and-false (eqb y.reply.round x.reply.round && is_same y.reply.who x.reply.who));
      in_turn = λ s. rw (less2, equal, same, index) refl;
    }

-- Replies that rise are in order.
pub rises-in-order : (entries : List Entry) → Rises entries → InOrder entries
rises-in-order [] h = tt
rises-in-order (x ∷ entries) h = (each entries h.0, rises-in-order entries h.1)
  where
    each : (ys : List Entry) → list_all (is_ahead x) ys ≡ true → Each (Follows x) ys
    each [] k = tt
    each (y ∷ ys) k =
        let parts = and_parts (is_ahead x y) (list_all (is_ahead x) ys) k in
        (follows-by x y (ahead-cases x y parts.0), each ys parts.1)

-- A reply stands among those that rise.
pub at-rising : (entries front : List Entry) (entry : Entry) (rest : List Entry) → entries ≡ front ++ entry ∷ rest → Rises entries → At entries entries front entry rest
at-rising entries front entry rest whole rises =
    let order = rises-in-order entries rises in
    record {
      threads = λ who. refl;
      whole = whole;
      order = order;
      only = Each-at (Only entries) front entry rest (subst (Each (Only entries)) whole (unique entries entries (λ who. refl) order));
    }
