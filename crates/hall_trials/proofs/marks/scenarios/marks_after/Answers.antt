use Rattle.std.proofs.Common.{◌≡◌, ℕ, List, [], ◌++◌, Option, length, sym, subst, ap, ◌∙◌, arith}
use Rattle.hall_rule.specs.Hands.{Holds}
use Rattle.hall_rule.specs.HallInvariant.{hands_of}
use Rattle.hall_rule.specs.Opening.{sessions_to}
use Rattle.hall_rule.specs.Views.{greatest, without}
use Rattle.hall_rule.specs.declared.view.View.{View}
use Rattle.hall_cells.specs.declared.deed.Deed.{Deed}
use Rattle.hall_steps.specs.Hall.{first_of}
use Rattle.hall_cells.proofs.Taking.{all_held}
use Rattle.hall_trials.proofs.marks.scenarios.marks_after.Goals as goal

pub take_turns_uncounted-right-requires-clause-empty_one : goal.take_turns_uncounted-right-requires-clause-empty_one
take_turns_uncounted-right-requires-clause-empty_one g c = record {
  none = λ k h.
      let joined : Holds (first_of c.join.new.pass.hands) k = subst (λ (x : List (Option ℕ)). Holds x k) c.split-other.ensures.hand h in
      let noted = c.join.ensures.only k joined in
      c.in_ok-hall.ensures.empty.none k (subst (λ (x : List (List (Option ℕ))). Holds (first_of x) k) c.note-note.ensures.hand noted);
}

pub take_turns_uncounted-right-requires-clause-few_one : goal.take_turns_uncounted-right-requires-clause-few_one
take_turns_uncounted-right-requires-clause-few_one g c =
    let v = c.note-note.new.pass.seat.me.0 in
    let u = c.note-note.result.seat.me.0 in
    let w = c.join.new.pass.seat.me.0 in
    let x = c.split-other.new.pass.seat.me.0 in
    let first = c.in_ok-hall.ensures.view in
    let noted = c.note-note.ensures in
    let joined = c.join.ensures.joined in
    let sessions : v.sessions ≡ sessions_to 2 = ap (λ (y : View Deed). y.sessions) noted.seat.1 ∙ first.0 in
    let both : w.sessions ≡ sessions_to 2 ++ [] = joined.sessions ∙ (ap (λ (l : List ℕ). l ++ u.sessions) sessions ∙ ap (λ (l : List ℕ). sessions_to 2 ++ l) noted.new.hands) in
    let hands : hands_of x ≡ 1 = ap (λ (y : View Deed). hands_of y) c.split-other.ensures.seat.1 ∙ ap (λ (l : List ℕ). length (without (greatest l) l)) both in
    let none' : length v.mine ≡ 0 = ap (λ (y : View Deed). length y.mine) noted.seat.1 ∙ ap length first.1 in
    let none'' : length u.mine ≡ 0 = ap length noted.new.mine in
    let entries = joined.entries in
    let dealt' : length x.mine ≡ length w.mine = ap (λ (y : View Deed). length y.mine) c.split-other.ensures.seat.1 in
    let turns : length c.as_slice.result.now ≡ 3 = ap length c.as_slice.ensures ∙ c.told-turns in
    omega (arith, hands, none', none'', entries, dealt', turns)

pub close-closed-requires-clause-empty : goal.close-closed-requires-clause-empty
close-closed-requires-clause-empty g c κs = λ k h. c.take_turns_uncounted-right.ensures.empty_one.none k (c.join-2.ensures.only k h)

pub part-requires : goal.part-requires
part-requires g c =
    let room = c.join-2.ensures.pass.of.1.room in
    let a = c.in_ok-hall.ensures.shape.1 in
    let b = c.in_ok-hall.ensures.shape.2 in
    subst (λ (x : List (Option ℕ)). Holds x 0) (sym c.close-closed.ensures.parts) (all_held _ 0 (omega (arith, room, a, b)))

pub part-requires-2 : goal.part-requires-2
part-requires-2 g c =
    let room = c.join-2.ensures.pass.of.1.room in
    let a = c.in_ok-hall.ensures.shape.1 in
    let b = c.in_ok-hall.ensures.shape.2 in
    subst (λ (x : List (Option ℕ)). Holds x 1) (sym c.close-closed.ensures.parts) (all_held _ 1 (omega (arith, room, a, b)))

pub part-requires-3 : goal.part-requires-3
part-requires-3 g c =
    let room = c.join-2.ensures.pass.of.1.room in
    let a = c.in_ok-hall.ensures.shape.1 in
    let b = c.in_ok-hall.ensures.shape.2 in
    subst (λ (x : List (Option ℕ)). Holds x 2) (sym c.close-closed.ensures.parts) (all_held _ 2 (omega (arith, room, a, b)))
