use Rattle.std.proofs.Common.{◌≡◌, ℕ, ◌<◌, Some, None, sym, ap, subst, ◌∙◌, arith}
use Rattle.std.specs.Prelude.{slice_get}
use Rattle.hall_rule.specs.HallInvariant.{worn_by}
use Rattle.hall_rule.specs.Heads.{head_of}
use Rattle.hall_rule.specs.Hands.{IsNextHeld}
use Rattle.hall_rule.specs.Meaning.{meaning}
use Rattle.hall_rule.specs.declared.view.View.{View}
use Rattle.hall_rule.proofs.Lists.{by_cases}
use Rattle.hall_rule.proofs.OfParts.{laws_of}
use Rattle.hall_steps.proofs.Knowing.{settled_pass, some_is}
use Rattle.hall_steps.proofs.Walking.{below_or}
use Rattle.hall_steps.proofs.events.follow_all.Goals as goal

pub loop-part-preserved : goal.loop-part-preserved
loop-part-preserved g c =
    let i = c.loop-part.invariant in
    let e = c.follow.ensures in
    let f = e.follows in
    let hand = c.args.hand.now in
    let from = c.loop-part.from in
    let part = c.in-Some.part in
    let held = c.part.result.now in
    let w = c.follow.new.seat.me.0 in
    let next : IsNextHeld hand from (Some part) = c.in-Some.ensures in
    let le = next.0 in
    record {
      table = e.seat.0 ∙ i.table;
      id = e.seat.1 ∙ i.id;
      none_out = e.none_out;
      same = f.same ∙ ap (λ (x : View g.row.C-Event.Denot). let y : View g.row.C-Event.Denot = record x { worn = w.worn; drained = w.drained } in y) i.same;
      room = f.room ∙ i.room;
      drained = f.drained i.drained;
      done = λ k p lt at. by_cases k part (worn_by w k ≡ head_of (g.C.Parts.wears p))
          (λ same.
          let here : Some held ≡ Some p = some_is (Some held) (Some p) (sym c.part.ensures ∙ subst (λ (x : ℕ). slice_get hand x ≡ Some (Some p)) same at) in
          ap (worn_by w) same ∙ (f.here ∙ ap (λ q. head_of (g.C.Parts.wears q)) (some_is held p here)))
          (λ ne. f.others k ne ∙ below_or k from (worn_by c.loop-part.seat.me.0 k ≡ head_of (g.C.Parts.wears p))
          (λ below. i.done k p below at)
          (λ above. absurd (next.2 k above (let q : k < part = omega (arith, lt, ne) in q) (p, at))));
      todo = λ k up. f.others k (λ same. absurd (omega (arith, up, same))) ∙ i.todo k (omega (arith, up, le));
    }

pub returns-clause-pass : goal.returns-clause-pass
returns-clause-pass g c =
    let i = c.loop-part.invariant in
    let key = c.args.board.now.key in
    let m = g.met.C.Parts in
    let M = meaning g.C.Parts key.core.value key.passes in
    let laws = laws_of g.C.Parts m.keeps m.frame m.room m.local m.depends m.leaves m.outlives m.small m.turns m.still key.core.value key.passes in
    let hand = c.args.hand.now in
    let none' : IsNextHeld hand c.loop-part.from None = c.in_default.ensures in
    settled_pass M laws c.args.board.now.table_id c.args.seat.now c.loop-part.seat hand c.requires.table c.requires.knows i.table i.id i.none_out i.same i.room i.drained
    (λ k p at. below_or k c.loop-part.from (worn_by c.loop-part.seat.me.0 k ≡ M.head p) (λ below. i.done k p below at) (λ above. absurd (none' k above (p, at))))
