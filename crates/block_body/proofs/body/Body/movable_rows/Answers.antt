use Rattle.std.proofs.Common.{◌≡◌, ◌∙◌, ℕ, ◌∷◌, ◌++◌, [], List, length, ap, sym, arith}
use Rattle.std.specs.List.{filter_map, range_with_len}
use Rattle.block_spec.specs.declared.look.MovableRow.{MovableRow}
use Rattle.block_spec.specs.Looks.{movable}
use Rattle.block_spec.specs.Bodies.{Body as BodyValue}
use Rattle.block_body.specs.Chains.{entries_at}
use Rattle.block_body.proofs.Looks.{filter_map_more, filter_map_skip}
use Rattle.block_body.proofs.Slots.{slots-length}
use Rattle.block_body.proofs.body.Body.movable_rows.Goals as goal
use Rattle.block_body.proofs.body.Body.movable_rows.Goals.{in-Some+in_ok-push, in_default}

pub loop-slot-preserved : goal.loop-slot-preserved
loop-slot-preserved c = elim c.match-movable.branch [
  | in-Some+in_ok-push w ↦ rw (w.rows-is, w.in_ok-push.ensures.items)
      (ap (λ (l : List MovableRow). l ++ w.in-Some.row ∷ []) c.loop-slot.invariant
      ∙ sym (filter_map_more (movable c.args.self.now) c.loop-slot.slot w.in-Some.row (sym c.movable.ensures ∙ w.in-Some.is)))
  | in_default w ↦ rw w.rows-is
      (c.loop-slot.invariant ∙ sym (filter_map_skip (movable c.args.self.now) c.loop-slot.slot (sym c.movable.ensures ∙ w.in_default.is)))
]

pub returns : goal.returns
returns c =
    let i = c.self.inside in
    let n : c.slots-slot-end.result ≡ length c.args.self.now.slots =
    c.slots-slot-end.ensures ∙ ap length c.columns.ensures.rows ∙ sym (slots-length (entries_at i.chains.entries) 0 i.rows.rows) ∙ ap (λ (b : BodyValue). length b.slots) c.self.view_is in
    let all : c.loop-slot.slot ≡ length c.args.self.now.slots = omega (arith, n, c.loop-slot-test.false, c.loop-slot.auto.slot-end) in
    c.loop-slot.invariant ∙ ap (λ (n : ℕ). filter_map (movable c.args.self.now) (range_with_len 0 n)) all
