use Rattle.std.proofs.Common.{◌≡◌, ◌∙◌, ℕ, ◌∷◌, ◌++◌, [], List, length, ap, sym, arith}
use Rattle.std.specs.Prelude.{filter}
use Rattle.std.specs.List.{range_with_len}
use Rattle.block_spec.specs.Slots.{is_bare}
use Rattle.block_spec.specs.Bodies.{Body as BodyValue, slot_in}
use Rattle.block_body.specs.Chains.{entries_at}
use Rattle.block_body.proofs.Looks.{filter_more, filter_skip}
use Rattle.block_body.proofs.Slots.{slots-length}
use Rattle.block_body.proofs.body.Body.gaps.Goals as goal
use Rattle.block_body.proofs.body.Body.gaps.Goals.{then-bare+in_ok-push, else-bare}

pub loop-slot-preserved : goal.loop-slot-preserved
loop-slot-preserved c = elim c.if-bare.branch [
  | then-bare+in_ok-push w ↦ rw (w.gaps-is, w.in_ok-push.ensures.items)
      (ap (λ (l : List ℕ). l ++ c.loop-slot.slot ∷ []) c.loop-slot.invariant
      ∙ sym (filter_more (λ j. is_bare (slot_in c.args.self.now j)) c.loop-slot.slot (sym c.bare.ensures ∙ w.if-bare.true)))
  | else-bare w ↦ rw w.gaps-is
      (c.loop-slot.invariant ∙ sym (filter_skip (λ j. is_bare (slot_in c.args.self.now j)) c.loop-slot.slot (sym c.bare.ensures ∙ w.if-bare.false)))
]

pub returns : goal.returns
returns c =
    let i = c.self.inside in
    let n : c.slots-slot-end.result ≡ length c.args.self.now.slots =
    c.slots-slot-end.ensures ∙ ap length c.columns.ensures.rows ∙ sym (slots-length (entries_at i.chains.entries) 0 i.rows.rows) ∙ ap (λ (b : BodyValue). length b.slots) c.self.view_is in
    let all : c.loop-slot.slot ≡ length c.args.self.now.slots = omega (arith, n, c.loop-slot-test.false, c.loop-slot.auto.slot-end) in
    c.loop-slot.invariant ∙ ap (λ (n : ℕ). filter (λ j. is_bare (slot_in c.args.self.now j)) (range_with_len 0 n)) all
