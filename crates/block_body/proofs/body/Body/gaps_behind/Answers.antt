use Rattle.std.proofs.Common.{◌≡◌, ◌∙◌, ◌≤◌, ℕ, List, [], ◌∷◌, ◌++◌, length, ap, sym, subst, arith}
use Rattle.std.specs.Prelude.{filter}
use Rattle.std.specs.List.{range_with_len}
use Rattle.std.proofs.lemmas.List.{length-map}
use Rattle.block_spec.specs.Bodies.{Body as BodyValue, slot_in}
use Rattle.block_spec.specs.Slots.{Slot, is_bare}
use Rattle.block_body.proofs.Fronts.{behind_bare, count_few, count_in, front_gaps}
use Rattle.block_body.proofs.Looks.{filter_more}
use Rattle.block_body.proofs.body.Body.gaps_behind.Goals as goal

pub loop-slot-init : goal.loop-slot-init
loop-slot-init c =
    let body : BodyValue = c.args.self.now in
    record {
      gaps =
          c.in_ok-gaps.ensures.items
          ∙ front_gaps body c.requires.quiet c.requires.front
          ∙ ap (λ (n : ℕ). filter (λ j. is_bare (slot_in body j)) (range_with_len 0 n)) (sym c.rows-count.ensures);
      len = omega (arith, c.in_ok-gaps.ensures.len);
      room = omega (arith, c.in_ok-gaps.ensures.capacity);
    }

pub loop-slot-preserved : goal.loop-slot-preserved
loop-slot-preserved c =
    let body : BodyValue = c.args.self.now in
    let past : count_in body.slots ≤ c.loop-slot.slot = subst (λ (n : ℕ). n ≤ c.loop-slot.slot) c.rows-count.ensures c.loop-slot.auto.slot in
    record {
      gaps =
          c.push_reserved.ensures.items
          ∙ ap (λ (l : List ℕ). l ++ c.loop-slot.slot ∷ []) c.loop-slot.invariant.gaps
          ∙ sym (filter_more (λ j. is_bare (slot_in body j)) c.loop-slot.slot (behind_bare body c.requires.quiet c.requires.front c.loop-slot.slot past));
      len = omega arith;
      room = omega arith;
    }

pub returns : goal.returns
returns c =
    let body : BodyValue = c.args.self.now in
    let slots : c.slots-slots.result ≡ length body.slots = c.slots-slots.ensures ∙ ap length c.columns.ensures.rows ∙ length-map body.slots (λ (slot : Slot). slot.row) in
    let few : c.rows-count.result ≤ length body.slots = subst (λ (n : ℕ). n ≤ length body.slots) (sym c.rows-count.ensures) (count_few body.slots) in
    let all : c.loop-slot.slot ≡ length body.slots = omega (arith, slots, few, c.loop-slot-test.false, c.loop-slot.auto.slot-end) in
    c.loop-slot.invariant.gaps ∙ ap (λ (n : ℕ). filter (λ j. is_bare (slot_in body j)) (range_with_len 0 n)) all
