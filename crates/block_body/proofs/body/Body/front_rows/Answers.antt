use mir.Val.{of_z, to_z}
use Rattle.std.proofs.Common.{◌≡◌, ◌∙◌, ◌<◌, ℕ, ℤ, w64, List, [], ◌∷◌, ◌++◌, Option, None, get_or, ap, sym, subst, arith, rules}
use Rattle.std.specs.Prelude.{IfSome}
use Rattle.std.specs.List.{filter_map, range_with_len}
use Rattle.std.proofs.lemmas.Int.{to_z-of_z}
use Rattle.isolation_spec.specs.Contents.{key_of}
use Rattle.block_spec.specs.declared.look.MovableRow.{MovableRow}
use Rattle.block_spec.specs.Bodies.{Body as BodyValue, slot_in}
use Rattle.block_spec.specs.Looks.{movable}
use Rattle.block_spec.specs.Slots.{Row}
use Rattle.block_body.specs.Keys.{HasKey}
use Rattle.block_body.proofs.Fronts.{count_in, front_moves, front_rows, row_at}
use Rattle.block_body.proofs.Looks.{filter_map_more}
use Rattle.block_body.proofs.body.Body.front_rows.Goals as goal

pub key_at-key-requires-clause-key : goal.key_at-key-requires-clause-key
key_at-key-requires-clause-key c =
    let body : BodyValue = c.args.self.now in
    let at : get_or c.columns-columns.result.now.rows c.loop-slot.slot None ≡ (slot_in body c.loop-slot.slot).row =
    ap (λ (l : List (Option Row)). get_or l c.loop-slot.slot None) c.columns-columns.ensures.rows ∙ row_at body.slots c.loop-slot.slot in
    subst (λ (row : Option Row). IfSome row HasKey) (sym at) (c.requires.keys.rows c.loop-slot.slot)

pub loop-slot-preserved : goal.loop-slot-preserved
loop-slot-preserved c =
    let body : BodyValue = c.args.self.now in
    let slot : ℕ = c.loop-slot.slot in
    let at : get_or c.columns-columns.result.now.rows slot None ≡ (slot_in body slot).row =
    ap (λ (l : List (Option Row)). get_or l slot None) c.columns-columns.ensures.rows ∙ row_at body.slots slot in
    let written : to_z w64 (of_z w64 c.key_at-key.result) ≡ c.key_at-key.result = to_z-of_z w64 c.key_at-key.result (search rules) in
    let less : slot < count_in body.slots = subst (λ (n : ℕ). slot < n) c.rows-count.ensures c.loop-slot-test.true in
    let key_is : IfSome (slot_in body slot).row (λ row. to_z w64 (of_z w64 c.key_at-key.result) ≡ key_of row) =
    subst (λ (k : ℤ). IfSome (slot_in body slot).row (λ row. k ≡ key_of row)) (sym written)
    (subst (λ (row : Option Row). IfSome row (λ row. c.key_at-key.result ≡ key_of row)) at c.key_at-key.ensures) in
    let row : MovableRow = record { slot = slot; key = to_z w64 (of_z w64 c.key_at-key.result) } in
    record {
      rows =
          c.push_reserved.ensures.items
          ∙ ap (λ (l : List MovableRow). l ++ row ∷ []) c.loop-slot.invariant.rows
          ∙ sym (filter_map_more (movable body) slot row (sym (front_moves body c.requires.quiet c.requires.front slot (to_z w64 (of_z w64 c.key_at-key.result)) less key_is)));
      len = omega arith;
      room = omega arith;
    }

pub returns : goal.returns
returns c =
    let body : BodyValue = c.args.self.now in
    let all : c.loop-slot.slot ≡ count_in body.slots = omega (arith, c.rows-count.ensures, c.loop-slot-test.false, c.loop-slot.auto.slot-end) in
    c.loop-slot.invariant.rows
    ∙ ap (λ (n : ℕ). filter_map (movable body) (range_with_len 0 n)) all
    ∙ front_rows body c.requires.quiet c.requires.front
