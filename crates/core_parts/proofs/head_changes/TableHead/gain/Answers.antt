use Rattle.std.proofs.Common.{◌≡◌, ◌<◌, ◌≤◌, ℕ, Bool, true, cond, not, List, length, arith, sym, ap, ◌∙◌, subst, ◌^◌, is_ok, IsOk}
use Rattle.std.specs.List.{insert}
use Rattle.std.specs.Vec.{vec_capacity}
use Rattle.std.proofs.lemmas.Grind.{common_steps}
use Rattle.core_parts.specs.Heads.{Rises, with_block}
use Rattle.core_parts.proofs.Heads.{rises_with, room_for}
use Rattle.core_parts.proofs.head_changes.TableHead.gain.Goals as goal

pub unreachable-requires : goal.unreachable-requires
unreachable-requires c =
    let same = c.as_slice.ensures.value in
    let is = subst (λ (ys : List ℕ). insert ys c.in-Some.at c.args.block ≡ with_block c.args.block ys) same c.in-Some.ensures.some in
    let within = subst (λ (ys : List ℕ). c.in-Some.at ≤ length ys) same c.in-Some.ensures.within in
    let room : length c.self.inside.empty.items < vec_capacity c.self.inside.empty =
    room_for c.self.inside.empty.items c.in-Some.at c.args.block (vec_capacity c.self.inside.empty) c.self.invariant.rises c.self.invariant.room c.requires within is in
    let fine : IsOk c.insert.result = c.insert.ensures.succeeds (omega (arith, room)) in
    grind (arith, common_steps, fine)

pub invariant_of-self-2 : goal.invariant_of-self-2
invariant_of-self-2 c =
    let same = c.as_slice.ensures.value in
    let is = subst (λ (ys : List ℕ). insert ys c.in-Some.at c.args.block ≡ with_block c.args.block ys) same c.in-Some.ensures.some in
    let fine : is_ok c.insert.result ≡ true = c.is_err.ensures.negation ∙ ap not c.if-is_err.false in
    let now = c.insert.ensures.items ∙ ap (λ (b : Bool). cond b (insert c.self.inside.empty.items c.in-Some.at c.args.block) c.self.inside.empty.items) fine ∙ is in
    let room = c.self.invariant.room in
    let more = c.insert.ensures.capacity in record {
      rises = subst (Rises 0 (2 ^ 10)) (sym now) (rises_with 0 (2 ^ 10) c.self.inside.empty.items c.args.block c.self.invariant.rises (omega arith) c.requires);
      room = omega (arith, room, more);
    }
