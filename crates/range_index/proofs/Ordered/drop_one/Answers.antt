use Rattle.std.proofs.Common.{◌≡◌, [], List, ℕ, ℤ, cond, false, true, length, ap, sym, ◌∙◌, arith, int_cmp, subst, w64}
use Rattle.std.proofs.lemmas.Int.{to_z-of_z}
use Rattle.std.proofs.lemmas.Grind.{common_steps}
use Rattle.std.specs.BTreeSet.{contains}
use Rattle.std.specs.FinMap as map
use Rattle.std.specs.Ordering.{is_eq}
use Rattle.key_index.specs.Candidates.{candidates_of, with_candidates, without}
use Rattle.range_index.proofs.Held.{candidates_behind, had, held_still, held_without, is_some_place, no_length, not_empty}
use Rattle.range_index.proofs.Ordered.drop_one.Goals as goal

pub invariant_of-self : goal.invariant_of-self
invariant_of-self c = λ q.
    let left : List ℕ = without c.args.place (candidates_of c.self.inside.index c.args.key) in
    let changed = subst (λ (k : ℤ). c.drop_one.new.self ≡ with_candidates c.self.inside.index k (without c.args.place (candidates_of c.self.inside.index k))) (to_z-of_z w64 c.args.key c.ranges.key) c.drop_one.ensures in
    let told = subst (λ (k : ℤ). c.candidates.result.now ≡ candidates_of c.drop_one.new.self k) (to_z-of_z w64 c.args.key c.ranges.key) c.candidates.ensures in
    let empty : length c.candidates.result.now ≡ 0 = grind (arith, common_steps) in
    let none : without c.args.place (candidates_of c.self.inside.index c.args.key) ≡ [] =
    sym (candidates_behind c.self.inside.index c.args.key left) ∙ ap (λ m. candidates_of m c.args.key) (sym changed) ∙ sym told ∙ no_length c.candidates.result.now empty in
    let taken : (q : ℤ) → contains int_cmp c.remove.new.self q ≡ cond (is_eq (int_cmp c.args.key q)) false (contains int_cmp c.self.inside.keys q) =
    λ q. subst (λ (k : ℤ). contains int_cmp c.remove.new.self q ≡ cond (is_eq (int_cmp k q)) false (contains int_cmp c.self.inside.keys q)) (to_z-of_z w64 c.args.key c.ranges.key) (c.remove.ensures.updates.0 q) in
    held_without c.self.inside.index c.args.key (contains int_cmp c.self.inside.keys) (contains int_cmp c.remove.new.self) c.self.invariant taken q
    ∙ sym (ap (λ m. map.contains_key m q) (changed ∙ ap (with_candidates c.self.inside.index c.args.key) none))

pub invariant_of-self-else-is_empty : goal.invariant_of-self-else-is_empty
invariant_of-self-else-is_empty c = λ q.
    let left : List ℕ = without c.args.place (candidates_of c.self.inside.index c.args.key) in
    let changed = subst (λ (k : ℤ). c.drop_one.new.self ≡ with_candidates c.self.inside.index k (without c.args.place (candidates_of c.self.inside.index k))) (to_z-of_z w64 c.args.key c.ranges.key) c.drop_one.ensures in
    let told = subst (λ (k : ℤ). c.candidates.result.now ≡ candidates_of c.drop_one.new.self k) (to_z-of_z w64 c.args.key c.ranges.key) c.candidates.ensures in
    let same : c.candidates.result.now ≡ left = told ∙ ap (λ m. candidates_of m c.args.key) changed ∙ candidates_behind c.self.inside.index c.args.key left in
    let place : is_some_place left ≡ true = ap is_some_place (sym same) ∙ not_empty c.candidates.result.now (λ e. let long = ap (λ (xs : List ℕ). length xs) e in let never : ⊥ = grind (arith, common_steps, long) in never) in
    held_still c.self.inside.index c.args.key left (contains int_cmp c.self.inside.keys) c.self.invariant (had c.self.inside.index c.args.key c.args.place place ∙ sym place) q
    ∙ sym (ap (λ m. map.contains_key m q) changed)
