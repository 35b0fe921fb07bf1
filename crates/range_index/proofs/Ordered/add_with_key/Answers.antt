use Rattle.std.proofs.Common.{rules, ◌≡◌, ◌∷◌, ◌++◌, [], ℤ, cond, true, ap, sym, ◌∙◌, arith, int_cmp, subst, w64, to_z, of_z}
use Rattle.std.proofs.lemmas.Grind.{common_steps}
use Rattle.std.proofs.lemmas.Int.{to_z-of_z}
use Rattle.std.specs.BTreeSet.{Updates, contains}
use Rattle.std.specs.FinMap as map
use Rattle.std.specs.Ordering.{is_eq}
use Rattle.key_index.specs.Candidates.{candidates_of, with_candidates}
use Rattle.range_index.proofs.Held.{held_added}
use Rattle.range_index.proofs.Ordered.add_with_key.Goals as goal

pub invariant_of-self-in_default : goal.invariant_of-self-in_default
invariant_of-self-in_default c = λ q.
    let grown : c.add.new.self ≡ with_candidates c.self.inside.index c.args.key (candidates_of c.self.inside.index c.args.key ++ c.args.place ∷ []) = grind (arith, common_steps) in
    let updates : Updates int_cmp c.self.inside.keys c.insert.new.self (to_z w64 (of_z w64 c.args.key)) true = search rules in
    let put : (q : ℤ) → contains int_cmp c.insert.new.self q ≡ cond (is_eq (int_cmp c.args.key q)) true (contains int_cmp c.self.inside.keys q) =
    λ q. subst (λ (k : ℤ). contains int_cmp c.insert.new.self q ≡ cond (is_eq (int_cmp k q)) true (contains int_cmp c.self.inside.keys q)) (to_z-of_z w64 c.args.key c.ranges.key) (updates.0 q) in
    held_added c.self.inside.index c.args.key (candidates_of c.self.inside.index c.args.key) c.args.place (contains int_cmp c.self.inside.keys) (contains int_cmp c.insert.new.self) c.self.invariant put q
    ∙ sym (ap (λ m. map.contains_key m q) grown)
