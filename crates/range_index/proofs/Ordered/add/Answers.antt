use Rattle.std.proofs.Common.{◌≡◌, ◌∷◌, ◌++◌, [], List, ℕ, ℤ, true, length, OnOk, ap, sym, ◌∙◌, arith, int_cmp, subst, w64}
use Rattle.std.proofs.lemmas.Grind.{common_steps}
use Rattle.std.proofs.lemmas.Int.{to_z-of_z}
use Rattle.std.specs.BTreeSet.{contains}
use Rattle.key_index.specs.Candidates.{candidates_of, with_candidates}
use Rattle.range_index.proofs.Held.{held_more, is_some_place, not_empty}
use Rattle.range_index.proofs.Ordered.add.Goals as goal

pub invariant_of-self : goal.invariant_of-self
invariant_of-self c =
    let key_is = to_z-of_z w64 c.args.key c.ranges.key in
    let told = subst (λ (k : ℤ). c.candidates.result.now ≡ candidates_of c.self.inside.index k) key_is c.candidates.ensures in
    let some : is_some_place (candidates_of c.self.inside.index c.args.key) ≡ true =
    ap is_some_place (sym told) ∙ not_empty c.candidates.result.now (λ e. let long = ap (λ (xs : List ℕ). length xs) e in let never : ⊥ = grind (arith, common_steps, long) in never) in
    held_more c.self.inside.index c.add.new.self c.args.key c.args.place (contains int_cmp c.self.inside.keys) c.add.result
    (subst (λ (k : ℤ). OnOk c.add.result (c.add.new.self ≡ with_candidates c.self.inside.index k (candidates_of c.self.inside.index k ++ c.args.place ∷ []))) key_is c.add.ensures.ok)
    c.add.ensures.err some c.self.invariant
