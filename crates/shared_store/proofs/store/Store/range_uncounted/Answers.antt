use Rattle.std.proofs.Common.{ℤ, of_z, subst, to_z}
use Rattle.std.specs.Int.{w64}
use Rattle.std.proofs.lemmas.Int.{to_z-of_z}
use Rattle.shared_store.specs.Open.{FindsBetween}
use Rattle.shared_store.proofs.store.Store.range_uncounted.Goals as goal

pub returns-clause-finds : goal.returns-clause-finds
returns-clause-finds g c =
    subst (λ (high : ℤ). FindsBetween c.args.self.now c.args.session.now c.range_on.new.session c.args.table c.args.low high c.range_on.result) (to_z-of_z w64 c.args.high c.ranges.high)
    (subst (λ (low : ℤ). FindsBetween c.args.self.now c.args.session.now c.range_on.new.session c.args.table low (to_z w64 (of_z w64 c.args.high)) c.range_on.result) (to_z-of_z w64 c.args.low c.ranges.low) c.range_on.ensures.finds)
