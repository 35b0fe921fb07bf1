use Rattle.std.proofs.Common.{refl}
use Rattle.std.proofs.lemmas.Int.{to_z-of_z}
use mir.Syntax.{w128}
use Rattle.shared_store.proofs.Totalled.{finds_as}
use Rattle.shared_store.proofs.store.Store.total_uncounted.Goals as goal

pub returns-clause-finds : goal.returns-clause-finds
returns-clause-finds g c =
    finds_as c.args.self.now c.args.session.now c.total_on.new.session c.args.table c.args.column c.args.column _ _ c.args.low c.args.high c.total_on.result refl
    (to_z-of_z w128 c.args.low c.ranges.low) (to_z-of_z w128 c.args.high c.ranges.high) c.total_on.ensures.finds
