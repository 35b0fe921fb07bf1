use Rattle.std.proofs.Common.{◌≡◌, ℤ, rules, to_z, of_z, w64, refl, subst}
use Rattle.std.proofs.Math.Facts.{to_z-of_z}
use Rattle.engine_core.proofs.Told.{written_runs}
use Rattle.engine_core.specs.Runs.{Runs}
use Rattle.event_spec.specs.declared.event.Event.TheVariants as event
use Rattle.engine_core.proofs.replies.deleted.Goals as goal

pub returns : goal.returns
returns c =
    let key : to_z w64 (of_z w64 c.args.key) ≡ c.args.key = to_z-of_z {w = w64} (search rules) in
    subst (λ (k : ℤ). Runs c.args.shape.now (event.Delete c.args.own.now c.args.table k) c.args.held.now c.delete.new.held c.told.result) key
    (written_runs c.args.shape.now (event.Delete c.args.own.now c.args.table (to_z w64 (of_z w64 c.args.key))) c.args.held.now c.delete.new.held c.told.result c.delete.result
    c.told.ensures.judged c.told.ensures.refused c.delete.ensures.ok c.delete.ensures.err refl)
