use Rattle.std.proofs.Common.{◌≡◌, ℤ, rules, to_z, of_z, w64, subst}
use Rattle.std.proofs.Math.Facts.{to_z-of_z}
use Rattle.engine_core.specs.Runs.{Runs}
use Rattle.event_spec.specs.declared.event.Event.TheVariants as event
use Rattle.event_spec.specs.Effects.{CoreEvent}
use Rattle.engine_core.proofs.running.run.Goals as goal

pub returns-in-Insert-clause-made : goal.returns-in-Insert-clause-made
returns-in-Insert-clause-made g c = subst (λ (e : CoreEvent). Runs c.args.shape.now e c.args.held.now c.inserted.new.held c.inserted.result) c.in-Insert.ensures.event c.inserted.ensures

pub returns-in-Update-clause-made : goal.returns-in-Update-clause-made
returns-in-Update-clause-made g c = subst (λ (e : CoreEvent). Runs c.args.shape.now e c.args.held.now c.updated.new.held c.updated.result) c.in-Update.ensures.event c.updated.ensures.made

pub returns-in-Delete-clause-made : goal.returns-in-Delete-clause-made
returns-in-Delete-clause-made g c =
    let key : to_z w64 (of_z w64 c.in-Delete.key) ≡ c.in-Delete.key = to_z-of_z {w = w64} (search rules) in
    subst (λ (e : CoreEvent). Runs c.args.shape.now e c.args.held.now c.deleted.new.held c.deleted.result) c.in-Delete.ensures.event
    (subst (λ (k : ℤ). Runs c.args.shape.now (event.Delete c.in-Delete.own c.in-Delete.table k) c.args.held.now c.deleted.new.held c.deleted.result) key c.deleted.ensures)

pub returns-in-Commit-clause-made : goal.returns-in-Commit-clause-made
returns-in-Commit-clause-made g c = subst (λ (e : CoreEvent). Runs c.args.shape.now e c.args.held.now c.committed.new.held c.committed.result) c.in-Commit.ensures.event c.committed.ensures

pub returns-in-Prune-clause-made : goal.returns-in-Prune-clause-made
returns-in-Prune-clause-made g c = subst (λ (e : CoreEvent). Runs c.args.shape.now e c.args.held.now c.pruned.new.held c.pruned.result) c.in-Prune.ensures.event c.pruned.ensures
