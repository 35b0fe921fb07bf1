use Rattle.std.proofs.Common.{◌≡◌, ℤ, rules, to_z, of_z, w64, sym, ap, ◌∙◌, subst}
use Rattle.std.proofs.Math.Facts.{to_z-of_z}
use Rattle.event_spec.specs.declared.event.Event.TheVariants as event
use Rattle.event_spec.specs.declared.own.OwnKey.{OwnKey}
use Rattle.event_spec.specs.Effects.{CoreEvent}
use Rattle.event_spec.specs.Lawful.{IsThawed}
use Rattle.isolation_spec.specs.Contents.{place_at}
use Rattle.run_spec.specs.Opened.{own_key}
use Rattle.sole_store.specs.Calls.{Writes}
use Rattle.sole_store.specs.Writing.{IsWriteOf}
use Rattle.sole_store.proofs.Told.{handed}
use Rattle.sole_store.proofs.Writes.{delete_is, had_is}
use Rattle.sole_store.proofs.store.SoleStore.delete.Goals as goal

pub write-requires-clause-write : goal.write-requires-clause-write
write-requires-clause-write c =
    let v = c.args.self.now in
    let key : to_z w64 (of_z w64 c.args.key) ≡ c.args.key = to_z-of_z {w = w64} (search rules) in
    subst (IsWriteOf v (place_at c.args.table (to_z w64 (of_z w64 c.args.key)))) (sym c.new-event.ensures)
    (delete_is v c.own_key-own.result c.args.table (to_z w64 (of_z w64 c.args.key)) c.requires.table
    (subst (λ (z : ℤ). IsThawed v.shape c.args.table z v.parts) (sym key) c.requires.thawed) c.own_key-own.ensures.mine c.own_key-own.ensures.owns)

pub write-requires-clause-had : goal.write-requires-clause-had
write-requires-clause-had c =
    had_is c.args.self.now.own c.own_key-own.result (place_at c.args.table (to_z w64 (of_z w64 c.args.key))) c.is_some-had.result c.own_key-own.ensures.key c.is_some-had.ensures

pub returns : goal.returns
returns c own is =
    let v = c.args.self.now in
    let key : to_z w64 (of_z w64 c.args.key) ≡ c.args.key = to_z-of_z {w = w64} (search rules) in
    subst (λ (e : CoreEvent). Writes v c.write.new.self e c.write.result)
    (c.new-event.ensures
    ∙ ap (λ (k : OwnKey). event.Delete k c.args.table (to_z w64 (of_z w64 c.args.key)))
    (handed c.args.table (to_z w64 (of_z w64 c.args.key)) v.own own c.own_key-own.result c.own_key-own.ensures.key is)
    ∙ ap (λ (z : ℤ). event.Delete (own_key c.args.table z own) c.args.table z) key)
    c.write.ensures
