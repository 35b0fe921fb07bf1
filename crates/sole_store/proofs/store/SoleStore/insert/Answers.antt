use Rattle.std.proofs.Common.{◌≡◌, Some, option_map, sym, ap, ◌∙◌, subst}
use Rattle.event_spec.specs.declared.event.Event.TheVariants as event
use Rattle.event_spec.specs.declared.own.OwnKey.{OwnKey}
use Rattle.event_spec.specs.Effects.{CoreEvent}
use Rattle.isolation_spec.specs.Contents.{key_of}
use Rattle.isolation_spec.specs.declared.place.Place.{Place}
use Rattle.run_spec.specs.Opened.{own_key}
use Rattle.sole_store.specs.Calls.{Writes}
use Rattle.sole_store.specs.Writing.{IsWriteOf}
use Rattle.sole_store.proofs.Told.{handed}
use Rattle.sole_store.proofs.Writes.{had_is, insert_is}
use Rattle.sole_store.proofs.store.SoleStore.insert.Goals as goal

pub write-requires-clause-write : goal.write-requires-clause-write
write-requires-clause-write c =
    subst (IsWriteOf c.args.self.now c.place_in-place.result) (sym c.new-event.ensures)
    (insert_is c.args.self.now c.place_in-place.result c.own_key-own.result c.args.table c.args.row c.place_in-place.ensures.place c.requires.table c.requires.fits
    c.own_key-own.ensures.mine c.own_key-own.ensures.owns)

pub write-requires-clause-had : goal.write-requires-clause-had
write-requires-clause-had c = had_is c.args.self.now.own c.own_key-own.result c.place_in-place.result c.is_some-had.result c.own_key-own.ensures.key c.is_some-had.ensures

pub returns : goal.returns
returns c own is =
    let v = c.args.self.now in
    let key = subst (λ (p : Place). option_map (own_key p.table p.key) v.own ≡ Some c.own_key-own.result) c.place_in-place.ensures.place c.own_key-own.ensures.key in
    subst (λ (e : CoreEvent). Writes v c.write.new.self e c.write.result)
    (c.new-event.ensures ∙ ap (λ (k : OwnKey). event.Insert k c.args.table c.args.row) (handed c.args.table (key_of c.args.row) v.own own c.own_key-own.result key is))
    c.write.ensures
