use Rattle.std.proofs.Common.{◌≡◌, ℤ, rules, to_z, of_z, w64, refl, sym, ap, ◌∙◌, subst}
use Rattle.std.proofs.Math.Facts.{to_z-of_z}
use Rattle.event_spec.specs.declared.event.Event.TheVariants as event
use Rattle.event_spec.specs.declared.own.OwnKey.{OwnKey}
use Rattle.event_spec.specs.declared.reply.Reply.TheVariants as reply
use Rattle.event_spec.specs.Effects.{CoreEvent}
use Rattle.run_spec.specs.Opened.{own_key}
use Rattle.sole_store.specs.Sole.{MayMake}
use Rattle.sole_store.proofs.Told.{granted, handed, may_get, refused, told_as}
use Rattle.sole_store.proofs.store.SoleStore.get.Goals as goal

pub make-requires : goal.make-requires
make-requires c =
    subst (MayMake c.args.self.now) (sym c.new-event.ensures)
    (may_get c.args.self.now c.own_key-own.result c.args.table (to_z w64 (of_z w64 c.args.key)) c.requires.table c.own_key-own.ensures.mine c.own_key-own.ensures.owns)

pub unreachable-requires : goal.unreachable-requires
unreachable-requires c =
    let v = c.args.self.now in
    let e : CoreEvent = event.Get c.own_key-own.result c.args.table (to_z w64 (of_z w64 c.args.key)) in
    let made = told_as v c.make.new.self c.new-event.result c.make.result c.make.ensures e c.make.result c.new-event.ensures refl in
    c.in_default.not-Found _ (granted v c.make.new.self e c.make.result made c.in_default.not-Memory)

pub returns-in-Found-clause-found : goal.returns-in-Found-clause-found
returns-in-Found-clause-found c own is =
    let v = c.args.self.now in
    let key : to_z w64 (of_z w64 c.args.key) ≡ c.args.key = to_z-of_z {w = w64} (search rules) in
    told_as v c.make.new.self c.new-event.result c.make.result c.make.ensures
    (event.Get (own_key c.args.table c.args.key own) c.args.table c.args.key) (reply.Found c.in-Found.row)
    (c.new-event.ensures
    ∙ ap (λ (k : OwnKey). event.Get k c.args.table (to_z w64 (of_z w64 c.args.key)))
    (handed c.args.table (to_z w64 (of_z w64 c.args.key)) v.own own c.own_key-own.result c.own_key-own.ensures.key is)
    ∙ ap (λ (z : ℤ). event.Get (own_key c.args.table z own) c.args.table z) key)
    c.in-Found.is

pub returns-in-Memory : goal.returns-in-Memory
returns-in-Memory c =
    let v = c.args.self.now in
    let e : CoreEvent = event.Get c.own_key-own.result c.args.table (to_z w64 (of_z w64 c.args.key)) in
    record {
      found = tt;
      none = refused v c.make.new.self e (told_as v c.make.new.self c.new-event.result c.make.result c.make.ensures e reply.Memory c.new-event.ensures c.in-Memory.is) refl;
    }
