use Rattle.std.proofs.Common.{sym, subst}
use Rattle.sole_store.proofs.Going.{goes_on, makes_it}
use Rattle.sole_store.specs.Sole.{Makes, MayMake, SoleState, store_of}
use Rattle.sole_store.proofs.store.SoleStore.make.Goals as goal

pub make-requires-clause-whole : goal.make-requires-clause-whole
make-requires-clause-whole c = c.self.invariant.whole

pub make-requires-clause-lawful : goal.make-requires-clause-lawful
make-requires-clause-lawful c =
    let may = subst (λ (s : SoleState). MayMake s c.args.event) (sym c.self.view_is) c.requires in
    may.lawful

pub invariant_of-self : goal.invariant_of-self
invariant_of-self c =
    let i = c.self.inside in
    let may = subst (λ (s : SoleState). MayMake s c.args.event) (sym c.self.view_is) c.requires in
    goes_on i.shape i.hand c.make.new.hand c.args.event i.opened i.opened c.make.result c.self.invariant may.lawful may.owners
    c.make.ensures.whole c.make.ensures.parts c.make.ensures.told c.make.ensures.memory (sym (may.leaves c.make.result))

pub returns : goal.returns
returns c =
    let i = c.self.inside in
    let may = subst (λ (s : SoleState). MayMake s c.args.event) (sym c.self.view_is) c.requires in
    subst (λ (s : SoleState). Makes s (store_of i.shape c.make.new.hand i.opened) c.args.event c.make.result) c.self.view_is
    (makes_it i.shape i.hand c.make.new.hand c.args.event i.opened i.opened c.make.result
    c.make.ensures.parts c.make.ensures.told c.make.ensures.memory (sym (may.leaves c.make.result)))
