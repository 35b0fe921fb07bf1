use Rattle.std.proofs.Common.{sym, ap, ◌∙◌, subst}
use Rattle.sole_store.specs.Sole.{SoleState}
use Rattle.sole_store.specs.Writing.{IsWriteOf}
use Rattle.sole_store.proofs.Writes.{had_of, write_goes}
use Rattle.sole_store.proofs.store.SoleStore.make_write.Goals as goal

pub write-requires-clause-whole : goal.write-requires-clause-whole
write-requires-clause-whole c = c.self.invariant.whole

pub write-requires-clause-lawful : goal.write-requires-clause-lawful
write-requires-clause-lawful c =
    let write = subst (λ (s : SoleState). IsWriteOf s c.args.place c.args.event) (sym c.self.view_is) c.requires.write in
    write.lawful

pub write-requires-clause-had : goal.write-requires-clause-had
write-requires-clause-had c =
    had_of c.args.self.now.own c.in-Some.opened c.args.place c.args.had (sym (ap (λ (s : SoleState). s.own) c.self.view_is) ∙ c.in-Some.is) c.requires.had

pub invariant_of-self : goal.invariant_of-self
invariant_of-self c =
    let i = c.self.inside in
    let write = subst (λ (s : SoleState). IsWriteOf s c.args.place c.args.event) (sym c.self.view_is) c.requires.write in
    write_goes i.shape i.hand c.write.new.hand c.args.place c.args.event i.opened c.in-Some.opened c.write.new.self c.self.invariant c.in-Some.is write c.write.ensures.whole c.write.result
    c.write.ensures.parts c.write.ensures.told c.write.ensures.memory c.write.ensures.writes c.write.ensures.none c.write.ensures.kept
