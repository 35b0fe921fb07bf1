use Rattle.std.proofs.Common.{Some, option_map, sym, ap, ◌∙◌, subst}
use Rattle.engine_core.specs.Core.{parts_in}
use Rattle.event_spec.specs.declared.own.OwnKey.{OwnKey}
use Rattle.event_spec.specs.Lawful.{OwnsKey}
use Rattle.run_spec.specs.Opened.{own_key}
use Rattle.sole_store.specs.Sole.{SoleState}
use Rattle.sole_store.proofs.Told.{owns_all, owns_key}
use Rattle.sole_store.proofs.store.SoleStore.own_key.Goals as goal

pub returns-clause-key : goal.returns-clause-key
returns-clause-key c =
    ap (option_map (own_key c.args.place.table c.args.place.key)) (sym (ap (λ (s : SoleState). s.own) c.self.view_is) ∙ c.in-Some.is)
    ∙ ap (λ (k : OwnKey). Some k) (sym c.own_key.ensures)

pub returns-clause-mine : goal.returns-clause-mine
returns-clause-mine c =
    let i = c.self.inside in
    ap (λ (k : OwnKey). k.session) c.own_key.ensures ∙ (owns_all i.shape i.hand i.opened c.in-Some.opened c.self.invariant c.in-Some.is).0

pub returns-clause-owns : goal.returns-clause-owns
returns-clause-owns c =
    let i = c.self.inside in
    subst (λ (s : SoleState). OwnsKey s.shape c.own_key.result c.args.place.table c.args.place.key s.parts) c.self.view_is
    (subst (λ (k : OwnKey). OwnsKey i.shape k c.args.place.table c.args.place.key (parts_in i.hand)) (sym c.own_key.ensures)
    (owns_key i.shape i.hand i.opened c.in-Some.opened c.args.place.table c.args.place.key c.self.invariant c.in-Some.is))
