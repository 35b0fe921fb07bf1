use Rattle.std.proofs.Common.{◌+◌, ◌≤◌, refl, sym, ap, ◌∙◌, subst}
use Rattle.engine_core.proofs.Told.{made_of, refuses}
use Rattle.engine_core.proofs.Wholes.{agrees, goes_on, may_run, parts_after, reply_after}
use Rattle.engine_core.specs.Core.{CoreState, is_memory, parts_in}
use Rattle.engine_core.specs.Costs.{cost_of}
use Rattle.event_spec.specs.Lawful.{IsLawful}
use Rattle.event_spec.specs.Replay as replay
use Rattle.engine_core.proofs.engine.Core.apply.Goals as goal

pub run-requires : goal.run-requires
run-requires g c =
    may_run c.self.inside.shape c.self.inside.hand c.self.invariant c.args.event
    (subst (λ (v : CoreState). IsLawful v.shape c.args.event v.parts) (sym c.self.view_is) c.requires)

pub invariant_of-self : goal.invariant_of-self
invariant_of-self g c =
    let lawful = subst (λ (v : CoreState). IsLawful v.shape c.args.event v.parts) (sym c.self.view_is) c.requires in
    goes_on c.self.inside.shape c.self.inside.hand c.self.invariant c.args.event c.run.new.held c.run.result lawful (is_memory c.run.result)
    (made_of c.self.inside.shape c.args.event c.self.inside.hand c.run.new.held c.run.result c.run.ensures.made)

pub returns-clause-shape : goal.returns-clause-shape
returns-clause-shape g c = ap (λ (v : CoreState). v.shape) c.self.view_is

pub returns-clause-parts : goal.returns-clause-parts
returns-clause-parts g c =
    let lawful = subst (λ (v : CoreState). IsLawful v.shape c.args.event v.parts) (sym c.self.view_is) c.requires in
    parts_after c.self.inside.shape c.self.inside.hand c.self.invariant c.args.event c.run.new.held c.run.result lawful (is_memory c.run.result)
    (made_of c.self.inside.shape c.args.event c.self.inside.hand c.run.new.held c.run.result c.run.ensures.made)
    ∙ ap (λ (v : CoreState). replay.after v.shape v.parts (record { event = c.args.event; refused = is_memory c.run.result })) c.self.view_is

pub returns-clause-reply : goal.returns-clause-reply
returns-clause-reply g c =
    let lawful = subst (λ (v : CoreState). IsLawful v.shape c.args.event v.parts) (sym c.self.view_is) c.requires in
    reply_after c.self.inside.shape c.self.inside.hand c.self.invariant c.args.event c.run.new.held c.run.result lawful (is_memory c.run.result) refl
    (made_of c.self.inside.shape c.args.event c.self.inside.hand c.run.new.held c.run.result c.run.ensures.made)
    ∙ ap (λ (v : CoreState). replay.reply_after v.shape v.parts (record { event = c.args.event; refused = is_memory c.run.result })) c.self.view_is

pub returns-clause-refuses : goal.returns-clause-refuses
returns-clause-refuses g c = λ is. refuses c.self.inside.shape c.args.event c.self.inside.hand c.run.new.held c.run.result c.run.ensures.made is

pub returns-clause-steps : goal.returns-clause-steps
returns-clause-steps g c =
    subst (λ (v : CoreState). c.run.new.steps ≤ c.args.steps.now + cost_of v.shape c.args.event v.parts) c.self.view_is
    (c.run.ensures.steps (parts_in c.self.inside.hand) c.self.invariant.holds (agrees c.self.inside.shape c.self.inside.hand c.self.invariant))
