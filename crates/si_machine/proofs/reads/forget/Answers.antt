use Rattle.std.proofs.Common.{rules, eqb, not}
use Rattle.std.proofs.lemmas.Fn.{filter_same}
use Rattle.si_machine.specs.declared.reads.Reading.{Reading}
use Rattle.si_machine.proofs.reads.forget.Goals as goal

pub returns : goal.returns
returns c = filter_same _ (λ (r : Reading). not (eqb r.session c.args.session)) _ (λ x b f k. search rules) _ _ c.retain.ensures.filtered
