use Rattle.std.proofs.Common.{sym, subst, arith}
use Rattle.hall_rule.specs.Heads.{IsFrozen}
use Rattle.hall_steps.proofs.words.drain_block.Goals as goal

pub clear-requires-clause-frozen : goal.clear-requires-clause-frozen
clear-requires-clause-frozen g c κs within =
    let r = c.requires in
    subst IsFrozen (sym (r.pass.2.worn c.args.part r.imaged.0 (λ e. absurd (omega (arith, e))) r.imaged.1)) r.imaged.2
