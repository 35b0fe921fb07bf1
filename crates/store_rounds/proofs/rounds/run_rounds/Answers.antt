use Rattle.std.proofs.Common.{◌≤◌, ◌+◌, arith, sym, subst}
use Rattle.store_rounds.specs.declared.crew.Crew.{Crew}
use Rattle.store_rounds.proofs.Scripts.{few_sessions, few_workers}
use Rattle.store_rounds.proofs.rounds.run_rounds.Goals as goal

pub desks_needed-requires : goal.desks_needed-requires
desks_needed-requires g c =
    let sessions = few_sessions c.args.script.now.value c.requires.runnable.valid in
    let workers = few_workers c.args.script.now.value c.requires.runnable.valid in
    subst (λ (crew : Crew). crew.sessions + crew.workers ≤ 128) (sym c.requires.crew) (omega (arith, sessions, workers))
