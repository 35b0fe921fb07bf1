use Rattle.std.proofs.Common.{◌≡◌, Err, ap}
use Rattle.payload_log.specs.declared.fault.LogFault.TheVariants.{Failed}
use Rattle.commit_log.proofs.log.Log.open.Goals as goal

pub returns-in-Err-clause-fresh : goal.returns-in-Err-clause-fresh
returns-in-Err-clause-fresh g c is =
    let same : c.in-Err.fault ≡ Failed = cc in
    c.in-Err.ensures.fresh (ap (λ fault. Err fault) same)
