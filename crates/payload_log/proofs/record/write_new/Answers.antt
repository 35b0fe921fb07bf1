use Rattle.std.proofs.Common.{[], ◌∙◌, refl}
use Rattle.disk_ports.specs.FileSteps.{Lays}
use Rattle.disk_ports.proofs.Told.{on_some}
use Rattle.payload_log.proofs.Steps.{made}
use Rattle.payload_log.proofs.record.write_new.Goals as goal

pub returns-clause-ok : goal.returns-clause-ok
returns-clause-ok g c told =
    let new = on_some (Lays 0 _) (g.D.Disk.told c.args.disk.now) (g.D.Disk.told c.write_at.new.self)
    [] told c.in_ok-write_at.ensures.bytes in
    record {
      bytes = new.0;
      told_is = c.sync.ensures.told ∙ new.1;
      log = made _ new.0 refl new.2;
      only = λ f now. c.in_ok-sync.ensures.durable new.0 new.1 f now;
    }
