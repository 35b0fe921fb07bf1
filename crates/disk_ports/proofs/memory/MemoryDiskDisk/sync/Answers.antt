use Rattle.disk_ports.specs.Memory.{Synced}
use Rattle.disk_ports.proofs.Past.{elapses_goes, goes_counted}
use Rattle.disk_ports.proofs.memory.MemoryDiskDisk.sync.Goals as goal

pub returns-in-Ok-clause-time : goal.returns-in-Ok-clause-time
returns-in-Ok-clause-time c =
    elapses_goes (Synced c.args.self.now.bytes) c.args.self.now c.settle.new.self
    (goes_counted (λ h. Synced h.bytes) c.args.self.now c.count_call.new.self c.settle.new.self _
    c.count_call.ensures.all c.in-Ok.ensures.goes)
