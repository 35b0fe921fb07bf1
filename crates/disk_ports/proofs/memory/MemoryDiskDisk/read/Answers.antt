use Rattle.disk_ports.specs.Memory.{Asked}
use Rattle.disk_ports.proofs.Past.{elapses_goes}
use Rattle.disk_ports.proofs.memory.MemoryDiskDisk.read.Goals as goal

pub returns-clause-time : goal.returns-clause-time
returns-clause-time c =
    elapses_goes Asked c.args.self.now c.ask.new.self c.in_default.ensures.goes
