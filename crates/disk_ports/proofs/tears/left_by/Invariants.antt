-- The file is what a crash leaves behind the calls so far.
use Rattle.std.proofs.Common.{map, take}
use Rattle.std.specs.Prelude.{reverse}
use Rattle.disk_ports.specs.Memory.{step_of}
use Rattle.disk_ports.specs.Tears.{TornBy}
use Rattle.disk_ports.proofs.tears.left_by.Given as goal

abbrev pub invariant-loop-call : goal.invariant-loop-call
invariant-loop-call l = TornBy l.tear l.first (map step_of (reverse (take l.call-index l.calls))) l.bytes.items
