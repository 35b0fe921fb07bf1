use Rattle.std.proofs.Common.{ap, sym, ◌∙◌, take}
use Rattle.disk_ports.specs.Memory.{Held}
use Rattle.disk_ports.specs.declared.memory.Call.{Call}
use Rattle.std.proofs.Common.{List}
use Rattle.disk_ports.proofs.Torn.{left_from}
use Rattle.disk_ports.proofs.memory.MemoryDisk.left_after.Goals as goal

pub returns-clause-left : goal.returns-clause-left
returns-clause-left c =
    left_from c.args.tear c.args.self.now c.deref-2.result.now c.self.inside.calls.items c.split_at.result.0.now
    c.args.calls c.in_ok-bytes.bytes.items
    (sym (ap (λ (h : Held). h.past) c.self.view_is))
    (c.deref-2.ensures.value ∙ ap (λ (h : Held). h.first) c.self.view_is)
    (c.split_at.ensures.front ∙ ap (λ (l : List Call). take c.args.calls l) c.deref.ensures.value)
    c.requires c.in_ok-bytes.ensures
