use Rattle.std.proofs.Common.{ap, length, subst, ◌∙◌}
use Rattle.disk_ports.specs.FileSteps.{Lays}
use Rattle.disk_ports.specs.Memory.{Held}
use Rattle.disk_ports.proofs.Laying.{tears_same}
use Rattle.disk_ports.proofs.Past.{laid_outcomes}
use Rattle.disk_ports.proofs.memory.MemoryDisk.lay.Goals as goal

pub note-requires : goal.note-requires
note-requires c =
    let bytes = c.args.self.now.bytes in
    (bytes, c.requires, tears_same c.args.at (length c.in_ok-piece.piece.items) bytes)

pub invariant_of-self : goal.invariant_of-self
invariant_of-self c =
    let same = c.self-2.view_is ∙ c.in_ok-note.ensures.ok in
    laid_outcomes c.args.self.now c.self-2.inside.first.items c.in_ok-bytes.bytes.items _ c.args.at
    c.in_ok-piece.piece.items c.args.piece.now
    (ap (λ (h : Held). h.first) same) (ap (λ (h : Held). h.past) same) c.in_ok-piece.ensures.items c.requires
    (subst (λ b. Lays c.args.at c.args.piece.now b c.in_ok-bytes.bytes.items)
    (c.deref.ensures.value ∙ ap (λ (h : Held). h.bytes) c.self.view_is) c.in_ok-bytes.ensures)
