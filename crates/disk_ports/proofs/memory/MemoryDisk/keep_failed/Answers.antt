use Rattle.std.proofs.Common.{ap, length}
use Rattle.disk_ports.specs.Memory.{Held, Wrote}
use Rattle.disk_ports.proofs.Laying.{tears_same}
use Rattle.disk_ports.proofs.Past.{elapses_goes, goes_kept, leaves_kept, leaves_same, leaves_waits, waits_same}
use Rattle.disk_ports.proofs.memory.MemoryDisk.keep_failed.Goals as goal

pub note-requires : goal.note-requires
note-requires c =
    let bytes = c.args.self.now.bytes in
    (bytes, c.requires, tears_same c.args.at (length c.in-Ok.piece.items) bytes)

pub returns-in_default-clause-crash : goal.returns-in_default-clause-crash
returns-in_default-clause-crash c = leaves_same c.args.at (length c.args.piece.now) c.args.self.now

pub returns-in-Ok-note-clause-crash : goal.returns-in-Ok-note-clause-crash
returns-in-Ok-note-clause-crash c =
    leaves_kept c.args.at c.in-Ok.piece.items c.args.piece.now c.args.self.now c.note.new.self
    c.in-Ok.ensures.items
    (goes_kept (Wrote c.args.at c.in-Ok.piece.items) c.args.self.now c.note.new.self c.in-Ok-note.ensures.ok c.requires)
    (ap (λ (h : Held). h.bytes) c.in-Ok-note.ensures.ok)

pub returns-in-Ok-note-clause-time : goal.returns-in-Ok-note-clause-time
returns-in-Ok-note-clause-time c =
    elapses_goes (Wrote c.args.at c.in-Ok.piece.items) c.args.self.now c.note.new.self
    (goes_kept (Wrote c.args.at c.in-Ok.piece.items) c.args.self.now c.note.new.self c.in-Ok-note.ensures.ok c.requires)

pub returns-in-Err-clause-crash : goal.returns-in-Err-clause-crash
returns-in-Err-clause-crash c =
    leaves_waits c.args.self.now c.note.new.self
    (waits_same c.args.self.now c.note.new.self c.in-Err.ensures.err) c.args.at (length c.args.piece.now)
