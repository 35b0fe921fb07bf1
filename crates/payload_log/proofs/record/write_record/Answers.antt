use Rattle.payload_log.proofs.Steps.{after1, after2, after3, after4, stands4}
use Rattle.payload_log.proofs.record.write_record.Goals as goal

pub returns-in_err-write_at-clause-any_moment : goal.returns-in_err-write_at-clause-any_moment
returns-in_err-write_at-clause-any_moment g c payloads stands =
    after1 g.D.Disk.told g.D.Disk.may_leave g.D.Disk.moment g.D.Disk.left_since
    g.met.D.Disk.only_now payloads c.args.payload.now c.args.piece.now c.args.gate
    c.requires.piece c.requires.short c.args.disk.now stands
    c.write_at.new.self c.write_at.ensures.crash c.write_at.ensures.time

pub returns-in_err-sync-clause-any_moment : goal.returns-in_err-sync-clause-any_moment
returns-in_err-sync-clause-any_moment g c payloads stands =
    after2 g.D.Disk.told g.D.Disk.may_leave g.D.Disk.moment g.D.Disk.left_since
    g.met.D.Disk.only_now payloads c.args.payload.now c.args.piece.now c.args.gate
    c.requires.piece c.requires.short c.args.disk.now stands
    c.write_at.new.self c.write_at.ensures.crash c.write_at.ensures.time c.sync.new.self
    c.sync.ensures.crash c.sync.ensures.time

pub returns-in_err-write_at-2-clause-any_moment : goal.returns-in_err-write_at-2-clause-any_moment
returns-in_err-write_at-2-clause-any_moment g c payloads stands =
    after3 g.D.Disk.told g.D.Disk.may_leave g.D.Disk.moment g.D.Disk.left_since
    g.met.D.Disk.only_now payloads c.args.payload.now c.args.piece.now c.args.gate
    c.requires.piece c.requires.short c.args.disk.now stands
    c.write_at.new.self c.write_at.ensures.crash c.write_at.ensures.time c.sync.new.self
    c.sync.ensures.crash c.sync.ensures.time
    c.in_ok-write_at.ensures.bytes c.sync.ensures.told c.in_ok-sync.ensures.durable
    c.write_at-2.new.self c.write_at-2.ensures.crash c.write_at-2.ensures.time

pub returns-in_err-sync-2-clause-any_moment : goal.returns-in_err-sync-2-clause-any_moment
returns-in_err-sync-2-clause-any_moment g c payloads stands =
    after4 g.D.Disk.told g.D.Disk.may_leave g.D.Disk.moment g.D.Disk.left_since
    g.met.D.Disk.only_now payloads c.args.payload.now c.args.piece.now c.args.gate
    c.requires.piece c.requires.short c.args.disk.now stands
    c.write_at.new.self c.write_at.ensures.crash c.write_at.ensures.time c.sync.new.self
    c.sync.ensures.crash c.sync.ensures.time
    c.in_ok-write_at.ensures.bytes c.sync.ensures.told c.in_ok-sync.ensures.durable
    c.write_at-2.new.self c.write_at-2.ensures.crash c.write_at-2.ensures.time
    c.sync-2.new.self c.sync-2.ensures.crash c.sync-2.ensures.time

pub returns-clause-any_moment : goal.returns-clause-any_moment
returns-clause-any_moment g c payloads stands =
    after4 g.D.Disk.told g.D.Disk.may_leave g.D.Disk.moment g.D.Disk.left_since
    g.met.D.Disk.only_now payloads c.args.payload.now c.args.piece.now c.args.gate
    c.requires.piece c.requires.short c.args.disk.now stands
    c.write_at.new.self c.write_at.ensures.crash c.write_at.ensures.time c.sync.new.self
    c.sync.ensures.crash c.sync.ensures.time
    c.in_ok-write_at.ensures.bytes c.sync.ensures.told c.in_ok-sync.ensures.durable
    c.write_at-2.new.self c.write_at-2.ensures.crash c.write_at-2.ensures.time
    c.sync-2.new.self c.sync-2.ensures.crash c.sync-2.ensures.time

pub returns-clause-ok : goal.returns-clause-ok
returns-clause-ok g c payloads stands =
    stands4 g.D.Disk.told g.D.Disk.may_leave g.D.Disk.moment g.D.Disk.left_since
    g.met.D.Disk.only_now payloads c.args.payload.now c.args.piece.now c.args.gate
    c.requires.piece c.requires.short c.args.disk.now stands
    c.write_at.new.self c.write_at.ensures.crash c.write_at.ensures.time c.sync.new.self
    c.sync.ensures.crash c.sync.ensures.time
    c.in_ok-write_at.ensures.bytes c.sync.ensures.told c.in_ok-sync.ensures.durable
    c.write_at-2.new.self c.write_at-2.ensures.crash c.write_at-2.ensures.time
    c.sync-2.new.self c.sync-2.ensures.crash c.sync-2.ensures.time
    c.in_ok-write_at-2.ensures.bytes c.sync-2.ensures.told c.in_ok-sync-2.ensures.durable
