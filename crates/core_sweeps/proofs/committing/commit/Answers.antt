use Rattle.std.proofs.Common.{rules, ap}
use Rattle.core_sweeps.proofs.Commits.{begins, ends, ends_without, few_tables, first_room, has_the_desk, is_open, none_by, numbered_by, pass_there, some_by, stamp_left, told}
use Rattle.txn_desk.specs.declared.Snapshot.{Snapshot}
use Rattle.core_sweeps.proofs.committing.commit.Goals as goal

pub take_desk-desk-requires : goal.take_desk-desk-requires
take_desk-desk-requires c = has_the_desk c.args.shape.now c.args.own.now c.requires.0 c.args.held.now c.requires.1

pub end-requires-clause-pass : goal.end-requires-clause-pass
end-requires-clause-pass c = pass_there c.args.shape.now c.args.own.now c.requires.0 c.args.held.now c.requires.1 c.deref_mut.result.now (told c.args.shape.now c.args.held.now c.take_desk-desk.result.value c.deref_mut.result.now c.take_desk-desk.ensures.part c.deref_mut.ensures.value)

pub end-requires-clause-open : goal.end-requires-clause-open
end-requires-clause-open c = is_open c.args.shape.now c.args.own.now c.requires.0 c.args.held.now c.requires.1 c.deref_mut.result.now (told c.args.shape.now c.args.held.now c.take_desk-desk.result.value c.deref_mut.result.now c.take_desk-desk.ensures.part c.deref_mut.ensures.value)

pub lay_desk-requires : goal.lay_desk-requires
lay_desk-requires c = record { room = first_room c.args.shape.now c.args.own.now c.requires.0 c.args.held.now c.requires.1 c.take_desk-desk.new.held c.take_desk-desk.ensures.taken }

pub returns-then-is_empty : goal.returns-then-is_empty
returns-then-is_empty c = λ reads may.
    ends_without c.args.shape.now c.args.own.now reads c.args.held.now may (none_by c.args.own.now c.by_row.result.now.entries c.by_row.ensures (search rules)) c.take_desk-desk.new.held c.lay_desk.new.held c.deref_mut.result.now c.end.new.self
    (told c.args.shape.now c.args.held.now c.take_desk-desk.result.value c.deref_mut.result.now c.take_desk-desk.ensures.part c.deref_mut.ensures.value) c.take_desk-desk.ensures.taken c.end.ensures.closed c.lay_desk.ensures

pub commit-committed-requires-clause-pass : goal.commit-committed-requires-clause-pass
commit-committed-requires-clause-pass c = pass_there c.args.shape.now c.args.own.now c.requires.0 c.args.held.now c.requires.1 c.deref_mut-2.result.now (told c.args.shape.now c.args.held.now c.take_desk-desk.result.value c.deref_mut-2.result.now c.take_desk-desk.ensures.part c.deref_mut-2.ensures.value)

pub commit-committed-requires-clause-open : goal.commit-committed-requires-clause-open
commit-committed-requires-clause-open c = is_open c.args.shape.now c.args.own.now c.requires.0 c.args.held.now c.requires.1 c.deref_mut-2.result.now (told c.args.shape.now c.args.held.now c.take_desk-desk.result.value c.deref_mut-2.result.now c.take_desk-desk.ensures.part c.deref_mut-2.ensures.value)

pub commit-committed-requires-clause-stamps : goal.commit-committed-requires-clause-stamps
commit-committed-requires-clause-stamps c = stamp_left c.args.shape.now c.args.own.now c.requires.0 c.args.held.now c.requires.1 c.deref_mut-2.result.now (told c.args.shape.now c.args.held.now c.take_desk-desk.result.value c.deref_mut-2.result.now c.take_desk-desk.ensures.part c.deref_mut-2.ensures.value)

pub lay_desk-requires-2 : goal.lay_desk-requires-2
lay_desk-requires-2 c = record { room = first_room c.args.shape.now c.args.own.now c.requires.0 c.args.held.now c.requires.1 c.take_desk-desk.new.held c.take_desk-desk.ensures.taken }

pub stamp_all-requires : goal.stamp_all-requires
stamp_all-requires c = (
  c.requires.0,
  c.args.held.now,
  (begins c.args.shape.now c.args.own.now c.requires.0 c.args.held.now c.requires.1 c.take_desk-desk.new.held c.lay_desk-2.new.held c.deref_mut-2.result.now c.commit-committed.new.self c.commit-committed.result.stamp c.commit-committed.result.number (told c.args.shape.now c.args.held.now c.take_desk-desk.result.value c.deref_mut-2.result.now c.take_desk-desk.ensures.part c.deref_mut-2.ensures.value) c.take_desk-desk.ensures.taken
      (numbered_by c.args.own.now c.deref_mut-2.result.now c.commit-committed.new.self c.commit-committed.result c.tables_written.result c.commit-committed.ensures.taken c.commit-committed.ensures.closed c.tables_written.ensures) c.lay_desk-2.ensures (ap (λ (s : Snapshot). s.stamp) c.commit-committed.ensures.taken) (ap (λ (s : Snapshot). s.number) c.commit-committed.ensures.taken)),
)

pub tables_written-requires : goal.tables_written-requires
tables_written-requires c = few_tables c.args.shape.now c.args.own.now c.requires.0 c.args.held.now c.requires.1

pub returns : goal.returns
returns c = λ reads may.
    ends c.args.shape.now c.args.own.now reads c.commit-committed.result.stamp c.commit-committed.result.number c.args.held.now c.stamp_all.new.held
    (c.stamp_all.ensures reads c.args.held.now (begins c.args.shape.now c.args.own.now reads c.args.held.now may c.take_desk-desk.new.held c.lay_desk-2.new.held c.deref_mut-2.result.now c.commit-committed.new.self c.commit-committed.result.stamp c.commit-committed.result.number (told c.args.shape.now c.args.held.now c.take_desk-desk.result.value c.deref_mut-2.result.now c.take_desk-desk.ensures.part c.deref_mut-2.ensures.value) c.take_desk-desk.ensures.taken
    (numbered_by c.args.own.now c.deref_mut-2.result.now c.commit-committed.new.self c.commit-committed.result c.tables_written.result c.commit-committed.ensures.taken c.commit-committed.ensures.closed c.tables_written.ensures) c.lay_desk-2.ensures (ap (λ (s : Snapshot). s.stamp) c.commit-committed.ensures.taken) (ap (λ (s : Snapshot). s.number) c.commit-committed.ensures.taken)))
    (some_by c.args.own.now c.by_row.result.now.entries c.by_row.ensures (search rules))
