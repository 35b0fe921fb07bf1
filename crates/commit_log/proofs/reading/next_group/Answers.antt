use Rattle.commit_log.proofs.Groups.{no_group, no_payload}
use Rattle.commit_log.proofs.reading.next_group.Goals as goal

pub returns-in_default-sized-clause-form : goal.returns-in_default-sized-clause-form
returns-in_default-sized-clause-form c is =
    no_payload c.args.tables.now c.args.reader.now c.byte.new.self c.in-Some.gate
    c.in-Some.ensures.some
    c.if-gate-eq0.false c.in_default-sized.ensures.none
