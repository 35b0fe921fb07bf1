use Rattle.payload_log.proofs.log.PayloadLog.append.Goals as goal

pub returns-in-Err-clause-any_moment : goal.returns-in-Err-clause-any_moment
returns-in-Err-clause-any_moment g c payloads stands = c.write_record.ensures.any_moment payloads
    stands.stands

pub returns-clause-any_moment : goal.returns-clause-any_moment
returns-clause-any_moment g c payloads stands = c.write_record.ensures.any_moment payloads
    stands.stands
