use Rattle.std.specs.Int.{w64}
use Rattle.std.proofs.lemmas.Int.{to_z-of_z}
use Rattle.shared_store.specs.Open.{commits_seen}
use Rattle.embedded.proofs.Handing.{opens}
use Rattle.embedded.proofs.Tries.{begun_none, if_tried, no_call, no_more, one_call, unwritten_on}
use Rattle.embedded.proofs.checking.try_once.Goals as goal

pub returns-clause-tried : goal.returns-clause-tried
returns-clause-tried g c =
    let st = c.args.store.now in
    let begun = opens st c.args.session.now c.begin_checked.new.session c.begin_checked.result c.unwrap.result c.unwrap.ensures c.begin_checked.ensures.opens in
    if_tried st c.args.session.now c.begin_checked.new.session c.try_in_open.new.session c.try_in_open.new.session c.args.table _ c.args.watched _ c.args.row.now c.try_in_open.result
    (to_z-of_z w64 c.args.watched c.ranges.watched) c.in_ok-row.ensures.cases begun.goes_on (no_more (commits_seen st c.try_in_open.new.session)) c.try_in_open.ensures.tried

pub returns-clause-unwritten : goal.returns-clause-unwritten
returns-clause-unwritten g c =
    let st = c.args.store.now in
    unwritten_on st c.args.session.now c.begin_checked.new.session c.try_in_open.new.session c.try_in_open.new.session c.try_in_open.result
    (one_call st c.args.session.now c.begin_checked.new.session _ _ c.begin_checked.ensures.answers (begun_none c.begin_checked.result)) (no_call st c.try_in_open.new.session) c.try_in_open.ensures.unwritten
