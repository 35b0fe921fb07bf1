use Rattle.std.proofs.Common.{refl}
use Rattle.std.specs.Int.{w64}
use Rattle.std.proofs.lemmas.Int.{to_z-of_z}
use Rattle.shared_store.specs.Open.{commits_seen}
use Rattle.embedded.proofs.Tries.{if_tried, no_call, no_more, one_call, unwritten_on, went}
use Rattle.embedded.proofs.checking.try_in_open.Goals as goal

pub returns-then-busy-clause-tried : goal.returns-then-busy-clause-tried
returns-then-busy-clause-tried g c =
    let st = c.args.store.now in
    if_tried st c.args.session.now c.args.session.now c.insert_where_none-tried.new.session c.abort.new.session c.args.table _ c.args.watched _ c.args.row c.insert_where_none-tried.result
    (to_z-of_z w64 c.args.watched c.ranges.watched) refl (no_more (commits_seen st c.args.session.now)) (went st c.insert_where_none-tried.new.session c.abort.new.session _ _ c.abort.ensures.answers)
    c.insert_where_none-tried.ensures.tried

pub returns-else-busy-clause-tried : goal.returns-else-busy-clause-tried
returns-else-busy-clause-tried g c =
    let st = c.args.store.now in
    if_tried st c.args.session.now c.args.session.now c.insert_where_none-tried.new.session c.insert_where_none-tried.new.session c.args.table _ c.args.watched _ c.args.row c.insert_where_none-tried.result
    (to_z-of_z w64 c.args.watched c.ranges.watched) refl (no_more (commits_seen st c.args.session.now)) (no_more (commits_seen st c.insert_where_none-tried.new.session)) c.insert_where_none-tried.ensures.tried

pub returns-then-busy-clause-unwritten : goal.returns-then-busy-clause-unwritten
returns-then-busy-clause-unwritten g c =
    let st = c.args.store.now in
    unwritten_on st c.args.session.now c.args.session.now c.insert_where_none-tried.new.session c.abort.new.session c.insert_where_none-tried.result (no_call st c.args.session.now)
    (one_call st c.insert_where_none-tried.new.session c.abort.new.session _ _ c.abort.ensures.answers refl) c.insert_where_none-tried.ensures.unwritten
