use Rattle.std.proofs.Common.{◌<◌, arith, length}
use Rattle.std.proofs.lemmas.Bool.Decides.{nat_tests}
use Rattle.store_rounds.specs.Stations.{HasAway, IsAway}
use Rattle.store_rounds.proofs.Apart.{free_again, free_behind, may_one_of, may_rest_of, none_quiet, quiet_first_of, quiet_row_of, still_there}
use Rattle.store_rounds.proofs.serving.+serve_beside.Goals as goal

pub returns-in_default-clause-row : goal.returns-in_default-clause-row
returns-in_default-clause-row g t c =
    none_quiet c.args.store.now c.args.row.now c.args.duties.now c.in_default.ensures.cases c.requires.may.size

pub serve_quietly-requires-clause-may : goal.serve_quietly-requires-clause-may
serve_quietly-requires-clause-may g t c κs within =
    may_one_of c.args.store.now c.args.row.now _ _ c.args.duties.now _ _
    c.in-Some.ensures.cases.0 c.in-Some-split_first_mut.ensures.cases.0 c.requires.may

pub serve_beside-requires-clause-may : goal.serve_beside-requires-clause-may
serve_beside-requires-clause-may g t c κs within =
    may_rest_of c.args.store.now c.args.row.now _ _ c.args.duties.now _ _
    c.in-Some.ensures.cases.0 c.in-Some-split_first_mut.ensures.cases.0 c.requires.may

pub serve_beside-requires-2-clause-may : goal.serve_beside-requires-2-clause-may
serve_beside-requires-2-clause-may g t c κs within =
    may_rest_of c.args.store.now c.args.row.now _ _ c.args.duties.now _ _
    c.in-Some.ensures.cases.0 c.in-Some-split_first_mut.ensures.cases.0 c.requires.may

pub serve_beside-requires-2-clause-free : goal.serve_beside-requires-2-clause-free
serve_beside-requires-2-clause-free g t c κs within =
    free_behind c.args.at c.args.desks.now c.args.stations.now c.requires.free c.send_away.new.station

pub bring_back-requires-after_bounds : goal.bring_back-requires-after_bounds
bring_back-requires-after_bounds g t c κs within =
    let low : c.args.at < length c.args.desks.now = grind (arith, nat_tests, c.if-at-desks.false) in
    still_there c.args.at c.args.desks.now c.args.stations.now c.requires.free c.send_away.new.station
    c.serve_beside-2.new.stations c.serve_beside-2.ensures.free low
    (HasAway c.index-desks-at.result) _ c.send_away.ensures.away

pub returns-clause-free : goal.returns-clause-free
returns-clause-free g t c =
    let low : c.args.at < length c.args.desks.now = grind (arith, nat_tests, c.if-at-desks.false) in
    free_again c.args.at c.args.desks.now c.args.stations.now c.requires.free c.send_away.new.station
    c.serve_beside-2.new.stations c.serve_beside-2.ensures.free low
    c.index-desks-at.result c.bring_back.new.station c.index-desks-at.is c.bring_back.ensures.free

pub returns-clause-row : goal.returns-clause-row
returns-clause-row g t c =
    let low : c.args.at < length c.args.desks.now = grind (arith, nat_tests, c.if-at-desks.false) in
    quiet_row_of c.args.store.now c.args.row.now _ _ c.args.duties.now _ _
    c.in-Some.ensures.cases.0 c.in-Some-split_first_mut.ensures.cases.0
    c.bring_back.new.session c.bring_back.new.duty c.serve_beside-2.new.row c.serve_beside-2.new.duties
    (c.bring_back.ensures.served _ _ _
    (still_there c.args.at c.args.desks.now c.args.stations.now c.requires.free c.send_away.new.station
    c.serve_beside-2.new.stations c.serve_beside-2.ensures.free low
    (IsAway c.index-desks-at.result c.args.store.now c.in-Some.next.now c.in-Some-split_first_mut.its.now) _ c.send_away.ensures))
    c.serve_beside-2.ensures.row

pub returns-then-not-is_busy-clause-row : goal.returns-then-not-is_busy-clause-row
returns-then-not-is_busy-clause-row g t c =
    quiet_row_of c.args.store.now c.args.row.now _ _ c.args.duties.now _ _
    c.in-Some.ensures.cases.0 c.in-Some-split_first_mut.ensures.cases.0
    c.serve_quietly.new.session c.serve_quietly.new.duty c.serve_beside.new.row c.serve_beside.new.duties
    c.serve_quietly.ensures c.serve_beside.ensures.row

pub send_away-requires-clause-may : goal.send_away-requires-clause-may
send_away-requires-clause-may g t c = record {
  may = may_one_of c.args.store.now c.args.row.now _ _ c.args.duties.now _ _
      c.in-Some.ensures.cases.0 c.in-Some-split_first_mut.ensures.cases.0 c.requires.may;
  quiet = quiet_first_of c.args.duties.now _ _ c.in-Some-split_first_mut.ensures.cases.0 c.requires.quiet;
}
