use Rattle.std.proofs.Common.{◌<◌, arith, length, sym, ◌∙◌, subst}
use Rattle.std.proofs.lemmas.Bool.Decides.{nat_tests}
use Rattle.store_rounds.specs.Served.{OneExportsAtMost}
use Rattle.store_rounds.specs.Stations.{HasAway, IsAway}
use Rattle.store_rounds.proofs.Apart.{beside_served_of, first_quiet_of, first_served_of, free_again, free_behind, may_one_of, may_rest_of, none_counted, once_rest_of, others_quiet, still_there}
use Rattle.store_rounds.proofs.Parts.{cut_of_first, cut_of_second, none_served}
use Rattle.store_rounds.proofs.serving.+outlet.Goals as goal

pub serve_row-returns-in_default-clause-served : goal.serve_row-returns-in_default-clause-served
serve_row-returns-in_default-clause-served g t c =
    none_served c.args.store.now c.args.row.now c.args.duties.now _ c.in_default.ensures.cases

pub serve_row-returns-in_default-clause-faults : goal.serve_row-returns-in_default-clause-faults
serve_row-returns-in_default-clause-faults g t c =
    none_counted c.args.duties.now _ (c.requires.may.size ∙ c.in_default.ensures.cases)

pub serve_row-serve_beside-requires-clause-may : goal.serve_row-serve_beside-requires-clause-may
serve_row-serve_beside-requires-clause-may g t c κs within =
    may_rest_of c.args.store.now c.args.row.now _ _ c.args.duties.now _ _
    c.in-Some.ensures.cases.0 c.in-Some-split_first_mut.ensures.cases.0 c.requires.may

pub serve_row-serve_beside-requires-clause-quiet : goal.serve_row-serve_beside-requires-clause-quiet
serve_row-serve_beside-requires-clause-quiet g t c κs within =
    others_quiet _ _ (subst OneExportsAtMost c.in-Some-split_first_mut.ensures.cases.0 c.requires.once)
    (sym c.stays.ensures ∙ c.if-stays.true)

pub serve_row-serve_beside-requires-clause-may_one : goal.serve_row-serve_beside-requires-clause-may_one
serve_row-serve_beside-requires-clause-may_one g t c κs within =
    may_one_of c.args.store.now c.args.row.now _ _ c.args.duties.now _ _
    c.in-Some.ensures.cases.0 c.in-Some-split_first_mut.ensures.cases.0 c.requires.may

pub serve_row-serve_first-requires-clause-may : goal.serve_row-serve_first-requires-clause-may
serve_row-serve_first-requires-clause-may g t c κs within =
    may_one_of c.args.store.now c.args.row.now _ _ c.args.duties.now _ _
    c.in-Some.ensures.cases.0 c.in-Some-split_first_mut.ensures.cases.0 c.requires.may

pub serve_row-serve_first-requires-clause-quiet : goal.serve_row-serve_first-requires-clause-quiet
serve_row-serve_first-requires-clause-quiet g t c κs within =
    first_quiet_of c.args.duties.now _ _ c.in-Some-split_first_mut.ensures.cases.0 (sym c.stays.ensures ∙ c.if-stays.false)

pub serve_row-serve_first-requires-clause-may_others : goal.serve_row-serve_first-requires-clause-may_others
serve_row-serve_first-requires-clause-may_others g t c κs within =
    may_rest_of c.args.store.now c.args.row.now _ _ c.args.duties.now _ _
    c.in-Some.ensures.cases.0 c.in-Some-split_first_mut.ensures.cases.0 c.requires.may

pub serve_row-serve_first-requires-clause-once : goal.serve_row-serve_first-requires-clause-once
serve_row-serve_first-requires-clause-once g t c κs within =
    once_rest_of c.args.duties.now _ _ c.in-Some-split_first_mut.ensures.cases.0 c.requires.once

pub serve_row-returns-then-stays-clause-served : goal.serve_row-returns-then-stays-clause-served
serve_row-returns-then-stays-clause-served g t c =
    beside_served_of c.args.store.now c.args.row.now _ _ c.args.duties.now _ _
    c.in-Some.ensures.cases.0 c.in-Some-split_first_mut.ensures.cases.0
    c.serve_beside.new.one c.serve_beside.new.duty c.serve_beside.new.row c.serve_beside.new.duties _ _
    c.serve_beside.ensures.one c.serve_beside.ensures.row

pub serve_row-returns-then-stays-clause-faults : goal.serve_row-returns-then-stays-clause-faults
serve_row-returns-then-stays-clause-faults g t c =
    cut_of_first _ _ _ _ c.serve_beside.ensures.row.none_cut c.serve_beside.ensures.faults

pub serve_row-returns-clause-served : goal.serve_row-returns-clause-served
serve_row-returns-clause-served g t c =
    first_served_of c.args.store.now c.args.row.now _ _ c.args.duties.now _ _
    c.in-Some.ensures.cases.0 c.in-Some-split_first_mut.ensures.cases.0
    c.serve_first.new.one c.serve_first.new.duty c.serve_first.new.others c.serve_first.new.more _ _
    c.serve_first.ensures.one c.serve_first.ensures.others

pub serve_row-returns-clause-faults : goal.serve_row-returns-clause-faults
serve_row-returns-clause-faults g t c =
    cut_of_second _ _ _ _ c.serve_first.ensures.one.not_cut c.serve_first.ensures.faults

pub serve_first-send_away-requires-clause-may : goal.serve_first-send_away-requires-clause-may
serve_first-send_away-requires-clause-may g t c = record { may = c.requires.may; quiet = c.requires.quiet }

pub serve_first-serve_row-requires-2-clause-free : goal.serve_first-serve_row-requires-2-clause-free
serve_first-serve_row-requires-2-clause-free g t c κs within =
    free_behind c.args.at c.args.desks.now c.args.stations.now c.requires.free c.send_away.new.station

pub serve_first-bring_back-requires-after_bounds : goal.serve_first-bring_back-requires-after_bounds
serve_first-bring_back-requires-after_bounds g t c κs within =
    let low : c.args.at < length c.args.desks.now = grind (arith, nat_tests, c.if-at-desks.false) in
    still_there c.args.at c.args.desks.now c.args.stations.now c.requires.free c.send_away.new.station
    c.serve_row-2.new.stations c.serve_row-2.ensures.free low
    (HasAway c.index-desks-at.result) _ c.send_away.ensures.away

pub serve_first-returns-clause-free : goal.serve_first-returns-clause-free
serve_first-returns-clause-free g t c =
    let low : c.args.at < length c.args.desks.now = grind (arith, nat_tests, c.if-at-desks.false) in
    free_again c.args.at c.args.desks.now c.args.stations.now c.requires.free c.send_away.new.station
    c.serve_row-2.new.stations c.serve_row-2.ensures.free low
    c.index-desks-at.result c.bring_back.new.station c.index-desks-at.is c.bring_back.ensures.free

pub serve_first-returns-clause-one : goal.serve_first-returns-clause-one
serve_first-returns-clause-one g t c =
    let low : c.args.at < length c.args.desks.now = grind (arith, nat_tests, c.if-at-desks.false) in
    c.bring_back.ensures.served _ _ _
    (still_there c.args.at c.args.desks.now c.args.stations.now c.requires.free c.send_away.new.station
    c.serve_row-2.new.stations c.serve_row-2.ensures.free low
    (IsAway c.index-desks-at.result c.args.store.now c.args.one.now c.args.duty.now) _ c.send_away.ensures)
