use Rattle.std.proofs.Common.{◌≡◌, ◌-◌, ap, arith, length, subst}
use mathlib.Core.Logic.{inl, inr}
use Rattle.core_parts.proofs.Spots.{AreBefore, before_more, first_behind, first_within, number_is}
use Rattle.core_parts.proofs.written.PartKind.first_spot.Goals.{else-count-gt0-via-then-count-gt0+else-from-number, else-count-gt0-via-else-count-gt0}
use Rattle.core_parts.proofs.written.PartKind.first_spot.Goals as goal

pub returns-then-from-number : goal.returns-then-from-number
returns-then-from-number c =
    let sh = c.args.shape.now in
    let kind = c.args.self in
    let t = c.loop-table.table in
    let count = c.count-count.ensures in
    let last = number_is sh kind t (c.count-count.result - 1) c.number.result c.number.ensures in
    let first = number_is sh kind t 0 c.number-then-from-number.result c.number-then-from-number.ensures in
    let l = last.2 in
    let f = first.2 in
    let some = c.if-count-gt0.true in
    let high = c.if-from-number.true in
    let below = c.saturating_sub.ensures in
    let is = c.spot.ensures in
    first_within kind sh c.args.from t c.spot.result last.0 (omega (arith, count, some)) (omega (arith, count)) (omega (arith, count, l, high)) c.loop-table.invariant (omega (arith, is, below, f))

pub loop-table-preserved : goal.loop-table-preserved
loop-table-preserved c =
    let sh = c.args.shape.now in
    let kind = c.args.self in
    let t = c.loop-table.table in
    let count = c.count-count.ensures in
    before_more kind sh c.args.from t c.loop-table.invariant (elim c.else-count-gt0.branch [
      | else-count-gt0-via-then-count-gt0+else-from-number w ↦ (let l = (number_is sh kind t (c.count-count.result - 1) w.number.result w.number.ensures).2 in let f = w.if-from-number.false in inr (omega (arith, count, l, f)))
      | else-count-gt0-via-else-count-gt0 w ↦ (let f = w.if-count-gt0.false in inl (omega (arith, count, f)))
    ])

pub returns : goal.returns
returns c =
    let sh = c.args.shape.now in
    let l = ap length c.tables.ensures.tables in
    let f = c.loop-table-test.false in
    let all : c.loop-table.table ≡ length sh.tables = omega (arith, l, f) in
    let is = c.spot-2.ensures in
    first_behind c.args.self sh c.args.from c.spot-2.result (subst (AreBefore c.args.self sh c.args.from) all c.loop-table.invariant) (omega (arith, is, l))
