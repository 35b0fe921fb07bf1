use Rattle.std.proofs.Common.{◌+◌, ◌<◌, ◌^◌, IsTrue, List, Err, sym, ap, subst, arith, rules}
use Rattle.std.specs.Prelude.{Option}
use Rattle.cell_model.specs.declared.cell.Cell.{Cell}
use Rattle.isolation_spec.specs.declared.place.Place.{Place}
use Rattle.log_records.specs.Front.{GoesOn}
use Rattle.log_records.proofs.Exits.{form_met}
use Rattle.log_records.proofs.Sets.{CommitSoFar, commit_falls, commit_more, commit_refused}
use Rattle.log_records.proofs.reading_commits.read_commit.Goals as goal

pub returns-in_err-write-clause-form : goal.returns-in_err-write-clause-form
returns-in_err-write-clause-form c = λ form.
    let met = form_met c.from_residual-in_err-write.result c.in_err-write.field-0.0 c.from_residual-in_err-write.ensures.1 form in
    let few : c.in-Some.count < 2 ^ 32 = search rules in
    commit_refused c.args.tables.now c.in-Some.count c.loop-read._read c.loop-read.writes.items c.args.reader.now c.loop-read.reader c.requires few c.loop-read-test.true
    c.loop-read.invariant (c.in_err-write.ensures.form (ap Err met))

pub returns-then-not-goes_on-clause-form : goal.returns-then-not-goes_on-clause-form
returns-then-not-goes_on-clause-form c = λ _.
    let few : c.in-Some.count < 2 ^ 32 = search rules in
    commit_falls c.args.tables.now c.in-Some.count c.loop-read._read c.loop-read.writes.items c.in_ok-write.write c.args.reader.now c.loop-read.reader c.read_write.new.reader
    c.requires few c.loop-read-test.true c.loop-read.invariant c.in_ok-write.ensures.write
    (λ above.
    let goes = c.goes_on.ensures.1 (subst (λ (l : List (Place × Option (List Cell))). GoesOn l c.in_ok-write.write.0) (sym c.deref.ensures.value) above) in
    let not = c.if-not-goes_on.true in
    absurd (grind arith))

pub loop-read-preserved : goal.loop-read-preserved
loop-read-preserved c =
    let goes : IsTrue c.goes_on.result = (let is = c.if-not-goes_on.false in grind arith) in
    let above = subst (λ (l : List (Place × Option (List Cell))). GoesOn l c.in_ok-write.write.0) c.deref.ensures.value (c.goes_on.ensures.0 goes) in
    subst (λ (l : List (Place × Option (List Cell))). CommitSoFar c.args.tables.now c.in-Some.count (c.loop-read._read + 1) l c.args.reader.now c.read_write.new.reader)
    (sym c.in_ok-push.ensures.items)
    (commit_more c.args.tables.now c.in-Some.count c.loop-read._read c.loop-read.writes.items c.in_ok-write.write c.args.reader.now c.loop-read.reader c.read_write.new.reader
    c.loop-read.invariant c.in_ok-write.ensures.write above)
