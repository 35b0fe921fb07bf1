use Rattle.std.proofs.Common.{◌<◌, ◌^◌, Err, ap, rules}
use Rattle.log_records.proofs.Exits.{form_met}
use Rattle.log_records.proofs.Sets.{group_refused}
use Rattle.log_records.proofs.reading_commits.read_commits.Goals as goal

pub returns-in_err-writes-clause-form : goal.returns-in_err-writes-clause-form
returns-in_err-writes-clause-form c = λ form.
    let met = form_met c.from_residual-in_err-writes.result c.in_err-writes.field-0.0 c.from_residual-in_err-writes.ensures.1 form in
    let few : c.in-Some.count < 2 ^ 32 = search rules in
    group_refused c.args.tables.now c.in-Some.count c.loop-read._read c.loop-read.commits.items c.args.reader.now c.loop-read.reader c.requires few c.loop-read-test.true
    c.loop-read.invariant (c.in_err-writes.ensures.form (ap Err met))
