use Rattle.std.proofs.Common.{◌≡◌, ◌-◌, All, Err, ap, arith, drop, length, subst, sym, ◌∙◌}
use Rattle.isolation_spec.specs.Commits.{IsCommitOf}
use Rattle.isolation_spec.specs.Contents.{History}
use Rattle.commit_log.specs.Readings.{HasGroup, IsClosed, ReadsAs, SoFar}
use Rattle.commit_log.specs.declared.reading.LogEnd.{LogEnd}
use Rattle.commit_log.specs.declared.reading.LogEnd.TheVariants.{Broken}
use Rattle.commit_log.proofs.Groups.{begins, breaks, fit, of_some, one_more}
use Rattle.commit_log.proofs.reading.commits_in.Goals as goal

pub loop-group-init : goal.loop-group-init
loop-group-init c =
    let tables = c.args.tables.now in
    let bytes = c.args.bytes.now in
    subst (λ rest. SoFar tables bytes rest c.new-commits.result.items)
    (sym (c.new-reader.ensures ∙ c.split_at.ensures.back))
    (subst (λ items. SoFar tables bytes (drop 8 bytes) items) (sym c.new-commits.ensures.items)
    (begins tables bytes (c.has_magic.ensures.yes c.if-not-has_magic.false)))

pub loop-group-preserved : goal.loop-group-preserved
loop-group-preserved c =
    subst (λ items. SoFar c.args.tables.now c.args.bytes.now c.next_group.new.reader items)
    (sym c.in_ok-append-in-Ok-Some.ensures.items)
    (one_more c.args.tables.now c.args.bytes.now c.loop-group.reader c.loop-group.commits.items
    c.loop-group.invariant c.next_group.new.reader c.in-Ok-Some.group.items
    (of_some c.in-Ok-Some.field-0 c.in-Ok-Some.group (IsClosed c.loop-group.reader)
    (λ group. HasGroup c.args.tables.now c.loop-group.reader c.next_group.new.reader group.items)
    c.in-Ok-Some.field-0-is c.in-Ok-Some.ensures.ok))

pub returns-in-Ok-None-clause-fit : goal.returns-in-Ok-None-clause-fit
returns-in-Ok-None-clause-fit c =
    subst (All (IsCommitOf c.args.tables.now)) (sym c.ended.ensures.commits)
    (fit c.args.tables.now c.args.bytes.now c.loop-group.reader c.loop-group.commits.items
    c.loop-group.invariant)

pub returns-in-Err-Form-clause-fit : goal.returns-in-Err-Form-clause-fit
returns-in-Err-Form-clause-fit c =
    subst (All (IsCommitOf c.args.tables.now)) (sym c.ended-in-Err-Form.ensures.commits)
    (fit c.args.tables.now c.args.bytes.now c.loop-group.reader c.loop-group.commits.items
    c.loop-group.invariant)

pub returns-in-Err-Form-clause-ok : goal.returns-in-Err-Form-clause-ok
returns-in-Err-Form-clause-ok c =
    let tables = c.args.tables.now in
    let bytes = c.args.bytes.now in
    let form = c.in-Err-Form.ensures.form (ap (λ fault. Err fault) c.in-Err-Form.field-0-is) in
    let read = breaks tables bytes c.loop-group.reader c.loop-group.commits.items
    c.loop-group.invariant form in
    let end_is : c.ended-in-Err-Form.result.end ≡ Broken (length bytes - length c.loop-group.reader) =
    c.ended-in-Err-Form.ensures.end ∙ ap (λ place. Broken place) (omega (arith, c.len.ensures)) in
    subst (λ (commits : History). ReadsAs tables bytes commits c.ended-in-Err-Form.result.end)
    (sym c.ended-in-Err-Form.ensures.commits)
    (subst (λ (end : LogEnd). ReadsAs tables bytes c.loop-group.commits.items end) (sym end_is)
    read)
