use Rattle.std.proofs.Common.{ℕ, ◌<◌, ◌^◌, length, subst, arith}
use Rattle.std.specs.Global.{Vec as GlobalVec}
use Rattle.std.proofs.lemmas.Bool.Decides.{nat_tests}
use Rattle.isolation_spec.specs.Contents.{History}
use Rattle.log_spec.specs.LogText.{payload_text}
use Rattle.store_rounds.specs.Adding.{AddsGroup}
use Rattle.store_rounds.proofs.AddedGroups.{not_added}
use Rattle.store_rounds.proofs.HandedOver.{none_taken}
use Rattle.store_rounds.proofs.Logged.{failed_as}
use Rattle.store_rounds.proofs.ending.end_round.Goals as goal

pub returns-in_default-clause-row : goal.returns-in_default-clause-row
returns-in_default-clause-row g c = none_taken c.args.row.now

pub returns-clause-log : goal.returns-clause-log
returns-clause-log g c =
    let short : length (payload_text c.as_slice.result.now) < 2 ^ 32 = grind (arith, nat_tests, c.fits.ensures, c.if-not-fits.false) in
    not_added g.D.Disk.told g.D.Disk.moment g.D.Disk.left_since g.D.Disk.may_leave (GlobalVec ℕ) (Unit {0}) c.args.sessions c.args.row.now c.take_group.new.row c.args.log.now
    c.in-Some.log c.add_group.new.log _ c.args.disk.now c.add_group.new.disk c.in-Ok.group.items c.in-Err-add_group.fault
    c.in-Some.is c.in-Ok.ensures.group.sets
    (subst (λ (group : History). length (payload_text group) < 2 ^ 32) c.as_slice.ensures.value short)
    (subst (λ (group : History). AddsGroup g.D.Disk.told g.D.Disk.moment g.D.Disk.left_since g.D.Disk.may_leave group c.in-Some.log c.add_group.new.log
    c.args.disk.now c.add_group.new.disk (failed_as (Unit {0}) c.in-Err-add_group.fault)) c.as_slice-2.ensures.value c.in-Err-add_group.ensures.adds)
