use Rattle.std.proofs.Common.{◌∙◌}
use Rattle.payload_log.specs.Logs.{IsBeforeOrAfter}
use Rattle.commit_log.specs.Commits.{GivesOneOf}
use Rattle.commit_log.proofs.Appends.{leaves_also, one_of, payloads_of, stands_by, stands_more}
use Rattle.commit_log.proofs.log.Log.append.Goals as goal

pub returns-in-Ok-append-clause-any_moment : goal.returns-in-Ok-append-clause-any_moment
returns-in-Ok-append-clause-any_moment g c tables before stands is_group =
    let told = g.D.Disk.told c.args.disk.now in
    let may_leave = g.D.Disk.may_leave c.args.disk.now in
    let payloads = payloads_of tables told may_leave before c.args.self.now stands in
    let payload = c.deref.result.now in
    let is = c.deref.ensures.value ∙ c.in-Ok.ensures in
    leaves_also g.D.Disk.moment g.D.Disk.left_since c.args.disk.now c.append.new.disk
    (IsBeforeOrAfter payloads payload) (GivesOneOf tables before c.args.commits.now)
    (one_of tables told may_leave before c.args.self.now stands c.args.commits.now payload is_group
    is)
    (c.append.ensures.any_moment payloads
    (stands_by tables told may_leave before c.args.self.now stands))

pub returns-clause-any_moment : goal.returns-clause-any_moment
returns-clause-any_moment g c tables before stands is_group =
    let told = g.D.Disk.told c.args.disk.now in
    let may_leave = g.D.Disk.may_leave c.args.disk.now in
    let payloads = payloads_of tables told may_leave before c.args.self.now stands in
    let payload = c.deref.result.now in
    let is = c.deref.ensures.value ∙ c.in-Ok.ensures in
    leaves_also g.D.Disk.moment g.D.Disk.left_since c.args.disk.now c.append.new.disk
    (IsBeforeOrAfter payloads payload) (GivesOneOf tables before c.args.commits.now)
    (one_of tables told may_leave before c.args.self.now stands c.args.commits.now payload is_group
    is)
    (c.append.ensures.any_moment payloads
    (stands_by tables told may_leave before c.args.self.now stands))

pub returns-in-Ok-append-clause-ok : goal.returns-in-Ok-append-clause-ok
returns-in-Ok-append-clause-ok g c tables before stands is_group =
    let told = g.D.Disk.told c.args.disk.now in
    let may_leave = g.D.Disk.may_leave c.args.disk.now in
    let payload = c.deref.result.now in
    let is = c.deref.ensures.value ∙ c.in-Ok.ensures in
    stands_more tables told may_leave before c.args.self.now stands c.args.commits.now payload
    is_group is
    (g.D.Disk.told c.append.new.disk) (g.D.Disk.may_leave c.append.new.disk)
    (record { payloads = c.append.new.self })
    (c.in-Ok-append.ensures.ok (payloads_of tables told may_leave before c.args.self.now stands)
    (stands_by tables told may_leave before c.args.self.now stands))
