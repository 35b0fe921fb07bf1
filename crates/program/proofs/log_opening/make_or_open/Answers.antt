use Rattle.std.proofs.Common.{◌≡◌, length, ap, arith, inl, subst, sym}
use Rattle.commit_log.specs.Commits.{StandsOf}
use Rattle.isolation_spec.specs.Contents.{History}
use Rattle.program.proofs.Surviving.{is_empty, no_bytes}
use Rattle.program.proofs.log_opening.make_or_open.Goals as goal

pub returns-then-size-ne0-clause-none : goal.returns-then-size-ne0-clause-none
returns-then-size-ne0-clause-none g c = λ place is bytes told. (
  λ empty. let long : c.args.size ≡ length bytes = c.requires bytes told in
      let none : length bytes ≡ 0 = ap length empty in
      omega (arith, long, none),
  c.open.ensures.none place is bytes told,
)

pub returns-in-Ok-clause-begins : goal.returns-in-Ok-clause-begins
returns-in-Ok-clause-begins g c = record {
  made = λ is. c.new.ensures;
  opened = λ bytes some told. absurd (some (no_bytes bytes c.args.size (c.requires bytes told) c.if-size-ne0.false));
}

pub returns-in-Ok-clause-stands : goal.returns-in-Ok-clause-stands
returns-in-Ok-clause-stands g c = λ some.
    let empty : g.D.Disk.told c.args.disk.now ≡ _ = is_empty (g.D.Disk.told c.args.disk.now) some
    (λ bytes told. no_bytes bytes c.args.size (c.requires bytes told) c.if-size-ne0.false) in
    subst (λ (commits : History). StandsOf c.args.tables.now (g.D.Disk.told c.make.new.disk) (g.D.Disk.may_leave c.make.new.disk) commits c.in-Ok.log)
    (sym c.new.ensures) (c.in-Ok.ensures.ok empty c.args.tables.now)

pub returns-in-Ok-clause-reads : goal.returns-in-Ok-clause-reads
returns-in-Ok-clause-reads g c = inl (record {
  empty = λ bytes told. no_bytes bytes c.args.size (c.requires bytes told) c.if-size-ne0.false;
  none = c.new.ensures;
})

pub returns-in-Err-clause-failed : goal.returns-in-Err-clause-failed
returns-in-Err-clause-failed g c = λ is bytes told some.
    absurd (some (no_bytes bytes c.args.size (c.requires bytes told) c.if-size-ne0.false))
