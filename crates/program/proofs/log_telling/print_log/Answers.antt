use Rattle.std.proofs.Common.{◌≡◌, ◌∙◌, ◌++◌, ℕ, List, Option, ap}
use Rattle.isolation_spec.specs.Contents.{History}
use Rattle.log_text.specs.Lines.{log_text}
use Rattle.program.specs.Outcome.{broken_at, of_disk}
use Rattle.program.proofs.LogTold.{told_broken}
use Rattle.program.proofs.log_telling.print_log.Goals as goal

pub returns-clause-ends : goal.returns-clause-ends
returns-clause-ends g c =
    let tables = c.args.tables.now in
    let end = c.in-Ok.reading.end in
    let text_is : c.as_slice-2.result.now ≡ log_text tables c.in-Ok.reading.commits (broken_at end) =
    c.as_slice-2.ensures.value ∙ c.in_default.ensures
    ∙ ap (λ (l : List ℕ). l ++ log_text tables c.as_slice.result.now c.broken_at-broken.result)
    c.new-text.ensures.items
    ∙ ap (λ (commits : History). log_text tables commits c.broken_at-broken.result)
    c.as_slice.ensures
    ∙ ap (λ (broken : Option ℕ). log_text tables c.in-Ok.reading.commits broken)
    c.broken_at-broken.ensures in
    told_broken tables c.args.path.now
    (of_disk g.D.Disk.told g.D.Disk.started g.D.Disk.may_leave g.D.Disk.moment g.D.Disk.left_since c.args.disk.now c.read_at.new.disk)
    c.in-Ok.reading.commits end c.in-Ok.ensures.started c.in-Ok.ensures.fit c.in-Ok.ensures.ok
    c.as_slice-2.result.now text_is (g.O.Sink.written c.args.out.now)
    (g.O.Sink.written c.write_all.new.sink) c.in-Broken.place c.in-Broken.is
    c.in_default-write_all.ensures.bytes
