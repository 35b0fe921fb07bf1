use Rattle.std.proofs.Common.{ℕ, ◌<◌, ◌^◌, List, length, option_map, subst, sym, arith}
use Rattle.program.specs.Outcome.{IsWorkload, Outside, of_disk, outside}
use Rattle.program.proofs.Disks.{is_left}
use Rattle.program.proofs.Scripts.{not_read_fault, refusal_ends, run_ends, text_is}
use Rattle.program.proofs.running.run.Goals as goal

pub run_script-requires-clause-short : goal.run_script-requires-clause-short
run_script-requires-clause-short g c κs within =
    let read = subst (λ (bytes : List ℕ). IsWorkload bytes c.in-Ok-parsed.script) c.deref.ensures.value c.in-Ok-parsed.ensures.read in
    subst (λ (text : List ℕ). length text < 2 ^ 32) (sym (text_is c.in-Ok.bytes.items c.in-Ok-parsed.script read))
    (omega (arith, c.in-Ok.ensures.short, c.in-Ok.bytes.ok.0))

pub returns-in-Ok-parsed-clause-ends : goal.returns-in-Ok-parsed-clause-ends
returns-in-Ok-parsed-clause-ends g c =
    run_ends (option_map (λ p. p.now) c.args.path) (option_map (λ p. p.now) c.args.log_path)
    (of_disk g.D.Disk.told g.D.Disk.started g.D.Disk.may_leave g.D.Disk.moment g.D.Disk.left_since c.args.disk.now c.run_script.new.disk)
    c.run_script.result c.in-Ok-parsed.script _ _
    (record {
      bytes = c.in-Ok.bytes.items;
      input = record { read = c.in-Ok.ensures.bytes; ended = c.in-Ok.ensures.end; short = omega (arith, c.in-Ok.ensures.short, c.in-Ok.bytes.ok.0) };
      workload = subst (λ (bytes : List ℕ). IsWorkload bytes c.in-Ok-parsed.script) c.deref.ensures.value c.in-Ok-parsed.ensures.read;
    })
    (c.run_script.ensures.ends (g.S.Source.left c.args.source.now) (g.S.Source.left c.read_to_end.new.source))

pub returns-in-Ok-parsed-clause-read_faults : goal.returns-in-Ok-parsed-clause-read_faults
returns-in-Ok-parsed-clause-read_faults g c =
    let before : Outside = outside (g.S.Source.left c.args.source.now) (g.O.Sink.written c.args.out.now) (g.X.Sink.written c.args.export.now) (g.X.Sink.started c.args.export.now) in
    let now : Outside = outside (g.S.Source.left c.read_to_end.new.source) (g.O.Sink.written c.run_script.new.out) (g.X.Sink.written c.run_script.new.export) (g.X.Sink.started c.run_script.new.export) in
    record {
      told = λ is. absurd (not_read_fault (option_map (λ p. p.now) c.args.path) (option_map (λ p. p.now) c.args.log_path)
          (of_disk g.D.Disk.told g.D.Disk.started g.D.Disk.may_leave g.D.Disk.moment g.D.Disk.left_since c.args.disk.now c.run_script.new.disk)
          c.run_script.result c.in-Ok-parsed.script before now
          (c.run_script.ensures.ends (g.S.Source.left c.args.source.now) (g.S.Source.left c.read_to_end.new.source)) is);
      kept = λ other. c.in-Ok.ensures.cause;
    }

pub returns-in-Err-clause-ends : goal.returns-in-Err-clause-ends
returns-in-Err-clause-ends g c =
    refusal_ends (option_map (λ p. p.now) c.args.path) (option_map (λ p. p.now) c.args.log_path)
    (of_disk g.D.Disk.told g.D.Disk.started g.D.Disk.may_leave g.D.Disk.moment g.D.Disk.left_since c.args.disk.now c.args.disk.now)
    (is_left g.D.Disk.told g.D.Disk.may_leave g.D.Disk.moment g.D.Disk.left_since g.met.D.Disk.only_now g.D.Disk.started c.args.disk.now)
    c.refuse.result c.in-Err.fault c.in-Ok.bytes.items _ _ _ _ _ _
    c.in-Ok.ensures.bytes c.in-Ok.ensures.end (omega (arith, c.in-Ok.ensures.short, c.in-Ok.bytes.ok.0))
    (rw c.deref.ensures.value at c.in-Err.ensures.read) c.refuse.ensures.ends
