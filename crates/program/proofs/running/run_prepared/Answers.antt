use Rattle.std.proofs.Common.{ℕ, Bool, List, Option, None, Bor, ap, ◌∙◌, inl, option_map, refl, subst, sym, is_some}
use Rattle.store_rounds.specs.Logging.{LogsRounds, OfLogged}
use Rattle.store_rounds.specs.Workloads.{WentBy}
use Rattle.program.specs.Outcome.{outside, started_if}
use Rattle.program.specs.Played.{PlayEnds}
use Rattle.program.proofs.Played.{ends_with_path, ends_without_path, fails_log, too_long}
use Rattle.program.proofs.Surviving.{stands_through}
use Rattle.program.proofs.running.run_prepared.Goals as goal

pub returns-in_default-clause-ends : goal.returns-in_default-clause-ends
returns-in_default-clause-ends g c = λ left_old left_new.
    let logs : OfLogged = LogsRounds g.D.Disk.told g.D.Disk.moment g.D.Disk.left_since g.D.Disk.may_leave c.args.disk.now c.play.new.disk c.args.log c.args.run.script.value in
    ends_without_path (option_map (λ p. p.now) c.args.path) (is_some c.args.log) logs c.args.run.script.value c.play.result left_old left_new
    (g.O.Sink.written c.args.out.now) (g.O.Sink.written c.play.new.out) (g.X.Sink.written c.args.export.now) None None (g.X.Sink.started c.args.export.now)
    (ap (option_map (λ (p : Bor (List ℕ)). p.now)) c.in_default.is) c.play.ensures.export_faults
    (fails_log c.args.log c.args.disk.now c.play.new.disk c.play.result c.play.ensures.alone)
    (too_long c.args.log c.args.disk.now c.play.new.disk c.play.result c.play.ensures.alone)
    c.play.ensures.ends

pub returns-in-Err-clause-ends : goal.returns-in-Err-clause-ends
returns-in-Err-clause-ends g c = λ left_old left_new. record {
  named = ap (λ (path : Option (Bor (List ℕ))). is_some (option_map (λ p. p.now) path)) c.in-Some.is;
  asked = sym c.requires.exports ∙ c.in-Err.ensures.asked;
  failed = inl (
    record { printed = refl; outlet = record { exported = c.start_export.ensures.written; started = c.in-Err.ensures.left } },
    stands_through g.D.Disk.told g.D.Disk.may_leave g.D.Disk.moment g.D.Disk.left_since g.met.D.Disk.only_now c.args.disk.now c.args.log c.args.run.script.value,
  );
}

pub returns-clause-ends : goal.returns-clause-ends
returns-clause-ends g c = λ left_old left_new.
    let logs : OfLogged = LogsRounds g.D.Disk.told g.D.Disk.moment g.D.Disk.left_since g.D.Disk.may_leave c.args.disk.now c.play-2.new.disk c.args.log c.args.run.script.value in
    ends_with_path (option_map (λ p. p.now) c.args.path) c.in-Some.path.now (is_some c.args.log) logs c.args.run.script.value c.play-2.result
    (outside left_old (g.O.Sink.written c.args.out.now) (g.X.Sink.written c.args.export.now) (g.X.Sink.started c.args.export.now))
    (outside left_new (g.O.Sink.written c.play-2.new.out) (g.X.Sink.written c.play-2.new.export) (g.X.Sink.started c.play-2.new.export))
    (ap (option_map (λ (p : Bor (List ℕ)). p.now)) c.in-Some.is)
    (c.play-2.ensures.started ∙ c.in_default-start_export.ensures.started
    ∙ ap (λ (starts : Bool). started_if starts c.in-Some.path.now (g.X.Sink.started c.args.export.now)) c.requires.exports)
    (fails_log c.args.log c.args.disk.now c.play-2.new.disk c.play-2.result c.play-2.ensures.alone)
    (too_long c.args.log c.args.disk.now c.play-2.new.disk c.play-2.result c.play-2.ensures.alone)
    (subst (λ (written : Option (List ℕ)). PlayEnds (WentBy c.args.run.script.value written (g.X.Sink.written c.play-2.new.export) logs) c.args.run.script.value c.play-2.result
    (g.O.Sink.written c.args.out.now) (g.O.Sink.written c.play-2.new.out)) c.start_export.ensures.written c.play-2.ensures.ends)
