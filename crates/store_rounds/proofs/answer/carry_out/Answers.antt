use Rattle.std.proofs.Common.{refl}
use Rattle.store_rounds.proofs.Sends.{no_export, other_answered}
use Rattle.store_rounds.proofs.answer.carry_out.Goals as goal

pub returns-in_default : goal.returns-in_default
returns-in_default g c =
    record {
      answered = other_answered c.args.store.now c.args.session.now c.answer.new.session c.args.command c.answer.result (g.X.Sink.written c.args.outlet.now)
          c.answer.ensures.session c.answer.ensures.same c.answer.ensures.answers c.answer.ensures.counts c.answer.ensures.kept_up (no_export c.args.command c.in_default.not-Export);
      asked = tt;
      failed = tt;
      kept = refl;
      started = refl;
    }
