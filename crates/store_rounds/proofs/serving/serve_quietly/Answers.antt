use Rattle.store_rounds.specs.Duties.{is_cut}
use Rattle.store_rounds.proofs.Apart.{quiet_one}
use Rattle.store_rounds.proofs.Parts.{never_rose}
use Rattle.store_rounds.proofs.serving.serve_quietly.Goals as goal

pub returns : goal.returns
returns g c = record {
  not_cut = never_rose (is_cut c.serve.new.duty) c.serve.ensures.faults;
  served = λ exported.
      quiet_one c.args.store.now c.args.session.now c.serve.new.session c.args.duty.now c.serve.new.duty _ _ exported
      c.requires.quiet c.serve.ensures.served;
}
