use Rattle.store_rounds.specs.Keeping.{most_made}
use Rattle.store_rounds.proofs.Lending.{still_free}
use Rattle.store_rounds.proofs.Tended.{keeps_one}
use Rattle.store_rounds.proofs.worker_turning.step.Goals as goal

pub returns : goal.returns
returns g c =
    let kept = c.keep_up-said.ensures in
    let free = still_free c.args.store.now c.args.session.now c.keep_up-said.new.session c.args.command c.keep_up-said.result c.requires.session kept.session kept.answers in
    keeps_one c.args.store.now c.args.session.now c.keep_up-said.new.session c.args.lines.now c.tell.new.self c.args.command c.keep_up-said.result (most_made c.args.command)
    c.requires.upkeep free kept.same kept.answers kept.counts kept.few c.tell.ensures
