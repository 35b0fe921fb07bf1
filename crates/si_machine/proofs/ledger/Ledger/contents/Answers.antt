use Rattle.std.proofs.Common.{◌∙◌}
use Rattle.std.proofs.lemmas.Result.{IfOk-weaker}
use Rattle.si_machine.proofs.Ranges.{whole}
use Rattle.si_machine.proofs.ledger.Ledger.contents.Goals as goal

pub returns : goal.returns
returns c = IfOk-weaker c.between.result _ _ (λ rows h none. h none ∙ whole c.args.self.now c.args.at none c.args.table c.requires.kept c.requires.there) c.between.ensures
