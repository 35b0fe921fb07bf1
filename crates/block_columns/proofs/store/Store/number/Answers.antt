use Rattle.block_columns.proofs.Kept.{no-number-stored}
use Rattle.block_columns.proofs.store.Store.number.Goals as goal

pub returns-in-Truths : goal.returns-in-Truths
returns-in-Truths c = no-number-stored c.args.self.now c.args.at c.in-Truths.is

pub returns-in-Truths-2 : goal.returns-in-Truths-2
returns-in-Truths-2 c = no-number-stored c.args.self.now c.args.at c.in-Truths.is

pub returns-in-Truths-3 : goal.returns-in-Truths-3
returns-in-Truths-3 c = no-number-stored c.args.self.now c.args.at c.in-Truths.is
