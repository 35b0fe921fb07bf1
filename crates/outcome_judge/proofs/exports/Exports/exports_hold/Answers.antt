use Rattle.std.proofs.Common.{sym}
use Rattle.outcome_judge.proofs.Least.{exports-none, exports-some}
use Rattle.outcome_judge.proofs.exports.Exports.exports_hold.Goals as goal

pub returns-in-None : goal.returns-in-None
returns-in-None c = λ none.
    exports-none c.args.self.now.tables.now c.args.openings.now c.args.replies.now c.requires.output c.args.at c.requires.asked.inside none (sym c.in-None.ensures)

pub returns-in-Some : goal.returns-in-Some
returns-in-Some c = λ none.
    exports-some c.args.self.now.tables.now c.args.openings.now c.args.replies.now c.requires.output c.args.at c.requires.asked.inside none
    c.export_holds.result c.in-Some.opening (sym c.in-Some.ensures) (c.export_holds.ensures none)
