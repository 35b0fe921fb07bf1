use Rattle.std.proofs.Common.{rules}
use Rattle.reply_text.proofs.WideNumbers.{sum_spelled}
use Rattle.reply_text.proofs.sums.sum_in.Goals as goal

pub returns-in-Some : goal.returns-in-Some
returns-in-Some c = search (rules, sum_spelled)
