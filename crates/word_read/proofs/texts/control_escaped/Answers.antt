use Rattle.std.proofs.Common.{arith}
use Rattle.word_read.proofs.TextPieces.{few_digits}
use Rattle.word_read.proofs.texts.control_escaped.Goals as goal

pub returns-in_default-clause-read : goal.returns-in_default-clause-read
returns-in_default-clause-read c = few_digits c.args.digits.now (omega arith)
