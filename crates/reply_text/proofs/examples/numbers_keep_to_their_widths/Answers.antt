use Rattle.std.proofs.Common.{refl}
use Rattle.reply_text.proofs.examples.numbers_keep_to_their_widths.Goals as goal

pub returns : goal.returns
returns c = refl
