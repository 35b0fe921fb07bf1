use Rattle.std.proofs.Common.{refl}
use Rattle.reply_text.proofs.examples.receivers_keep_to_their_width.Goals as goal

pub returns : goal.returns
returns c = refl
