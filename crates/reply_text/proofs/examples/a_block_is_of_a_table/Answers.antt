use Rattle.std.proofs.Common.{refl}
use Rattle.reply_text.proofs.examples.a_block_is_of_a_table.Goals as goal

pub returns : goal.returns
returns c = refl
