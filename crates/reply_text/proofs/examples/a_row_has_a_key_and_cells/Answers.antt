use Rattle.std.proofs.Common.{refl}
use Rattle.reply_text.proofs.examples.a_row_has_a_key_and_cells.Goals as goal

pub returns : goal.returns
returns c = refl
