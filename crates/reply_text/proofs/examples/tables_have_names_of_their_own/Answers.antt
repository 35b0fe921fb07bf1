use Rattle.std.proofs.Common.{refl}
use Rattle.reply_text.proofs.examples.tables_have_names_of_their_own.Goals as goal

pub returns : goal.returns
returns c = refl
