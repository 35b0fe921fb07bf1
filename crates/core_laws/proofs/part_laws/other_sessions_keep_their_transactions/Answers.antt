use Rattle.core_laws.proofs.Parts.Leaving.{leaves}
use Rattle.core_laws.proofs.part_laws.other_sessions_keep_their_transactions.Goals as goal

pub returns : goal.returns
returns c = leaves
