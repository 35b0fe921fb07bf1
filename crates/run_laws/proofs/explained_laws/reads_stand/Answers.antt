use Rattle.run_laws.proofs.Explained.Rereading.{reads_stand}
use Rattle.run_laws.proofs.explained_laws.reads_stand.Goals as goal

pub returns : goal.returns
returns c = reads_stand
