use Rattle.workload_laws.proofs.OneGrammar.{read_is_text}
use Rattle.workload_laws.proofs.what_is_read_is_its_text.Goals as goal

pub returns : goal.returns
returns c = read_is_text
