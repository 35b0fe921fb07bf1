use Rattle.workload_laws.proofs.OneGrammar.{text_is_read}
use Rattle.workload_laws.proofs.a_text_is_read_as_its_script.Goals as goal

pub returns : goal.returns
returns c = text_is_read
