use Rattle.run_laws.proofs.Calls.Dues.{calls_answer}
use Rattle.run_laws.proofs.call_laws.calls_answer_dues.Goals as goal

pub returns : goal.returns
returns c = calls_answer
