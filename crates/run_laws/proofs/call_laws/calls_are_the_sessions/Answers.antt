use Rattle.run_laws.proofs.Calls.Along.{calls_are_the_sessions}
use Rattle.run_laws.proofs.call_laws.calls_are_the_sessions.Goals as goal

pub returns : goal.returns
returns c = calls_are_the_sessions
