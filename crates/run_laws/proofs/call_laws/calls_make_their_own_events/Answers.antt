use Rattle.run_laws.proofs.Calls.Asking.{events_are_the_sessions, others_ask_nothing}
use Rattle.run_laws.proofs.call_laws.calls_make_their_own_events.Goals as goal

pub returns-clause-asking : goal.returns-clause-asking
returns-clause-asking c = others_ask_nothing

pub returns-clause-standing : goal.returns-clause-standing
returns-clause-standing c = events_are_the_sessions
