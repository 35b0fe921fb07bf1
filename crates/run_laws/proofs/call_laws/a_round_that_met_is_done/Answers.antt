use Rattle.run_laws.proofs.Calls.Meeting.{met_rounds_are_done}
use Rattle.run_laws.proofs.call_laws.a_round_that_met_is_done.Goals as goal

pub returns : goal.returns
returns c = met_rounds_are_done
