use Rattle.run_laws.proofs.Explained.Walk.{runs_give_timelines}
use Rattle.run_laws.proofs.explained_laws.runs_give_timelines.Goals as goal

pub returns : goal.returns
returns c = runs_give_timelines
