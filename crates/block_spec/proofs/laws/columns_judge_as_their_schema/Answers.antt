use Rattle.block_spec.proofs.Unnamed.{fault-unnamed}
use Rattle.block_spec.proofs.laws.columns_judge_as_their_schema.Goals as goal

pub returns : goal.returns
returns c = fault-unnamed
