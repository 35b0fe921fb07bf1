use Rattle.core_parts.proofs.Heads.{gains_go_on, knowing_rests, swept_knows}
use Rattle.core_parts.proofs.part_laws.heads_learn_of_empty_blocks.Goals as goal

pub returns-clause-gains : goal.returns-clause-gains
returns-clause-gains c = gains_go_on

pub returns-clause-rests : goal.returns-clause-rests
returns-clause-rests c = knowing_rests

pub returns-clause-swept : goal.returns-clause-swept
returns-clause-swept c = swept_knows
