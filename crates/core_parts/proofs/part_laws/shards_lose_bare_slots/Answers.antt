use Rattle.core_parts.proofs.Shards.{drops_go_on, sweep_rests, sweeps_agree}
use Rattle.core_parts.proofs.part_laws.shards_lose_bare_slots.Goals as goal

pub returns-clause-drops : goal.returns-clause-drops
returns-clause-drops c = drops_go_on

pub returns-clause-agree : goal.returns-clause-agree
returns-clause-agree c = sweeps_agree

pub returns-clause-rests : goal.returns-clause-rests
returns-clause-rests c = sweep_rests
