use Rattle.core_laws.proofs.Parts.Standing.{depends, rests}
use Rattle.core_laws.proofs.part_laws.events_stand_by_transactions_and_facts.Goals as goal

pub returns-clause-rests : goal.returns-clause-rests
returns-clause-rests c = rests

pub returns-clause-depends : goal.returns-clause-depends
returns-clause-depends c = depends
