use Rattle.core_laws.proofs.Slots.Others.{others_write, others_commit, others_roll_back, a_pruning, a_move}
use Rattle.core_laws.proofs.slot_laws.others_change_nothing_that_is_seen.Goals as goal

pub returns-clause-write : goal.returns-clause-write
returns-clause-write c = others_write

pub returns-clause-commit : goal.returns-clause-commit
returns-clause-commit c = others_commit

pub returns-clause-roll_back : goal.returns-clause-roll_back
returns-clause-roll_back c = others_roll_back

pub returns-clause-pruning : goal.returns-clause-pruning
returns-clause-pruning c = a_pruning

pub returns-clause-moves : goal.returns-clause-moves
returns-clause-moves c = a_move
