use Rattle.hall_rule.specs.Meaning.{meaning}
use Rattle.hall_rule.specs.Views.{Enters}
use Rattle.hall_steps.proofs.readers.enter.Given as goal

abbrev pub ghosts-add_as : goal.ghosts-add_as
ghosts-add_as g a = record { tells = λ st m n m'. Enters (meaning g.C.Parts a.board.now.key.core.value a.board.now.key.passes) m.0 a.part n m' }
