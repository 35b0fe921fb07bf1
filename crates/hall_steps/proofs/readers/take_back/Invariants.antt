use Rattle.std.proofs.Common.{◌≡◌, []}
use Rattle.hall_rule.specs.Views.{left}
use Rattle.hall_steps.proofs.readers.take_back.Given as goal

abbrev pub ghosts-sub_as : goal.ghosts-sub_as
ghosts-sub_as g a = record { tells = λ st m n m'. (m'.0 ≡ left m.0) × (m'.1 ≡ []) }
