use Rattle.std.proofs.Common.{◌≡◌, []}
use Rattle.hall_rule.specs.HallInvariant.{worn_by}
use Rattle.hall_rule.specs.Heads.{head_in}
use Rattle.hall_steps.proofs.words.see_head.Given as goal

abbrev pub ghosts-look_as : goal.ghosts-look_as
ghosts-look_as g a = record { tells = λ st m n m'. (m'.0 ≡ m.0) × (m'.1 ≡ []) × (head_in n ≡ worn_by m.0 a.part) }
