use Rattle.std.proofs.Common.{◌≡◌, ◌%◌, ◌^◌, []}
use Rattle.hall_rule.specs.Views.{turned}
use Rattle.hall_rule.specs.HallInvariant.{worn_by}
use Rattle.hall_rule.specs.Heads.{head_in}
use Rattle.hall_steps.proofs.words.clear.Given as goal

abbrev pub ghosts-clear_as : goal.ghosts-clear_as
ghosts-clear_as g a = record { tells = λ st m n m'. (m'.0 ≡ turned m.0 a.part (worn_by m.0 a.part % 2 ^ 30)) × (m'.1 ≡ []) × (head_in n ≡ worn_by m.0 a.part) }
