use Rattle.std.proofs.Common.{◌≡◌, ◌+◌, ◌*◌, ◌^◌, ◌⊎◌, []}
use Rattle.hall_rule.specs.Views.{left}
use Rattle.hall_rule.specs.Heads.{head_in}
use Rattle.hall_steps.proofs.readers.leave_claim.Given as goal

abbrev pub ghosts-sub_as : goal.ghosts-sub_as
ghosts-sub_as g a = record { tells = λ st m n m'. (m'.0 ≡ left m.0) × (m'.1 ≡ []) × ((head_in n ≡ m.0.claimed) ⊎ (head_in n + 3 * 2 ^ 30 ≡ m.0.claimed)) }
