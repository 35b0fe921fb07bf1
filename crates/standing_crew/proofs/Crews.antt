-- The helpers of desks, and those of the desks behind the first.
use Rattle.std.proofs.Common.{◌≡◌, ℕ, suc, List, ◌∷◌, length, subst, arith}
use Rattle.standing_crew.specs.Desk.{AreHelpers, IsHelper}
use Rattle.standing_crew.specs.declared.desk.Desk.{Desk}
use Rattle.standing_crew.specs.declared.desk.Helper.{Helper}

module _ {P W : Type 0} (desks more : List (Desk P W)) (desk : Desk P W) (helpers others : List (Helper P)) (helper : Helper P)
    (desks_are : desks ≡ desk ∷ more) (helpers_are : helpers ≡ helper ∷ others) (are : AreHelpers desks helpers) where
  both_are : AreHelpers (desk ∷ more) (helper ∷ others)
  both_are = subst (λ (hs : List (Helper P)). AreHelpers (desk ∷ more) hs) helpers_are
      (subst (λ (ds : List (Desk P W)). AreHelpers ds helpers) desks_are are)

  pub first_helper : IsHelper desk helper
  first_helper = both_are.each 0 desk helper (omega arith)

  pub other_helpers : AreHelpers more others
  other_helpers = record {
    size = let size = both_are.size in omega (arith, size);
    each = λ k d h within. both_are.each (suc k) d h (omega (arith, within));
  }
