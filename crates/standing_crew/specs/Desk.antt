-- What lies on a desk, and what its client and its helper know of it.
use Rattle.std.specs.Prelude.{◌≡◌, ◌⊎◌, ℕ, ◌<◌, ◌≤◌, List, [], ◌∷◌, Option, None, Some, get_or, length}
use Rattle.crossbeam_queue.specs.Passes.{IsPassOf, view}
use Rattle.standing_crew.specs.declared.desk.Client.{Client}
use Rattle.standing_crew.specs.declared.desk.Desk.{Desk}
use Rattle.standing_crew.specs.declared.desk.Helper.{Helper}
use Rattle.standing_crew.specs.Rule.{asks, serves}

-- ---- the client, the helper

module _ {P W : Type 0} where
  -- The client of this desk has handed this over, or nothing, and has not got it back.
  pub record Asks (desk : Desk P W) (asked : Option P) (client : Client P) : Type 0 where
    pub of_desk : IsPassOf desk.queue client.pass
    pub knows : view client.pass ≡ asks asked

  -- It is the helper of this desk, and has nothing in hand.
  pub record IsHelper (desk : Desk P W) (helper : Helper P) : Type 0 where
    pub of_desk : IsPassOf desk.queue helper.pass
    pub knows : view helper.pass ≡ serves None

  -- These are the helpers of these desks, one each.
  pub record AreHelpers (desks : List (Desk P W)) (helpers : List (Helper P)) : Type 0 where
    pub size : length helpers ≡ length desks
    pub each : (k : ℕ) (d : Desk P W) (h : Helper P) → k < length helpers
        → IsHelper (get_or desks k d) (get_or helpers k h)
