-- The desks of a run: where one of a row is sent away, and where nobody is.
use Rattle.std.specs.Prelude.{◌≡◌, ℕ, ◌<◌, ◌≤◌, true, List, None, Some, get_or, is_some, length}
use Rattle.shared_store.specs.Store.{StoreView}
use Rattle.shared_store.specs.declared.session.Session.{Session}
use Rattle.standing_crew.specs.Desk.{AreHelpers, Asks}
use Rattle.standing_crew.specs.declared.desk.Desk.{Desk}
use Rattle.standing_crew.specs.declared.desk.Helper.{Helper}
use Rattle.store_rounds.specs.declared.duty.Duty.{Duty}
use Rattle.store_rounds.specs.declared.errand.Errand.{Errand}
use Rattle.store_rounds.specs.declared.room.Station.{Station}

module _ {W : Type 0} where
  -- Nobody was sent away from here, and a stand-in is there.
  pub record IsFree (desk : Desk Errand W) (station : Station) : Type 0 where
    pub asks : Asks desk None station.client
    pub stand_in : is_some station.stand_in ≡ true

  -- Somebody was sent away from here.
  pub record HasAway (desk : Desk Errand W) (station : Station) : Type 0 where
    pub errand : Errand
    pub asks : Asks desk (Some errand) station.client

  -- This session of the store was sent away from here, with this duty.
  pub record IsAway
      (desk : Desk Errand W) (store : StoreView) (session : Session) (duty : Duty) (station : Station)
      : Type 0 where
    pub away : HasAway desk station
    pub store_is : away.errand.store.now ≡ store
    pub session_is : away.errand.session ≡ session
    pub duty_is : away.errand.duty ≡ duty

  -- From this place on nobody was sent away from these desks.
  pub record AreFree (at : ℕ) (desks : List (Desk Errand W)) (stations : List Station) : Type 0 where
    pub size : length stations ≡ length desks
    pub each : (k : ℕ) (d : Desk Errand W) (s : Station) → at ≤ k → k < length desks
        → IsFree (get_or desks k d) (get_or stations k s)

  -- So it is again, and in front of this place all is as it was.
  pub record LeavesFree (at : ℕ) (desks : List (Desk Errand W)) (old new : List Station)
      : Type 0 where
    pub free : AreFree at desks new
    pub before : (k : ℕ) (s : Station) → k < at → get_or new k s ≡ get_or old k s

  -- Each desk has its station and its helper, and nobody was sent away.
  pub record IsFurnished
      (desks : List (Desk Errand W)) (stations : List Station) (helpers : List (Helper Errand))
      : Type 0 where
    pub free : AreFree 0 desks stations
    pub helped : AreHelpers desks helpers
