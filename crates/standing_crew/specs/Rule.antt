-- The rule of a desk: what lies there, or is in its helper's hand, answers what its client asked.
use Rattle.std.specs.Prelude.{◌≡◌, ◌⊎◌, List, [], ◌∷◌, Option, None, Some}
use Rattle.standing_crew.specs.declared.rule.Item.{Item}
use Rattle.standing_crew.specs.declared.rule.Item.TheVariants as item
use Rattle.standing_crew.specs.declared.rule.View.{View}
use Rattle.standing_crew.specs.declared.rule.View.TheVariants as view

module _ {P : Type 0} where
  abbrev pub asks : Option P → View P
  asks asked = view.Client asked

  abbrev pub serves : Option (Item P) → View P
  serves hand = view.Helper hand

  -- the parcel, whatever was done with it
  abbrev pub parcel_of : Item P → P
  parcel_of (item.Job parcel) = parcel
  parcel_of (item.Done parcel) = parcel

  -- A helper may do what a job asks.
  abbrev pub MayTake : (P → Type 0) → Item P → Type 0
  MayTake may (item.Job parcel) = may parcel
  MayTake may (item.Done parcel) = Unit {0}

module _ {P : Type 0} (may : P → Type 0) (does : P → P → Type 0) where
  -- The item is what was asked, with which nothing was done yet, or what is handed back for it.
  abbrev pub Answers : P → Item P → Type 0
  Answers asked (item.Job parcel) = (parcel ≡ asked) × may parcel
  Answers asked (item.Done parcel) = does asked parcel

  -- Where nothing was asked there is nothing; else one item answers it, on the desk or in the
  -- helper's hand.
  abbrev pub Lies : List (Item P) → Option P → Option (Item P) → Type 0
  Lies items None None = items ≡ []
  Lies items None (Some held) = ⊥
  Lies items (Some asked) None = (it : Item P) × (items ≡ it ∷ []) × Answers asked it
  Lies items (Some asked) (Some held) = (items ≡ []) × Answers asked held

  -- The desk has its client and its helper,
  pub record HasTwo (items : List (Item P)) (views : List (View P)) : Type 0 where
    pub asked : Option P
    pub hand : Option (Item P)
    pub two : views ≡ asks asked ∷ serves hand ∷ []
    pub lies : Lies items asked hand

  -- or one pass that is both, before anything was asked.
  pub record HasOne (items : List (Item P)) (views : List (View P)) : Type 0 where
    pub one : views ≡ view.Both ∷ []
    pub none : items ≡ []

  abbrev pub Stands : List (Item P) → List (View P) → Type 0
  Stands items views = HasOne items views ⊎ HasTwo items views

  -- ---- what a step tells: a client hands over or gets back, a helper takes or puts back

  abbrev pub Tells : View P → Item P → View P → Type 0
  Tells view.Both it now = ⊥
  Tells (view.Client None) it now = now ≡ asks (Some (parcel_of it))
  Tells (view.Client (Some asked)) it now = (now ≡ asks None) × Answers asked it
  Tells (view.Helper None) it now = (now ≡ serves (Some it)) × MayTake may it
  Tells (view.Helper (Some held)) it now = now ≡ serves None

-- what is known of a desk by who is about to put something there: nothing lies there
abbrev pub Shows : {P : Type 0} → View P → List (Item P) → Type 0
Shows view.Both items = Unit {0}
Shows (view.Client None) items = items ≡ []
Shows (view.Client (Some asked)) items = Unit {0}
Shows (view.Helper None) items = Unit {0}
Shows (view.Helper (Some held)) items = items ≡ []
