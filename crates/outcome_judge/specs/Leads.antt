-- Marks that tell the highest value up to a place among those of all but one.
use Rattle.std.specs.Prelude.{◌≡◌, ℕ, ◌≤◌, Bool, true, false, max, nat_lt, nat_le, List, [], ◌∷◌}
use Rattle.std.specs.Prelude.{◌++◌, take, Option, None, Some, if◌then◌else◌}
use Rattle.std.specs.List.{filter, last_or, list_all}
use Rattle.std.specs.List.Sorted.{IsNonDecreasingBy}
use Rattle.std.specs.Option.{option_map_or}
use Rattle.workload_spec.specs.declared.reply.Who.{Who}
use Rattle.outcome_spec.specs.Entries.{is_same}
use Rattle.mark_index.specs.Marks.{highest}
use Rattle.outcome_judge.specs.declared.leads.Lead.{Lead}

-- the highest value that a lead tells of all but one
abbrev pub but_of : Who → Option Lead → ℕ
but_of own lead = option_map_or (λ lead. if is_same lead.who own then lead.others else lead.most)
    lead 0

-- the last lead below a place
abbrev pub lead_below : ℕ → List Lead → Option Lead
lead_below place leads = last_or None (filter (λ lead. nat_lt lead.place place) leads)

-- a value, but 0 where it is one's own
abbrev pub but_own : {X : Type 0} → Who → (X → Who) → (X → ℕ) → X → ℕ
but_own own whose value x = if is_same (whose x) own then 0 else value x

-- no other's value is above the highest
abbrev pub is_ordered : Lead → Bool
is_ordered lead = nat_le lead.others lead.most

-- The leads are those of the first so many elements: they tell the highest value up to each place,
-- of all but one.
pub record AreLeads {X : Type 0} (whose : X → Who) (value : X → ℕ) (xs : List X) (taken : ℕ) (leads : List Lead) : Type 0 where
  pub rise : IsNonDecreasingBy (λ lead. lead.place) leads
  pub within : list_all (λ lead. nat_lt lead.place taken) leads ≡ true
  pub ordered : list_all is_ordered leads ≡ true
  pub most : (own : Who) (place : ℕ) → place ≤ taken → but_of own (lead_below place leads)
      ≡ highest (but_own own whose value) (take place xs)

-- A lead is put behind others, with one's value at a place.
pub record IsPut (place : ℕ) (who : Who) (value : ℕ) (before now : List Lead) : Type 0 where
  pub lead : Lead
  pub behind : now ≡ before ++ lead ∷ []
  pub there : lead.place ≡ place
  pub ordered : is_ordered lead ≡ true
  pub most : (own : Who) → but_of own (Some lead)
      ≡ max (but_of own (last_or None before)) (if is_same who own then 0 else value)

-- One is put there, or they stay.
pub record AreFollowed (put : Bool) (place : ℕ) (who : Who) (value : ℕ) (before now : List Lead) : Type 0 where
  pub put_behind : put ≡ true → IsPut place who value before now
  pub same : put ≡ false → now ≡ before
