-- Numbers that are put behind those of some places, one place after the other.
use Rattle.std.proofs.Common.{◌≡◌, ℕ, ◌<◌, ◌⊎◌, inl, inr, Bool, true, false, cond, ◌||◌, List, [], ◌∷◌, ◌++◌, Option, None, Some, Vec, Global, vec_len, vec_capacity, refl, sym, ap, ◌∙◌, subst, append-nil}
use Rattle.std.specs.Prelude.{is_some, IsSomeAnd, if◌then◌else◌}
use Rattle.std.specs.Cmp.{eq_by_cmp_equiv}
use Rattle.std.specs.List.{AllByRecursion, list_any}
use Rattle.std.specs.List.Sorted.{IsStrictlySortedBy}
use Rattle.std.specs.Map.{keys_of}
use Rattle.std.specs.Option.{option_map_or}
use Rattle.std.specs.declared.cmp.Ordering.TheVariants.{Less}
use Rattle.std.proofs.lemmas.Map.Keys.{sorted_head}
use Rattle.std.proofs.lemmas.Map.Made.{is_some-lookup}
use Rattle.std.proofs.lemmas.Bool.{or_from, or_right}
use Rattle.isolation_spec.specs.Contents.{place_cmp, is_place, at_place, WriteSet}
use Rattle.isolation_spec.specs.declared.place.Place.{Place}
use Rattle.isolation_spec.specs.Machine.{writes_place}
use Rattle.isolation_laws.proofs.Rows.{place_cmp-total}
use Rattle.si_machine.specs.declared.writers.Writers.{Writers}
use Rattle.si_machine.specs.Kept.{HasRoom, has_place, numbers_at}
use Rattle.si_machine.proofs.Rising.{same-place, itself}
use Rattle.si_machine.proofs.Scanned.{unlike}

-- one of the places is this one
abbrev pub is_among : Place → List Place → Bool
is_among place places = list_any (is_place place) places

-- Two places are tested as one whichever comes first.
symmetric : (a b : Place) → is_place a b ≡ is_place b a
symmetric = (eq_by_cmp_equiv place_cmp-total).symm

-- A place that is below all of some places is none of them.
none-above : (place : Place) (places : List Place) → AllByRecursion (λ other. place_cmp place other ≡ Less) places → is_among place places ≡ false
none-above place [] h = refl
none-above place (other ∷ places) h =
    or_from (is_place place other) (is_among place places) (symmetric place other ∙ unlike place other h.0) (none-above place places h.1)

-- a write at one place
pub record Wrote (before now : Writers) (place : Place) (was numbers : Vec ℕ Global) : Type 0 where
  pub found : at_place before.places.entries place ≡ Some was
  pub after : (other : Place) → at_place now.places.entries other ≡ cond (is_place place other) (Some numbers) (at_place before.places.entries other)

-- Numbers set for a place that had some leave whether each place has any.
has-by : (was numbers : Vec ℕ Global) (b : Bool) (old : Option (Vec ℕ Global)) → (b ≡ true → old ≡ Some was) → is_some (cond b (Some numbers) old) ≡ is_some old
has-by was numbers true old same = sym (ap is_some (same refl))
has-by was numbers false old same = refl

-- numbers put behind those of a place leave which places there are
pub has-same : (before now : Writers) (place : Place) (was numbers : Vec ℕ Global) → Wrote before now place was numbers → (other : Place) → has_place now other ≡ has_place before other
has-same before now place was numbers wrote other =
    ap is_some (wrote.after other)
    ∙ has-by was numbers (is_place place other) (at_place before.places.entries other)
    (λ is. ap (at_place before.places.entries) (sym (same-place place other is)) ∙ wrote.found)

-- Numbers set for a place to what they were leave those of each place.
items-by : (was numbers : Vec ℕ Global) (b : Bool) (old : Option (Vec ℕ Global)) → numbers.items ≡ was.items → (b ≡ true → old ≡ Some was)
    → option_map_or (λ (ns : Vec ℕ Global). ns.items) (cond b (Some numbers) old) [] ≡ option_map_or (λ (ns : Vec ℕ Global). ns.items) old []
items-by was numbers true old items same = items ∙ sym (ap (λ (o : Option (Vec ℕ Global)). option_map_or (λ (ns : Vec ℕ Global). ns.items) o []) (same refl))
items-by was numbers false old items same = refl

-- numbers that stay, with more room
pub numbers-same : (before now : Writers) (place : Place) (was numbers : Vec ℕ Global) → Wrote before now place was numbers → numbers.items ≡ was.items
    → (other : Place) → numbers_at now other ≡ numbers_at before other
numbers-same before now place was numbers wrote items other =
    ap (λ (o : Option (Vec ℕ Global)). option_map_or (λ (ns : Vec ℕ Global). ns.items) o []) (wrote.after other)
    ∙ items-by was numbers (is_place place other) (at_place before.places.entries other) items
    (λ is. ap (at_place before.places.entries) (sym (same-place place other is)) ∙ wrote.found)

-- there are numbers, with room for one more
abbrev pub roomy : Option (Vec ℕ Global) → Type 0
roomy o = IsSomeAnd o (λ numbers. vec_len numbers < vec_capacity numbers)

-- With room made at one place, a place has room if it is that one or had it.
room-by : (was numbers : Vec ℕ Global) (b : Bool) (old : Option (Vec ℕ Global)) → (b ≡ true → vec_len numbers < vec_capacity numbers) → (b ≡ false → roomy old) → roomy (cond b (Some numbers) old)
room-by was numbers true old here there = here refl
room-by was numbers false old here there = there refl

-- Room that is made at one place more: what had room has it, and what is left to be given room is
-- the same.
pub room-made : (before now : Writers) (place : Place) (was numbers : Vec ℕ Global) → Wrote before now place was numbers → vec_len numbers < vec_capacity numbers
    → (wanted : Place → Bool) (rest : List Place)
    → ((other : Place) → wanted other ≡ true → is_among other (place ∷ rest) ≡ false → HasRoom before other)
    → (other : Place) → wanted other ≡ true → is_among other rest ≡ false → HasRoom now other
room-made before now place was numbers wrote room wanted rest had other want past =
    subst roomy (sym (wrote.after other))
    (room-by was numbers (is_place place other) (at_place before.places.entries other) (λ is. room)
    (λ apart. had other want (or_from (is_place other place) (is_among other rest) (symmetric other place ∙ apart) past)))

-- Room that is left for the places that are to come.
pub room-left : (before now : Writers) (place : Place) (was numbers : Vec ℕ Global) → Wrote before now place was numbers
    → (rest : List Place) → IsStrictlySortedBy place_cmp (place ∷ rest)
    → ((other : Place) → is_among other (place ∷ rest) ≡ true → HasRoom before other)
    → (other : Place) → is_among other rest ≡ true → HasRoom now other
room-left before now place was numbers wrote rest sorted had other among = by (is_place place other) refl
  where
    earlier : HasRoom before other
    earlier = had other (or_right (is_place other place) (is_among other rest) among)

    by : (b : Bool) → is_place place other ≡ b → HasRoom now other
    by true is =
        let e : is_among place rest ≡ true = ap (λ (p : Place). is_among p rest) (same-place place other is) ∙ among in
        let f : true ≡ false = sym e ∙ none-above place rest (sorted_head place_cmp place rest sorted) in
        absurd (let never : ⊥ = cc in never)
    by false is = subst roomy (sym (wrote.after other ∙ ap (λ (b : Bool). cond b (Some numbers) (at_place before.places.entries other)) is)) earlier

-- A number put behind those of one place more is one of those that were to come.
marked-by : (was numbers : Vec ℕ Global) (number : ℕ) (more a b : Bool) (old : Option (Vec ℕ Global)) → numbers.items ≡ was.items ++ number ∷ [] → a ≡ b
    → (b ≡ true → old ≡ Some was) → (b ≡ true → more ≡ false)
    → option_map_or (λ (ns : Vec ℕ Global). ns.items) (cond b (Some numbers) old) [] ++ (if more then number ∷ [] else [])
    ≡ option_map_or (λ (ns : Vec ℕ Global). ns.items) old [] ++ (if a || more then number ∷ [] else [])
marked-by was numbers number more a true old items same found last =
    rw (same, last refl) (append-nil numbers.items ∙ items ∙ sym (ap (λ (o : Option (Vec ℕ Global)). option_map_or (λ (ns : Vec ℕ Global). ns.items) o [] ++ number ∷ []) (found refl)))
marked-by was numbers number more a false old items same found last = rw same refl

-- A number put behind those of one place more.
pub marked-one : (before now : Writers) (place : Place) (was numbers : Vec ℕ Global) (number : ℕ) → Wrote before now place was numbers → numbers.items ≡ was.items ++ number ∷ []
    → (rest : List Place) → IsStrictlySortedBy place_cmp (place ∷ rest)
    → (other : Place) → numbers_at now other ++ (if is_among other rest then number ∷ [] else [])
    ≡ numbers_at before other ++ (if is_among other (place ∷ rest) then number ∷ [] else [])
marked-one before now place was numbers number wrote items rest sorted other =
    ap (λ (o : Option (Vec ℕ Global)). option_map_or (λ (ns : Vec ℕ Global). ns.items) o [] ++ (if is_among other rest then number ∷ [] else [])) (wrote.after other)
    ∙ marked-by was numbers number (is_among other rest) (is_place other place) (is_place place other) (at_place before.places.entries other) items (symmetric other place)
    (λ is. ap (at_place before.places.entries) (sym (same-place place other is)) ∙ wrote.found)
    (λ is. ap (λ (p : Place). is_among p rest) (sym (same-place place other is)) ∙ none-above place rest (sorted_head place_cmp place rest sorted))

-- the places of a write set are those that it has
pub among-written : (place : Place) (writes : WriteSet) (places : List Place) → places ≡ keys_of writes → writes_place place writes ≡ is_among place places
among-written place writes places is = is_some-lookup (is_place place) writes ∙ ap (is_among place) (sym is)

-- ---- a place that is added, without numbers

-- An option that is tested as nothing is nothing.
none-there : {X : Type 0} (o : Option X) → is_some o ≡ false → o ≡ None
none-there None h = refl
none-there (Some x) h = let never : ⊥ = cc in absurd never

module _ (before now : Writers) (place : Place) (fresh : Vec ℕ Global) (empty : fresh.items ≡ []) (missed : is_some (at_place before.places.entries place) ≡ false)
    (after : (other : Place) → at_place now.places.entries other ≡ cond (is_place place other) (Some fresh) (at_place before.places.entries other)) where
  -- Numbers set to none at a place without any leave those of each place.
  added-by : (b : Bool) (old : Option (Vec ℕ Global)) → (b ≡ true → old ≡ None)
      → option_map_or (λ (ns : Vec ℕ Global). ns.items) (cond b (Some fresh) old) [] ≡ option_map_or (λ (ns : Vec ℕ Global). ns.items) old []
  added-by true old none = empty ∙ sym (ap (λ (o : Option (Vec ℕ Global)). option_map_or (λ (ns : Vec ℕ Global). ns.items) o []) (none refl))
  added-by false old none = refl

  -- a place that is added without numbers leaves the numbers of each place
  pub added-numbers : (other : Place) → numbers_at now other ≡ numbers_at before other
  added-numbers other =
      ap (λ (o : Option (Vec ℕ Global)). option_map_or (λ (ns : Vec ℕ Global). ns.items) o []) (after other)
      ∙ added-by (is_place place other) (at_place before.places.entries other)
      (λ is. ap (at_place before.places.entries) (sym (same-place place other is)) ∙ none-there (at_place before.places.entries place) missed)

  -- A place that was there is there with another one set.
  stays-by : (b : Bool) (old : Option (Vec ℕ Global)) → is_some old ≡ true → is_some (cond b (Some fresh) old) ≡ true
  stays-by true old h = refl
  stays-by false old h = h

  -- a place that is added leaves those that were there
  pub added-stays : (other : Place) → has_place before other ≡ true → has_place now other ≡ true
  added-stays other h = ap is_some (after other) ∙ stays-by (is_place place other) (at_place before.places.entries other) h

  -- A place that is there with one set is that one or was there.
  only-by : (other : Place) (b : Bool) → is_place place other ≡ b → is_some (cond b (Some fresh) (at_place before.places.entries other)) ≡ true → (other ≡ place) ⊎ (has_place before other ≡ true)
  only-by other true is h = inl (sym (same-place place other is))
  only-by other false is h = inr h

  -- a place that is there afterwards is the one that was added or was there before
  pub added-only : (other : Place) → has_place now other ≡ true → (other ≡ place) ⊎ (has_place before other ≡ true)
  added-only other h = only-by other (is_place place other) refl (sym (ap is_some (after other)) ∙ h)

-- ---- the first of the places

-- the first of some places is among them
pub first-among : (place : Place) (rest : List Place) → is_among place (place ∷ rest) ≡ true
first-among place rest = ap (λ (b : Bool). b || is_among place rest) (itself place)

-- numbers that are found where there is room have room for one more
pub roomy-found : (o : Option (Vec ℕ Global)) (numbers : Vec ℕ Global) → o ≡ Some numbers → roomy o → vec_len numbers < vec_capacity numbers
roomy-found o numbers is room = subst roomy is room

-- where no numbers are, there is no room
pub no-room : (o : Option (Vec ℕ Global)) → o ≡ None → roomy o → ⊥
no-room o is room = subst roomy is room
