-- Members of lists that are made of others.
use Rattle.std.proofs.Common.{◌≡◌, ◌≢◌, ◌⊎◌, ℕ, zero, suc, ◌+◌, ◌<◌, ◌≤◌, List, [], ◌∷◌, ◌++◌, map, Option, None, Some, refl, sym, ap, ◌∙◌, subst, arith}
use mathlib.Core.Logic.{inl, inr}
use Rattle.std.specs.Prelude.{All}
use Rattle.std.specs.List.{flat_map, filter_map, cons_option, range_with_len}
use Rattle.std.proofs.lemmas.List.Elements.{All-head, All-tail, All-nil, All-cons}
use Rattle.event_spec.specs.Lawful.{Among}
use Rattle.core_laws.proofs.Following.Desks.{same_number, none_not}

-- a member of two lists in a row is one of the first or of the second
pub split : {Y : Type 0} (xs ys : List Y) (y : Y) → Among y (xs ++ ys) → Among y xs ⊎ Among y ys
split [] ys y a = inr a
split (x ∷ xs) ys y (inl e) = inl (inl e)
split (x ∷ xs) ys y (inr a) = more (split xs ys y a)
  where
    more : Among y xs ⊎ Among y ys → Among y (x ∷ xs) ⊎ Among y ys
    more (inl b) = inl (inr b)
    more (inr b) = inr b

-- a member of the first is one of both in a row
pub in_left : {Y : Type 0} (xs ys : List Y) (y : Y) → Among y xs → Among y (xs ++ ys)
in_left [] ys y a = absurd a
in_left (x ∷ xs) ys y (inl e) = inl e
in_left (x ∷ xs) ys y (inr a) = inr (in_left xs ys y a)

-- and so is a member of the second
pub in_right : {Y : Type 0} (xs ys : List Y) (y : Y) → Among y ys → Among y (xs ++ ys)
in_right [] ys y a = a
in_right (x ∷ xs) ys y a = inr (in_right xs ys y a)

-- a member of lists in a row, one for each element, is of one of them
pub flat_member : {X Y : Type 0} (f : X → List Y) (xs : List X) (y : Y) → Among y (flat_map f xs) → (x : X) × Among x xs × Among y (f x)
flat_member f [] y a = absurd a
flat_member {X} f (x ∷ xs) y a = go (split (f x) (flat_map f xs) y a) (flat_member f xs y)
  where
    go : Among y (f x) ⊎ Among y (flat_map f xs) → (Among y (flat_map f xs) → (z : X) × Among z xs × Among y (f z)) → (z : X) × Among z (x ∷ xs) × Among y (f z)
    go (inl a) rest = (x, inl refl, a)
    go (inr a) rest = let r = rest a in (r.0, inr r.1, r.2)

-- what is of one of them is a member
pub member_flat : {X Y : Type 0} (f : X → List Y) (xs : List X) (x : X) (y : Y) → Among x xs → Among y (f x) → Among y (flat_map f xs)
member_flat f [] x y a b = absurd a
member_flat f (z ∷ xs) x y (inl e) b = in_left (f z) (flat_map f xs) y (subst (λ w. Among y (f w)) e b)
member_flat f (z ∷ xs) x y (inr a) b = in_right (f z) (flat_map f xs) y (member_flat f xs x y a b)

-- what is kept comes from an element of which it is made
pub kept_member : {X Y : Type 0} (h : X → Option Y) (xs : List X) (y : Y) → Among y (filter_map h xs) → (x : X) × Among x xs × (h x ≡ Some y)
kept_member h [] y a = absurd a
kept_member {X} {Y} h (x ∷ xs) y a = go (h x) refl a (kept_member h xs y)
  where
    go : (o : Option Y) → h x ≡ o → Among y (cons_option o (filter_map h xs)) → (Among y (filter_map h xs) → (z : X) × Among z xs × (h z ≡ Some y)) → (z : X) × Among z (x ∷ xs) × (h z ≡ Some y)
    go None is a rest = let r = rest a in (r.0, inr r.1, r.2)
    go (Some v) is (inl e) rest = (x, inl refl, is ∙ ap Some (sym e))
    go (Some v) is (inr a) rest = let r = rest a in (r.0, inr r.1, r.2)

-- what is made of an element is kept
pub member_kept : {X Y : Type 0} (h : X → Option Y) (xs : List X) (x : X) (y : Y) → Among x xs → h x ≡ Some y → Among y (filter_map h xs)
member_kept h [] x y a is = absurd a
member_kept {X} {Y} h (z ∷ xs) x y a is = go (h z) refl a (λ b. member_kept h xs x y b is)
  where
    go : (o : Option Y) → h z ≡ o → Among x (z ∷ xs) → (Among x xs → Among y (filter_map h xs)) → Among y (cons_option o (filter_map h xs))
    go None here (inl e) rest = absurd (none_not (h z) y here (ap h (sym e) ∙ is))
    go None here (inr b) rest = rest b
    go (Some v) here (inl e) rest = let same : Some v ≡ Some y = sym here ∙ ap h (sym e) ∙ is in inl (cc)
    go (Some v) here (inr b) rest = inr (rest b)

-- a number in a range is a member of it
pub below_member : (a n k : ℕ) → a ≤ k → k < a + n → Among k (range_with_len a n)
below_member a zero k le lt = absurd (omega (arith, le, lt))
below_member a (suc n) k le lt = go (same_number k a) (λ x y. below_member (a + 1) n k x y)
  where
    go : (k ≡ a) ⊎ (k ≢ a) → (a + 1 ≤ k → k < a + 1 + n → Among k (range_with_len (a + 1) n)) → Among k (a ∷ range_with_len (a + 1) n)
    go (inl e) rest = inl e
    go (inr ne) rest = inr (rest (omega (arith, le, ne)) (omega (arith, lt)))

-- a member of a range is below its end
pub member_below : (a n k : ℕ) → Among k (range_with_len a n) → k < a + n
member_below a zero k x = absurd x
member_below a (suc n) k (inl e) = omega (arith, e)
member_below a (suc n) k (inr x) = let r = member_below (a + 1) n k x in omega (arith, r)

-- a member of what a list is mapped to comes from one of the list
pub map_member : {X Y : Type 0} (f : X → Y) (xs : List X) (y : Y) → Among y (map f xs) → (x : X) × Among x xs × (y ≡ f x)
map_member f [] y a = absurd a
map_member f (x ∷ xs) y (inl e) = (x, inl refl, e)
map_member f (x ∷ xs) y (inr a) = let r = map_member f xs y a in (r.0, inr r.1, r.2)

-- what a member is mapped to is a member
pub member_map : {X Y : Type 0} (f : X → Y) (xs : List X) (x : X) → Among x xs → Among (f x) (map f xs)
member_map f [] x a = absurd a
member_map f (z ∷ xs) x (inl e) = inl (ap f e)
member_map f (z ∷ xs) x (inr a) = inr (member_map f xs x a)

-- what holds of all holds of each
pub all_at : {X : Type 0} (P : X → Type 0) (xs : List X) (x : X) → All P xs → Among x xs → P x
all_at P [] x all a = absurd a
all_at P (y ∷ xs) x all (inl e) = subst P (sym e) (All-head P y xs all)
all_at P (y ∷ xs) x all (inr a) = all_at P xs x (All-tail P y xs all) a

-- what holds of each member holds of all
pub all_by : {X : Type 0} (P : X → Type 0) (xs : List X) → ((x : X) → Among x xs → P x) → All P xs
all_by P [] each = All-nil P
all_by P (x ∷ xs) each = All-cons P x xs (each x (inl refl)) (all_by P xs (λ y a. each y (inr a)))
