-- What holds of each element of a list, and which elements it has.
use Rattle.std.proofs.Common.{◌≡◌, ◌⊎◌, inl, inr, Bool, true, false, cond, ◌||◌, List, [], ◌∷◌, ◌++◌, map, Some, refl, sym, ap, subst}
use Rattle.std.specs.List.{find, filter, list_all, list_any}
use Rattle.std.proofs.lemmas.Bool.{and_parts, or_left, or_right}

-- the property holds of each element of the list
abbrev pub Every : {X : Type 0} → (X → Type 0) → List X → Type 0
Every P [] = Unit {0}
Every P (x ∷ xs) = P x × Every P xs

-- the list has the element
abbrev pub Has : {X : Type 0} → X → List X → Type 0
Has x [] = ⊥
Has x (y ∷ ys) = (y ≡ x) ⊎ Has x ys

-- what holds of anything holds of each element
pub every-any : {X : Type 0} (xs : List X) → Every (λ (x : X). Unit {0}) xs
every-any [] = tt
every-any (x ∷ xs) = (tt, every-any xs)

-- what holds of each of two lists holds of each of them together
pub every-append : {X : Type 0} (P : X → Type 0) (xs ys : List X) → Every P xs → Every P ys → Every P (xs ++ ys)
every-append P [] ys h k = k
every-append P (x ∷ xs) ys h k = (h.0, every-append P xs ys h.1 k)

-- what holds of each of two lists together holds of each of the first
pub every-left : {X : Type 0} (P : X → Type 0) (xs ys : List X) → Every P (xs ++ ys) → Every P xs
every-left P [] ys h = tt
every-left P (x ∷ xs) ys h = (h.0, every-left P xs ys h.1)

-- and of each of the second
pub every-right : {X : Type 0} (P : X → Type 0) (xs ys : List X) → Every P (xs ++ ys) → Every P ys
every-right P [] ys h = h
every-right P (x ∷ xs) ys h = every-right P xs ys h.1

-- what follows from a property of each element holds of each element
pub every-weaker : {X : Type 0} (P Q : X → Type 0) → ((x : X) → P x → Q x) → (xs : List X) → Every P xs → Every Q xs
every-weaker P Q so [] h = tt
every-weaker P Q so (x ∷ xs) h = (so x h.0, every-weaker P Q so xs h.1)

-- what holds of each holds of one that the list has
pub every-has : {X : Type 0} (P : X → Type 0) (xs : List X) (x : X) → Every P xs → Has x xs → P x
every-has P [] x h k = absurd k
every-has P (y ∷ ys) x h (inl same) = subst P same h.0
every-has P (y ∷ ys) x h (inr rest) = every-has P ys x h.1 rest

-- what the first list has, the two together have
pub has-left : {X : Type 0} (x : X) (xs ys : List X) → Has x xs → Has x (xs ++ ys)
has-left x [] ys h = absurd h
has-left x (y ∷ xs) ys (inl same) = inl same
has-left x (y ∷ xs) ys (inr rest) = inr (has-left x xs ys rest)

-- what the second list has, the two together have
pub has-right : {X : Type 0} (x : X) (xs ys : List X) → Has x ys → Has x (xs ++ ys)
has-right x [] ys h = h
has-right x (y ∷ xs) ys h = inr (has-right x xs ys h)

-- what two lists together have is in the first or in the second
pub has-cases : {X : Type 0} (x : X) (xs ys : List X) → Has x (xs ++ ys) → Has x xs ⊎ Has x ys
has-cases x [] ys h = inr h
has-cases x (y ∷ xs) ys (inl same) = inl (inl same)
has-cases x (y ∷ xs) ys (inr rest) = elim (has-cases x xs ys rest) [ inl front ↦ inl (inr front) | inr back ↦ inr back ]

-- the image of an element is among the images
pub has-map : {X Y : Type 0} (f : X → Y) (x : X) (xs : List X) → Has x xs → Has (f x) (map f xs)
has-map f x [] h = absurd h
has-map f x (y ∷ xs) (inl same) = inl (ap f same)
has-map f x (y ∷ xs) (inr rest) = inr (has-map f x xs rest)

-- what the images have is an image
pub has-mapped : {X Y : Type 0} (f : X → Y) (y : Y) (xs : List X) → Has y (map f xs) → (x : X) × (f x ≡ y) × Has x xs
has-mapped f y [] h = absurd h
has-mapped f y (x ∷ xs) (inl same) = (x, same, inl refl)
has-mapped f y (x ∷ xs) (inr rest) = let found = has-mapped f y xs rest in (found.0, found.1, inr found.2)

-- the place at which the element stands
pub record Split {X : Type 0} (x : X) (xs : List X) : Type 0 where
  pub front : List X
  pub rest : List X
  pub whole : xs ≡ front ++ x ∷ rest

-- an element that a list has stands between two pieces of it
pub split-at : {X : Type 0} (x : X) (xs : List X) → Has x xs → Split x xs
split-at x [] h = absurd h
split-at x (y ∷ xs) (inl same) = record { front = []; rest = xs; whole = ap (λ z. z ∷ xs) same }
split-at x (y ∷ xs) (inr rest) = let there = split-at x xs rest in record { front = y ∷ there.front; rest = there.rest; whole = ap (λ zs. y ∷ zs) there.whole }

-- a list has the element that stands between two pieces of it
pub has-here : {X : Type 0} (front : List X) (x : X) (rest : List X) → Has x (front ++ x ∷ rest)
has-here front x rest = has-right x front (x ∷ rest) (inl refl)

-- tests
pub all-has : {X : Type 0} (p : X → Bool) (xs : List X) (x : X) → list_all p xs ≡ true → Has x xs → p x ≡ true
all-has p [] x h k = absurd k
all-has p (y ∷ xs) x h (inl same) = subst (λ z. p z ≡ true) same (and_parts (p y) (list_all p xs) h).0
all-has p (y ∷ xs) x h (inr rest) = all-has p xs x (and_parts (p y) (list_all p xs) h).1 rest

-- where one that the list has passes a test, some element does
pub any-has : {X : Type 0} (p : X → Bool) (xs : List X) (x : X) → Has x xs → p x ≡ true → list_any p xs ≡ true
any-has p [] x h k = absurd h
any-has p (y ∷ xs) x (inl same) k = or_left (p y) (list_any p xs) (subst (λ z. p z ≡ true) (sym same) k)
any-has p (y ∷ xs) x (inr rest) k = or_right (p y) (list_any p xs) (any-has p xs x rest k)

-- One element more: where some element passes, the list has one that does.
any-step : {X : Type 0} (p : X → Bool) (y : X) (xs : List X) (b : Bool) → p y ≡ b → (b || list_any p xs) ≡ true
    → (list_any p xs ≡ true → (x : X) × Has x xs × (p x ≡ true)) → (x : X) × Has x (y ∷ xs) × (p x ≡ true)
any-step p y xs true is h rest = (y, inl refl, is)
any-step p y xs false is h rest = let found = rest h in (found.0, inr found.1, found.2)

-- where some element passes a test, the list has one that does
pub any-found : {X : Type 0} (p : X → Bool) (xs : List X) → list_any p xs ≡ true → (x : X) × Has x xs × (p x ≡ true)
any-found p [] h = absurd (let never : ⊥ = cc in never)
any-found p (y ∷ xs) h = any-step p y xs (p y) refl h (any-found p xs)

-- One element more: one that passes is among those that the filter keeps.
kept-step : {X : Type 0} (p : X → Bool) (x y : X) (kept : List X) (b : Bool) → p y ≡ b → (y ≡ x) ⊎ Has x kept → p x ≡ true → Has x (cond b (y ∷ kept) kept)
kept-step p x y kept true is h k = h
kept-step p x y kept false is (inl same) k = absurd (let e : p y ≡ true = subst (λ z. p z ≡ true) (sym same) k in let never : ⊥ = cc in never)
kept-step p x y kept false is (inr rest) k = rest

-- a filter keeps what passes
pub has-filter : {X : Type 0} (p : X → Bool) (xs : List X) (x : X) → Has x xs → p x ≡ true → Has x (filter p xs)
has-filter p [] x h k = absurd h
has-filter p (y ∷ xs) x (inl same) k = kept-step p x y (filter p xs) (p y) refl (inl same) k
has-filter p (y ∷ xs) x (inr rest) k = kept-step p x y (filter p xs) (p y) refl (inr (has-filter p xs x rest k)) k

-- What holds of an element and of those kept holds with the element kept or not.
every-kept : {X : Type 0} (P : X → Type 0) (x : X) (kept : List X) (b : Bool) → P x → Every P kept → Every P (cond b (x ∷ kept) kept)
every-kept P x kept true h k = (h, k)
every-kept P x kept false h k = k

-- what holds of each holds of each that a filter keeps
pub every-filter : {X : Type 0} (P : X → Type 0) (p : X → Bool) (xs : List X) → Every P xs → Every P (filter p xs)
every-filter P p [] h = tt
every-filter P p (x ∷ xs) h = every-kept P x (filter p xs) (p x) h.0 (every-filter P p xs h.1)

-- what is found among images is the image of one of which holds what holds of all
found-step : {X Y : Type 0} (p : Y → Bool) (f : X → Y) (P : X → Type 0) (x : X) (xs : List X) (y : Y) (b : Bool) → cond b (Some (f x)) (find p (map f xs)) ≡ Some y → P x
    → (find p (map f xs) ≡ Some y → (z : X) × (f z ≡ y) × P z) → (z : X) × (f z ≡ y) × P z
found-step p f P x xs y true h here rest = (x, (let e : f x ≡ y = cc in e), here)
found-step p f P x xs y false h here rest = rest h

-- what is found among images is the image of one of which holds what holds of all
pub found-image : {X Y : Type 0} (p : Y → Bool) (f : X → Y) (P : X → Type 0) (xs : List X) (y : Y) → Every P xs → find p (map f xs) ≡ Some y → (x : X) × (f x ≡ y) × P x
found-image p f P [] y all h = absurd (let never : ⊥ = cc in never)
found-image p f P (x ∷ xs) y all h = found-step p f P x xs y (p (f x)) h all.0 (found-image p f P xs y all.1)

-- One element more: what is found is in the list, and passes.
find-step : {X : Type 0} (p : X → Bool) (x : X) (xs : List X) (y : X) (b : Bool) → p x ≡ b → cond b (Some x) (find p xs) ≡ Some y
    → (find p xs ≡ Some y → Has y xs × (p y ≡ true)) → ((x ≡ y) ⊎ Has y xs) × (p y ≡ true)
find-step p x xs y true is h rest = let e : x ≡ y = cc in (inl e, subst (λ z. p z ≡ true) e is)
find-step p x xs y false is h rest = let r = rest h in (inr r.0, r.1)

-- what is found is in the list, and passes
pub find-has : {X : Type 0} (p : X → Bool) (xs : List X) (y : X) → find p xs ≡ Some y → Has y xs × (p y ≡ true)
find-has p [] y h = absurd (let never : ⊥ = cc in never)
find-has p (x ∷ xs) y h = find-step p x xs y (p x) refl h (find-has p xs y)
