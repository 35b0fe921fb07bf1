-- Lists whose elements all pass a test, and that have names of their own.
use Rattle.std.proofs.Common.{◌≡◌, ℕ, ◌+◌, Bool, true, false, cond, List, [], ◌∷◌, ◌++◌, suc, refl, sym, ap, ◌∙◌, arith, subst}
use Rattle.std.specs.Prelude.{◌&&◌, ◌||◌, not, Some, None, Option, is_none, slice_get, bytes_eq, find, position}
use Rattle.std.specs.List.{list_all, list_any, position_from}
use Rattle.std.proofs.lemmas.Iterator.Adapters.{position_from-zero}
use Rattle.std.proofs.lemmas.Slice.Eq.{bytes_eq-Decides}
use Rattle.std.proofs.lemmas.List.Folds.{list_any-append}
use Rattle.std.proofs.lemmas.Bool.{and_parts, or_parts, not-true}
use Rattle.workload_laws.proofs.Results.{eq_of}

-- two tests that pass each pass together
pub joined : {s t : Bool} → s ≡ true → t ≡ true → (s && t) ≡ true
joined p q = rw (p, q) refl

-- Two tests of which each passes where the other does are one.
same : (s t : Bool) → (s ≡ true → t ≡ true) → (t ≡ true → s ≡ true) → s ≡ t
same true t to back = sym (to refl)
same false true to back = back refl
same false false to back = refl

-- bytes are the same either way round
pub bytes_eq-sym : (a b : List ℕ) → bytes_eq a b ≡ bytes_eq b a
bytes_eq-sym a b = same (bytes_eq a b) (bytes_eq b a)
    (λ e. (bytes_eq-Decides b a).1 (sym (eq_of a b e)))
    (λ e. (bytes_eq-Decides a b).1 (sym (eq_of b a e)))

-- one more that passes behind those that all do
pub all-behind : {X : Type 0} (p : X → Bool) (xs : List X) (x : X) → list_all p xs ≡ true → p x ≡ true → list_all p (xs ++ x ∷ []) ≡ true
all-behind p [] x all this = joined this refl
all-behind p (y ∷ ys) x all this = let parts = and_parts (p y) (list_all p ys) all in joined parts.0 (all-behind p ys x parts.1 this)

-- one more that fails behind those that all do
pub none-behind : {X : Type 0} (p : X → Bool) (xs : List X) (x : X) → list_any p xs ≡ false → p x ≡ false → list_any p (xs ++ x ∷ []) ≡ false
none-behind p [] x none this = rw this refl
none-behind p (y ∷ ys) x none this = let parts = or_parts (p y) (list_any p ys) none in rw (parts.0) (none-behind p ys x parts.1 this)

-- no two elements have one name
unfoldable pub own_names : {X : Type 0} (name : X → List ℕ) → List X → Bool
own_names name [] = true
own_names name (x ∷ xs) = not (list_any (λ y. bytes_eq (name y) (name x)) xs) && own_names name xs

-- one more with a new name behind those with names of their own
pub own_names-behind : {X : Type 0} (name : X → List ℕ) (xs : List X) (x : X) → own_names name xs ≡ true → list_any (λ y. bytes_eq (name y) (name x)) xs ≡ false → own_names name (xs ++ x ∷ []) ≡ true
unfolding own_names
own_names-behind name [] x own none = refl
own_names-behind name (y ∷ ys) x own none =
    let o = and_parts (not (list_any (λ z. bytes_eq (name z) (name y)) ys)) (own_names name ys) own in
    let n = or_parts (bytes_eq (name y) (name x)) (list_any (λ z. bytes_eq (name z) (name x)) ys) none in
    joined (ap not (none-behind (λ z. bytes_eq (name z) (name y)) ys x (not-true _ o.0) (bytes_eq-sym (name x) (name y) ∙ n.0))) (own_names-behind name ys x o.1 n.1)

-- What is found first or behind passes, where what is found behind does.
found : {X : Type 0} (p : X → Bool) (y x : X) (rest : Option X) (b : Bool) → p y ≡ b → (rest ≡ Some x → p x ≡ true) → cond b (Some y) rest ≡ Some x → p x ≡ true
found p y x rest true this later e = let f : y ≡ x = cc in ap p (sym f) ∙ this
found p y x rest false this later e = later e

-- what is found passes the test
pub find_is : {X : Type 0} (p : X → Bool) (xs : List X) (x : X) → find p xs ≡ Some x → p x ≡ true
find_is p [] x e = absurd cc
find_is p (y ∷ ys) x e = found p y x (find p ys) (p y) refl (find_is p ys x) e

-- Where no place is found first or behind, none passes.
none_by : (b rest : Bool) (i : ℕ) (o : Option ℕ) → is_none (cond b (Some i) o) ≡ true → (is_none o ≡ true → rest ≡ false) → (b || rest) ≡ false
none_by true rest i o e later = absurd cc
none_by false rest i o e later = later e

-- Where no place is found, counted from a number on, none passes.
from_none : {X : Type 0} (p : X → Bool) (xs : List X) (i : ℕ) → is_none (position_from p i xs) ≡ true → list_any p xs ≡ false
from_none p [] i e = refl
from_none p (x ∷ xs) i e = none_by (p x) (list_any p xs) i (position_from p (i + 1) xs) e (from_none p xs (i + 1))

-- where there is no place of one that passes, none does
pub position_none : {X : Type 0} (p : X → Bool) (xs : List X) → is_none (position p xs) ≡ true → list_any p xs ≡ false
position_none p xs e = from_none p xs 0 (ap is_none (sym (position_from-zero p xs)) ∙ e)

-- Where none passes, no place is found, counted from a number on.
from_absent : {X : Type 0} (p : X → Bool) (xs : List X) (i : ℕ) → list_any p xs ≡ false → position_from p i xs ≡ None
from_absent p [] i e = refl
from_absent p (x ∷ xs) i e = let parts = or_parts (p x) (list_any p xs) e in rw (parts.0) (from_absent p xs (i + 1) parts.1)

-- where none passes, there is no place of one
pub none_position : {X : Type 0} (p : X → Bool) (xs : List X) → list_any p xs ≡ false → is_none (position p xs) ≡ true
none_position p xs e = ap is_none (position_from-zero p xs ∙ from_absent p xs 0 e)

-- the element at a place passes
abbrev pub Passes : {X : Type 0} (p : X → Bool) (xs : List X) (k : ℕ) → Type 0
Passes {X} p xs k = (x : X) × (slice_get xs k ≡ Some x) × (p x ≡ true)

-- A place that is found first or behind is that of one that passes.
some_by : {X : Type 0} (p : X → Bool) (x : X) (xs : List X) (i k : ℕ) (b : Bool) (o : Option ℕ) → p x ≡ b → cond b (Some i) o ≡ Some k → (o ≡ Some k → (j : ℕ) × (k ≡ (i + 1) + j) × Passes p xs j)
    → (j : ℕ) × (k ≡ i + j) × Passes p (x ∷ xs) j
some_by p x xs i k true o this e later = let f : i ≡ k = cc in (0, omega (arith, f), (x, refl, this))
some_by p x xs i k false o this e later = let r = later e in (suc r.0, omega (arith, r.1), r.2)

-- A place that is found, counted from a number on, is that of one that passes.
from_some : {X : Type 0} (p : X → Bool) (xs : List X) (i k : ℕ) → position_from p i xs ≡ Some k → (j : ℕ) × (k ≡ i + j) × Passes p xs j
from_some p [] i k e = absurd cc
from_some p (x ∷ xs) i k e = some_by p x xs i k (p x) (position_from p (i + 1) xs) refl e (from_some p xs (i + 1) k)

-- the element at the place of the first that passes
pub position_is : {X : Type 0} (p : X → Bool) (xs : List X) (k : ℕ) → position p xs ≡ Some k → Passes p xs k
position_is p xs k e =
    let r = from_some p xs 0 k (sym (position_from-zero p xs) ∙ e) in
    let same : r.0 ≡ k = omega (arith, r.1) in
    subst (Passes p xs) same r.2

-- none before an element has its name, where all have their own
pub own_names-before : {X : Type 0} (name : X → List ℕ) (xs : List X) (x : X) (ys : List X) → own_names name (xs ++ x ∷ ys) ≡ true → list_any (λ y. bytes_eq (name y) (name x)) xs ≡ false
unfolding own_names
own_names-before name [] x ys own = refl
own_names-before name (y ∷ xs) x ys own =
    let o = and_parts (not (list_any (λ z. bytes_eq (name z) (name y)) (xs ++ x ∷ ys))) (own_names name (xs ++ x ∷ ys)) own in
    let n = or_parts (list_any (λ z. bytes_eq (name z) (name y)) xs) (bytes_eq (name x) (name y) || list_any (λ z. bytes_eq (name z) (name y)) ys) (sym (list_any-append (λ z. bytes_eq (name z) (name y)) xs (x ∷ ys)) ∙ not-true _ o.0) in
    let here = or_parts (bytes_eq (name x) (name y)) (list_any (λ z. bytes_eq (name z) (name y)) ys) n.1 in
    rw (bytes_eq-sym (name y) (name x), here.0) (own_names-before name xs x ys o.1)

-- where all of a list pass each of two tests, all pass both
pub all_and : {X : Type 0} (p q : X → Bool) (xs : List X) → list_all p xs ≡ true → list_all q xs ≡ true → list_all (λ x. p x && q x) xs ≡ true
all_and p q [] ps qs = refl
all_and p q (x ∷ xs) ps qs = let a = and_parts (p x) (list_all p xs) ps in let b = and_parts (q x) (list_all q xs) qs in joined (joined a.0 b.0) (all_and p q xs a.1 b.1)

-- where all of a list pass two tests, all pass each
pub all_both : {X : Type 0} (p q : X → Bool) (xs : List X) → list_all (λ x. p x && q x) xs ≡ true → (list_all p xs ≡ true) × (list_all q xs ≡ true)
all_both p q [] both = (refl, refl)
all_both p q (x ∷ xs) both =
    let a = and_parts (p x && q x) (list_all (λ y. p y && q y) xs) both in
    let b = and_parts (p x) (q x) a.0 in
    let rest = all_both p q xs a.1 in
    (joined b.0 rest.0, joined b.1 rest.1)
