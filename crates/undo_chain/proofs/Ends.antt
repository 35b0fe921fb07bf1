-- A list whose newest element stands last, read newest first.
use Rattle.std.proofs.Common.{◌≡◌, ◌≢◌, ℕ, ◌-◌, ◌+◌, Bool, true, false, List, [], ◌∷◌, ◌++◌, Option, None, Some, reverse, length, refl, sym, ◌∙◌, ap, subst, not, arith, cond, add-one, sub-one, length-append}
use Rattle.std.specs.Prelude.{All, filter, count_by, slice_get, option_to_list, IfSome}
use mathlib.Core.List.{reverse-cons, append-nil}
use Rattle.std.proofs.lemmas.List.{reverse-append, reverse-reverse}
use Rattle.std.proofs.lemmas.List.Elements.{filter-append, All-head, All-tail, All-push, All-same}
use Rattle.std.proofs.lemmas.List.Sums.{sum_by-cons}
use Rattle.std.proofs.lemmas.List.Sorted.{sum_by-IsPermutation, IsPermutation-reverse}
use Rattle.undo_chain.specs.declared.undo.Undo.{Undo}
use Rattle.undo_chain.specs.Entry.{is_move, is_own, is_in_view}
use Rattle.undo_chain.specs.Visible.{images_laid_back}
use Rattle.undo_chain.specs.Lawful.{IsLawful}
use Rattle.undo_chain.proofs.Pairs.{own_out_of_view}
use Rattle.undo_chain.proofs.Order.{IsLawful-tail}
use Rattle.undo_chain.proofs.Views.{images_passed}

-- the last element comes first
pub reverse-push : {X : Type 0} (xs : List X) (x : X) → reverse (xs ++ x ∷ []) ≡ x ∷ reverse xs
reverse-push xs x = reverse-append xs (x ∷ [])

-- the last element comes first the other way round
pub reverse-last : {X : Type 0} (es xs : List X) (x : X) → es ≡ xs ++ x ∷ [] → reverse es ≡ x ∷ reverse xs
reverse-last es xs x is = ap reverse is ∙ reverse-push xs x

-- An element that is kept stands last the other way round.
reverse-kept : {X : Type 0} (b : Bool) (x : X) (xs : List X) →
    reverse xs ++ cond b (x ∷ []) [] ≡ reverse (cond b (x ∷ xs) xs)
reverse-kept true x xs = sym (reverse-cons x xs)
reverse-kept false x xs = append-nil (reverse xs)

-- a filter keeps the same the other way round
pub filter-reverse : {X : Type 0} (p : X → Bool) (xs : List X) → filter p (reverse xs) ≡ reverse (filter p xs)
filter-reverse p [] = refl
filter-reverse p (x ∷ xs) =
    let whole : filter p (reverse (x ∷ xs)) ≡ filter p (reverse xs) ++ filter p (x ∷ []) =
    ap (filter p) (reverse-cons x xs) ∙ filter-append p (reverse xs) (x ∷ []) in
    whole ∙ rw (filter-reverse p xs) (reverse-kept (p x) x (filter p xs))

-- what a list without its last element keeps
pub popped_lawful : {D : Type 0} (es rest : List (Undo D)) (r : Option (Undo D)) →
    es ≡ rest ++ option_to_list r → IsLawful (reverse es) → IsLawful (reverse rest)
popped_lawful es rest None is lawful = subst (λ (xs : List (Undo _)). IsLawful (reverse xs)) (is ∙ append-nil rest) lawful
popped_lawful es rest (Some u) is lawful =
    IsLawful-tail u (reverse rest) (subst (λ (xs : List (Undo _)). IsLawful xs) (reverse-last es rest u is) lawful)

-- a reader that has the last entry not in view lays its image back first
pub popped_views : {D : Type 0} (es rest : List (Undo D)) (r : Option (Undo D)) → es ≡ rest ++ option_to_list r →
    IfSome
    r
    (λ undo. (stamp session : ℕ) → is_in_view undo stamp session ≡ false →
    images_laid_back (reverse es) stamp session ≡ undo.before ∷ images_laid_back (reverse rest) stamp session)
popped_views es rest None is = tt
popped_views es rest (Some u) is =
    λ stamp session out. rw (reverse-last es rest u is) (images_passed u (reverse rest) stamp session out)

-- The last element stands at the place that those before it count.
slice_get_last : {X : Type 0} (xs : List X) (x : X) → slice_get (xs ++ x ∷ []) (length xs) ≡ Some x
slice_get_last [] x = refl
slice_get_last (y ∷ xs) x = slice_get_last xs x

-- What is read at the last place comes first the other way round.
last_by : {X : Type 0} (xs : List X) (x : X) → Some x ≡ slice_get xs (length xs - 1) → (ys : List X) → reverse xs ≡ ys →
    (rest : List X) × (reverse xs ≡ x ∷ rest)
last_by xs x is [] turned =
    let empty : xs ≡ [] = sym (reverse-reverse xs) ∙ ap reverse turned in
    absurd (let none : Some x ≡ None = rw empty at is in (cc))
last_by xs x is (y ∷ rest) turned =
    let whole : xs ≡ reverse rest ++ y ∷ [] = sym (reverse-reverse xs) ∙ ap reverse turned ∙ reverse-cons y rest in
    let last : slice_get xs (length xs - 1) ≡ Some y =
    rw (whole, length-append (reverse rest) (y ∷ []), add-one, sub-one) (slice_get_last (reverse rest) y) in
    let same : Some x ≡ Some y = is ∙ last in
    let x_is : x ≡ y = cc in
    (rest, rw x_is turned)

-- the last element, read newest first
pub last_first : {X : Type 0} (xs : List X) (x : X) → Some x ≡ slice_get xs (length xs - 1) →
    (rest : List X) × (reverse xs ≡ x ∷ rest)
last_first xs x is = last_by xs x is (reverse xs) refl

-- another session that has the last entry's own session's image laid back no more
pub popped_own : {D : Type 0} (session : ℕ) (es rest : List (Undo D)) (newest : Undo D) (r : Option (Undo D)) →
    es ≡ rest ++ option_to_list r → Some newest ≡ slice_get es (length es - 1) → is_own newest session ≡ true →
    IfSome
    r
    (λ undo. (stamp me : ℕ) → me ≢ session →
    images_laid_back (reverse es) stamp me ≡ undo.before ∷ images_laid_back (reverse rest) stamp me)
popped_own session es rest newest None is last mine = tt
popped_own session es rest newest (Some u) is last mine =
    let found : (front : List (Undo _)) × (reverse es ≡ newest ∷ front) = last_first es newest last in
    let turned : reverse es ≡ u ∷ reverse rest = reverse-last es rest u is in
    let both : newest ∷ found.0 ≡ u ∷ reverse rest = sym found.1 ∙ turned in
    let same : newest ≡ u = cc in
    λ stamp me other.
    rw turned
    (images_passed
    u
    (reverse rest)
    stamp
    me
    (own_out_of_view u.stamp (is_move u.kind) u.session session stamp me other (ap (λ (e : Undo _). is_own e session) (sym same) ∙ mine)))

-- One element more is one more that passes or one more that is kept.
kept_count : (b : Bool) (n kept : ℕ) (X : Type 0) (x : X) (xs : List X) → length xs ≡ kept →
    cond b 1 0 + n + length (cond (not b) (x ∷ xs) xs) ≡ n + kept + 1
kept_count true n kept X x xs is = omega arith
kept_count false n kept X x xs is = omega arith

-- what passes a test and what doesn't are the whole
count_and_rest : {X : Type 0} (p : X → Bool) (xs : List X) →
    count_by p xs + length (filter (λ x. not (p x)) xs) ≡ length xs
count_and_rest p [] = refl
count_and_rest {X} p (x ∷ xs) =
    let step : count_by p (x ∷ xs) ≡ cond (p x) 1 0 + count_by p xs = sum_by-cons (λ y. cond (p y) 1 0) x xs in
    let rest : count_by p xs + length (filter (λ y. not (p y)) xs) ≡ length xs = count_and_rest p xs in
    let whole :
    cond (p x) 1 0 + count_by p xs + length (filter (λ y. not (p y)) (x ∷ xs))
    ≡ count_by p xs + length (filter (λ y. not (p y)) xs) + 1 =
    kept_count (p x) (count_by p xs) (length (filter (λ y. not (p y)) xs)) X x (filter (λ y. not (p y)) xs) refl in
    omega (arith, step, rest, whole)

-- how many a filter drops, counted newest first
pub dropped_count : {X : Type 0} (p : X → Bool) (xs kept : List X) → kept ≡ filter (λ x. not (p x)) xs →
    length xs - length kept ≡ count_by p (reverse xs)
dropped_count p xs kept is =
    let whole : count_by p xs + length (filter (λ x. not (p x)) xs) ≡ length xs = count_and_rest p xs in
    let turned : count_by p (reverse xs) ≡ count_by p xs =
    sum_by-IsPermutation (λ x. cond (p x) 1 0) xs (reverse xs) (IsPermutation-reverse xs) in
    let same : length kept ≡ length (filter (λ x. not (p x)) xs) = ap length is in
    omega (arith, whole, turned, same)

-- what holds of each element holds of each read newest first
pub All-reverse : {X : Type 0} (P : X → Type 0) (xs : List X) → All P xs → All P (reverse xs)
All-reverse P [] all = all
All-reverse P (x ∷ xs) all =
    All-same
    P
    (reverse (x ∷ xs))
    (reverse xs ++ x ∷ [])
    (reverse-cons x xs)
    (All-push P (reverse xs) x (All-reverse P xs (All-tail P x xs all)) (All-head P x xs all))

-- what holds of each the other way round holds of each
pub All-from_reverse : {X : Type 0} (P : X → Type 0) (xs : List X) → All P (reverse xs) → All P xs
All-from_reverse P xs all = All-same P xs (reverse (reverse xs)) (sym (reverse-reverse xs)) (All-reverse P (reverse xs) all)
