-- A commit that goes from the last element of a list towards its front, as far as the session's own
-- entries reach.
use Rattle.std.proofs.Common.{◌≡◌, ℕ, ◌-◌, ◌<◌, ◌≤◌, true, false, List, [], ◌∷◌, ◌++◌, map, reverse, take, drop, set, get_or, length, zero, suc, Some, refl, sym, ◌∙◌, ap, subst, arith}
use Rattle.std.specs.Prelude.{All}
use mathlib.Core.List.{reverse-cons}
use Rattle.std.proofs.lemmas.List.{reverse-append, reverse-reverse, map-append, take-append-drop}
use Rattle.std.proofs.lemmas.List.Elements.{All-head, All-tail}
use Rattle.undo_chain.specs.declared.undo.Undo.{Undo}
use Rattle.undo_chain.specs.Entry.{is_own}
use Rattle.undo_chain.specs.Lawful.{IsLawful}
use Rattle.undo_chain.specs.Stamped.{stamped}
use Rattle.undo_chain.proofs.Order.{IsLawful-tail, all_not_own}

-- a list is changed the same way the other way round
pub map-reverse : {X Y : Type 0} (f : X → Y) (xs : List X) → map f (reverse xs) ≡ reverse (map f xs)
map-reverse f [] = refl
map-reverse f (x ∷ xs) =
    ap (map f) (reverse-cons x xs)
    ∙ map-append f (reverse xs) (x ∷ [])
    ∙ rw (map-reverse f xs) (sym (reverse-cons (f x) (map f xs)))

-- one more element from the end has been changed
pub map_step : {X : Type 0} (f : X → X) (xs : List X) (k : ℕ) (x y : X) → k < length xs → x ≡ get_or xs k x → y ≡ f x →
    set (take (suc k) xs ++ map f (drop (suc k) xs)) k y ≡ take k xs ++ map f (drop k xs)
map_step f [] k x y within at is = absurd (omega arith)
map_step f (z ∷ zs) zero x y within at is =
    let here : y ≡ f z = is ∙ ap f at in
    ap (λ w. w ∷ map f zs) here
map_step f (z ∷ zs) (suc k) x y within at is =
    ap (λ ws. z ∷ ws) (map_step f zs k x y (omega arith) at is)

-- what follows the first entries of a lawful list is lawful
IsLawful-after : {D : Type 0} (front es : List (Undo D)) → IsLawful (front ++ es) → IsLawful es
IsLawful-after [] es lawful = lawful
IsLawful-after (u ∷ front) es lawful = IsLawful-after front es (IsLawful-tail u (front ++ es) lawful)

-- a commit leaves entries that are not the session's own
stamped_none : {D : Type 0} (session stamp number : ℕ) (es : List (Undo D)) →
    All (λ undo. is_own undo session ≡ false) es → map (stamped session stamp number) es ≡ es
stamped_none session stamp number [] all = refl
stamped_none session stamp number (e ∷ es) all =
    let here : is_own e session ≡ false = All-head (λ undo. is_own undo session ≡ false) e es all in
    let same : stamped session stamp number e ≡ e = rw here refl in
    let rest : map (stamped session stamp number) es ≡ es =
    stamped_none session stamp number es (All-tail (λ undo. is_own undo session ≡ false) e es all) in
    cc

-- Taking one more takes the element behind those taken.
last_taken : {X : Type 0} (xs : List X) (k : ℕ) (x : X) → k < length xs → x ≡ get_or xs k x →
    take (suc k) xs ≡ take k xs ++ x ∷ []
last_taken [] k x within at = absurd (omega arith)
last_taken (z ∷ zs) zero x within at = ap (λ w. w ∷ []) (sym at)
last_taken (z ∷ zs) (suc k) x within at = ap (λ ws. z ∷ ws) (last_taken zs k x (omega arith) at)

-- where an entry isn't the session's own, no older one is, and the commit is done
pub stamped_from : {D : Type 0} (session stamp number : ℕ) (xs : List (Undo D)) (k : ℕ) (x : Undo D) →
    IsLawful (reverse xs) → k < length xs → x ≡ get_or xs k x → is_own x session ≡ false →
    take (suc k) xs ++ map (stamped session stamp number) (drop (suc k) xs) ≡ map (stamped session stamp number) xs
stamped_from session stamp number xs k x lawful within at other =
    let front : List (Undo _) = take (suc k) xs in
    let back : List (Undo _) = drop (suc k) xs in
    let f : Undo _ → Undo _ = stamped session stamp number in
    let split : reverse xs ≡ reverse back ++ reverse front =
    ap reverse (sym (take-append-drop (suc k) xs)) ∙ reverse-append front back in
    let older : IsLawful (reverse front) =
    IsLawful-after (reverse back) (reverse front) (subst (λ (es : List (Undo _)). IsLawful es) split lawful) in
    let turned : reverse front ≡ x ∷ reverse (take k xs) =
    ap reverse (last_taken xs k x within at) ∙ reverse-append (take k xs) (x ∷ []) in
    let none : All (λ undo. is_own undo session ≡ false) (reverse front) =
    subst
    (λ (es : List (Undo _)). All (λ undo. is_own undo session ≡ false) es)
    (sym turned)
    (all_not_own session x (reverse (take k xs)) (subst (λ (es : List (Undo _)). IsLawful es) turned older) other) in
    let same : map f front ≡ front =
    sym (reverse-reverse (map f front))
    ∙ ap reverse (sym (map-reverse f front) ∙ stamped_none session stamp number (reverse front) none)
    ∙ reverse-reverse front in
    ap (λ (es : List (Undo _)). es ++ map f back) (sym same)
    ∙ sym (map-append f front back)
    ∙ ap (map f) (take-append-drop (suc k) xs)

-- an element before the changed ones is as it was
before_changed : {X : Type 0} (xs back : List X) (k : ℕ) (d : X) → k < length xs →
    get_or (take (suc k) xs ++ back) k d ≡ get_or xs k d
before_changed [] back k d within = absurd (omega arith)
before_changed (z ∷ zs) back zero d within = refl
before_changed (z ∷ zs) back (suc k) d within = before_changed zs back k d (omega arith)

-- What is read twice at one place is the same.
read_twice : {X : Type 0} (xs : List X) (k : ℕ) (x y : X) → k < length xs → x ≡ get_or xs k x → y ≡ get_or xs k y → y ≡ x
read_twice [] k x y within first second = absurd (omega arith)
read_twice (z ∷ zs) zero x y within first second = second ∙ sym first
read_twice (z ∷ zs) (suc k) x y within first second = read_twice zs k x y (omega arith) first second

-- where the entries from a place on have been committed
abbrev pub committed_from : {D : Type 0} → ℕ → ℕ → ℕ → List (Undo D) → ℕ → List (Undo D)
committed_from session stamp number xs from = take from xs ++ map (stamped session stamp number) (drop from xs)

-- The entry before those that are committed is as it was.
at_place : {D : Type 0} (session stamp number : ℕ) (xs items : List (Undo D)) (k : ℕ) (x : Undo D) → k < length xs →
    items ≡ committed_from session stamp number xs (suc k) → x ≡ get_or items k x → x ≡ get_or xs k x
at_place session stamp number xs items k x within is at =
    at ∙ ap (λ (es : List (Undo _)). get_or es k x) is ∙ before_changed xs (map (stamped session stamp number) (drop (suc k) xs)) k x within

-- the step: the entry before the place is the session's own, and is committed too
pub committed_step : {D : Type 0} (session stamp number : ℕ) (xs items : List (Undo D)) (from : ℕ) (x y changed : Undo D) →
    0 < from → from ≤ length xs → items ≡ committed_from session stamp number xs from →
    x ≡ get_or items (from - 1) x → is_own x session ≡ true → y ≡ get_or items (from - 1) y →
    changed ≡ record y { stamp = Some stamp; number = number } →
    set items (from - 1) changed ≡ committed_from session stamp number xs (from - 1)
committed_step session stamp number xs items from x y changed some within is at_x mine at_y is_changed =
    let k : ℕ = from - 1 in
    let from_is : from ≡ suc k = omega arith in
    let inside : k < length xs = omega arith in
    let is_k : items ≡ committed_from session stamp number xs (suc k) =
    is ∙ ap (committed_from session stamp number xs) from_is in
    let x_at : x ≡ get_or xs k x = at_place session stamp number xs items k x inside is_k at_x in
    let y_at : y ≡ get_or xs k y = at_place session stamp number xs items k y inside is_k at_y in
    let same : y ≡ x = read_twice xs k x y inside x_at y_at in
    let mine_y : is_own y session ≡ true = ap (λ (e : Undo _). is_own e session) same ∙ mine in
    let changed_is : changed ≡ stamped session stamp number y = is_changed ∙ rw mine_y refl in
    ap (λ (es : List (Undo _)). set es k changed) is_k
    ∙ map_step (stamped session stamp number) xs k y changed inside y_at changed_is

-- the end at the front
pub committed_all : {D : Type 0} (session stamp number : ℕ) (xs items : List (Undo D)) (from : ℕ) →
    from ≤ 0 → items ≡ committed_from session stamp number xs from → items ≡ map (stamped session stamp number) xs
committed_all session stamp number xs items from none is =
    let from_is : from ≡ 0 = omega arith in
    is ∙ ap (committed_from session stamp number xs) from_is

-- the end at an entry that isn't the session's own
pub committed_rest : {D : Type 0} (session stamp number : ℕ) (xs items : List (Undo D)) (from : ℕ) (x : Undo D) →
    IsLawful (reverse xs) → 0 < from → from ≤ length xs → items ≡ committed_from session stamp number xs from →
    x ≡ get_or items (from - 1) x → is_own x session ≡ false → items ≡ map (stamped session stamp number) xs
committed_rest session stamp number xs items from x lawful some within is at_x other =
    let k : ℕ = from - 1 in
    let from_is : from ≡ suc k = omega arith in
    let inside : k < length xs = omega arith in
    let is_k : items ≡ committed_from session stamp number xs (suc k) =
    is ∙ ap (committed_from session stamp number xs) from_is in
    let x_at : x ≡ get_or xs k x = at_place session stamp number xs items k x inside is_k at_x in
    is_k ∙ stamped_from session stamp number xs k x lawful inside x_at other

-- a list that was committed, read newest first
pub committed_reverse : {D : Type 0} (session stamp number : ℕ) (xs items : List (Undo D)) →
    items ≡ map (stamped session stamp number) xs → reverse items ≡ map (stamped session stamp number) (reverse xs)
committed_reverse session stamp number xs items is = ap reverse is ∙ sym (map-reverse (stamped session stamp number) xs)
