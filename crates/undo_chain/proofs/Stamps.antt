-- The entries without a stamp stand above the others, and none of them is a commit.
use Rattle.std.proofs.Common.{◌≡◌, ◌-◌, ◌+◌, ◌<◌, ◌≤◌, ℕ, Bool, true, false, List, [], ◌∷◌, ◌++◌, Option, None, Some, is_some, take, drop, length, reverse, get_or, refl, sym, subst, ap, ◌∙◌, arith, nat_lt}
use Rattle.std.specs.Prelude.{All, MatchOption, IfNone, IsSomeAnd}
use Rattle.std.specs.List.Sorted.{IsPartitionedBy}
use Rattle.std.proofs.lemmas.Bool.Decides.{nat_tests}
use Rattle.std.proofs.lemmas.List.{get_or-drop, get_or-reverse, length-drop, length-reverse, reverse-append, take-append-drop}
use Rattle.std.proofs.lemmas.List.Elements.{All-head, All-tail}
use Rattle.undo_chain.specs.declared.undo.Undo.{Undo}
use Rattle.undo_chain.specs.Entry.{is_commit_above}
use Rattle.undo_chain.specs.Conflict.{numbers_above}
use Rattle.undo_chain.specs.Lawful.{IsLawful, MayStandAbove}
use Rattle.undo_chain.proofs.Numbers.{numbers_above-cons}
use Rattle.undo_chain.proofs.Order.{IsLawful-tail}

-- What may have a stamp above it has one.
stamp_below : (P : Type 0) (newer older : Option ℕ) → MatchOption newer (IfNone older P) (λ stamp. IsSomeAnd older (λ below. below ≤ stamp))
    → is_some newer ≡ true → is_some older ≡ true
stamp_below P None older above some = cc
stamp_below P (Some stamp) None above some = absurd above
stamp_below P (Some stamp) (Some below) above some = refl

-- oldest first, no entry with a stamp stands behind one without
pub stamped_first : {D : Type 0} (xs : List (Undo D)) → IsLawful (reverse xs) → IsPartitionedBy (λ undo. is_some undo.stamp) xs
stamped_first xs lawful i j d le less some = go (nat_lt i j) refl
  where
    here : (k : ℕ) → k < length xs → get_or (reverse xs) (length xs - 1 - k) d ≡ get_or xs k d
    here k l = get_or-reverse xs (length xs - 1 - k) d (omega (arith, l)) ∙ ap (λ m. get_or xs m d) (let e : length xs - 1 - (length xs - 1 - k) ≡ k = omega (arith, l) in e)

    below : (a b : ℕ) → nat_lt a b ≡ true → a < b
    below a b e = grind (arith, nat_tests)

    same : (a b : ℕ) → nat_lt a b ≡ false → a ≤ b → a ≡ b
    same a b e l = grind (arith, nat_tests)

    above : i < j → MayStandAbove (get_or xs j d) (get_or xs i d)
    above before =
        let n = length-reverse xs in
        let pair = lawful.order (length xs - 1 - j) (length xs - 1 - i) d (omega (arith, before, less)) (omega (arith, before, less, n)) in
        subst (λ u. MayStandAbove u (get_or xs i d)) (here j less)
        (subst (MayStandAbove (get_or (reverse xs) (length xs - 1 - j) d)) (here i (omega (arith, before, less))) pair)

    go : (b : Bool) → nat_lt i j ≡ b → is_some (get_or xs i d).stamp ≡ true
    go true e = stamp_below ((get_or xs j d).session ≡ (get_or xs i d).session) (get_or xs j d).stamp (get_or xs i d).stamp (above (below i j e)) some
    go false e = ap (λ k. is_some (get_or xs k d).stamp) (same i j e le) ∙ some

-- what stands below is lawful
IsLawful-below : {D : Type 0} (us es : List (Undo D)) → IsLawful (us ++ es) → IsLawful es
IsLawful-below [] es lawful = lawful
IsLawful-below (u ∷ us) es lawful = IsLawful-below us es (IsLawful-tail u (us ++ es) lawful)

-- An entry without a stamp has no number above one.
numbers_of_rest : {D : Type 0} (us es : List (Undo D)) (stamp : ℕ) → All (λ undo. is_some undo.stamp ≡ false) us
    → numbers_above (us ++ es) stamp ≡ numbers_above es stamp
numbers_of_rest [] es stamp all = refl
numbers_of_rest (u ∷ us) es stamp all =
    let none : is_some u.stamp ≡ false = All-head (λ undo. is_some undo.stamp ≡ false) u us all in
    let not_above : is_commit_above u stamp ≡ false = rw none refl in
    numbers_above-cons u (us ++ es) stamp
    ∙ rw not_above (numbers_of_rest us es stamp (All-tail (λ undo. is_some undo.stamp ≡ false) u us all))

-- Where the entries from one on have no stamp, they are those above the others.
parts : {D : Type 0} (xs : List (Undo D)) (count : ℕ) → reverse (drop count xs) ++ reverse (take count xs) ≡ reverse xs
parts xs count = sym (reverse-append (take count xs) (drop count xs)) ∙ ap reverse (take-append-drop count xs)

pub stamped_lawful : {D : Type 0} (xs : List (Undo D)) (count : ℕ) → IsLawful (reverse xs) → IsLawful (reverse (take count xs))
stamped_lawful xs count lawful = IsLawful-below (reverse (drop count xs)) (reverse (take count xs)) (subst IsLawful (sym (parts xs count)) lawful)

-- those below have the numbers of all
pub stamped_numbers : {D : Type 0} (xs : List (Undo D)) (count stamp : ℕ)
    → ((k : ℕ) (d : Undo D) → count ≤ k → k < length xs → is_some (get_or xs k d).stamp ≡ false)
    → numbers_above (reverse (take count xs)) stamp ≡ numbers_above (reverse xs) stamp
stamped_numbers {D} xs count stamp none =
    sym (numbers_of_rest (reverse (drop count xs)) (reverse (take count xs)) stamp all) ∙ ap (λ es. numbers_above es stamp) (parts xs count)
  where
    all : All (λ undo. is_some undo.stamp ≡ false) (reverse (drop count xs))
    all k d l =
        let n = length-reverse (drop count xs) in
        let m = length-drop count xs in
        ap (λ (u : Undo D). is_some u.stamp) (get_or-reverse (drop count xs) k d (omega (arith, l, n)) ∙ get_or-drop count xs (length (drop count xs) - 1 - k) d)
        ∙ none (count + (length (drop count xs) - 1 - k)) d (omega arith) (omega (arith, l, n, m))
