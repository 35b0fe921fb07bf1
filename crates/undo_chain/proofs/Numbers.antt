-- The largest number of the commits above a stamp, with a largest so far.
use Rattle.std.proofs.Common.{◌≡◌, ℕ, Bool, true, false, not, ◌&&◌, List, [], ◌∷◌, Option, None, Some, is_some, map, max, refl, ◌∙◌, cond, unwrap_or}
use Rattle.std.proofs.Math.Nat.{zero-max}
use Rattle.std.specs.Prelude.{All, filter, fold}
use Rattle.std.proofs.lemmas.List.Elements.{All-head, All-tail}
use Rattle.undo_chain.specs.declared.undo.Undo.{Undo}
use Rattle.undo_chain.specs.Entry.{is_move, is_stamped_by, is_commit_above}
use Rattle.undo_chain.specs.Conflict.{numbers_above, largest}

-- the largest of a number, if there is one, and a list
abbrev pub largest_with : Option ℕ → List ℕ → Option ℕ
largest_with None xs = largest xs
largest_with (Some m) xs = Some (fold max m xs)

-- Mapping a list with one more in front, if it is chosen, maps that too.
map_cond : {X Y : Type 0} (f : X → Y) (b : Bool) (x : X) (xs : List X) →
    map f (cond b (x ∷ xs) xs) ≡ cond b (f x ∷ map f xs) (map f xs)
map_cond f true x xs = refl
map_cond f false x xs = refl

-- an entry's number counts where it is a commit above the stamp
pub numbers_above-cons : {D : Type 0} (u : Undo D) (es : List (Undo D)) (stamp : ℕ) →
    numbers_above (u ∷ es) stamp ≡ cond (is_commit_above u stamp) (u.number ∷ numbers_above es stamp) (numbers_above es stamp)
numbers_above-cons u es stamp =
    map_cond (λ undo. undo.number) (is_commit_above u stamp) u (filter (λ undo. is_commit_above undo stamp) es)

-- An entry that is stamped by a stamp is no commit above it.
not_above : (some by move : Bool) → by ≡ true → some && not by && not move ≡ false
not_above true by move is = rw is refl
not_above false by move is = refl

-- below entries that are all stamped by the stamp there is none
pub numbers_above_none : {D : Type 0} (es : List (Undo D)) (stamp : ℕ) →
    All (λ undo. is_stamped_by undo stamp ≡ true) es → numbers_above es stamp ≡ []
numbers_above_none [] stamp all = refl
numbers_above_none (e ∷ es) stamp all =
    let here : is_stamped_by e stamp ≡ true = All-head (λ undo. is_stamped_by undo stamp ≡ true) e es all in
    numbers_above-cons e es stamp
    ∙ rw (not_above (is_some e.stamp) (is_stamped_by e stamp) (is_move e.kind) here)
    (numbers_above_none es stamp (All-tail (λ undo. is_stamped_by undo stamp ≡ true) e es all))

-- the step of a commit above the stamp, and of any other entry
pub largest_with-commit : {D : Type 0} (so_far : Option ℕ) (u : Undo D) (es : List (Undo D)) (stamp : ℕ) →
    is_commit_above u stamp ≡ true →
    largest_with (Some (max (unwrap_or so_far 0) u.number)) (numbers_above es stamp) ≡ largest_with so_far (numbers_above (u ∷ es) stamp)
largest_with-commit None u es stamp above = rw (numbers_above-cons u es stamp, above, zero-max u.number) refl
largest_with-commit (Some m) u es stamp above = rw (numbers_above-cons u es stamp, above) refl

-- an entry that is no commit above the stamp leaves the largest so far
pub largest_with-other : {D : Type 0} (so_far : Option ℕ) (u : Undo D) (es : List (Undo D)) (stamp : ℕ) →
    is_commit_above u stamp ≡ false →
    largest_with so_far (numbers_above es stamp) ≡ largest_with so_far (numbers_above (u ∷ es) stamp)
largest_with-other so_far u es stamp other = rw (numbers_above-cons u es stamp, other) refl

-- at an entry that is stamped by the stamp, the largest so far is the largest
pub largest_with-end : {D : Type 0} (so_far : Option ℕ) (es : List (Undo D)) (stamp : ℕ) →
    All (λ undo. is_stamped_by undo stamp ≡ true) es → largest_with so_far (numbers_above es stamp) ≡ so_far
largest_with-end None es stamp all = rw (numbers_above_none es stamp all) refl
largest_with-end (Some m) es stamp all = rw (numbers_above_none es stamp all) refl
