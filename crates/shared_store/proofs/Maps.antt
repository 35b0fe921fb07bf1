-- A row's entry that was laid beforehand, and is then settled or taken away.
use Rattle.std.proofs.Common.{◌≡◌, ℕ, Bool, true, false, cond, [], ◌∷◌, Option, None, Some, is_some, ◌||◌, Ordering, Less, Equal, Greater, refl, sym, ap, ◌∙◌, true≢false, ℤ, ◌==◌, option_map, List, ◌++◌}
use Rattle.std.specs.Prelude.{find}
use Rattle.std.specs.BTreeMap.{insert_entry}
use Rattle.std.specs.BTreeSet.{insert_key}
use Rattle.std.specs.List.{list_any}
use Rattle.std.specs.Map.{remove_entry}
use Rattle.std.specs.Set.{remove_key}
use Rattle.std.specs.Ordering.{is_eq, match_ordering}
use Rattle.core_laws.proofs.Events.Slots.{num, num_refl}
use Rattle.isolation_spec.specs.Contents.{PlaceMap, at_place, is_place, place_cmp}
use Rattle.isolation_spec.specs.declared.place.Place.{Place}
use Rattle.shared_store.proofs.Places.{itself, laid_away, same}
use Rattle.shared_store.specs.Writing.{roomed}

-- the last of two values laid at one place stands
pub twice_laid : (m : PlaceMap ℕ) (p : Place) (one other : ℕ) → insert_entry place_cmp (insert_entry place_cmp m p one) p other ≡ insert_entry place_cmp m p other
twice_laid [] p one other = ap (λ r. match_ordering r ((p, other) ∷ (p, one) ∷ []) ((p, other) ∷ []) ((p, one) ∷ insert_entry place_cmp [] p other)) (same p)
twice_laid (e ∷ m) p one other = go (place_cmp p e.0) refl (twice_laid m p one other)
  where
    go : (r : Ordering) → place_cmp p e.0 ≡ r → insert_entry place_cmp (insert_entry place_cmp m p one) p other ≡ insert_entry place_cmp m p other
        → insert_entry place_cmp (match_ordering r ((p, one) ∷ e ∷ m) ((e.0, one) ∷ m) (e ∷ insert_entry place_cmp m p one)) p other
        ≡ match_ordering r ((p, other) ∷ e ∷ m) ((e.0, other) ∷ m) (e ∷ insert_entry place_cmp m p other)
    go Less is rest = ap (λ r. match_ordering r ((p, other) ∷ (p, one) ∷ e ∷ m) ((p, other) ∷ e ∷ m) ((p, one) ∷ insert_entry place_cmp (e ∷ m) p other)) (same p)
    go Equal is rest = ap (λ r. match_ordering r ((p, other) ∷ (e.0, one) ∷ m) ((e.0, other) ∷ m) ((e.0, one) ∷ insert_entry place_cmp m p other)) is
    go Greater is rest =
        ap (λ r. match_ordering r ((p, other) ∷ e ∷ insert_entry place_cmp m p one) ((e.0, other) ∷ insert_entry place_cmp m p one) (e ∷ insert_entry place_cmp (insert_entry place_cmp m p one) p other)) is
        ∙ ap (λ (es : PlaceMap ℕ). e ∷ es) rest

-- a place that a set did not have is taken out again
pub taken_out : (places : List Place) (p : Place) → list_any (is_place p) places ≡ false → remove_key (is_place p) (insert_key place_cmp places p) ≡ places
taken_out [] p new = ap (λ b. cond b [] (p ∷ [])) (itself p)
taken_out (q ∷ places) p new = go (place_cmp p q) refl new (taken_out places p)
  where
    go : (r : Ordering) → place_cmp p q ≡ r → (is_eq r || list_any (is_place p) places) ≡ false
        → (list_any (is_place p) places ≡ false → remove_key (is_place p) (insert_key place_cmp places p) ≡ places)
        → remove_key (is_place p) (match_ordering r (p ∷ q ∷ places) (q ∷ places) (q ∷ insert_key place_cmp places p)) ≡ q ∷ places
    go Less is new later = ap (λ b. cond b (q ∷ places) (p ∷ remove_key (is_place p) (q ∷ places))) (itself p)
    go Equal is new later = absurd (true≢false new)
    go Greater is new later =
        ap (λ r. cond (is_eq r) (insert_key place_cmp places p) (q ∷ remove_key (is_place p) (insert_key place_cmp places p))) is
        ∙ ap (λ (ps : List Place). q ∷ ps) (later new)

-- what was laid at a place lies there
laid_there : (m : PlaceMap ℕ) (p : Place) (one : ℕ) → at_place (insert_entry place_cmp m p one) p ≡ Some one
laid_there [] p one = ap (λ b. cond b (Some one) None) (itself p)
laid_there (e ∷ m) p one = go (place_cmp p e.0) refl (laid_there m p one)
  where
    go : (r : Ordering) → place_cmp p e.0 ≡ r → at_place (insert_entry place_cmp m p one) p ≡ Some one
        → at_place (match_ordering r ((p, one) ∷ e ∷ m) ((e.0, one) ∷ m) (e ∷ insert_entry place_cmp m p one)) p ≡ Some one
    go Less is rest = ap (λ b. cond b (Some one) (at_place (e ∷ m) p)) (itself p)
    go Equal is rest = ap (λ r. cond (is_eq r) (Some one) (at_place m p)) is
    go Greater is rest = ap (λ r. cond (is_eq r) (Some e.1) (at_place (insert_entry place_cmp m p one) p)) is ∙ rest

-- A number is not nothing.
some_none : (x : ℕ) → Some x ≡ None → ⊥
some_none x h = cc

-- a row for which room was made has an entry
pub roomed_there : (m : PlaceMap ℕ) (p : Place) (had : Bool) → is_some (at_place m p) ≡ had → at_place (roomed m p had) p ≡ None → ⊥
roomed_there m p false is none' = some_none 0 (sym (laid_there m p 0) ∙ none')
roomed_there m p true is none' = absurd (true≢false (sym is ∙ ap (λ (o : Option ℕ). is_some o) none'))

-- its slot is laid as if none had been made
pub roomed_laid : (m : PlaceMap ℕ) (p : Place) (had : Bool) (slot : ℕ) → insert_entry place_cmp (roomed m p had) p slot ≡ insert_entry place_cmp m p slot
roomed_laid m p false slot = twice_laid m p 0 slot
roomed_laid m p true slot = refl

-- and it is taken away as if none had been made
pub roomed_away : (m now later : PlaceMap ℕ) (p : Place) (had : Bool) → is_some (at_place m p) ≡ had → now ≡ roomed m p had
    → (had ≡ true → later ≡ now) → (had ≡ false → later ≡ remove_entry (is_place p) now) → later ≡ m
roomed_away m now later p false is room some' none' = none' refl ∙ ap (remove_entry (is_place p)) room ∙ laid_away m p 0 (go (at_place m p) is)
  where
    go : (o : Option ℕ) → is_some o ≡ false → o ≡ None
    go None h = refl
    go (Some x) h = absurd (true≢false h)
roomed_away m now later p true is room some' none' = some' refl ∙ room

-- ---- the least key of a table

-- the first that is found behind those of which none is
pub found_behind : {X : Type 0} (p : X → Bool) (xs ys : List X) → find p xs ≡ None → find p (xs ++ ys) ≡ find p ys
found_behind p [] ys none' = refl
found_behind {X} p (x ∷ xs) ys none' = go (p x) none' (found_behind p xs ys)
  where
    no : Some x ≡ None → ⊥
    no h = cc

    go : (b : Bool) → cond b (Some x) (find p xs) ≡ None → (find p xs ≡ None → find p (xs ++ ys) ≡ find p ys) → cond b (Some x) (find p (xs ++ ys)) ≡ find p ys
    go true h rest = absurd (no h)
    go false h rest = rest h

-- the entry is a row of the table
abbrev pub is_of : ℕ → Place × ℕ → Bool
is_of table write = write.0.table == table

-- the key of a written row
abbrev pub key_written : Place × ℕ → ℤ
key_written write = write.0.key

-- the next is the first, if it is of the table
pub least_next : (table : ℕ) (xs ys : PlaceMap ℕ) (e : Place × ℕ) → find (is_of table) xs ≡ None → e.0.table ≡ table
    → option_map key_written (find (is_of table) (xs ++ e ∷ ys)) ≡ Some e.0.key
least_next table xs ys e none' is =
    ap (option_map key_written) (found_behind (is_of table) xs (e ∷ ys) none' ∙ ap (λ b. cond b (Some e) (find (is_of table) ys)) (ap (λ t. t == table) is ∙ num_refl table))

-- and none is, if it is of another
pub none_next : (table : ℕ) (xs : PlaceMap ℕ) (e : Place × ℕ) → find (is_of table) xs ≡ None → (e.0.table ≡ table → ⊥) → find (is_of table) (xs ++ e ∷ []) ≡ None
none_next table xs e none' other = found_behind (is_of table) xs (e ∷ []) none' ∙ ap (λ b. cond b (Some e) None) (go (e.0.table == table) refl)
  where
    go : (b : Bool) → (e.0.table == table) ≡ b → (e.0.table == table) ≡ false
    go true is = absurd (other (num e.0.table table is))
    go false is = is
