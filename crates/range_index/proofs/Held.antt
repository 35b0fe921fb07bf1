-- The set of an index's keys has exactly those that the map has.
use Rattle.std.proofs.Common.{◌≡◌, ℕ, ℤ, Bool, true, false, cond, ◌&&◌, T, List, [], ◌∷◌, ◌++◌, map, Option, None, Some, is_some, unwrap_or, refl, sym, ap, ◌∙◌, int_cmp, filter, length, arith, Result, Ok, Err, OnOk, OnErr}
use Rattle.std.specs.FinMap as finite
use Rattle.std.specs.BTreeMap.Range.{range_contains}
use Rattle.std.specs.BTreeSet.{BTreeSet, IsOrdered, contains}
use Rattle.std.specs.FinMap.{get-insert, get-remove}
use Rattle.std.specs.FinMap.Entries.{below_all, is_sorted}
use Rattle.std.proofs.lemmas.Int.{ints}
use Rattle.std.specs.declared.ops.Bound.TheVariants.{Included, Excluded}
use Rattle.std.specs.Prelude.{int_le}
use Rattle.std.specs.Cmp.{eq_by_cmp_equiv, int_cmp_total, tied_itself}
use Rattle.std.specs.List.{AllByRecursion}
use Rattle.std.specs.List.Sorted.{IsStrictlySortedBy}
use Rattle.std.proofs.lemmas.Map.Lookups.{btree_set_from_contains, exact_signed}
use Rattle.std.proofs.lemmas.Map.Views.{tells_apart}
use Rattle.std.specs.Ordering.{is_eq, is_lt}
use Rattle.std.specs.declared.cmp.Ordering.{Ordering}
use Rattle.std.specs.declared.cmp.Ordering.TheVariants.{Less, Equal, Greater}
use Rattle.key_index.specs.Candidates.{Places, candidates_of, with_candidates, without}

-- there is a place
abbrev pub is_some_place : List ℕ → Bool
is_some_place [] = false
is_some_place (place ∷ places) = true

-- What is looked up is there or not.
some_of : {X : Type 0} (b : Bool) (x y : Option X) → is_some (cond b x y) ≡ cond b (is_some x) (is_some y)
some_of true x y = refl
some_of false x y = refl

-- a key has a candidate behind a change of one key's, as it had, or, if it is that key, where there is one now
pub has_behind : (m : Places) (key : ℤ) (places : List ℕ) (q : ℤ)
    → finite.contains_key (with_candidates m key places) q ≡ cond (is_eq (int_cmp q key)) (is_some_place places) (finite.contains_key m q)
has_behind m key [] q = ap is_some (get-remove int_cmp_total m key q) ∙ some_of (is_eq (int_cmp q key)) None (finite.get m q)
has_behind m key (place ∷ places) q =
    ap is_some (get-insert int_cmp_total m key (place ∷ places) q) ∙ some_of (is_eq (int_cmp q key)) (Some (place ∷ places)) (finite.get m q)

-- A key is itself.
itself : (key : ℤ) → is_eq (int_cmp key key) ≡ true
itself key = ap is_eq (tied_itself int_cmp_total key)

-- the candidates of a key that were put there
pub candidates_behind : (m : Places) (key : ℤ) (places : List ℕ) → candidates_of (with_candidates m key places) key ≡ places
candidates_behind m key [] = ap (λ o. unwrap_or o []) (get-remove int_cmp_total m key key ∙ ap (λ b. cond b None (finite.get m key)) (itself key))
candidates_behind m key (place ∷ places) =
    ap (λ o. unwrap_or o []) (get-insert int_cmp_total m key (place ∷ places) key ∙ ap (λ b. cond b (Some (place ∷ places)) (finite.get m key)) (itself key))

-- one key is another or not, whichever stands first
pub turned : (a b : ℤ) → is_eq (int_cmp a b) ≡ is_eq (int_cmp b a)
turned a b = (eq_by_cmp_equiv int_cmp_total).symm a b

-- A list with one more behind it is not empty.
some_pushed : (places : List ℕ) (place : ℕ) → is_some_place (places ++ place ∷ []) ≡ true
some_pushed [] place = refl
some_pushed (first ∷ places) place = refl

-- Of two ways to tell one case from all others, the same is chosen.
same_cond : (a b c : Bool) (x y : Bool) → a ≡ b → c ≡ x → cond a c y ≡ cond b x y
same_cond a b c x y one other = ap (λ t. cond t c y) one ∙ ap (λ t. cond b t y) other

-- the keys where one is there, behind a candidate more of it
pub held_added : (m : Places) (key : ℤ) (places : List ℕ) (place : ℕ) (old new : ℤ → Bool)
    → ((q : ℤ) → old q ≡ finite.contains_key m q) → ((q : ℤ) → new q ≡ cond (is_eq (int_cmp key q)) true (old q))
    → (q : ℤ) → new q ≡ finite.contains_key (with_candidates m key (places ++ place ∷ [])) q
held_added m key places place old new held put q =
    put q ∙ ap (cond (is_eq (int_cmp key q)) true) (held q)
    ∙ same_cond (is_eq (int_cmp key q)) (is_eq (int_cmp q key)) true (is_some_place (places ++ place ∷ [])) (finite.contains_key m q) (turned key q) (sym (some_pushed places place))
    ∙ sym (has_behind m key (places ++ place ∷ []) q)

-- the keys without one, behind the drop of its last candidate
pub held_without : (m : Places) (key : ℤ) (old new : ℤ → Bool)
    → ((q : ℤ) → old q ≡ finite.contains_key m q) → ((q : ℤ) → new q ≡ cond (is_eq (int_cmp key q)) false (old q))
    → (q : ℤ) → new q ≡ finite.contains_key (with_candidates m key []) q
held_without m key old new held taken q =
    taken q ∙ ap (cond (is_eq (int_cmp key q)) false) (held q)
    ∙ ap (λ b. cond b false (finite.contains_key m q)) (turned key q)
    ∙ sym (has_behind m key [] q)

-- keys that are tied are one
tied : (q key : ℤ) → is_eq (int_cmp q key) ≡ true → q ≡ key
tied = tells_apart exact_signed

-- the keys as they were, where a key that has candidates had some
pub held_still : (m : Places) (key : ℤ) (places : List ℕ) (old : ℤ → Bool)
    → ((q : ℤ) → old q ≡ finite.contains_key m q) → finite.contains_key m key ≡ is_some_place places
    → (q : ℤ) → old q ≡ finite.contains_key (with_candidates m key places) q
held_still m key places old held there q = held q ∙ go (is_eq (int_cmp q key)) refl ∙ sym (has_behind m key places q)
  where
    go : (b : Bool) → is_eq (int_cmp q key) ≡ b → finite.contains_key m q ≡ cond (is_eq (int_cmp q key)) (is_some_place places) (finite.contains_key m q)
    go true e =
        ap (finite.contains_key m) (tied q key e) ∙ there ∙ ap (λ b. cond b (is_some_place places) (finite.contains_key m q)) (sym e)
    go false e = ap (λ b. cond b (is_some_place places) (finite.contains_key m q)) (sym e)

-- A key of which a candidate is left has some.
pub had : (m : Places) (key : ℤ) (place : ℕ) → is_some_place (without place (candidates_of m key)) ≡ true → finite.contains_key m key ≡ true
had m key place is = go (finite.get m key) is
  where
    go : (o : Option (List ℕ)) → is_some_place (without place (unwrap_or o [])) ≡ true → is_some o ≡ true
    go None is = is
    go (Some places) is = refl

-- a list that is not empty has a place
pub not_empty : (places : List ℕ) → (places ≡ [] → ⊥) → is_some_place places ≡ true
not_empty [] never = absurd (never refl)
not_empty (place ∷ places) some = refl

-- a list of no length is empty
pub no_length : (places : List ℕ) → length places ≡ 0 → places ≡ []
no_length [] e = refl
no_length (place ∷ places) e = absurd (omega (arith, e))

-- A key that has a candidate is one of the map's.
some_candidate : (m : Places) (key : ℤ) → is_some_place (candidates_of m key) ≡ true → finite.contains_key m key ≡ true
some_candidate m key is = go (finite.get m key) is
  where
    go : (o : Option (List ℕ)) → is_some_place (unwrap_or o []) ≡ true → is_some o ≡ true
    go None is = is
    go (Some places) is = refl

-- the keys as they were, where a key that had a candidate has one more, or not
pub held_more : {A B : Type 0} (m n : Places) (key : ℤ) (place : ℕ) (old : ℤ → Bool) (r : Result A B)
    → OnOk r (n ≡ with_candidates m key (candidates_of m key ++ place ∷ [])) → OnErr r (n ≡ m)
    → is_some_place (candidates_of m key) ≡ true → ((q : ℤ) → old q ≡ finite.contains_key m q)
    → (q : ℤ) → old q ≡ finite.contains_key n q
held_more m n key place old (Ok x) grown same some held q =
    held_still m key (candidates_of m key ++ place ∷ []) old held (some_candidate m key some ∙ sym (some_pushed (candidates_of m key) place)) q
    ∙ sym (ap (λ n. finite.contains_key n q) grown)
held_more m n key place old (Err x) grown same some held q = held q ∙ sym (ap (λ n. finite.contains_key n q) same)

-- ---- the keys in their order

-- Of two that hold together the first does, and the second.
first_of : (a b : Bool) → T (a && b) → T a
first_of true b h = tt
first_of false b h = h

second_of : (a b : Bool) → T (a && b) → T b
second_of true b h = h
second_of false b h = absurd h

-- What is tested to be less is less.
less : (o : Ordering) → T (is_lt o) → o ≡ Less
less Less h = refl
less Equal h = absurd h
less Greater h = absurd h

-- The entries of a map stand below one that does.
below : (key : ℤ) (es : List (ℤ × List ℕ)) → T (below_all int_cmp key es) → AllByRecursion (λ y. int_cmp key y ≡ Less) (map (λ (e : ℤ × List ℕ). e.0) es)
below key [] h = tt
below key (e ∷ es) h = (less (int_cmp key e.0) (first_of _ _ h), below key es (second_of _ _ h))

-- A sorted list of entries has sorted keys.
strict : (es : List (ℤ × List ℕ)) → T (is_sorted int_cmp es) → IsStrictlySortedBy int_cmp (map (λ (e : ℤ × List ℕ). e.0) es)
unfolding IsStrictlySortedBy
strict [] h = tt
strict (e ∷ es) h = (below e.0 es (first_of _ _ h), strict es (second_of _ _ h))

-- the set's keys are the map's, in their order
pub keys_are : (s : BTreeSet ℤ) (m : Places) → IsOrdered int_cmp s → ((q : ℤ) → contains int_cmp s q ≡ finite.contains_key m q) → s.keys ≡ finite.keys m
keys_are s m ordered held = btree_set_from_contains int_cmp_total s (record s { keys = finite.keys m }) ordered (strict (finite.entries m) (finite.entries_sorted m)) (λ q. held q ∙ finite.contains_key-keys m q) exact_signed

-- Lists that two tests choose alike from are one.
chosen : (p q : ℤ → Bool) (ks : List ℤ) → ((k : ℤ) → p k ≡ q k) → filter p ks ≡ filter q ks
chosen p q [] same = refl
chosen p q (k ∷ ks) same = ap (λ b. cond b (k ∷ filter p ks) (filter p ks)) (same k) ∙ ap (λ rest. cond (q k) (k ∷ rest) rest) (chosen p q ks same)

-- keys from one to another are those of a range with both its ends
pub both_ends : (low high : ℤ) (ks : List ℤ) → filter (range_contains int_cmp (Included low) (Included high)) ks ≡ filter (λ key. int_le low key && int_le key high) ks
both_ends low high ks = chosen (range_contains int_cmp (Included low) (Included high)) (λ key. int_le low key && int_le key high) ks (λ key. grind (arith, ints))

-- and there is none where the ends are turned round
pub turned_ends : (low high : ℤ) (ks : List ℤ) → int_le low high ≡ false → filter (range_contains int_cmp (Included low) (Excluded low)) ks ≡ filter (λ key. int_le low key && int_le key high) ks
turned_ends low high ks turned = chosen (range_contains int_cmp (Included low) (Excluded low)) (λ key. int_le low key && int_le key high) ks (λ key. grind (arith, ints, turned))
