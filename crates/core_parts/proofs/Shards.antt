-- Shards that lose their candidates one by one.
use Rattle.std.proofs.Common.{◌≡◌, ◌≢◌, ◌⊎◌, ℕ, suc, ◌+◌, ◌<◌, ℤ, Bool, true, false, cond, not, ◌&&◌, ◌||◌, ◌==◌, nat_lt, List, [], ◌∷◌, ◌++◌, Option, None, Some, option_map, unwrap_or, fold, length, refl, sym, ap, ◌∙◌, subst, arith}
use mathlib.Core.Logic.{inl, inr}
use Rattle.std.specs.Prelude.{filter, remove}
use Rattle.std.specs.List.{list_any, position_or_len}
use Rattle.std.proofs.lemmas.Bool.Decides.{nat_tests}
use Rattle.std.specs.Ordering.{int_cmp, eq_by_cmp}
use Rattle.std.specs.Cmp.{int_cmp_total}
use Rattle.std.specs.FinMap as finite
use Rattle.std.specs.FinMap.{get-insert, get-remove, int_cmp-IsAntisymmetric, same_map}
use Rattle.core_laws.proofs.Events.Aborted.{kept_is}
use Rattle.core_laws.proofs.Events.Places.{key_cases}
use Rattle.event_spec.specs.Effects.{kept_places, with_place}
use Rattle.core_laws.proofs.Frames.Replies.{filter_same}
use Rattle.core_laws.proofs.Frames.Shards.{kept_stays}
use Rattle.key_index.specs.Candidates.{Places, candidates_of, with_candidates, without}
use Rattle.core_parts.specs.Laws.{AddedIsDropped, DropsGoOn, SweepRests, SweepsAgree}
use Rattle.core_parts.specs.Shards.{without_place}

-- True is not the same as false.
true_false : true ≡ false → ⊥
true_false e = cc

-- ---- a shard by its candidates

-- no key has an empty entry
abbrev pub Filled : Places → Type 0
Filled ix = (key : ℤ) → finite.get ix key ≢ Some []

-- shards without an empty entry that have the same candidates are one
pub shard_is : (x y : Places) → Filled x → Filled y → ((key : ℤ) → candidates_of x key ≡ candidates_of y key) → x ≡ y
shard_is x y some more same = same_map int_cmp_total int_cmp-IsAntisymmetric x y (λ q. gets (finite.get x q) (finite.get y q) (some q) (more q) (same q))
  where
    gets : (a b : Option (List ℕ)) → a ≢ Some [] → b ≢ Some [] → unwrap_or a [] ≡ unwrap_or b [] → a ≡ b
    gets None None s m e = refl
    gets None (Some []) s m e = absurd (m refl)
    gets None (Some (p ∷ ps)) s m e = cc
    gets (Some []) b s m e = absurd (s refl)
    gets (Some (p ∷ ps)) None s m e = cc
    gets (Some (p ∷ ps)) (Some qs) s m e = ap Some e

-- the candidates of a key after those of one key were put
pub put_is : (ix : Places) (key k : ℤ) (ps : List ℕ) → candidates_of (with_candidates ix key ps) k ≡ cond (eq_by_cmp int_cmp k key) ps (candidates_of ix k)
put_is ix key k [] = ap (λ o. unwrap_or o []) (get-remove int_cmp_total ix key k) ∙ go (eq_by_cmp int_cmp k key)
  where
    go : (b : Bool) → unwrap_or (cond b None (finite.get ix k)) [] ≡ cond b [] (candidates_of ix k)
    go true = refl
    go false = refl
put_is ix key k (p ∷ ps) = ap (λ o. unwrap_or o []) (get-insert int_cmp_total ix key (p ∷ ps) k) ∙ go (eq_by_cmp int_cmp k key)
  where
    go : (b : Bool) → unwrap_or (cond b (Some (p ∷ ps)) (finite.get ix k)) [] ≡ cond b (p ∷ ps) (candidates_of ix k)
    go true = refl
    go false = refl

-- After candidates of a key were put, no key has an empty entry.
filled_with : (ix : Places) (key : ℤ) (ps : List ℕ) → Filled ix → Filled (with_candidates ix key ps)
filled_with ix key [] some k is = go (eq_by_cmp int_cmp k key) (finite.get ix k) (some k) (sym (get-remove int_cmp_total ix key k) ∙ is)
  where
    go : (b : Bool) (o : Option (List ℕ)) → o ≢ Some [] → cond b None o ≡ Some [] → ⊥
    go true o s e = cc
    go false o s e = s e
filled_with ix key (p ∷ ps) some k is = go (eq_by_cmp int_cmp k key) (finite.get ix k) (some k) (sym (get-insert int_cmp_total ix key (p ∷ ps) k) ∙ is)
  where
    never : Some (p ∷ ps) ≡ Some [] → ⊥
    never e = cc

    go : (b : Bool) (o : Option (List ℕ)) → o ≢ Some [] → cond b (Some (p ∷ ps)) o ≡ Some [] → ⊥
    go true o s e = never e
    go false o s e = s e

-- After a sweep of the candidates, no key has an empty entry.
filled_kept : (keep : ℕ → Bool) (ix : Places) → Filled ix → Filled (kept_places keep ix)
filled_kept keep ix some = go (finite.entries ix) ix some
  where
    go : (es : List (ℤ × List ℕ)) (now : Places) → Filled now → Filled (fold (λ now (e : ℤ × List ℕ). with_candidates now e.0 (filter keep (candidates_of ix e.0))) now es)
    go [] now s = s
    go (e ∷ es) now s = go es (with_candidates now e.0 (filter keep (candidates_of ix e.0))) (filled_with now e.0 (filter keep (candidates_of ix e.0)) s)

-- the candidates of a key, and of another
put_here : (ix : Places) (key k : ℤ) (ps : List ℕ) → k ≡ key → eq_by_cmp int_cmp k key ≡ true → candidates_of (with_candidates ix key ps) k ≡ ps
put_here ix key k ps same e = put_is ix key k ps ∙ ap (λ b. cond b ps (candidates_of ix k)) e

-- The candidates of another key are what they were before some were put.
put_else : (ix : Places) (key k : ℤ) (ps : List ℕ) → eq_by_cmp int_cmp k key ≡ false → candidates_of (with_candidates ix key ps) k ≡ candidates_of ix k
put_else ix key k ps e = put_is ix key k ps ∙ ap (λ b. cond b ps (candidates_of ix k)) e

-- the candidates that are put last count
pub put_twice : (ix : Places) (key : ℤ) (ps qs : List ℕ) → with_candidates (with_candidates ix key ps) key qs ≡ with_candidates ix key qs
put_twice ix key ps qs = same_map int_cmp_total int_cmp-IsAntisymmetric (with_candidates (with_candidates ix key ps) key qs) (with_candidates ix key qs) (λ q. at qs q)
  where
    twice : {X : Type 0} (b : Bool) (x y z : X) → cond b x (cond b y z) ≡ cond b x z
    twice true x y z = refl
    twice false x y z = refl

    inner : (ps : List ℕ) (q : ℤ) (x : Option (List ℕ)) → cond (eq_by_cmp int_cmp q key) x (finite.get (with_candidates ix key ps) q) ≡ cond (eq_by_cmp int_cmp q key) x (finite.get ix q)
    inner [] q x = ap (cond (eq_by_cmp int_cmp q key) x) (get-remove int_cmp_total ix key q) ∙ twice (eq_by_cmp int_cmp q key) x None (finite.get ix q)
    inner (p ∷ ps) q x = ap (cond (eq_by_cmp int_cmp q key) x) (get-insert int_cmp_total ix key (p ∷ ps) q) ∙ twice (eq_by_cmp int_cmp q key) x (Some (p ∷ ps)) (finite.get ix q)

    at : (qs : List ℕ) (q : ℤ) → finite.get (with_candidates (with_candidates ix key ps) key qs) q ≡ finite.get (with_candidates ix key qs) q
    at [] q = get-remove int_cmp_total (with_candidates ix key ps) key q ∙ inner ps q None ∙ sym (get-remove int_cmp_total ix key q)
    at (x ∷ qs) q =
        get-insert int_cmp_total (with_candidates ix key ps) key (x ∷ qs) q ∙ inner ps q (Some (x ∷ qs)) ∙ sym (get-insert int_cmp_total ix key (x ∷ qs) q)

-- a key has the candidates that were put for it
pub put_itself : (ix : Places) (key : ℤ) (ps : List ℕ) → candidates_of (with_candidates ix key ps) key ≡ ps
put_itself ix key ps = at (key_cases key key)
  where
    at : ((eq_by_cmp int_cmp key key ≡ true) × (key ≡ key)) ⊎ ((eq_by_cmp int_cmp key key ≡ false) × (key ≢ key)) → candidates_of (with_candidates ix key ps) key ≡ ps
    at (inl x) = put_here ix key key ps refl x.0
    at (inr x) = absurd (x.1 refl)

-- ---- a place that is dropped until it is none of the candidates

-- all but a place
abbrev pub others_of : ℕ → List ℕ → List ℕ
others_of place ps = filter (λ other. not (other == place)) ps

-- the places without that at an index, or all where there is none so far
abbrev found : ℕ → List ℕ → List ℕ
found n ps = unwrap_or (option_map (remove ps) (cond (nat_lt n (length ps)) (Some n) None)) ps

-- Zero is tested as below the successor of a number.
lt_first : (n : ℕ) → nat_lt 0 (suc n) ≡ true
lt_first n = grind (arith, nat_tests)

-- Two successors are tested as the numbers themselves.
lt_next : (n m : ℕ) → nat_lt (suc n) (suc m) ≡ nat_lt n m
lt_next n m = grind (arith, nat_tests)

-- Without the first of the places, those behind it are left.
found_first : (x : ℕ) (ps : List ℕ) → found 0 (x ∷ ps) ≡ ps
found_first x ps = ap (λ b. unwrap_or (option_map (remove (x ∷ ps)) (cond b (Some 0) None)) (x ∷ ps)) (lt_first (length ps))

-- Without one of the places behind the first, the first stays in front.
found_next : (n x : ℕ) (ps : List ℕ) → found (suc n) (x ∷ ps) ≡ x ∷ found n ps
found_next n x ps = ap (λ b. unwrap_or (option_map (remove (x ∷ ps)) (cond b (Some (suc n)) None)) (x ∷ ps)) (lt_next n (length ps)) ∙ go (nat_lt n (length ps))
  where
    go : (b : Bool) → unwrap_or (option_map (remove (x ∷ ps)) (cond b (Some (suc n)) None)) (x ∷ ps) ≡ x ∷ unwrap_or (option_map (remove ps) (cond b (Some n) None)) ps
    go true = refl
    go false = refl

-- the first of the places that is a given one is gone
without_cons : (place x : ℕ) (ps : List ℕ) → without place (x ∷ ps) ≡ cond (x == place) ps (x ∷ without place ps)
without_cons place x ps = go (x == place)
  where
    more : (n : ℕ) → 1 + n ≡ suc n
    more n = omega arith

    go : (b : Bool) → found (cond (not b) (1 + position_or_len (λ other. other == place) ps) 0) (x ∷ ps) ≡ cond b ps (x ∷ without place ps)
    go true = found_first x ps
    go false = ap (λ n. found n (x ∷ ps)) (more (position_or_len (λ other. other == place) ps)) ∙ found_next (position_or_len (λ other. other == place) ps) x ps

-- one occurrence of a place less leaves the other places
pub without_others : (place : ℕ) (ps : List ℕ) → others_of place (without place ps) ≡ others_of place ps
without_others place [] = refl
without_others place (x ∷ ps) = ap (others_of place) (without_cons place x ps) ∙ go (x == place) refl (without_others place ps)
  where
    go : (b : Bool) → (x == place) ≡ b → others_of place (without place ps) ≡ others_of place ps
        → others_of place (cond (x == place) ps (x ∷ without place ps)) ≡ cond (not (x == place)) (x ∷ others_of place ps) (others_of place ps)
    go true is rest = ap (λ b. others_of place (cond b ps (x ∷ without place ps))) is ∙ ap (λ b. cond (not b) (x ∷ others_of place ps) (others_of place ps)) (sym is)
    go false is rest =
        ap (λ b. others_of place (cond b ps (x ∷ without place ps))) is
        ∙ ap (λ ys. cond (not (x == place)) (x ∷ ys) ys) rest

-- where the place stands the list gets shorter
pub without_shorter : (place : ℕ) (ps : List ℕ) → list_any (λ other. other == place) ps ≡ true → length (without place ps) < length ps
without_shorter place [] is = absurd (true_false (sym is))
without_shorter place (x ∷ ps) is = subst (λ ys. length ys < length (x ∷ ps)) (sym (without_cons place x ps)) (go (x == place) is (without_shorter place ps))
  where
    go : (b : Bool) → (b || list_any (λ other. other == place) ps) ≡ true → (list_any (λ other. other == place) ps ≡ true → length (without place ps) < length ps)
        → length (cond b ps (x ∷ without place ps)) < length (x ∷ ps)
    go true e rest = omega arith
    go false e rest = let r = rest e in omega (arith, r)

-- where it does not, all are other places
pub none_others : (place : ℕ) (ps : List ℕ) → list_any (λ other. other == place) ps ≡ false → others_of place ps ≡ ps
none_others place [] is = refl
none_others place (x ∷ ps) is = go (x == place) is (none_others place ps)
  where
    go : (b : Bool) → (b || list_any (λ other. other == place) ps) ≡ false → (list_any (λ other. other == place) ps ≡ false → others_of place ps ≡ ps)
        → cond (not b) (x ∷ others_of place ps) (others_of place ps) ≡ x ∷ ps
    go true e rest = absurd (true_false e)
    go false e rest = ap (λ ys. x ∷ ys) (rest e)

-- A key of a shard loses a place, so far from some of its candidates.
pub record Dropping (old new : Places) (key : ℤ) (place : ℕ) : Type 0 where
  pub candidates : List ℕ
  pub put : new ≡ with_candidates old key candidates
  pub rest : others_of place candidates ≡ others_of place (candidates_of old key)

-- a first one of the key's candidates at the place is dropped
pub drop_begins : (old new : Places) (key : ℤ) (place : ℕ) → new ≡ with_candidates old key (without place (candidates_of old key)) → Dropping old new key place
drop_begins old new key place is = record { candidates = without place (candidates_of old key); put = is; rest = without_others place (candidates_of old key) }

-- and a further one
pub drop_goes_on : (old now new : Places) (key : ℤ) (place : ℕ) → Dropping old now key place → new ≡ with_candidates now key (without place (candidates_of now key))
    → Dropping old new key place
drop_goes_on old now new key place d is = record {
  candidates = without place d.candidates;
  put = is ∙ ap (λ y. with_candidates y key (without place (candidates_of y key))) d.put
      ∙ ap (λ ps. with_candidates (with_candidates old key d.candidates) key (without place ps)) (put_itself old key d.candidates)
      ∙ put_twice old key d.candidates (without place d.candidates);
  rest = without_others place d.candidates ∙ d.rest;
}

-- where none is left the place is no candidate of the key any more
pub drop_ends : (old new : Places) (key k : ℤ) (place : ℕ) → k ≡ key → Dropping old new k place → list_any (λ other. other == place) (candidates_of new k) ≡ false
    → new ≡ without_place key place old
drop_ends old new key k place same d none = d.put ∙ ap (with_candidates old k) (sym (none_others place d.candidates (sym (ap (list_any (λ other. other == place)) left) ∙ none)) ∙ d.rest) ∙ ap (λ k. without_place k place old) same
  where
    left : candidates_of new k ≡ d.candidates
    left = ap (λ y. candidates_of y k) d.put ∙ put_itself old k d.candidates

-- each drop leaves the key fewer candidates
pub drop_smaller : (now new : Places) (key : ℤ) (place : ℕ) → new ≡ with_candidates now key (without place (candidates_of now key))
    → list_any (λ other. other == place) (candidates_of now key) ≡ true → length (candidates_of new key) < length (candidates_of now key)
drop_smaller now new key place is there =
    subst (λ ps. length ps < length (candidates_of now key)) (sym (ap (λ y. candidates_of y key) is ∙ put_itself now key (without place (candidates_of now key))))
    (without_shorter place (candidates_of now key) there)

-- ---- the laws

-- A shard after a sweep loses one candidate more as if the sweep had not kept it.
pub drops_go_on : DropsGoOn
drops_go_on i ix keep after key place h own here others = shard_is
    (without_place key place (kept_places keep ix)) (kept_places after ix)
    (filled_with (kept_places keep ix) key (others_of place (candidates_of (kept_places keep ix) key)) (filled_kept keep ix h.some))
    (filled_kept after ix h.some)
    (λ k. at k (key_cases k key))
  where
    twice : (ps : List ℕ) → others_of place (filter keep ps) ≡ filter (λ p. keep p && not (p == place)) ps
    twice [] = refl
    twice (x ∷ ps) = go (keep x) (twice ps)
      where
        go : (b : Bool) → others_of place (filter keep ps) ≡ filter (λ p. keep p && not (p == place)) ps
            → others_of place (cond b (x ∷ filter keep ps) (filter keep ps)) ≡ cond (b && not (x == place)) (x ∷ filter (λ p. keep p && not (p == place)) ps) (filter (λ p. keep p && not (p == place)) ps)
        go true e = ap (λ ys. cond (not (x == place)) (x ∷ ys) ys) e
        go false e = e

    at : (k : ℤ) → ((eq_by_cmp int_cmp k key ≡ true) × (k ≡ key)) ⊎ ((eq_by_cmp int_cmp k key ≡ false) × (k ≢ key))
        → candidates_of (without_place key place (kept_places keep ix)) k ≡ candidates_of (kept_places after ix) k
    at k (inl x) =
        put_here (kept_places keep ix) key k (others_of place (candidates_of (kept_places keep ix) key)) x.1 x.0
        ∙ ap (others_of place) (kept_is keep ix key)
        ∙ twice (candidates_of ix key)
        ∙ sym (filter_same (λ p. keep p && not (p == place)) after (candidates_of ix key) here)
        ∙ sym (kept_is after ix key)
        ∙ ap (candidates_of (kept_places after ix)) (sym x.1)
    at k (inr x) =
        put_else (kept_places keep ix) key k (others_of place (candidates_of (kept_places keep ix) key)) x.0
        ∙ kept_is keep ix k
        ∙ sym (filter_same keep after (candidates_of ix k) (λ p a. others k p x.1 a))
        ∙ sym (kept_is after ix k)

-- Sweeps that keep the same candidates are one.
pub sweeps_agree : SweepsAgree
sweeps_agree i ix keep after h same = shard_is (kept_places after ix) (kept_places keep ix) (filled_kept after ix h.some) (filled_kept keep ix h.some)
    (λ k. kept_is after ix k ∙ filter_same keep after (candidates_of ix k) (λ p a. same k p a) ∙ sym (kept_is keep ix k))

-- A sweep that keeps all candidates changes nothing.
pub sweep_rests : SweepRests
sweep_rests i ix keep h all = kept_stays i keep ix h (λ key p own a. all key p a)

-- A candidate that was added is taken back.
pub added_is_dropped : AddedIsDropped
added_is_dropped i ix key place h own none = shard_is (without_place key place (with_place key place ix)) ix
    (subst (λ y. Filled (without_place key place y)) (sym added) (filled_with (with_candidates ix key (candidates_of ix key ++ place ∷ [])) key
    (others_of place (candidates_of (with_candidates ix key (candidates_of ix key ++ place ∷ [])) key)) (filled_with ix key (candidates_of ix key ++ place ∷ []) h.some)))
    h.some
    (λ k. at k (key_cases k key))
  where
    added : with_place key place ix ≡ with_candidates ix key (candidates_of ix key ++ place ∷ [])
    added = ap (λ b. cond b ix (with_candidates ix key (candidates_of ix key ++ place ∷ []))) none

    self : (place == place) ≡ true
    self = Rattle.core_laws.proofs.Events.Slots.num_refl place

    end : (ps : List ℕ) → list_any (λ other. other == place) ps ≡ false → others_of place (ps ++ place ∷ []) ≡ ps
    end [] is = ap (λ b. cond (not b) (place ∷ []) []) self
    end (x ∷ ps) is = go (x == place) is (end ps)
      where
        go : (b : Bool) → (b || list_any (λ other. other == place) ps) ≡ false → (list_any (λ other. other == place) ps ≡ false → others_of place (ps ++ place ∷ []) ≡ ps)
            → cond (not b) (x ∷ others_of place (ps ++ place ∷ [])) (others_of place (ps ++ place ∷ [])) ≡ x ∷ ps
        go true e rest = absurd (true_false e)
        go false e rest = ap (λ ys. x ∷ ys) (rest e)

    at : (k : ℤ) → ((eq_by_cmp int_cmp k key ≡ true) × (k ≡ key)) ⊎ ((eq_by_cmp int_cmp k key ≡ false) × (k ≢ key)) → candidates_of (without_place key place (with_place key place ix)) k ≡ candidates_of ix k
    at k (inl x) =
        ap (λ y. candidates_of (without_place key place y) k) added
        ∙ put_here (with_candidates ix key (candidates_of ix key ++ place ∷ [])) key k (others_of place (candidates_of (with_candidates ix key (candidates_of ix key ++ place ∷ [])) key)) x.1 x.0
        ∙ ap (others_of place) (put_itself ix key (candidates_of ix key ++ place ∷ []))
        ∙ end (candidates_of ix key) none
        ∙ ap (candidates_of ix) (sym x.1)
    at k (inr x) =
        ap (λ y. candidates_of (without_place key place y) k) added
        ∙ put_else (with_candidates ix key (candidates_of ix key ++ place ∷ [])) key k (others_of place (candidates_of (with_candidates ix key (candidates_of ix key ++ place ∷ [])) key)) x.0
        ∙ put_else ix key k (candidates_of ix key ++ place ∷ []) x.0
