-- A slot that is changed at its place, and a candidate that is added to a key.
use Rattle.event_spec.specs.Parts.{shard_of}
use Rattle.std.proofs.Common.{◌≡◌, ◌≢◌, ◌⊎◌, ℕ, ◌+◌, ◌-◌, ◌<◌, ℤ, pos, negsuc, Bool, true, false, cond, not, ◌||◌, ◌==◌, List, [], ◌∷◌, ◌++◌, Option, Some, unwrap_or, length, get_or-set_same, get_or-set_other, refl, sym, ap, ◌∙◌, arith, subst}
use mathlib.Core.Logic.{inl, inr}
use Rattle.std.specs.Ordering.{int_cmp, eq_by_cmp, is_eq}
use Rattle.std.specs.declared.cmp.Ordering.{Ordering}
use Rattle.std.specs.declared.cmp.Ordering.TheVariants.{Less, Equal, Greater}
use Rattle.std.specs.FinMap.{get-insert, int_cmp-IsAntisymmetric}
use Rattle.std.specs.Cmp.{int_cmp_total, tied_itself}
use Rattle.std.proofs.lemmas.Bool.Decides.{nat_tests}
use Rattle.std.proofs.lemmas.List.{get_or_past}
use Rattle.block_layout.specs.Place.{block_of, slot_of}
use Rattle.key_index.specs.Candidates.{Places, candidates_of, with_candidates}
use Rattle.block_spec.specs.Slots.{Slot, bare, is_bare}
use Rattle.block_spec.specs.Bodies.{Body, slot_in, with_slot}
use Rattle.event_spec.specs.Effects.{with_place}
use Rattle.event_spec.specs.Lawful.{Among}
use Rattle.event_spec.specs.Follows.{StandsBefore}
use Rattle.core_laws.proofs.Slots.Ages.{before_push}
use Rattle.std.specs.List.{list_any}
use Rattle.std.specs.FinMap as finite

-- a place is one of some places
abbrev pub has_place : ℕ → List ℕ → Bool
has_place place places = list_any (λ other. other == place) places

-- places of one block and slot are one
pub same_place : (r p : ℕ) → block_of r ≡ block_of p → slot_of r ≡ slot_of p → r ≡ p
same_place r p a b = omega arith

-- a key's shard is one of eight
pub shard_small : (key : ℤ) → shard_of key < 8
shard_small (pos n) = omega arith
shard_small (negsuc n) = omega arith

-- the slot that is changed
pub with_slot_here : (j : ℕ) (g : Slot → Slot) (body : Body) → j < length body.slots → slot_in (with_slot j g body) j ≡ g (slot_in body j)
with_slot_here j g body inside = get_or-set_same body.slots j (g (slot_in body j)) bare inside

-- another slot, which stays
pub with_slot_else : (j i : ℕ) (g : Slot → Slot) (body : Body) → i ≢ j → slot_in (with_slot j g body) i ≡ slot_in body i
with_slot_else j i g body ne = get_or-set_other body.slots j i (g (slot_in body j)) bare ne

-- a slot that is not bare is one of the body's
pub inside_of : (body : Body) (j : ℕ) → is_bare (slot_in body j) ≡ false → j < length body.slots
inside_of body j filled = go (Rattle.std.proofs.Common.ltb j (length body.slots)) refl
  where
    true_false : true ≡ false → ⊥
    true_false e = cc

    go : (b : Bool) → Rattle.std.proofs.Common.ltb j (length body.slots) ≡ b → j < length body.slots
    go true e = grind (arith, nat_tests)
    go false e = absurd (true_false (sym (ap is_bare (get_or_past body.slots j bare (grind (arith, nat_tests)))) ∙ filled))

-- ---- candidates

-- a place that is found is one of the places
pub has_among : (p : ℕ) (ps : List ℕ) → has_place p ps ≡ true → Among p ps
has_among p [] is = cc
has_among p (x ∷ ps) is = go (x == p) refl is (has_among p ps)
  where
    go : (b : Bool) → (x == p) ≡ b → (b || has_place p ps) ≡ true → (has_place p ps ≡ true → Among p ps) → Among p (x ∷ ps)
    go true e is rest = inl (grind (arith, nat_tests))
    go false e is rest = inr (rest is)

-- A place that is put at the end is among the others.
among_push : (p : ℕ) (ps : List ℕ) → Among p (ps ++ p ∷ [])
among_push p [] = inl refl
among_push p (x ∷ ps) = inr (among_push p ps)

-- A place stays among others when one is put at their end.
among_stays : (r p : ℕ) (ps : List ℕ) → Among r ps → Among r (ps ++ p ∷ [])
among_stays r p [] a = absurd a
among_stays r p (x ∷ ps) (inl e) = inl e
among_stays r p (x ∷ ps) (inr a) = inr (among_stays r p ps a)

-- A place among others with one at their end is one of them, or that one.
among_more : (r p : ℕ) (ps : List ℕ) → Among r (ps ++ p ∷ []) → Among r ps ⊎ (r ≡ p)
among_more r p [] (inl e) = inr e
among_more r p [] (inr a) = absurd a
among_more r p (x ∷ ps) (inl e) = inl (inl e)
among_more r p (x ∷ ps) (inr a) = go (among_more r p ps a)
  where
    go : Among r ps ⊎ (r ≡ p) → Among r (x ∷ ps) ⊎ (r ≡ p)
    go (inl b) = inl (inr b)
    go (inr e) = inr e

-- two keys are the same or not
pub key_cases : (k key : ℤ) → ((eq_by_cmp int_cmp k key ≡ true) × (k ≡ key)) ⊎ ((eq_by_cmp int_cmp k key ≡ false) × (k ≢ key))
key_cases k key = go (int_cmp k key) refl
  where
    true_false : true ≡ false → ⊥
    true_false e = cc

    apart : is_eq (int_cmp k key) ≡ false → k ≢ key
    apart e s = true_false (sym (ap (λ x. is_eq (int_cmp x key)) s ∙ ap is_eq (tied_itself int_cmp_total key)) ∙ e)

    go : (r : Ordering) → int_cmp k key ≡ r → ((eq_by_cmp int_cmp k key ≡ true) × (k ≡ key)) ⊎ ((eq_by_cmp int_cmp k key ≡ false) × (k ≢ key))
    go Less e = inr (ap is_eq e, apart (ap is_eq e))
    go Equal e = inl (ap is_eq e, int_cmp-IsAntisymmetric k key e)
    go Greater e = inr (ap is_eq e, apart (ap is_eq e))

-- A key with a candidate more has it at the end, and each other key its own.
more_is : (ix : Places) (key k : ℤ) (ps : List ℕ) (p : ℕ) → candidates_of (with_candidates ix key (ps ++ p ∷ [])) k ≡ cond (eq_by_cmp int_cmp k key) (ps ++ p ∷ []) (candidates_of ix k)
more_is ix key k ps p = go (ps ++ p ∷ []) (filled ps)
  where
    filled : (ps : List ℕ) → (x : ℕ) × (xs : List ℕ) × (ps ++ p ∷ [] ≡ x ∷ xs)
    filled [] = (p, [], refl)
    filled (x ∷ ps) = (x, ps ++ p ∷ [], refl)

    choose : (b : Bool) (xs : List ℕ) (o : Option (List ℕ)) → unwrap_or (cond b (Some xs) o) [] ≡ cond b xs (unwrap_or o [])
    choose true xs o = refl
    choose false xs o = refl

    go : (all : List ℕ) → (x : ℕ) × (xs : List ℕ) × (all ≡ x ∷ xs) → candidates_of (with_candidates ix key all) k ≡ cond (eq_by_cmp int_cmp k key) all (candidates_of ix k)
    go all is =
        ap (λ all. candidates_of (with_candidates ix key all) k) is.2
        ∙ ap (λ o. unwrap_or o []) (get-insert int_cmp_total ix key (is.0 ∷ is.1) k)
        ∙ choose (eq_by_cmp int_cmp k key) (is.0 ∷ is.1) (finite.get ix k)
        ∙ ap (λ all. cond (eq_by_cmp int_cmp k key) all (candidates_of ix k)) (sym is.2)

-- what a candidate that is added does to each key's candidates
pub placed : (ix : Places) (key : ℤ) (p : ℕ)
    → Among p (candidates_of (with_place key p ix) key)
    × ((k : ℤ) (r : ℕ) → Among r (candidates_of ix k) → Among r (candidates_of (with_place key p ix) k))
    × ((k : ℤ) (r : ℕ) → Among r (candidates_of (with_place key p ix) k) → Among r (candidates_of ix k) ⊎ ((r ≡ p) × (k ≡ key)))
placed ix key p = go (has_place p (candidates_of ix key)) refl
  where
    goal : Places → Type 0
    goal iy = Among p (candidates_of iy key)
        × ((k : ℤ) (r : ℕ) → Among r (candidates_of ix k) → Among r (candidates_of iy k))
        × ((k : ℤ) (r : ℕ) → Among r (candidates_of iy k) → Among r (candidates_of ix k) ⊎ ((r ≡ p) × (k ≡ key)))

    go : (b : Bool) → has_place p (candidates_of ix key) ≡ b
        → Among p (candidates_of (with_place key p ix) key)
        × ((k : ℤ) (r : ℕ) → Among r (candidates_of ix k) → Among r (candidates_of (with_place key p ix) k))
        × ((k : ℤ) (r : ℕ) → Among r (candidates_of (with_place key p ix) k) → Among r (candidates_of ix k) ⊎ ((r ≡ p) × (k ≡ key)))
    go true e =
        let same : with_place key p ix ≡ ix = ap (λ b. cond b ix (with_candidates ix key (candidates_of ix key ++ p ∷ []))) e in (
          subst (λ iy. Among p (candidates_of iy key)) (sym same) (has_among p (candidates_of ix key) e),
          λ k r a. subst (λ iy. Among r (candidates_of iy k)) (sym same) a,
          λ k r a. inl (subst (λ iy. Among r (candidates_of iy k)) same a),
        )
    go false e =
        let same : with_place key p ix ≡ with_candidates ix key (candidates_of ix key ++ p ∷ []) = ap (λ b. cond b ix (with_candidates ix key (candidates_of ix key ++ p ∷ []))) e in (
          subst (λ iy. Among p (candidates_of iy key)) (sym same) (here (key_cases key key)),
          λ k r a. subst (λ iy. Among r (candidates_of iy k)) (sym same) (stays k r a (key_cases k key)),
          λ k r a. back k r (subst (λ iy. Among r (candidates_of iy k)) same a) (key_cases k key),
        )
      where
        new : Places
        new = with_candidates ix key (candidates_of ix key ++ p ∷ [])

        here : ((eq_by_cmp int_cmp key key ≡ true) × (key ≡ key)) ⊎ ((eq_by_cmp int_cmp key key ≡ false) × (key ≢ key)) → Among p (candidates_of (with_candidates ix key (candidates_of ix key ++ p ∷ [])) key)
        here (inl x) = subst (Among p) (sym (more_is ix key key (candidates_of ix key) p ∙ ap (λ b. cond b (candidates_of ix key ++ p ∷ []) (candidates_of ix key)) x.0)) (among_push p (candidates_of ix key))
        here (inr x) = absurd (x.1 refl)

        stays : (k : ℤ) (r : ℕ) → Among r (candidates_of ix k) → ((eq_by_cmp int_cmp k key ≡ true) × (k ≡ key)) ⊎ ((eq_by_cmp int_cmp k key ≡ false) × (k ≢ key)) → Among r (candidates_of (with_candidates ix key (candidates_of ix key ++ p ∷ [])) k)
        stays k r a (inl x) =
            subst (Among r) (sym (more_is ix key k (candidates_of ix key) p ∙ ap (λ b. cond b (candidates_of ix key ++ p ∷ []) (candidates_of ix k)) x.0))
            (among_stays r p (candidates_of ix key) (subst (λ k. Among r (candidates_of ix k)) x.1 a))
        stays k r a (inr x) = subst (Among r) (sym (more_is ix key k (candidates_of ix key) p ∙ ap (λ b. cond b (candidates_of ix key ++ p ∷ []) (candidates_of ix k)) x.0)) a

        back : (k : ℤ) (r : ℕ) → Among r (candidates_of (with_candidates ix key (candidates_of ix key ++ p ∷ [])) k) → ((eq_by_cmp int_cmp k key ≡ true) × (k ≡ key)) ⊎ ((eq_by_cmp int_cmp k key ≡ false) × (k ≢ key))
            → Among r (candidates_of ix k) ⊎ ((r ≡ p) × (k ≡ key))
        back k r a (inl x) = at (among_more r p (candidates_of ix key) (subst (Among r) (more_is ix key k (candidates_of ix key) p ∙ ap (λ b. cond b (candidates_of ix key ++ p ∷ []) (candidates_of ix k)) x.0) a))
          where
            at : Among r (candidates_of ix key) ⊎ (r ≡ p) → Among r (candidates_of ix k) ⊎ ((r ≡ p) × (k ≡ key))
            at (inl b) = inl (subst (λ k. Among r (candidates_of ix k)) (sym x.1) b)
            at (inr e) = inr (e, x.1)
        back k r a (inr x) = inl (subst (Among r) (more_is ix key k (candidates_of ix key) p ∙ ap (λ b. cond b (candidates_of ix key ++ p ∷ []) (candidates_of ix k)) x.0) a)

-- a place that is not found is none of the places
not_among : (p : ℕ) (ps : List ℕ) → has_place p ps ≡ false → Among p ps → ⊥
not_among p [] is a = a
not_among p (x ∷ ps) is a = go (x == p) refl is a (not_among p ps)
  where
    true_false : true ≡ false → ⊥
    true_false e = cc

    go : (b : Bool) → (x == p) ≡ b → (b || has_place p ps) ≡ false → Among p (x ∷ ps) → (has_place p ps ≡ false → Among p ps → ⊥) → ⊥
    go true e is a rest = true_false is
    go false e is (inl s) rest = absurd (grind (arith, nat_tests))
    go false e is (inr a) rest = rest is a

-- a candidate that is added stands behind those of its key, and all others stand as before
pub placed_behind : (ix : Places) (key : ℤ) (p : ℕ) (k : ℤ) (a b : ℕ) → StandsBefore a b (candidates_of (with_place key p ix) k)
    → StandsBefore a b (candidates_of ix k) ⊎ (Among a (candidates_of ix k) × (Among b (candidates_of ix k) → ⊥) × (b ≡ p) × (k ≡ key))
placed_behind ix key p k a b x = go (has_place p (candidates_of ix key)) refl
  where
    go : (y : Bool) → has_place p (candidates_of ix key) ≡ y → StandsBefore a b (candidates_of ix k) ⊎ (Among a (candidates_of ix k) × (Among b (candidates_of ix k) → ⊥) × (b ≡ p) × (k ≡ key))
    go true e =
        let same : with_place key p ix ≡ ix = ap (λ y. cond y ix (with_candidates ix key (candidates_of ix key ++ p ∷ []))) e in
        inl (subst (λ iy. StandsBefore a b (candidates_of iy k)) same x)
    go false e = at (key_cases k key)
      where
        same : with_place key p ix ≡ with_candidates ix key (candidates_of ix key ++ p ∷ [])
        same = ap (λ y. cond y ix (with_candidates ix key (candidates_of ix key ++ p ∷ []))) e

        now : (y : Bool) → eq_by_cmp int_cmp k key ≡ y → StandsBefore a b (cond y (candidates_of ix key ++ p ∷ []) (candidates_of ix k))
        now y is = subst (StandsBefore a b)
            (ap (λ iy. candidates_of iy k) same ∙ more_is ix key k (candidates_of ix key) p ∙ ap (λ z. cond z (candidates_of ix key ++ p ∷ []) (candidates_of ix k)) is) x

        behind : (k ≡ key) → StandsBefore a b (candidates_of ix key) ⊎ (Among a (candidates_of ix key) × (b ≡ p)) → StandsBefore a b (candidates_of ix k) ⊎ (Among a (candidates_of ix k) × (Among b (candidates_of ix k) → ⊥) × (b ≡ p) × (k ≡ key))
        behind s (inl z) = inl (subst (λ k. StandsBefore a b (candidates_of ix k)) (sym s) z)
        behind s (inr z) = inr (
          subst (λ k. Among a (candidates_of ix k)) (sym s) z.0,
          (λ w. not_among p (candidates_of ix key) e (subst (λ r. Among r (candidates_of ix key)) z.1 (subst (λ k. Among b (candidates_of ix k)) s w))),
          z.1,
          s,
        )

        at : ((eq_by_cmp int_cmp k key ≡ true) × (k ≡ key)) ⊎ ((eq_by_cmp int_cmp k key ≡ false) × (k ≢ key)) → StandsBefore a b (candidates_of ix k) ⊎ (Among a (candidates_of ix k) × (Among b (candidates_of ix k) → ⊥) × (b ≡ p) × (k ≡ key))
        at (inl y) = behind y.1 (before_push a b p (candidates_of ix key) (now true y.0))
        at (inr y) = inl (now false y.0)
