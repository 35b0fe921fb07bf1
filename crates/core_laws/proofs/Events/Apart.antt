-- Pairs of which no place stands twice.
use Rattle.std.proofs.Common.{◌≡◌, ◌≢◌, ℕ, suc, ◌<◌, Bool, true, false, cond, List, [], ◌∷◌, ◌++◌, map, length, get_or, refl, sym, ap, ◌∙◌, subst, arith}
use mathlib.Core.Logic.{inl, inr}
use Rattle.std.specs.Prelude.{AllPairs, filter}
use Rattle.core_laws.proofs.Events.Lists.{in_right, member_map}
use Rattle.event_spec.specs.declared.event.MovePair.{MovePair}
use Rattle.event_spec.specs.Lawful.{Among, NoPlaceTwice}

-- An element that is among a list stands at one of its places.
among_index : {X : Type 0} (xs : List X) (y : X) → Among y xs → (k : ℕ) × (k < length xs) × ((d : X) → get_or xs k d ≡ y)
among_index [] y a = absurd a
among_index (x ∷ xs) y (inl e) = (0, omega arith, λ d. sym e)
among_index (x ∷ xs) y (inr a) = let r = among_index xs y a in let less = r.1 in (suc r.0, omega (arith, less), r.2)

module _ {X : Type 0} (R : X → X → Type 0) where
  -- The first of a list that stands in an order stands so to each behind it.
  pairs_head : (x : X) (xs : List X) (y : X) → AllPairs R (x ∷ xs) → Among y xs → R x y
  pairs_head x xs y all a =
      let r = among_index xs y a in let less = r.1 in
      subst (R x) (r.2 x) (all 0 (suc r.0) x (omega arith) (omega (arith, less)))

  -- Without its first a list stands in its order still.
  pairs_tail : (x : X) (xs : List X) → AllPairs R (x ∷ xs) → AllPairs R xs
  pairs_tail x xs all = λ i j d less inside. all (suc i) (suc j) d (omega (arith, less)) (omega (arith, inside))

  -- In two lists that stand in an order together each of the first does so to each of the second.
  pairs_across : (xs ys : List X) (x y : X) → AllPairs R (xs ++ ys) → Among x xs → Among y ys → R x y
  pairs_across [] ys x y all a b = absurd a
  pairs_across (z ∷ xs) ys x y all (inl e) b = subst (λ z. R z y) (sym e) (pairs_head z (xs ++ ys) y all (in_right xs ys y b))
  pairs_across (z ∷ xs) ys x y all (inr a) b = pairs_across xs ys x y (pairs_tail z (xs ++ ys) all) a b

  -- those of the first list, and of the second
  pairs_left : (x : X) (xs ys : List X) (y : X) → AllPairs R (x ∷ xs ++ ys) → Among y xs → R x y
  pairs_left x xs ys y all a = pairs_head x (xs ++ ys) y all (left xs ys y a)
    where
      left : (xs ys : List X) (y : X) → Among y xs → Among y (xs ++ ys)
      left [] ys y a = absurd a
      left (z ∷ xs) ys y (inl e) = inl e
      left (z ∷ xs) ys y (inr a) = inr (left xs ys y a)

  -- Where two lists stand in an order together, the second does.
  pairs_right : (xs ys : List X) → AllPairs R (xs ++ ys) → AllPairs R ys
  pairs_right [] ys all = all
  pairs_right (x ∷ xs) ys all = pairs_right xs ys (pairs_tail x (xs ++ ys) all)

-- two pairs without a place in common
pub record AreFar (one other : MovePair) : Type 0 where
  pub sources : one.source ≢ other.source
  pub targets : one.target ≢ other.target
  pub to : one.source ≢ other.target
  pub from : one.target ≢ other.source

-- no two of the pairs share a place, nor is a pair's source its target
abbrev pub Apart : List MovePair → Type 0
Apart [] = Unit {0}
Apart (first ∷ rest) = (first.source ≢ first.target) × ((other : MovePair) → Among other rest → AreFar first other) × Apart rest

-- The place that the pair's row leaves.
abbrev source_of : MovePair → ℕ
source_of pair = pair.source

-- The place that the pair's row comes to.
abbrev target_of : MovePair → ℕ
target_of pair = pair.target

-- Pairs are apart where no source is a target and none of either stands twice.
apart_by : (pairs : List MovePair)
    → ((one other : MovePair) → Among one pairs → Among other pairs → one.source ≢ other.target)
    → (sources : List ℕ) → AllPairs (λ a b. a ≢ b) (map source_of pairs ++ sources)
    → AllPairs (λ a b. a ≢ b) (map target_of pairs)
    → Apart pairs
apart_by [] cross more ss ts = tt
apart_by (first ∷ rest) cross more ss ts = (
  cross first first (inl refl) (inl refl),
  λ other a. record {
    sources = pairs_left (λ a b. a ≢ b) first.source (map source_of rest) more other.source ss (member_map source_of rest other a);
    targets = pairs_head (λ a b. a ≢ b) first.target (map target_of rest) other.target ts (member_map target_of rest other a);
    to = cross first other (inl refl) (inr a);
    from = λ e. cross other first (inr a) (inl refl) (sym e);
  },
  apart_by rest (λ one other a b. cross one other (inr a) (inr b)) more
      (pairs_tail (λ a b. a ≢ b) first.source (map source_of rest ++ more) ss)
      (pairs_tail (λ a b. a ≢ b) first.target (map target_of rest) ts),
)

-- pairs of which no place stands twice are apart
pub apart : (pairs : List MovePair) → NoPlaceTwice pairs → Apart pairs
apart pairs all = apart_by pairs
    (λ one other a b. pairs_across (λ a b. a ≢ b) (map source_of pairs) (map target_of pairs) one.source other.target all (member_map source_of pairs one a) (member_map target_of pairs other b))
    (map target_of pairs) all (pairs_right (λ a b. a ≢ b) (map source_of pairs) (map target_of pairs) all)

-- what is kept is among the list, and passes
pub kept_among : {X : Type 0} (test : X → Bool) (xs : List X) (y : X) → Among y (filter test xs) → Among y xs × (test y ≡ true)
kept_among test [] y a = absurd a
kept_among {X} test (x ∷ xs) y a = go (test x) refl a (kept_among test xs y)
  where
    go : (b : Bool) → test x ≡ b → Among y (cond b (x ∷ filter test xs) (filter test xs)) → (Among y (filter test xs) → Among y xs × (test y ≡ true)) → Among y (x ∷ xs) × (test y ≡ true)
    go true is (inl e) rest = (inl e, ap test e ∙ is)
    go true is (inr b) rest = let r = rest b in (inr r.0, r.1)
    go false is b rest = let r = rest b in (inr r.0, r.1)

-- the pairs that are kept are apart
pub apart_kept : (test : MovePair → Bool) (pairs : List MovePair) → Apart pairs → Apart (filter test pairs)
apart_kept test [] far = tt
apart_kept test (first ∷ rest) far = go (test first) (apart_kept test rest far.2)
  where
    go : (b : Bool) → Apart (filter test rest) → Apart (cond b (first ∷ filter test rest) (filter test rest))
    go true rest' = (far.0, (λ other a. far.1 other (kept_among test rest other a).0), rest')
    go false rest' = rest'
