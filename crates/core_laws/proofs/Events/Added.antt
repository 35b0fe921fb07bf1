-- A candidate that a change of the parts adds to a key.
use Rattle.std.proofs.Common.{◌≡◌, ◌⊎◌, ℕ, ◌<◌, ℤ, Bool, true, false, cond, ◌&&◌, ◌==◌, Option, None, Some, option_map, refl, sym, ap, ◌∙◌, subst}
use mathlib.Core.Logic.{inl, inr}
use Rattle.core_laws.proofs.Events.Places.{shard_small, placed, placed_behind}
use Rattle.core_laws.proofs.Events.Slots.{num, num_refl}
use Rattle.core_laws.proofs.Events.States.{named_changed}
use Rattle.core_laws.specs.Events.Named.{KindIf, shard_at}
use Rattle.event_spec.specs.declared.part.Part.TheVariants as part
use Rattle.event_spec.specs.Effects.{at_both, with_place}
use Rattle.event_spec.specs.Follows.{StandsBefore}
use Rattle.event_spec.specs.Lawful.{Among, HasTable}
use Rattle.event_spec.specs.Parts.{CorePart, Parts, Shape, Name, ShardOf, names, part_named, Changes, changed, each_changed, places_at, shard_from, shard_of}
use Rattle.core_laws.specs.Following.Steps.{IsAdded}
use Rattle.key_index.specs.Candidates.{Places, candidates_of}

module _ (sh : Shape) (s : Parts) (kinds : (name : Name) → KindIf name (part_named (names sh) s name))
    (shards : (t i : ℕ) → HasTable sh t → i < 8 → (places : Places) × (part_named (names sh) s (ShardOf t i) ≡ Some (part.Shard places)))
    (d : Changes) (t : ℕ) (key : ℤ) (p : ℕ)
    (inside : HasTable sh t)
    (by : (u i : ℕ) (x : Places) → d.shard u i x ≡ at_both t (shard_of key) (with_place key p) u i x) where
  -- the key's shard, after and before
  shard : (ix : Places) × (part_named (names sh) s (ShardOf t (shard_of key)) ≡ Some (part.Shard ix))
  shard = shards t (shard_of key) inside (shard_small key)

  -- The parts after the changes.
  abbrev parts : Parts
  parts = each_changed d (names sh) s

  -- The shard of the key has the candidate added.
  shard_here : shard_at sh parts t (shard_of key) ≡ with_place key p (shard_at sh s t (shard_of key))
  shard_here =
      ap shard_from (named_changed d (names sh) s (ShardOf t (shard_of key)) ∙ ap (option_map (changed d (ShardOf t (shard_of key)))) shard.1)
      ∙ by t (shard_of key) shard.0
      ∙ ap (λ b. cond (b && (shard_of key == shard_of key)) (with_place key p shard.0) shard.0) (num_refl t)
      ∙ ap (λ b. cond b (with_place key p shard.0) shard.0) (num_refl (shard_of key))
      ∙ ap (λ o. with_place key p (shard_from o)) (sym shard.1)

  -- Each other shard is as it was.
  shard_else : (u i : ℕ) → ((u == t) && (i == shard_of key)) ≡ false → shard_at sh parts u i ≡ shard_at sh s u i
  shard_else u i other = go (part_named (names sh) s (ShardOf u i)) refl (kinds (ShardOf u i))
    where
      go : (o : Option CorePart) → part_named (names sh) s (ShardOf u i) ≡ o → KindIf (ShardOf u i) o → shard_at sh parts u i ≡ shard_at sh s u i
      go None is k = ap shard_from (named_changed d (names sh) s (ShardOf u i) ∙ ap (option_map (changed d (ShardOf u i))) is) ∙ ap shard_from (sym is)
      go (Some (part.Head x)) is k = absurd k
      go (Some (part.Shard x)) is k =
          ap shard_from (named_changed d (names sh) s (ShardOf u i) ∙ ap (option_map (changed d (ShardOf u i))) is)
          ∙ by u i x ∙ ap (λ b. cond b (with_place key p x) x) other ∙ ap shard_from (sym is)
      go (Some (part.Body x)) is k = absurd k
      go (Some (part.Desk x)) is k = absurd k

  -- each key's candidates after it
  candidates : (u : ℕ) (k : ℤ) → ((u ≡ t) × (places_at sh parts u k ≡ candidates_of (with_place key p (shard_at sh s t (shard_of key))) k) × (places_at sh s u k ≡ candidates_of (shard_at sh s t (shard_of key)) k))
      ⊎ ((places_at sh parts u k ≡ places_at sh s u k) × ((u ≡ t) → k ≡ key → ⊥))
  candidates u k = go (u == t) (shard_of k == shard_of key) refl refl
    where
      true_false : false ≡ true → ⊥
      true_false x = cc

      go : (x y : Bool) → (u == t) ≡ x → (shard_of k == shard_of key) ≡ y
          → ((u ≡ t) × (places_at sh parts u k ≡ candidates_of (with_place key p (shard_at sh s t (shard_of key))) k) × (places_at sh s u k ≡ candidates_of (shard_at sh s t (shard_of key)) k))
          ⊎ ((places_at sh parts u k ≡ places_at sh s u k) × ((u ≡ t) → k ≡ key → ⊥))
      go true true x y =
          let ut : u ≡ t = num u t x in
          let ii : shard_of k ≡ shard_of key = num (shard_of k) (shard_of key) y in
          inl (
            ut,
            ap (λ u. candidates_of (shard_at sh parts u (shard_of k)) k) ut ∙ ap (λ i. candidates_of (shard_at sh parts t i) k) ii ∙ ap (λ ix. candidates_of ix k) shard_here,
            ap (λ u. candidates_of (shard_at sh s u (shard_of k)) k) ut ∙ ap (λ i. candidates_of (shard_at sh s t i) k) ii,
          )
      go true false x y = inr (
        ap (λ ix. candidates_of ix k) (shard_else u (shard_of k) (ap (λ b. b && (shard_of k == shard_of key)) x ∙ y)),
        λ a b. true_false (sym y ∙ ap (λ k. shard_of k == shard_of key) b ∙ num_refl (shard_of key)),
      )
      go false y' x y = inr (
        ap (λ ix. candidates_of ix k) (shard_else u (shard_of k) (ap (λ b. b && (shard_of k == shard_of key)) x)),
        λ a b. true_false (sym x ∙ ap (λ u. u == t) a ∙ num_refl t),
      )

  -- The shard has the candidate and those that it had, and no other.
  new : Among p (candidates_of (with_place key p (shard_at sh s t (shard_of key))) key)
      × ((k : ℤ) (r : ℕ) → Among r (candidates_of (shard_at sh s t (shard_of key)) k) → Among r (candidates_of (with_place key p (shard_at sh s t (shard_of key))) k))
      × ((k : ℤ) (r : ℕ) → Among r (candidates_of (with_place key p (shard_at sh s t (shard_of key))) k) → Among r (candidates_of (shard_at sh s t (shard_of key)) k) ⊎ ((r ≡ p) × (k ≡ key)))
  new = placed (shard_at sh s t (shard_of key)) key p

  -- The place is a candidate of the key now.
  added : Among p (places_at sh parts t key)
  added = subst (λ ix. Among p (candidates_of ix key)) (sym shard_here) new.0

  -- Each place that was a candidate still is.
  kept : (u r : ℕ) (k : ℤ) → Among r (places_at sh s u k) → Among r (places_at sh parts u k)
  kept u r k a = go (candidates u k)
    where
      go : ((u ≡ t) × (places_at sh parts u k ≡ candidates_of (with_place key p (shard_at sh s t (shard_of key))) k) × (places_at sh s u k ≡ candidates_of (shard_at sh s t (shard_of key)) k))
          ⊎ ((places_at sh parts u k ≡ places_at sh s u k) × ((u ≡ t) → k ≡ key → ⊥)) → Among r (places_at sh parts u k)
      go (inl x) = subst (Among r) (sym x.1) (new.1 k r (subst (Among r) x.2 a))
      go (inr x) = subst (Among r) (sym x.0) a

  -- A place that is a candidate was one, or is the one that is added.
  more : (u r : ℕ) (k : ℤ) → Among r (places_at sh parts u k) → Among r (places_at sh s u k) ⊎ ((u ≡ t) × (r ≡ p) × (k ≡ key))
  more u r k a = go (candidates u k)
    where
      at : (u ≡ t) → (places_at sh s u k ≡ candidates_of (shard_at sh s t (shard_of key)) k) → Among r (candidates_of (shard_at sh s t (shard_of key)) k) ⊎ ((r ≡ p) × (k ≡ key)) → Among r (places_at sh s u k) ⊎ ((u ≡ t) × (r ≡ p) × (k ≡ key))
      at ut is (inl b) = inl (subst (Among r) (sym is) b)
      at ut is (inr n) = inr (ut, n.0, n.1)

      go : ((u ≡ t) × (places_at sh parts u k ≡ candidates_of (with_place key p (shard_at sh s t (shard_of key))) k) × (places_at sh s u k ≡ candidates_of (shard_at sh s t (shard_of key)) k))
          ⊎ ((places_at sh parts u k ≡ places_at sh s u k) × ((u ≡ t) → k ≡ key → ⊥)) → Among r (places_at sh s u k) ⊎ ((u ≡ t) × (r ≡ p) × (k ≡ key))
      go (inl x) = at x.0 x.2 (new.2 k r (subst (Among r) x.1 a))
      go (inr x) = inl (subst (Among r) x.0 a)

  -- A place that stands behind another did so before, or is the one that is added.
  behind : (u a b : ℕ) (k : ℤ) → StandsBefore a b (places_at sh parts u k)
      → StandsBefore a b (places_at sh s u k) ⊎ (Among a (places_at sh s u k) × (Among b (places_at sh s u k) → ⊥) × (u ≡ t) × (b ≡ p) × (k ≡ key))
  behind u a b k x = go (candidates u k)
    where
      at : (u ≡ t) → (places_at sh s u k ≡ candidates_of (shard_at sh s t (shard_of key)) k)
          → StandsBefore a b (candidates_of (shard_at sh s t (shard_of key)) k)
          ⊎ (Among a (candidates_of (shard_at sh s t (shard_of key)) k) × (Among b (candidates_of (shard_at sh s t (shard_of key)) k) → ⊥) × (b ≡ p) × (k ≡ key))
          → StandsBefore a b (places_at sh s u k) ⊎ (Among a (places_at sh s u k) × (Among b (places_at sh s u k) → ⊥) × (u ≡ t) × (b ≡ p) × (k ≡ key))
      at ut is (inl y) = inl (subst (StandsBefore a b) (sym is) y)
      at ut is (inr n) = inr (subst (Among a) (sym is) n.0, (λ y. n.1 (subst (Among b) is y)), ut, n.2, n.3)

      go : ((u ≡ t) × (places_at sh parts u k ≡ candidates_of (with_place key p (shard_at sh s t (shard_of key))) k) × (places_at sh s u k ≡ candidates_of (shard_at sh s t (shard_of key)) k))
          ⊎ ((places_at sh parts u k ≡ places_at sh s u k) × ((u ≡ t) → k ≡ key → ⊥))
          → StandsBefore a b (places_at sh s u k) ⊎ (Among a (places_at sh s u k) × (Among b (places_at sh s u k) → ⊥) × (u ≡ t) × (b ≡ p) × (k ≡ key))
      go (inl y) = at y.0 y.2 (placed_behind (shard_at sh s t (shard_of key)) key p k a b (subst (StandsBefore a b) y.1 x))
      go (inr y) = inl (subst (StandsBefore a b) y.0 x)

  -- the place is a candidate of the key, and all other candidates are as before
  pub place_added : IsAdded (places_at sh s) (places_at sh parts) t p key
  place_added = record { added = added; kept = kept; more = more; behind = behind }
