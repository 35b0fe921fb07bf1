-- No name stands twice, so that a part stands where its name is.
use Rattle.std.proofs.Common.{◌≡◌, ◌⊎◌, ℕ, zero, suc, ◌+◌, ◌≤◌, Bool, true, false, cond, List, [], ◌∷◌, ◌++◌, Some, length, map, refl, sym, ap, ◌∙◌, arith, subst}
use mathlib.Core.Logic.{inl, inr}
use Rattle.std.specs.Prelude.{slice_get}
use Rattle.std.specs.List.{flat_map, range_with_len}
use Rattle.core_laws.proofs.Events.Lists.{flat_member, map_member, split}
use Rattle.core_laws.proofs.Events.Naming.{bodies_in, heads_in, shards_in}
use Rattle.core_laws.proofs.Events.States.{name_is}
use Rattle.event_spec.specs.Lawful.{Among}
use Rattle.event_spec.specs.Parts.{CorePart, Parts, Shape, Name, HeadOf, ShardOf, BodyOf, TheDesk, same_name, names, part_named, below, blocks_of}
use Rattle.core_laws.proofs.Frames.Looks.{got_among, name_self}
use Rattle.core_laws.proofs.Frames.Order.{body_rank, desk_rank, head_rank, rank, shard_rank}

-- No element of the list stands in it twice.
abbrev Distinct : {X : Type 0} → List X → Type 0
Distinct [] = Unit {0}
Distinct (x ∷ xs) = (Among x xs → ⊥) × Distinct xs

-- Two lists without repetitions that share no element have none when put together.
distinct_append : {X : Type 0} (xs ys : List X) → Distinct xs → Distinct ys → ((x : X) → Among x xs → Among x ys → ⊥) → Distinct (xs ++ ys)
distinct_append [] ys d e apart = e
distinct_append (x ∷ xs) ys d e apart = (λ a. go (split xs ys x a), distinct_append xs ys d.1 e (λ y a b. apart y (inr a) b))
  where
    go : Among x xs ⊎ Among x ys → ⊥
    go (inl a) = d.0 a
    go (inr b) = apart x (inl refl) b

-- Where different elements have different images, a list without repetitions has such images.
distinct_map : {X Y : Type 0} (f : X → Y) (xs : List X) → ((a b : X) → f a ≡ f b → a ≡ b) → Distinct xs → Distinct (map f xs)
distinct_map f [] one d = tt
distinct_map f (x ∷ xs) one d = (
  λ a. let y = map_member f xs (f x) a in d.0 (subst (λ z. Among z xs) (sym (one x y.0 y.2)) y.1),
  distinct_map f xs one d.1,
)

-- Lists without repetitions, no two of which share an element, have none when put together.
distinct_flat : {X Y : Type 0} (f : X → List Y) (xs : List X) → ((x : X) → Distinct (f x)) → ((a b : X) (y : Y) → Among y (f a) → Among y (f b) → a ≡ b) → Distinct xs → Distinct (flat_map f xs)
distinct_flat f [] each one d = tt
distinct_flat f (x ∷ xs) each one d = distinct_append (f x) (flat_map f xs) (each x) (distinct_flat f xs each one d.1)
    (λ y a b. let z = flat_member f xs y b in d.0 (subst (λ w. Among w xs) (sym (one x z.0 y a z.2)) z.1))

-- A number among those from a start on is not below the start.
low : (a n k : ℕ) → Among k (range_with_len a n) → a ≤ k
low a zero k x = absurd x
low a (suc n) k (inl e) = omega (arith, e)
low a (suc n) k (inr x) = let r = low (a + 1) n k x in omega (arith, r)

-- Among numbers in a row none stands twice.
distinct_range : (a n : ℕ) → Distinct (range_with_len a n)
distinct_range a zero = tt
distinct_range a (suc n) = (λ x. let r = low (a + 1) n a x in absurd (omega (arith, r)), distinct_range (a + 1) n)

-- Heads with one name are of one table.
head_one : (a b : ℕ) → HeadOf a ≡ HeadOf b → a ≡ b
head_one a b e = cc

-- Shards of one table with one name have one number.
shard_one : (t a b : ℕ) → ShardOf t a ≡ ShardOf t b → a ≡ b
shard_one t a b e = cc

-- Shards with one name are of one table.
shard_table : (t u a b : ℕ) → ShardOf t a ≡ ShardOf u b → t ≡ u
shard_table t u a b e = cc

-- Bodies of one table with one name are of one block.
body_one : (t a b : ℕ) → BodyOf t a ≡ BodyOf t b → a ≡ b
body_one t a b e = cc

-- Bodies with one name are of one table.
body_table : (t u a b : ℕ) → BodyOf t a ≡ BodyOf u b → t ≡ u
body_table t u a b e = cc

module _ (sh : Shape) where
  -- No head's name stands twice.
  heads_distinct : Distinct (heads_in sh)
  heads_distinct = distinct_map HeadOf (below (length sh.tables)) head_one (distinct_range 0 (length sh.tables))

  -- No shard's name stands twice.
  shards_distinct : Distinct (shards_in sh)
  shards_distinct = distinct_flat (λ t. map (ShardOf t) (below 8)) (below (length sh.tables))
      (λ t. distinct_map (ShardOf t) (below 8) (shard_one t) (distinct_range 0 8))
      (λ t u w a b. let x = map_member (ShardOf t) (below 8) w a in let y = map_member (ShardOf u) (below 8) w b in shard_table t u x.0 y.0 (sym x.2 ∙ y.2))
      (distinct_range 0 (length sh.tables))

  -- No body's name stands twice.
  bodies_distinct : Distinct (bodies_in sh)
  bodies_distinct = distinct_flat (λ t. map (BodyOf t) (below (blocks_of sh t))) (below (length sh.tables))
      (λ t. distinct_map (BodyOf t) (below (blocks_of sh t)) (body_one t) (distinct_range 0 (blocks_of sh t)))
      (λ t u w a b. let x = map_member (BodyOf t) (below (blocks_of sh t)) w a in let y = map_member (BodyOf u) (below (blocks_of sh u)) w b in body_table t u x.0 y.0 (sym x.2 ∙ y.2))
      (distinct_range 0 (length sh.tables))

  -- No part's name stands twice.
  names_distinct : Distinct (names sh)
  names_distinct =
      distinct_append (heads_in sh ++ shards_in sh ++ bodies_in sh) (TheDesk ∷ [])
      (distinct_append (heads_in sh ++ shards_in sh) (bodies_in sh)
      (distinct_append (heads_in sh) (shards_in sh) heads_distinct shards_distinct
      (λ n a b. let x = head_rank sh n a in let y = shard_rank sh n b in absurd (omega (arith, x, y))))
      bodies_distinct
      (λ n a b. let y = body_rank sh n b in under n y (split (heads_in sh) (shards_in sh) n a)))
      ((λ a. a), tt)
      (λ n a b. let y = desk_rank sh n b in last n y (split (heads_in sh ++ shards_in sh) (bodies_in sh) n a))
    where
      under : (n : Name) → rank n ≡ 2 → Among n (heads_in sh) ⊎ Among n (shards_in sh) → ⊥
      under n y (inl a) = let x = head_rank sh n a in absurd (omega (arith, x, y))
      under n y (inr a) = let x = shard_rank sh n a in absurd (omega (arith, x, y))

      front : (n : Name) → rank n ≡ 3 → Among n (heads_in sh) ⊎ Among n (shards_in sh) → ⊥
      front n y (inl a) = let x = head_rank sh n a in absurd (omega (arith, x, y))
      front n y (inr a) = let x = shard_rank sh n a in absurd (omega (arith, x, y))

      last : (n : Name) → rank n ≡ 3 → Among n (heads_in sh ++ shards_in sh) ⊎ Among n (bodies_in sh) → ⊥
      last n y (inl a) = front n y (split (heads_in sh) (shards_in sh) n a)
      last n y (inr a) = let x = body_rank sh n a in absurd (omega (arith, x, y))

-- Where no name stands twice, the part at the place of a name is that of the name.
named_at : (ns : List Name) (s : Parts) (k : ℕ) (n : Name) (piece : CorePart) → Distinct ns → slice_get ns k ≡ Some n → slice_get s k ≡ Some piece → part_named ns s n ≡ Some piece
named_at [] s k n piece d is at = cc
named_at (x ∷ ns) [] k n piece d is at = cc
named_at (x ∷ ns) (p ∷ s) zero n piece d is at =
    let same : x ≡ n = cc in let here : p ≡ piece = cc in
    ap (λ b. cond b (Some p) (part_named ns s n)) (ap (λ y. same_name y n) same ∙ name_self n) ∙ ap Some here
named_at (x ∷ ns) (p ∷ s) (suc k) n piece d is at = go (same_name x n) refl (named_at ns s k n piece d.1 is at)
  where
    go : (b : Bool) → same_name x n ≡ b → part_named ns s n ≡ Some piece → cond (same_name x n) (Some p) (part_named ns s n) ≡ Some piece
    go true e rest = absurd (d.0 (subst (λ y. Among y ns) (sym (name_is x n e)) (got_among ns k n is)))
    go false e rest = ap (λ b. cond b (Some p) (part_named ns s n)) e ∙ rest

-- The part of a number is that of the number's name.
pub part_is : (sh : Shape) (s : Parts) (k : ℕ) (n : Name) (piece : CorePart) → slice_get (names sh) k ≡ Some n → slice_get s k ≡ Some piece → part_named (names sh) s n ≡ Some piece
part_is sh s k n piece = named_at (names sh) s k n piece (names_distinct sh)

-- Where no name stands twice, each stands in one place.
once : (ns : List Name) (j k : ℕ) (n : Name) → Distinct ns → slice_get ns j ≡ Some n → slice_get ns k ≡ Some n → j ≡ k
once [] j k n d a b = cc
once (x ∷ ns) zero zero n d a b = refl
once (x ∷ ns) zero (suc k) n d a b = let same : x ≡ n = cc in absurd (d.0 (subst (λ y. Among y ns) (sym same) (got_among ns k n b)))
once (x ∷ ns) (suc j) zero n d a b = let same : x ≡ n = cc in absurd (d.0 (subst (λ y. Among y ns) (sym same) (got_among ns j n a)))
once (x ∷ ns) (suc j) (suc k) n d a b = ap suc (once ns j k n d.1 a b)

-- the name of a part stands in one place
pub stands_once : (sh : Shape) (j k : ℕ) (n : Name) → slice_get (names sh) j ≡ Some n → slice_get (names sh) k ≡ Some n → j ≡ k
stands_once sh j k n = once (names sh) j k n (names_distinct sh)
