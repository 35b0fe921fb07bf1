-- The keys of a table's shards between two are those that the index lists.
use Rattle.std.proofs.Common.{◌≡◌, ℕ, ◌<◌, ◌||◌, ℤ, pos, negsuc, Bool, true, false, cond, filter, List, [], ◌∷◌, Option, None, Some, is_some, unwrap_or, refl, sym, ap, ◌∙◌, arith, inl, inr}
use Rattle.std.specs.List.{list_any}
use Rattle.std.specs.Ordering.{eq_by_cmp, int_cmp, is_eq}
use Rattle.std.specs.declared.cmp.Ordering.{Ordering}
use Rattle.std.specs.declared.cmp.Ordering.TheVariants.{Less, Equal, Greater}
use Rattle.std.specs.FinMap as finite
use Rattle.cell_model.specs.Values.{is_between}
use Rattle.core_laws.proofs.Events.Lists.{below_member, flat_member, member_flat}
use Rattle.core_laws.proofs.Stale.Lasts.{true_false}
use Rattle.core_laws.specs.Stale.Laws.{ListsKeys}
use Rattle.event_spec.specs.Effects.{range_keys}
use Rattle.event_spec.specs.Lawful.{Among}
use Rattle.event_spec.specs.Newest.{keys_within}
use Rattle.event_spec.specs.Parts.{Parts, Shape, ShardOf, below, part_at, places_at, shard_from, shard_of}
use Rattle.key_index.specs.Candidates.{Places, candidates_of}

-- What passes a test is among those that do, and the other way round.
member_filter : {X : Type 0} (test : X → Bool) (xs : List X) (x : X) → Among x (filter test xs) → test x ≡ true
member_filter test [] x a = absurd a
member_filter test (y ∷ xs) x a = go (test y) refl a (member_filter test xs x)
  where
    go : (b : Bool) → test y ≡ b → Among x (cond b (y ∷ filter test xs) (filter test xs)) → (Among x (filter test xs) → test x ≡ true) → test x ≡ true
    go true is (inl e) rest = ap test e ∙ is
    go true is (inr a) rest = rest a
    go false is a rest = rest a

filter_member : {X : Type 0} (test : X → Bool) (xs : List X) (x : X) → Among x xs → test x ≡ true → Among x (filter test xs)
filter_member test [] x a is = absurd a
filter_member {X} test (y ∷ xs) x a is = go (test y) refl a (λ b. filter_member test xs x b is)
  where
    go : (b : Bool) → test y ≡ b → Among x (y ∷ xs) → (Among x xs → Among x (filter test xs)) → Among x (cond b (y ∷ filter test xs) (filter test xs))
    go true passes (inl e) rest = inl e
    go true passes (inr a) rest = inr (rest a)
    go false fails (inl e) rest = absurd (true_false (sym is ∙ ap test e ∙ fails))
    go false fails (inr a) rest = rest a

-- a key to which some key of a list is tied is in the list
tied_member : (ks : List ℤ) (key : ℤ) → list_any (eq_by_cmp int_cmp key) ks ≡ true → Among key ks
tied_member [] key is = absurd (true_false (sym is))
tied_member (k ∷ ks) key is = go (eq_by_cmp int_cmp key k) refl is (tied_member ks key)
  where
    tied : (r : Ordering) → is_eq r ≡ true → r ≡ Equal
    tied Less e = cc
    tied Equal e = refl
    tied Greater e = cc

    go : (b : Bool) → eq_by_cmp int_cmp key k ≡ b → (b || list_any (eq_by_cmp int_cmp key) ks) ≡ true → (list_any (eq_by_cmp int_cmp key) ks ≡ true → Among key ks) → Among key (k ∷ ks)
    go true same e rest = inl (finite.int_cmp-IsAntisymmetric key k (tied (int_cmp key k) same))
    go false same e rest = inr (rest e)

-- a key with a candidate is a key of its shard
listed : (shard : Places) (key : ℤ) (place : ℕ) → Among place (candidates_of shard key) → Among key (finite.keys shard)
listed shard key place a = tied_member (finite.keys shard) key (sym (finite.contains_key-keys shard key) ∙ there (finite.get shard key) a)
  where
    there : (o : Option (List ℕ)) → Among place (unwrap_or o []) → is_some o ≡ true
    there None a = absurd a
    there (Some ps) a = refl

-- a key's shard is one of eight
few_shards : (key : ℤ) → shard_of key < 8
few_shards (pos n) = omega arith
few_shards (negsuc n) = omega arith

-- The keys in a range are within it, and each key within it that has a place is one.
pub lists_keys : (sh : Shape) (s : Parts) → ListsKeys (places_at sh s) (range_keys sh s)
lists_keys sh s = record {
  within = λ table low high key a.
      let shard = flat_member (λ shard. keys_within low high (shard_from (part_at sh s (ShardOf table shard)))) (below 8) key a in
      member_filter (is_between low high) (finite.keys (shard_from (part_at sh s (ShardOf table shard.0)))) key shard.2;
  all = λ table low high key place a inside.
      member_flat (λ shard. keys_within low high (shard_from (part_at sh s (ShardOf table shard)))) (below 8) (shard_of key) key
      (below_member 0 8 (shard_of key) (omega arith) (let few = few_shards key in omega (arith, few)))
      (filter_member (is_between low high) (finite.keys (shard_from (part_at sh s (ShardOf table (shard_of key))))) key
      (listed (shard_from (part_at sh s (ShardOf table (shard_of key)))) key place a) inside);
}
