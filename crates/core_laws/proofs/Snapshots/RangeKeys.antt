-- Each key of a range stands once.
use Rattle.std.proofs.Common.{◌≡◌, ◌≢◌, ℕ, zero, suc, ◌+◌, ◌≤◌, ℤ, Bool, true, false, cond, ◌&&◌, List, [], ◌∷◌, ◌++◌, map, filter, Option, None, Some, is_some, refl, sym, ap, ◌∙◌, subst, arith}
use mathlib.Core.Logic.{inl, inr}
use Rattle.std.specs.Prelude.{⊤, AllPairs, T}
use Rattle.std.specs.List.{flat_map, range_with_len}
use Rattle.std.specs.Ordering.{eq_by_cmp, int_cmp, is_eq, is_lt}
use Rattle.std.specs.Cmp.{int_cmp_total, tied_itself}
use Rattle.std.specs.FinMap as finite
use Rattle.std.specs.FinMap.{contains_key-keys, get-empty}
use Rattle.std.specs.FinMap.Entries.{below_all, is_sorted}
use Rattle.std.proofs.lemmas.List.Kept.{AllPairs-cons}
use Rattle.std.proofs.lemmas.Option.{same_Some}
use Rattle.cell_model.specs.Values.{is_between}
use Rattle.core_laws.proofs.Events.Apart.{kept_among}
use Rattle.core_laws.proofs.Events.Lists.{all_by, flat_member, split}
use Rattle.core_laws.proofs.Events.Owners.{all_open, all_slots}
use Rattle.core_laws.proofs.Events.Ranged.{keyed, row_is}
use Rattle.core_laws.proofs.Following.Sessions as sessions
use Rattle.core_laws.proofs.Frames.Looks.{any_true}
use Rattle.core_laws.specs.Following.Owned.{HasOpen, OwnSlot}
use Rattle.core_laws.specs.Frames.Shards.{ShardsHold}
use Rattle.core_laws.specs.Snapshots.Laws.{RangesFindEachOnce}
use Rattle.event_spec.specs.declared.part.Part.TheVariants as part
use Rattle.event_spec.specs.Effects.{range_keys}
use Rattle.event_spec.specs.Lawful.{Among}
use Rattle.event_spec.specs.Newest.{keys_within}
use Rattle.event_spec.specs.Parts.{CorePart, Parts, Shape, ShardOf, desk_at, part_at, places_at, shard_from, shard_of, slot_at}
use Rattle.isolation_spec.specs.Contents.{at_place, place_at}
use Rattle.isolation_spec.specs.Machine.{seen_rows}
use Rattle.key_index.specs.Candidates.{Places}

-- ---- lists without a member twice

abbrev Once : List ℤ → Type 0
Once [] = ⊤
Once (x ∷ xs) = ((y : ℤ) → Among y xs → x ≢ y) × Once xs

-- what is left of such a list is one
once_kept : (test : ℤ → Bool) (xs : List ℤ) → Once xs → Once (filter test xs)
once_kept test [] once = tt
once_kept test (x ∷ xs) once = go (test x) (once_kept test xs once.1)
  where
    go : (b : Bool) → Once (filter test xs) → Once (cond b (x ∷ filter test xs) (filter test xs))
    go true rest = (λ y a. once.0 y (kept_among test xs y a).0, rest)
    go false rest = rest

-- and so are two without a member of both
once_both : (xs ys : List ℤ) → Once xs → Once ys → ((x y : ℤ) → Among x xs → Among y ys → x ≢ y) → Once (xs ++ ys)
once_both [] ys one other apart = other
once_both (x ∷ xs) ys one other apart = (
  λ y a. elim (split xs ys y a) [
    | inl b ↦ one.0 y b
    | inr b ↦ apart x y (inl refl) b
  ],
  once_both xs ys one.1 other (λ v w a b. apart v w (inr a) b),
)

-- no two places of it have the same
pairs_once : (xs : List ℤ) → Once xs → AllPairs (λ one other. one ≢ other) xs
pairs_once [] once = λ i j d less end. absurd (omega (arith, end))
pairs_once (x ∷ xs) once = AllPairs-cons (λ one other. one ≢ other) x xs (all_by (λ y. x ≢ y) xs once.0) (pairs_once xs once.1)

-- ---- a shard

both_true : (a b : Bool) → T (a && b) → T a × T b
both_true true true h = (tt, tt)
both_true true false h = absurd h
both_true false b h = absurd h

-- a key below all others is none of them
below_apart : (x y : ℤ) (es : List (ℤ × List ℕ)) → T (below_all int_cmp x es) → Among y (map (λ e. e.0) es) → x ≢ y
below_apart x y [] low a = absurd a
below_apart x y (e ∷ es) low a = elim a [
  | inl is ↦ λ same. subst (λ r. T (is_lt r)) (tied_itself int_cmp_total x) (subst (λ z. T (is_lt (int_cmp x z))) (sym (same ∙ is)) (both_true _ _ low).0)
  | inr b ↦ below_apart x y es (both_true (is_lt (int_cmp x e.0)) (below_all int_cmp x es) low).1 b
]

-- keys that rise stand once
rising_once : (es : List (ℤ × List ℕ)) → T (is_sorted int_cmp es) → Once (map (λ e. e.0) es)
rising_once [] rising = tt
rising_once (e ∷ es) rising =
    let both = both_true (below_all int_cmp e.0 es) (is_sorted int_cmp es) rising in
    (λ y a. below_apart e.0 y es both.0 a, rising_once es both.1)

-- a key of a shard has candidates there
key_got : (places : Places) (key : ℤ) → Among key (finite.keys places) → (candidates : List ℕ) × (finite.get places key ≡ Some candidates)
key_got places key a = go (finite.get places key) refl
  where
    there : is_some (finite.get places key) ≡ true
    there = contains_key-keys places key ∙ any_true (eq_by_cmp int_cmp key) (finite.keys places) key a (ap is_eq (tied_itself int_cmp_total key))

    go : (o : Option (List ℕ)) → finite.get places key ≡ o → (candidates : List ℕ) × (finite.get places key ≡ Some candidates)
    go None is = absurd (let never : false ≡ true = sym (ap is_some is) ∙ there in cc)
    go (Some candidates) is = (candidates, is)

-- a shard that is none has no key
no_key : (key : ℤ) → Among key (finite.keys (finite.empty {X = List ℕ} {R = int_cmp})) → ⊥
no_key key a =
    let got = key_got finite.empty key a in
    let never : None ≡ Some got.0 = sym (get-empty int_cmp key) ∙ got.1 in
    absurd (cc)

module _ (sh : Shape) (s : Parts) (shards : ShardsHold sh s) (t : ℕ) (low high : ℤ) where
  -- the keys of a shard in the range
  abbrev keys_in : ℕ → List ℤ
  keys_in i = keys_within low high (shard_from (part_at sh s (ShardOf t i)))

  -- They stand once,
  shard_once : (i : ℕ) → Once (keys_in i)
  shard_once i = once_kept (is_between low high) (finite.keys (shard_from (part_at sh s (ShardOf t i))))
      (rising_once (finite.entries (shard_from (part_at sh s (ShardOf t i)))) (finite.entries_sorted (shard_from (part_at sh s (ShardOf t i)))))

  -- and are keys of that shard.
  of_shard : (i : ℕ) (key : ℤ) → Among key (keys_in i) → shard_of key ≡ i
  of_shard i key a = go (part_at sh s (ShardOf t i)) refl (kept_among (is_between low high) (finite.keys (shard_from (part_at sh s (ShardOf t i)))) key a).0
    where
      go : (o : Option CorePart) → part_at sh s (ShardOf t i) ≡ o → Among key (finite.keys (shard_from o)) → shard_of key ≡ i
      go None is b = absurd (no_key key b)
      go (Some (part.Head head)) is b = absurd (no_key key b)
      go (Some (part.Shard places)) is b = let got = key_got places key b in (shards t i places is).own key got.0 got.1
      go (Some (part.Body body)) is b = absurd (no_key key b)
      go (Some (part.Desk desk)) is b = absurd (no_key key b)

  -- a member of the numbers from one on is no lower
  from_first : (a n k : ℕ) → Among k (range_with_len a n) → a ≤ k
  from_first a zero k b = absurd b
  from_first a (suc n) k (inl e) = omega (arith, e)
  from_first a (suc n) k (inr b) = let rest = from_first (a + 1) n k b in omega (arith, rest)

  shards_once : (a n : ℕ) → Once (flat_map keys_in (range_with_len a n))
  shards_once a zero = tt
  shards_once a (suc n) = once_both (keys_in a) (flat_map keys_in (range_with_len (a + 1) n)) (shard_once a) (shards_once (a + 1) n) apart
    where
      apart : (x y : ℤ) → Among x (keys_in a) → Among y (flat_map keys_in (range_with_len (a + 1) n)) → x ≢ y
      apart x y b c same =
          let later = flat_member keys_in (range_with_len (a + 1) n) y c in
          let above = from_first (a + 1) n later.0 later.1 in
          let here = of_shard a x b in
          let there = of_shard later.0 y later.2 in
          let one : a ≡ later.0 = sym here ∙ ap shard_of same ∙ there in
          omega (arith, above, one)

-- What a session finds of the keys of a range are the machine's rows, each once.
pub ranges_find_each_once : RangesFindEachOnce
ranges_find_each_once sh s own t low high m open' shape ok shards owns f is_open = record {
  shown = λ key. row_is sh s own t low high m f has slots key ∙ ap (λ x. at_place (seen_rows m x) (place_at t key)) the_is;
  keyed = keyed sh s own t low high m f has slots;
  once = pairs_once (range_keys sh s t low high) (shards_once sh s shards t low high 0 8);
}
  where
    has : HasOpen (desk_at sh s) own.session own.snapshot
    has = all_open sh s ok own owns

    slots : (key : ℤ) → OwnSlot (slot_at sh s) (places_at sh s) own.session t key (at_place own.writes (place_at t key))
    slots = all_slots sh s ok own owns t

    the_is : sessions.tr (slot_at sh s) (places_at sh s) (desk_at sh s) m f.follows own.session own.snapshot has ≡ open'
    the_is = same_Some (sessions.tr (slot_at sh s) (places_at sh s) (desk_at sh s) m f.follows own.session own.snapshot has) open'
        (sym (sessions.mine (slot_at sh s) (places_at sh s) (desk_at sh s) m f.follows own.session own.snapshot has) ∙ is_open)
