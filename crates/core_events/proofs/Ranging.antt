-- A range in the hand is the core's.
use Rattle.std.proofs.Common.{◌≡◌, ◌≢◌, ℕ, zero, suc, ◌+◌, ◌<◌, ◌≤◌, ℤ, true, false, ◌||◌, ◌==◌, List, [], ◌∷◌, ◌++◌, drop, get_or, map, Option, None, Some, is_some, length, unwrap_or, refl, sym, ap, ◌∙◌, subst, arith, All}
use mathlib.Core.Logic.{inl, inr}
use Rattle.std.specs.Prelude.{IfSome, option_to_list, sum_by}
use Rattle.std.specs.Cmp.{int_cmp_total, tied_itself}
use Rattle.std.specs.Ordering.{eq_by_cmp, int_cmp, is_eq}
use Rattle.std.specs.List.{cons_option, filter_map, flat_map, list_any, range_with_len}
use Rattle.std.specs.FinMap as finite
use Rattle.std.proofs.lemmas.Bool.{and_from, or_left, or_right}
use Rattle.std.proofs.lemmas.Grind.{flat_map-append}
use Rattle.std.proofs.lemmas.List.Elements.{filter_map-append}
use Rattle.std.proofs.lemmas.List.{append-nil, map-append}
use Rattle.std.proofs.lemmas.List.Sums.{sum_by-append, sum_by-cons}
use Rattle.block_layout.specs.Place.{block_of}
use Rattle.block_spec.specs.Slots.{Row}
use Rattle.core_events.proofs.Judging.{largest_two}
use Rattle.core_events.proofs.Keys.{shard_there, slots_there}
use Rattle.core_events.specs.Candidates.{candidates_in}
use Rattle.core_events.specs.Ranges.{HasRange, HasRow, keys_in, range_in}
use Rattle.core_events.specs.Slots.{HasSlot}
use Rattle.core_events.specs.Stale.{HasGot, larger, newest_at, range_read}
use Rattle.cell_model.specs.Values.{is_between}
use Rattle.core_laws.proofs.Events.Apart.{kept_among}
use Rattle.core_laws.proofs.Events.Lists.{all_at, all_by, flat_member, in_right, member_below, member_flat, below_member}
use Rattle.core_laws.proofs.Events.Owners.{all_slots}
use Rattle.core_laws.proofs.Events.Slots.{num_refl}
use Rattle.core_laws.proofs.Frames.Judged.{flat_alike}
use Rattle.core_laws.proofs.Frames.Looks.{any_true, block_among, touches}
use Rattle.core_parts.proofs.Placing.{in_state}
use Rattle.core_parts.proofs.Telling.{a_shard, has_shard, places_are}
use Rattle.core_parts.specs.Hands.{Held, MayRun, in_hand}
use Rattle.event_spec.specs.declared.event.Event.TheVariants as event
use Rattle.event_spec.specs.declared.own.OwnTransaction.{OwnTransaction}
use Rattle.event_spec.specs.declared.part.Part.TheVariants as part
use Rattle.event_spec.specs.Effects.{CoreEvent, range_keys}
use Rattle.event_spec.specs.Lawful.{Among, HasReads, HasTable}
use Rattle.event_spec.specs.Newest.{judged_reads, keys_within}
use Rattle.event_spec.specs.Parts.{Parts, Shape, Name, ShardOf, BodyOf, TheDesk, below, names, part_at, places_at, same_name, shard_from, shard_of}
use Rattle.event_spec.specs.Touched.{is_body_of, is_body_written, is_shard_in, seen_places, touched_by_got, touched_by_range, touched_by_reads}
use Rattle.hall_rule.specs.Hands.{Agrees}
use Rattle.isolation_spec.specs.Contents.{at_place, place_at}
use Rattle.isolation_spec.specs.declared.read.KeyRange.{KeyRange}
use Rattle.isolation_spec.specs.declared.read.Read.TheVariants as read
use Rattle.isolation_spec.specs.Reads.{ReadSet}
use Rattle.key_index.specs.Candidates.{Places, candidates_of}
use Rattle.txn_desk.specs.declared.Snapshot.{Snapshot}
use Rattle.undo_chain.specs.Conflict.{largest}

-- a key of a shard has candidates there
key_got : (places : Places) (key : ℤ) → Among key (finite.keys places) → (candidates : List ℕ) × (finite.get places key ≡ Some candidates)
key_got places key a = go (finite.get places key) refl
  where
    there : is_some (finite.get places key) ≡ true
    there = finite.contains_key-keys places key ∙ any_true (eq_by_cmp int_cmp key) (finite.keys places) key a (ap is_eq (tied_itself int_cmp_total key))

    go : (o : Option (List ℕ)) → finite.get places key ≡ o → (candidates : List ℕ) × (finite.get places key ≡ Some candidates)
    go None is = absurd (let never : false ≡ true = sym (ap is_some is) ∙ there in cc)
    go (Some candidates) is = (candidates, is)

-- the numbers below one more
range_next : (from n : ℕ) → range_with_len from (n + 1) ≡ range_with_len from n ++ (from + n) ∷ []
range_next from zero = ap (λ k. k ∷ []) (let e : from ≡ from + 0 = omega arith in e)
range_next from (suc n) =
    ap (range_with_len from) (let e : suc n + 1 ≡ suc (n + 1) = omega arith in e)
    ∙ ap (λ (ks : List ℕ). from ∷ ks) (range_next (from + 1) n ∙ ap (λ k. range_with_len (from + 1) n ++ k ∷ []) (let e : from + 1 + n ≡ from + suc n = omega arith in e))

below_next : (n : ℕ) → below (n + 1) ≡ below n ++ n ∷ []
below_next n = range_next 0 n ∙ ap (λ k. below n ++ k ∷ []) (let e : 0 + n ≡ n = omega arith in e)

-- ---- the keys

-- a key's candidates in the hand are the core's
pub key_places : (sh : Shape) (hand : Held) (s : Parts) (t : ℕ) (key : ℤ) → HasGot sh hand (place_at t key) → Agrees hand s → places_at sh s t key ≡ candidates_in sh hand t key
key_places sh hand s t key has agrees =
    let x = a_shard sh hand t (shard_of key) has.shard in
    places_are sh hand s agrees t key x.0 x.1 ∙ ap (λ o. candidates_of (shard_from o) key) (sym x.1)

module _ (sh : Shape) (hand : Held) (range : KeyRange) (has : HasRange sh hand range) (s : Parts) (agrees : Agrees hand s) where
  -- the shards in the hand have the keys that the core's have
  pub keys_told : range_keys sh s range.table range.low range.high ≡ range_in sh hand range
  keys_told = flat_alike (keys_in sh hand range) (λ i. keys_within range.low range.high (shard_from (part_at sh s (ShardOf range.table i)))) (below 8)
      (λ i a.
      let less = member_below 0 8 i a in
      let x = a_shard sh hand range.table i (has.shards i (omega (arith, less))) in
      ap (λ o. keys_within range.low range.high (shard_from o)) (in_state (names sh) hand s (ShardOf range.table i) (part.Shard x.0) agrees x.1 ∙ sym x.1))

  -- and the same candidates of each
  pub places_told : (key : ℤ) → Among key (range_in sh hand range) → places_at sh s range.table key ≡ candidates_in sh hand range.table key
  places_told key a = key_places sh hand s range.table key (has.got key a) agrees

-- what each key of a list adds is the same where it is for each
pub sum_alike : (one other : ℤ → ℕ) (keys : List ℤ) → ((key : ℤ) → Among key keys → one key ≡ other key) → sum_by one keys ≡ sum_by other keys
sum_alike one other [] same = refl
sum_alike one other (key ∷ keys) same =
    sum_by-cons one key keys ∙ ap (λ n. n + sum_by one keys) (same key (inl refl)) ∙ ap (λ n. other key + n) (sum_alike one other keys (λ k a. same k (inr a)))
    ∙ sym (sum_by-cons other key keys)

-- a shard's keys are of the range
pub in_range : (sh : Shape) (hand : Held) (range : KeyRange) (i : ℕ) (key : ℤ) → i < 8 → Among key (keys_in sh hand range i) → Among key (range_in sh hand range)
in_range sh hand range i key less a = member_flat (keys_in sh hand range) (below 8) i key (below_member 0 8 i (omega arith) (omega (arith, less))) a

-- ---- the range that is read

module _ (sh : Shape) (hand : Held) (own : OwnTransaction) (range : KeyRange) (m : MayRun sh (event.Range own range.table range.low range.high) hand) where
  abbrev e : CoreEvent
  e = event.Range own range.table range.low range.high

  there : HasTable sh range.table
  there = m.lawful.1

  -- It touches the shards of its table,
  shard_touched : (i : ℕ) → touches sh e hand (ShardOf range.table i) ≡ true
  shard_touched i = or_left (is_shard_in range.table (ShardOf range.table i))
      (list_any (λ key. is_body_of range.table (seen_places sh (in_hand sh hand) own range.table key) (ShardOf range.table i)) (range_in sh hand range)) (num_refl range.table)

  -- and the bodies of its keys' candidates.
  body_touched : (key : ℤ) → Among key (range_in sh hand range) → (p : ℕ) → Among p (candidates_in sh hand range.table key) → touches sh e hand (BodyOf range.table (block_of p)) ≡ true
  body_touched key a p b =
      or_right (is_shard_in range.table (BodyOf range.table (block_of p))) (list_any (λ key. is_body_of range.table (seen_places sh (in_hand sh hand) own range.table key) (BodyOf range.table (block_of p))) (range_in sh hand range))
      (any_true (λ key. is_body_of range.table (seen_places sh (in_hand sh hand) own range.table key) (BodyOf range.table (block_of p))) (range_in sh hand range) key a
      (and_from (range.table == range.table) (list_any (λ place. block_of place == block_of p) (seen_places sh (in_hand sh hand) own range.table key)) (num_refl range.table)
      (block_among (seen_places sh (in_hand sh hand) own range.table key) p (in_right (option_to_list (at_place own.writes (place_at range.table key))) (candidates_in sh hand range.table key) p b))))

  -- so they are in the hand.
  pub has_range : HasRange sh hand range
  has_range = record {
    shards = λ i less. has_shard sh e hand m range.table i there less (shard_touched i);
    got = λ key a. record {
      shard = shard_there sh e hand m range.table key there (shard_touched (shard_of key)) (body_touched key a);
      slots = slots_there sh e hand m range.table key there (shard_touched (shard_of key)) (body_touched key a);
    };
  }

  -- Each of its keys has a candidate,
  one_candidate : (key : ℤ) → Among key (range_in sh hand range) → 1 ≤ length (candidates_in sh hand range.table key)
  one_candidate key a =
      let k = flat_member (keys_in sh hand range) (below 8) key a in
      let less = member_below 0 8 k.0 k.1 in
      let x = a_shard sh hand range.table k.0 (has_shard sh e hand m range.table k.0 there (omega (arith, less)) (shard_touched k.0)) in
      let holds = m.holds.shards range.table k.0 x.0 (in_state (names sh) hand m.parts (ShardOf range.table k.0) (part.Shard x.0) m.agrees x.1) in
      let listed = (kept_among (is_between range.low range.high) (finite.keys (shard_from (in_hand sh hand (ShardOf range.table k.0)))) key k.2).0 in
      let got = key_got x.0 key (subst (λ o. Among key (finite.keys (shard_from o))) x.1 listed) in
      let its : candidates_in sh hand range.table key ≡ got.0 =
      ap (λ i. candidates_of (shard_from (in_hand sh hand (ShardOf range.table i))) key) (holds.own key got.0 got.1)
      ∙ ap (λ o. candidates_of (shard_from o) key) x.1 ∙ ap (λ o. unwrap_or o []) got.1 in
      some (candidates_in sh hand range.table key) (λ none. holds.some key (got.1 ∙ ap Some (sym its ∙ none)))
    where
      some : (cs : List ℕ) → cs ≢ [] → 1 ≤ length cs
      some [] not = absurd (not refl)
      some (c ∷ cs) not = omega arith

  -- and what is read of it is in the hand.
  pub has_row : (key : ℤ) → Among key (range_in sh hand range) → HasRow sh hand own range.table key
  has_row key a = record {
    some = one_candidate key a;
    got = has_range.got key a;
    written = go (at_place own.writes (place_at range.table key)) refl;
  }
    where
      go : (w : Option ℕ) → at_place own.writes (place_at range.table key) ≡ w → IfSome w (HasSlot sh hand range.table)
      go None is = tt
      go (Some p) is = (has_range.got key a).slots p
          (subst (Among p) (places_told sh hand range has_range m.parts m.agrees key a) ((all_slots sh m.parts m.holds.sound own m.lawful.0 range.table key).there p is).0)

-- ---- the ranges by which a commit is judged

module _ (sh : Shape) (own : OwnTransaction) (reads : Option ReadSet) (hand : Held) (m : MayRun sh (event.Commit own reads) hand)
    (set : ReadSet) (judged : judged_reads own.writes reads ≡ Some set) (lawful : HasReads sh set) where
  -- What a range touches the commit touches.
  range_touched : (r : KeyRange) → Among r set.ranges → (n : Name) → touched_by_range sh (in_hand sh hand) r n ≡ true → touches sh (event.Commit own reads) hand n ≡ true
  range_touched r a n is =
      or_left (is_body_written own.writes n || touched_by_reads sh (in_hand sh hand) (judged_reads own.writes reads) n) (same_name TheDesk n)
      (or_right (is_body_written own.writes n) (touched_by_reads sh (in_hand sh hand) (judged_reads own.writes reads) n)
      (ap (λ r. touched_by_reads sh (in_hand sh hand) r n) judged
      ∙ or_right (list_any (λ place. touched_by_got sh (in_hand sh hand) place n) set.places) (list_any (λ range. touched_by_range sh (in_hand sh hand) range n) set.ranges)
      (any_true (λ range. touched_by_range sh (in_hand sh hand) range n) set.ranges r a is)))

  -- All of them are in the hand.
  pub has_ranges : All (HasRange sh hand) set.ranges
  has_ranges = all_by (HasRange sh hand) set.ranges (λ r a. record {
    shards = λ i less. has_shard sh (event.Commit own reads) hand m r.table i (there r a) less (shard r a i);
    got = λ key k. record {
      shard = shard_there sh (event.Commit own reads) hand m r.table key (there r a) (shard r a (shard_of key)) (body r a key k);
      slots = slots_there sh (event.Commit own reads) hand m r.table key (there r a) (shard r a (shard_of key)) (body r a key k);
    };
  })
    where
      there : (r : KeyRange) → Among r set.ranges → HasTable sh r.table
      there r a = all_at (λ (r : KeyRange). HasTable sh r.table) set.ranges r lawful.ranges a

      shard : (r : KeyRange) → Among r set.ranges → (i : ℕ) → touches sh (event.Commit own reads) hand (ShardOf r.table i) ≡ true
      shard r a i = range_touched r a (ShardOf r.table i)
          (or_left (is_shard_in r.table (ShardOf r.table i)) (list_any (λ key. is_body_of r.table (candidates_in sh hand r.table key) (ShardOf r.table i)) (range_in sh hand r)) (num_refl r.table))

      body : (r : KeyRange) → Among r set.ranges → (key : ℤ) → Among key (range_in sh hand r) → (p : ℕ) → Among p (candidates_in sh hand r.table key) → touches sh (event.Commit own reads) hand (BodyOf r.table (block_of p)) ≡ true
      body r a key k p b = range_touched r a (BodyOf r.table (block_of p))
          (or_right (is_shard_in r.table (BodyOf r.table (block_of p))) (list_any (λ key. is_body_of r.table (candidates_in sh hand r.table key) (BodyOf r.table (block_of p))) (range_in sh hand r))
          (any_true (λ key. is_body_of r.table (candidates_in sh hand r.table key) (BodyOf r.table (block_of p))) (range_in sh hand r) key k
          (and_from (r.table == r.table) (list_any (λ place. block_of place == block_of p) (candidates_in sh hand r.table key)) (num_refl r.table) (block_among (candidates_in sh hand r.table key) p b))))

-- ---- numbers of keys

-- the larger of what is largest so far and one more number
pub larger_more : (xs : List ℕ) (o : Option ℕ) → larger (largest xs) o ≡ largest (xs ++ option_to_list o)
larger_more xs o = ap (larger (largest xs)) (one o) ∙ sym (largest_two xs (option_to_list o))
  where
    one : (o : Option ℕ) → o ≡ largest (option_to_list o)
    one None = refl
    one (Some n) = refl

-- one more key
pub more_keys : {X Y : Type 0} (f : ℤ → List Y) (g : X → ℤ) (xs : List X) (x : X) → flat_map f (map g (xs ++ x ∷ [])) ≡ flat_map f (map g xs) ++ f (g x)
more_keys f g xs x = ap (flat_map f) (map-append g xs (x ∷ [])) ∙ flat_map-append f (map g xs) (g x ∷ []) ∙ ap (λ ns. flat_map f (map g xs) ++ ns) (append-nil (f (g x)))

-- and its row, if it has one
pub rows_more : {X : Type 0} (f : ℤ → Option Row) (g : X → ℤ) (xs : List X) (x : X) → filter_map f (map g (xs ++ x ∷ [])) ≡ filter_map f (map g xs) ++ option_to_list (f (g x))
rows_more f g xs x = ap (filter_map f) (map-append g xs (x ∷ [])) ∙ filter_map-append f (map g xs) (g x ∷ []) ∙ ap (λ rows. filter_map f (map g xs) ++ rows) (one (f (g x)))
  where
    one : (o : Option Row) → cons_option o [] ≡ option_to_list o
    one None = refl
    one (Some row) = refl

-- what is read of it, beside what is read of the others
pub sum_more : {X : Type 0} (h : ℤ → ℕ) (g : X → ℤ) (xs : List X) (x : X) → sum_by h (map g (xs ++ x ∷ [])) ≡ sum_by h (map g xs) + h (g x)
sum_more h g xs x = ap (sum_by h) (map-append g xs (x ∷ [])) ∙ sum_by-append h (map g xs) (g x ∷ []) ∙ ap (λ n. sum_by h (map g xs) + n) (sum_by-cons h (g x) [] ∙ nothing (h (g x)))
  where
    nothing : (n : ℕ) → n + 0 ≡ n
    nothing n = omega arith

pub sum_front : (h : ℤ → ℕ) (all front : List ℤ) (key : ℤ) (rest : List ℤ) → all ≡ front ++ key ∷ rest → sum_by h front + h key ≤ sum_by h all
sum_front h all front key rest is =
    let whole : sum_by h all ≡ sum_by h front + (h key + sum_by h rest) = ap (sum_by h) is ∙ sum_by-append h front (key ∷ rest) ∙ ap (λ n. sum_by h front + n) (sum_by-cons h key rest) in
    omega (arith, whole)

-- one more shard of a range
pub shards_next : {X : Type 0} (g : ℕ → List X) (n : ℕ) → flat_map g (below (n + 1)) ≡ flat_map g (below n) ++ g n
shards_next g n = ap (flat_map g) (below_next n) ∙ flat_map-append g (below n) (n ∷ []) ∙ ap (λ xs. flat_map g (below n) ++ xs) (append-nil (g n))

-- fewer shards add no more
pub shards_sum : {X : Type 0} (h : X → ℕ) (g : ℕ → List X) (n d : ℕ) → sum_by h (flat_map g (below n)) ≤ sum_by h (flat_map g (below (n + d)))
shards_sum h g n zero = let same : sum_by h (flat_map g (below (n + 0))) ≡ sum_by h (flat_map g (below n)) = ap (λ m. sum_by h (flat_map g (below m))) (let e : n + 0 ≡ n = omega arith in e) in omega (arith, same)
shards_sum h g n (suc d) =
    let rest = shards_sum h g n d in
    let next = ap (sum_by h) (shards_next g (n + d)) ∙ sum_by-append h (flat_map g (below (n + d))) (g (n + d)) in
    let same = ap (λ m. sum_by h (flat_map g (below m))) (let e : n + suc d ≡ n + d + 1 = omega arith in e) in
    omega (arith, rest, next, same)

-- what is read of all keys, by the core
pub sum_told : (sh : Shape) (hand : Held) (range : KeyRange) → HasRange sh hand range → (s : Parts) → Agrees hand s
    → sum_by (λ key. length (candidates_in sh hand range.table key)) (range_in sh hand range) ≡ sum_by (λ key. length (places_at sh s range.table key)) (range_keys sh s range.table range.low range.high)
sum_told sh hand range has s agrees =
    sum_alike (λ key. length (candidates_in sh hand range.table key)) (λ key. length (places_at sh s range.table key)) (range_in sh hand range)
    (λ key a. ap length (sym (places_told sh hand range has s agrees key a)))
    ∙ ap (sum_by (λ key. length (places_at sh s range.table key))) (sym (keys_told sh hand range has s agrees))

-- the rows of one more shard
pub shard_rows : (f : ℤ → Option Row) (g : ℕ → List ℤ) (n : ℕ) → filter_map f (flat_map g (below (n + 1))) ≡ filter_map f (flat_map g (below n)) ++ filter_map f (g n)
shard_rows f g n = ap (filter_map f) (shards_next g n) ∙ filter_map-append f (flat_map g (below n)) (g n)

-- what stands from a place on
pub drop_or : {X : Type 0} (xs : List X) (i : ℕ) (d : X) → i < length xs → drop i xs ≡ get_or xs i d ∷ drop (i + 1) xs
drop_or [] i d less = absurd (omega (arith, less))
drop_or (x ∷ xs) zero d less = refl
drop_or (x ∷ xs) (suc i) d less = drop_or xs i d (omega (arith, less)) ∙ ap (λ n. get_or xs i d ∷ drop n (x ∷ xs)) (let e : suc (i + 1) ≡ suc i + 1 = omega arith in e)

-- what is told of a range by the hand is the core's
pub range_told : (sh : Shape) (hand : Held) (s : Parts) (snapshot : Snapshot) (range : KeyRange) → HasRange sh hand range → Agrees hand s
    → newest_at sh s snapshot (range_read range)
    ≡ largest (flat_map (λ key. option_to_list (newest_at sh s snapshot (read.Key range.table key))) (range_in sh hand range))
range_told sh hand s snapshot range has agrees =
    ap (λ keys. largest (flat_map (λ key. option_to_list (newest_at sh s snapshot (read.Key range.table key))) keys)) (keys_told sh hand range has s agrees)
