-- In which order the kinds of parts stand, and that an event asks only what stands before a part.
use Rattle.std.proofs.Common.{◌≡◌, ◌⊎◌, ℕ, zero, suc, ◌<◌, ◌≤◌, ℤ, Bool, false, cond, ◌||◌, ◌==◌, List, [], ◌∷◌, ◌++◌, Option, None, Some, length, map, refl, sym, ap, ◌∙◌, arith}
use mathlib.Core.Logic.{inl, inr}
use Rattle.std.specs.Prelude.{slice_get, option_to_list}
use Rattle.std.specs.List.{flat_map, list_any}
use Rattle.std.specs.Option.{option_or}
use Rattle.std.proofs.lemmas.Option.{same_Some, none-some}
use Rattle.core_laws.proofs.Events.Lists.{flat_member, map_member, split}
use Rattle.core_laws.proofs.Events.Naming.{bodies_in, heads_in, shards_in}
use Rattle.event_spec.specs.declared.event.Event.TheVariants as event
use Rattle.event_spec.specs.Effects.{CoreEvent}
use Rattle.event_spec.specs.Judged.{next_place}
use Rattle.event_spec.specs.Lawful.{Among}
use Rattle.event_spec.specs.Parts.{CorePart, Shape, Name, HeadOf, ShardOf, BodyOf, TheDesk, same_name, names, held_named, head_from, shard_from, slots_of, shard_of, below, blocks_of}
use Rattle.event_spec.specs.declared.own.OwnTransaction.{OwnTransaction}
use Rattle.event_spec.specs.Newest.{judged_reads, keys_within}
use Rattle.event_spec.specs.Touched.{held_keys, held_places, is_body_of, is_body_written, is_shard_in, passes_test, touched, touched_by_got, touched_by_insert, touched_by_key, touched_by_range, touched_by_reads}
use Rattle.isolation_spec.specs.declared.place.Place.{Place}
use Rattle.isolation_spec.specs.declared.read.KeyRange.{KeyRange}
use Rattle.isolation_spec.specs.Reads.{ReadSet}
use Rattle.core_laws.proofs.Frames.Looks.{got_among}
use Rattle.core_laws.specs.Frames.Laws.{Ascends}
use Rattle.isolation_spec.specs.Contents.{at_place, key_of, place_at}
use Rattle.key_index.specs.Candidates.{candidates_of}

-- heads stand before shards, these before bodies, and the desk is last
pub rank : Name → ℕ
rank (HeadOf t) = 0
rank (ShardOf t i) = 1
rank (BodyOf t b) = 2
rank TheDesk = 3

-- Each name's rank is no higher than those of the names behind it.
abbrev Ranked : List Name → Type 0
Ranked [] = Unit {0}
Ranked (n ∷ ns) = ((w : Name) → Among w ns → rank n ≤ rank w) × Ranked ns

-- Ranked lists, the second with no lower ranks than the first, are ranked when put together.
ranked_append : (xs ys : List Name) → Ranked xs → Ranked ys → ((m n : Name) → Among m xs → Among n ys → rank m ≤ rank n) → Ranked (xs ++ ys)
ranked_append [] ys r s c = s
ranked_append (x ∷ xs) ys r s c = (λ w a. go w (split xs ys w a), ranked_append xs ys r.1 s (λ m n a b. c m n (inr a) b))
  where
    go : (w : Name) → Among w xs ⊎ Among w ys → rank x ≤ rank w
    go w (inl a) = r.0 w a
    go w (inr b) = c x w (inl refl) b

-- Names that all have one rank are ranked.
ranked_alike : (k : ℕ) (ns : List Name) → ((w : Name) → Among w ns → rank w ≡ k) → Ranked ns
ranked_alike k [] all = tt
ranked_alike k (n ∷ ns) all = (
  λ w a. let x = all n (inl refl) in let y = all w (inr a) in omega (arith, x, y),
  ranked_alike k ns (λ w a. all w (inr a)),
)

-- Among ranked names one that stands no later has no higher rank.
ranked_at : (ns : List Name) (j k : ℕ) (m n : Name) → Ranked ns → j ≤ k → slice_get ns j ≡ Some m → slice_get ns k ≡ Some n → rank m ≤ rank n
ranked_at [] j k m n r le a b = cc
ranked_at (x ∷ ns) zero zero m n r le a b = let same : m ≡ n = cc in let e = ap rank same in omega (arith, e)
ranked_at (x ∷ ns) zero (suc k) m n r le a b =
    let same : x ≡ m = cc in let e = ap rank same in let up = r.0 n (got_among ns k n b) in omega (arith, e, up)
ranked_at (x ∷ ns) (suc j) zero m n r le a b = absurd (omega (arith, le))
ranked_at (x ∷ ns) (suc j) (suc k) m n r le a b = ranked_at ns j k m n r.1 (omega (arith, le)) a b

module _ (sh : Shape) where
  -- heads come first
  pub head_rank : (w : Name) → Among w (heads_in sh) → rank w ≡ 0
  unfolding rank
  head_rank w a = let x = map_member HeadOf (below (length sh.tables)) w a in ap rank x.2

  -- then shards
  pub shard_rank : (w : Name) → Among w (shards_in sh) → rank w ≡ 1
  unfolding rank
  shard_rank w a =
      let x = flat_member (λ t. map (ShardOf t) (below 8)) (below (length sh.tables)) w a in
      let y = map_member (ShardOf x.0) (below 8) w x.2 in ap rank y.2

  -- then bodies
  pub body_rank : (w : Name) → Among w (bodies_in sh) → rank w ≡ 2
  unfolding rank
  body_rank w a =
      let x = flat_member (λ t. map (BodyOf t) (below (blocks_of sh t))) (below (length sh.tables)) w a in
      let y = map_member (BodyOf x.0) (below (blocks_of sh x.0)) w x.2 in ap rank y.2

  -- and the desk last
  pub desk_rank : (w : Name) → Among w (TheDesk ∷ []) → rank w ≡ 3
  unfolding rank
  desk_rank w (inl e) = ap rank e
  desk_rank w (inr a) = absurd a

  -- The names of all parts are ranked.
  names_ranked : Ranked (names sh)
  names_ranked =
      ranked_append (heads_in sh ++ shards_in sh ++ bodies_in sh) (TheDesk ∷ [])
      (ranked_append (heads_in sh ++ shards_in sh) (bodies_in sh)
      (ranked_append (heads_in sh) (shards_in sh) (ranked_alike 0 (heads_in sh) head_rank) (ranked_alike 1 (shards_in sh) shard_rank)
      (λ m n a b. let x = head_rank m a in omega (arith, x)))
      (ranked_alike 2 (bodies_in sh) body_rank)
      (λ m n a b. let y = body_rank n b in low m n y (split (heads_in sh) (shards_in sh) m a)))
      (ranked_alike 3 (TheDesk ∷ []) desk_rank)
      (λ m n a b. let y = desk_rank n b in under m n y (split (heads_in sh ++ shards_in sh) (bodies_in sh) m a))
    where
      low : (m n : Name) → rank n ≡ 2 → Among m (heads_in sh) ⊎ Among m (shards_in sh) → rank m ≤ rank n
      low m n y (inl a) = let x = head_rank m a in omega (arith, x, y)
      low m n y (inr a) = let x = shard_rank m a in omega (arith, x, y)

      under : (m n : Name) → rank n ≡ 3 → Among m (heads_in sh ++ shards_in sh) ⊎ Among m (bodies_in sh) → rank m ≤ rank n
      under m n y (inl a) = at (split (heads_in sh) (shards_in sh) m a)
        where
          at : Among m (heads_in sh) ⊎ Among m (shards_in sh) → rank m ≤ rank n
          at (inl a) = let x = head_rank m a in omega (arith, x, y)
          at (inr a) = let x = shard_rank m a in omega (arith, x, y)
      under m n y (inr a) = let x = body_rank m a in omega (arith, x, y)

-- each table's head is of the first kind
pub head_low : (t : ℕ) → rank (HeadOf t) ≡ 0
unfolding rank
head_low t = refl

-- ---- what two hands tell alike

-- Where a name is none of the list's, the hand holds no part under it.
held_none : (ns : List Name) (hand : List (Option CorePart)) (w : Name) → ((j : ℕ) (n : Name) → slice_get ns j ≡ Some n → same_name n w ≡ false) → held_named ns hand w ≡ None
held_none [] hand w none = refl
held_none (n ∷ ns) [] w none = refl
held_none (n ∷ ns) (o ∷ hand) w none =
    ap (λ b. cond b o (held_named ns hand w)) (none 0 n refl) ∙ held_none ns hand w (λ j. none (suc j))

-- names that do not stand from a number on are told by what stands before it
held_before : (ns : List Name) (one other : List (Option CorePart)) (k : ℕ) (w : Name)
    → ((j : ℕ) → j < k → slice_get one j ≡ slice_get other j)
    → ((j : ℕ) (n : Name) → k ≤ j → slice_get ns j ≡ Some n → same_name n w ≡ false)
    → held_named ns one w ≡ held_named ns other w
held_before ns one other zero w same none =
    held_none ns one w (λ j n is. none j n (omega arith) is) ∙ sym (held_none ns other w (λ j n is. none j n (omega arith) is))
held_before [] one other (suc k) w same none = refl
held_before (n ∷ ns) [] [] (suc k) w same none = refl
held_before (n ∷ ns) [] (o ∷ other) (suc k) w same none = absurd (none-some o (same 0 (omega arith)))
held_before (n ∷ ns) (o ∷ one) [] (suc k) w same none = absurd (none-some o (sym (same 0 (omega arith))))
held_before (n ∷ ns) (o ∷ one) (p ∷ other) (suc k) w same none =
    ap (λ x. cond (same_name n w) x (held_named ns one w)) (same_Some o p (same 0 (omega arith)))
    ∙ ap (λ y. cond (same_name n w) p y) (held_before ns one other k w (λ j less. same (suc j) (omega (arith, less))) (λ j m le is. none (suc j) m (omega (arith, le)) is))

-- Tests that agree find alike,
any_alike : {X : Type 0} (test another : X → Bool) (xs : List X) → ((x : X) → test x ≡ another x) → list_any test xs ≡ list_any another xs
any_alike test another [] same = refl
any_alike test another (x ∷ xs) same = ap (λ b. b || list_any test xs) (same x) ∙ ap (λ b. another x || b) (any_alike test another xs same)

-- and one that fails finds nothing.
any_none : {X : Type 0} (xs : List X) → list_any (λ (x : X). false) xs ≡ false
any_none [] = refl
any_none (x ∷ xs) = any_none xs

-- a name of a lower rank is another
lower : (w n : Name) → rank w < 2 → 2 ≤ rank n → same_name n w ≡ false
unfolding rank
lower (HeadOf t) (HeadOf u) a b = absurd (omega (arith, b))
lower (HeadOf t) (ShardOf u j) a b = refl
lower (HeadOf t) (BodyOf u c) a b = refl
lower (HeadOf t) TheDesk a b = refl
lower (ShardOf t i) (HeadOf u) a b = refl
lower (ShardOf t i) (ShardOf u j) a b = absurd (omega (arith, b))
lower (ShardOf t i) (BodyOf u c) a b = refl
lower (ShardOf t i) TheDesk a b = refl
lower (BodyOf t i) n a b = absurd (omega (arith, a))
lower TheDesk n a b = absurd (omega (arith, a))

module _ (sh : Shape) (one other : List (Option CorePart)) (k : ℕ) (same : (j : ℕ) → j < k → slice_get one j ≡ slice_get other j) where
  -- a body is told by heads and shards, which stand before it
  told : (u x : ℕ) → slice_get (names sh) k ≡ Some (BodyOf u x) → (w : Name) → rank w < 2 → held_named (names sh) one w ≡ held_named (names sh) other w
  unfolding rank
  told u x is w low = held_before (names sh) one other k w same
      (λ j n le at. let up = ranked_at (names sh) k j (BodyOf u x) n (names_ranked sh) le is at in lower w n low (omega (arith, up)))

  -- Whether an event on a key touches a body is told alike by hands that agree before it.
  key_told : (u x t : ℕ) (key : ℤ) (written : Option ℕ) → slice_get (names sh) k ≡ Some (BodyOf u x)
      → touched_by_key t key (option_to_list written ++ candidates_of (shard_from (held_named (names sh) one (ShardOf t (shard_of key)))) key) (BodyOf u x)
      ≡ touched_by_key t key (option_to_list written ++ candidates_of (shard_from (held_named (names sh) other (ShardOf t (shard_of key)))) key) (BodyOf u x)
  unfolding rank
  key_told u x t key written is =
      ap (λ o. touched_by_key t key (option_to_list written ++ candidates_of (shard_from o) key) (BodyOf u x)) (told u x is (ShardOf t (shard_of key)) (omega arith))

  -- Whether an insert touches a body is the same for hands that agree below the body's part.
  insert_told : (u x t : ℕ) (key : ℤ) (written : Option ℕ) → slice_get (names sh) k ≡ Some (BodyOf u x)
      → touched_by_insert t key (option_or written (next_place (head_from (held_named (names sh) one (HeadOf t))) (slots_of sh t))) (candidates_of (shard_from (held_named (names sh) one (ShardOf t (shard_of key)))) key) (BodyOf u x)
      ≡ touched_by_insert t key (option_or written (next_place (head_from (held_named (names sh) other (HeadOf t))) (slots_of sh t))) (candidates_of (shard_from (held_named (names sh) other (ShardOf t (shard_of key)))) key) (BodyOf u x)
  unfolding rank
  insert_told u x t key written is =
      ap (λ o. touched_by_insert t key (option_or written (next_place (head_from o) (slots_of sh t))) (candidates_of (shard_from (held_named (names sh) one (ShardOf t (shard_of key)))) key) (BodyOf u x))
      (told u x is (HeadOf t) (omega arith))
      ∙ ap (λ o. touched_by_insert t key (option_or written (next_place (head_from (held_named (names sh) other (HeadOf t))) (slots_of sh t))) (candidates_of (shard_from o) key) (BodyOf u x))
      (told u x is (ShardOf t (shard_of key)) (omega arith))

  -- the candidates of a key, and the keys of a table between two, by a hand
  abbrev places_by : List (Option CorePart) → ℕ → ℤ → List ℕ
  places_by hand t key = held_places sh (held_named (names sh) hand) t key

  abbrev keys_by : List (Option CorePart) → ℕ → ℤ → ℤ → List ℤ
  keys_by hand t low high = held_keys sh (held_named (names sh) hand) t low high

  -- Whether a key that was got touches a part is told alike,
  got_told : (place : Place) (n : Name) → slice_get (names sh) k ≡ Some n
      → touched_by_got sh (held_named (names sh) one) place n ≡ touched_by_got sh (held_named (names sh) other) place n
  got_told place (HeadOf u) is = refl
  got_told place (ShardOf u i) is = refl
  got_told place (BodyOf u x) is = key_told u x place.table place.key None is
  got_told place TheDesk is = refl

  -- and whether a range does, some places of each of its keys being told besides.
  keyed_told : (t : ℕ) (low high : ℤ) (first : ℤ → List ℕ) (n : Name) → slice_get (names sh) k ≡ Some n
      → (is_shard_in t n || list_any (λ key. is_body_of t (first key ++ places_by one t key) n) (keys_by one t low high))
      ≡ (is_shard_in t n || list_any (λ key. is_body_of t (first key ++ places_by other t key) n) (keys_by other t low high))
  unfolding rank
  keyed_told t low high first (HeadOf u) is = any_none (keys_by one t low high) ∙ sym (any_none (keys_by other t low high))
  keyed_told t low high first (ShardOf u i) is =
      ap (λ b. (t == u) || b) (any_none (keys_by one t low high) ∙ sym (any_none (keys_by other t low high)))
  keyed_told t low high first (BodyOf u x) is =
      any_alike (λ key. is_body_of t (first key ++ places_by one t key) (BodyOf u x)) (λ key. is_body_of t (first key ++ places_by other t key) (BodyOf u x)) (keys_by one t low high)
      (λ key. ap (λ o. is_body_of t (first key ++ candidates_of (shard_from o) key) (BodyOf u x)) (told u x is (ShardOf t (shard_of key)) (omega arith)))
      ∙ ap (list_any (λ key. is_body_of t (first key ++ places_by other t key) (BodyOf u x)))
      (keys_told (below 8) (λ i. told u x is (ShardOf t i) (omega arith)))
    where
      keys_told : (shards : List ℕ) → ((i : ℕ) → held_named (names sh) one (ShardOf t i) ≡ held_named (names sh) other (ShardOf t i))
          → flat_map (λ i. keys_within low high (shard_from (held_named (names sh) one (ShardOf t i)))) shards
          ≡ flat_map (λ i. keys_within low high (shard_from (held_named (names sh) other (ShardOf t i)))) shards
      keys_told [] alike = refl
      keys_told (i ∷ shards) alike =
          ap (λ o. keys_within low high (shard_from o) ++ flat_map (λ i. keys_within low high (shard_from (held_named (names sh) one (ShardOf t i)))) shards) (alike i)
          ∙ ap (λ ks. keys_within low high (shard_from (held_named (names sh) other (ShardOf t i))) ++ ks) (keys_told shards alike)
  keyed_told t low high first TheDesk is = any_none (keys_by one t low high) ∙ sym (any_none (keys_by other t low high))

  range_told : (range : KeyRange) (n : Name) → slice_get (names sh) k ≡ Some n
      → touched_by_range sh (held_named (names sh) one) range n ≡ touched_by_range sh (held_named (names sh) other) range n
  range_told range n is = keyed_told range.table range.low range.high (λ key. []) n is

  -- So is whether a commit does.
  commit_told : (own : OwnTransaction) (reads : Option ReadSet) (n : Name) → slice_get (names sh) k ≡ Some n
      → touched sh (held_named (names sh) one) (event.Commit own reads) n ≡ touched sh (held_named (names sh) other) (event.Commit own reads) n
  commit_told own reads n is = ap (λ b. (is_body_written own.writes n || b) || same_name TheDesk n) (go (judged_reads own.writes reads))
    where
      go : (o : Option ReadSet) → touched_by_reads sh (held_named (names sh) one) o n ≡ touched_by_reads sh (held_named (names sh) other) o n
      go None = refl
      go (Some set) =
          ap (λ b. b || list_any (λ range. touched_by_range sh (held_named (names sh) one) range n) set.ranges)
          (any_alike (λ place. touched_by_got sh (held_named (names sh) one) place n) (λ place. touched_by_got sh (held_named (names sh) other) place n) set.places (λ place. got_told place n is))
          ∙ ap (λ b. list_any (λ place. touched_by_got sh (held_named (names sh) other) place n) set.places || b)
          (any_alike (λ range. touched_by_range sh (held_named (names sh) one) range n) (λ range. touched_by_range sh (held_named (names sh) other) range n) set.ranges (λ range. range_told range n is))

  -- Whether an event touches a part is told alike, by its name, by hands that agree before it.
  by_name : (e : CoreEvent) (n : Name) → slice_get (names sh) k ≡ Some n → touched sh (held_named (names sh) one) e n ≡ touched sh (held_named (names sh) other) e n
  by_name (event.Begin q) n is = refl
  by_name (event.Get own t key) (HeadOf u) is = refl
  by_name (event.Get own t key) (ShardOf u i) is = refl
  by_name (event.Get own t key) (BodyOf u x) is = key_told u x t key own.written is
  by_name (event.Get own t key) TheDesk is = refl
  by_name (event.Insert own t row) (HeadOf u) is = refl
  by_name (event.Insert own t row) (ShardOf u i) is = refl
  by_name (event.Insert own t row) (BodyOf u x) is = insert_told u x t (key_of row) own.written is
  by_name (event.Insert own t row) TheDesk is = refl
  by_name (event.Update own t row) (HeadOf u) is = refl
  by_name (event.Update own t row) (ShardOf u i) is = refl
  by_name (event.Update own t row) (BodyOf u x) is = key_told u x t (key_of row) own.written is
  by_name (event.Update own t row) TheDesk is = refl
  by_name (event.Delete own t key) (HeadOf u) is = refl
  by_name (event.Delete own t key) (ShardOf u i) is = refl
  by_name (event.Delete own t key) (BodyOf u x) is = key_told u x t key own.written is
  by_name (event.Delete own t key) TheDesk is = refl
  by_name (event.Read own t b) n is = refl
  by_name (event.Range own t low high) n is = keyed_told t low high (λ key. option_to_list (at_place own.writes (place_at t key))) n is
  by_name (event.Commit own reads) n is = commit_told own reads n is
  by_name (event.Abort own) n is = refl
  by_name event.Oldest n is = refl
  by_name (event.Observe t b) n is = refl
  by_name (event.Prune t b oldest) n is = refl
  by_name (event.Look t b) n is = refl
  by_name (event.Move t moves) n is = refl
  by_name (event.Seal t b) n is = refl
  by_name (event.Image t b image) n is = refl
  by_name (event.Thaw t b) n is = refl

-- Whether an event touches a part the parts before it tell.
pub ascends : Ascends
ascends sh e one other k same = go (slice_get (names sh) k) refl
  where
    go : (o : Option Name) → slice_get (names sh) k ≡ o → passes_test (touched sh (held_named (names sh) one) e) (slice_get (names sh) k) ≡ passes_test (touched sh (held_named (names sh) other) e) (slice_get (names sh) k)
    go None is = ap (passes_test (touched sh (held_named (names sh) one) e)) is ∙ ap (passes_test (touched sh (held_named (names sh) other) e)) (sym is)
    go (Some n) is =
        ap (passes_test (touched sh (held_named (names sh) one) e)) is ∙ by_name sh one other k same e n is
        ∙ ap (passes_test (touched sh (held_named (names sh) other) e)) (sym is)
