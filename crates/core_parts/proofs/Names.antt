-- The names that an event touches are those of the list.
use Rattle.std.proofs.Common.{◌≡◌, ℕ, zero, suc, ◌+◌, ◌<◌, ◌≤◌, ℤ, Bool, true, false, ◌&&◌, ◌||◌, ◌==◌, List, [], ◌∷◌, ◌++◌, map, Option, None, Some, length, refl, sym, ap, ◌∙◌, arith}
use mathlib.Core.Logic.{inl, inr}
use Rattle.std.specs.Prelude.{option_to_list, slice_get}
use Rattle.std.specs.List.{flat_map, list_any, range_with_len}
use Rattle.std.specs.Option.{option_or}
use Rattle.std.proofs.lemmas.Bool.Decides.{nat_tests}
use Rattle.std.proofs.lemmas.List.Folds.{list_any-append}
use Rattle.std.proofs.lemmas.Bool.{or_right}
use Rattle.block_layout.specs.Place.{block_of}
use Rattle.core_parts.specs.Hands.{Held, in_hand}
use Rattle.core_parts.proofs.Telling.{table_of_head, table_of_shard}
use Rattle.core_parts.specs.Keyed.{IsKeyed}
use Rattle.core_parts.specs.Touched.{bodies_at, bodies_on, bodies_written, names_got, names_on_key, names_ranged, names_read, shards_in, shards_moved, shards_written, sources_moved, targets_moved, touched_names}
use Rattle.event_spec.specs.declared.event.Event.TheVariants as event
use Rattle.event_spec.specs.declared.event.MovePair.{MovePair}
use Rattle.event_spec.specs.Effects.{CoreEvent}
use Rattle.event_spec.specs.Lawful.{Among}
use Rattle.event_spec.specs.Parts.{Name, HeadOf, ShardOf, BodyOf, TheDesk, Shape, below, names, same_name, shard_of, tables_of}
use Rattle.event_spec.specs.Newest.{judged_reads}
use Rattle.isolation_spec.specs.declared.place.Place.{Place}
use Rattle.isolation_spec.specs.declared.read.KeyRange.{KeyRange}
use Rattle.isolation_spec.specs.Reads.{ReadSet}
use Rattle.event_spec.specs.Touched.{held_keys, held_next, held_places, is_any_head, is_body_moved, is_body_of, is_body_written, is_shard_in, is_shard_moved, is_shard_written, passes_test, touched, touched_by_got, touched_by_key, touched_by_range, touched_by_reads, touching}
use Rattle.isolation_spec.specs.Contents.{PlaceMap, at_place, key_of, place_at}

-- whether one of the names is this one
abbrev any : List Name → Name → Bool
any ws name = list_any (λ w. same_name w name) ws

-- A disjunction with false behind is its first part.
or_false : (a : Bool) → (a || false) ≡ a
or_false true = refl
or_false false = refl

-- A disjunction of three is the same from the left as from the right.
or_assoc : (a b c : Bool) → ((a || b) || c) ≡ (a || (b || c))
or_assoc true b c = refl
or_assoc false b c = refl

-- A conjunction with a disjunction is that of both conjunctions.
and_or : (a b c : Bool) → (a && (b || c)) ≡ ((a && b) || (a && c))
and_or true b c = refl
and_or false b c = refl

-- A conjunction with false behind is false.
and_false : (a : Bool) → (a && false) ≡ false
and_false true = refl
and_false false = refl

-- Disjunctions of equal parts are equal.
both : (a b c d : Bool) → a ≡ b → c ≡ d → (a || c) ≡ (b || d)
both a b c d x y = ap (λ z. z || c) x ∙ ap (λ z. b || z) y

-- of names that are all of one kind, none is of another
none_of : {X : Type 0} (f : X → Name) (name : Name) (xs : List X) → ((x : X) → same_name (f x) name ≡ false) → any (map f xs) name ≡ false
none_of f name [] each = refl
none_of f name (x ∷ xs) each = ap (λ b. b || any (map f xs) name) (each x) ∙ none_of f name xs each

-- bodies of places of a table
any_bodies : (t : ℕ) (ps : List ℕ) (name : Name) → any (bodies_at t ps) name ≡ is_body_of t ps name
any_bodies t ps (HeadOf u) = none_of (λ p. BodyOf t (block_of p)) (HeadOf u) ps (λ p. refl)
any_bodies t ps (ShardOf u i) = none_of (λ p. BodyOf t (block_of p)) (ShardOf u i) ps (λ p. refl)
any_bodies t ps TheDesk = none_of (λ p. BodyOf t (block_of p)) TheDesk ps (λ p. refl)
any_bodies t [] (BodyOf u b) = sym (and_false (t == u))
any_bodies t (p ∷ ps) (BodyOf u b) =
    ap (λ z. ((t == u) && (block_of p == b)) || z) (any_bodies t ps (BodyOf u b))
    ∙ sym (and_or (t == u) (block_of p == b) (list_any (λ p. block_of p == b) ps))

-- bodies and shards that a transaction wrote
any_written : (ws : PlaceMap ℕ) (name : Name) → any (bodies_written ws) name ≡ is_body_written ws name
any_written ws (HeadOf u) = none_of (λ w. BodyOf w.0.table (block_of w.1)) (HeadOf u) ws (λ w. refl)
any_written ws (ShardOf u i) = none_of (λ w. BodyOf w.0.table (block_of w.1)) (ShardOf u i) ws (λ w. refl)
any_written ws TheDesk = none_of (λ w. BodyOf w.0.table (block_of w.1)) TheDesk ws (λ w. refl)
any_written [] (BodyOf u b) = refl
any_written (w ∷ ws) (BodyOf u b) = ap (λ z. ((w.0.table == u) && (block_of w.1 == b)) || z) (any_written ws (BodyOf u b))

-- A name is one of the written shards where a write's key is in its shard.
any_keys : (ws : PlaceMap ℕ) (name : Name) → any (shards_written ws) name ≡ is_shard_written ws name
any_keys ws (HeadOf u) = none_of (λ w. ShardOf w.0.table (shard_of w.0.key)) (HeadOf u) ws (λ w. refl)
any_keys ws (BodyOf u b) = none_of (λ w. ShardOf w.0.table (shard_of w.0.key)) (BodyOf u b) ws (λ w. refl)
any_keys ws TheDesk = none_of (λ w. ShardOf w.0.table (shard_of w.0.key)) TheDesk ws (λ w. refl)
any_keys [] (ShardOf u i) = refl
any_keys (w ∷ ws) (ShardOf u i) = ap (λ z. ((w.0.table == u) && (shard_of w.0.key == i)) || z) (any_keys ws (ShardOf u i))

-- those of a move
any_moved_keys : (t : ℕ) (ps : List MovePair) (name : Name) → any (shards_moved t ps) name ≡ is_shard_moved t ps name
any_moved_keys t ps (HeadOf u) = none_of (λ (p : MovePair). ShardOf t (shard_of p.key)) (HeadOf u) ps (λ p. refl)
any_moved_keys t ps (BodyOf u b) = none_of (λ (p : MovePair). ShardOf t (shard_of p.key)) (BodyOf u b) ps (λ p. refl)
any_moved_keys t ps TheDesk = none_of (λ (p : MovePair). ShardOf t (shard_of p.key)) TheDesk ps (λ p. refl)
any_moved_keys t [] (ShardOf u i) = sym (and_false (t == u))
any_moved_keys t (p ∷ ps) (ShardOf u i) =
    ap (λ z. ((t == u) && (shard_of p.key == i)) || z) (any_moved_keys t ps (ShardOf u i))
    ∙ sym (and_or (t == u) (shard_of p.key == i) (list_any (λ (p : MovePair). shard_of p.key == i) ps))

-- A name is the body of a source or a target where it is moved by a pair.
any_pairs : (t : ℕ) (ps : List MovePair) (name : Name) → (any (sources_moved t ps) name || any (targets_moved t ps) name) ≡ is_body_moved t ps name
any_pairs t [] name = refl
any_pairs t (p ∷ ps) name =
    four (same_name (BodyOf t (block_of p.source)) name) (any (sources_moved t ps) name) (same_name (BodyOf t (block_of p.target)) name) (any (targets_moved t ps) name)
    ∙ both (same_name (BodyOf t (block_of p.source)) name || (same_name (BodyOf t (block_of p.target)) name || false)) (is_body_of t (p.source ∷ p.target ∷ []) name)
    (any (sources_moved t ps) name || any (targets_moved t ps) name) (is_body_moved t ps name)
    (any_bodies t (p.source ∷ p.target ∷ []) name) (any_pairs t ps name)
  where
    four : (a b c d : Bool) → ((a || b) || (c || d)) ≡ ((a || (c || false)) || (b || d))
    four true b c d = refl
    four false true true d = refl
    four false true false d = refl
    four false false true d = refl
    four false false false d = refl

-- all heads, and all shards of a table
any_below : (f : ℕ → Name) (name : Name) (from n k : ℕ) → from ≤ k → k < from + n → same_name (f k) name ≡ true → any (map f (range_with_len from n)) name ≡ true
any_below f name from zero k low high is = absurd (omega (arith, low, high))
any_below f name from (suc n) k low high is = go (from == k) refl (λ l. any_below f name (from + 1) n k l (omega (arith, high)) is)
  where
    equal : (a b : ℕ) → (a == b) ≡ true → a ≡ b
    equal a b e = grind (arith, nat_tests)

    differ : (a b : ℕ) → (a == b) ≡ false → a ≤ b → a + 1 ≤ b
    differ a b e l = grind (arith, nat_tests)

    go : (b : Bool) → (from == k) ≡ b → (from + 1 ≤ k → any (map f (range_with_len (from + 1) n)) name ≡ true) → any (map f (range_with_len from (suc n))) name ≡ true
    go true e rest = ap (λ z. z || any (map f (range_with_len (from + 1) n)) name) (ap (λ x. same_name (f x) name) (equal from k e) ∙ is)
    go false e rest = or_right (same_name (f from) name) (any (map f (range_with_len (from + 1) n)) name) (rest (differ from k e low))

-- A number is tested to be itself.
same_number : (n : ℕ) → (n == n) ≡ true
same_number n = grind (arith, nat_tests)

-- A name of the core is one of all heads where it is a head.
any_heads : (sh : Shape) (name : Name) → Among name (names sh) → any (map HeadOf (tables_of sh)) name ≡ is_any_head name
any_heads sh (HeadOf u) a = any_below HeadOf (HeadOf u) 0 (length sh.tables) u (omega arith) (let h = table_of_head sh u a in omega (arith, h)) (same_number u)
any_heads sh (ShardOf u i) a = none_of HeadOf (ShardOf u i) (tables_of sh) (λ t. refl)
any_heads sh (BodyOf u b) a = none_of HeadOf (BodyOf u b) (tables_of sh) (λ t. refl)
any_heads sh TheDesk a = none_of HeadOf TheDesk (tables_of sh) (λ t. refl)

-- A name of the core is one of a table's shards where it is such a shard.
any_shards : (sh : Shape) (t : ℕ) (name : Name) → Among name (names sh) → any (shards_in t) name ≡ is_shard_in t name
any_shards sh t (HeadOf u) a = none_of (ShardOf t) (HeadOf u) (below 8) (λ i. refl)
any_shards sh t (BodyOf u b) a = none_of (ShardOf t) (BodyOf u b) (below 8) (λ i. refl)
any_shards sh t TheDesk a = none_of (ShardOf t) TheDesk (below 8) (λ i. refl)
any_shards sh t (ShardOf u i) a = go (t == u) refl
  where
    go : (b : Bool) → (t == u) ≡ b → any (shards_in t) (ShardOf u i) ≡ (t == u)
    go true e = any_below (ShardOf t) (ShardOf u i) 0 8 i (omega arith) (let h = (table_of_shard sh u i a).1 in omega (arith, h))
        (ap (λ z. z && (i == i)) e ∙ same_number i) ∙ sym e
    go false e = none_of (ShardOf t) (ShardOf u i) (below 8) (λ j. ap (λ z. z && (j == i)) e) ∙ sym e

-- A name is in one of two lists where it is in both together.
any_two : (ws vs : List Name) (name : Name) → any (ws ++ vs) name ≡ (any ws name || any vs name)
any_two ws vs name = list_any-append (λ w. same_name w name) ws vs

-- A name is a body of one or other list of places where it is of both together.
body_two : (t : ℕ) (ps qs : List ℕ) (name : Name) → (is_body_of t ps name || is_body_of t qs name) ≡ is_body_of t (ps ++ qs) name
body_two t ps qs (HeadOf u) = refl
body_two t ps qs (ShardOf u i) = refl
body_two t ps qs TheDesk = refl
body_two t ps qs (BodyOf u b) =
    sym (and_or (t == u) (list_any (λ p. block_of p == b) ps) (list_any (λ p. block_of p == b) qs))
    ∙ ap (λ z. (t == u) && z) (sym (list_any-append (λ p. block_of p == b) ps qs))

module _ (sh : Shape) (hand : Held) (name : Name) (a : Among name (names sh)) where
  -- A name is one of those on a key where an event on the key touches it.
  on_key : (t : ℕ) (key : ℤ) (place : Option ℕ) → any (names_on_key sh (in_hand sh hand) t key place) name
      ≡ touched_by_key t key (option_to_list place ++ held_places sh (in_hand sh hand) t key) name
  on_key t key place =
      let s = ShardOf t (shard_of key) ∷ [] in
      let ps = option_to_list place in
      let qs = held_places sh (in_hand sh hand) t key in
      any_two (s ++ bodies_at t ps) (bodies_at t qs) name
      ∙ ap (λ z. z || any (bodies_at t qs) name) (any_two s (bodies_at t ps) name)
      ∙ or_assoc (any s name) (any (bodies_at t ps) name) (any (bodies_at t qs) name)
      ∙ both (any s name) (same_name (ShardOf t (shard_of key)) name) (any (bodies_at t ps) name || any (bodies_at t qs) name) (is_body_of t (ps ++ qs) name)
      (or_false (same_name (ShardOf t (shard_of key)) name))
      (both (any (bodies_at t ps) name) (is_body_of t ps name) (any (bodies_at t qs) name) (is_body_of t qs name) (any_bodies t ps name) (any_bodies t qs name) ∙ body_two t ps qs name)

  -- A name is one with the head in front where it is the head or one of them.
  behind_head : (t : ℕ) (ws : List Name) (b : Bool) → any ws name ≡ b → any (HeadOf t ∷ [] ++ ws) name ≡ (same_name (HeadOf t) name || b)
  behind_head t ws b is = ap (λ z. same_name (HeadOf t) name || z) is

  -- A name is one of a head and a body where it is either.
  with_head : (t b : ℕ) → any (HeadOf t ∷ BodyOf t b ∷ []) name ≡ (same_name (HeadOf t) name || same_name (BodyOf t b) name)
  with_head t b = ap (λ z. same_name (HeadOf t) name || z) (or_false (same_name (BodyOf t b) name))

  -- A name is one with the desk behind where it is one of them or the desk.
  then_desk : (ws : List Name) (b : Bool) → any ws name ≡ b → any (ws ++ TheDesk ∷ []) name ≡ (b || same_name TheDesk name)
  then_desk ws b is = any_two ws (TheDesk ∷ []) name ∙ both (any ws name) b (any (TheDesk ∷ []) name) (same_name TheDesk name) is (or_false (same_name TheDesk name))

  -- A name is one of those of keys that were got where one of them touches it.
  any_got : (ps : List Place) → any (flat_map (names_got sh (in_hand sh hand)) ps) name ≡ list_any (λ place. touched_by_got sh (in_hand sh hand) place name) ps
  any_got [] = refl
  any_got (p ∷ ps) =
      any_two (names_got sh (in_hand sh hand) p) (flat_map (names_got sh (in_hand sh hand)) ps) name
      ∙ both (any (names_got sh (in_hand sh hand) p) name) (touched_by_got sh (in_hand sh hand) p name) (any (flat_map (names_got sh (in_hand sh hand)) ps) name) (list_any (λ place. touched_by_got sh (in_hand sh hand) place name) ps)
      (on_key p.table p.key None) (any_got ps)

  -- A name is one of a range where the range touches it.
  any_keyed : (writes : PlaceMap ℕ) (t : ℕ) (keys : List ℤ) → any (flat_map (bodies_on sh (in_hand sh hand) writes t) keys) name
      ≡ list_any (λ key. is_body_of t (option_to_list (at_place writes (place_at t key)) ++ held_places sh (in_hand sh hand) t key) name) keys
  any_keyed writes t [] = refl
  any_keyed writes t (key ∷ keys) =
      let own = option_to_list (at_place writes (place_at t key)) in
      let qs = held_places sh (in_hand sh hand) t key in
      any_two (bodies_on sh (in_hand sh hand) writes t key) (flat_map (bodies_on sh (in_hand sh hand) writes t) keys) name
      ∙ both (any (bodies_on sh (in_hand sh hand) writes t key) name) (is_body_of t (own ++ qs) name) (any (flat_map (bodies_on sh (in_hand sh hand) writes t) keys) name)
      (list_any (λ key. is_body_of t (option_to_list (at_place writes (place_at t key)) ++ held_places sh (in_hand sh hand) t key) name) keys)
      (any_two (bodies_at t own) (bodies_at t qs) name
      ∙ both (any (bodies_at t own) name) (is_body_of t own name) (any (bodies_at t qs) name) (is_body_of t qs name) (any_bodies t own name) (any_bodies t qs name) ∙ body_two t own qs name)
      (any_keyed writes t keys)

  any_ranged : (writes : PlaceMap ℕ) (range : KeyRange) → any (names_ranged sh (in_hand sh hand) writes range) name
      ≡ (is_shard_in range.table name
      || list_any (λ key. is_body_of range.table (option_to_list (at_place writes (place_at range.table key)) ++ held_places sh (in_hand sh hand) range.table key) name) (held_keys sh (in_hand sh hand) range.table range.low range.high))
  any_ranged writes range =
      let keys = held_keys sh (in_hand sh hand) range.table range.low range.high in
      any_two (shards_in range.table) (flat_map (bodies_on sh (in_hand sh hand) writes range.table) keys) name
      ∙ both (any (shards_in range.table) name) (is_shard_in range.table name) (any (flat_map (bodies_on sh (in_hand sh hand) writes range.table) keys) name)
      (list_any (λ key. is_body_of range.table (option_to_list (at_place writes (place_at range.table key)) ++ held_places sh (in_hand sh hand) range.table key) name) keys)
      (any_shards sh range.table name a) (any_keyed writes range.table keys)

  any_ranges : (ranges : List KeyRange) → any (flat_map (names_ranged sh (in_hand sh hand) []) ranges) name ≡ list_any (λ range. touched_by_range sh (in_hand sh hand) range name) ranges
  any_ranges [] = refl
  any_ranges (range ∷ ranges) =
      any_two (names_ranged sh (in_hand sh hand) [] range) (flat_map (names_ranged sh (in_hand sh hand) []) ranges) name
      ∙ both (any (names_ranged sh (in_hand sh hand) [] range) name) (touched_by_range sh (in_hand sh hand) range name) (any (flat_map (names_ranged sh (in_hand sh hand) []) ranges) name)
      (list_any (λ range. touched_by_range sh (in_hand sh hand) range name) ranges)
      (any_ranged [] range) (any_ranges ranges)

  -- So it is of reads.
  any_read : (o : Option ReadSet) → any (names_read sh (in_hand sh hand) o) name ≡ touched_by_reads sh (in_hand sh hand) o name
  any_read None = refl
  any_read (Some set) =
      any_two (flat_map (names_got sh (in_hand sh hand)) set.places) (flat_map (names_ranged sh (in_hand sh hand) []) set.ranges) name
      ∙ both (any (flat_map (names_got sh (in_hand sh hand)) set.places) name) (list_any (λ place. touched_by_got sh (in_hand sh hand) place name) set.places)
      (any (flat_map (names_ranged sh (in_hand sh hand) []) set.ranges) name) (list_any (λ range. touched_by_range sh (in_hand sh hand) range name) set.ranges)
      (any_got set.places) (any_ranges set.ranges)

  -- An event touches a name where it is among those that are listed.
  pub touched_any : (e : CoreEvent) → IsKeyed e → any (touched_names sh (in_hand sh hand) e) name ≡ touched sh (in_hand sh hand) e name
  touched_any (event.Begin session) keyed = or_false (same_name TheDesk name)
  touched_any (event.Get own t key) keyed = on_key t key own.written
  touched_any (event.Insert own t row) keyed =
      behind_head t (names_on_key sh (in_hand sh hand) t (key_of row) (option_or own.written (held_next sh (in_hand sh hand) t))) _
      (on_key t (key_of row) (option_or own.written (held_next sh (in_hand sh hand) t)))
  touched_any (event.Update own t row) keyed = on_key t (key_of row) own.written
  touched_any (event.Delete own t key) keyed = on_key t key own.written
  touched_any (event.Read own t b) keyed = or_false (same_name (BodyOf t b) name)
  touched_any (event.Range own t low high) keyed = any_ranged own.writes (record { table = t; low = low; high = high })
  touched_any (event.Commit own reads) keyed =
      then_desk (bodies_written own.writes ++ names_read sh (in_hand sh hand) (judged_reads own.writes reads))
      (is_body_written own.writes name || touched_by_reads sh (in_hand sh hand) (judged_reads own.writes reads) name)
      (any_two (bodies_written own.writes) (names_read sh (in_hand sh hand) (judged_reads own.writes reads)) name
      ∙ both (any (bodies_written own.writes) name) (is_body_written own.writes name) (any (names_read sh (in_hand sh hand) (judged_reads own.writes reads)) name)
      (touched_by_reads sh (in_hand sh hand) (judged_reads own.writes reads) name)
      (any_written own.writes name) (any_read (judged_reads own.writes reads)))
  touched_any (event.Abort own) keyed =
      then_desk (map HeadOf (tables_of sh) ++ shards_written own.writes ++ bodies_written own.writes) ((is_any_head name || is_shard_written own.writes name) || is_body_written own.writes name)
      (any_two (map HeadOf (tables_of sh) ++ shards_written own.writes) (bodies_written own.writes) name
      ∙ both (any (map HeadOf (tables_of sh) ++ shards_written own.writes) name) (is_any_head name || is_shard_written own.writes name) (any (bodies_written own.writes) name) (is_body_written own.writes name)
      (any_two (map HeadOf (tables_of sh)) (shards_written own.writes) name
      ∙ both (any (map HeadOf (tables_of sh)) name) (is_any_head name) (any (shards_written own.writes) name) (is_shard_written own.writes name) (any_heads sh name a) (any_keys own.writes name))
      (any_written own.writes name))
  touched_any event.Oldest keyed = or_false (same_name TheDesk name)
  touched_any (event.Observe t b) keyed = with_head t b
  touched_any (event.Prune t b oldest) keyed =
      any_two (HeadOf t ∷ BodyOf t b ∷ []) (shards_in t) name
      ∙ both (any (HeadOf t ∷ BodyOf t b ∷ []) name) (same_name (HeadOf t) name || same_name (BodyOf t b) name) (any (shards_in t) name) (is_shard_in t name) (with_head t b) (any_shards sh t name a)
  touched_any (event.Look t b) keyed = or_false (same_name (BodyOf t b) name)
  touched_any (event.Move t ps) keyed =
      then_desk (HeadOf t ∷ [] ++ shards_moved t ps ++ sources_moved t ps ++ targets_moved t ps) (((same_name (HeadOf t) name || is_shard_moved t ps name) || any (sources_moved t ps) name) || any (targets_moved t ps) name)
      (any_two (HeadOf t ∷ [] ++ shards_moved t ps ++ sources_moved t ps) (targets_moved t ps) name
      ∙ ap (λ z. z || any (targets_moved t ps) name)
      (any_two (HeadOf t ∷ [] ++ shards_moved t ps) (sources_moved t ps) name
      ∙ ap (λ z. z || any (sources_moved t ps) name) (behind_head t (shards_moved t ps) (is_shard_moved t ps name) (any_moved_keys t ps name))))
      ∙ ap (λ z. z || same_name TheDesk name)
      (or_assoc (same_name (HeadOf t) name || is_shard_moved t ps name) (any (sources_moved t ps) name) (any (targets_moved t ps) name)
      ∙ ap (λ z. (same_name (HeadOf t) name || is_shard_moved t ps name) || z) (any_pairs t ps name))
  touched_any (event.Seal t b) keyed = with_head t b
  touched_any (event.Image t b image) keyed = or_false (same_name (BodyOf t b) name)
  touched_any (event.Thaw t b) keyed = or_false (same_name (BodyOf t b) name)

-- A name that stands at a place of a list is among it.
among_at : (ns : List Name) (k : ℕ) (w : Name) → slice_get ns k ≡ Some w → Among w ns
among_at [] k w is = cc
among_at (n ∷ ns) zero w is = inl (let e : n ≡ w = cc in sym e)
among_at (n ∷ ns) (suc k) w is = inr (among_at ns k w is)

-- An event touches the part of a number where the number's name is one of the list.
pub touching_any : (sh : Shape) (hand : Held) (e : CoreEvent) → IsKeyed e → (k : ℕ) → list_any (λ w. passes_test (same_name w) (slice_get (names sh) k)) (touched_names sh (in_hand sh hand) e) ≡ touching sh e hand k
touching_any sh hand e keyed k = go (slice_get (names sh) k) refl
  where
    never : (ws : List Name) → list_any (λ w. passes_test (same_name w) None) ws ≡ false
    never [] = refl
    never (w ∷ ws) = never ws

    go : (o : Option Name) → slice_get (names sh) k ≡ o → list_any (λ w. passes_test (same_name w) (slice_get (names sh) k)) (touched_names sh (in_hand sh hand) e) ≡ touching sh e hand k
    go None is =
        ap (λ o. list_any (λ w. passes_test (same_name w) o) (touched_names sh (in_hand sh hand) e)) is ∙ never (touched_names sh (in_hand sh hand) e)
        ∙ sym (ap (passes_test (touched sh (in_hand sh hand) e)) is)
    go (Some name) is =
        ap (λ o. list_any (λ w. passes_test (same_name w) o) (touched_names sh (in_hand sh hand) e)) is
        ∙ touched_any sh hand name (among_at (names sh) k name is) e keyed
        ∙ sym (ap (passes_test (touched sh (in_hand sh hand) e)) is)

-- No event touches a number that no part has.
pub touching_beyond : (sh : Shape) (hand : Held) (e : CoreEvent) (k : ℕ) → length (names sh) ≤ k → touching sh e hand k ≡ false
touching_beyond sh hand e k high = ap (passes_test (touched sh (in_hand sh hand) e)) (none_got (names sh) k high)
  where
    none_got : (xs : List Name) (k : ℕ) → length xs ≤ k → slice_get xs k ≡ None
    none_got [] k l = refl
    none_got (x ∷ xs) zero l = absurd (omega (arith, l))
    none_got (x ∷ xs) (suc k) l = none_got xs k (omega (arith, l))
