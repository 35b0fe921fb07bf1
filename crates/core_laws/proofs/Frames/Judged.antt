-- What a commit is judged by hangs on the parts that it touches.
use Rattle.std.proofs.Common.{◌≡◌, ◌⊎◌, ℕ, ℤ, true, cond, ◌||◌, ◌==◌, nat_lt, List, [], ◌∷◌, ◌++◌, map, Option, None, Some, option_map, option_and_then, refl, sym, ap, ◌∙◌, subst, inl, inr}
use Rattle.std.specs.Prelude.{option_to_list}
use Rattle.std.specs.List.{flat_map, list_any}
use Rattle.std.specs.Option.{option_or}
use Rattle.std.proofs.lemmas.Bool.{or_left, or_right, and_from}
use Rattle.block_layout.specs.Place.{block_of, slot_of}
use Rattle.block_spec.specs.Bodies.{Body, slot_in}
use Rattle.core_laws.proofs.Events.Lists.{map_member, split}
use Rattle.core_laws.proofs.Events.Slots.{num_refl}
use Rattle.core_laws.proofs.Frames.Fitness.{body_same, body_touched, part_same, shard_touched}
use Rattle.core_laws.proofs.Frames.Looks.{any_true, block_among, look, touches}
use Rattle.event_spec.specs.declared.event.Event.TheVariants as event
use Rattle.event_spec.specs.declared.own.OwnTransaction.{OwnTransaction}
use Rattle.event_spec.specs.Effects.{CoreEvent, range_keys, stale_in}
use Rattle.event_spec.specs.Lawful.{Among}
use Rattle.event_spec.specs.Newest.{judged_reads, keys_within, newest_of, number_of}
use Rattle.event_spec.specs.Parts.{CorePart, Parts, Shape, Name, ShardOf, BodyOf, TheDesk, below, desk_at, desk_from, held_named, names, places_at, same_name, shard_from, shard_of, slot_at}
use Rattle.event_spec.specs.Touched.{held_keys, held_places, is_body_of, is_body_written, is_shard_in, touched_by_got, touched_by_range, touched_by_reads, touching}
use Rattle.hall_rule.specs.Hands.{Agrees, Covers}
use Rattle.isolation_spec.specs.declared.place.Place.{Place}
use Rattle.isolation_spec.specs.declared.read.KeyRange.{KeyRange}
use Rattle.isolation_spec.specs.declared.read.Read.{Read}
use Rattle.isolation_spec.specs.declared.read.Read.TheVariants as read
use Rattle.isolation_spec.specs.Reads.{ReadSet, first_stale, reads_in}
use Rattle.key_index.specs.Candidates.{candidates_of}
use Rattle.txn_desk.specs.Desk.{wrote_table}
use Rattle.undo_chain.specs.Conflict.{largest, numbers_above}

-- Lists that agree at each member are the same when put together.
pub flat_alike : {X Y : Type 0} (one other : X → List Y) (xs : List X) → ((x : X) → Among x xs → other x ≡ one x) → flat_map other xs ≡ flat_map one xs
flat_alike one other [] same = refl
flat_alike one other (x ∷ xs) same =
    ap (λ y. y ++ flat_map other xs) (same x (inl refl)) ∙ ap (λ y. one x ++ y) (flat_alike one other xs (λ r a. same r (inr a)))

-- Two ways of finding the last commit that agree on each of some reads find the same first.
first_alike : (one other : Read → Option ℕ) (reads : List Read) → ((what : Read) → Among what reads → other what ≡ one what) → first_stale other reads ≡ first_stale one reads
first_alike one other [] same = refl
first_alike one other (what ∷ reads) same =
    ap (λ (found : Option ℕ). option_or (option_map (λ (number : ℕ). (what, number)) found) (first_stale other reads)) (same what (inl refl))
    ∙ ap (option_or (option_map (λ (number : ℕ). (what, number)) (one what))) (first_alike one other reads (λ r a. same r (inr a)))

module _ (sh : Shape) (own : OwnTransaction) (reads : Option ReadSet) (hand : List (Option CorePart)) (s u : Parts)
    (covers : Covers (touching sh (event.Commit own reads)) hand) (here : Agrees hand s) (there : Agrees hand u) where
  -- the event
  abbrev e : CoreEvent
  e = event.Commit own reads

  -- the parts in the hand, by name
  abbrev held : Name → Option CorePart
  held = held_named (names sh) hand

  -- A commit touches the desk.
  pub desk_touched : touches sh e hand TheDesk ≡ true
  desk_touched = or_right (is_body_written own.writes TheDesk || touched_by_reads sh held (judged_reads own.writes reads) TheDesk) true refl

  -- the desk is the same in both
  desk_alike : desk_at sh u ≡ desk_at sh s
  desk_alike = ap desk_from (part_same sh e hand s u covers here there TheDesk desk_touched)

  -- the last commit that wrote into a read, and into a key
  abbrev newest : Parts → Read → Option ℕ
  newest x = newest_of (slot_at sh x) (places_at sh x) (range_keys sh x) (wrote_table (desk_at sh x)) own.snapshot

  abbrev number : Parts → ℕ → ℤ → Option ℕ
  number x = number_of (slot_at sh x) (places_at sh x) (range_keys sh x) (wrote_table (desk_at sh x)) own.snapshot

  -- A key whose shard and candidates' bodies are touched has the same number in both.
  number_alike : (t : ℕ) (key : ℤ) → touches sh e hand (ShardOf t (shard_of key)) ≡ true
      → ((p : ℕ) → Among p (held_places sh held t key) → touches sh e hand (BodyOf t (block_of p)) ≡ true) → number u t key ≡ number s t key
  number_alike t key shard bodies =
      ap (λ ps. largest (flat_map (λ place. numbers_above (slot_at sh u t place).entries own.snapshot.stamp) ps)) places
      ∙ ap largest (flat_alike (λ place. numbers_above (slot_at sh s t place).entries own.snapshot.stamp) (λ place. numbers_above (slot_at sh u t place).entries own.snapshot.stamp) (places_at sh s t key)
      (λ p a. ap (λ (x : Body). numbers_above (slot_in x (slot_of p)).entries own.snapshot.stamp) (body_same sh e hand s u covers here there t (block_of p) (bodies p (subst (Among p) (sym in_hand) a)))))
    where
      places : places_at sh u t key ≡ places_at sh s t key
      places = ap (λ o. candidates_of (shard_from o) key) (part_same sh e hand s u covers here there (ShardOf t (shard_of key)) shard)

      in_hand : held_places sh held t key ≡ places_at sh s t key
      in_hand = ap (λ o. candidates_of (shard_from o) key) (look sh e hand s (ShardOf t (shard_of key)) covers here shard)

  module _ (set : ReadSet) (judged : judged_reads own.writes reads ≡ Some set) where
    -- What the reads touch the commit touches.
    read_touched : (n : Name) → touched_by_reads sh held (Some set) n ≡ true → touches sh e hand n ≡ true
    read_touched n is =
        or_left (is_body_written own.writes n || touched_by_reads sh held (judged_reads own.writes reads) n) (same_name TheDesk n)
        (or_right (is_body_written own.writes n) (touched_by_reads sh held (judged_reads own.writes reads) n) (ap (λ r. touched_by_reads sh held r n) judged ∙ is))

    got_touched : (p : Place) → Among p set.places → (n : Name) → touched_by_got sh held p n ≡ true → touches sh e hand n ≡ true
    got_touched p a n is = read_touched n
        (or_left (list_any (λ place. touched_by_got sh held place n) set.places) (list_any (λ range. touched_by_range sh held range n) set.ranges)
        (any_true (λ place. touched_by_got sh held place n) set.places p a is))

    range_touched : (r : KeyRange) → Among r set.ranges → (n : Name) → touched_by_range sh held r n ≡ true → touches sh e hand n ≡ true
    range_touched r a n is = read_touched n
        (or_right (list_any (λ place. touched_by_got sh held place n) set.places) (list_any (λ range. touched_by_range sh held range n) set.ranges)
        (any_true (λ range. touched_by_range sh held range n) set.ranges r a is))

    -- A key that was got has the same number in both.
    got_alike : (p : Place) → Among p set.places → number u p.table p.key ≡ number s p.table p.key
    got_alike p a = number_alike p.table p.key
        (got_touched p a (ShardOf p.table (shard_of p.key)) (shard_touched p.table p.key (held_places sh held p.table p.key)))
        (λ q b. got_touched p a (BodyOf p.table (block_of q)) (body_touched p.table p.key [] (held_places sh held p.table p.key) q b))

    -- A range has the same keys in both, each with the same number.
    module _ (r : KeyRange) (a : Among r set.ranges) where
      shard_there : (i : ℕ) → touches sh e hand (ShardOf r.table i) ≡ true
      shard_there i = range_touched r a (ShardOf r.table i)
          (or_left (is_shard_in r.table (ShardOf r.table i)) (list_any (λ key. is_body_of r.table (held_places sh held r.table key) (ShardOf r.table i)) (held_keys sh held r.table r.low r.high)) (num_refl r.table))

      keys_alike : range_keys sh u r.table r.low r.high ≡ range_keys sh s r.table r.low r.high
      keys_alike = flat_alike _ _ (below 8) (λ i b. ap (λ o. keys_within r.low r.high (shard_from o)) (part_same sh e hand s u covers here there (ShardOf r.table i) (shard_there i)))

      keys_held : held_keys sh held r.table r.low r.high ≡ range_keys sh s r.table r.low r.high
      keys_held = flat_alike _ _ (below 8) (λ i b. ap (λ o. keys_within r.low r.high (shard_from o)) (look sh e hand s (ShardOf r.table i) covers here (shard_there i)))

      body_there : (key : ℤ) → Among key (range_keys sh s r.table r.low r.high) → (p : ℕ) → Among p (held_places sh held r.table key) → touches sh e hand (BodyOf r.table (block_of p)) ≡ true
      body_there key k p b = range_touched r a (BodyOf r.table (block_of p))
          (or_right (is_shard_in r.table (BodyOf r.table (block_of p))) (list_any (λ key. is_body_of r.table (held_places sh held r.table key) (BodyOf r.table (block_of p))) (held_keys sh held r.table r.low r.high))
          (any_true (λ key. is_body_of r.table (held_places sh held r.table key) (BodyOf r.table (block_of p))) (held_keys sh held r.table r.low r.high) key (subst (Among key) (sym keys_held) k)
          (and_from (r.table == r.table) (list_any (λ place. block_of place == block_of p) (held_places sh held r.table key)) (num_refl r.table) (block_among (held_places sh held r.table key) p b))))

      range_alike : newest u (read.Range r.table r.low r.high) ≡ newest s (read.Range r.table r.low r.high)
      range_alike = ap largest
          (ap (flat_map (λ key. option_to_list (number u r.table key))) keys_alike
          ∙ flat_alike (λ key. option_to_list (number s r.table key)) (λ key. option_to_list (number u r.table key)) (range_keys sh s r.table r.low r.high)
          (λ key k. ap option_to_list (number_alike r.table key (shard_there (shard_of key)) (body_there key k))))

    -- Of each read the last commit is the same in both.
    newest_alike : (what : Read) → Among what (reads_in set) → newest u what ≡ newest s what
    newest_alike what among = go (split (map key_read set.places ++ map read.Table set.tables) (map range_read set.ranges) what among)
      where
        key_read : Place → Read
        key_read place = read.Key place.table place.key

        range_read : KeyRange → Read
        range_read range = read.Range range.table range.low range.high

        before : Among what (map key_read set.places) ⊎ Among what (map read.Table set.tables) → newest u what ≡ newest s what
        before (inl a) = let m = map_member key_read set.places what a in subst (λ w. newest u w ≡ newest s w) (sym m.2) (got_alike m.0 m.1)
        before (inr a) =
            let m = map_member read.Table set.tables what a in
            subst (λ w. newest u w ≡ newest s w) (sym m.2)
            (ap (λ desk. cond (nat_lt own.snapshot.number (wrote_table desk m.0)) (Some (wrote_table desk m.0)) None) desk_alike)

        go : Among what (map key_read set.places ++ map read.Table set.tables) ⊎ Among what (map range_read set.ranges) → newest u what ≡ newest s what
        go (inl a) = before (split (map key_read set.places) (map read.Table set.tables) what a)
        go (inr a) = let m = map_member range_read set.ranges what a in subst (λ w. newest u w ≡ newest s w) (sym m.2) (range_alike m.0 m.1)

  -- What a commit finds stale of a read set.
  abbrev found_in : Parts → ReadSet → Option (Read × ℕ)
  found_in x set = first_stale (newest x) (reads_in set)

  stale_by_reads : (o : Option ReadSet) → judged_reads own.writes reads ≡ o → stale_in sh u own reads ≡ stale_in sh s own reads
  stale_by_reads None is = ap (option_and_then (found_in u)) is ∙ sym (ap (option_and_then (found_in s)) is)
  stale_by_reads (Some set) is =
      ap (option_and_then (found_in u)) is ∙ first_alike (newest s) (newest u) (reads_in set) (newest_alike set is) ∙ sym (ap (option_and_then (found_in s)) is)

  -- The commit is refused alike in both.
  pub stale_alike : stale_in sh u own reads ≡ stale_in sh s own reads
  stale_alike = stale_by_reads (judged_reads own.writes reads) refl
