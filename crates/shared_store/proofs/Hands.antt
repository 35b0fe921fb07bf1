-- The parts in a pass's hand are those that its log leaves, and tell what an event touches as all
-- parts do.
use Rattle.std.proofs.Common.{◌≡◌, ℕ, ℤ, Bool, ◌==◌, true, ◌||◌, cond, List, [], ◌∷◌, ◌++◌, Option, None, Some, length, map, refl, sym, ap, ◌∙◌, arith}
use Rattle.std.specs.Prelude.{⊤, option_to_list, slice_get}
use Rattle.std.specs.List.{flat_map, list_any}
use Rattle.std.specs.Option.{option_or}
use Rattle.std.proofs.lemmas.Bool.{or_left, or_right}
use Rattle.event_spec.specs.declared.event.Event.TheVariants as event
use Rattle.event_spec.specs.Effects.{CoreEvent}
use Rattle.event_spec.specs.Judged.{next_place}
use Rattle.event_spec.specs.Newest.{judged_reads, keys_within}
use Rattle.event_spec.specs.Parts.{CorePart, HeadOf, Name, Parts, ShardOf, Shape, TheDesk, below, held_named, head_from, names, part_named, same_name, shard_from, shard_of, slots_of}
use Rattle.event_spec.specs.Touched.{held_keys, held_next, held_places, is_body_of, is_body_written, is_shard_in, passes_test, seen_places, touched, touched_by_got, touched_by_insert, touched_by_key, touched_by_range, touched_by_reads, touching}
use Rattle.core_laws.proofs.Frames.Looks.{look, name_self}
use Rattle.hall_rule.specs.EventLog.{replay}
use Rattle.hall_rule.specs.HallInvariant.{hands_of}
use Rattle.hall_rule.specs.Hands.{Agrees, Covers, all_in}
use Rattle.hall_steps.specs.Hall.{EachHand, IsPassAt, first_of}
use Rattle.isolation_spec.specs.Contents.{at_place, key_of, place_at}
use Rattle.isolation_spec.specs.Reads.{ReadSet}
use Rattle.isolation_spec.specs.declared.place.Place.{Place}
use Rattle.isolation_spec.specs.declared.read.KeyRange.{KeyRange}
use Rattle.key_index.specs.Candidates.{candidates_of}
use Rattle.shared_store.specs.Store.{HandsView, SeatView, StoreView, shape_in}
use Rattle.store_laws.specs.Logs.{store_meaning}
use Rattle.core_laws.proofs.Events.Slots.{num_refl}

-- What each of a pass's hands has, the first has where there is one.
first_has : {P : Type 0} (holds : List (Option P) → Type 0) (hands : List (List (Option P))) → length hands ≡ 1 → EachHand holds hands → holds (first_of hands)
first_has holds [] one each = absurd (omega (arith, one))
first_has holds (hand ∷ hands) one each = each.0

-- the parts in the hand of a pass that has one are those that its log leaves
pub agrees_with : {thawing : ℕ} (store : StoreView) (seat : SeatView) (hands : HandsView)
    → IsPassAt (store_meaning (shape_in store)) thawing store.id seat hands → hands_of seat.me.0 ≡ 1
    → Agrees (first_of hands) (replay (store_meaning (shape_in store)) seat.me.0.log)
agrees_with store seat hands is one = (
  first_has (λ hand. length hand ≡ length (store_meaning (shape_in store)).start) hands (is.count ∙ one) is.places ∙ sym is.of.1.room,
  is.of.1.agrees,
)

-- a part by its name, in the hand that has all
whole_held : (ns : List Name) (s : Parts) (w : Name) → held_named ns (map Some s) w ≡ part_named ns s w
whole_held [] s w = refl
whole_held (n ∷ ns) [] w = refl
whole_held (n ∷ ns) (p ∷ s) w = ap (λ x. cond (same_name n w) (Some p) x) (whole_held ns s w)

-- what a range touches whose rows may be found at these places besides
abbrev by_range : Shape → (Name → Option CorePart) → (ℤ → List ℕ) → ℕ → ℤ → ℤ → Name → Bool
by_range sh held front t low high n =
    is_shard_in t n || list_any (λ key. is_body_of t (front key ++ held_places sh held t key) n) (held_keys sh held t low high)

-- Where the shards of its table are the same it touches the same.
pub range_alike : (sh : Shape) (one other : Name → Option CorePart) (front : ℤ → List ℕ) (t : ℕ) (low high : ℤ) (n : Name)
    → ((i : ℕ) → one (ShardOf t i) ≡ other (ShardOf t i)) → by_range sh one front t low high n ≡ by_range sh other front t low high n
range_alike sh one other front t low high n same =
    ap (λ b. is_shard_in t n || b)
    (ap (list_any (λ key. is_body_of t (front key ++ held_places sh one t key) n)) (keys (below 8)) ∙ bodies (held_keys sh other t low high))
  where
    keys : (is : List ℕ) → flat_map (λ i. keys_within low high (shard_from (one (ShardOf t i)))) is ≡ flat_map (λ i. keys_within low high (shard_from (other (ShardOf t i)))) is
    keys [] = refl
    keys (i ∷ is) =
        ap (λ x. keys_within low high (shard_from x) ++ flat_map (λ i. keys_within low high (shard_from (one (ShardOf t i)))) is) (same i)
        ∙ ap (λ xs. keys_within low high (shard_from (other (ShardOf t i))) ++ xs) (keys is)

    bodies : (ks : List ℤ) → list_any (λ key. is_body_of t (front key ++ held_places sh one t key) n) ks ≡ list_any (λ key. is_body_of t (front key ++ held_places sh other t key) n) ks
    bodies [] = refl
    bodies (key ∷ ks) =
        ap (λ x. is_body_of t (front key ++ candidates_of (shard_from x) key) n || list_any (λ key. is_body_of t (front key ++ held_places sh one t key) n) ks) (same (shard_of key))
        ∙ ap (λ b. is_body_of t (front key ++ held_places sh other t key) n || b) (bodies ks)

module _ (sh : Shape) (hand : List (Option CorePart)) (s : Parts) (agrees : Agrees hand s) where
  -- The part of a name that the hand holds, if it does.
  abbrev inhand : Name → Option CorePart
  inhand = held_named (names sh) hand

  -- The part of a name among all parts.
  abbrev whole : Name → Option CorePart
  whole = held_named (names sh) (all_in s)

  -- A part that an event touches is in a hand with its parts as among all.
  same_part : (e : CoreEvent) (w : Name) → Covers (touching sh e) hand → touched sh inhand e w ≡ true → inhand w ≡ whole w
  same_part e w covers is = look sh e hand s w covers agrees is ∙ sym (whole_held (names sh) s w)

  -- A key's candidates are told by the hand as by all where the hand has the shard.
  same_places : (table : ℕ) (key : ℤ) → inhand (ShardOf table (shard_of key)) ≡ whole (ShardOf table (shard_of key))
      → held_places sh inhand table key ≡ held_places sh whole table key
  same_places table key is = ap (λ x. candidates_of (shard_from x) key) is

  -- An event on a key touches the key's shard.
  shard_touched : (table : ℕ) (key : ℤ) (places : List ℕ) → touched_by_key table key places (ShardOf table (shard_of key)) ≡ true
  shard_touched table key places = or_left
      (same_name (ShardOf table (shard_of key)) (ShardOf table (shard_of key)))
      (is_body_of table places (ShardOf table (shard_of key)))
      (name_self (ShardOf table (shard_of key)))

  -- an event on a key touches the same, by the hand and by all parts
  by_key : (e : CoreEvent) (table : ℕ) (key : ℤ) (own : List ℕ) (n : Name) → Covers (touching sh e) hand
      → touched sh inhand e (ShardOf table (shard_of key)) ≡ true
      → touched_by_key table key (own ++ held_places sh inhand table key) n ≡ touched_by_key table key (own ++ held_places sh whole table key) n
  by_key e table key own n covers is =
      ap (λ places. touched_by_key table key (own ++ places) n) (same_places table key (same_part e (ShardOf table (shard_of key)) covers is))

  -- The shards of these keys are touched, and those of the tables of these ranges.
  abbrev ShardsTouched : CoreEvent → List Place → Type 0
  ShardsTouched e [] = ⊤
  ShardsTouched e (p ∷ ps) = (touched sh inhand e (ShardOf p.table (shard_of p.key)) ≡ true) × ShardsTouched e ps

  abbrev TablesTouched : CoreEvent → List KeyRange → Type 0
  TablesTouched e [] = ⊤
  TablesTouched e (r ∷ rs) = ((i : ℕ) → touched sh inhand e (ShardOf r.table i) ≡ true) × TablesTouched e rs

  -- They are where all that one of them touches is.
  shards_touched : (e : CoreEvent) (ps : List Place) → ((n : Name) → list_any (λ p. touched_by_got sh inhand p n) ps ≡ true → touched sh inhand e n ≡ true) → ShardsTouched e ps
  shards_touched e [] all = tt
  shards_touched e (p ∷ ps) all = (
    all (ShardOf p.table (shard_of p.key))
        (or_left (touched_by_got sh inhand p (ShardOf p.table (shard_of p.key))) (list_any (λ q. touched_by_got sh inhand q (ShardOf p.table (shard_of p.key))) ps)
        (shard_touched p.table p.key (held_places sh inhand p.table p.key))),
    shards_touched e ps (λ n is. all n (or_right (touched_by_got sh inhand p n) (list_any (λ q. touched_by_got sh inhand q n) ps) is)),
  )

  tables_touched : (e : CoreEvent) (rs : List KeyRange) → ((n : Name) → list_any (λ r. touched_by_range sh inhand r n) rs ≡ true → touched sh inhand e n ≡ true) → TablesTouched e rs
  tables_touched e [] all = tt
  tables_touched e (r ∷ rs) all = (
    λ i. all (ShardOf r.table i)
        (or_left (touched_by_range sh inhand r (ShardOf r.table i)) (list_any (λ q. touched_by_range sh inhand q (ShardOf r.table i)) rs)
        (or_left (r.table == r.table) (list_any (λ key. is_body_of r.table (held_places sh inhand r.table key) (ShardOf r.table i)) (held_keys sh inhand r.table r.low r.high)) (num_refl r.table))),
    tables_touched e rs (λ n is. all n (or_right (touched_by_range sh inhand r n) (list_any (λ q. touched_by_range sh inhand q n) rs) is)),
  )

  -- keys and ranges touch the same, by the hand and by all parts
  same_gots : (e : CoreEvent) (n : Name) (ps : List Place) → Covers (touching sh e) hand → ShardsTouched e ps
      → list_any (λ p. touched_by_got sh inhand p n) ps ≡ list_any (λ p. touched_by_got sh whole p n) ps
  same_gots e n [] covers all = refl
  same_gots e n (p ∷ ps) covers all =
      ap (λ b. b || list_any (λ q. touched_by_got sh inhand q n) ps) (by_key e p.table p.key [] n covers all.0)
      ∙ ap (λ b. touched_by_got sh whole p n || b) (same_gots e n ps covers all.1)

  same_range : (e : CoreEvent) (n : Name) (r : KeyRange) → Covers (touching sh e) hand → ((i : ℕ) → touched sh inhand e (ShardOf r.table i) ≡ true)
      → touched_by_range sh inhand r n ≡ touched_by_range sh whole r n
  same_range e n r covers all = range_alike sh inhand whole (λ key. []) r.table r.low r.high n (λ i. same_part e (ShardOf r.table i) covers (all i))

  same_ranges : (e : CoreEvent) (n : Name) (rs : List KeyRange) → Covers (touching sh e) hand → TablesTouched e rs
      → list_any (λ r. touched_by_range sh inhand r n) rs ≡ list_any (λ r. touched_by_range sh whole r n) rs
  same_ranges e n [] covers all = refl
  same_ranges e n (r ∷ rs) covers all =
      ap (λ b. b || list_any (λ q. touched_by_range sh inhand q n) rs) (same_range e n r covers all.0)
      ∙ ap (λ b. touched_by_range sh whole r n || b) (same_ranges e n rs covers all.1)

  -- what a commit reads
  same_reads : (e : CoreEvent) (n : Name) (reads : Option ReadSet) → Covers (touching sh e) hand
      → ((n : Name) → touched_by_reads sh inhand reads n ≡ true → touched sh inhand e n ≡ true)
      → touched_by_reads sh inhand reads n ≡ touched_by_reads sh whole reads n
  same_reads e n None covers all = refl
  same_reads e n (Some set) covers all =
      ap (λ b. b || list_any (λ r. touched_by_range sh inhand r n) set.ranges)
      (same_gots e n set.places covers (shards_touched e set.places
      (λ m is. all m (or_left (list_any (λ p. touched_by_got sh inhand p m) set.places) (list_any (λ r. touched_by_range sh inhand r m) set.ranges) is))))
      ∙ ap (λ b. list_any (λ p. touched_by_got sh whole p n) set.places || b)
      (same_ranges e n set.ranges covers (tables_touched e set.ranges
      (λ m is. all m (or_right (list_any (λ p. touched_by_got sh inhand p m) set.places) (list_any (λ r. touched_by_range sh inhand r m) set.ranges) is))))

  -- A hand with all parts of an event tells which names it touches as all parts do.
  same_touched : (e : CoreEvent) (n : Name) → Covers (touching sh e) hand → touched sh inhand e n ≡ touched sh whole e n
  same_touched (event.Begin session) n covers = refl
  same_touched (event.Get own table key) n covers = by_key (event.Get own table key) table key (option_to_list own.written) n covers
      (shard_touched table key (option_to_list own.written ++ held_places sh inhand table key))
  same_touched (event.Insert own table row) n covers =
      let e = event.Insert own table row in
      let next = λ (hd : Option CorePart). option_or own.written (next_place (head_from hd) (slots_of sh table)) in
      let taken = option_or own.written (held_next sh inhand table) in
      let head = same_part e (HeadOf table) covers
      (or_left (same_name (HeadOf table) (HeadOf table)) (touched_by_key table (key_of row) (option_to_list taken ++ held_places sh inhand table (key_of row)) (HeadOf table)) (name_self (HeadOf table))) in
      let shard = same_part e (ShardOf table (shard_of (key_of row))) covers
      (or_right (same_name (HeadOf table) (ShardOf table (shard_of (key_of row)))) (touched_by_key table (key_of row) (option_to_list taken ++ held_places sh inhand table (key_of row)) (ShardOf table (shard_of (key_of row))))
      (shard_touched table (key_of row) (option_to_list taken ++ held_places sh inhand table (key_of row)))) in
      ap (λ hd. touched_by_insert table (key_of row) (next hd) (held_places sh inhand table (key_of row)) n) head
      ∙ ap (λ places. touched_by_insert table (key_of row) (option_or own.written (held_next sh whole table)) places n) (same_places table (key_of row) shard)
  same_touched (event.Update own table row) n covers = by_key (event.Update own table row) table (key_of row) (option_to_list own.written) n covers
      (shard_touched table (key_of row) (option_to_list own.written ++ held_places sh inhand table (key_of row)))
  same_touched (event.Delete own table key) n covers = by_key (event.Delete own table key) table key (option_to_list own.written) n covers
      (shard_touched table key (option_to_list own.written ++ held_places sh inhand table key))
  same_touched (event.Read own table block) n covers = refl
  same_touched (event.Range own table low high) n covers =
      range_alike sh inhand whole (λ key. option_to_list (at_place own.writes (place_at table key))) table low high n
      (λ i. same_part (event.Range own table low high) (ShardOf table i) covers
      (or_left (table == table) (list_any (λ key. is_body_of table (seen_places sh inhand own table key) (ShardOf table i)) (held_keys sh inhand table low high)) (num_refl table)))
  same_touched (event.Commit own reads) n covers =
      let e = event.Commit own reads in
      ap (λ b. (is_body_written own.writes n || b) || same_name TheDesk n) (same_reads e n (judged_reads own.writes reads) covers
      (λ m is. or_left (is_body_written own.writes m || touched_by_reads sh inhand (judged_reads own.writes reads) m) (same_name TheDesk m)
      (or_right (is_body_written own.writes m) (touched_by_reads sh inhand (judged_reads own.writes reads) m) is)))
  same_touched (event.Abort own) n covers = refl
  same_touched event.Oldest n covers = refl
  same_touched (event.Observe table block) n covers = refl
  same_touched (event.Prune table block oldest) n covers = refl
  same_touched (event.Look table block) n covers = refl
  same_touched (event.Move table moves) n covers = refl
  same_touched (event.Seal table block) n covers = refl
  same_touched (event.Image table block image) n covers = refl
  same_touched (event.Thaw table block) n covers = refl

  -- a hand with all parts of an event tells what it touches as all parts do
  pub touching_whole : (e : CoreEvent) (k : ℕ) → Covers (touching sh e) hand → touching sh e hand k ≡ true → touching sh e (all_in s) k ≡ true
  touching_whole e k covers is = go (slice_get (names sh) k) is
    where
      go : (o : Option Name) → passes_test (touched sh inhand e) o ≡ true → passes_test (touched sh whole e) o ≡ true
      go None h = h
      go (Some n) h = sym (same_touched e n covers) ∙ h
