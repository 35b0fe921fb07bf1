-- What a commit finds of its transaction's reads.
use Rattle.std.proofs.Common.{◌≡◌, ℕ, zero, suc, ◌+◌, ◌≤◌, Bool, true, cond, ◌||◌, nat_lt, List, [], ◌∷◌, ◌++◌, map, filter, drop, fold, max, length, Option, None, Some, option_map, option_and_then, refl, sym, ap, ◌∙◌, arith, All}
use Rattle.std.specs.Prelude.{slice_get}
use Rattle.std.specs.List.{flat_map, list_any, range_with_len}
use Rattle.std.specs.Option.{option_or}
use Rattle.std.proofs.lemmas.Bool.{or_left, or_right}
use Rattle.block_layout.specs.Place.{block_of}
use Rattle.core_events.proofs.Keys.{shard_there, slots_there}
use Rattle.core_events.specs.Candidates.{candidates_in}
use Rattle.core_events.specs.Stale.{HasGot, key_read, larger, newest_at, range_read}
use Rattle.core_laws.proofs.Events.Lists.{all_at, all_by}
use Rattle.core_laws.proofs.Frames.Fitness.{body_touched, shard_touched}
use Rattle.core_laws.proofs.Frames.Judged.{desk_touched}
use Rattle.core_laws.proofs.Frames.Looks.{any_true, touches}
use Rattle.core_parts.proofs.Telling.{a_shard, desk_is, has_desk, places_are}
use Rattle.core_parts.specs.Hands.{Has, Held, MayRun, in_hand}
use Rattle.event_spec.specs.declared.part.Part.TheVariants as part
use Rattle.key_index.specs.Candidates.{candidates_of}
use Rattle.txn_desk.specs.Desk.{DeskState, wrote_table}
use Rattle.event_spec.specs.declared.event.Event.TheVariants as event
use Rattle.event_spec.specs.declared.own.OwnTransaction.{OwnTransaction}
use Rattle.event_spec.specs.Effects.{stale_in}
use Rattle.event_spec.specs.Lawful.{Among, HasReads, HasTable}
use Rattle.event_spec.specs.Newest.{judged_reads}
use Rattle.event_spec.specs.Parts.{CorePart, Parts, Shape, Name, ShardOf, BodyOf, TheDesk, held_named, names, same_name, shard_from, shard_of, slot_at}
use Rattle.event_spec.specs.Touched.{is_body_written, touched_by_got, touched_by_range, touched_by_reads}
use Rattle.hall_rule.specs.Hands.{Agrees}
use Rattle.isolation_spec.specs.Contents.{PlaceMap}
use Rattle.isolation_spec.specs.declared.place.Place.{Place}
use Rattle.isolation_spec.specs.declared.read.Read.{Read}
use Rattle.isolation_spec.specs.declared.read.Read.TheVariants as read
use Rattle.isolation_spec.specs.Reads.{ReadSet, first_stale, reads_in}
use Rattle.txn_desk.specs.declared.Snapshot.{Snapshot}
use Rattle.undo_chain.specs.Conflict.{largest, numbers_above}

-- ---- the larger of two

-- The larger of three is the same from the left as from the right.
pub larger_thrice : (a b c : Option ℕ) → larger (larger a b) c ≡ larger a (larger b c)
larger_thrice None b c = refl
larger_thrice (Some x) None c = refl
larger_thrice (Some x) (Some y) None = refl
larger_thrice (Some x) (Some y) (Some z) = ap Some (omega arith)

-- None is no larger.
pub larger_none : (a : Option ℕ) → larger a None ≡ a
larger_none None = refl
larger_none (Some x) = refl

fold_max : (x y : ℕ) (ys : List ℕ) → fold max (max x y) ys ≡ max x (fold max y ys)
fold_max x y [] = refl
fold_max x y (z ∷ ys) = ap (λ w. fold max w ys) (assoc x y z) ∙ fold_max x (max y z) ys
  where
    assoc : (a b c : ℕ) → max (max a b) c ≡ max a (max b c)
    assoc a b c = omega arith

-- The largest of two lists is the larger of the largest of each.
pub largest_two : (xs ys : List ℕ) → largest (xs ++ ys) ≡ larger (largest xs) (largest ys)
largest_two [] ys = refl
largest_two (x ∷ xs) ys = go xs x ys
  where
    go : (xs : List ℕ) (x : ℕ) (ys : List ℕ) → Some (fold max x (xs ++ ys)) ≡ larger (Some (fold max x xs)) (largest ys)
    go [] x [] = refl
    go [] x (y ∷ ys) = ap Some (fold_max x y ys)
    go (z ∷ xs) x ys = go xs (max x z) ys

-- ---- the first that is stale

-- Where none of the reads in front is stale, the first is among the others.
pub first_two : (last_of : Read → Option ℕ) (one other : List Read) → first_stale last_of (one ++ other) ≡ option_or (first_stale last_of one) (first_stale last_of other)
first_two last_of [] other = refl
first_two last_of (what ∷ one) other = go (last_of what) (first_two last_of one other)
  where
    go : (o : Option ℕ) → first_stale last_of (one ++ other) ≡ option_or (first_stale last_of one) (first_stale last_of other)
        → option_or (option_map (λ number. (what, number)) o) (first_stale last_of (one ++ other))
        ≡ option_or (option_or (option_map (λ number. (what, number)) o) (first_stale last_of one)) (first_stale last_of other)
    go None rest = rest
    go (Some n) rest = refl

-- A read with a later commit is the first.
pub first_is : (last_of : Read → Option ℕ) (what : Read) (rest : List Read) (number : ℕ) → last_of what ≡ Some number → first_stale last_of (what ∷ rest) ≡ Some (what, number)
first_is last_of what rest number is = ap (λ (o : Option ℕ). option_or (option_map (λ number. (what, number)) o) (first_stale last_of rest)) is

-- One without is passed.
pub first_behind : (last_of : Read → Option ℕ) (what : Read) (rest : List Read) → last_of what ≡ None → first_stale last_of (what ∷ rest) ≡ first_stale last_of rest
first_behind last_of what rest is = ap (λ (o : Option ℕ). option_or (option_map (λ number. (what, number)) o) (first_stale last_of rest)) is

-- ---- going over a list

-- What stands at a place is the first from there on.
pub drop_at : {X : Type 0} (xs : List X) (k : ℕ) (x : X) → slice_get xs k ≡ Some x → drop k xs ≡ x ∷ drop (k + 1) xs
drop_at [] k x is = cc
drop_at (y ∷ xs) zero x is = ap (λ z. z ∷ xs) (let e : y ≡ x = cc in e)
drop_at (y ∷ xs) (suc k) x is = drop_at xs k x is ∙ ap (λ n. x ∷ drop n (y ∷ xs)) (let e : suc (k + 1) ≡ suc k + 1 = omega arith in e)

-- Behind the last nothing stands.
pub drop_end : {X : Type 0} (xs : List X) (k : ℕ) → length xs ≤ k → drop k xs ≡ []
drop_end [] zero le = refl
drop_end [] (suc k) le = refl
drop_end (x ∷ xs) zero le = absurd (omega (arith, le))
drop_end (x ∷ xs) (suc k) le = drop_end xs k (omega (arith, le))

-- ---- numbers of a range that pass

module _ (test : ℕ → Bool) where
  -- From one of them on it is the first that passes, or not.
  pub from_next : (at len : ℕ) → filter test (range_with_len at (len + 1)) ≡ cond (test at) (at ∷ filter test (range_with_len (at + 1) len)) (filter test (range_with_len (at + 1) len))
  from_next at len = ap (λ n. filter test (range_with_len at n)) (let e : len + 1 ≡ suc len = omega arith in e)

-- ---- the hand of a commit

module _ (sh : Shape) (own : OwnTransaction) (reads : Option ReadSet) (hand : Held) (m : MayRun sh (event.Commit own reads) hand) where
  -- the desk is in the hand
  pub the_desk : Has sh hand TheDesk
  the_desk = has_desk sh (event.Commit own reads) hand m (desk_touched sh own reads hand m.parts m.parts m.covers m.agrees m.agrees)

  module _ (set : ReadSet) (judged : judged_reads own.writes reads ≡ Some set) (lawful : HasReads sh set) where
    -- What a key that was got touches the commit touches.
    got_touched : (p : Place) → Among p set.places → (n : Name) → touched_by_got sh (held_named (names sh) hand) p n ≡ true → touches sh (event.Commit own reads) hand n ≡ true
    got_touched p a n is =
        or_left (is_body_written own.writes n || touched_by_reads sh held (judged_reads own.writes reads) n) (same_name TheDesk n)
        (or_right (is_body_written own.writes n) (touched_by_reads sh held (judged_reads own.writes reads) n)
        (ap (λ r. touched_by_reads sh held r n) judged
        ∙ or_left (list_any (λ place. touched_by_got sh held place n) set.places) (list_any (λ range. touched_by_range sh held range n) set.ranges)
        (any_true (λ place. touched_by_got sh held place n) set.places p a is)))
      where
        held : Name → Option CorePart
        held = held_named (names sh) hand

    -- The shard of each key that was got is in the hand, with its candidates' slots.
    pub has_got : All (HasGot sh hand) set.places
    has_got = all_by (HasGot sh hand) set.places (λ p a. record {
      shard = shard_there sh (event.Commit own reads) hand m p.table p.key (there p a) (shard p a) (bodies p a);
      slots = slots_there sh (event.Commit own reads) hand m p.table p.key (there p a) (shard p a) (bodies p a);
    })
      where
        there : (p : Place) → Among p set.places → HasTable sh p.table
        there p a = all_at (λ (p : Place). HasTable sh p.table) set.places p lawful.places a

        shard : (p : Place) → Among p set.places → touches sh (event.Commit own reads) hand (ShardOf p.table (shard_of p.key)) ≡ true
        shard p a = got_touched p a (ShardOf p.table (shard_of p.key)) (shard_touched p.table p.key (candidates_in sh hand p.table p.key))

        bodies : (p : Place) → Among p set.places → (q : ℕ) → Among q (candidates_in sh hand p.table p.key) → touches sh (event.Commit own reads) hand (BodyOf p.table (block_of q)) ≡ true
        bodies p a q b = got_touched p a (BodyOf p.table (block_of q)) (body_touched p.table p.key [] (candidates_in sh hand p.table p.key) q b)

-- ---- what is found

-- a transaction without writes finds nothing
pub no_writes : (sh : Shape) (s : Parts) (own : OwnTransaction) (reads : Option ReadSet) → own.writes ≡ [] → stale_in sh s own reads ≡ None
no_writes sh s own reads none = ap (λ (writes : PlaceMap ℕ). option_and_then (λ set. first_stale (newest_at sh s own.snapshot) (reads_in set)) (judged_reads writes reads)) none

-- nor one without reads
pub no_reads : (sh : Shape) (s : Parts) (own : OwnTransaction) (reads : Option ReadSet) → reads ≡ None → stale_in sh s own reads ≡ None
no_reads sh s own reads none = go own.writes
  where
    go : (writes : PlaceMap ℕ) → option_and_then (λ set. first_stale (newest_at sh s own.snapshot) (reads_in set)) (judged_reads writes reads) ≡ None
    go [] = refl
    go (w ∷ writes) = ap (option_and_then (λ set. first_stale (newest_at sh s own.snapshot) (reads_in set))) none

-- one with writes is judged by what it read
pub by_reads : (own : OwnTransaction) (reads : Option ReadSet) (set : ReadSet) → (own.writes ≡ [] → ⊥) → reads ≡ Some set → judged_reads own.writes reads ≡ Some set
by_reads own reads set some is = go own.writes some
  where
    go : (writes : PlaceMap ℕ) → (writes ≡ [] → ⊥) → judged_reads writes reads ≡ Some set
    go [] not_none = absurd (not_none refl)
    go (w ∷ writes) not_none = is

-- by its keys, then its tables, and then its ranges
pub keys_then_tables : (sh : Shape) (s : Parts) (own : OwnTransaction) (reads : Option ReadSet) (set : ReadSet) → judged_reads own.writes reads ≡ Some set
    → stale_in sh s own reads
    ≡ option_or (option_or (first_stale (newest_at sh s own.snapshot) (map key_read set.places)) (first_stale (newest_at sh s own.snapshot) (map read.Table set.tables)))
    (first_stale (newest_at sh s own.snapshot) (map range_read set.ranges))
keys_then_tables sh s own reads set judged =
    ap (option_and_then (λ set. first_stale (newest_at sh s own.snapshot) (reads_in set))) judged
    ∙ first_two last_of (map key_read set.places ++ map read.Table set.tables) (map range_read set.ranges)
    ∙ ap (λ o. option_or o (first_stale last_of (map range_read set.ranges))) (first_two last_of (map key_read set.places) (map read.Table set.tables))
  where
    last_of : Read → Option ℕ
    last_of = newest_at sh s own.snapshot

-- a list without length has nothing in it
pub some_by : (own : OwnTransaction) (entries : PlaceMap ℕ) → entries ≡ own.writes → (length entries ≡ 0 → ⊥) → own.writes ≡ [] → ⊥
some_by own entries same some none = some (ap length (same ∙ none))

-- What is found of a key that was got is told by the hand.
pub key_told : (sh : Shape) (hand : Held) (s : Parts) (snapshot : Snapshot) (p : Place) → HasGot sh hand p → Agrees hand s
    → (places : List ℕ) → places ≡ candidates_in sh hand p.table p.key
    → (o : Option ℕ) → o ≡ largest (flat_map (λ place. numbers_above (slot_at sh s p.table place).entries snapshot.stamp) places)
    → newest_at sh s snapshot (key_read p) ≡ o
key_told sh hand s snapshot p has agrees places candidates o is =
    let x = a_shard sh hand p.table (shard_of p.key) has.shard in
    ap (λ (ps : List ℕ). largest (flat_map (λ place. numbers_above (slot_at sh s p.table place).entries snapshot.stamp) ps))
    (places_are sh hand s agrees p.table p.key x.0 x.1 ∙ ap (λ o. candidates_of (shard_from o) p.key) (sym x.1) ∙ sym candidates)
    ∙ sym is

-- So is what is found of a table.
pub table_told : (sh : Shape) (hand : Held) (s : Parts) (snapshot : Snapshot) (t number : ℕ) (desk : DeskState) → Agrees hand s → in_hand sh hand TheDesk ≡ Some (part.Desk desk)
    → number ≡ wrote_table desk t → newest_at sh s snapshot (read.Table t) ≡ cond (nat_lt snapshot.number number) (Some number) None
table_told sh hand s snapshot t number desk agrees there is =
    ap (λ n. cond (nat_lt snapshot.number n) (Some n) None) (ap (λ d. wrote_table d t) (desk_is sh hand s agrees desk there) ∙ sym is)
