-- What a commit is judged by is the machine's: its tables, and the first of its reads that is stale.
use Rattle.std.proofs.Common.{◌≡◌, ℕ, ◌<◌, ◌==◌, ℤ, Bool, true, false, [], ◌∷◌, ◌++◌, map, Option, None, Some, is_some, option_and_then, length, refl, sym, ap, ◌∙◌, arith, All}
use Rattle.std.specs.Prelude.{IfSome}
use Rattle.std.proofs.lemmas.List.Elements.{All-append, All-map}
use Rattle.core_laws.proofs.Events.Lists.{all_at, all_by}
use Rattle.core_laws.proofs.Following.Sessions as sessions
use Rattle.core_laws.proofs.Stale.Firsts.{finds_first}
use Rattle.core_laws.proofs.Stale.Keys.{lists_keys}
use Rattle.core_laws.proofs.Stale.Places.{has, has_alike, has_at}
use Rattle.core_laws.specs.Events.Named.{FollowsMachine}
use Rattle.core_laws.specs.Following.Owned.{HasOpen, OwnSlot}
use Rattle.core_laws.specs.Stale.Laws.{IsKnown}
use Rattle.event_spec.specs.declared.own.OwnTransaction.{OwnTransaction}
use Rattle.event_spec.specs.Effects.{is_some_write, range_keys, stale_in, writes_table}
use Rattle.event_spec.specs.Lawful.{HasReads}
use Rattle.event_spec.specs.Newest.{judged_reads, newest_of}
use Rattle.event_spec.specs.Parts.{Parts, Shape, desk_at, places_at, slot_at}
use Rattle.event_spec.specs.Sound.{IsShape}
use Rattle.isolation_spec.specs.Checked.{stale_read}
use Rattle.isolation_spec.specs.Contents.{PlaceMap, WriteSet, at_place}
use Rattle.isolation_spec.specs.declared.place.Place.{Place}
use Rattle.isolation_spec.specs.declared.read.KeyRange.{KeyRange}
use Rattle.isolation_spec.specs.declared.read.Read.TheVariants as read
use Rattle.isolation_spec.specs.Machine.{IsolationMachine, Transaction}
use Rattle.isolation_spec.specs.Reads.{ReadSet, first_stale, last_meeting, meets, reads_in}
use Rattle.txn_desk.specs.Desk.{wrote_table}

-- The tables that a lawful read set names are known to the desk.
pub known : (sh : Shape) (set : ReadSet) → IsShape sh → HasReads sh set → All IsKnown (reads_in set)
known sh set shape has =
    All-append IsKnown (map (λ (place : Place). read.Key place.table place.key) set.places ++ map read.Table set.tables) (map (λ (range : KeyRange). read.Range range.table range.low range.high) set.ranges)
    (All-append IsKnown (map (λ (place : Place). read.Key place.table place.key) set.places) (map read.Table set.tables)
    (All-map IsKnown (λ (place : Place). read.Key place.table place.key) set.places (all_by (λ (place : Place). IsKnown (read.Key place.table place.key)) set.places (λ place a. tt)))
    (All-map IsKnown read.Table set.tables
    (all_by (λ table. IsKnown (read.Table table)) set.tables (λ table a. let less = all_at (λ table. table < length sh.tables) set.tables table has.tables a in let few = shape.tables in omega (arith, less, few)))))
    (All-map IsKnown (λ (range : KeyRange). read.Range range.table range.low range.high) set.ranges
    (all_by (λ (range : KeyRange). IsKnown (read.Range range.table range.low range.high)) set.ranges (λ range a. tt)))

-- there is something where it is this
is_there : {X : Type 0} (o : Option X) (x : X) → o ≡ Some x → is_some o ≡ true
is_there o x is = ap is_some is

-- where there is something, it is some one
something : {X : Type 0} (o : Option X) → is_some o ≡ true → (x : X) × (o ≡ Some x)
something None is = cc
something (Some x) is = (x, refl)

-- a map has an entry
abbrev pub is_some_own : {X : Type 0} → PlaceMap X → Bool
is_some_own [] = false
is_some_own (e ∷ own) = true

-- then some place of it passes a test that all pass
own_has : (own : WriteSet) → is_some_own own ≡ has (λ (p : Place). true) own
own_has [] = refl
own_has (e ∷ own) = refl

write_has : (writes : PlaceMap ℕ) → is_some_write writes ≡ has (λ (p : Place). true) writes
write_has [] = refl
write_has (e ∷ writes) = refl

-- a transaction without writes is judged by nothing
by_none : (writes : PlaceMap ℕ) (reads : Option ReadSet) → is_some_write writes ≡ false → judged_reads writes reads ≡ None
by_none [] reads is = refl
by_none (e ∷ writes) reads is = cc

-- and one with writes by what it read
by_all : (writes : PlaceMap ℕ) (reads : Option ReadSet) → is_some_write writes ≡ true → judged_reads writes reads ≡ reads
by_all [] reads is = cc
by_all (e ∷ writes) reads is = refl

-- so is the machine's
machine_none : (m : IsolationMachine) (t : Transaction) (own : WriteSet) (reads : Option ReadSet) → is_some_own own ≡ false → stale_read m t own reads ≡ None
machine_none m t [] reads is = refl
machine_none m t (e ∷ own) reads is = cc

machine_all : (m : IsolationMachine) (t : Transaction) (own : WriteSet) (reads : Option ReadSet) → is_some_own own ≡ true
    → stale_read m t own reads ≡ option_and_then (λ set. first_stale (last_meeting m.history t.snapshot) (reads_in set)) reads
machine_all m t [] reads is = cc
machine_all m t (e ∷ own) reads is = refl

module _ (sh : Shape) (s : Parts) (me : OwnTransaction) (has : HasOpen (desk_at sh s) me.session me.snapshot)
    (slots : (t : ℕ) (key : ℤ) → OwnSlot (slot_at sh s) (places_at sh s) me.session t key (at_place me.writes (record { table = t; key = key }))) (m : IsolationMachine) (f : FollowsMachine sh s m) where
  -- The machine's transaction of the session.
  abbrev the : Transaction
  the = sessions.tr (slot_at sh s) (places_at sh s) (desk_at sh s) m f.follows me.session me.snapshot has

  -- The machine has a write of the session wherever the session has one,
  machine_has : (p : Place) → has_at p me.writes ≡ true → has_at p the.own ≡ true
  machine_has p is =
      let mine = something (at_place me.writes p) is in
      let there = (slots p.table p.key).there mine.0 mine.1 in
      is_there (at_place the.own p) (slot_at sh s p.table mine.0).row
      (sessions.wrote_here (slot_at sh s) (places_at sh s) (desk_at sh s) m f.follows me.session me.snapshot has p.table mine.0 p.key there.0 there.1)

  -- and the other way round.
  session_has : (p : Place) → has_at p the.own ≡ true → has_at p me.writes ≡ true
  session_has p is =
      let mine = something (at_place the.own p) is in
      let wrote = f.follows.own.written me.session the p.table p.key mine.0 (sessions.mine (slot_at sh s) (places_at sh s) (desk_at sh s) m f.follows me.session me.snapshot has) mine.1 in
      is_there (at_place me.writes p) wrote.0 ((slots p.table p.key).all wrote.0 wrote.1 wrote.2)

  -- The tables that the session wrote are the machine's.
  pub same_tables : (table : ℕ) → writes_table me.writes table ≡ meets (read.Table table) the.own
  same_tables table = has_alike (λ (p : Place). p.table == table) me.writes the.own machine_has session_has

  -- What is found of the reads is what the machine finds.
  found_alike : (reads : Option ReadSet) → IsShape sh → IfSome reads (HasReads sh)
      → option_and_then (λ set. first_stale (newest_of (slot_at sh s) (places_at sh s) (range_keys sh s) (wrote_table (desk_at sh s)) me.snapshot) (reads_in set)) reads
      ≡ option_and_then (λ set. first_stale (last_meeting m.history the.snapshot) (reads_in set)) reads
  found_alike None shape lawful = refl
  found_alike (Some set) shape lawful =
      finds_first (slot_at sh s) (places_at sh s) (desk_at sh s) m (range_keys sh s) (wrote_table (desk_at sh s)) me.session me.snapshot (reads_in set)
      f.follows has (lists_keys sh s) f.follows.desked.wrote (known sh set shape lawful)
      ∙ ap (λ n. first_stale (last_meeting m.history n) (reads_in set)) (sym (sessions.at_number (slot_at sh s) (places_at sh s) (desk_at sh s) m f.follows me.session me.snapshot has))

  -- The machine has a write of the session exactly where the session has one.
  pub same_wrote : is_some_own the.own ≡ is_some_write me.writes
  same_wrote = own_has the.own ∙ sym (has_alike (λ (p : Place). true) me.writes the.own machine_has session_has) ∙ sym (write_has me.writes)

  -- What is stale of the reads is what the machine finds.
  same_stale_by : (reads : Option ReadSet) → IsShape sh → IfSome reads (HasReads sh) → (b : Bool) → is_some_write me.writes ≡ b
      → stale_in sh s me reads ≡ stale_read m the the.own reads
  same_stale_by reads shape lawful true is =
      ap (option_and_then (λ set. first_stale (newest_of (slot_at sh s) (places_at sh s) (range_keys sh s) (wrote_table (desk_at sh s)) me.snapshot) (reads_in set))) (by_all me.writes reads is)
      ∙ found_alike reads shape lawful
      ∙ sym (machine_all m the the.own reads (same_wrote ∙ is))
  same_stale_by reads shape lawful false is =
      ap (option_and_then (λ set. first_stale (newest_of (slot_at sh s) (places_at sh s) (range_keys sh s) (wrote_table (desk_at sh s)) me.snapshot) (reads_in set))) (by_none me.writes reads is)
      ∙ sym (machine_none m the the.own reads (same_wrote ∙ is))

  pub same_stale : (reads : Option ReadSet) → IsShape sh → IfSome reads (HasReads sh) → stale_in sh s me reads ≡ stale_read m the the.own reads
  same_stale reads shape lawful = same_stale_by reads shape lawful (is_some_write me.writes) refl
