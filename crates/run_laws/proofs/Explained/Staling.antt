-- What a commit that is refused names: a read with keys of 64 bits, and a commit that there was.
use Rattle.std.proofs.Common.{◌≡◌, ◌⊎◌, ℕ, ◌≤◌, nat_lt, true, ◌&&◌, List, [], ◌∷◌, ◌++◌, length, map, Option, None, Some, All, refl, sym, subst, arith, append_assoc}
use mathlib.Core.Logic.{inl, inr}
use Rattle.std.specs.Prelude.{option_and_then}
use Rattle.std.specs.List.{range_with_len}
use Rattle.std.proofs.lemmas.List.Elements.{All-head, All-tail}
use Rattle.core_laws.proofs.Events.Apart.{kept_among}
use Rattle.core_laws.proofs.Events.Lists.{member_below}
use Rattle.event_spec.specs.Lawful.{Among}
use Rattle.isolation_laws.proofs.Checked.{first-found}
use Rattle.isolation_spec.specs.Checked.{stale_read, step_with}
use Rattle.isolation_spec.specs.Contents.{WriteSet}
use Rattle.isolation_spec.specs.declared.command.Act.TheVariants as act
use Rattle.isolation_spec.specs.declared.command.Answer.TheVariants as answer
use Rattle.isolation_spec.specs.declared.place.Place.{Place}
use Rattle.isolation_spec.specs.declared.read.KeyRange.{KeyRange}
use Rattle.isolation_spec.specs.declared.read.Read.{Read}
use Rattle.isolation_spec.specs.declared.read.Read.TheVariants as read
use Rattle.isolation_spec.specs.Machine.{IsolationMachine, Transaction, later_commits, transaction_of, write_set_at}
use Rattle.isolation_spec.specs.Reads.{ReadSet, last_meeting, meets, reads_in}
use Rattle.timeline_spec.specs.Forms.{IsStaleRead}
use Rattle.timeline_spec.specs.Timeline.{stale_of as said_of_read}
use Rattle.workload_spec.specs.Valid.{is_key_number}
use Rattle.run_laws.proofs.Calls.Commits.{stale_is}
use Rattle.run_laws.proofs.Explained.Conflicting.{last_is}
use Rattle.run_laws.proofs.Moments.Reads.{AreKeys, HasEnds, ReadsAreKeys}

-- one that stands between others is among them all
among_all : (front rest : List Read) (x : Read) → Among x (front ++ x ∷ rest)
among_all [] rest x = inl refl
among_all (y ∷ front) rest x = inr (among_all front rest x)

-- ---- reads of keys of 64 bits

-- the read has keys of 64 bits, if it has any
abbrev HasKeys : Read → Type 0
HasKeys what = IsStaleRead (said_of_read what)

ranges_have : (ranges : List KeyRange) → All HasEnds ranges → (what : Read)
    → Among what (map (λ (range : KeyRange). read.Range range.table range.low range.high) ranges) → HasKeys what
ranges_have [] ends what among = absurd among
ranges_have (range ∷ ranges) ends what (inl e) =
    let here = All-head HasEnds range ranges ends in subst HasKeys (sym e) (here.low, here.high)
ranges_have (range ∷ ranges) ends what (inr among) = ranges_have ranges (All-tail HasEnds range ranges ends) what among

tables_have : (tables : List ℕ) (rest : List Read) → ((what : Read) → Among what rest → HasKeys what) → (what : Read) → Among what (map read.Table tables ++ rest) → HasKeys what
tables_have [] rest others what among = others what among
tables_have (table ∷ tables) rest others what (inl e) = subst HasKeys (sym e) tt
tables_have (table ∷ tables) rest others what (inr among) = tables_have tables rest others what among

places_have : (places : List Place) (rest : List Read) → All (λ (place : Place). is_key_number place.key ≡ true) places → ((what : Read) → Among what rest → HasKeys what) → (what : Read)
    → Among what (map (λ (place : Place). read.Key place.table place.key) places ++ rest) → HasKeys what
places_have [] rest keys others what among = others what among
places_have (place ∷ places) rest keys others what (inl e) =
    subst HasKeys (sym e) (All-head (λ (place : Place). is_key_number place.key ≡ true) place places keys)
places_have (place ∷ places) rest keys others what (inr among) =
    places_have places rest (All-tail (λ (place : Place). is_key_number place.key ≡ true) place places keys) others what among

-- each read of a read set with keys of 64 bits has such keys
reads_have : (set : ReadSet) → AreKeys set → (what : Read) → Among what (reads_in set) → HasKeys what
reads_have set are what among = places_have set.places (map read.Table set.tables ++ map (λ (range : KeyRange). read.Range range.table range.low range.high) set.ranges) are.keys
    (tables_have set.tables (map (λ (range : KeyRange). read.Range range.table range.low range.high) set.ranges) (ranges_have set.ranges are.ranges)) what
    (subst (Among what)
    (append_assoc
    (map (λ (place : Place). read.Key place.table place.key) set.places)
    (map read.Table set.tables)
    (map (λ (range : KeyRange). read.Range range.table range.low range.high) set.ranges))
    among)

-- ---- a stale commit

-- what it names
pub record Names (m : IsolationMachine) (what : Read) (number : ℕ) : Type 0 where
  pub keys : IsStaleRead (said_of_read what)
  pub small : number ≤ length m.history

module _ (m : IsolationMachine) where
  -- a commit that met a read was made
  met_small : (snapshot : ℕ) (what : Read) (number : ℕ) → last_meeting m.history snapshot what ≡ Some number → number ≤ length m.history
  met_small snapshot what number last = go (last_is None (later_commits m.history snapshot (meets what)) number last)
    where
      go : Among number (later_commits m.history snapshot (meets what)) ⊎ (None ≡ Some number) → number ≤ length m.history
      go (inr e) = absurd (let never : ⊥ = cc e in never)
      go (inl a) =
          let kept = kept_among (λ number. nat_lt snapshot number && meets what (write_set_at m.history number)) (range_with_len 1 (length m.history)) number a in
          let less = member_below 1 (length m.history) number kept.0 in omega (arith, less)

  of_set : (t : Transaction) (own : WriteSet) (reads : Option ReadSet) (stale : Read × ℕ) → ReadsAreKeys reads → stale_read m t own reads ≡ Some stale → Names m stale.0 stale.1
  of_set t [] reads stale keys is = absurd (let never : ⊥ = cc is in never)
  of_set t (first ∷ rest) None stale keys is = absurd (let never : ⊥ = cc is in never)
  of_set t (first ∷ rest) (Some set) stale keys is =
      let found = first-found (last_meeting m.history t.snapshot) (reads_in set) stale is in record {
        keys = reads_have set keys stale.0 (subst (Among stale.0) (sym found.among) (among_all found.front found.rest stale.0));
        small = met_small t.snapshot stale.0 stale.1 found.last;
      }

  -- a commit that the machine refuses names a read with keys of 64 bits, and a commit that there was
  pub stale_names : (next : IsolationMachine) (reads : Option ReadSet) (q : ℕ) (what : Read) (number : ℕ) → ReadsAreKeys reads
      → step_with m reads (record { session = q; act = act.Commit }) ≡ (answer.Stale what number, next) → Names m what number
  stale_names next reads q what number keys h = go (transaction_of q m) (stale_is m next reads q what number h)
    where
      go : (o : Option Transaction) → option_and_then (λ (t : Transaction). stale_read m t t.own reads) o ≡ Some (what, number) → Names m what number
      go None e = absurd (let never : ⊥ = cc e in never)
      go (Some t) e = of_set t t.own reads (what, number) keys e
