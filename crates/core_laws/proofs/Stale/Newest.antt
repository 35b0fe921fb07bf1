-- Of each read the core finds the machine's last commit: by the entries at a key's places, the desk's
-- last writer of a table, and the keys of an index in a range.
use Rattle.std.proofs.Common.{◌≡◌, ◌⊎◌, ℕ, ℤ, ◌+◌, ◌<◌, ◌≤◌, ◌&&◌, ◌==◌, nat_lt, Bool, true, false, cond, List, length, unwrap_or, Option, None, Some, refl, sym, ap, ◌∙◌, subst, arith, inl, inr}
use Rattle.std.specs.Prelude.{option_to_list}
use Rattle.std.specs.List.{flat_map}
use Rattle.std.proofs.lemmas.Bool.Decides.{nat_tests}
use Rattle.std.proofs.lemmas.Bool.{and_parts}
use Rattle.cell_model.specs.Values.{is_between}
use Rattle.event_spec.specs.Follows.{Follows}
use Rattle.event_spec.specs.Lawful.{Among}
use Rattle.isolation_spec.specs.Contents.{place_at, WriteSet}
use Rattle.isolation_spec.specs.Machine.{IsolationMachine, writes_place, write_set_at}
use Rattle.isolation_spec.specs.declared.place.Place.{Place}
use Rattle.txn_desk.specs.declared.Snapshot.{Snapshot}
use Rattle.txn_desk.specs.Desk.{DeskState}
use Rattle.undo_chain.specs.Conflict.{largest}
use Rattle.core_laws.specs.Following.Owned.{HasOpen}
use Rattle.core_laws.specs.Following.Steps.{SlotMap, CandidateMap}
use Rattle.core_laws.specs.Stale.Laws.{IsKnown, ListsKeys, WroteLast}
use Rattle.event_spec.specs.Newest.{number_of, newest_of}
use Rattle.isolation_spec.specs.declared.read.Read.{Read}
use Rattle.isolation_spec.specs.Reads.{meets, last_meeting}
use Rattle.isolation_spec.specs.declared.read.Read.TheVariants as read
use Rattle.core_laws.proofs.Following.Firsts.{largest_is, largest_none, among_flat, flat_among}
use Rattle.core_laws.proofs.Following.Sessions.{number_is, live}
use Rattle.core_laws.proofs.Stale.Lasts.{true_false, NonePass, LastPass, last_cases, last_is, last_none}
use Rattle.core_laws.proofs.Stale.Places.{has_place, place_in}

module _ (slot : SlotMap) (places : CandidateMap) (desk : DeskState) (m : IsolationMachine) (keys : ℕ → ℤ → ℤ → List ℤ) (wrote : ℕ → ℕ) (q : ℕ) (snapshot : Snapshot)
    (f : Follows slot places desk m) (open' : HasOpen desk q snapshot) (listed : ListsKeys places keys) (last : WroteLast wrote m) where
  -- the snapshot's number, and how many commits there are
  abbrev n : ℕ
  n = snapshot.number

  abbrev len : ℕ
  len = length m.history

  -- a later commit that wrote into a read
  abbrev later : ℕ → Read → ℕ → Bool
  later from what k = nat_lt from k && meets what (write_set_at m.history k)

  -- such a commit is above the snapshot, and wrote into it
  parts : (from : ℕ) (what : Read) (k : ℕ) → later from what k ≡ true → (from < k) × (meets what (write_set_at m.history k) ≡ true)
  parts from what k is = let p = and_parts (nat_lt from k) (meets what (write_set_at m.history k)) is in (grind (arith, nat_tests, p.0), p.1)

  whole : (from : ℕ) (what : Read) (k : ℕ) → from < k → meets what (write_set_at m.history k) ≡ true → later from what k ≡ true
  whole from what k less is = let low : nat_lt from k ≡ true = grind (arith, nat_tests, less) in ap (λ b. b && meets what (write_set_at m.history k)) low ∙ is

  -- a commit that isn't such a one but above the snapshot didn't write into it
  lacks : (from : ℕ) (what : Read) (k : ℕ) → from < k → later from what k ≡ false → meets what (write_set_at m.history k) ≡ false
  lacks from what k less is = let low : nat_lt from k ≡ true = grind (arith, nat_tests, less) in sym (ap (λ b. b && meets what (write_set_at m.history k)) low) ∙ is

  none_of : (from : ℕ) (what : Read) (k : ℕ) → meets what (write_set_at m.history k) ≡ false → later from what k ≡ false
  none_of from what k is = go (nat_lt from k)
    where
      go : (b : Bool) → (b && meets what (write_set_at m.history k)) ≡ false
      go true = is
      go false = refl

  -- ---- a table

  table_is : (table : ℕ) → table < 16 → cond (nat_lt n (wrote table)) (Some (wrote table)) None ≡ last_meeting m.history n (read.Table table)
  table_is table few = go (last_cases (later 0 (read.Table table)) 1 len)
    where
      at : ℕ → Option ℕ
      at w = cond (nat_lt n w) (Some w) None

      go : ((last_meeting m.history 0 (read.Table table) ≡ None) × NonePass (later 0 (read.Table table)) 1 len)
          ⊎ ((k : ℕ) × (last_meeting m.history 0 (read.Table table) ≡ Some k) × LastPass (later 0 (read.Table table)) 1 len k)
          → cond (nat_lt n (wrote table)) (Some (wrote table)) None ≡ last_meeting m.history n (read.Table table)
      go (inl none) =
          let w : wrote table ≡ 0 = last table few ∙ ap (λ o. unwrap_or o 0) none.0 in
          let no : nat_lt n (wrote table) ≡ false = grind (arith, nat_tests, w) in
          ap (λ b. cond b (Some (wrote table)) None) no
          ∙ sym (last_none (later n (read.Table table)) 1 len (λ j low high. none_of n (read.Table table) j (lacks 0 (read.Table table) j (omega (arith, low)) (none.1 j low high))))
      go (inr some) = by (nat_lt n some.0) refl
        where
          w : wrote table ≡ some.0
          w = last table few ∙ ap (λ o. unwrap_or o 0) some.1

          behind : (j : ℕ) → some.0 < j → j < 1 + len → later n (read.Table table) j ≡ false
          behind j less high = none_of n (read.Table table) j (lacks 0 (read.Table table) j (omega (arith, less)) (some.2.later j less high))

          by : (b : Bool) → nat_lt n some.0 ≡ b → cond (nat_lt n (wrote table)) (Some (wrote table)) None ≡ last_meeting m.history n (read.Table table)
          by true is =
              let low : n < some.0 = grind (arith, nat_tests, is) in
              ap (λ (k : ℕ). cond (nat_lt n k) (Some k) None) w ∙ ap (λ b. cond b (Some some.0) None) is
              ∙ sym (last_is (later n (read.Table table)) 1 len some.0 (record {
                low = some.2.low;
                high = some.2.high;
                passes = whole n (read.Table table) some.0 low (parts 0 (read.Table table) some.0 some.2.passes).1;
                later = behind;
              }))
          by false is =
              ap (λ (k : ℕ). cond (nat_lt n k) (Some k) None) w ∙ ap (λ b. cond b (Some some.0) None) is
              ∙ sym (last_none (later n (read.Table table)) 1 len (λ j low high. split j high (nat_lt n j) refl))
            where
              split : (j : ℕ) → j < 1 + len → (b : Bool) → nat_lt n j ≡ b → later n (read.Table table) j ≡ false
              split j high true above = behind j (grind (arith, nat_tests, is, above)) high
              split j high false above = ap (λ b. b && meets (read.Table table) (write_set_at m.history j)) above

  -- ---- a range

  module _ (table : ℕ) (low high : ℤ) where
    abbrev what : Read
    what = read.Range table low high

    abbrev test : Place → Bool
    test p = p.table == table && is_between low high p.key

    -- a key of the range that a commit has is one into which it wrote
    wider : (key : ℤ) (ws : WriteSet) → is_between low high key ≡ true → meets (read.Key table key) ws ≡ true → meets what ws ≡ true
    wider key ws inside is =
        let own : (table == table) ≡ true = grind (arith, nat_tests) in
        has_place test ws (place_at table key) (ap (λ b. b && is_between low high key) own ∙ inside) is

    -- what the core has of a key is the machine's
    number : (key : ℤ) → number_of slot places keys wrote snapshot table key ≡ last_meeting m.history n (read.Key table key)
    number key = number_is slot places desk m f q snapshot open' table key

    -- a key's number is that of a later commit that wrote into the range
    counted : (key : ℤ) (k : ℕ) → Among key (keys table low high) → number_of slot places keys wrote snapshot table key ≡ Some k → LastPass (later n (read.Key table key)) 1 len k
    counted key k a is = go (last_cases (later n (read.Key table key)) 1 len)
      where
        go : ((last_meeting m.history n (read.Key table key) ≡ None) × NonePass (later n (read.Key table key)) 1 len)
            ⊎ ((other : ℕ) × (last_meeting m.history n (read.Key table key) ≡ Some other) × LastPass (later n (read.Key table key)) 1 len other)
            → LastPass (later n (read.Key table key)) 1 len k
        go (inl none) = absurd (let never : None ≡ Some k = sym none.0 ∙ sym (number key) ∙ is in let no : ⊥ = cc in no)
        go (inr some) =
            let e : Some some.0 ≡ Some k = sym some.1 ∙ sym (number key) ∙ is in
            let same : some.0 ≡ k = cc in
            subst (LastPass (later n (read.Key table key)) 1 len) same some.2

    in_range : (key : ℤ) (k : ℕ) → Among key (keys table low high) → number_of slot places keys wrote snapshot table key ≡ Some k
        → (1 ≤ k) × (k < 1 + len) × (later n what k ≡ true)
    in_range key k a is =
        let l = counted key k a is in
        let p = parts n (read.Key table key) k l.passes in
        (l.low, l.high, whole n what k p.0 (wider key (write_set_at m.history k) (listed.within table low high key a) p.1))

    -- the last commit that wrote into the range wrote a key of it, whose number it is
    its : (k : ℕ) → LastPass (later n what) 1 len k → (key : ℤ) × Among key (keys table low high) × (number_of slot places keys wrote snapshot table key ≡ Some k)
    its k l = made (place_in test (write_set_at m.history k) (parts n what k l.passes).1)
      where
        made : (p : Place) × (test p ≡ true) × (writes_place p (write_set_at m.history k) ≡ true) → (key : ℤ) × Among key (keys table low high) × (number_of slot places keys wrote snapshot table key ≡ Some k)
        made r = (r.0.key, listed.all table low high r.0.key there.0 there.1 inside, counts)
          where
            tests : ((r.0.table == table) ≡ true) × ((is_between low high r.0.key) ≡ true)
            tests = and_parts (r.0.table == table) (is_between low high r.0.key) r.1

            inside : (is_between low high r.0.key) ≡ true
            inside = tests.1

            same : r.0.table ≡ table
            same = let t = tests.0 in grind (arith, nat_tests, t)

            wrote_it : meets (read.Key table r.0.key) (write_set_at m.history k) ≡ true
            wrote_it = ap (λ (t : ℕ). writes_place (place_at t r.0.key) (write_set_at m.history k)) (sym same) ∙ r.2

            behind : (j : ℕ) → k < j → j < 1 + len → (b : Bool) → later n (read.Key table r.0.key) j ≡ b → later n (read.Key table r.0.key) j ≡ false
            behind j less high' true is =
                let p = parts n (read.Key table r.0.key) j is in
                absurd (true_false (sym (whole n what j p.0 (wider r.0.key (write_set_at m.history j) inside p.1)) ∙ l.later j less high'))
            behind j less high' false is = is

            told : last_meeting m.history n (read.Key table r.0.key) ≡ Some k
            told = last_is (later n (read.Key table r.0.key)) 1 len k (record {
              low = l.low;
              high = l.high;
              passes = whole n (read.Key table r.0.key) k (parts n what k l.passes).0 wrote_it;
              later = λ j less high'. behind j less high' (later n (read.Key table r.0.key) j) refl;
            })

            counts : number_of slot places keys wrote snapshot table r.0.key ≡ Some k
            counts = number r.0.key ∙ told

            there : (place : ℕ) × Among place (places table r.0.key)
            there = let t = (f.numbers snapshot.stamp snapshot.number (live slot places desk m f q snapshot open')).last table r.0.key k told in (t.0, t.1)

    -- the numbers that a key has: one, or none
    abbrev numbers : ℤ → List ℕ
    numbers key = option_to_list (number_of slot places keys wrote snapshot table key)

    -- What is the only number of an option is its number.
    only : (o : Option ℕ) (k : ℕ) → Among k (option_to_list o) → o ≡ Some k
    only None k a = absurd a
    only (Some x) k (inl e) = ap Some (sym e)
    only (Some x) k (inr a) = absurd a

    -- a number among those of the keys is one of them's
    of_key : (k : ℕ) → Among k (flat_map numbers (keys table low high)) → (key : ℤ) × Among key (keys table low high) × (number_of slot places keys wrote snapshot table key ≡ Some k)
    of_key k a =
        let r = among_flat numbers (keys table low high) k a in
        (r.0, r.1, only (number_of slot places keys wrote snapshot table r.0) k r.2)

    -- and the number of one of them is among theirs
    key_of : (key : ℤ) (k : ℕ) → Among key (keys table low high) → number_of slot places keys wrote snapshot table key ≡ Some k → Among k (flat_map numbers (keys table low high))
    key_of key k a is = flat_among numbers (keys table low high) key k a (subst (λ (o : Option ℕ). Among k (option_to_list o)) (sym is) (inl refl))

    range_is : largest (flat_map (λ key. option_to_list (number_of slot places keys wrote snapshot table key)) (keys table low high)) ≡ last_meeting m.history n what
    range_is = go (last_cases (later n what) 1 len)
      where
        go : ((last_meeting m.history n what ≡ None) × NonePass (later n what) 1 len)
            ⊎ ((k : ℕ) × (last_meeting m.history n what ≡ Some k) × LastPass (later n what) 1 len k)
            → largest (flat_map (λ key. option_to_list (number_of slot places keys wrote snapshot table key)) (keys table low high)) ≡ last_meeting m.history n what
        go (inl none) =
            largest_none (flat_map (λ key. option_to_list (number_of slot places keys wrote snapshot table key)) (keys table low high))
            (λ k a. let o = of_key k a in
            let r = in_range o.0 k o.1 o.2 in true_false (sym r.2 ∙ none.1 k r.0 r.1))
            ∙ sym none.0
        go (inr some) =
            largest_is (flat_map (λ key. option_to_list (number_of slot places keys wrote snapshot table key)) (keys table low high)) some.0
            (key_of (its some.0 some.2).0 some.0 (its some.0 some.2).1 (its some.0 some.2).2)
            (λ k a. let o = of_key k a in
            let r = in_range o.0 k o.1 o.2 in at_most k r.1 r.2 (nat_lt some.0 k) refl)
            ∙ sym some.1
          where
            at_most : (k : ℕ) → k < 1 + len → later n what k ≡ true → (b : Bool) → nat_lt some.0 k ≡ b → k ≤ some.0
            at_most k high' is true above = absurd (true_false (sym is ∙ some.2.later k (grind (arith, nat_tests, above)) high'))
            at_most k high' is false above = grind (arith, nat_tests, above)

  pub newest_is : (what : Read) → IsKnown what → newest_of slot places keys wrote snapshot what ≡ last_meeting m.history n what
  newest_is (read.Key table key) known = number_is slot places desk m f q snapshot open' table key
  newest_is (read.Table table) known = table_is table known
  newest_is (read.Range table low high) known = range_is table low high
