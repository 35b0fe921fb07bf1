-- A commit wrote into a range exactly where it wrote one of the keys of it that are written at all.
use Rattle.std.proofs.Common.{◌≡◌, ℕ, ◌+◌, ◌<◌, ◌≤◌, nat_lt, nat_le, ℤ, Bool, true, false, ◌&&◌, ◌||◌, not, List, [], ◌∷◌, length, drop, get_or, Option, None, Some, refl, sym, ap, ◌∙◌, arith}
use Rattle.std.specs.List.{list_all, list_any, range_with_len}
use Rattle.std.specs.Option.{option_map_or}
use Rattle.std.specs.Prelude.{◌==◌}
use Rattle.std.proofs.lemmas.Bool.{and_parts, and_from}
use Rattle.std.proofs.lemmas.List.{drop_all, drop_more}
use Rattle.isolation_spec.specs.Contents.{WriteSet, is_in_range, is_place}
use Rattle.isolation_spec.specs.Machine.{write_set_at, writes_place}
use Rattle.isolation_spec.specs.Reads.{meets}
use Rattle.isolation_spec.specs.declared.place.Place.{Place}
use Rattle.isolation_spec.specs.declared.read.Read.TheVariants as read
use Rattle.mark_index.specs.Marks.{count_below}
use Rattle.si_machine.proofs.Rising.{itself, same-place}
use Rattle.outcome_spec.specs.Entries.{Entry}
use Rattle.outcome_counts.proofs.Shown.{all-agree, both-ways}
use Rattle.outcome_judge.specs.Conflicts.{is_first, is_highest}
use Rattle.outcome_judge.specs.HistoryKept.{place_in}
use Rattle.outcome_judge.specs.KeyLists.{has_key, is_written_in, keys_between}
use Rattle.outcome_judge.specs.Stale.{numbers_meeting}
use Rattle.outcome_judge.specs.Targets.{covers, row_target}
use Rattle.outcome_judge.specs.Writers.{count_up_to, history_in, is_number_in, numbers_of}
use Rattle.outcome_judge.specs.declared.commits.Transaction.{Transaction}
use Rattle.outcome_judge.specs.declared.keys.RowKey.{RowKey}
use Rattle.outcome_judge.proofs.Accepted.{history-written}
use Rattle.outcome_judge.proofs.Committing.{is_free, none-above}
use Rattle.outcome_judge.proofs.Counting.{all-filter, none-between}
use Rattle.outcome_judge.proofs.Spans.{any-agree, found-in}
use Rattle.outcome_judge.proofs.Targets.{row-covers, row-wrote}
use Rattle.outcome_judge.proofs.Tops.{any-filter}

-- ---- what some pass

-- A condition that is the same for each element may be asked once, in front of all.
any-both : {X : Type 0} (b : Bool) (p : X → Bool) (xs : List X) → list_any (λ x. b && p x) xs ≡ (b && list_any p xs)
any-both true p xs = refl
any-both false p [] = refl
any-both false p (x ∷ xs) = any-both false p xs

-- Some pass one of two tests exactly where some pass the one or some pass the other.
any-or : {X : Type 0} (p q : X → Bool) (xs : List X) → list_any (λ x. p x || q x) xs ≡ (list_any p xs || list_any q xs)
any-or p q [] = refl
any-or p q (x ∷ xs) = ap (λ (b : Bool). (p x || q x) || b) (any-or p q xs) ∙ by (p x) (q x) (list_any p xs) (list_any q xs)
  where
    by : (a b c d : Bool) → ((a || b) || (c || d)) ≡ ((a || c) || (b || d))
    by true b c d = refl
    by false true true d = refl
    by false true false d = refl
    by false false c d = refl

-- None passes what is never passed.
any-never : {X : Type 0} (xs : List X) → list_any (λ x. false) xs ≡ false
any-never [] = refl
any-never (x ∷ xs) = any-never xs

-- It is the same of which of two lists something is asked first.
any-turned : {X Y : Type 0} (f : X → Y → Bool) (xs : List X) (ys : List Y) → list_any (λ x. list_any (f x) ys) xs ≡ list_any (λ y. list_any (λ x. f x y) xs) ys
any-turned f [] ys = sym (any-never ys)
any-turned f (x ∷ xs) ys = ap (λ (b : Bool). list_any (f x) ys || b) (any-turned f xs ys) ∙ sym (any-or (f x) (λ y. list_any (λ z. f z y) xs) ys)

-- All pass exactly where none fails.
all-none : {X : Type 0} (p : X → Bool) (xs : List X) → list_all p xs ≡ not (list_any (λ x. not (p x)) xs)
all-none p [] = refl
all-none p (x ∷ xs) = by (p x) (all-none p xs)
  where
    by : (b : Bool) → list_all p xs ≡ not (list_any (λ y. not (p y)) xs) → (b && list_all p xs) ≡ not (not b || list_any (λ y. not (p y)) xs)
    by true rest = rest
    by false rest = refl

-- ---- a range

module _ (table : ℕ) (low high : ℤ) (keys : List RowKey) where
  -- The keys of the range.
  abbrev between : List RowKey
  between = keys_between table low high keys

  -- A write set has a place of the range exactly where it has one of its keys, if it has none but keys.
  range-wrote : (writes : WriteSet) → ((place : Place) → writes_place place writes ≡ true → has_key keys place ≡ true)
      → meets (read.Range table low high) writes ≡ list_any (λ of. writes_place (place_in of) writes) between
  range-wrote writes all = both-ways _ _ there back
    where
      there : list_any (λ write. is_in_range table low high write.0) writes ≡ true → list_any (λ of. writes_place (place_in of) writes) between ≡ true
      there h =
          let at = found-in (λ write. is_in_range table low high write.0) writes h in
          let own : writes_place at.item.0 writes ≡ true =
          sym (row-wrote at.item.0 writes) ∙ at.found (λ write. covers (row_target at.item.0) write.0) (row-covers at.item.0 at.item.0 ∙ itself at.item.0) in
          let key = found-in (λ (of : RowKey). is_place at.item.0 (place_in of)) keys (all at.item.0 own) in
          let same : at.item.0 ≡ place_in key.item = same-place at.item.0 (place_in key.item) key.passes in
          any-filter (λ (of : RowKey). writes_place (place_in of) writes) (λ of. is_in_range table low high (place_in of)) keys
          ∙ key.found (λ of. writes_place (place_in of) writes && is_in_range table low high (place_in of))
          (and_from (writes_place (place_in key.item) writes) (is_in_range table low high (place_in key.item))
          (ap (λ (p : Place). writes_place p writes) (sym same) ∙ own) (ap (is_in_range table low high) (sym same) ∙ at.passes))

      back : list_any (λ of. writes_place (place_in of) writes) between ≡ true → list_any (λ write. is_in_range table low high write.0) writes ≡ true
      back h =
          let at = found-in (λ (of : RowKey). writes_place (place_in of) writes && is_in_range table low high (place_in of)) keys
          (sym (any-filter (λ (of : RowKey). writes_place (place_in of) writes) (λ of. is_in_range table low high (place_in of)) keys) ∙ h) in
          let both = and_parts (writes_place (place_in at.item) writes) (is_in_range table low high (place_in at.item)) at.passes in
          let one = found-in (λ write. covers (row_target (place_in at.item)) write.0) writes (row-wrote (place_in at.item) writes ∙ both.0) in
          let same : one.item.0 ≡ place_in at.item = same-place one.item.0 (place_in at.item) (sym (row-covers (place_in at.item) one.item.0) ∙ one.passes) in
          one.found (λ write. is_in_range table low high write.0) (ap (is_in_range table low high) same ∙ both.1)

  module _ (entries : List Entry) (all : (place : Place) → is_written_in entries place ≡ true → has_key keys place ≡ true) where
    -- The numbers of the commits that wrote into the range.
    abbrev meeting : List ℕ
    meeting = numbers_meeting entries (read.Range table low high)

    -- The numbers of the commits that wrote a key.
    abbrev own : RowKey → List ℕ
    own of = numbers_of entries (place_in of)

    -- One of the numbers passes exactly where one of a key's does.
    any-number : (p : ℕ → Bool) → list_any p meeting ≡ list_any (λ of. list_any p (own of)) between
    any-number p =
        let numbers = range_with_len 1 (length (history_in entries)) in
        any-filter p (λ number. nat_lt 0 number && meets (read.Range table low high) (write_set_at (history_in entries) number)) numbers
        ∙ any-agree _ (λ number. list_any (λ of. p number && (nat_lt 0 number && writes_place (place_in of) (write_set_at (history_in entries) number))) between) one numbers
        ∙ any-turned (λ number of. p number && (nat_lt 0 number && writes_place (place_in of) (write_set_at (history_in entries) number))) numbers between
        ∙ any-agree _ _ (λ of. sym (any-filter p (λ number. nat_lt 0 number && writes_place (place_in of) (write_set_at (history_in entries) number)) numbers)) between
      where
        one : (number : ℕ) → (p number && (nat_lt 0 number && meets (read.Range table low high) (write_set_at (history_in entries) number)))
            ≡ list_any (λ of. p number && (nat_lt 0 number && writes_place (place_in of) (write_set_at (history_in entries) number))) between
        one number =
            ap (λ (b : Bool). p number && (nat_lt 0 number && b)) (range-wrote (write_set_at (history_in entries) number) (λ place h. all place (history-written place entries number h)))
            ∙ ap (λ (b : Bool). p number && b) (sym (any-both (nat_lt 0 number) (λ of. writes_place (place_in of) (write_set_at (history_in entries) number)) between))
            ∙ sym (any-both (p number) (λ of. nat_lt 0 number && writes_place (place_in of) (write_set_at (history_in entries) number)) between)

    -- All of them pass exactly where all of each key's do.
    all-numbers : (p : ℕ → Bool) → list_all p meeting ≡ list_all (λ of. list_all p (own of)) between
    all-numbers p =
        all-none p meeting
        ∙ ap not (any-number (λ number. not (p number)))
        ∙ ap not (any-agree _ _ (λ of. turned (list_all p (own of)) (list_any (λ number. not (p number)) (own of)) (all-none p (own of))) between)
        ∙ sym (all-none (λ of. list_all p (own of)) between)
      where
        turned : (a b : Bool) → a ≡ not b → b ≡ not a
        turned true true h = absurd (let never : ⊥ = cc in never)
        turned true false h = refl
        turned false true h = refl
        turned false false h = absurd (let never : ⊥ = cc in never)

    -- a commit of a number wrote into the range exactly where it wrote one of its keys
    pub range-number : (number : ℕ) → is_number_in meeting number ≡ list_any (λ of. is_number_in (own of) number) between
    range-number number = any-number (λ its. its == number)

    -- None of some numbers is above a snapshot and below a number exactly where each is kept to that.
    first-each : (snapshot number : ℕ) (ns : List ℕ) → nat_le (count_below number ns) (count_up_to snapshot ns) ≡ list_all (λ its. not (nat_lt snapshot its) || nat_le number its) ns
    first-each snapshot number ns = none-between snapshot number ns ∙ all-filter (nat_le number) (nat_lt snapshot) ns

    -- none that wrote into the range is above a snapshot and below a number exactly where none that
    -- wrote a key of it is
    pub range-first : (t : Transaction) → is_first t meeting ≡ list_all (λ of. is_first t (own of)) between
    range-first t = by t.committed
      where
        always : (ks : List RowKey) → true ≡ list_all (λ (of : RowKey). true) ks
        always [] = refl
        always (of ∷ ks) = always ks

        by : (committed : Option ℕ) → option_map_or (λ number. nat_le (count_below number meeting) (count_up_to t.snapshot meeting)) committed true
            ≡ list_all (λ of. option_map_or (λ number. nat_le (count_below number (own of)) (count_up_to t.snapshot (own of))) committed true) between
        by None = always between
        by (Some number) =
            first-each t.snapshot number meeting
            ∙ all-numbers (λ its. not (nat_lt t.snapshot its) || nat_le number its)
            ∙ all-agree _ _ (λ of. sym (first-each t.snapshot number (own of))) between

    -- Numbers are as high as they are free above zero.
    highest-each : (entry : Entry) (number : ℕ) (ns : List ℕ) → is_highest entries ns entry number ≡ list_all (λ its. not (nat_lt 0 its) || is_free entries entry [] number its) ns
    highest-each entry number ns =
        let low : 0 ≤ number = omega arith in
        none-above entries entry ns 0 number low ∙ all-filter (is_free entries entry ns number) (nat_lt 0) ns

    -- no commit above a number that wrote into the range is before a reply exactly where none that
    -- wrote a key of it is
    pub range-highest : (entry : Entry) (number : ℕ) → is_highest entries meeting entry number ≡ list_all (λ of. is_highest entries (own of) entry number) between
    range-highest entry number =
        highest-each entry number meeting
        ∙ all-numbers (λ its. not (nat_lt 0 its) || is_free entries entry [] number its)
        ∙ all-agree _ _ (λ of. sym (highest-each entry number (own of))) between

-- ---- keys one after the other

module _ (p : RowKey → Bool) (keys : List RowKey) (i : ℕ) (d : RowKey) where
  -- where all of the keys from one on pass that do and that one does not, not all pass
  pub one-fails : i < length keys → (whole : Bool) → whole ≡ list_all p (drop i keys) → p (get_or keys i d) ≡ false → false ≡ whole
  one-fails within whole h fails = sym (h ∙ ap (list_all p) (drop_more keys i d within) ∙ ap (λ (b : Bool). b && list_all p (drop (i + 1) keys)) fails)

  -- where it does, all pass exactly where all behind it do
  pub one-passes : i < length keys → (whole : Bool) → whole ≡ list_all p (drop i keys) → p (get_or keys i d) ≡ true → whole ≡ list_all p (drop (i + 1) keys)
  one-passes within whole h passes = h ∙ ap (list_all p) (drop_more keys i d within) ∙ ap (λ (b : Bool). b && list_all p (drop (i + 1) keys)) passes

  -- where one passes, some do
  pub some-passes : i < length keys → (whole : Bool) → whole ≡ list_any p (drop i keys) → p (get_or keys i d) ≡ true → true ≡ whole
  some-passes within whole h passes = sym (h ∙ ap (list_any p) (drop_more keys i d within) ∙ ap (λ (b : Bool). b || list_any p (drop (i + 1) keys)) passes)

  -- where it does not, some pass exactly where some behind it do
  pub some-fails : i < length keys → (whole : Bool) → whole ≡ list_any p (drop i keys) → p (get_or keys i d) ≡ false → whole ≡ list_any p (drop (i + 1) keys)
  some-fails within whole h fails = h ∙ ap (list_any p) (drop_more keys i d within) ∙ ap (λ (b : Bool). b || list_any p (drop (i + 1) keys)) fails

-- where none is left, all pass
pub all-gone : (p : RowKey → Bool) (keys : List RowKey) (i : ℕ) → length keys ≤ i → (whole : Bool) → whole ≡ list_all p (drop i keys) → true ≡ whole
all-gone p keys i most whole h = sym (h ∙ ap (list_all p) (drop_all i keys most))
