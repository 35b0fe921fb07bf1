-- Tables that are marked, and what a commit makes of the last writers.
use Rattle.std.proofs.Common.{◌≡◌, ℕ, zero, suc, ◌+◌, ◌<◌, ◌≤◌, ◌==◌, Bool, true, false, cond, List, [], ◌∷◌, length, refl, sym, ap, ◌∙◌, arith, slice_index_or, slice_set}
use Rattle.std.specs.BTreeSet.{insert_key}
use Rattle.std.specs.Cmp.{nat_cmp_is}
use Rattle.std.specs.declared.cmp.Ordering.TheVariants.{Less, Equal, Greater}
use Rattle.std.specs.List.{filter, range_with_len}
use Rattle.std.specs.Ordering.{nat_cmp, match_ordering}
use Rattle.std.proofs.lemmas.Bool.Decides.{nat_tests}
use Rattle.std.proofs.lemmas.List.{ext_get_or, get_or-set_same, get_or-set_other}
use Rattle.std.proofs.lemmas.List.FromFn.{get_or-map-range_with_len, length-map-range_with_len}
use Rattle.txn_desk.specs.Desk.{marked}

-- ---- last writers

-- a table's last writer after a commit
pub wrote-marked : (number : ℕ) (writes : ℕ → Bool) (wrote : List ℕ) (table : ℕ) → table < 16
    → slice_index_or (marked number writes wrote) table 0 ≡ cond (writes table) number (slice_index_or wrote table 0)
unfolding marked
wrote-marked number writes wrote table below =
    get_or-map-range_with_len (λ t. cond (writes t) number (slice_index_or wrote t 0)) 0 16 table table 0 below (omega arith)

-- there are 16 of them
pub length-marked : (number : ℕ) (writes : ℕ → Bool) (wrote : List ℕ) → length (marked number writes wrote) ≡ 16
unfolding marked
length-marked number writes wrote = length-map-range_with_len (λ t. cond (writes t) number (slice_index_or wrote t 0)) 0 16

-- numbers of 16 tables that are these are they
pub is-marked : (after : List ℕ) (number : ℕ) (writes : ℕ → Bool) (wrote : List ℕ) → length after ≡ 16
    → ((table : ℕ) → table < 16 → slice_index_or after table 0 ≡ cond (writes table) number (slice_index_or wrote table 0))
    → after ≡ marked number writes wrote
is-marked after number writes wrote len each =
    ext_get_or 0 after (marked number writes wrote) (len ∙ sym (length-marked number writes wrote))
    (λ i less. let low : i < 16 = omega (arith, less, len) in each i low ∙ sym (wrote-marked number writes wrote i low))

-- tests that agree on the tables leave the same
pub marked-same : (number : ℕ) (one other : ℕ → Bool) (wrote : List ℕ) → ((table : ℕ) → table < 16 → one table ≡ other table)
    → marked number one wrote ≡ marked number other wrote
marked-same number one other wrote same =
    is-marked (marked number one wrote) number other wrote (length-marked number one wrote)
    (λ table low. wrote-marked number one wrote table low ∙ ap (λ b. cond b number (slice_index_or wrote table 0)) (same table low))

-- ---- marked tables

-- a test of numbers that agrees with another beside one number, which it passes
record IsOneMore (before after : ℕ → Bool) (table : ℕ) : Type 0 where
  there : after table ≡ true
  others : (other : ℕ) → (other == table) ≡ false → after other ≡ before other

module _ (before after : ℕ → Bool) (table : ℕ) (more : IsOneMore before after table) where
  -- numbers above the one pass both tests alike
  above : (at len : ℕ) → table < at → filter after (range_with_len at len) ≡ filter before (range_with_len at len)
  above at zero less = refl
  above at (suc len) less =
      let other : (at == table) ≡ false = grind (arith, nat_tests, less) in
      let rest = above (at + 1) len (omega (arith, less)) in
      ap (λ b. cond b (at ∷ filter after (range_with_len (at + 1) len)) (filter after (range_with_len (at + 1) len))) (more.others at other)
      ∙ ap (λ ks. cond (before at) (at ∷ ks) ks) rest

  -- those above the number `at` that passed before
  abbrev behind : ℕ → ℕ → List ℕ
  behind at len = filter before (range_with_len (at + 1) len)

  -- the one goes in front of those above it
  in_front : (at len : ℕ) → table < at → insert_key nat_cmp (filter before (range_with_len at len)) table ≡ table ∷ filter before (range_with_len at len)
  in_front at zero less = refl
  in_front at (suc len) less = go (before at) (in_front (at + 1) len (omega (arith, less)))
    where
      go : (b : Bool) → insert_key nat_cmp (behind at len) table ≡ table ∷ behind at len → insert_key nat_cmp (cond b (at ∷ behind at len) (behind at len)) table ≡ table ∷ cond b (at ∷ behind at len) (behind at len)
      go true is = ap (λ r. match_ordering r (table ∷ at ∷ behind at len) (at ∷ behind at len) (at ∷ insert_key nat_cmp (behind at len) table)) (sym (nat_cmp_is table at Less less))
      go false is = is

  -- Where a test passes one number more, it is entered.
  entered : (at len : ℕ) → at ≤ table → table < at + len
      → filter after (range_with_len at len) ≡ insert_key nat_cmp (filter before (range_with_len at len)) table
  entered at zero low high = absurd (let g : table < at + 0 = high in omega (arith, low, g))
  entered at (suc len) low high = go (at == table) refl (entered (at + 1) len)
    where
      here : (b : Bool) → at ≡ table → table ∷ behind at len ≡ insert_key nat_cmp (cond b (at ∷ behind at len) (behind at len)) table
      here true same =
          sym (ap (λ r. match_ordering r (table ∷ at ∷ behind at len) (at ∷ behind at len) (at ∷ insert_key nat_cmp (behind at len) table)) (sym (nat_cmp_is table at Equal (sym same)))
          ∙ ap (λ (k : ℕ). k ∷ behind at len) same)
      here false same = sym (in_front (at + 1) len (omega (arith, same)))

      further : (b : Bool) → at < table → filter after (range_with_len (at + 1) len) ≡ insert_key nat_cmp (behind at len) table
          → cond b (at ∷ filter after (range_with_len (at + 1) len)) (filter after (range_with_len (at + 1) len)) ≡ insert_key nat_cmp (cond b (at ∷ behind at len) (behind at len)) table
      further true less is =
          ap (λ (ks : List ℕ). at ∷ ks) is
          ∙ ap (λ r. match_ordering r (table ∷ at ∷ behind at len) (at ∷ behind at len) (at ∷ insert_key nat_cmp (behind at len) table)) (nat_cmp_is table at Greater less)
      further false less is = is

      go : (b : Bool) → (at == table) ≡ b
          → (at + 1 ≤ table → table < at + 1 + len → filter after (range_with_len (at + 1) len) ≡ insert_key nat_cmp (behind at len) table)
          → filter after (range_with_len at (suc len)) ≡ insert_key nat_cmp (filter before (range_with_len at (suc len))) table
      go true is more' =
          let same : at ≡ table = grind (arith, nat_tests, is) in
          ap (λ b. cond b (at ∷ filter after (range_with_len (at + 1) len)) (filter after (range_with_len (at + 1) len))) (ap after same ∙ more.there)
          ∙ ap (λ ks. at ∷ ks) (above (at + 1) len (omega (arith, same)))
          ∙ ap (λ (k : ℕ). k ∷ behind at len) same
          ∙ here (before at) same
      go false is more' =
          let less : at < table = grind (arith, nat_tests, low, is) in
          ap (λ b. cond b (at ∷ filter after (range_with_len (at + 1) len)) (filter after (range_with_len (at + 1) len))) (more.others at is)
          ∙ further (before at) less (more' (omega (arith, less)) (omega (arith, high)))

-- A mark enters its table.
pub entered_mark : (marks : List Bool) (table : ℕ) → length marks ≡ 16 → table < 16
    → filter (λ t. slice_index_or (slice_set marks table true) t false) (range_with_len 0 16)
    ≡ insert_key nat_cmp (filter (λ t. slice_index_or marks t false) (range_with_len 0 16)) table
entered_mark marks table len low =
    entered (λ t. slice_index_or marks t false) (λ t. slice_index_or (slice_set marks table true) t false) table
    (record {
      there = get_or-set_same marks table true false (omega (arith, len, low));
      others = λ other is. get_or-set_other marks table other true false (λ same. let s : other ≡ table = same in grind (arith, nat_tests, is, s));
    })
    0 16 (omega arith) (omega (arith, low))

-- no table is marked where no mark stands
pub none_marked : filter (λ t. slice_index_or (false ∷ false ∷ false ∷ false ∷ false ∷ false ∷ false ∷ false ∷ false ∷ false ∷ false ∷ false ∷ false ∷ false ∷ false ∷ false ∷ []) t false) (range_with_len 0 16) ≡ []
none_marked = refl
