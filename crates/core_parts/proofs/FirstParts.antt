-- Shards, bodies and desks that are made over the rows of commits, one by one.
use Rattle.std.proofs.Common.{◌≡◌, ◌≢◌, ◌⊎◌, ℕ, zero, suc, ◌+◌, ◌*◌, ◌<◌, ◌≤◌, ℤ, Bool, true, false, cond, ◌||◌, ◌==◌, nat_lt, List, [], ◌∷◌, ◌++◌, map, Option, None, Some, length, get_or, unwrap_or, refl, sym, ap, ◌∙◌, arith}
use mathlib.Core.Logic.{inl, inr}
use Rattle.std.specs.Prelude.{filter, replicate, slice_get, slice_set}
use Rattle.std.specs.List.{list_any, range_with_len}
use Rattle.std.specs.Cmp.{int_cmp_total}
use Rattle.std.specs.FinMap as finite
use Rattle.std.specs.FinMap.{find, from_entries_push, get-from_entries, int_cmp-IsAntisymmetric}
use Rattle.std.specs.Ordering.{eq_by_cmp, int_cmp, nat_cmp}
use Rattle.std.proofs.lemmas.Bool.Decides.{nat_tests}
use Rattle.std.proofs.lemmas.List.{length_push}
use Rattle.std.proofs.lemmas.List.Elements.{filter-append}
use Rattle.block_spec.specs.Bodies.{Body, untouched}
use Rattle.block_spec.specs.Slots.{Row, Slot, bare}
use Rattle.cell_model.specs.declared.column.Column.{Column}
use Rattle.core_laws.proofs.Events.Places.{key_cases}
use Rattle.core_laws.proofs.Following.Met.{last-more}
use Rattle.core_laws.proofs.Logs.FirstPlaces.{by_number, of_row, row_place}
use Rattle.event_spec.specs.Parts.{below, shard_of}
use Rattle.event_spec.specs.Replay.{last_writer, opening_body, opening_desk, opening_shard, places_from}
use Rattle.isolation_spec.specs.Contents.{History, WriteSet, key_of}
use Rattle.isolation_spec.specs.declared.read.Read.TheVariants as read
use Rattle.isolation_spec.specs.Reads.{last_meeting, meets}
use Rattle.key_index.specs.Candidates.{candidates_of, with_candidates}
use Rattle.isolation_spec.specs.declared.place.Place.{Place}
use Rattle.std.specs.BTreeSet.{insert_key}
use Rattle.core_parts.proofs.Marks.{marks_more}
use Rattle.txn_desk.specs.declared.marks.TableMarks.{TableMarks}
use Rattle.txn_desk.specs.Desk.{DeskState, marked}
use Rattle.txn_desk.specs.Marks.{is_marked, marked_tables}

-- True is not the same as false.
true_false : true ≡ false → ⊥
true_false e = cc

-- ---- shards

-- no row has the key
abbrev pub LacksKey : List Row → ℤ → Type 0
LacksKey rows key = (number : ℕ) (row : Row) → slice_get rows number ≡ Some row → key_of row ≡ key → ⊥

-- The places of rows with one more.
places_more : (slots at : ℕ) (rows : List Row) (row : Row)
    → places_from slots at (rows ++ row ∷ []) ≡ places_from slots at rows ++ (key_of row, row_place slots (at + length rows) ∷ []) ∷ []
places_more slots at [] row = let e : at ≡ at + 0 = omega arith in ap (λ n. (key_of row, row_place slots n ∷ []) ∷ []) e
places_more slots at (first ∷ rows) row =
    let e : at + 1 + length rows ≡ at + suc (length rows) = omega arith in
    ap (λ (more : List (ℤ × List ℕ)). (key_of first, row_place slots at ∷ []) ∷ more)
    (places_more slots (at + 1) rows row ∙ ap (λ n. places_from slots (at + 1) rows ++ (key_of row, row_place slots n ∷ []) ∷ []) e)

module _ (slots shard : ℕ) where
  -- The entries of the shard.
  abbrev own_entries : ℕ → List Row → List (ℤ × List ℕ)
  own_entries at rows = filter (λ entry. shard_of entry.0 == shard) (places_from slots at rows)

  -- A key that no row has is in no entry.
  not_found : (at : ℕ) (rows : List Row) (key : ℤ) → LacksKey rows key → find int_cmp key (own_entries at rows) ≡ None
  not_found at [] key lacks = refl
  not_found at (row ∷ rows) key lacks = go (shard_of (key_of row) == shard) (not_found (at + 1) rows key (λ number other is. lacks (suc number) other is)) (key_cases key (key_of row))
    where
      go : (own : Bool) → find int_cmp key (own_entries (at + 1) rows) ≡ None
          → ((eq_by_cmp int_cmp key (key_of row) ≡ true) × (key ≡ key_of row)) ⊎ ((eq_by_cmp int_cmp key (key_of row) ≡ false) × (key ≢ key_of row))
          → find int_cmp key (cond own ((key_of row, row_place slots at ∷ []) ∷ own_entries (at + 1) rows) (own_entries (at + 1) rows)) ≡ None
      go own rest (inl x) = absurd (lacks 0 row refl (sym x.1))
      go true rest (inr x) = ap (λ b. cond b (Some (row_place slots at ∷ [])) (find int_cmp key (own_entries (at + 1) rows))) x.0 ∙ rest
      go false rest (inr x) = rest

  -- The entries with those of one more row, which is the shard's or another's.
  entries_more : (rows : List Row) (row : Row) → own_entries 0 (rows ++ row ∷ [])
      ≡ own_entries 0 rows ++ filter (λ (entry : ℤ × List ℕ). shard_of entry.0 == shard) ((key_of row, row_place slots (length rows) ∷ []) ∷ [])
  entries_more rows row =
      let e : 0 + length rows ≡ length rows = omega arith in
      ap (filter (λ (entry : ℤ × List ℕ). shard_of entry.0 == shard))
      (places_more slots 0 rows row ∙ ap (λ n. places_from slots 0 rows ++ (key_of row, row_place slots n ∷ []) ∷ []) e)
      ∙ filter-append (λ (entry : ℤ × List ℕ). shard_of entry.0 == shard) (places_from slots 0 rows) ((key_of row, row_place slots (length rows) ∷ []) ∷ [])

  -- a shard with a row more, whose key no row before it has, has its place as the key's candidate
  pub shard_more : (rows : List Row) (row : Row) → LacksKey rows (key_of row) → (shard_of (key_of row) == shard) ≡ true
      → with_candidates (opening_shard slots shard rows) (key_of row) (candidates_of (opening_shard slots shard rows) (key_of row) ++ row_place slots (length rows) ∷ [])
      ≡ opening_shard slots shard (rows ++ row ∷ [])
  shard_more rows row lacks own =
      ap (λ (candidates : List ℕ). with_candidates (opening_shard slots shard rows) (key_of row) (candidates ++ row_place slots (length rows) ∷ [])) none
      ∙ sym (from_entries_push int_cmp_total int_cmp-IsAntisymmetric (own_entries 0 rows) (key_of row) (row_place slots (length rows) ∷ []) (not_found 0 rows (key_of row) lacks))
      ∙ ap (finite.from_entries {R = int_cmp}) (sym (entries_more rows row ∙ ap (λ b. own_entries 0 rows ++ cond b ((key_of row, row_place slots (length rows) ∷ []) ∷ []) []) own))
    where
      none : candidates_of (opening_shard slots shard rows) (key_of row) ≡ []
      none = ap (λ o. unwrap_or o []) (get-from_entries int_cmp_total (own_entries 0 rows) (key_of row) ∙ not_found 0 rows (key_of row) lacks)

  -- one of another shard's leaves it
  pub shard_stays : (rows : List Row) (row : Row) → (shard_of (key_of row) == shard) ≡ false → opening_shard slots shard rows ≡ opening_shard slots shard (rows ++ row ∷ [])
  shard_stays rows row other =
      ap (finite.from_entries {R = int_cmp}) (sym (entries_more rows row ∙ ap (λ b. own_entries 0 rows ++ cond b ((key_of row, row_place slots (length rows) ∷ []) ∷ []) []) other ∙ no_more (own_entries 0 rows)))
    where
      no_more : (es : List (ℤ × List ℕ)) → es ++ [] ≡ es
      no_more [] = refl
      no_more (e ∷ es) = ap (λ (more : List (ℤ × List ℕ)). e ∷ more) (no_more es)

-- ---- bodies

-- Lists by number are the same where each element is.
same_by : {X : Type 0} (f g : ℕ → X) (at n : ℕ) → ((k : ℕ) → at ≤ k → k < at + n → f k ≡ g k) → map f (range_with_len at n) ≡ map g (range_with_len at n)
same_by f g at zero each = refl
same_by {X} f g at (suc n) each =
    ap (λ (x : X). x ∷ map f (range_with_len (at + 1) n)) (each at (omega arith) (omega arith))
    ∙ ap (λ (xs : List X). g at ∷ xs) (same_by f g (at + 1) n (λ k low high. each k (omega (arith, low)) (omega (arith, high))))

-- One element that is set is that of the number, and the others stay.
set_by : {X : Type 0} (f g : ℕ → X) (at n j : ℕ) (x : X) → j < n → g (at + j) ≡ x → ((k : ℕ) → k ≢ at + j → g k ≡ f k)
    → slice_set (map f (range_with_len at n)) j x ≡ map g (range_with_len at n)
set_by f g at zero j x less here other = absurd (omega (arith, less))
set_by {X} f g at (suc n) zero x less here other =
    let e : at + 0 ≡ at = omega arith in
    ap (λ (y : X). y ∷ map f (range_with_len (at + 1) n)) (sym here ∙ ap g e)
    ∙ ap (λ (ys : List X). g at ∷ ys) (same_by f g (at + 1) n (λ k low high. sym (other k (omega (arith, low)))))
set_by {X} f g at (suc n) (suc j) x less here other =
    let e : at + suc j ≡ at + 1 + j = omega arith in
    ap (λ (y : X). y ∷ slice_set (map f (range_with_len (at + 1) n)) j x) (sym (other at (omega arith)))
    ∙ ap (λ (ys : List X). g at ∷ ys) (set_by f g (at + 1) n j x (omega (arith, less)) (sym (ap g e) ∙ here) (λ k apart. other k (omega (arith, apart))))

-- a body over rows of which those of its slots below a number are laid
abbrev pub slot_laid : List Row → ℕ → ℕ → ℕ → Slot
slot_laid rows start laid slot = of_row (cond (nat_lt slot laid) (slice_get rows (start + slot)) None)

abbrev pub body_laid : List Column → ℕ → List Row → ℕ → ℕ → Body
body_laid columns slots rows block laid = record (untouched columns slots) { slots = map (slot_laid rows (block * slots) laid) (below slots) }

module _ (columns : List Column) (slots : ℕ) (rows : List Row) (block : ℕ) where
  -- The body with these slots.
  abbrev with_slots : List Slot → Body
  with_slots its = record (untouched columns slots) { slots = its }

  -- it begins untouched
  pub none_laid : untouched columns slots ≡ body_laid columns slots rows block 0
  none_laid = ap with_slots (all_bare 0 slots)
    where
      all_bare : (at n : ℕ) → replicate n bare ≡ map (slot_laid rows (block * slots) 0) (range_with_len at n)
      all_bare at zero = refl
      all_bare at (suc n) =
          let low : nat_lt at 0 ≡ false = grind (arith, nat_tests) in
          ap (λ (s : Slot). s ∷ replicate n bare) (ap (λ b. of_row (cond b (slice_get rows (block * slots + at)) None)) (sym low))
          ∙ ap (λ (more : List Slot). slot_laid rows (block * slots) 0 at ∷ more) (all_bare (at + 1) n)

  -- one row more is laid
  pub one_laid : (laid : ℕ) (row : Row) → laid < slots → slice_get rows (block * slots + laid) ≡ Some row
      → slice_set (map (slot_laid rows (block * slots) laid) (below slots)) laid (of_row (Some row)) ≡ map (slot_laid rows (block * slots) (laid + 1)) (below slots)
  one_laid laid row less is = set_by (slot_laid rows (block * slots) laid) (slot_laid rows (block * slots) (laid + 1)) 0 slots laid (of_row (Some row)) less here other
    where
      here : slot_laid rows (block * slots) (laid + 1) (0 + laid) ≡ of_row (Some row)
      here =
          let e : 0 + laid ≡ laid = omega arith in
          let below : nat_lt laid (laid + 1) ≡ true = grind (arith, nat_tests) in
          ap (slot_laid rows (block * slots) (laid + 1)) e ∙ ap (λ b. of_row (cond b (slice_get rows (block * slots + laid)) None)) below ∙ ap of_row is

      other : (k : ℕ) → k ≢ 0 + laid → slot_laid rows (block * slots) (laid + 1) k ≡ slot_laid rows (block * slots) laid k
      other k apart =
          let same : nat_lt k (laid + 1) ≡ nat_lt k laid = go (nat_lt k laid) refl in
          ap (λ b. of_row (cond b (slice_get rows (block * slots + k)) None)) same
        where
          go : (b : Bool) → nat_lt k laid ≡ b → nat_lt k (laid + 1) ≡ nat_lt k laid
          go true is = let low : nat_lt k (laid + 1) ≡ true = grind (arith, nat_tests) in low ∙ sym is
          go false is = let ne : k ≢ laid = λ e. apart (omega (arith, e)) in let high : nat_lt k (laid + 1) ≡ false = not_less k (laid + 1) (omega (arith, ne, least k laid is)) in high ∙ sym is
            where
              least : (a b : ℕ) → nat_lt a b ≡ false → b ≤ a
              least a b e = grind (arith, nat_tests)

              not_less : (a b : ℕ) → b ≤ a → nat_lt a b ≡ false
              not_less a b le = grind (arith, nat_tests)

  -- all are laid where all slots are behind, or no row is left
  pub all_laid : (laid : ℕ) → ((slot : ℕ) → slot < slots → laid ≤ slot → slice_get rows (block * slots + slot) ≡ None) → body_laid columns slots rows block laid ≡ opening_body columns slots rows block
  all_laid laid none = ap with_slots (same_by (slot_laid rows (block * slots) laid) (λ slot. of_row (slice_get rows (block * slots + slot))) 0 slots (λ k low high. go k (omega (arith, high)) (nat_lt k laid) refl))
    where
      go : (k : ℕ) → k < slots → (b : Bool) → nat_lt k laid ≡ b → slot_laid rows (block * slots) laid k ≡ of_row (slice_get rows (block * slots + k))
      go k less true is = ap (λ b. of_row (cond b (slice_get rows (block * slots + k)) None)) is
      go k less false is = let behind : laid ≤ k = grind (arith, nat_tests) in ap (λ b. of_row (cond b (slice_get rows (block * slots + k)) None)) is ∙ ap of_row (sym (none k less behind))

-- ---- desks

-- What a test of any in a list is with one more.
or_none : (b : Bool) → (b || false) ≡ b
or_none true = refl
or_none false = refl

pub any_more : {X : Type 0} (test : X → Bool) (xs : List X) (x : X) → list_any test (xs ++ x ∷ []) ≡ (list_any test xs || test x)
any_more test [] x = or_none (test x)
any_more test (y ∷ xs) x = go (test y) (any_more test xs x)
  where
    go : (b : Bool) → list_any test (xs ++ x ∷ []) ≡ (list_any test xs || test x) → (b || list_any test (xs ++ x ∷ [])) ≡ ((b || list_any test xs) || test x)
    go true rest = refl
    go false rest = rest

-- a desk behind commits that knows one more
pub desk_more : (commits : History) (writes : WriteSet) (passes : ℕ) (marks : ℕ → Bool) → ((table : ℕ) → table < 16 → marks table ≡ meets (read.Table table) writes)
    → record (opening_desk commits passes) { commits = length commits + 1; wrote = marked (length commits + 1) marks (opening_desk commits passes).wrote }
    ≡ opening_desk (commits ++ writes ∷ []) passes
unfolding marked
desk_more commits writes passes marks same =
    ap (λ (count : ℕ). record (opening_desk commits passes) { commits = count; wrote = marked (length commits + 1) marks (opening_desk commits passes).wrote }) (sym (length_push commits writes))
    ∙ ap (λ (wrote : List ℕ). record (opening_desk commits passes) { commits = length (commits ++ writes ∷ []); wrote = wrote })
    (same_by (λ table. cond (marks table) (length commits + 1) (get_or (map (last_writer commits) (range_with_len 0 16)) table 0)) (last_writer (commits ++ writes ∷ [])) 0 16 (λ table low high. each table (omega (arith, high))))
  where
    each : (table : ℕ) → table < 16
        → cond (marks table) (length commits + 1) (get_or (map (last_writer commits) (range_with_len 0 16)) table 0) ≡ last_writer (commits ++ writes ∷ []) table
    each table less =
        let e : 0 + table ≡ table = omega arith in
        ap (λ n. cond (marks table) (length commits + 1) n) (by_number (last_writer commits) 0 0 16 table less ∙ ap (last_writer commits) e)
        ∙ go (marks table) refl
        ∙ ap (λ (o : Option ℕ). unwrap_or o 0) (sym (last-more commits writes 0 (omega arith) (meets (read.Table table))))
      where
        go : (b : Bool) → marks table ≡ b
            → cond (marks table) (length commits + 1) (last_writer commits table)
            ≡ unwrap_or (cond (meets (read.Table table) writes) (Some (length commits + 1)) (last_meeting commits 0 (read.Table table))) 0
        go b is =
            ap (λ x. cond x (length commits + 1) (last_writer commits table)) is
            ∙ by b
            ∙ ap (λ x. unwrap_or (cond x (Some (length commits + 1)) (last_meeting commits 0 (read.Table table))) 0) (sym is ∙ same table less)
          where
            by : (b : Bool) → cond b (length commits + 1) (last_writer commits table) ≡ unwrap_or (cond b (Some (length commits + 1)) (last_meeting commits 0 (read.Table table))) 0
            by true = refl
            by false = refl

-- a desk that knows the commits before one knows it as well behind its turn
pub desk_step : (front : History) (writes : WriteSet) (passes : ℕ) (marks : ℕ → Bool) (before after : DeskState) → ((table : ℕ) → table < 16 → marks table ≡ meets (read.Table table) writes)
    → before ≡ opening_desk front passes → after ≡ record before { commits = before.commits + 1; wrote = marked (before.commits + 1) marks before.wrote }
    → after ≡ opening_desk (front ++ writes ∷ []) passes
desk_step front writes passes marks before after same was now =
    now ∙ ap (λ (desk : DeskState). record desk { commits = desk.commits + 1; wrote = marked (desk.commits + 1) marks desk.wrote }) was ∙ desk_more front writes passes marks same

-- what marks tell of a front of a commit's writes tells of it with the next
pub marks_step : (tables after : TableMarks) (writes : WriteSet) (write : Place × Option Row) → marked_tables after ≡ insert_key nat_cmp (marked_tables tables) write.0.table
    → ((table : ℕ) → table < 16 → is_marked tables table ≡ meets (read.Table table) writes)
    → (table : ℕ) → table < 16 → is_marked after table ≡ meets (read.Table table) (writes ++ write ∷ [])
marks_step tables after writes write marks same table few =
    marks_more tables after write.0.table table few marks
    ∙ ap (λ b. b || write.0.table == table) (same table few)
    ∙ sym (any_more (λ (w : Place × Option Row). w.0.table == table) writes write)
