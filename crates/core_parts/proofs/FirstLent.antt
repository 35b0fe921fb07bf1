-- Rows that are lent from commits, laid over one another.
use Rattle.std.proofs.Common.{◌≡◌, ℕ, zero, suc, ◌+◌, ◌<◌, ℤ, Bool, true, false, cond, ◌==◌, List, [], ◌∷◌, ◌++◌, Option, None, Some, length, map, option_map, take, unwrap_or, refl, sym, ap, ◌∙◌, subst, arith}
use Rattle.std.specs.Borrow.{Bor}
use Rattle.std.specs.BTreeMap.{insert_entry}
use Rattle.std.specs.List.{cons_option, filter_map}
use Rattle.std.specs.Cmp.{int_cmp_total, nat_cmp_total, tied_itself}
use Rattle.std.specs.declared.cmp.Ordering.{Ordering}
use Rattle.std.specs.declared.cmp.Ordering.TheVariants.{Less, Equal, Greater}
use Rattle.std.specs.Ordering.{int_cmp, is_eq, match_ordering, ordering_then}
use Rattle.std.specs.Map.{remove_entry}
use Rattle.std.specs.Map.Iter.{deref_pair}
use Rattle.std.specs.Prelude.{IsSomeAnd, slice_get}
use Rattle.std.proofs.lemmas.Bool.Decides.{nat_tests}
use Rattle.std.proofs.lemmas.Grind.{fold-append}
use Rattle.std.proofs.lemmas.List.{length-map, map-append, take_more}
use Rattle.std.proofs.lemmas.Option.{get_or_from_slice_get, none-some, slice_get-map, slice_get_within}
use Rattle.block_spec.specs.Slots.{Row}
use Rattle.cell_model.specs.declared.table.TableDecl.{TableDecl}
use Rattle.cell_model.specs.Rows.{Fits}
use Rattle.core_laws.proofs.Logs.FirstRows.{HasRowsOf, IsRowAt, found_behind, one_row, row_found, rows_of_tables, whole_state}
use Rattle.core_laws.proofs.Logs.FirstPlaces.{row_place}
use Rattle.core_parts.proofs.FirstParts.{LacksKey, shard_more, shard_stays}
use Rattle.core_parts.specs.declared.first_rows.FirstRow.{FirstRow}
use Rattle.core_parts.specs.FirstRows.{AreFirst, keys_in, rows_at, rows_lent}
use Rattle.event_spec.specs.Parts.{Shape, shard_of}
use Rattle.event_spec.specs.Replay.{columns_in, opening_shard, rows_first}
use Rattle.isolation_spec.specs.Commits.{AreCommitsOf, FitsPlace}
use Rattle.isolation_spec.specs.Contents.{State, WriteSet, at_place, contents_of, is_place, key_of, laid_over, place_at, place_cmp, state_at, with_write}
use Rattle.isolation_spec.specs.declared.place.Place.{Place}
use Rattle.isolation_spec.specs.Order.{InOrder}
use Rattle.key_index.specs.Candidates.{Places, candidates_of, with_candidates}

-- A place is itself.
itself : (place : Place) → is_place place place ≡ true
itself place =
    ap (λ (r : Ordering). is_eq (ordering_then r (int_cmp place.key place.key))) (tied_itself nat_cmp_total place.table)
    ∙ ap is_eq (tied_itself int_cmp_total place.key)

-- what is lent with one more row, or without one
pub lent_insert : (entries : List (Place × Bor Row)) (place : Place) (row : Bor Row)
    → rows_at (insert_entry place_cmp entries place row) ≡ insert_entry place_cmp (rows_at entries) place row.now
lent_insert [] place row = refl
lent_insert (e ∷ es) place row = go (place_cmp place e.0) (lent_insert es place row)
  where
    go : (answer : Ordering) → rows_at (insert_entry place_cmp es place row) ≡ insert_entry place_cmp (rows_at es) place row.now
        → rows_at (match_ordering answer ((place, row) ∷ e ∷ es) ((e.0, row) ∷ es) (e ∷ insert_entry place_cmp es place row))
        ≡ match_ordering answer ((place, row.now) ∷ (e.0, e.1.now) ∷ rows_at es) ((e.0, row.now) ∷ rows_at es) ((e.0, e.1.now) ∷ insert_entry place_cmp (rows_at es) place row.now)
    go Less rest = refl
    go Equal rest = refl
    go Greater rest = ap (λ (more : State). (e.0, e.1.now) ∷ more) rest

pub lent_remove : (test : Place → Bool) (entries : List (Place × Bor Row)) → rows_at (remove_entry test entries) ≡ remove_entry test (rows_at entries)
lent_remove test [] = refl
lent_remove test (e ∷ es) = go (test e.0) (lent_remove test es)
  where
    go : (b : Bool) → rows_at (remove_entry test es) ≡ remove_entry test (rows_at es)
        → rows_at (cond b es (e ∷ remove_entry test es)) ≡ cond b (rows_at es) ((e.0, e.1.now) ∷ remove_entry test (rows_at es))
    go true rest = refl
    go false rest = ap (λ (more : State). (e.0, e.1.now) ∷ more) rest

-- one write more is laid over what the others left
pub laid_more : (rows : State) (writes : WriteSet) (write : Place × Option Row) → laid_over rows (writes ++ write ∷ []) ≡ with_write (laid_over rows writes) write.0 write.1
laid_more rows writes write = fold-append (λ (before : State) (w : Place × Option Row). with_write before w.0 w.1) rows writes (write ∷ [])

-- What is chosen of a table's entries.
abbrev chosen : {X : Type 0} → (Place × Row → X) → ℕ → State → List X
chosen f t rows = filter_map (λ (e : Place × Row). cond (e.0.table == t) (Some (f e)) None) rows

-- With one more entry, which is the table's or another's.
chosen_own : {X : Type 0} (f : Place × Row → X) (t : ℕ) (rows : State) (place : Place) (row : Row) → (place.table == t) ≡ true → chosen f t (rows ++ (place, row) ∷ []) ≡ chosen f t rows ++ f (place, row) ∷ []
chosen_own f t [] place row is = ap (λ b. cons_option (cond b (Some (f (place, row))) None) []) is
chosen_own {X} f t (e ∷ rows) place row is = go (e.0.table == t) (chosen_own f t rows place row is)
  where
    go : (b : Bool) → chosen f t (rows ++ (place, row) ∷ []) ≡ chosen f t rows ++ f (place, row) ∷ []
        → cons_option (cond b (Some (f e)) None) (chosen f t (rows ++ (place, row) ∷ [])) ≡ cons_option (cond b (Some (f e)) None) (chosen f t rows) ++ f (place, row) ∷ []
    go true rest = ap (λ (more : List X). f e ∷ more) rest
    go false rest = rest

chosen_other : {X : Type 0} (f : Place × Row → X) (t : ℕ) (rows : State) (place : Place) (row : Row) → (place.table == t) ≡ false → chosen f t (rows ++ (place, row) ∷ []) ≡ chosen f t rows
chosen_other f t [] place row is = ap (λ b. cons_option (cond b (Some (f (place, row))) None) []) is
chosen_other f t (e ∷ rows) place row is = ap (cons_option (cond (e.0.table == t) (Some (f e)) None)) (chosen_other f t rows place row is)

-- The entries that were yielded, with one more.
yielded_more : (yielded : List (Bor Place × Bor (Bor Row))) (place : Bor Place) (row : Bor (Bor Row))
    → rows_at (map deref_pair (yielded ++ (place, row) ∷ [])) ≡ rows_at (map deref_pair yielded) ++ (place.now, row.now.now) ∷ []
yielded_more yielded place row =
    ap rows_at (map-append deref_pair yielded ((place, row) ∷ []))
    ∙ map-append (λ (entry : Place × Bor Row). (entry.0, entry.1.now)) (map deref_pair yielded) (deref_pair (place, row) ∷ [])

-- A number is tested as the same as another where it is.
same_table : (a b : ℕ) → a ≡ b → (a == b) ≡ true
same_table a b is = grind (arith, nat_tests)

other_table : (a b : ℕ) → (a ≡ b → ⊥) → (a == b) ≡ false
other_table a b apart = go (a == b) refl
  where
    go : (x : Bool) → (a == b) ≡ x → (a == b) ≡ false
    go true is = absurd (apart (grind (arith, nat_tests)))
    go false is = is

module _ (t : ℕ) (yielded : List (Bor Place × Bor (Bor Row))) (place : Bor Place) (row : Bor (Bor Row)) where
  -- the entries that were yielded, and with one more
  abbrev pub so_far : State
  so_far = rows_at (map deref_pair yielded)

  abbrev pub with_one : State
  with_one = rows_at (map deref_pair (yielded ++ (place, row) ∷ []))

  -- the rows and keys of the table with an entry of its own
  pub rows_own : place.now.table ≡ t → contents_of t with_one ≡ contents_of t so_far ++ row.now.now ∷ []
  rows_own is = ap (contents_of t) (yielded_more yielded place row) ∙ chosen_own (λ (e : Place × Row). e.1) t so_far place.now row.now.now (same_table place.now.table t is)

  pub keys_own : place.now.table ≡ t → keys_in t with_one ≡ keys_in t so_far ++ place.now.key ∷ []
  keys_own is = ap (keys_in t) (yielded_more yielded place row) ∙ chosen_own (λ (e : Place × Row). e.0.key) t so_far place.now row.now.now (same_table place.now.table t is)

  -- and with one of another
  pub rows_other : (place.now.table ≡ t → ⊥) → contents_of t with_one ≡ contents_of t so_far
  rows_other apart = ap (contents_of t) (yielded_more yielded place row) ∙ chosen_other (λ (e : Place × Row). e.1) t so_far place.now row.now.now (other_table place.now.table t apart)

  pub keys_other : (place.now.table ≡ t → ⊥) → keys_in t with_one ≡ keys_in t so_far
  keys_other apart = ap (keys_in t) (yielded_more yielded place row) ∙ chosen_other (λ (e : Place × Row). e.0.key) t so_far place.now row.now.now (other_table place.now.table t apart)

-- ---- the keys of rows

-- The key of a row at a place of tables.
row_key : (tables : List TableDecl) (place : Place) (row : Row) → IsRowAt tables place row → key_of row ≡ place.key
row_key tables place row is = go (slice_get tables place.table) is
  where
    go : (o : Option TableDecl) → IsSomeAnd o (λ (table : TableDecl). FitsPlace table.schema place row) → key_of row ≡ place.key
    go None has = absurd has
    go (Some table) has = has.key

-- the keys of a table's rows are those of their places
pub keys_are : (tables : List TableDecl) (t : ℕ) (rows : State) → InOrder rows → HasRowsOf tables rows → keys_in t rows ≡ map key_of (contents_of t rows)
keys_are tables t [] order have = refl
keys_are tables t (e ∷ es) order have = go (e.0.table == t) (keys_are tables t es order.1 (λ place row found. have place row (found_behind e es place row order found)))
  where
    its : key_of e.1 ≡ e.0.key
    its = row_key tables e.0 e.1 (have e.0 e.1 (ap (λ b. cond b (Some e.1) (at_place es e.0)) (itself e.0)))

    go : (b : Bool) → keys_in t es ≡ map key_of (contents_of t es)
        → cons_option (cond b (Some e.0.key) None) (keys_in t es) ≡ map key_of (cons_option (cond b (Some e.1) None) (contents_of t es))
    go true rest = ap (λ (key : ℤ). key ∷ keys_in t es) (sym its) ∙ ap (λ (keys : List ℤ). key_of e.1 ∷ keys) rest
    go false rest = rest

-- ---- a front of the rows

-- A front that is not longer than the whole is as long as it says.
took_length : {X : Type 0} (n : ℕ) (xs : List X) → n < length xs → length (take n xs) ≡ n
took_length zero xs less = refl
took_length (suc n) [] less = absurd (omega (arith, less))
took_length (suc n) (x ∷ xs) less = ap suc (took_length n xs (omega (arith, less)))

-- what a front has the whole has
pub took_within : {X : Type 0} (n : ℕ) (xs : List X) (j : ℕ) (x : X) → slice_get (take n xs) j ≡ Some x → (j < n) × (slice_get xs j ≡ Some x)
took_within zero xs j x is = absurd (none-some x is)
took_within (suc n) [] j x is = absurd (none-some x is)
took_within (suc n) (y ∷ xs) zero x is = (omega arith, is)
took_within (suc n) (y ∷ xs) (suc j) x is = let rest = took_within n xs j x is in let less = rest.0 in (omega (arith, less), rest.1)

-- a front with the next element
pub took_more : {X : Type 0} (xs : List X) (n : ℕ) (x : X) → slice_get xs n ≡ Some x → take (n + 1) xs ≡ take n xs ++ x ∷ []
took_more xs n x is = take_more xs n x (slice_get_within xs n x is) ∙ ap (λ y. take n xs ++ y ∷ []) (get_or_from_slice_get xs n x x is)

-- a row that is lent is the first of its number, and has its key
pub item_is : (sh : Shape) (t : ℕ) (lent : List FirstRow) (are : AreFirst sh t lent) (n : ℕ) (item : FirstRow) → slice_get lent n ≡ Some item
    → (slice_get (rows_first sh t) n ≡ Some item.row.now) × (item.key ≡ key_of item.row.now)
item_is sh t lent are n item is = (row, same item.key (key_of item.row.now) key)
  where
    row : slice_get (rows_first sh t) n ≡ Some item.row.now
    row = ap (λ (rows : List Row). slice_get rows n) (sym are.rows) ∙ slice_get-map (λ (row : FirstRow). row.row.now) lent n ∙ ap (option_map (λ (row : FirstRow). row.row.now)) is

    key : Some item.key ≡ Some (key_of item.row.now)
    key =
        ap (option_map (λ (row : FirstRow). row.key)) (sym is) ∙ sym (slice_get-map (λ (row : FirstRow). row.key) lent n)
        ∙ ap (λ (keys : List ℤ). slice_get keys n) are.keys ∙ slice_get-map key_of (rows_first sh t) n ∙ ap (option_map key_of) row

    same : (a b : ℤ) → Some a ≡ Some b → a ≡ b
    same a b e = cc

-- as many are lent as there are
pub lent_all : (sh : Shape) (t : ℕ) (lent : List FirstRow) → AreFirst sh t lent → length lent ≡ length (rows_first sh t)
lent_all sh t lent are = sym (length-map lent (λ (row : FirstRow). row.row.now)) ∙ ap (λ (rows : List Row). length rows) are.rows

-- a shard that has the places of the rows before one has the row's as well behind its turn
pub shard_step : (slots shard n : ℕ) (rows : List Row) (row : Row) (before after : Places) (key : ℤ) (place : ℕ) → slice_get rows n ≡ Some row → LacksKey (take n rows) (key_of row)
    → key ≡ key_of row → place ≡ row_place slots n → shard_of key ≡ shard → before ≡ opening_shard slots shard (take n rows)
    → after ≡ with_candidates before key (candidates_of before key ++ place ∷ []) → after ≡ opening_shard slots shard (take (n + 1) rows)
shard_step slots shard n rows row before after key place is lacks its at own was now =
    now
    ∙ ap (λ (index : Places). with_candidates index key (candidates_of index key ++ place ∷ [])) was
    ∙ ap (λ (k : ℤ). with_candidates (opening_shard slots shard (take n rows)) k (candidates_of (opening_shard slots shard (take n rows)) k ++ place ∷ [])) its
    ∙ ap (λ (p : ℕ). with_candidates (opening_shard slots shard (take n rows)) (key_of row) (candidates_of (opening_shard slots shard (take n rows)) (key_of row) ++ p ∷ []))
    (at ∙ ap (row_place slots) (sym (took_length n rows (slice_get_within rows n row is))))
    ∙ shard_more slots shard (take n rows) row lacks (same_table (shard_of (key_of row)) shard (ap shard_of (sym its) ∙ own))
    ∙ ap (opening_shard slots shard) (sym (took_more rows n row is))

pub shard_skip : (slots shard n : ℕ) (rows : List Row) (row : Row) (before : Places) (key : ℤ) → slice_get rows n ≡ Some row
    → key ≡ key_of row → (shard_of key ≡ shard → ⊥) → before ≡ opening_shard slots shard (take n rows) → before ≡ opening_shard slots shard (take (n + 1) rows)
shard_skip slots shard n rows row before key is its other was =
    was
    ∙ shard_stays slots shard (take n rows) row (other_table (shard_of (key_of row)) shard (λ e. other (ap shard_of its ∙ e)))
    ∙ ap (opening_shard slots shard) (sym (took_more rows n row is))

module _ (sh : Shape) (commits : AreCommitsOf sh.tables sh.first) where
  -- What the first commits leave stands in order, and has rows of the tables.
  left_holds : InOrder (state_at sh.first (length sh.first)) × HasRowsOf sh.tables (state_at sh.first (length sh.first))
  left_holds = subst (λ (rows : State). InOrder rows × HasRowsOf sh.tables rows) (sym (whole_state sh.first)) (rows_of_tables sh.tables sh.first commits)

  -- rows that are lent of what the commits leave are the first of a table
  pub are_first : (t : ℕ) (left : State) (lent : List FirstRow) → left ≡ state_at sh.first (length sh.first) → rows_lent lent ≡ contents_of t left
      → map (λ (row : FirstRow). row.key) lent ≡ keys_in t left → AreFirst sh t lent
  are_first t left lent is rows keys = record {
    rows = rows ∙ ap (contents_of t) is;
    keys = keys ∙ ap (keys_in t) is ∙ keys_are sh.tables t (state_at sh.first (length sh.first)) left_holds.0 left_holds.1;
  }

  -- none of the rows before one has its key
  pub lacks_key : (t n : ℕ) (row : Row) → slice_get (rows_first sh t) n ≡ Some row → LacksKey (take n (rows_first sh t)) (key_of row)
  lacks_key t n row is j other there same =
      let at = took_within n (rows_first sh t) j other there in
      let e : j ≡ n = one_row t (state_at sh.first (length sh.first)) j n other row left_holds.0 (λ place r found. row_key sh.tables place r (left_holds.1 place r found)) at.1 is same in
      let less = at.0 in absurd (omega (arith, e, less))

  -- each row fits its table's columns
  pub first_fits : (t n : ℕ) (row : Row) → slice_get (rows_first sh t) n ≡ Some row → Fits (columns_in sh t) row
  first_fits t n row is = go (slice_get sh.tables t) (left_holds.1 (place_at t found.0) row found.1)
    where
      found : (key : ℤ) × (at_place (state_at sh.first (length sh.first)) (place_at t key) ≡ Some row)
      found = row_found t (state_at sh.first (length sh.first)) n row left_holds.0 is

      go : (o : Option TableDecl) → IsSomeAnd o (λ (table : TableDecl). FitsPlace table.schema (place_at t found.0) row) → Fits (unwrap_or (option_map (λ (decl : TableDecl). decl.schema) o) []) row
      go None has = absurd has
      go (Some table) has = has.cells
