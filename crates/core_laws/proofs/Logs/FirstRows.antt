-- The rows that commits of tables leave: what each of them is, and where it is found again.
use Rattle.std.proofs.Common.{◌≡◌, ℕ, zero, suc, ℤ, pos, Bool, true, false, cond, ◌==◌, List, [], ◌∷◌, Option, None, Some, fold, length, refl, sym, ap, ◌∙◌, subst, arith}
use Rattle.std.specs.Prelude.{All, IfSome, IsSomeAnd, slice_get}
use Rattle.std.specs.List.{cons_option}
use Rattle.std.proofs.lemmas.Bool.Decides.{nat_tests}
use Rattle.std.proofs.lemmas.List.{take_all}
use Rattle.std.proofs.lemmas.List.Elements.{All-head, All-tail}
use Rattle.std.proofs.lemmas.Option.{none-some}
use Rattle.cell_model.specs.declared.table.TableDecl.{TableDecl}
use Rattle.block_spec.specs.Slots.{Row}
use Rattle.isolation_laws.proofs.Maps.{itself, one_place}
use Rattle.isolation_laws.proofs.Overlays.{at-laid_over, none_below, over}
use Rattle.isolation_spec.specs.Commits.{AreCommitsOf, FitsPlace, IsCommitOf, IsWriteOf}
use Rattle.isolation_spec.specs.Contents.{History, State, WriteSet, at_place, contents_of, is_place, key_of, laid_over, place_at, state_at}
use Rattle.isolation_spec.specs.declared.place.Place.{Place}
use Rattle.isolation_spec.specs.Order.{InOrder}

-- True is not the same as false.
true_false : true ≡ false → ⊥
true_false e = cc

-- A row that stands at a place of tables: it fits the table's columns, and has the place's key.
abbrev pub IsRowAt : List TableDecl → Place → Row → Type 0
IsRowAt tables place row = IsSomeAnd (slice_get tables place.table) (λ (table : TableDecl). FitsPlace table.schema place row)

-- such rows are all that a state has
abbrev pub HasRowsOf : List TableDecl → State → Type 0
HasRowsOf tables rows = (place : Place) (row : Row) → at_place rows place ≡ Some row → IsRowAt tables place row

-- ---- what commits leave

-- what a write set has at a place is a write of the tables
its_write : (tables : List TableDecl) (writes : WriteSet) (place : Place) (value : Option Row) → All (IsWriteOf tables) writes
    → at_place writes place ≡ Some value → IsWriteOf tables (place, value)
its_write tables [] place value all is = absurd (none-some value is)
its_write tables (e ∷ es) place value all is = go (is_place place e.0) refl is (its_write tables es place value (All-tail (IsWriteOf tables) e es all))
  where
    go : (b : Bool) → is_place place e.0 ≡ b → cond b (Some e.1) (at_place es place) ≡ Some value → (at_place es place ≡ Some value → IsWriteOf tables (place, value)) → IsWriteOf tables (place, value)
    go true same found rest =
        let value_is : e.1 ≡ value = cc in
        subst (λ (p : Place). IsWriteOf tables (p, value)) (sym (one_place place e.0 same))
        (subst (λ (v : Option Row). IsWriteOf tables (e.0, v)) value_is (All-head (IsWriteOf tables) e es all))
    go false same found rest = rest found

-- the row that a write leaves is one of the tables
its_row : (o : Option TableDecl) (place : Place) (row : Row) → IsSomeAnd o (λ (table : TableDecl). IfSome (Some row) (FitsPlace table.schema place))
    → IsSomeAnd o (λ (table : TableDecl). FitsPlace table.schema place row)
its_row None place row is = is
its_row (Some table) place row is = is

-- a commit laid over rows leaves rows of the tables, in order
commit_leaves : (tables : List TableDecl) (rows : State) (writes : WriteSet) → IsCommitOf tables writes → InOrder rows → HasRowsOf tables rows
    → InOrder (laid_over rows writes) × HasRowsOf tables (laid_over rows writes)
commit_leaves tables rows writes is order have = (
  (at-laid_over rows writes (place_at 0 (pos 0)) order is.rises).1,
  λ place row found. go place row (at_place writes place) refl (sym (at-laid_over rows writes place order is.rises).0 ∙ found),
)
  where
    go : (place : Place) (row : Row) (o : Option (Option Row)) → at_place writes place ≡ o → over (at_place writes place) (at_place rows place) ≡ Some row → IsRowAt tables place row
    go place row None its found = have place row (sym (ap (λ o. over o (at_place rows place)) its) ∙ found)
    go place row (Some value) its found =
        let value_is : value ≡ Some row = sym (ap (λ o. over o (at_place rows place)) its) ∙ found in
        its_row (slice_get tables place.table) place row ((its_write tables writes place (Some row) is.each (its ∙ ap Some value_is)).row)

-- so do commits laid over them in turn
commits_leave : (tables : List TableDecl) (rows : State) (commits : History) → AreCommitsOf tables commits → InOrder rows → HasRowsOf tables rows
    → InOrder (fold laid_over rows commits) × HasRowsOf tables (fold laid_over rows commits)
commits_leave tables rows [] are order have = (order, have)
commits_leave tables rows (writes ∷ commits) are order have =
    let first = commit_leaves tables rows writes (All-head (IsCommitOf tables) writes commits are) order have in
    commits_leave tables (laid_over rows writes) commits (All-tail (IsCommitOf tables) writes commits are) first.0 first.1

-- the state after all commits is what they leave in turn
pub whole_state : (commits : History) → state_at commits (length commits) ≡ fold laid_over [] commits
whole_state commits = ap (fold laid_over []) (take_all (length commits) commits (omega arith))

-- commits of tables leave rows of them, in order
pub rows_of_tables : (tables : List TableDecl) (commits : History) → AreCommitsOf tables commits
    → InOrder (fold laid_over [] commits) × HasRowsOf tables (fold laid_over [] commits)
rows_of_tables tables commits are = commits_leave tables [] commits are tt (λ place row found. absurd (none-some row found))

-- ---- the rows of one table

-- Numbers that are tested as the same are so.
num : (a b : ℕ) → (a == b) ≡ true → a ≡ b
num a b e = grind (arith, nat_tests)

-- A number is tested as the same as itself.
num_refl : (a : ℕ) → (a == a) ≡ true
num_refl a = grind (arith, nat_tests)

-- what is found behind the first entry of a map in order is found in the whole
pub found_behind : (e : Place × Row) (es : State) (place : Place) (row : Row) → InOrder (e ∷ es) → at_place es place ≡ Some row → at_place (e ∷ es) place ≡ Some row
found_behind e es place row order found = go (is_place place e.0) refl
  where
    go : (b : Bool) → is_place place e.0 ≡ b → cond (is_place place e.0) (Some e.1) (at_place es place) ≡ Some row
    go true same = absurd (none-some row (sym (ap (at_place es) (one_place place e.0 same) ∙ none_below es e.0 e.0 (itself e.0) order.0) ∙ found))
    go false same = ap (λ b. cond b (Some e.1) (at_place es place)) same ∙ found

-- The first entry of a map is found at its place.
found_first : (e : Place × Row) (es : State) → at_place (e ∷ es) e.0 ≡ Some e.1
found_first e es = ap (λ b. cond b (Some e.1) (at_place es e.0)) (itself e.0)

module _ (t : ℕ) where
  -- An entry adds its row exactly where it is the table's.
  adds : (e : Place × Row) (es : State) (b : Bool) → (e.0.table == t) ≡ b → contents_of t (e ∷ es) ≡ cond b (e.1 ∷ contents_of t es) (contents_of t es)
  adds e es true is = ap (λ b. cons_option (cond b (Some e.1) None) (contents_of t es)) is
  adds e es false is = ap (λ b. cons_option (cond b (Some e.1) None) (contents_of t es)) is

  -- The place of an entry of the table, by its key.
  its_place : (e : Place × Row) → (e.0.table == t) ≡ true → place_at t e.0.key ≡ e.0
  its_place e is = ap (λ (table : ℕ). place_at table e.0.key) (sym (num e.0.table t is))

  -- each row of the table is found at a key
  pub row_found : (es : State) (j : ℕ) (row : Row) → InOrder es → slice_get (contents_of t es) j ≡ Some row → (key : ℤ) × (at_place es (place_at t key) ≡ Some row)
  row_found [] j row order is = absurd (none-some row is)
  row_found (e ∷ es) j row order is = go (e.0.table == t) refl (λ k there. row_found es k row order.1 there)
    where
      deeper : (key : ℤ) × (at_place es (place_at t key) ≡ Some row) → (key : ℤ) × (at_place (e ∷ es) (place_at t key) ≡ Some row)
      deeper r = (r.0, found_behind e es (place_at t r.0) row order r.1)

      by : (e.0.table == t) ≡ true → (j : ℕ) → slice_get (e.1 ∷ contents_of t es) j ≡ Some row
          → ((k : ℕ) → slice_get (contents_of t es) k ≡ Some row → (key : ℤ) × (at_place es (place_at t key) ≡ Some row))
          → (key : ℤ) × (at_place (e ∷ es) (place_at t key) ≡ Some row)
      by its zero there rest = (e.0.key, ap (at_place (e ∷ es)) (its_place e its) ∙ found_first e es ∙ there)
      by its (suc k) there rest = deeper (rest k there)

      go : (b : Bool) → (e.0.table == t) ≡ b → ((k : ℕ) → slice_get (contents_of t es) k ≡ Some row → (key : ℤ) × (at_place es (place_at t key) ≡ Some row))
          → (key : ℤ) × (at_place (e ∷ es) (place_at t key) ≡ Some row)
      go true its rest = by its j (subst (λ (rows : List Row). slice_get rows j ≡ Some row) (adds e es true its) is) rest
      go false its rest = deeper (rest j (subst (λ (rows : List Row). slice_get rows j ≡ Some row) (adds e es false its) is))

  -- what is found at a key of the table is one of its rows
  pub found_row : (es : State) (key : ℤ) (row : Row) → at_place es (place_at t key) ≡ Some row → (j : ℕ) × (slice_get (contents_of t es) j ≡ Some row)
  found_row [] key row is = absurd (none-some row is)
  found_row (e ∷ es) key row is = go (is_place (place_at t key) e.0) refl is (found_row es key row)
    where
      more : (b : Bool) → (e.0.table == t) ≡ b → (j : ℕ) × (slice_get (contents_of t es) j ≡ Some row) → (j : ℕ) × (slice_get (contents_of t (e ∷ es)) j ≡ Some row)
      more true its r = (suc r.0, ap (λ (rows : List Row). slice_get rows (suc r.0)) (adds e es true its) ∙ r.1)
      more false its r = (r.0, ap (λ (rows : List Row). slice_get rows r.0) (adds e es false its) ∙ r.1)

      go : (b : Bool) → is_place (place_at t key) e.0 ≡ b → cond b (Some e.1) (at_place es (place_at t key)) ≡ Some row
          → (at_place es (place_at t key) ≡ Some row → (j : ℕ) × (slice_get (contents_of t es) j ≡ Some row))
          → (j : ℕ) × (slice_get (contents_of t (e ∷ es)) j ≡ Some row)
      go true same found rest =
          let its : (e.0.table == t) ≡ true = ap (λ (p : Place). p.table == t) (sym (one_place (place_at t key) e.0 same)) ∙ num_refl t in
          (0, ap (λ (rows : List Row). slice_get rows 0) (adds e es true its) ∙ found)
      go false same found rest = more (e.0.table == t) refl (rest found)

  -- rows of one key are one row of the table
  pub one_row : (es : State) (j k : ℕ) (row other : Row) → InOrder es → ((place : Place) (row : Row) → at_place es place ≡ Some row → key_of row ≡ place.key)
      → slice_get (contents_of t es) j ≡ Some row → slice_get (contents_of t es) k ≡ Some other → key_of row ≡ key_of other → j ≡ k
  one_row [] j k row other order keyed is also same = absurd (none-some row is)
  one_row (e ∷ es) j k row other order keyed is also same = go (e.0.table == t) refl
      (λ a b x y. one_row es a b row other order.1 (λ place r found. keyed place r (found_behind e es place r order found)) x y same)
    where
      -- No row behind the first entry has the entry's key.
      apart : (e.0.table == t) ≡ true → (i : ℕ) (r : Row) → slice_get (contents_of t es) i ≡ Some r → key_of r ≡ key_of e.1 → ⊥
      apart its i r there alike =
          let found = row_found es i r order.1 there in
          let key : found.0 ≡ e.0.key = sym (keyed (place_at t found.0) r (found_behind e es (place_at t found.0) r order found.1)) ∙ alike ∙ keyed e.0 e.1 (found_first e es) in
          none-some r (sym (ap (at_place es) (ap (place_at t) key ∙ its_place e its) ∙ none_below es e.0 e.0 (itself e.0) order.0) ∙ found.1)

      by : (e.0.table == t) ≡ true → (a b : ℕ) → slice_get (e.1 ∷ contents_of t es) a ≡ Some row → slice_get (e.1 ∷ contents_of t es) b ≡ Some other
          → ((a b : ℕ) → slice_get (contents_of t es) a ≡ Some row → slice_get (contents_of t es) b ≡ Some other → a ≡ b) → a ≡ b
      by its zero zero x y rest = refl
      by its zero (suc b) x y rest = let first : e.1 ≡ row = cc in absurd (apart its b other y (sym same ∙ ap key_of (sym first)))
      by its (suc a) zero x y rest = let first : e.1 ≡ other = cc in absurd (apart its a row x (same ∙ ap key_of (sym first)))
      by its (suc a) (suc b) x y rest = ap suc (rest a b x y)

      go : (b : Bool) → (e.0.table == t) ≡ b → ((a b : ℕ) → slice_get (contents_of t es) a ≡ Some row → slice_get (contents_of t es) b ≡ Some other → a ≡ b) → j ≡ k
      go true its rest =
          by its j k (subst (λ (rows : List Row). slice_get rows j ≡ Some row) (adds e es true its) is) (subst (λ (rows : List Row). slice_get rows k ≡ Some other) (adds e es true its) also) rest
      go false its rest =
          rest j k (subst (λ (rows : List Row). slice_get rows j ≡ Some row) (adds e es false its) is) (subst (λ (rows : List Row). slice_get rows k ≡ Some other) (adds e es false its) also)
