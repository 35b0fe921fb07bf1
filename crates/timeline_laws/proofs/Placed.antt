-- Rows of a state stand at their own places, in order, and fit their tables.
use Rattle.std.proofs.Common.{◌≡◌, ℕ, zero, suc, Bool, true, false, cond, List, [], ◌∷◌, ◌++◌, Option, None, Some, ℤ, refl, sym, ap, ◌∙◌, subst}
use Rattle.std.specs.Prelude.{◌==◌, All, IfSome, IsSomeAnd, fold, int_lt, is_none, slice_get, take}
use Rattle.std.specs.BTreeMap.{insert_entry}
use Rattle.std.specs.Cmp.{nat_cmp_total, tied_itself}
use Rattle.std.specs.FinMap.{nat_cmp-IsAntisymmetric, int_cmp-IsAntisymmetric}
use Rattle.std.specs.Map.{remove_entry}
use Rattle.std.specs.List.{cons_option}
use Rattle.std.specs.Option.{option_map_or}
use Rattle.std.specs.Ordering.{int_cmp, nat_cmp, match_ordering, ordering_then, ordering_reverse}
use Rattle.std.specs.declared.cmp.Ordering.{Ordering}
use Rattle.std.specs.declared.cmp.Ordering.TheVariants.{Less, Equal, Greater}
use Rattle.std.proofs.lemmas.Bool.{eqb-true, and_parts}
use Rattle.std.proofs.lemmas.List.Elements.{All-head, All-tail}
use Rattle.cell_model.specs.declared.cell.Cell.{Cell}
use Rattle.cell_model.specs.declared.table.TableDecl.{TableDecl}
use Rattle.cell_model.specs.Rows.{fits}
use Rattle.isolation_spec.specs.Commits.{AreCommitsOf, FitsPlace, IsCommitOf, IsWriteOf}
use Rattle.isolation_spec.specs.Contents.{place_cmp, is_place, at_place, State, WriteSet, History, with_write, laid_over, state_at, contents_of, contents_between, is_in_range, key_of}
use Rattle.isolation_spec.specs.declared.place.Place.{Place}
use Rattle.cell_model.specs.Values.{is_between}
use Rattle.isolation_laws.proofs.Maps.{chosen}
use Rattle.isolation_laws.proofs.Rows.{place_cmp-total}
use Rattle.outcome_spec.specs.Tables.{columns_at}
use Rattle.timeline_laws.proofs.Writers.{is-equal}
use Rattle.timeline_laws.proofs.Stated.{RowsRise}

-- ---- places

-- Where two comparisons one behind the other give equal, each of them does.
then-equal : (a b : Ordering) → ordering_then a b ≡ Equal → (a ≡ Equal) × (b ≡ Equal)
then-equal Less b h = absurd (let never : ⊥ = cc in never)
then-equal Equal b h = (refl, h)
then-equal Greater b h = absurd (let never : ⊥ = cc in never)

-- places that compare as one are one
pub one-place : (a b : Place) → place_cmp a b ≡ Equal → a ≡ b
one-place a b h =
    let parts = then-equal (nat_cmp a.table b.table) (int_cmp a.key b.key) h in
    let table : a.table ≡ b.table = nat_cmp-IsAntisymmetric a.table b.table parts.0 in
    let key : a.key ≡ b.key = int_cmp-IsAntisymmetric a.key b.key parts.1 in
    ap (λ (t : ℕ). record a { table = t }) table ∙ ap (λ (k : ℤ). record b { key = k }) key

-- Where a comparison by two tests is less, its first test holds.
int-less : (a b : Bool) → cond a Less (cond b Greater Equal) ≡ Less → a ≡ true
int-less true b h = refl
int-less false true h = absurd (let never : ⊥ = cc in never)
int-less false false h = absurd (let never : ⊥ = cc in never)

-- of two places of one table the lesser has the lesser key
key-less : (a b : Place) → a.table ≡ b.table → place_cmp a b ≡ Less → int_lt a.key b.key ≡ true
key-less a b same h =
    let tied : nat_cmp a.table b.table ≡ Equal = ap (nat_cmp a.table) (sym same) ∙ tied_itself nat_cmp_total a.table in
    let keys : int_cmp a.key b.key ≡ Less = sym (ap (λ (o : Ordering). ordering_then o (int_cmp a.key b.key)) tied) ∙ h in
    int-less (int_lt a.key b.key) (int_lt b.key a.key) keys

-- ---- states

module _ (tables : List TableDecl) where
  -- the row fits its table and has the key of its place
  pub record IsAt (place : Place) (row : List Cell) : Type 0 where
    pub fit : fits (columns_at tables place.table) row ≡ true
    pub key : key_of row ≡ place.key

  -- the place is below those of the entries
  abbrev pub Above : Place → State → Type 0
  Above place [] = Unit {0}
  Above place (entry ∷ entries) = (place_cmp place entry.0 ≡ Less) × Above place entries

  -- Each row is at its place, and the places go up.
  abbrev pub Placed : State → Type 0
  Placed [] = Unit {0}
  Placed (entry ∷ entries) = IsAt entry.0 entry.1 × Above entry.0 entries × Placed entries

  -- A place below one that is below the entries is below them, too.
  above-less : (low high : Place) (entries : State) → place_cmp low high ≡ Less → Above high entries → Above low entries
  above-less low high [] less h = tt
  above-less low high (entry ∷ entries) less h = (place_cmp-total.trans low high entry.0 less h.0, above-less low high entries less h.1)

  -- An insertion above a place keeps all entries above it.
  insert-above : (low place : Place) (row : List Cell) (entries : State) → place_cmp low place ≡ Less → Above low entries → Above low (insert_entry place_cmp entries place row)
  insert-above low place row [] less h = (less, tt)
  insert-above low place row (entry ∷ entries) less h = by (insert-above low place row entries less h.1) (place_cmp place entry.0)
    where
      by : Above low (insert_entry place_cmp entries place row) → (answer : Ordering) → Above low (match_ordering answer ((place, row) ∷ entry ∷ entries) ((entry.0, row) ∷ entries) (entry ∷ insert_entry place_cmp entries place row))
      by again Less = (less, h)
      by again Equal = h
      by again Greater = (h.0, again)

  -- Where one place is greater than another, the other is less.
  turned : (a b : Place) → place_cmp a b ≡ Greater → place_cmp b a ≡ Less
  turned a b h = place_cmp-total.antisymm b a ∙ ap ordering_reverse h

  -- With a row inserted at its own place each row is at its place still, and the places go up.
  insert-placed : (place : Place) (row : List Cell) (entries : State) → IsAt place row → Placed entries → Placed (insert_entry place_cmp entries place row)
  insert-placed place row [] at h = (at, tt, tt)
  insert-placed place row (entry ∷ entries) at h = by (insert-placed place row entries at h.2) (place_cmp place entry.0) refl
    where
      by : Placed (insert_entry place_cmp entries place row) → (answer : Ordering) → place_cmp place entry.0 ≡ answer → Placed (match_ordering answer ((place, row) ∷ entry ∷ entries) ((entry.0, row) ∷ entries) (entry ∷ insert_entry place_cmp entries place row))
      by again Less is = (at, (is, above-less place entry.0 entries is h.1), h)
      by again Equal is = (subst (λ (p : Place). IsAt p row) (one-place place entry.0 is) at, h.1, h.2)
      by again Greater is = (h.0, insert-above entry.0 place row entries (turned place entry.0 is) h.1, again)

  -- A place below the entries is below those left without one.
  remove-above : (low : Place) (test : Place → Bool) (entries : State) → Above low entries → Above low (remove_entry test entries)
  remove-above low test [] h = tt
  remove-above low test (entry ∷ entries) h = by (remove-above low test entries h.1) (test entry.0)
    where
      by : Above low (remove_entry test entries) → (gone : Bool) → Above low (cond gone entries (entry ∷ remove_entry test entries))
      by again true = h.1
      by again false = (h.0, again)

  -- Placed rows are placed still without one of them.
  remove-placed : (test : Place → Bool) (entries : State) → Placed entries → Placed (remove_entry test entries)
  remove-placed test [] h = tt
  remove-placed test (entry ∷ entries) h = by (remove-placed test entries h.2) (test entry.0)
    where
      by : Placed (remove_entry test entries) → (gone : Bool) → Placed (cond gone entries (entry ∷ remove_entry test entries))
      by again true = h.2
      by again false = (h.0, remove-above entry.0 test entries h.1, again)

  -- what is written at a place may stand there
  abbrev pub MayBeWritten : Place → Option (List Cell) → Type 0
  MayBeWritten place None = Unit {0}
  MayBeWritten place (Some row) = IsAt place row

  -- what each write writes may stand at its place
  abbrev pub Written : WriteSet → Type 0
  Written [] = Unit {0}
  Written (write ∷ writes) = MayBeWritten write.0 write.1 × Written writes

  -- A write that may stand at its place leaves placed rows placed.
  with-placed : (rows : State) (place : Place) (change : Option (List Cell)) → MayBeWritten place change → Placed rows → Placed (with_write rows place change)
  with-placed rows place None may h = remove-placed (is_place place) rows h
  with-placed rows place (Some row) may h = insert-placed place row rows may h

  -- placed rows with such writes laid over them are placed
  pub laid-placed : (rows : State) (writes : WriteSet) → Written writes → Placed rows → Placed (laid_over rows writes)
  laid-placed rows [] may h = h
  laid-placed rows (write ∷ writes) may h = laid-placed (with_write rows write.0 write.1) writes may.1 (with-placed rows write.0 write.1 may.0 h)

  -- each write set of the history
  abbrev pub AllWritten : History → Type 0
  AllWritten [] = Unit {0}
  AllWritten (writes ∷ history) = Written writes × AllWritten history

  -- two histories of such writes in a row are one
  pub all-append : (a b : History) → AllWritten a → AllWritten b → AllWritten (a ++ b)
  all-append [] b h k = k
  all-append (writes ∷ a) b h k = (h.0, all-append a b h.1 k)

  -- Where all write sets of a history may stand, the first ones may.
  all-first : (n : ℕ) (history : History) → AllWritten history → AllWritten (take n history)
  all-first zero history h = tt
  all-first (suc n) [] h = tt
  all-first (suc n) (writes ∷ history) h = (h.0, all-first n history h.1)

  -- Placed rows with a history of such writes laid over them are placed.
  laid-all : (rows : State) (history : History) → Placed rows → AllWritten history → Placed (fold laid_over rows history)
  laid-all rows [] h k = h
  laid-all rows (writes ∷ history) h k = laid-all (laid_over rows writes) history (laid-placed rows writes k.0 h) k.1

  -- The rows after some commits are placed.
  pub state-placed : (history : History) (n : ℕ) → AllWritten history → Placed (state_at history n)
  state-placed history n h = laid-all [] (take n history) tt (all-first n history h)

  -- ---- commits of the tables

  -- What a write of the tables writes may stand at its place.
  write-may : (write : Place × Option (List Cell)) → IsWriteOf tables write → MayBeWritten write.0 write.1
  write-may write h = by write.1 (slice_get tables write.0.table) refl h.row
    where
      by : (change : Option (List Cell)) (found : Option TableDecl) → slice_get tables write.0.table ≡ found
          → IsSomeAnd found (λ table. IfSome change (FitsPlace table.schema write.0)) → MayBeWritten write.0 change
      by None found is fit = tt
      by (Some row) None is fit = absurd fit
      by (Some row) (Some decl) is fit = record {
        fit = ap (λ (o : Option TableDecl). fits (option_map_or (λ (table : TableDecl). table.schema) o []) row) is ∙ ap is_none fit.cells;
        key = fit.key;
      }

  -- So may what all writes of a commit of the tables write.
  writes-may : (writes : WriteSet) → All (IsWriteOf tables) writes → Written writes
  writes-may [] h = tt
  writes-may (write ∷ writes) h = (
    write-may write (All-head (IsWriteOf tables) write writes h),
    writes-may writes (All-tail (IsWriteOf tables) write writes h),
  )

  -- What commits of the tables write may stand at its places.
  pub commits-written : (commits : History) → AreCommitsOf tables commits → AllWritten commits
  commits-written [] h = tt
  commits-written (writes ∷ commits) h = (
    writes-may writes (All-head (IsCommitOf tables) writes commits h).each,
    commits-written commits (All-tail (IsCommitOf tables) writes commits h),
  )

  -- one more write
  pub insert-written : (place : Place) (change : Option (List Cell)) (own : WriteSet) → MayBeWritten place change → Written own → Written (insert_entry place_cmp own place change)
  insert-written place change [] may h = (may, tt)
  insert-written place change (write ∷ own) may h = by (insert-written place change own may h.1) (place_cmp place write.0) refl
    where
      by : Written (insert_entry place_cmp own place change) → (answer : Ordering) → place_cmp place write.0 ≡ answer → Written (match_ordering answer ((place, change) ∷ write ∷ own) ((write.0, change) ∷ own) (write ∷ insert_entry place_cmp own place change))
      by again Less is = (may, h)
      by again Equal is = (subst (λ (p : Place). MayBeWritten p change) (one-place place write.0 is) may, h.1)
      by again Greater is = (h.0, again)

  -- ---- what is found and listed

  -- A row found at the first entry or behind it may stand at its place.
  found-step : (place : Place) (entry : Place × List Cell) (later : Option (List Cell)) (row : List Cell) (b : Bool) → is_place place entry.0 ≡ b → IsAt entry.0 entry.1
      → (later ≡ Some row → IsAt place row) → cond b (Some entry.1) later ≡ Some row → IsAt place row
  found-step place entry later row true is at rest h =
      let its : entry.1 ≡ row = cc in
      let here : place ≡ entry.0 = one-place place entry.0 (is-equal (place_cmp place entry.0) is) in
      subst (λ (p : Place). IsAt p row) (sym here) (subst (IsAt entry.0) its at)
  found-step place entry later row false is at rest h = rest h

  -- A row that is found at a place may stand there.
  pub found-at : (place : Place) (rows : State) (row : List Cell) → Placed rows → at_place rows place ≡ Some row → IsAt place row
  found-at place [] row h is = absurd (let never : ⊥ = cc in never)
  found-at place (entry ∷ rows) row h is = found-step place entry (at_place rows place) row (is_place place entry.0) refl h.0 (found-at place rows row h.2) is

  -- the places are above this one, if there is one, which is of the table
  abbrev AboveAll : ℕ → Option Place → State → Type 0
  AboveAll table None rows = Unit {0}
  AboveAll table (Some place) rows = (place.table ≡ table) × Above place rows

  -- The key of the place below, if there is one.
  abbrev key_below : Option Place → Option ℤ
  key_below None = None
  key_below (Some place) = Some place.key

  -- Rows above a place are above it still without the first.
  above-rest : (table : ℕ) (below : Option Place) (entry : Place × List Cell) (rows : State) → AboveAll table below (entry ∷ rows) → AboveAll table below rows
  above-rest table None entry rows h = tt
  above-rest table (Some place) entry rows h = (h.0, h.1.1)

  -- The key of the first row is above that of the place below.
  above-key : (table : ℕ) (below : Option Place) (entry : Place × List Cell) (rows : State) → entry.0.table ≡ table → key_of entry.1 ≡ entry.0.key → AboveAll table below (entry ∷ rows)
      → option_map_or (λ key. int_lt key (key_of entry.1)) (key_below below) true ≡ true
  above-key table None entry rows is key h = refl
  above-key table (Some place) entry rows is key h =
      ap (int_lt place.key) key ∙ key-less place entry.0 (h.0 ∙ sym is) h.1.0

  module _ (table : ℕ) (test : Place → Bool) (of : (place : Place) → test place ≡ true → place.table ≡ table) where
    -- One more row, chosen or not, keeps that the chosen rows rise.
    chosen-step : (below : Option Place) (entry : Place × List Cell) (rows : State) (b : Bool) → test entry.0 ≡ b → Placed (entry ∷ rows) → AboveAll table below (entry ∷ rows)
        → ((low : Option Place) → AboveAll table low rows → RowsRise (columns_at tables table) (key_below low) (chosen test rows))
        → RowsRise (columns_at tables table) (key_below below) (cons_option (cond b (Some entry.1) None) (chosen test rows))
    chosen-step below entry rows true is h above rest =
        let its : entry.0.table ≡ table = of entry.0 is in (
          subst (λ (t : ℕ). fits (columns_at tables t) entry.1 ≡ true) its h.0.fit,
          above-key table below entry rows its h.0.key above,
          subst (λ (k : ℤ). RowsRise (columns_at tables table) (Some k) (chosen test rows)) (sym h.0.key) (rest (Some entry.0) (its, h.1)),
        )
    chosen-step below entry rows false is h above rest = rest below (above-rest table below entry rows above)

    -- The chosen rows rise above the key of a place below all of them.
    chosen-above : (rows : State) → Placed rows → (below : Option Place) → AboveAll table below rows → RowsRise (columns_at tables table) (key_below below) (chosen test rows)
    chosen-above [] h below above = tt
    chosen-above (entry ∷ rows) h below above = chosen-step below entry rows (test entry.0) refl h above (chosen-above rows h.2)

  -- The contents of a table are rows of it, with keys that rise.
  pub contents-rise : (table : ℕ) (rows : State) → Placed rows → RowsRise (columns_at tables table) None (contents_of table rows)
  contents-rise table rows h = chosen-above table (λ place. place.table == table) (λ place is. eqb-true place.table table is) rows h None tt

  -- So are those between two keys.
  pub between-rise : (table : ℕ) (low high : ℤ) (rows : State) → Placed rows → RowsRise (columns_at tables table) None (contents_between table low high rows)
  between-rise table low high rows h =
      chosen-above table (is_in_range table low high)
      (λ place is. eqb-true place.table table (and_parts (place.table == table) (is_between low high place.key) is).0) rows h None tt
