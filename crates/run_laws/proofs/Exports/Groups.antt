-- The rows that a transaction reads block by block are batches of what it sees.
use Rattle.std.proofs.Common.{◌≡◌, ℕ, zero, suc, ◌+◌, ◌<◌, ◌≤◌, ◌^◌, Bool, true, false, cond, List, [], ◌∷◌, ◌++◌, map, filter, Option, None, Some, length, refl, sym, ap, ◌∙◌, subst, arith}
use mathlib.Core.Logic.{inl, inr}
use Rattle.std.specs.Prelude.{All, IfSome, option_and_then}
use Rattle.std.specs.List.{cons_option, filter_map, flat_map, range_with_len}
use Rattle.std.specs.List.Sorted.{IsPermutation}
use Rattle.std.proofs.lemmas.List.Elements.{All-cons, All-nil}
use Rattle.block_layout.specs.Place.{place_of}
use Rattle.block_spec.specs.Slots.{Row, seen}
use Rattle.cell_model.specs.Rows.{Fits}
use Rattle.core_laws.proofs.Events.Fitting.{seen_fits, versions_fit}
use Rattle.core_laws.specs.Events.Named.{FollowsMachine}
use Rattle.event_spec.specs.declared.own.OwnTransaction.{OwnTransaction}
use Rattle.core_laws.proofs.Events.Lists.{member_below}
use Rattle.event_spec.specs.Lawful.{Among, HasBlock, OwnsAll}
use Rattle.event_spec.specs.Parts.{Parts, Shape, below, blocks_of, body_at, slot_at, slots_of}
use Rattle.event_spec.specs.Replay.{columns_in}
use Rattle.event_spec.specs.Replies.{is_elsewhere, row_read, rows_read}
use Rattle.event_spec.specs.Sound.{IsShape, Sound}
use Rattle.export_spec.specs.Sent.{AreBatchesOf}
use Rattle.isolation_laws.specs.Inserts.{all_rows}
use Rattle.isolation_spec.specs.Contents.{at_place, contents_of, key_of, place_at, state_at}
use Rattle.isolation_spec.specs.Machine.{IsolationMachine, Transaction, transaction_of}
use Rattle.isolation_spec.specs.Contents.{least_key}
use Rattle.run_spec.specs.Told.{is_some_row}
use Rattle.store_laws.proofs.Permuted.{ordered_rows_are_the_rows}
use Rattle.store_laws.proofs.Scans.{reads_are_the_scan, within}
use Rattle.stream_laws.specs.Laws.{IsBatch}
use Rattle.isolation_laws.proofs.States.{state-order}
use Rattle.run_laws.proofs.Exports.Clean.{contents_stay}

-- ---- groups that have a row

-- they have all rows
pub rows_kept : (groups : List (List Row)) → all_rows (filter is_some_row groups) ≡ all_rows groups
rows_kept [] = refl
rows_kept ([] ∷ groups) = rows_kept groups
rows_kept ((row ∷ rows) ∷ groups) = ap (λ others. (row ∷ rows) ++ others) (rows_kept groups)

-- a fact of each group is one of each that has a row
each_kept : (P : List Row → Type 0) (rows_in : ℕ → List Row) (blocks : List ℕ)
    → ((block : ℕ) → Among block blocks → is_some_row (rows_in block) ≡ true → P (rows_in block)) → All P (filter is_some_row (map rows_in blocks))
each_kept P rows_in [] each = All-nil P
each_kept P rows_in (block ∷ blocks) each = go (is_some_row (rows_in block)) (each block (inl refl)) (each_kept P rows_in blocks (λ other a. each other (inr a)))
  where
    go : (b : Bool) → (b ≡ true → P (rows_in block)) → All P (filter is_some_row (map rows_in blocks))
        → All P (cond b (rows_in block ∷ filter is_some_row (map rows_in blocks)) (filter is_some_row (map rows_in blocks)))
    go true here rest = All-cons P (rows_in block) (filter is_some_row (map rows_in blocks)) (here refl) rest
    go false here rest = rest

-- A group that has some row is longer than zero.
some_long : (rows : List Row) → is_some_row rows ≡ true → 0 < length rows
some_long [] is = absurd (let never : ⊥ = cc is in never)
some_long (row ∷ rows) is = omega arith

-- the rows of all groups are those of each, one group behind the other
pub rows_together : {X : Type 0} (rows_in : X → List Row) (xs : List X) → all_rows (map rows_in xs) ≡ flat_map rows_in xs
rows_together rows_in [] = refl
rows_together rows_in (x ∷ xs) = ap (λ rows. rows_in x ++ rows) (rows_together rows_in xs)

-- ---- the rows of a block

module _ (sh : Shape) (s : Parts) (own : OwnTransaction) (t : ℕ) (ok : Sound sh s) where
  -- a row that is read fits the table
  row_fits : (place : ℕ) → IfSome (row_read sh s own t place) (Fits (columns_in sh t))
  row_fits place = go (seen (slot_at sh s t place) own.snapshot.stamp own.session)
      (seen_fits (columns_in sh t) (slot_at sh s t place).row (slot_at sh s t place).entries own.snapshot.stamp own.session (versions_fit sh s ok t place))
    where
      kept : (b : Bool) (row : Row) → Fits (columns_in sh t) row → IfSome (cond b None (Some row)) (Fits (columns_in sh t))
      kept true row fit = tt
      kept false row fit = fit

      go : (o : Option Row) → IfSome o (Fits (columns_in sh t))
          → IfSome (option_and_then (λ row. cond (is_elsewhere (at_place own.writes (place_at t (key_of row))) place) None (Some row)) o) (Fits (columns_in sh t))
      go None fit = tt
      go (Some row) fit = kept (is_elsewhere (at_place own.writes (place_at t (key_of row))) place) row fit

  -- All rows that are read in a block fit the table's columns.
  rows_fit : (block : ℕ) → All (Fits (columns_in sh t)) (rows_read sh s own t block)
  rows_fit block = go 0 (length (body_at sh s t block).slots)
    where
      go : (a n : ℕ) → All (Fits (columns_in sh t)) (filter_map (λ slot. row_read sh s own t (place_of block slot)) (range_with_len a n))
      go a zero = All-nil (Fits (columns_in sh t))
      go a (suc n) = one (row_read sh s own t (place_of block a)) (row_fits (place_of block a)) (go (a + 1) n)
        where
          one : (o : Option Row) → IfSome o (Fits (columns_in sh t)) → All (Fits (columns_in sh t)) (filter_map (λ slot. row_read sh s own t (place_of block slot)) (range_with_len (a + 1) n))
              → All (Fits (columns_in sh t)) (cons_option o (filter_map (λ slot. row_read sh s own t (place_of block slot)) (range_with_len (a + 1) n)))
          one None fit rest = rest
          one (Some row) fit rest = All-cons (Fits (columns_in sh t)) row (filter_map (λ slot. row_read sh s own t (place_of block slot)) (range_with_len (a + 1) n)) fit rest

  -- they are no more than its slots
  rows_few : (block : ℕ) → length (rows_read sh s own t block) ≤ length (body_at sh s t block).slots
  rows_few block = go 0 (length (body_at sh s t block).slots)
    where
      go : (a n : ℕ) → length (filter_map (λ slot. row_read sh s own t (place_of block slot)) (range_with_len a n)) ≤ n
      go a zero = omega arith
      go a (suc n) = one (row_read sh s own t (place_of block a)) (go (a + 1) n)
        where
          one : (o : Option Row) → length (filter_map (λ slot. row_read sh s own t (place_of block slot)) (range_with_len (a + 1) n)) ≤ n
              → length (cons_option o (filter_map (λ slot. row_read sh s own t (place_of block slot)) (range_with_len (a + 1) n))) ≤ suc n
          one None h = omega (arith, h)
          one (Some row) h = omega (arith, h)

-- ---- all blocks

-- the rows that a transaction reads in each block of a table, but for blocks without one
abbrev pub groups_read : Shape → Parts → OwnTransaction → ℕ → List (List Row)
groups_read sh s own t = filter is_some_row (map (rows_read sh s own t) (below (blocks_of sh t)))

module _ (sh : Shape) (s : Parts) (own : OwnTransaction) (t : ℕ) (m : IsolationMachine) (open' : Transaction)
    (shape : IsShape sh) (ok : Sound sh s) (owns : OwnsAll sh own s) (f : FollowsMachine sh s m)
    (is_open : transaction_of own.session m ≡ Some open') where
  -- A number among the table's first block numbers is that of a block of it.
  has : (block : ℕ) → Among block (below (blocks_of sh t)) → HasBlock sh t block
  has block a = let less = member_below 0 (blocks_of sh t) block a in within sh t block (omega (arith, less))

  -- The rows that are read in a block are no more than a block has slots.
  few : (block : ℕ) → Among block (below (blocks_of sh t)) → length (rows_read sh s own t block) ≤ slots_of sh t
  few block a = let most = rows_few sh s own t ok block in let count = (ok.bodies t block (has block a)).slots in omega (arith, most, count)

  -- They are batches of the table at the snapshot of a transaction that did not write it.
  pub groups_are : least_key t open'.own ≡ None → AreBatchesOf (slots_of sh t) (contents_of t (state_at m.history open'.snapshot)) (groups_read sh s own t)
  groups_are clean =
      let law = reads_are_the_scan sh s own t m open' shape ok owns f is_open in
      let rows : List Row = flat_map (rows_read sh s own t) (below (blocks_of sh t)) in
      let stay = contents_stay t open'.own (state_at m.history open'.snapshot) (state-order m.history open'.snapshot f.follows.desked.history_order)
      (f.follows.desked.own_order own.session open' is_open) clean in
      let moved = ordered_rows_are_the_rows t rows (law.count ∙ ap (λ (rows : List Row). length rows) (sym law.rows)) in
      record {
        filled = each_kept (λ group. 0 < length group) (rows_read sh s own t) (below (blocks_of sh t)) (λ block a. some_long (rows_read sh s own t block));
        within = each_kept (λ group. length group ≤ slots_of sh t) (rows_read sh s own t) (below (blocks_of sh t)) (λ block a is. few block a);
        each_once = subst (λ xs. IsPermutation xs (contents_of t (state_at m.history open'.snapshot)))
            (sym (rows_kept (map (rows_read sh s own t) (below (blocks_of sh t))) ∙ rows_together (rows_read sh s own t) (below (blocks_of sh t))))
            (subst (IsPermutation rows) (law.rows ∙ stay) moved);
      }

  -- each of them is one that a stream can have
  pub groups_fit : slots_of sh t ≤ 2 ^ 15 → All (IsBatch (columns_in sh t)) (groups_read sh s own t)
  groups_fit slots = each_kept (IsBatch (columns_in sh t)) (rows_read sh s own t) (below (blocks_of sh t))
      (λ block a is. record { fit = rows_fit sh s own t ok block; few = let most = few block a in omega (arith, most, slots) })
