-- What a read of a block tells: its rows fit the table, and are no more than the block's slots.
use Rattle.std.proofs.Common.{◌≡◌, ◌⊎◌, ℕ, ℤ, ◌≤◌, Bool, true, false, cond, List, [], ◌∷◌, ◌++◌, Option, None, Some, length, option_and_then, sym, ap, subst, ◌∙◌, arith}
use Rattle.std.proofs.lemmas.List.{map-append}
use mathlib.Core.Logic.{inl, inr}
use Rattle.std.specs.Prelude.{All, IfSome, filter_map, fold}
use Rattle.std.specs.List.{cons_option}
use Rattle.std.specs.Option.{option_or}
use Rattle.std.proofs.lemmas.List.Elements.{All-cons, All-head, All-nil, All-tail}
use Rattle.std.proofs.lemmas.List.FromFn.{length-range_with_len}
use Rattle.block_layout.specs.Place.{place_of}
use Rattle.block_spec.specs.Bodies.{is_imaged, rows_of}
use Rattle.block_spec.specs.Slots.{Row, Slot, seen as seen_in}
use Rattle.cell_model.specs.declared.column.Column.{Column}
use Rattle.cell_model.specs.Rows.{Fits}
use Rattle.core_laws.proofs.Events.Fitting.{current_fits, seen_fits, versions_fit}
use Rattle.event_spec.specs.declared.own.OwnTransaction.{OwnTransaction}
use Rattle.event_spec.specs.declared.reply.Reply.TheVariants as reply
use Rattle.event_spec.specs.declared.own.OwnKey.{OwnKey}
use Rattle.event_spec.specs.Effects.{found, range_found, range_keys}
use Rattle.event_spec.specs.Judged.{first_at, found_at, own_key}
use Rattle.event_spec.specs.Lawful.{HasBlock}
use Rattle.event_spec.specs.Parts.{Parts, Shape, below, body_at, places_at, slot_at, slots_of}
use Rattle.event_spec.specs.Replay.{IsLawfulFrom, IsLawfulLog, Made, after, columns_in, opening}
use Rattle.event_spec.specs.Replies.{CoreReply, is_elsewhere, reply_to_read, row_read, rows_read}
use Rattle.event_spec.specs.SlotSound.{VersionsFit}
use Rattle.event_spec.specs.Sound.{Sound}
use Rattle.core_laws.proofs.Frames.Reached.{core_kept}
use Rattle.core_laws.specs.Frames.Shards.{CoreHolds}
use Rattle.isolation_spec.specs.Contents.{at_place, key_of, place_at}
use Rattle.run_spec.specs.Occurrences.{Logged}
use Rattle.run_spec.specs.Told.{rows_told}
use Rattle.store_laws.specs.Logs.{made_in}
use Rattle.store_laws.specs.Own.{parts_after}

-- ---- rows that are kept

-- What all results that are kept should have, the kept ones have.
kept_fit : {X : Type 0} (f : X → Option Row) (P : Row → Type 0) (xs : List X) → All (λ x. IfSome (f x) P) xs → All P (filter_map f xs)
kept_fit f P [] all = All-nil P
kept_fit f P (x ∷ xs) all = go (f x) (All-head (λ x. IfSome (f x) P) x xs all) (kept_fit f P xs (All-tail (λ x. IfSome (f x) P) x xs all))
  where
    go : (o : Option Row) → IfSome o P → All P (filter_map f xs) → All P (cons_option o (filter_map f xs))
    go None fits rest = rest
    go (Some row) fits rest = All-cons P row (filter_map f xs) fits rest

-- No more results are kept than there are elements.
kept_few : {X : Type 0} (f : X → Option Row) (xs : List X) → length (filter_map f xs) ≤ length xs
kept_few f [] = omega arith
kept_few f (x ∷ xs) = go (f x) (kept_few f xs)
  where
    go : (o : Option Row) → length (filter_map f xs) ≤ length xs → length (cons_option o (filter_map f xs)) ≤ length (x ∷ xs)
    go None few = omega (arith, few)
    go (Some row) few = omega (arith, few)

-- What every element has, all of a list have.
all_of : {X : Type 0} (P : X → Type 0) → ((x : X) → P x) → (xs : List X) → All P xs
all_of P each [] = All-nil P
all_of P each (x ∷ xs) = All-cons P x xs (each x) (all_of P each xs)

-- What follows from what all of a list have, all of it have.
all_so : {X : Type 0} (P Q : X → Type 0) → ((x : X) → P x → Q x) → (xs : List X) → All P xs → All Q xs
all_so P Q each [] all = All-nil Q
all_so P Q each (x ∷ xs) all = All-cons Q x xs (each x (All-head P x xs all)) (all_so P Q each xs (All-tail P x xs all))

-- ---- a block

module _ (sh : Shape) (s : Parts) (ok : Sound sh s) (own : OwnTransaction) (t b : ℕ) where
  -- The columns of the table that is read.
  abbrev columns : List Column
  columns = columns_in sh t

  -- The row that is read at a place, if there is one, fits the table's columns.
  row_fits : (place : ℕ) → IfSome (row_read sh s own t place) (Fits columns)
  row_fits place = go
      (seen_in (slot_at sh s t place) own.snapshot.stamp own.session)
      (seen_fits columns (slot_at sh s t place).row (slot_at sh s t place).entries own.snapshot.stamp own.session (versions_fit sh s ok t place))
    where
      two : (elsewhere : Bool) (row : Row) → Fits columns row → IfSome (cond elsewhere None (Some row)) (Fits columns)
      two true row fits = tt
      two false row fits = fits

      go : (o : Option Row) → IfSome o (Fits columns)
          → IfSome (option_and_then (λ row. cond (is_elsewhere (at_place own.writes (place_at t (key_of row))) place) None (Some row)) o) (Fits columns)
      go None fits = tt
      go (Some row) fits = two (is_elsewhere (at_place own.writes (place_at t (key_of row))) place) row fits

  -- the rows that a read of a block tells fit the table's columns
  pub block_fits : HasBlock sh t b → All (Fits columns) (rows_told (reply_to_read sh s own t b))
  block_fits has = go (is_imaged (body_at sh s t b).phase)
    where
      image : All (Fits columns) (rows_of (body_at sh s t b))
      image = kept_fit (λ slot. slot.row) (Fits columns) (body_at sh s t b).slots
          (all_so (λ (slot : Slot). VersionsFit columns slot.row slot.entries) (λ (slot : Slot). IfSome slot.row (Fits columns))
          (λ slot fits. current_fits columns slot.row slot.entries fits) (body_at sh s t b).slots (ok.bodies t b has).versions)

      rows : All (Fits columns) (rows_read sh s own t b)
      rows = kept_fit (λ slot. row_read sh s own t (place_of b slot)) (Fits columns) (below (length (body_at sh s t b).slots))
          (all_of (λ slot. IfSome (row_read sh s own t (place_of b slot)) (Fits columns)) (λ slot. row_fits (place_of b slot)) (below (length (body_at sh s t b).slots)))

      go : (imaged : Bool) → All (Fits columns) (rows_told (cond imaged (reply.Shared (rows_of (body_at sh s t b))) (reply.Rows (rows_read sh s own t b))))
      go true = image
      go false = rows

  -- a read of a block tells no more rows than the block has slots
  pub block_few : HasBlock sh t b → length (rows_told (reply_to_read sh s own t b)) ≤ slots_of sh t
  block_few has = go (is_imaged (body_at sh s t b).phase)
    where
      slots : length (body_at sh s t b).slots ≡ slots_of sh t
      slots = (ok.bodies t b has).slots

      image : length (rows_of (body_at sh s t b)) ≤ slots_of sh t
      image = let few = kept_few (λ (slot : Slot). slot.row) (body_at sh s t b).slots in omega (arith, few, slots)

      rows : length (rows_read sh s own t b) ≤ slots_of sh t
      rows =
          let few = kept_few (λ slot. row_read sh s own t (place_of b slot)) (below (length (body_at sh s t b).slots)) in
          let many : length (below (length (body_at sh s t b).slots)) ≡ length (body_at sh s t b).slots = length-range_with_len 0 (length (body_at sh s t b).slots) in
          omega (arith, few, many, slots)

      go : (imaged : Bool) → length (rows_told (cond imaged (reply.Shared (rows_of (body_at sh s t b))) (reply.Rows (rows_read sh s own t b)))) ≤ slots_of sh t
      go true = image
      go false = rows

-- ---- a range

module _ (sh : Shape) (s : Parts) (ok : Sound sh s) (t : ℕ) where
  -- The row that is found at a key, if there is one, fits the table's columns.
  key_fits : (own : OwnKey) (key : ℤ) → IfSome (found sh s own t key) (Fits (columns_in sh t))
  key_fits own key = written own.written
    where
      at : (p : ℕ) → IfSome (seen_in (slot_at sh s t p) own.snapshot.stamp own.session) (Fits (columns_in sh t))
      at p = seen_fits (columns_in sh t) (slot_at sh s t p).row (slot_at sh s t p).entries own.snapshot.stamp own.session (versions_fit sh s ok t p)

      or_fits : (o rest : Option Row) → IfSome o (Fits (columns_in sh t)) → IfSome rest (Fits (columns_in sh t)) → IfSome (option_or o rest) (Fits (columns_in sh t))
      or_fits None rest one more = more
      or_fits (Some row) rest one more = one

      first : (places : List ℕ) → IfSome (first_at (λ p. seen_in (slot_at sh s t p) own.snapshot.stamp own.session) places) (Fits (columns_in sh t))
      first [] = tt
      first (p ∷ ps) = or_fits (seen_in (slot_at sh s t p) own.snapshot.stamp own.session) (first_at (λ p. seen_in (slot_at sh s t p) own.snapshot.stamp own.session) ps) (at p) (first ps)

      written : (o : Option ℕ) → IfSome (found_at (slot_at sh s t) (places_at sh s t key) own o) (Fits (columns_in sh t))
      written (Some p) = at p
      written None = first (places_at sh s t key)

  -- So do the rows that a range tells.
  pub range_fits : (own : OwnTransaction) (low high : ℤ) → All (Fits (columns_in sh t)) (range_found sh s own t low high)
  range_fits own low high = kept_fit (λ key. found sh s (own_key t key own) t key) (Fits (columns_in sh t)) (range_keys sh s t low high)
      (all_of (λ key. IfSome (found sh s (own_key t key own) t key) (Fits (columns_in sh t))) (λ key. key_fits (own_key t key own) key) (range_keys sh s t low high))

-- ---- the core that a front of a lawful log leaves

-- The core that a front of a lawful log leaves holds, where the core before it does.
holds_front : (sh : Shape) (s : Parts) (front more : List Made) → CoreHolds sh s → IsLawfulFrom sh s (front ++ more) → CoreHolds sh (fold (after sh) s front)
holds_front sh s [] more holds lawful = holds
holds_front sh s (made ∷ front) more holds lawful = holds_front sh (after sh s made) front more (kept made.refused) lawful.2
  where
    kept : (refused : Bool) → CoreHolds sh (cond refused s (Rattle.event_spec.specs.Effects.effect sh s made.event))
    kept true = holds
    kept false = core_kept sh made.event s holds lawful.0

-- in front of the last entry of a lawful log, what is asked of a core holds
pub holds_before : (sh : Shape) (before : List Logged) (entry : Logged) (log : List Logged) → CoreHolds sh (opening sh) → log ≡ before ++ entry ∷ [] → IsLawfulLog sh (made_in log)
    → CoreHolds sh (parts_after sh before)
holds_before sh before entry log first is lawful = holds_front sh (opening sh) (made_in before) (entry.made ∷ []) first
    (subst (IsLawfulLog sh) (ap made_in is ∙ map-append (λ (e : Logged). e.made) before (entry ∷ [])) lawful)

-- ---- a read

-- what it told fits the table, whatever it told
pub told_fits : (sh : Shape) (s : Parts) (ok : Sound sh s) (own : OwnTransaction) (t b : ℕ) (told : CoreReply) → HasBlock sh t b
    → (told ≡ reply.Memory) ⊎ (told ≡ reply_to_read sh s own t b) → All (Fits (columns_in sh t)) (rows_told told) × (length (rows_told told) ≤ slots_of sh t)
told_fits sh s ok own t b told has (inl is) =
    subst (λ (r : CoreReply). All (Fits (columns_in sh t)) (rows_told r) × (length (rows_told r) ≤ slots_of sh t)) (sym is) (All-nil (Fits (columns_in sh t)), omega arith)
told_fits sh s ok own t b told has (inr is) =
    subst (λ (r : CoreReply). All (Fits (columns_in sh t)) (rows_told r) × (length (rows_told r) ≤ slots_of sh t)) (sym is) (block_fits sh s ok own t b has, block_few sh s ok own t b has)
