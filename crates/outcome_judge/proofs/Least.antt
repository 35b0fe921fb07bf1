-- The least key of a table among what a transaction wrote, and how exports are judged by it.
use Rattle.std.proofs.Common.{◌≡◌, ℕ, ℤ, ◌<◌, nat_le, Bool, true, false, cond, List, [], ◌∷◌, length, map, Option, None, Some, refl, sym, ap, ◌∙◌, int_lt, int_cmp, nat_cmp}
use Rattle.std.specs.BTreeMap.{insert_entry}
use Rattle.std.specs.Cmp.{nat_cmp_total, tied_itself}
use Rattle.std.specs.List.{filter_map, find}
use Rattle.std.specs.Option.{option_map_or}
use Rattle.std.specs.Ordering.{match_ordering, ordering_then}
use Rattle.std.specs.declared.cmp.Ordering.{Ordering}
use Rattle.std.specs.declared.cmp.Ordering.TheVariants.{Less, Equal, Greater}
use Rattle.std.specs.Prelude.{◌==◌, fold, option_map, option_and_then, unwrap_or, if◌then◌else◌}
use Rattle.std.proofs.lemmas.Bool.{eqb-true}
use Rattle.cell_model.specs.declared.cell.Cell.{Cell}
use Rattle.cell_model.specs.declared.table.TableDecl.{TableDecl}
use Rattle.isolation_spec.specs.Contents.{WriteSet, place_cmp}
use Rattle.isolation_spec.specs.declared.place.Place.{Place}
use Rattle.timeline_laws.proofs.Placed.{one-place}
use Rattle.si_machine.specs.Kept.{Below, Rises}
use Rattle.si_machine.proofs.Rising.{below-less, rises-insert}
use Rattle.outcome_spec.specs.Entries.{Entry, before, snapshot_in}
use Rattle.outcome_spec.specs.Runs.{Run, Span, accepted_write, run_of}
use Rattle.outcome_spec.specs.Upkeep.{export_reply_holds, exported_table, exports_hold}
use Rattle.isolation_spec.specs.Contents.{least_key}
use Rattle.outcome_counts.specs.Asked.{asked_at}
use Rattle.output_read.specs.Kept.{entries_of}
use Rattle.output_read.specs.declared.kept.KeptReply.{KeptReply}
use Rattle.outcome_counts.specs.Openings.{opening_of, openings_in}
use Rattle.outcome_judge.specs.Exports.{IsKnown, least_next, least_with, least_written, lesser}
use Rattle.outcome_judge.specs.Own.{changes_of, own_writes, written_by}
use Rattle.outcome_judge.specs.Seen.{IsOutput}
use Rattle.outcome_judge.specs.Timed.{TimedWrite, up_to}
use Rattle.outcome_judge.specs.declared.changes.Change.{Change}
use Rattle.outcome_judge.proofs.ReadsJudged.{none-of, span-of}
use Rattle.outcome_judge.proofs.Laid.{entered}
use Rattle.outcome_judge.proofs.Spanned.{IsSpan}

-- ---- one more write

-- A key that compares as less is below the other.
below-is : (a b : ℤ) (low high : Bool) → int_lt a b ≡ low → cond low Less (cond high Greater Equal) ≡ Less → int_lt a b ≡ true
below-is a b true high is h = is
below-is a b false true is h = absurd (let never : ⊥ = cc in never)
below-is a b false false is h = absurd (let never : ⊥ = cc in never)

-- A key that compares as greater is not below the other.
above-is : (a b : ℤ) (low high : Bool) → int_lt a b ≡ low → cond low Less (cond high Greater Equal) ≡ Greater → int_lt a b ≡ false
above-is a b true high is h = absurd (let never : ⊥ = cc in never)
above-is a b false high is h = is

-- places of one table compare as their keys
by-keys : (a b : Place) → a.table ≡ b.table → place_cmp a b ≡ int_cmp a.key b.key
by-keys a b h =
    ap (λ (table : ℕ). ordering_then (nat_cmp a.table table) (int_cmp a.key b.key)) (sym h)
    ∙ ap (λ (tables : Ordering). ordering_then tables (int_cmp a.key b.key)) (tied_itself nat_cmp_total a.table)

-- behind a place of the table each key of the table is above its
later-key : (table : ℕ) (place : Place) (writes : WriteSet) (low : ℤ) → place.table ≡ table → Below place writes → least_key table writes ≡ Some low → int_lt place.key low ≡ true
later-key table place [] low here below h = absurd (let never : ⊥ = cc in never)
later-key table place (write ∷ writes) low here below h = by (write.0.table == table) refl h (later-key table place writes low here below.1)
  where
    by : (b : Bool) → (write.0.table == table) ≡ b → option_map (λ (w : Place × Option (List Cell)). w.0.key) (cond b (Some write) (find (λ (w : Place × Option (List Cell)). w.0.table == table) writes)) ≡ Some low
        → (least_key table writes ≡ Some low → int_lt place.key low ≡ true) → int_lt place.key low ≡ true
    by true is k again =
        let there : write.0.table ≡ table = eqb-true write.0.table table is in
        let less : int_cmp place.key write.0.key ≡ Less = sym (by-keys place write.0 (here ∙ sym there)) ∙ below.0 in
        let key : write.0.key ≡ low = ap (λ (o : Option ℤ). unwrap_or o low) k in
        ap (int_lt place.key) (sym key) ∙ below-is place.key write.0.key (int_lt place.key write.0.key) (int_lt write.0.key place.key) refl less
    by false is k again = again k

-- A key that is below the least one, if there is one, is the lesser of both.
lesser-low : (key : ℤ) (o : Option ℤ) → ((low : ℤ) → o ≡ Some low → int_lt key low ≡ true) → lesser o key ≡ key
lesser-low key None h = refl
lesser-low key (Some low) h = ap (λ (b : Bool). if b then key else low) (h low refl)

-- A choice between a key and itself is this key.
lesser-itself : (key : ℤ) (b : Bool) → key ≡ (if b then key else key)
lesser-itself key true = refl
lesser-itself key false = refl

-- The least key of one write is its key, if it is of the table.
least-first : (table : ℕ) (place : Place) (row : Option (List Cell)) (b : Bool)
    → option_map (λ (w : Place × Option (List Cell)). w.0.key) (cond b (Some (place, row)) None) ≡ (if b then Some (lesser None place.key) else None)
least-first table place row true = refl
least-first table place row false = refl

-- The least key of a first write, if it is of the table, and else of the others.
abbrev first_key : ℕ → Bool → Place × Option (List Cell) → WriteSet → Option ℤ
first_key table b write writes = option_map (λ (w : Place × Option (List Cell)). w.0.key) (cond b (Some write) (find (λ (w : Place × Option (List Cell)). w.0.table == table) writes))

-- the least key of a write set with a place more
pub least-insert : (table : ℕ) (writes : WriteSet) (place : Place) (row : Option (List Cell)) → Rises writes
    → least_key table (insert_entry place_cmp writes place row) ≡ least_with table (least_key table writes) place
least-insert table [] place row h = least-first table place row (place.table == table)
least-insert table (write ∷ writes) place row h = by (least-insert table writes place row h.1) (place_cmp place write.0) refl
  where
    less : place_cmp place write.0 ≡ Less → (b : Bool) → (place.table == table) ≡ b
        → first_key table b (place, row) (write ∷ writes) ≡ (if b then Some (lesser (least_key table (write ∷ writes)) place.key) else least_key table (write ∷ writes))
    less is true here =
        let there : place.table ≡ table = eqb-true place.table table here in
        ap Some (sym (lesser-low place.key (least_key table (write ∷ writes)) (λ low k. later-key table place (write ∷ writes) low there (is, below-less place write.0 writes is h.0) k)))
    less is false here = refl

    same : (b : Bool) → first_key table b (write.0, row) writes ≡ (if b then Some (lesser (first_key table b write writes) write.0.key) else first_key table b write writes)
    same true = ap Some (lesser-itself write.0.key (int_lt write.0.key write.0.key))
    same false = refl

    kept : place_cmp place write.0 ≡ Greater → write.0.table ≡ table → (b : Bool) → (place.table == table) ≡ b
        → Some write.0.key ≡ (if b then Some (lesser (Some write.0.key) place.key) else Some write.0.key)
    kept is there true here =
        let cmp : int_cmp place.key write.0.key ≡ Greater = sym (by-keys place write.0 (eqb-true place.table table here ∙ sym there)) ∙ is in
        ap (λ (b : Bool). Some (if b then place.key else write.0.key)) (sym (above-is place.key write.0.key (int_lt place.key write.0.key) (int_lt write.0.key place.key) refl cmp))
    kept is there false here = refl

    greater : place_cmp place write.0 ≡ Greater → least_key table (insert_entry place_cmp writes place row) ≡ least_with table (least_key table writes) place → (b : Bool) → (write.0.table == table) ≡ b
        → first_key table b write (insert_entry place_cmp writes place row) ≡ least_with table (first_key table b write writes) place
    greater is again true there = kept is (eqb-true write.0.table table there) (place.table == table) refl
    greater is again false there = again

    by : least_key table (insert_entry place_cmp writes place row) ≡ least_with table (least_key table writes) place → (answer : Ordering) → place_cmp place write.0 ≡ answer
        → least_key table (match_ordering answer ((place, row) ∷ write ∷ writes) ((write.0, row) ∷ writes) (write ∷ insert_entry place_cmp writes place row))
        ≡ least_with table (least_key table (write ∷ writes)) place
    by again Less is = less is (place.table == table) refl
    by again Equal is = same (write.0.table == table) ∙ ap (least_with table (least_key table (write ∷ writes))) (sym (one-place place write.0 is))
    by again Greater is = greater is again (write.0.table == table) refl

-- ---- all that is written

-- The least key of a write set with changes entered goes on from its own with each change.
least-entered : (table : ℕ) (changes : List (Place × Option (List Cell))) (writes : WriteSet) → Rises writes
    → least_key table (entered writes changes) ≡ fold (λ (least : Option ℤ) (change : Place × Option (List Cell)). least_with table least change.0) (least_key table writes) changes
least-entered table [] writes h = refl
least-entered table (change ∷ changes) writes h =
    least-entered table changes (insert_entry place_cmp writes change.0 change.1) (rises-insert change.0 change.1 writes h)
    ∙ ap (λ (o : Option ℤ). fold (λ (least : Option ℤ) (change : Place × Option (List Cell)). least_with table least change.0) o changes) (least-insert table writes change.0 change.1 h)

-- The least key goes on with the changes of writes as with the writes.
least-timed : (table : ℕ) (writes : List TimedWrite) (least : Option ℤ)
    → fold (λ (least : Option ℤ) (change : Place × Option (List Cell)). least_with table least change.0) least (changes_of writes)
    ≡ fold (λ (least : Option ℤ) (write : TimedWrite). least_with table least write.place) least writes
least-timed table [] least = refl
least-timed table (write ∷ writes) least = least-timed table writes (least_with table least write.place)

-- the least key that is kept of a transaction's changes is that of its writes up to a time
pub least-changed : (table bound : ℕ) (own : List Change) (least : Option ℤ)
    → fold (least_next table bound) least own ≡ fold (λ (least : Option ℤ) (write : TimedWrite). least_with table least write.place) least (up_to bound (map written_by own))
least-changed table bound [] least = refl
least-changed table bound (change ∷ own) least = by (nat_le change.left.time bound) (λ other. least-changed table bound own other)
  where
    by : (b : Bool)
        → ((other : Option ℤ) → fold (least_next table bound) other own ≡ fold (λ (least : Option ℤ) (write : TimedWrite). least_with table least write.place) other (up_to bound (map written_by own)))
        → fold (least_next table bound) (if b then least_with table least (written_by change).place else least) own
        ≡ fold (λ (least : Option ℤ) (write : TimedWrite). least_with table least write.place) least (cond b (written_by change ∷ up_to bound (map written_by own)) (up_to bound (map written_by own)))
    by true again = again (least_with table least (written_by change).place)
    by false again = again least

-- ---- the transaction of the reply that is judged

module _ (tables : List TableDecl) (openings : List (Option ℕ)) (replies : List KeptReply) (output : IsOutput openings (entries_of replies)) (at : ℕ) (inside : at < length replies) (none : KeptReply) where
  -- The replies as they are judged.
  abbrev entries : List Entry
  entries = entries_of replies

  -- The reply that is judged.
  abbrev entry : Entry
  entry = asked_at replies at none

  -- What all the replies tell.
  abbrev run : Run
  run = run_of tables entries

  -- What is kept tells of the transaction of the judged reply.
  known : (owner : ℕ) → (span : IsSpan entries at entry owner) → IsKnown openings entries owner at entry span.span
  known owner span = record {
    snapshot =
        ap (λ (o : Option Entry). option_map_or (λ (n : ℕ). n) (option_and_then (λ (e : Entry). snapshot_in e.reply.said) o) 0) span.there ∙ ap (λ (o : Option ℕ). option_map_or (λ (n : ℕ). n) o 0) span.shown;
    least = λ table.
        ap (λ (os : List (Option ℕ)). least_written table (up_to at (own_writes owner 0 os entries))) output.each
        ∙ sym (least-entered table (filter_map accepted_write (before span.span.replies entry)) [] tt
        ∙ ap (λ (cs : List (Place × Option (List Cell))). fold (λ (least : Option ℤ) (change : Place × Option (List Cell)). least_with table least change.0) None cs) span.accepted
        ∙ least-timed table (up_to at (own_writes owner 0 (openings_in entries) entries)) None);
  }

  -- an export without a transaction holds
  pub exports-none : opening_of openings at ≡ None → true ≡ exports_hold run entry
  exports-none h =
      sym (ap (λ (o : Option Span). option_map_or (λ t. option_map_or (λ table. export_reply_holds run t entry table entry.reply.said) (exported_table entry.command) true) o true)
      (none-of tables openings replies output at inside none h))

  -- an export is judged by the transaction that its opening tells
  pub exports-some : (answer : Bool) (owner : ℕ) → opening_of openings at ≡ Some owner
      → ((t : Span) → IsKnown openings entries owner at entry t → answer ≡ option_map_or (λ table. export_reply_holds run t entry table entry.reply.said) (exported_table entry.command) true)
      → answer ≡ exports_hold run entry
  exports-some answer owner h is =
      let span = span-of tables openings replies output at inside none owner h in
      is span.span (known owner span)
      ∙ sym (ap (λ (o : Option Span). option_map_or (λ t. option_map_or (λ table. export_reply_holds run t entry table entry.reply.said) (exported_table entry.command) true) o true) span.found)
