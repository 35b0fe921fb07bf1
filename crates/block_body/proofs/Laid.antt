-- A row that is laid in a bare slot.
use Rattle.std.proofs.Common.{◌≡◌, ◌≢◌, ◌∙◌, ℕ, ◌<◌, ◌≤◌, Bool, true, false, ◌&&◌, List, [], ◌∷◌, Option, None, Some, length, get_or, refl, sym, ap, subst, arith, ⊎_elim}
use Rattle.std.specs.Prelude.{All, slice_set, is_none}
use Rattle.std.proofs.lemmas.Bool.{cases_eq}
use Rattle.std.proofs.lemmas.List.{get_or-set_other}
use Rattle.std.proofs.Math.ListN.{length-set}
use Rattle.block_spec.specs.declared.change.Before.{Before}
use Rattle.block_spec.specs.Fitting.{BeforeFits}
use Rattle.block_spec.specs.Slots.{Row, Slot, has_none, is_bare}
use Rattle.undo_chain.specs.declared.undo.Undo.{Undo}
use Rattle.block_body.specs.Rows.{RowsValue}
use Rattle.block_body.specs.Slots.{slot_of, slots_from}
use Rattle.block_body.specs.Chains.{Chains, IsKept, LaysBack, entries_at}
use Rattle.block_body.proofs.Slots.{slots-set}

-- a bare slot has neither row nor entry
pub bare_row : (slot : Slot) → is_bare slot ≡ true → slot.row ≡ None
bare_row slot bare = go slot.row refl
  where
    go : (o : Option Row) → slot.row ≡ o → slot.row ≡ None
    go None is = is
    go (Some row) is = let never : false ≡ true = sym (ap (λ (o : Option Row). is_none o && has_none slot.entries) is) ∙ bare in cc

pub bare_entries : (slot : Slot) → is_bare slot ≡ true → slot.entries ≡ []
bare_entries slot bare = go slot.entries refl
  where
    both : (a : Bool) → (a && false) ≡ true → ⊥
    both true e = cc
    both false e = cc

    go : (es : List (Undo Before)) → slot.entries ≡ es → slot.entries ≡ []
    go [] is = is
    go (e ∷ es) is = absurd (both (is_none slot.row) (sym (ap (λ (l : List (Undo Before)). is_none slot.row && has_none l) is) ∙ bare))

module _ (rows new : RowsValue) (chains : Chains) (slot : ℕ) (row : Row)
    (none : entries_at chains slot ≡ [])
    (rows_are : new.rows ≡ slice_set rows.rows slot (Some row))
    (columns : new.columns ≡ rows.columns)
    (room : rows.room ≤ new.room)
    (kept : (k : ℕ) → IsKept rows k (get_or rows.rows k None) (entries_at chains k)) where
  -- A row leaves the number of slots.
  long : length new.rows ≡ length rows.rows
  long = ap length rows_are ∙ length-set rows.rows slot (Some row)

  -- With any row a slot lays back what it laid back, where it has no entry or is another.
  lays : (k : ℕ) → LaysBack (get_or new.rows k None) (entries_at chains k)
  lays k = ⊎_elim here other (cases_eq k slot)
    where
      here : k ≡ slot → LaysBack (get_or new.rows k None) (entries_at chains k)
      here is = subst (λ (es : List (Undo Before)). LaysBack (get_or new.rows k None) es) (sym (ap (entries_at chains) is ∙ none)) tt

      other : k ≢ slot → LaysBack (get_or new.rows k None) (entries_at chains k)
      other apart =
          subst (λ (r : Option Row). LaysBack r (entries_at chains k))
          (sym (ap (λ (l : List (Option Row)). get_or l k None) rows_are ∙ get_or-set_other rows.rows slot k (Some row) None apart)) (kept k).lays

  -- the entries of each slot can be laid back after the row was laid
  pub laid_kept : (k : ℕ) → IsKept new k (get_or new.rows k None) (entries_at chains k)
  laid_kept k = record {
    room = λ some. let less = (kept k).room some in omega (arith, less, room);
    within = λ some. subst (λ n. k < n) (sym long) ((kept k).within some);
    fits = subst (λ cs. All (λ undo. BeforeFits cs undo.before) (entries_at chains k)) (sym columns) (kept k).fits;
    lays = lays k;
  }

  -- the slots are those before, the one with the row
  pub laid_slots : slots_from (entries_at chains) 0 new.rows ≡ slice_set (slots_from (entries_at chains) 0 rows.rows) slot (slot_of (Some row) [])
  laid_slots = ap (slots_from (entries_at chains) 0) rows_are ∙ slots-set (entries_at chains) (entries_at chains) rows.rows slot (Some row) [] none (λ k apart. refl)
