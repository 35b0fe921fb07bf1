-- A slot's newest entry taken off, and what a slot's changes took away.
use Rattle.std.proofs.Common.{◌≡◌, ◌≢◌, ◌∙◌, ℕ, ◌<◌, true, false, List, [], ◌∷◌, Option, None, length, get_or, refl, sym, ap, subst, arith, ⊎_elim}
use Rattle.std.specs.Prelude.{slice_set, All}
use Rattle.std.specs.List.{list_any}
use Rattle.std.proofs.lemmas.Bool.{cases_eq, or_right}
use Rattle.std.proofs.lemmas.List.{get_or-set_same, get_or-set_other}
use Rattle.std.proofs.lemmas.List.Elements.{All-tail}
use Rattle.std.proofs.Math.ListN.{length-set}
use Rattle.block_spec.specs.declared.change.Before.{Before}
use Rattle.block_spec.specs.Fitting.{BeforeFits}
use Rattle.block_spec.specs.Slots.{Row, has_none, laid_back, taken_back, taken_from}
use Rattle.undo_chain.specs.declared.undo.Undo.{Undo}
use Rattle.undo_chain.specs.Entry.{is_own}
use Rattle.block_body.specs.Rows.{RowsValue}
use Rattle.block_body.specs.Slots.{slots_from}
use Rattle.block_body.specs.Chains.{Chains, IsKept, LaysBack, slot_at, entries_at}
use Rattle.block_body.proofs.Slots.{slots-set}

-- entries that are not none are some
pub some_entry : (es : List (Undo Before)) → has_none es ≡ false → 0 < length es
some_entry [] some = cc
some_entry (e ∷ es) some = omega arith

module _ (rows : RowsValue) (slot : ℕ) (es rest : List (Undo Before)) (undo : Undo Before) (is : es ≡ undo ∷ rest)
    (kept : IsKept rows slot (get_or rows.rows slot None) es) where
  -- The entries can be laid back with the newest of them on top.
  kept_top : IsKept rows slot (get_or rows.rows slot None) (undo ∷ rest)
  kept_top = subst (IsKept rows slot (get_or rows.rows slot None)) is kept

  -- the slot of an entry has memory
  pub top_room : slot < rows.room
  top_room = kept_top.room (omega arith)

  -- it is one of the slots
  pub top_within : slot < length rows.rows
  top_within = kept_top.within (omega arith)

  -- When the newest entry is laid back, the rest can be.
  rest_kept : (new : RowsValue) → new.columns ≡ rows.columns → new.room ≡ rows.room →
      new.rows ≡ slice_set rows.rows slot (laid_back (get_or rows.rows slot None) undo.before) → IsKept new slot (get_or new.rows slot None) rest
  rest_kept new columns room laid = record {
    room = λ some. subst (λ n. slot < n) (sym room) top_room;
    within = λ some. subst (λ n. slot < n) (sym (ap length laid ∙ length-set rows.rows slot (laid_back (get_or rows.rows slot None) undo.before))) top_within;
    fits = subst (λ cs. All (λ undo. BeforeFits cs undo.before) rest) (sym columns) (All-tail (λ undo. BeforeFits rows.columns undo.before) undo rest kept_top.fits);
    lays = subst (λ r. LaysBack r rest)
        (sym (ap (λ (l : List (Option Row)). get_or l slot None) laid ∙ get_or-set_same rows.rows slot (laid_back (get_or rows.rows slot None) undo.before) None top_within))
        kept_top.lays.1;
  }

module _ (rows new_rows : RowsValue) (chains new : Chains) (slot : ℕ) (undo : Undo Before)
    (is : entries_at chains slot ≡ undo ∷ entries_at new slot)
    (others : (k : ℕ) → k ≢ slot → entries_at new k ≡ entries_at chains k)
    (kept : (k : ℕ) → IsKept rows k (get_or rows.rows k None) (entries_at chains k))
    (columns : new_rows.columns ≡ rows.columns)
    (room : new_rows.room ≡ rows.room)
    (laid : new_rows.rows ≡ slice_set rows.rows slot (laid_back (get_or rows.rows slot None) undo.before)) where
  -- after it was taken off, the entries of each slot can be laid back
  pub taken_kept : (k : ℕ) → IsKept new_rows k (get_or new_rows.rows k None) (entries_at new k)
  taken_kept k = ⊎_elim same other (cases_eq k slot)
    where
      same : k ≡ slot → IsKept new_rows k (get_or new_rows.rows k None) (entries_at new k)
      same at =
          subst (λ n. IsKept new_rows n (get_or new_rows.rows n None) (entries_at new n)) (sym at)
          (rest_kept rows slot (entries_at chains slot) (entries_at new slot) undo is (kept slot) new_rows columns room laid)

      other : k ≢ slot → IsKept new_rows k (get_or new_rows.rows k None) (entries_at new k)
      other apart =
          let was : IsKept rows k (get_or rows.rows k None) (entries_at chains k) = kept k in
          let row : get_or new_rows.rows k None ≡ get_or rows.rows k None =
          ap (λ (l : List (Option Row)). get_or l k None) laid ∙ get_or-set_other rows.rows slot k (laid_back (get_or rows.rows slot None) undo.before) None apart in
          let long : length new_rows.rows ≡ length rows.rows = ap length laid ∙ length-set rows.rows slot (laid_back (get_or rows.rows slot None) undo.before) in
          subst (λ (r : Option Row). IsKept new_rows k r (entries_at new k)) (sym row)
          (subst (λ (l : List (Undo Before)). IsKept new_rows k (get_or rows.rows k None) l) (sym (others k apart)) (record {
            room = λ some. subst (λ n. k < n) (sym room) (was.room some);
            within = λ some. subst (λ n. k < n) (sym long) (was.within some);
            fits = subst (λ cs. All (λ undo. BeforeFits cs undo.before) (entries_at chains k)) (sym columns) was.fits;
            lays = was.lays;
          }))

  -- the slots are those before, the one with its newest change taken back
  pub taken_slots : slots_from (entries_at new) 0 new_rows.rows ≡ slice_set (slots_from (entries_at chains) 0 rows.rows) slot (taken_back (slot_at rows.rows chains slot))
  taken_slots =
      ap (slots_from (entries_at new) 0) laid
      ∙ slots-set (entries_at chains) (entries_at new) rows.rows slot (laid_back (get_or rows.rows slot None) undo.before) (entries_at new slot) refl others
      ∙ ap (λ s. slice_set (slots_from (entries_at chains) 0 rows.rows) slot s) (sym (ap (taken_from (get_or rows.rows slot None)) is))

  -- no slot has a session's own entry that had none
  pub taken_fewer : (q k : ℕ) → list_any (λ undo. is_own undo q) (entries_at new k) ≡ true → list_any (λ undo. is_own undo q) (entries_at chains k) ≡ true
  taken_fewer q k own = ⊎_elim same (λ apart. sym (ap (list_any (λ (undo : Undo Before). is_own undo q)) (others k apart)) ∙ own) (cases_eq k slot)
    where
      same : k ≡ slot → list_any (λ undo. is_own undo q) (entries_at chains k) ≡ true
      same at =
          ap (list_any (λ (undo : Undo Before). is_own undo q)) (ap (entries_at chains) at ∙ is)
          ∙ or_right (is_own undo q) (list_any (λ undo. is_own undo q) (entries_at new slot)) (sym (ap (λ n. list_any (λ (undo : Undo Before). is_own undo q) (entries_at new n)) at) ∙ own)

  -- nor an entry that had none
  pub taken_nil : (k : ℕ) → entries_at chains k ≡ [] → entries_at new k ≡ []
  taken_nil k none = ⊎_elim same (λ apart. others k apart ∙ none) (cases_eq k slot)
    where
      same : k ≡ slot → entries_at new k ≡ []
      same at = let never : undo ∷ entries_at new slot ≡ [] = sym is ∙ ap (entries_at chains) (sym at) ∙ none in cc
