-- A change of a slot, be it a session's write or one half of a move.
use Rattle.std.proofs.Common.{◌≡◌, ◌≢◌, ◌∙◌, ℕ, ◌<◌, ◌≤◌, eqb, Bool, true, false, not, ◌&&◌, ◌||◌, cond, List, [], ◌∷◌, Option, None, Some, option_map, length, get_or, refl, sym, ap, subst, arith, ⊎_elim}
use Rattle.std.specs.Prelude.{slice_set, is_none, is_some, IfNone, All, find}
use Rattle.std.specs.List.{list_any}
use Rattle.std.proofs.lemmas.Bool.{cases_eq, eqb-true}
use Rattle.std.proofs.lemmas.List.{get_or-set_same, get_or-set_other, set-set, set-get_or}
use Rattle.std.proofs.Math.ListN.{length-set}
use Rattle.std.proofs.lemmas.List.Elements.{All-cons, All-nil}
use Rattle.block_spec.specs.declared.change.Before.{Before}
use Rattle.block_spec.specs.declared.change.Change.{Change}
use Rattle.block_spec.specs.declared.change.Change.TheVariants as change
use Rattle.block_spec.specs.Fitting.{BeforeFits, ChangeFits}
use Rattle.block_spec.specs.Slots.{Row, laid_back, row_after, image_before, kind_of}
use Rattle.block_columns.specs.Columns.{WantsRow}
use Rattle.block_columns.proofs.Fitted.{patched_back}
use Rattle.cell_model.specs.declared.column.Column.{Column}
use Rattle.undo_chain.specs.declared.undo.Undo.{Undo}
use Rattle.undo_chain.specs.declared.undo.UndoKind.{UndoKind}
use Rattle.undo_chain.specs.Entry.{is_own, is_move, is_open_write_of_another}
use Rattle.undo_chain.specs.Conflict.{other_writer}
use Rattle.undo_chain.specs.Lawful.{IsLawful, MayStandAbove}
use Rattle.undo_chain.proofs.Order.{IsLawful-nil, IsLawful-cons, IsLawful-head, IsLawful-next}
use Rattle.block_body.specs.Rows.{RowsValue}
use Rattle.block_body.specs.Slots.{slot_of, slots_from}
use Rattle.block_body.specs.Chains.{Chains, IsKept, LaysBack, slot_at, entries_at, is_listed}
use Rattle.block_body.specs.Bodies.{SlotLists, slots_of, wants_row}
use Rattle.block_body.specs.Changes.{changed}
use Rattle.block_body.specs.declared.origin.Origin.{Origin}
use Rattle.block_body.proofs.Slots.{slots-set}

-- the row after a change is one on which its before-image can be laid back
pub wants_after : (row : Option Row) (new : Change) → is_some row ≡ wants_row new → WantsRow (image_before row new) (row_after row new)
wants_after None (change.Put r) is = tt
wants_after None (change.Patch p) is = cc
wants_after None change.Gone is = cc
wants_after (Some cells) (change.Put r) is = cc
wants_after (Some cells) (change.Patch p) is = refl
wants_after (Some cells) change.Gone is = tt

-- a write's before-image undoes it
pub undone : (columns : List Column) (row : Option Row) (new : Change) → is_some row ≡ wants_row new → ChangeFits columns new →
    laid_back (row_after row new) (image_before row new) ≡ row
undone columns None (change.Put r) is fits = refl
undone columns None (change.Patch p) is fits = cc
undone columns None change.Gone is fits = refl
undone columns (Some cells) (change.Put r) is fits = cc
undone columns (Some cells) (change.Patch p) is fits = ap (λ (r : Row). Some r) (patched_back cells p fits.distinct)
undone columns (Some cells) change.Gone is fits = refl

-- the entry of a change by an origin
abbrev pub undo_of : Origin → Before → Undo Before
undo_of by before = record { session = by.session; stamp = by.stamp; number = 0; kind = by.kind; before = before }

-- A session's write is no half of a move.
no_move : (new : Change) → is_move (kind_of new) ≡ false
no_move (change.Put r) = refl
no_move (change.Patch p) = refl
no_move change.Gone = refl

-- Where no other session's open write is found, an uncommitted entry on top is the session's.
own_below : (session : ℕ) (e : Undo Before) (rest : Option (Undo Before)) (stamp : Option ℕ) (moves same : Bool) → eqb e.session session ≡ same →
    IfNone stamp (moves ≡ false) → option_map (λ (u : Undo Before). u.session) (cond (is_none stamp && not moves && not same) (Some e) rest) ≡ None →
    IfNone stamp (session ≡ e.session)
own_below session e rest None true same is write none = let never : true ≡ false = write in cc
own_below session e rest None false true is write none = sym (eqb-true e.session session is)
own_below session e rest None false false is write none = cc
own_below session e rest (Some s) moves same is write none = tt

-- a session's write, which has no stamp yet
abbrev pub writer : ℕ → UndoKind → Origin
writer session kind = record { session = session; stamp = None; kind = kind }

-- one half of a move, which has its stamp
abbrev pub mover : ℕ → UndoKind → Origin
mover stamp kind = record { session = 0; stamp = Some stamp; kind = kind }

-- an uncommitted write may stand on a chain without another session's
pub free_lawful : (session : ℕ) (new : Change) (kind : UndoKind) (before : Before) (es : List (Undo Before)) → kind ≡ kind_of new → IsLawful es →
    other_writer es session ≡ None → IsLawful (undo_of (writer session kind) before ∷ es)
free_lawful session new kind before [] is lawful free =
    IsLawful-cons (undo_of (writer session kind) before) [] (ap is_move is ∙ no_move new) (All-nil (MayStandAbove (undo_of (writer session kind) before))) IsLawful-nil
free_lawful session new kind before (e ∷ es) is lawful free =
    IsLawful-next (undo_of (writer session kind) before) e es (ap is_move is ∙ no_move new)
    (own_below session e (find (λ undo. is_open_write_of_another undo session) es) e.stamp (is_move e.kind) (eqb e.session session) refl (IsLawful-head e es lawful) free)
    lawful

module _ (rows new_rows : RowsValue) (chains new : Chains) (slot : ℕ) (by : Origin) (put : Change) (before : Before)
    (within : slot < length rows.rows)
    (has : is_some (get_or rows.rows slot None) ≡ wants_row put)
    (before_is : before ≡ image_before (get_or rows.rows slot None) put)
    (rows_are : new_rows.rows ≡ slice_set rows.rows slot (row_after (get_or rows.rows slot None) put))
    (columns : new_rows.columns ≡ rows.columns)
    (fits : ChangeFits rows.columns put) where
  -- The slot has the row after the change.
  row_now : get_or new_rows.rows slot None ≡ row_after (get_or rows.rows slot None) put
  row_now =
      ap (λ (l : List (Option Row)). get_or l slot None) rows_are
      ∙ get_or-set_same rows.rows slot (row_after (get_or rows.rows slot None) put) None within

  -- Another slot has the row that it had.
  row_else : (k : ℕ) → k ≢ slot → get_or new_rows.rows k None ≡ get_or rows.rows k None
  row_else k apart =
      ap (λ (l : List (Option Row)). get_or l k None) rows_are
      ∙ get_or-set_other rows.rows slot k (row_after (get_or rows.rows slot None) put) None apart

  -- a change leaves the number of slots
  pub rows_long : length new_rows.rows ≡ length rows.rows
  rows_long = ap length rows_are ∙ length-set rows.rows slot (row_after (get_or rows.rows slot None) put)

  -- the new row is one on which the before-image can be laid back
  pub may_undo : WantsRow before (get_or new_rows.rows slot None)
  may_undo =
      subst (λ (r : Option Row). WantsRow before r) (sym row_now)
      (subst (λ (b : Before). WantsRow b (row_after (get_or rows.rows slot None) put)) (sym before_is) (wants_after (get_or rows.rows slot None) put has))

  -- With the before-image laid back the slot has the row that it had.
  back : laid_back (get_or new_rows.rows slot None) before ≡ get_or rows.rows slot None
  back =
      ap (λ (r : Option Row). laid_back r before) row_now
      ∙ ap (λ (b : Before). laid_back (row_after (get_or rows.rows slot None) put) b) before_is
      ∙ undone rows.columns (get_or rows.rows slot None) put has fits

  -- the before-image is laid back at once
  pub rows_back : (l : List (Option Row)) → l ≡ slice_set new_rows.rows slot (laid_back (get_or new_rows.rows slot None) before) → l ≡ rows.rows
  rows_back l is =
      is
      ∙ ap (λ (r : Option Row). slice_set new_rows.rows slot r) back
      ∙ ap (λ (n : List (Option Row)). slice_set n slot (get_or rows.rows slot None)) rows_are
      ∙ set-set rows.rows slot (row_after (get_or rows.rows slot None) put) (get_or rows.rows slot None)
      ∙ set-get_or rows.rows slot None

  module _ (kept : (k : ℕ) → IsKept rows k (get_or rows.rows k None) (entries_at chains k))
      (here : entries_at new slot ≡ undo_of by before ∷ entries_at chains slot)
      (others : (k : ℕ) → k ≢ slot → entries_at new k ≡ entries_at chains k)
      (room : rows.room ≤ new_rows.room)
      (in_room : slot < new_rows.room)
      (laid_fits : BeforeFits rows.columns before) where
    kept_here : IsKept new_rows slot (get_or new_rows.rows slot None) (entries_at new slot)
    kept_here =
        subst (λ (l : List (Undo Before)). IsKept new_rows slot (get_or new_rows.rows slot None) l) (sym here) (record {
          room = λ some. in_room;
          within = λ some. subst (λ n. slot < n) (sym rows_long) within;
          fits = subst (λ cs. All (λ undo. BeforeFits cs undo.before) (undo_of by before ∷ entries_at chains slot)) (sym columns)
              (All-cons (λ (undo : Undo Before). BeforeFits rows.columns undo.before) (undo_of by before) (entries_at chains slot) laid_fits (kept slot).fits);
          lays = (may_undo, subst (λ (r : Option Row). LaysBack r (entries_at chains slot)) (sym back) (kept slot).lays);
        })

    kept_else : (k : ℕ) → k ≢ slot → IsKept new_rows k (get_or new_rows.rows k None) (entries_at new k)
    kept_else k apart =
        subst (λ (l : List (Undo Before)). IsKept new_rows k (get_or new_rows.rows k None) l) (sym (others k apart))
        (subst (λ (r : Option Row). IsKept new_rows k r (entries_at chains k)) (sym (row_else k apart)) (record {
          room = λ some. let lt : k < rows.room = (kept k).room some in omega arith;
          within = λ some. subst (λ n. k < n) (sym rows_long) ((kept k).within some);
          fits = subst (λ cs. All (λ undo. BeforeFits cs undo.before) (entries_at chains k)) (sym columns) (kept k).fits;
          lays = (kept k).lays;
        }))

    -- the entries of each slot can be laid back after the change
    pub installed_kept : (k : ℕ) → IsKept new_rows k (get_or new_rows.rows k None) (entries_at new k)
    installed_kept k =
        ⊎_elim
        (λ is. subst (λ n. IsKept new_rows n (get_or new_rows.rows n None) (entries_at new n)) (sym is) kept_here)
        (kept_else k)
        (cases_eq k slot)

    -- the slots after the change are those before, the one changed
    pub installed_slots : slots_from (entries_at new) 0 new_rows.rows
        ≡ slice_set (slots_from (entries_at chains) 0 rows.rows) slot (changed by put (slot_at rows.rows chains slot))
    installed_slots =
        ap (slots_from (entries_at new) 0) rows_are
        ∙ slots-set (entries_at chains) (entries_at new) rows.rows slot (row_after (get_or rows.rows slot None) put) (undo_of by before ∷ entries_at chains slot) here others
        ∙ ap (λ (b : Before). slice_set (slots_from (entries_at chains) 0 rows.rows) slot (slot_of (row_after (get_or rows.rows slot None) put) (undo_of by b ∷ entries_at chains slot))) before_is

    -- each slot with a session's own entry is still listed for it
    pub installed_listed : (lists left : SlotLists) →
        ((q k : ℕ) → list_any (λ undo. is_own undo q) (entries_at chains k) ≡ true → is_listed (slots_of lists q) k ≡ true) →
        (by.stamp ≡ None → is_listed (slots_of left by.session) slot ≡ true) →
        ((q k : ℕ) → is_listed (slots_of lists q) k ≡ true → is_listed (slots_of left q) k ≡ true) →
        (q k : ℕ) → list_any (λ undo. is_own undo q) (entries_at new k) ≡ true → is_listed (slots_of left q) k ≡ true
    installed_listed lists left was added more q k own = ⊎_elim same (λ apart. more q k (was q k (sym (ap (list_any (λ (undo : Undo Before). is_own undo q)) (others k apart)) ∙ own))) (cases_eq k slot)
      where
        either : (stamp : Option ℕ) (moves mine : Bool) → (stamp ≡ None → is_listed (slots_of left by.session) slot ≡ true) → eqb by.session q ≡ mine →
            ((is_none stamp && not moves && mine) || list_any (λ undo. is_own undo q) (entries_at chains slot)) ≡ true → is_listed (slots_of left q) slot ≡ true
        either None false true listed is own = ap (λ n. is_listed (slots_of left n) slot) (sym (eqb-true by.session q is)) ∙ listed refl
        either None false false listed is own = more q slot (was q slot own)
        either None true mine listed is own = more q slot (was q slot own)
        either (Some s) moves mine listed is own = more q slot (was q slot own)

        same : k ≡ slot → is_listed (slots_of left q) k ≡ true
        same is =
            ap (is_listed (slots_of left q)) is
            ∙ either by.stamp (is_move by.kind) (eqb by.session q) added refl
            (sym (ap (list_any (λ (undo : Undo Before). is_own undo q)) (ap (entries_at new) is ∙ here)) ∙ own)
