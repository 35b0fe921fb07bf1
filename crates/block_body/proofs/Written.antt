-- Which bodies a session wrote, and what its roll-back makes of all slots.
use Rattle.std.proofs.Common.{◌≡◌, ◌∙◌, ℕ, ◌+◌, ◌<◌, eqb, Bool, true, false, not, ◌&&◌, ◌||◌, cond, List, [], ◌∷◌, Option, None, Some, map, length, refl, sym, ap, subst, arith}
use Rattle.std.specs.Prelude.{is_none, is_some, IfNone}
use Rattle.std.specs.List.{list_any}
use Rattle.std.proofs.lemmas.List.{same_lists}
use Rattle.std.proofs.lemmas.List.Folds.{list_any_at}
use Rattle.block_spec.specs.declared.change.Before.{Before}
use Rattle.block_spec.specs.declared.phase.Phase.{Phase}
use Rattle.block_spec.specs.declared.phase.Phase.TheVariants.{Loose, Sealed, Imaged}
use Rattle.block_spec.specs.Slots.{Row, Slot, bare, writer_of, rolled_back}
use Rattle.block_spec.specs.Bodies.{Body as BodyValue, is_writer, is_written_by, is_loose, is_imaged, modified, rolled_back_in}
use Rattle.undo_chain.specs.declared.undo.Undo.{Undo}
use Rattle.undo_chain.specs.Entry.{is_own, is_move}
use Rattle.undo_chain.specs.Lawful.{IsLawful}
use Rattle.undo_chain.proofs.Order.{IsLawful-head, none_own}
use Rattle.block_body.specs.Rows.{RowsValue}
use Rattle.block_body.specs.Slots.{slots_from}
use Rattle.block_body.specs.Chains.{Chains, slot_at, entries_at, is_listed}
use Rattle.block_body.specs.Bodies.{IsBody, SlotLists, slots_of}
use Rattle.block_body.proofs.Popped.{rolled_back-none}
use Rattle.block_body.proofs.RolledBack.{listed_any}
use Rattle.block_body.proofs.Slots.{slots-at, slots-length, slots-map}

-- The session writes a lawful chain just where its newest entry is the session's own.
writer_top : (session : ℕ) (e : Undo Before) (es : List (Undo Before)) → IsLawful (e ∷ es) → is_writer session (writer_of (e ∷ es)) ≡ is_own e session
writer_top session e es lawful = go e.stamp (is_move e.kind) (IsLawful-head e es lawful)
  where
    go : (stamp : Option ℕ) (moves : Bool) → IfNone stamp (moves ≡ false) →
        is_writer session (cond (is_none stamp) (Some e.session) None) ≡ (is_none stamp && not moves && eqb e.session session)
    go None false is = refl
    go None true is = let never : true ≡ false = is in cc
    go (Some s) moves is = refl

-- a session is the writer of a lawful chain where it has an entry of its own there
pub writer_own : (session : ℕ) (es : List (Undo Before)) → IsLawful es → is_writer session (writer_of es) ≡ list_any (λ undo. is_own undo session) es
writer_own session [] lawful = refl
writer_own session (e ∷ es) lawful = writer_top session e es lawful ∙ go (is_own e session) refl
  where
    go : (b : Bool) → is_own e session ≡ b → is_own e session ≡ list_any (λ undo. is_own undo session) (e ∷ es)
    go true own = own ∙ sym (ap (λ b. b || list_any (λ (undo : Undo Before). is_own undo session) es) own)
    go false own = own ∙ sym (none_own session e es lawful own)

-- where no slot has an entry of the session's own, it is no slot's writer
pub unwritten : (session : ℕ) (f : ℕ → List (Undo Before)) (at : ℕ) (rows : List (Option Row)) → ((k : ℕ) → IsLawful (f k)) →
    ((k : ℕ) → list_any (λ undo. is_own undo session) (f k) ≡ false) →
    list_any (λ slot. is_writer session (writer_of slot.entries)) (slots_from f at rows) ≡ false
unwritten session f at [] lawful none = refl
unwritten session f at (row ∷ rows) lawful none =
    ap (λ b. b || list_any (λ (slot : Slot). is_writer session (writer_of slot.entries)) (slots_from f (at + 1) rows)) (writer_own session (f at) (lawful at) ∙ none at)
    ∙ unwritten session f (at + 1) rows lawful none

-- where a slot has one, the session wrote the body
pub written_at : (session : ℕ) (f : ℕ → List (Undo Before)) (rows : List (Option Row)) (k : ℕ) → IsLawful (f k) → k < length rows →
    list_any (λ undo. is_own undo session) (f k) ≡ true →
    list_any (λ slot. is_writer session (writer_of slot.entries)) (slots_from f 0 rows) ≡ true
written_at session f rows k lawful lt own =
    list_any_at (λ (slot : Slot). is_writer session (writer_of slot.entries)) (slots_from f 0 rows) k bare
    (subst (λ n. k < n) (sym (slots-length f 0 rows)) lt)
    (ap (λ (slot : Slot). is_writer session (writer_of slot.entries)) (slots-at f rows k bare lt) ∙ writer_own session (f k) lawful ∙ own)

pub record Found (P : ℕ → Bool) : Type 0 where
  pub at : ℕ
  pub passes : P at ≡ true

-- where one of the numbers passes, there is one that passes
pub find_any : (P : ℕ → Bool) (xs : List ℕ) → list_any P xs ≡ true → Found P
find_any P [] any = cc
find_any P (x ∷ xs) any = go (P x) refl any (λ rest. find_any P xs rest)
  where
    go : (b : Bool) → P x ≡ b → (b || list_any P xs) ≡ true → (list_any P xs ≡ true → Found P) → Found P
    go true passes any rest = record { at = x; passes = passes }
    go false passes any rest = rest any

-- a slot with an entry of the session's own has some entry
pub some_own : (session : ℕ) (es : List (Undo Before)) → list_any (λ undo. is_own undo session) es ≡ true → 0 < length es
some_own session [] own = cc
some_own session (e ∷ es) own = omega arith

-- a body with a chain is loose, and its rows are its own
pub own_image : (rows : RowsValue) (chains : Chains) (lists : SlotLists) (phase : Phase) (last : ℕ) → IsBody rows chains lists phase last →
    (chains ≡ [] → ⊥) → rows.image ≡ None
own_image rows chains lists phase last is some = go phase (is.quiet) is.image
  where
    absent : {X : Type 0} (o : Option X) → is_some o ≡ false → o ≡ None
    absent None none = refl
    absent (Some x) none = cc

    go : (p : Phase) → (is_loose p ≡ false → chains ≡ []) → is_some rows.image ≡ is_imaged p → rows.image ≡ None
    go Loose quiet image = absent rows.image image
    go (Sealed g) quiet image = absurd (some (quiet refl))
    go (Imaged g) quiet image = absurd (some (quiet refl))

module _ (session : ℕ) (rows new_rows : List (Option Row)) (chains new : Chains) (slots : List ℕ) (long : length new_rows ≡ length rows)
    (all : (k : ℕ) → list_any (λ undo. is_own undo session) (entries_at chains k) ≡ true → is_listed slots k ≡ true)
    (after : (k : ℕ) → slot_at new_rows new k ≡ cond (is_listed slots k) (rolled_back session (slot_at rows chains k)) (slot_at rows chains k)) where
  -- where each slot with an entry of the session is listed, all slots are rolled back
  pub rolled_each : (k : ℕ) → slot_at new_rows new k ≡ rolled_back session (slot_at rows chains k)
  rolled_each k = go (is_listed slots k) (list_any (λ undo. is_own undo session) (entries_at chains k)) refl refl (after k)
    where
      go : (b own : Bool) → is_listed slots k ≡ b → list_any (λ undo. is_own undo session) (entries_at chains k) ≡ own →
          slot_at new_rows new k ≡ cond b (rolled_back session (slot_at rows chains k)) (slot_at rows chains k) →
          slot_at new_rows new k ≡ rolled_back session (slot_at rows chains k)
      go true own listed mine is = is
      go false true listed mine is = let never : true ≡ false = sym (all k mine) ∙ listed in cc
      go false false listed mine is = is ∙ sym (rolled_back-none session (slot_at rows chains k) mine)

  -- the slots after a roll-back are all rolled back
  pub rolled_slots : slots_from (entries_at new) 0 new_rows ≡ map (rolled_back session) (slots_from (entries_at chains) 0 rows)
  rolled_slots = slots-map (entries_at chains) (entries_at new) rows new_rows (rolled_back session) long (λ k lt. rolled_each k)

  -- no slot had an entry of the session
  pub none_rolled : ((k : ℕ) → list_any (λ undo. is_own undo session) (entries_at chains k) ≡ false) →
      slots_from (entries_at new) 0 new_rows ≡ slots_from (entries_at chains) 0 rows
  none_rolled none =
      same_lists
      (slots_from (entries_at new) 0 new_rows)
      (slots_from (entries_at chains) 0 rows)
      (slots-length (entries_at new) 0 new_rows ∙ long ∙ sym (slots-length (entries_at chains) 0 rows))
      (λ k d lt.
      let less : k < length new_rows = subst (λ n. k < n) (slots-length (entries_at new) 0 new_rows) lt in
      slots-at (entries_at new) new_rows k d less
      ∙ rolled_each k ∙ rolled_back-none session (slot_at rows chains k) (none k)
      ∙ sym (slots-at (entries_at chains) rows k d (subst (λ n. k < n) long less)))

  -- where no listed slot has an entry of the session's own, no slot has
  pub none_any : list_any (λ slot. list_any (λ undo. is_own undo session) (entries_at chains slot)) slots ≡ false →
      (k : ℕ) → list_any (λ undo. is_own undo session) (entries_at chains k) ≡ false
  none_any any k = go (list_any (λ undo. is_own undo session) (entries_at chains k)) refl
    where
      go : (b : Bool) → list_any (λ undo. is_own undo session) (entries_at chains k) ≡ b → list_any (λ undo. is_own undo session) (entries_at chains k) ≡ false
      go true own =
          let never : true ≡ false = sym (listed_any (λ slot. list_any (λ undo. is_own undo session) (entries_at chains slot)) slots k (all k own) own) ∙ any in
          cc
      go false own = own

-- a session without a list has no entry
pub unlisted : (session : ℕ) (rows : RowsValue) (chains : Chains) (lists : SlotLists) (phase : Phase) (last : ℕ) → IsBody rows chains lists phase last →
    slots_of lists session ≡ [] → (k : ℕ) → list_any (λ undo. is_own undo session) (entries_at chains k) ≡ false
unlisted session rows chains lists phase last is none k = go (list_any (λ undo. is_own undo session) (entries_at chains k)) refl
  where
    go : (b : Bool) → list_any (λ undo. is_own undo session) (entries_at chains k) ≡ b → list_any (λ undo. is_own undo session) (entries_at chains k) ≡ false
    go true own =
        let never : false ≡ true = ap (λ (l : List ℕ). is_listed l k) (sym none) ∙ is.listed session k own in
        cc
    go false own = own

-- A body that a session wrote is rolled back in each slot; another one stays.
pub rolled_as : (session : ℕ) (body : BodyValue) (b : Bool) → is_written_by session body ≡ b →
    rolled_back_in session body ≡ cond b (record (modified body) { slots = map (rolled_back session) body.slots }) body
rolled_as session body b is = ap (λ x. cond x (record (modified body) { slots = map (rolled_back session) body.slots }) body) is
