-- One more slot is rolled back.
use Rattle.std.proofs.Common.{◌≡◌, ◌≢◌, ◌∙◌, ℕ, ◌+◌, ◌<◌, ◌≤◌, eqb, Bool, true, false, not, ◌||◌, cond, List, [], ◌∷◌, Option, None, take, length, get_or, refl, sym, ap, subst, arith, ⊎_elim}
use Rattle.std.specs.Prelude.{filter, fold, slice_set, All}
use Rattle.std.specs.List.{list_any}
use Rattle.std.proofs.lemmas.Bool.{cases_eq, cases_lt, eqb-true, or_right}
use Rattle.std.proofs.lemmas.List.{get_or-set_same, get_or-set_other, set-get_or}
use Rattle.std.proofs.lemmas.List.Folds.{list_any_more}
use Rattle.std.proofs.Math.ListN.{length-set}
use Rattle.block_spec.specs.declared.change.Before.{Before}
use Rattle.block_spec.specs.Fitting.{BeforeFits}
use Rattle.block_spec.specs.Slots.{Row, Slot, laid_back, rolled_back}
use Rattle.undo_chain.specs.declared.undo.Undo.{Undo}
use Rattle.undo_chain.specs.Entry.{is_own}
use Rattle.block_body.specs.Rows.{RowsValue}
use Rattle.block_body.specs.Slots.{slot_of}
use Rattle.block_body.specs.Chains.{Chains, IsKept, slot_at, entries_at, is_listed}
use Rattle.block_body.proofs.Popped.{own_images, none_left}

-- a list of entries that does not have any
pub no_entry : (entries : List (Undo Before)) → (0 < length entries → ⊥) → entries ≡ []
no_entry [] none = refl
no_entry (e ∷ es) none = absurd (none (omega arith))

module _ (session : ℕ) (rows new : RowsValue) (chains after : Chains) (x : ℕ)
    (kept : (slot : ℕ) → IsKept rows slot (get_or rows.rows slot None) (entries_at chains slot))
    (here : entries_at after x ≡ filter (λ undo. not (is_own undo session)) (entries_at chains x))
    (others : (k : ℕ) → k ≢ x → entries_at after k ≡ entries_at chains k)
    (laid : new.rows ≡ slice_set rows.rows x (fold laid_back (get_or rows.rows x None) (own_images session (entries_at chains x))))
    (columns : new.columns ≡ rows.columns)
    (room : new.room ≡ rows.room)
    (left : IsKept new x (get_or new.rows x None) (entries_at after x)) where
  -- At the slot stands the row with the session's before-images laid back.
  row_here : get_or (slice_set rows.rows x (fold laid_back (get_or rows.rows x None) (own_images session (entries_at chains x)))) x None
      ≡ fold laid_back (get_or rows.rows x None) (own_images session (entries_at chains x))
  row_here = ⊎_elim within past (cases_lt x (length rows.rows))
    where
      within : x < length rows.rows → get_or (slice_set rows.rows x (fold laid_back (get_or rows.rows x None) (own_images session (entries_at chains x)))) x None
          ≡ fold laid_back (get_or rows.rows x None) (own_images session (entries_at chains x))
      within lt = get_or-set_same rows.rows x (fold laid_back (get_or rows.rows x None) (own_images session (entries_at chains x))) None lt

      past : length rows.rows ≤ x → get_or (slice_set rows.rows x (fold laid_back (get_or rows.rows x None) (own_images session (entries_at chains x)))) x None
          ≡ fold laid_back (get_or rows.rows x None) (own_images session (entries_at chains x))
      past le =
          let none : entries_at chains x ≡ [] = no_entry (entries_at chains x) (λ some. let lt = (kept x).within some in omega arith) in
          let same : fold laid_back (get_or rows.rows x None) (own_images session (entries_at chains x)) ≡ get_or rows.rows x None =
          ap (λ (l : List (Undo Before)). fold laid_back (get_or rows.rows x None) (own_images session l)) none in
          ap (λ (r : Option Row). get_or (slice_set rows.rows x r) x None) same
          ∙ ap (λ (l : List (Option Row)). get_or l x None) (set-get_or rows.rows x None)
          ∙ sym same

  -- the slot is rolled back
  pub slot_here : slot_at new.rows after x ≡ rolled_back session (slot_at rows.rows chains x)
  slot_here =
      ap (λ (l : List (Option Row)). slot_of (get_or l x None) (entries_at after x)) laid
      ∙ ap (λ (r : Option Row). slot_of r (entries_at after x)) row_here
      ∙ ap (slot_of (fold laid_back (get_or rows.rows x None) (own_images session (entries_at chains x)))) here

  -- Another slot has the row that it had.
  row_other : (k : ℕ) → k ≢ x → get_or new.rows k None ≡ get_or rows.rows k None
  row_other k apart =
      ap (λ (l : List (Option Row)). get_or l k None) laid
      ∙ get_or-set_other rows.rows x k (fold laid_back (get_or rows.rows x None) (own_images session (entries_at chains x))) None apart

  -- another slot is as it was
  pub slot_other : (k : ℕ) → k ≢ x → slot_at new.rows after k ≡ slot_at rows.rows chains k
  slot_other k apart =
      ap (λ (r : Option Row). slot_of r (entries_at after k)) (row_other k apart) ∙ ap (slot_of (get_or rows.rows k None)) (others k apart)

  -- there are as many slots as before
  pub slots_long : length new.rows ≡ length rows.rows
  slots_long = ap length laid ∙ length-set rows.rows x (fold laid_back (get_or rows.rows x None) (own_images session (entries_at chains x)))

  -- the entries of each slot can be laid back
  pub slots_kept : (k : ℕ) → IsKept new k (get_or new.rows k None) (entries_at after k)
  slots_kept k = ⊎_elim same other (cases_eq k x)
    where
      same : k ≡ x → IsKept new k (get_or new.rows k None) (entries_at after k)
      same is = subst (λ n. IsKept new n (get_or new.rows n None) (entries_at after n)) (sym is) left

      other : k ≢ x → IsKept new k (get_or new.rows k None) (entries_at after k)
      other apart =
          let was : IsKept rows k (get_or rows.rows k None) (entries_at chains k) = kept k in
          subst (λ (r : Option Row). IsKept new k r (entries_at after k)) (sym (row_other k apart))
          (subst (λ (l : List (Undo Before)). IsKept new k (get_or rows.rows k None) l) (sym (others k apart)) (record {
            room = λ some. subst (λ n. k < n) (sym room) (was.room some);
            within = λ some. subst (λ n. k < n) (sym slots_long) (was.within some);
            fits = subst (λ cs. All (λ undo. BeforeFits cs undo.before) (entries_at chains k)) (sym columns) was.fits;
            lays = was.lays;
          }))

-- A test that implies another adds nothing to that one.
absorbs : (a b : Bool) → (b ≡ true → a ≡ true) → (a || b) ≡ a
absorbs true b has = refl
absorbs false true has = sym (has refl)
absorbs false false has = refl

-- Found now or so before is the same as so before or found.
swapped : (found was : Bool) → cond found true was ≡ (was || found)
swapped true true = refl
swapped true false = refl
swapped false true = refl
swapped false false = refl

-- a listed slot that passes a test is one that passes
pub listed_any : (P : ℕ → Bool) (xs : List ℕ) (x : ℕ) → is_listed xs x ≡ true → P x ≡ true → list_any P xs ≡ true
listed_any P [] x listed passes = cc
listed_any P (y ∷ ys) x listed passes = go (eqb y x) refl listed (λ l. listed_any P ys x l passes)
  where
    go : (b : Bool) → eqb y x ≡ b → (b || is_listed ys x) ≡ true → (is_listed ys x ≡ true → list_any P ys ≡ true) → (P y || list_any P ys) ≡ true
    go true same listed rest = ap (λ b. b || list_any P ys) (ap P (eqb-true y x same) ∙ passes)
    go false same listed rest = or_right (P y) (list_any P ys) (rest listed)

-- whether any slot so far had an entry of the session, at the next slot
pub any_more : (session : ℕ) (init now : List (Option Row)) (chains at : Chains) (slots : List ℕ) (i x : ℕ) → i < length slots → x ≡ get_or slots i 0 →
    slot_at now at x ≡ cond (is_listed (take i slots) x) (rolled_back session (slot_at init chains x)) (slot_at init chains x) →
    (was found : Bool) → was ≡ list_any (λ slot. list_any (λ undo. is_own undo session) (entries_at chains slot)) (take i slots) →
    found ≡ list_any (λ undo. is_own undo session) (entries_at at x) →
    cond found true was ≡ list_any (λ slot. list_any (λ undo. is_own undo session) (entries_at chains slot)) (take (i + 1) slots)
any_more session init now chains at slots i x lt is slot was found so_far here =
    go (is_listed (take i slots) x) refl slot
    ∙ sym (list_any_more (λ slot. list_any (λ undo. is_own undo session) (entries_at chains slot)) slots i 0 lt
    ∙ ap (λ b. b || list_any (λ undo. is_own undo session) (entries_at chains (get_or slots i 0))) (sym so_far)
    ∙ ap (λ n. was || list_any (λ undo. is_own undo session) (entries_at chains n)) (sym is))
  where
    go : (b : Bool) → is_listed (take i slots) x ≡ b →
        slot_at now at x ≡ cond b (rolled_back session (slot_at init chains x)) (slot_at init chains x) →
        cond found true was ≡ (was || list_any (λ undo. is_own undo session) (entries_at chains x))
    go true listed same =
        let none : found ≡ false = here ∙ ap (λ (s : Slot). list_any (λ undo. is_own undo session) s.entries) same ∙ none_left session (entries_at chains x) in
        ap (λ b. cond b true was) none ∙ sym (absorbs was (list_any (λ undo. is_own undo session) (entries_at chains x))
        (λ own. so_far ∙ listed_any (λ slot. list_any (λ undo. is_own undo session) (entries_at chains slot)) (take i slots) x listed own))
    go false listed same =
        let one : found ≡ list_any (λ undo. is_own undo session) (entries_at chains x) = here ∙ ap (λ (s : Slot). list_any (λ undo. is_own undo session) s.entries) same in
        swapped found was ∙ ap (λ b. was || b) one

-- the same entries everywhere
pub pointwise_same : (x : ℕ) (f g : ℕ → List (Undo Before)) → g x ≡ f x → ((k : ℕ) → k ≢ x → g k ≡ f k) → (k : ℕ) → g k ≡ f k
pointwise_same x f g here others k = ⊎_elim (λ is. ap g is ∙ here ∙ ap f (sym is)) (others k) (cases_eq k x)

-- the same rows and entries with at least as much memory can be laid back as before
pub same_kept : (rows new : RowsValue) (chains after : Chains) →
    ((k : ℕ) → IsKept rows k (get_or rows.rows k None) (entries_at chains k)) →
    new.rows ≡ rows.rows → new.columns ≡ rows.columns → rows.room ≤ new.room → ((k : ℕ) → entries_at after k ≡ entries_at chains k) →
    (k : ℕ) → IsKept new k (get_or new.rows k None) (entries_at after k)
same_kept rows new chains after kept same columns room each k =
    subst (λ (l : List (Undo Before)). IsKept new k (get_or new.rows k None) l) (sym (each k))
    (subst (λ (r : Option Row). IsKept new k r (entries_at chains k)) (sym (ap (λ (l : List (Option Row)). get_or l k None) same)) (record {
      room = λ some. let lt : k < rows.room = (kept k).room some in omega arith;
      within = λ some. subst (λ n. k < n) (sym (ap length same)) ((kept k).within some);
      fits = subst (λ cs. All (λ undo. BeforeFits cs undo.before) (entries_at chains k)) (sym columns) (kept k).fits;
      lays = (kept k).lays;
    }))
