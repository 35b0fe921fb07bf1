-- A session's entries taken off a chain, newest first.
use Rattle.std.proofs.Common.{◌≡◌, ◌∙◌, ℕ, ◌<◌, Bool, true, false, not, ◌||◌, cond, List, [], ◌∷◌, Option, None, map, length, drop, get_or, refl, sym, ap, subst, arith}
use Rattle.std.specs.Prelude.{filter, fold, slice_set, All}
use Rattle.std.specs.List.{list_any}
use Rattle.std.proofs.lemmas.List.Elements.{All-head, All-tail}
use Rattle.std.proofs.lemmas.List.{set-set, get_or-set_same}
use Rattle.std.proofs.Math.ListN.{length-set}
use Rattle.block_spec.specs.declared.change.Before.{Before}
use Rattle.block_spec.specs.Fitting.{BeforeFits}
use Rattle.block_spec.specs.Slots.{Row, Slot, laid_back, rolled_back}
use Rattle.block_columns.specs.Columns.{WantsRow}
use Rattle.undo_chain.specs.declared.undo.Undo.{Undo}
use Rattle.undo_chain.specs.Entry.{is_own}
use Rattle.undo_chain.specs.Lawful.{IsLawful}
use Rattle.undo_chain.proofs.Order.{none_own}
use Rattle.block_body.specs.Rows.{RowsValue}
use Rattle.block_body.specs.Slots.{slot_of}
use Rattle.block_body.specs.Chains.{IsKept, LaysBack}

-- the before-images of a session's entries
abbrev pub own_images : ℕ → List (Undo Before) → List Before
own_images session entries = map (λ undo. undo.before) (filter (λ undo. is_own undo session) entries)

pub record Popped (session : ℕ) (es rest : List (Undo Before)) (before : Before) : Type 0 where
  pub top : Undo Before
  pub is : es ≡ top ∷ rest
  pub image : top.before ≡ before
  pub own : is_own top session ≡ true

-- an entry taken off a lawful chain with one of the session's own is the session's
pub popped : (session : ℕ) (es rest : List (Undo Before)) (before : Before) → IsLawful es →
    list_any (λ undo. is_own undo session) es ≡ true →
    map (λ undo. undo.before) es ≡ before ∷ map (λ undo. undo.before) rest → rest ≡ drop 1 es → Popped session es rest before
popped session [] rest before lawful some images is = cc
popped session (e ∷ es) rest before lawful some images is = record {
  top = e;
  is = ap (λ (l : List (Undo Before)). e ∷ l) (sym is);
  image = head e.before before (map (λ undo. undo.before) es) (map (λ undo. undo.before) rest) images;
  own = go (is_own e session) refl;
}
  where
    head : (x y : Before) (xs ys : List Before) → x ∷ xs ≡ y ∷ ys → x ≡ y
    head x y xs ys same = cc

    go : (b : Bool) → is_own e session ≡ b → is_own e session ≡ true
    go true own = own
    go false own = let no : true ≡ false = sym some ∙ none_own session e es lawful own in cc

-- where a session has no entry, none is its own and all are kept
pub kept_all : (session : ℕ) (es : List (Undo Before)) → list_any (λ undo. is_own undo session) es ≡ false →
    filter (λ undo. not (is_own undo session)) es ≡ es
kept_all session [] none = refl
kept_all session (e ∷ es) none = go (is_own e session) refl none (λ n. kept_all session es n)
  where
    go : (b : Bool) → is_own e session ≡ b → (b || list_any (λ undo. is_own undo session) es) ≡ false →
        (list_any (λ undo. is_own undo session) es ≡ false → filter (λ undo. not (is_own undo session)) es ≡ es) →
        filter (λ undo. not (is_own undo session)) (e ∷ es) ≡ e ∷ es
    go true own none rest = cc
    go false own none rest =
        ap (λ b. cond (not b) (e ∷ filter (λ undo. not (is_own undo session)) es) (filter (λ undo. not (is_own undo session)) es)) own
        ∙ ap (λ (l : List (Undo Before)). e ∷ l) (rest none)

-- where no entry is a session's own it has no before-image
pub none_own_images : (session : ℕ) (es : List (Undo Before)) → list_any (λ undo. is_own undo session) es ≡ false →
    own_images session es ≡ []
none_own_images session [] none = refl
none_own_images session (e ∷ es) none = go (is_own e session) refl none (λ n. none_own_images session es n)
  where
    go : (b : Bool) → is_own e session ≡ b → (b || list_any (λ undo. is_own undo session) es) ≡ false →
        (list_any (λ undo. is_own undo session) es ≡ false → own_images session es ≡ []) → own_images session (e ∷ es) ≡ []
    go true own none rest = cc
    go false own none rest =
        ap (λ b. map (λ (undo : Undo Before). undo.before) (cond b (e ∷ filter (λ undo. is_own undo session) es) (filter (λ undo. is_own undo session) es))) own
        ∙ rest none

-- what a session's roll-back leaves has none of its entries
pub none_left : (session : ℕ) (es : List (Undo Before)) →
    list_any (λ undo. is_own undo session) (filter (λ undo. not (is_own undo session)) es) ≡ false
none_left session [] = refl
none_left session (e ∷ es) = go (is_own e session) refl (none_left session es)
  where
    go : (b : Bool) → is_own e session ≡ b → list_any (λ undo. is_own undo session) (filter (λ undo. not (is_own undo session)) es) ≡ false →
        list_any (λ undo. is_own undo session) (filter (λ undo. not (is_own undo session)) (e ∷ es)) ≡ false
    go true own rest =
        ap (λ b. list_any (λ undo. is_own undo session) (cond (not b) (e ∷ filter (λ undo. not (is_own undo session)) es) (filter (λ undo. not (is_own undo session)) es))) own
        ∙ rest
    go false own rest =
        ap (λ b. list_any (λ undo. is_own undo session) (cond (not b) (e ∷ filter (λ undo. not (is_own undo session)) es) (filter (λ undo. not (is_own undo session)) es))) own
        ∙ ap (λ b. b || list_any (λ undo. is_own undo session) (filter (λ undo. not (is_own undo session)) es)) own
        ∙ rest

-- a slot without the session's entries is as it was
pub rolled_back-none : (session : ℕ) (slot : Slot) → list_any (λ undo. is_own undo session) slot.entries ≡ false → rolled_back session slot ≡ slot
rolled_back-none session slot none =
    ap (λ (l : List (Undo Before)). slot_of (fold laid_back slot.row (own_images session slot.entries)) l) (kept_all session slot.entries none)
    ∙ ap (λ (l : List Before). slot_of (fold laid_back slot.row l) slot.entries) (none_own_images session slot.entries none)

-- a slot that is rolled back twice is rolled back once
pub rolled_back-twice : (session : ℕ) (slot : Slot) → rolled_back session (rolled_back session slot) ≡ rolled_back session slot
rolled_back-twice session slot = rolled_back-none session (rolled_back session slot) (none_left session slot.entries)

module _ (session : ℕ) (es rest : List (Undo Before)) (before : Before) (p : Popped session es rest before) where
  -- the entries of others stay
  pub popped_kept : filter (λ undo. not (is_own undo session)) es ≡ filter (λ undo. not (is_own undo session)) rest
  popped_kept =
      ap (filter (λ undo. not (is_own undo session))) p.is
      ∙ ap (λ b. cond (not b) (p.top ∷ filter (λ undo. not (is_own undo session)) rest) (filter (λ undo. not (is_own undo session)) rest)) p.own

  -- the images of the session's own were the one taken off and those left
  pub popped_images : own_images session es ≡ before ∷ own_images session rest
  popped_images =
      ap (own_images session) p.is
      ∙ ap (λ b. map (λ (undo : Undo Before). undo.before) (cond b (p.top ∷ filter (λ undo. is_own undo session) rest) (filter (λ undo. is_own undo session) rest))) p.own
      ∙ ap (λ (b : Before). b ∷ own_images session rest) p.image

  -- there was an entry
  pub popped_some : 0 < length es
  popped_some = subst (λ (l : List (Undo Before)). 0 < length l) (sym p.is) (omega arith)

  -- its before-image fits the columns
  pub popped_fits : (rows : RowsValue) (slot : ℕ) (row : Option Row) → IsKept rows slot row es → BeforeFits rows.columns before
  popped_fits rows slot row kept =
      subst (BeforeFits rows.columns) p.image
      (All-head (λ undo. BeforeFits rows.columns undo.before) p.top rest (subst (All (λ undo. BeforeFits rows.columns undo.before)) p.is kept.fits))

  -- it can be laid back on the row, and those left on what that makes
  pub popped_wants : (row : Option Row) → LaysBack row es → WantsRow before row × LaysBack (laid_back row before) rest
  popped_wants row lays =
      let both : WantsRow p.top.before row × LaysBack (laid_back row p.top.before) rest = subst (LaysBack row) p.is lays in
      (subst (λ b. WantsRow b row) p.image both.0, subst (λ b. LaysBack (laid_back row b) rest) p.image both.1)

  -- what is left can be laid back on the row after it
  pub popped_is_kept : (old new : RowsValue) (slot : ℕ) → IsKept old slot (get_or old.rows slot None) es →
      new.columns ≡ old.columns → new.room ≡ old.room → new.rows ≡ slice_set old.rows slot (laid_back (get_or old.rows slot None) before) →
      IsKept new slot (get_or new.rows slot None) rest
  popped_is_kept old new slot kept columns room rows = record {
    room = λ some. subst (λ n. slot < n) (sym room) (kept.room popped_some);
    within = λ some. subst (λ n. slot < n) (sym (ap length rows ∙ length-set old.rows slot (laid_back (get_or old.rows slot None) before))) (kept.within popped_some);
    fits = subst (λ cs. All (λ undo. BeforeFits cs undo.before) rest) (sym columns)
        (All-tail (λ undo. BeforeFits old.columns undo.before) p.top rest (subst (All (λ undo. BeforeFits old.columns undo.before)) p.is kept.fits));
    lays = subst (λ r. LaysBack r rest)
        (sym (ap (λ (l : List (Option Row)). get_or l slot None) rows ∙ get_or-set_same old.rows slot (laid_back (get_or old.rows slot None) before) None (kept.within popped_some)))
        (popped_wants (get_or old.rows slot None) kept.lays).1;
  }

  -- and the row that is left in the end is the same
  pub popped_laid : (old new : RowsValue) (slot : ℕ) → slot < length old.rows →
      new.rows ≡ slice_set old.rows slot (laid_back (get_or old.rows slot None) before) →
      slice_set new.rows slot (fold laid_back (get_or new.rows slot None) (own_images session rest))
      ≡ slice_set old.rows slot (fold laid_back (get_or old.rows slot None) (own_images session es))
  popped_laid old new slot lt rows =
      let row : Option Row = laid_back (get_or old.rows slot None) before in
      ap (λ (l : List (Option Row)). slice_set l slot (fold laid_back (get_or l slot None) (own_images session rest))) rows
      ∙ ap (λ (r : Option Row). slice_set (slice_set old.rows slot (laid_back (get_or old.rows slot None) before)) slot (fold laid_back r (own_images session rest)))
      (get_or-set_same old.rows slot (laid_back (get_or old.rows slot None) before) None lt)
      ∙ set-set old.rows slot (laid_back (get_or old.rows slot None) before) (fold laid_back (laid_back (get_or old.rows slot None) before) (own_images session rest))
      ∙ ap (λ (l : List Before). slice_set old.rows slot (fold laid_back (get_or old.rows slot None) l)) (sym popped_images)
