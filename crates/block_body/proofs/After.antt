-- What holds of a body after its chains were changed.
use Rattle.std.proofs.Common.{◌≡◌, ◌≢◌, ◌∙◌, ℕ, suc, ◌+◌, ◌<◌, eqb, Bool, true, false, not, ◌&&◌, ◌||◌, cond, List, [], ◌∷◌, Option, None, Some, map, length, get_or, refl, sym, ap, subst, arith, ⊎_elim}
use Rattle.std.specs.Prelude.{filter, count_by, sum_by, is_none, is_some, IfSome, All}
use Rattle.std.specs.List.{list_any}
use Rattle.std.proofs.lemmas.Bool.{cases_eq}
use Rattle.std.proofs.lemmas.List.{length-map}
use Rattle.std.proofs.lemmas.List.Sums.{sum_by-cons}
use Rattle.std.proofs.lemmas.List.Elements.{All-head, All-tail, All-cons, All-nil}
use Rattle.block_spec.specs.declared.change.Before.{Before}
use Rattle.block_spec.specs.declared.phase.Phase.{Phase}
use Rattle.block_spec.specs.Fitting.{BeforeFits}
use Rattle.block_spec.specs.Slots.{Row, Slot, laid_back, committed, pruned}
use Rattle.block_spec.specs.Bodies.{is_loose}
use Rattle.cell_model.specs.declared.column.Column.{Column}
use Rattle.undo_chain.specs.declared.undo.Undo.{Undo}
use Rattle.undo_chain.specs.Entry.{is_own, is_move, is_stamped_by}
use Rattle.undo_chain.specs.Lawful.{IsLawful}
use Rattle.undo_chain.specs.Stamped.{stamped}
use Rattle.undo_chain.specs.State.{ChainState}
use Rattle.undo_chain.proofs.Order.{IsLawful-nil, IsLawful-tail, all_stamped}
use Rattle.block_body.specs.Frozen.{IsImageOf}
use Rattle.block_body.specs.Rows.{RowsValue}
use Rattle.block_body.specs.Slots.{slot_of, slots_from}
use Rattle.block_body.specs.Chains.{Chains, AreChains, IsKept, LaysBack, chain_at, entries_at, entries_of, is_listed, stamped_below}
use Rattle.block_body.specs.Bodies.{IsBody, SlotLists, slots_of}
use Rattle.block_body.proofs.Pruned.{filter_within}
use Rattle.block_body.proofs.Slots.{slots-map}
use Rattle.block_body.proofs.Whole.{first_chain}

-- chains without an entry are none
pub no_chain : (chains : Chains) → AreChains chains → ((k : ℕ) → entries_at chains k ≡ []) → chains ≡ []
no_chain [] are none = refl
no_chain ((slot, chain) ∷ chains) are none =
    let found : chain_at ((slot, chain) ∷ chains) slot ≡ Some chain = first_chain slot chain chains in
    let some : 0 < length chain.entries = (are.each slot chain found).some in
    let nil : length chain.entries ≡ 0 = ap (λ (l : List (Undo Before)). length l) (sym (ap entries_of found) ∙ none slot) in
    absurd (omega arith)

-- the entries of a slot are lawful
pub lawful_at : (chains : Chains) → AreChains chains → (k : ℕ) → IsLawful (entries_at chains k)
lawful_at chains are k = go (chain_at chains k) refl
  where
    go : (o : Option (ChainState Before)) → chain_at chains k ≡ o → IsLawful (entries_of o)
    go None is = IsLawful-nil
    go (Some chain) is = (are.each k chain is).lawful

module _ (rows new_rows : RowsValue) (chains new : Chains) (lists left : SlotLists) (phase : Phase) (last : ℕ) (is : IsBody rows chains lists phase last)
    (each : AreChains new)
    (kept : (k : ℕ) → IsKept new_rows k (get_or new_rows.rows k None) (entries_at new k))
    (nil : (k : ℕ) → entries_at chains k ≡ [] → entries_at new k ≡ [])
    (image : new_rows.image ≡ rows.image)
    (frozen : IfSome new_rows.image (IsImageOf new_rows.columns new_rows.rows))
    (fewer : (q k : ℕ) → list_any (λ undo. is_own undo q) (entries_at new k) ≡ true → list_any (λ undo. is_own undo q) (entries_at chains k) ≡ true) where
  -- A body that is not loose has no chain after the change either.
  quiet : is_loose phase ≡ false → new ≡ []
  quiet frozen = no_chain new each (λ k. nil k (ap (λ (c : Chains). entries_at c k) (is.quiet frozen)))

  -- no session's list has changed
  pub body_after : IsBody new_rows new lists phase last
  body_after = record {
    each = each;
    kept = kept;
    listed = λ q k own. is.listed q k (fewer q k own);
    quiet = quiet;
    image = ap is_some image ∙ is.image;
    frozen = frozen;
    last = is.last;
  }

  -- a session has no entry any more, and no list
  pub body_without : (session : ℕ) → ((k : ℕ) → list_any (λ undo. is_own undo session) (entries_at new k) ≡ false) →
      ((q : ℕ) → q ≢ session → slots_of left q ≡ slots_of lists q) → IsBody new_rows new left phase last
  body_without session none others = record {
    each = each;
    kept = kept;
    listed = λ q k own. ⊎_elim
        (λ e. absurd (true_false (sym own ∙ ap (λ n. list_any (λ (undo : Undo Before). is_own undo n) (entries_at new k)) e ∙ none k)))
        (λ apart. ap (λ (l : List ℕ). is_listed l k) (others q apart) ∙ is.listed q k (fewer q k own))
        (cases_eq q session);
    quiet = quiet;
    image = ap is_some image ∙ is.image;
    frozen = frozen;
    last = is.last;
  }
    where
      true_false : true ≡ false → ⊥
      true_false is = cc

-- ---- a commit

-- An entry that a commit stamped is nobody's own, and each other stays whose it was.
own_stamped : (session stamp number q : ℕ) (u : Undo Before) (b : Bool) → is_own u session ≡ b →
    is_own (stamped session stamp number u) q ≡ cond b false (is_own u q)
own_stamped session stamp number q u true own = ap (λ b. is_none (cond b (Some stamp) u.stamp) && not (is_move u.kind) && eqb u.session q) own
own_stamped session stamp number q u false own = ap (λ b. is_none (cond b (Some stamp) u.stamp) && not (is_move u.kind) && eqb u.session q) own

-- a commit's stamps make no entry a session's own that was not
pub stamped_fewer : (session stamp number q : ℕ) (es : List (Undo Before)) →
    list_any (λ undo. is_own undo q) (map (stamped session stamp number) es) ≡ true → list_any (λ undo. is_own undo q) es ≡ true
stamped_fewer session stamp number q [] own = own
stamped_fewer session stamp number q (e ∷ es) own =
    go (is_own e session) (is_own e q) (list_any (λ undo. is_own undo q) (map (stamped session stamp number) es)) (list_any (λ undo. is_own undo q) es)
    (sym (ap (λ b. b || list_any (λ (undo : Undo Before). is_own undo q) (map (stamped session stamp number) es)) (own_stamped session stamp number q e (is_own e session) refl)) ∙ own)
    (stamped_fewer session stamp number q es)
  where
    go : (mine one some all : Bool) → (cond mine false one || some) ≡ true → (some ≡ true → all ≡ true) → (one || all) ≡ true
    go mine true some all own rest = refl
    go true false some all own rest = rest own
    go false false some all own rest = rest own

-- after its commit a session has no entry of its own
pub stamped_none_left : (session stamp number : ℕ) (es : List (Undo Before)) →
    list_any (λ undo. is_own undo session) (map (stamped session stamp number) es) ≡ false
stamped_none_left session stamp number [] = refl
stamped_none_left session stamp number (e ∷ es) =
    ap (λ b. b || list_any (λ (undo : Undo Before). is_own undo session) (map (stamped session stamp number) es)) (own_stamped session stamp number session e (is_own e session) refl ∙ neither (is_own e session))
    ∙ stamped_none_left session stamp number es
  where
    neither : (b : Bool) → cond b false b ≡ false
    neither true = refl
    neither false = refl

-- The commit of a session without entries of its own leaves the entries as they are.
stamped_none : (session stamp number : ℕ) (es : List (Undo Before)) → list_any (λ undo. is_own undo session) es ≡ false →
    map (stamped session stamp number) es ≡ es
stamped_none session stamp number [] none = refl
stamped_none session stamp number (e ∷ es) none = go (is_own e session) refl none (λ n. stamped_none session stamp number es n)
  where
    go : (b : Bool) → is_own e session ≡ b → (b || list_any (λ undo. is_own undo session) es) ≡ false →
        (list_any (λ undo. is_own undo session) es ≡ false → map (stamped session stamp number) es ≡ es) →
        map (stamped session stamp number) (e ∷ es) ≡ e ∷ es
    go true own none rest = cc
    go false own none rest =
        ap (λ b. let u : Undo Before = record e { stamp = cond b (Some stamp) e.stamp; number = cond b number e.number } in u ∷ map (stamped session stamp number) es) own
        ∙ ap (λ (l : List (Undo Before)). e ∷ l) (rest none)

-- Before-images that fit the columns still do when a commit stamped the entries.
fits_stamped : (columns : List Column) (session stamp number : ℕ) (es : List (Undo Before)) → All (λ undo. BeforeFits columns undo.before) es →
    All (λ undo. BeforeFits columns undo.before) (map (stamped session stamp number) es)
fits_stamped columns session stamp number [] all = All-nil (λ (undo : Undo Before). BeforeFits columns undo.before)
fits_stamped columns session stamp number (e ∷ es) all =
    All-cons (λ (undo : Undo Before). BeforeFits columns undo.before) (stamped session stamp number e) (map (stamped session stamp number) es)
    (All-head (λ (undo : Undo Before). BeforeFits columns undo.before) e es all)
    (fits_stamped columns session stamp number es (All-tail (λ (undo : Undo Before). BeforeFits columns undo.before) e es all))

-- Entries that can be laid back still can when a commit stamped them.
lays_stamped : (row : Option Row) (session stamp number : ℕ) (es : List (Undo Before)) → LaysBack row es → LaysBack row (map (stamped session stamp number) es)
lays_stamped row session stamp number [] lays = tt
lays_stamped row session stamp number (e ∷ es) lays = (lays.0, lays_stamped (laid_back row e.before) session stamp number es lays.1)

-- entries with a commit's stamps can be laid back as before
pub kept_stamped : (rows : RowsValue) (k : ℕ) (row : Option Row) (session stamp number : ℕ) (es now : List (Undo Before)) → now ≡ map (stamped session stamp number) es →
    IsKept rows k row es → IsKept rows k row now
kept_stamped rows k row session stamp number es now is kept =
    subst (IsKept rows k row) (sym is) (record {
      room = λ some. kept.room (subst (λ n. 0 < n) (length-map es (stamped session stamp number)) some);
      within = λ some. kept.within (subst (λ n. 0 < n) (length-map es (stamped session stamp number)) some);
      fits = fits_stamped rows.columns session stamp number es kept.fits;
      lays = lays_stamped row session stamp number es kept.lays;
    })

-- where each slot with an entry of the session is listed, all its entries are stamped
pub stamped_each : (session stamp number : ℕ) (chains new : Chains) (slots : List ℕ) →
    ((k : ℕ) → list_any (λ undo. is_own undo session) (entries_at chains k) ≡ true → is_listed slots k ≡ true) →
    ((k : ℕ) → entries_at new k ≡ cond (is_listed slots k) (map (stamped session stamp number) (entries_at chains k)) (entries_at chains k)) →
    (k : ℕ) → entries_at new k ≡ map (stamped session stamp number) (entries_at chains k)
stamped_each session stamp number chains new slots all after k = go (is_listed slots k) (list_any (λ undo. is_own undo session) (entries_at chains k)) refl refl (after k)
  where
    go : (b own : Bool) → is_listed slots k ≡ b → list_any (λ undo. is_own undo session) (entries_at chains k) ≡ own →
        entries_at new k ≡ cond b (map (stamped session stamp number) (entries_at chains k)) (entries_at chains k) →
        entries_at new k ≡ map (stamped session stamp number) (entries_at chains k)
    go true own listed mine is = is
    go false true listed mine is = let never : true ≡ false = sym (all k mine) ∙ listed in cc
    go false false listed mine is = is ∙ sym (stamped_none session stamp number (entries_at chains k) mine)

-- what a commit makes of each slot's entries it makes of the slots
pub committed_slots : (session stamp number : ℕ) (chains new : Chains) (rows : List (Option Row)) →
    ((k : ℕ) → entries_at new k ≡ map (stamped session stamp number) (entries_at chains k)) →
    slots_from (entries_at new) 0 rows ≡ map (committed session stamp number) (slots_from (entries_at chains) 0 rows)
committed_slots session stamp number chains new rows each =
    slots-map (entries_at chains) (entries_at new) rows rows (committed session stamp number) refl (λ k lt. ap (slot_of (get_or rows k None)) (each k))

-- ---- a pruning

-- among entries that are left none is a session's own without having been one before
pub filtered_fewer : (p : Undo Before → Bool) (q : ℕ) (es : List (Undo Before)) →
    list_any (λ undo. is_own undo q) (filter p es) ≡ true → list_any (λ undo. is_own undo q) es ≡ true
filtered_fewer p q [] own = own
filtered_fewer p q (e ∷ es) own = go (p e) (is_own e q) refl own (filtered_fewer p q es)
  where
    go : (b one : Bool) → is_own e q ≡ one → list_any (λ undo. is_own undo q) (cond b (e ∷ filter p es) (filter p es)) ≡ true →
        (list_any (λ undo. is_own undo q) (filter p es) ≡ true → list_any (λ undo. is_own undo q) es ≡ true) → (is_own e q || list_any (λ undo. is_own undo q) es) ≡ true
    go b true is own rest = ap (λ x. x || list_any (λ (undo : Undo Before). is_own undo q) es) is
    go true false is own rest = ap (λ x. x || list_any (λ (undo : Undo Before). is_own undo q) es) is ∙ rest (sym (ap (λ x. x || list_any (λ (undo : Undo Before). is_own undo q) (filter p es)) is) ∙ own)
    go false false is own rest = ap (λ x. x || list_any (λ (undo : Undo Before). is_own undo q) es) is ∙ rest own

-- Before-images that fit the columns do so among those that a filter keeps.
fits_filtered : (columns : List Column) (p : Undo Before → Bool) (es : List (Undo Before)) → All (λ undo. BeforeFits columns undo.before) es →
    All (λ undo. BeforeFits columns undo.before) (filter p es)
fits_filtered columns p [] all = All-nil (λ (undo : Undo Before). BeforeFits columns undo.before)
fits_filtered columns p (e ∷ es) all = go (p e) (fits_filtered columns p es (All-tail (λ (undo : Undo Before). BeforeFits columns undo.before) e es all))
  where
    go : (b : Bool) → All (λ undo. BeforeFits columns undo.before) (filter p es) → All (λ undo. BeforeFits columns undo.before) (cond b (e ∷ filter p es) (filter p es))
    go true rest = All-cons (λ (undo : Undo Before). BeforeFits columns undo.before) e (filter p es) (All-head (λ (undo : Undo Before). BeforeFits columns undo.before) e es all) rest
    go false rest = rest

-- where all entries may be pruned none is left
pub all_dropped : (oldest : ℕ) (es : List (Undo Before)) → All (λ undo. is_stamped_by undo oldest ≡ true) es → filter (λ undo. not (is_stamped_by undo oldest)) es ≡ []
all_dropped oldest [] all = refl
all_dropped oldest (e ∷ es) all =
    ap (λ b. cond (not b) (e ∷ filter (λ undo. not (is_stamped_by undo oldest)) es) (filter (λ undo. not (is_stamped_by undo oldest)) es)) (All-head (λ undo. is_stamped_by undo oldest ≡ true) e es all)
    ∙ all_dropped oldest es (All-tail (λ undo. is_stamped_by undo oldest ≡ true) e es all)

-- The entries that a pruning leaves of lawful ones can still be laid back.
lays_pruned : (row : Option Row) (oldest : ℕ) (es : List (Undo Before)) → IsLawful es → LaysBack row es → LaysBack row (filter (λ undo. not (is_stamped_by undo oldest)) es)
lays_pruned row oldest [] lawful lays = tt
lays_pruned row oldest (e ∷ es) lawful lays = go (is_stamped_by e oldest) refl (lays_pruned (laid_back row e.before) oldest es (IsLawful-tail e es lawful) lays.1)
  where
    go : (b : Bool) → is_stamped_by e oldest ≡ b → LaysBack (laid_back row e.before) (filter (λ undo. not (is_stamped_by undo oldest)) es) →
        LaysBack row (cond (not b) (e ∷ filter (λ undo. not (is_stamped_by undo oldest)) es) (filter (λ undo. not (is_stamped_by undo oldest)) es))
    go false is rest = (lays.0, rest)
    go true is rest =
        let none : filter (λ undo. not (is_stamped_by undo oldest)) es ≡ [] =
        all_dropped oldest es (All-tail (λ undo. is_stamped_by undo oldest ≡ true) e es (all_stamped oldest e es lawful is)) in
        subst (LaysBack row) (sym none) tt

-- what a pruning leaves of a slot's entries can still be laid back
pub kept_pruned : (rows : RowsValue) (k : ℕ) (row : Option Row) (oldest : ℕ) (es now : List (Undo Before)) → now ≡ filter (λ undo. not (is_stamped_by undo oldest)) es → IsLawful es →
    IsKept rows k row es → IsKept rows k row now
kept_pruned rows k row oldest es now is lawful kept =
    subst (IsKept rows k row) (sym is) (record {
      room = λ some. kept.room (omega (arith, filter_within (λ (undo : Undo Before). not (is_stamped_by undo oldest)) es));
      within = λ some. kept.within (omega (arith, filter_within (λ (undo : Undo Before). not (is_stamped_by undo oldest)) es));
      fits = fits_filtered rows.columns (λ undo. not (is_stamped_by undo oldest)) es kept.fits;
      lays = lays_pruned row oldest es lawful kept.lays;
    })

-- what a pruning makes of each slot's entries it makes of the slots
pub pruned_slots : (oldest : ℕ) (chains new : Chains) (rows : List (Option Row)) →
    ((k : ℕ) → entries_at new k ≡ filter (λ undo. not (is_stamped_by undo oldest)) (entries_at chains k)) →
    slots_from (entries_at new) 0 rows ≡ map (pruned oldest) (slots_from (entries_at chains) 0 rows)
pruned_slots oldest chains new rows each =
    slots-map (entries_at chains) (entries_at new) rows rows (pruned oldest) refl (λ k lt. ap (slot_of (get_or rows k None)) (each k))

-- what a pruning drops of some slots adds to what it drops of those below
pub pruned_count : (f : ℕ → List (Undo Before)) (oldest at : ℕ) (rows : List (Option Row)) →
    sum_by (λ slot. count_by (λ undo. is_stamped_by undo oldest) slot.entries) (slots_from f at rows) + stamped_below f oldest at ≡ stamped_below f oldest (at + length rows)
pruned_count f oldest at [] =
    let same : at ≡ at + 0 = omega arith in
    let none : 0 + stamped_below f oldest at ≡ stamped_below f oldest at = omega arith in
    none ∙ ap (stamped_below f oldest) same
pruned_count f oldest at (row ∷ rows) =
    let first : sum_by (λ slot. count_by (λ undo. is_stamped_by undo oldest) slot.entries) (slots_from f at (row ∷ rows))
    ≡ count_by (λ undo. is_stamped_by undo oldest) (f at) + sum_by (λ slot. count_by (λ undo. is_stamped_by undo oldest) slot.entries) (slots_from f (at + 1) rows) =
    sum_by-cons (λ (slot : Slot). count_by (λ undo. is_stamped_by undo oldest) slot.entries) (slot_of row (f at)) (slots_from f (at + 1) rows) in
    let next : at + 1 ≡ suc at = omega arith in
    let one : stamped_below f oldest (at + 1) ≡ stamped_below f oldest at + count_by (λ undo. is_stamped_by undo oldest) (f at) = ap (stamped_below f oldest) next in
    let rest : sum_by (λ slot. count_by (λ undo. is_stamped_by undo oldest) slot.entries) (slots_from f (at + 1) rows) + stamped_below f oldest (at + 1) ≡ stamped_below f oldest (at + 1 + length rows) =
    pruned_count f oldest (at + 1) rows in
    let end : at + 1 + length rows ≡ at + suc (length rows) = omega arith in
    let all : stamped_below f oldest (at + 1 + length rows) ≡ stamped_below f oldest (at + suc (length rows)) = ap (stamped_below f oldest) end in
    omega arith
