-- What a commit and a roll-back do to a slot.
use Rattle.std.proofs.Common.{[], ◌≡◌, ◌≢◌, ℕ, ◌<◌, ◌≤◌, ℤ, Bool, true, false, not, cond, ◌&&◌, ◌||◌, ◌==◌, List, ◌∷◌, map, Option, None, Some, fold, is_none, is_some, refl, sym, ap, subst, ◌∙◌, arith}
use Rattle.std.specs.Prelude.{All, filter}
use Rattle.std.proofs.lemmas.Bool.Decides.{nat_tests}
use Rattle.std.proofs.lemmas.List.Elements.{All-head, All-tail, All-weaker}
use Rattle.undo_chain.specs.declared.undo.Undo.{Undo}
use Rattle.undo_chain.specs.Entry.{is_move, is_own, is_at_most, is_stamped_by, is_in_view}
use Rattle.undo_chain.specs.Lawful.{IsLawful}
use Rattle.undo_chain.specs.Stamped.{stamped}
use Rattle.undo_chain.proofs.Order.{IsLawful-tail, all_not_own}
use Rattle.undo_chain.proofs.Rows.{visible_row-same}
use Rattle.undo_chain.proofs.Views.{images_passed, images_at_view, images_after_commit}
use Rattle.block_spec.specs.Slots.{Slot, Row, laid_back, seen, written, committed, rolled_back, writer_of, row_after, image_before}
use Rattle.block_spec.specs.declared.change.Before.{Before}
use Rattle.block_spec.specs.declared.change.Change.{Change}
use Rattle.core_laws.proofs.Slots.Keys.{HasKey}
use Rattle.event_spec.specs.SlotSound.{Keyed}
use Rattle.core_laws.proofs.Slots.Views.{none_own, writer_is_own}

-- ---- a commit

-- below its stamp a commit changes nothing that is seen of a slot
pub seen_committed : (q S N : ℕ) (slot : Slot) (s : ℕ) → 1 ≤ q → s < S → seen (committed q S N slot) s 0 ≡ seen slot s 0
seen_committed q S N slot s pass below =
    visible_row-same laid_back slot.row (map (stamped q S N) slot.entries) slot.entries s 0
    (images_after_commit q S N slot.entries s 0 (λ e. absurd (omega (arith, e, pass))) below)

-- an entry that is not the session's own is left as it is
pub stamped_not_own : (q S N : ℕ) (e : Undo Before) → is_own e q ≡ false → stamped q S N e ≡ e
stamped_not_own q S N e out = ap (λ b. record e { stamp = cond b (Some S) e.stamp; number = cond b N e.number }) out

-- an entry of its own gets the commit's stamp
pub stamp_of_own : (q S N : ℕ) (e : Undo Before) → is_own e q ≡ true → (stamped q S N e).stamp ≡ Some S
stamp_of_own q S N e own = ap (λ b. cond b (Some S) e.stamp) own

-- and its number
pub number_of_own : (q S N : ℕ) (e : Undo Before) → is_own e q ≡ true → (stamped q S N e).number ≡ N
number_of_own q S N e own = ap (λ b. cond b N e.number) own

-- A commit leaves entries of which none is its session's own.
all_stamped_none : (q S N : ℕ) (es : List (Undo Before)) → All (λ undo. is_own undo q ≡ false) es → map (stamped q S N) es ≡ es
all_stamped_none q S N [] all = refl
all_stamped_none q S N (e ∷ es) all =
    ap (λ x. x ∷ map (stamped q S N) es) (stamped_not_own q S N e (All-head (λ undo. is_own undo q ≡ false) e es all))
    ∙ ap (λ xs. e ∷ xs) (all_stamped_none q S N es (All-tail (λ undo. is_own undo q ≡ false) e es all))

-- a slot that the session did not write stays
pub committed_other : (q S N : ℕ) (slot : Slot) → IsLawful slot.entries → writer_of slot.entries ≢ Some q → committed q S N slot ≡ slot
committed_other q S N slot lawful ne =
    ap (λ es. record slot { entries = es }) (all_stamped_none q S N slot.entries (none_own slot.entries q lawful ne))

-- after its commit the writer's row is what every snapshot from its stamp on sees, and the slot has
-- no writer
pub committed_writer : (q S N : ℕ) (slot : Slot) → IsLawful slot.entries → writer_of slot.entries ≡ Some q → writer_of (map (stamped q S N) slot.entries) ≡ None
committed_writer q S N slot lawful w = go slot.entries lawful w
  where
    go : (es : List (Undo Before)) → IsLawful es → writer_of es ≡ Some q → writer_of (map (stamped q S N) es) ≡ None
    go [] lawful w = refl
    go (e ∷ es) lawful w =
        ap (λ o. cond (is_none o) (Some (stamped q S N e).session) None) (stamp_of_own q S N e (writer_is_own e es q lawful w))

-- Where the second of two holds, one of them does.
or_true : (own by : Bool) → by ≡ true → own || by ≡ true
or_true true by is = refl
or_true false by is = is

-- from its stamp on the writer's row is seen
pub seen_after_commit : (q S N : ℕ) (slot : Slot) (s : ℕ) → IsLawful slot.entries → writer_of slot.entries ≡ Some q → S ≤ s
    → seen (committed q S N slot) s 0 ≡ slot.row
seen_after_commit q S N slot s lawful w later = go slot.entries lawful w
  where
    go : (es : List (Undo Before)) → IsLawful es → writer_of es ≡ Some q → seen (record { row = slot.row; entries = map (stamped q S N) es }) s 0 ≡ slot.row
    go [] lawful w = cc
    go (e ∷ es) lawful w =
        let at : is_at_most (Some S) s ≡ true = grind (arith, nat_tests) in
        ap (λ images. fold laid_back slot.row images)
        (images_at_view (stamped q S N e) (map (stamped q S N) es) s 0
        (or_true (is_own (stamped q S N e) 0) (is_stamped_by (stamped q S N e) s)
        (ap (λ o. is_at_most o s) (stamp_of_own q S N e (writer_is_own e es q lawful w)) ∙ at)))

-- ---- a roll-back

-- Where all entries pass, all are kept.
filter_all : (p : Undo Before → Bool) (es : List (Undo Before)) → All (λ e. p e ≡ true) es → filter p es ≡ es
filter_all p [] all = refl
filter_all p (e ∷ es) all =
    ap (λ b. cond b (e ∷ filter p es) (filter p es)) (All-head (λ e. p e ≡ true) e es all)
    ∙ ap (λ xs. e ∷ xs) (filter_all p es (All-tail (λ e. p e ≡ true) e es all))

-- Where no entry passes, none is kept.
filter_nothing : (p : Undo Before → Bool) (es : List (Undo Before)) → All (λ e. p e ≡ false) es → filter p es ≡ []
filter_nothing p [] all = refl
filter_nothing p (e ∷ es) all =
    ap (λ b. cond b (e ∷ filter p es) (filter p es)) (All-head (λ e. p e ≡ false) e es all)
    ∙ filter_nothing p es (All-tail (λ e. p e ≡ false) e es all)

-- the entries that a session's roll-back leaves
abbrev pub rest_of : ℕ → List (Undo Before) → List (Undo Before)
rest_of q es = filter (λ undo. not (is_own undo q)) es

-- the row that it leaves
abbrev pub row_of : ℕ → Option Row → List (Undo Before) → Option Row
row_of q row es = fold laid_back row (map (λ undo. undo.before) (filter (λ undo. is_own undo q) es))

-- where no entry is the session's own, a roll-back leaves the entries and the row
pub rolled_none : (q : ℕ) (row : Option Row) (es : List (Undo Before)) → All (λ undo. is_own undo q ≡ false) es
    → (rest_of q es ≡ es) × (row_of q row es ≡ row)
rolled_none q row es all = (
  filter_all (λ undo. not (is_own undo q)) es (All-weaker (λ undo. is_own undo q ≡ false) (λ undo. not (is_own undo q) ≡ true) (λ e is. ap not is) es all),
  ap (λ xs. fold laid_back row (map (λ undo. undo.before) xs)) (filter_nothing (λ undo. is_own undo q) es all),
)

-- a slot of which the session is not the writer is left as it is
pub rolled_back_other : (q : ℕ) (slot : Slot) → IsLawful slot.entries → writer_of slot.entries ≢ Some q → rolled_back q slot ≡ slot
rolled_back_other q slot lawful ne =
    let none = none_own slot.entries q lawful ne in
    let both = rolled_none q slot.row slot.entries none in
    ap (λ es. record { row = row_of q slot.row slot.entries; entries = es }) both.0 ∙ ap (λ row. record { row = row; entries = slot.entries }) both.1

-- one own entry more
pub rest_own : (q : ℕ) (e : Undo Before) (es : List (Undo Before)) → is_own e q ≡ true → rest_of q (e ∷ es) ≡ rest_of q es
rest_own q e es own = ap (λ b. cond (not b) (e ∷ rest_of q es) (rest_of q es)) own

-- the session's newest entry is laid back first
pub row_own : (q : ℕ) (row : Option Row) (e : Undo Before) (es : List (Undo Before)) → is_own e q ≡ true → row_of q row (e ∷ es) ≡ row_of q (laid_back row e.before) es
row_own q row e es own = ap (λ b. fold laid_back row (map (λ undo. undo.before) (cond b (e ∷ filter (λ undo. is_own undo q) es) (filter (λ undo. is_own undo q) es)))) own

-- An entry of a session's own is not in the view of nobody.
own_not_nobody : (e : Undo Before) (q s : ℕ) → 1 ≤ q → is_own e q ≡ true → is_in_view e s 0 ≡ false
own_not_nobody e q s pass own = go e.stamp (is_move e.kind) e.session pass own
  where
    go : (stamp : Option ℕ) (move : Bool) (session : ℕ) → 1 ≤ q → (is_none stamp && not move && (session == q)) ≡ true
        → ((is_none stamp && not move && (session == 0)) || is_at_most stamp s) ≡ false
    go (Some x) move session p own = cc
    go None true session p own = cc
    go None false session p own = grind (arith, nat_tests)

-- a roll-back changes nothing that others see of a slot
pub seen_rolled : (q : ℕ) (row : Option Row) (es : List (Undo Before)) (s : ℕ) → 1 ≤ q → IsLawful es
    → seen (rolled_back q (record { row = row; entries = es })) s 0 ≡ seen (record { row = row; entries = es }) s 0
seen_rolled q row [] s pass lawful = refl
seen_rolled q row (e ∷ es) s pass lawful = go (is_own e q) refl (seen_rolled q (laid_back row e.before) es s pass (IsLawful-tail e es lawful))
  where
    go : (b : Bool) → is_own e q ≡ b
        → seen (record { row = row_of q (laid_back row e.before) es; entries = rest_of q es }) s 0 ≡ seen (record { row = laid_back row e.before; entries = es }) s 0
        → seen (record { row = row_of q row (e ∷ es); entries = rest_of q (e ∷ es) }) s 0 ≡ seen (record { row = row; entries = e ∷ es }) s 0
    go true own rest =
        ap (λ es'. seen (record { row = row_of q row (e ∷ es); entries = es' }) s 0) (rest_own q e es own)
        ∙ ap (λ row'. seen (record { row = row'; entries = rest_of q es }) s 0) (row_own q row e es own)
        ∙ rest
        ∙ ap (λ images. fold laid_back row images) (sym (images_passed e es s 0 (own_not_nobody e q s pass own)))
    go false own rest =
        let both = rolled_none q row (e ∷ es) (all_not_own q e es lawful own) in
        ap (λ es'. seen (record { row = row_of q row (e ∷ es); entries = es' }) s 0) both.0 ∙ ap (λ row'. seen (record { row = row'; entries = e ∷ es }) s 0) both.1

-- ---- keys of versions

-- what is seen of a slot with a key has the key
pub seen_keyed : (key : ℤ) (row : Option Row) (es : List (Undo Before)) (s q : ℕ) → Keyed key row es → HasKey key (seen (record { row = row; entries = es }) s q)
seen_keyed key row [] s q keyed = keyed
seen_keyed key row (e ∷ es) s q keyed = go (is_in_view e s q) refl (seen_keyed key (laid_back row e.before) es s q keyed.2)
  where
    go : (b : Bool) → is_in_view e s q ≡ b → HasKey key (seen (record { row = laid_back row e.before; entries = es }) s q)
        → HasKey key (seen (record { row = row; entries = e ∷ es }) s q)
    go true is rest = subst (λ images. HasKey key (fold laid_back row images)) (sym (images_at_view e es s q is)) keyed.0
    go false is rest = subst (λ images. HasKey key (fold laid_back row images)) (sym (images_passed e es s q is)) rest

-- a write of a row with the key, or one that takes such a row, keeps a slot's key
pub written_keyed : (key : ℤ) (q : ℕ) (change : Change) (slot : Slot) → laid_back (row_after slot.row change) (image_before slot.row change) ≡ slot.row
    → HasKey key (row_after slot.row change) → (is_some (row_after slot.row change) || is_some slot.row) ≡ true → Keyed key slot.row slot.entries → Keyed key (written q change slot).row (written q change slot).entries
written_keyed key q change slot undone here there keyed = (here, ap (λ row. is_some (row_after slot.row change) || is_some row) undone ∙ there, subst (λ row. Keyed key row slot.entries) (sym undone) keyed)

-- a commit keeps it
pub committed_keyed : (key : ℤ) (q S N : ℕ) (row : Option Row) (es : List (Undo Before)) → Keyed key row es → Keyed key row (map (stamped q S N) es)
committed_keyed key q S N row [] keyed = keyed
committed_keyed key q S N row (e ∷ es) keyed = (keyed.0, keyed.1, committed_keyed key q S N (laid_back row e.before) es keyed.2)

-- the row of a slot with a key has the key
pub keyed_row : (key : ℤ) (row : Option Row) (es : List (Undo Before)) → Keyed key row es → HasKey key row
keyed_row key row [] keyed = keyed
keyed_row key row (e ∷ es) keyed = keyed.0

-- a roll-back keeps the key
pub rolled_keyed : (key : ℤ) (q : ℕ) (row : Option Row) (es : List (Undo Before)) → IsLawful es → Keyed key row es → Keyed key (row_of q row es) (rest_of q es)
rolled_keyed key q row [] lawful keyed = keyed
rolled_keyed key q row (e ∷ es) lawful keyed = go (is_own e q) refl (rolled_keyed key q (laid_back row e.before) es (IsLawful-tail e es lawful) keyed.2)
  where
    go : (b : Bool) → is_own e q ≡ b → Keyed key (row_of q (laid_back row e.before) es) (rest_of q es) → Keyed key (row_of q row (e ∷ es)) (rest_of q (e ∷ es))
    go true own rest =
        subst (λ es'. Keyed key (row_of q row (e ∷ es)) es') (sym (rest_own q e es own))
        (subst (λ row'. Keyed key row' (rest_of q es)) (sym (row_own q row e es own)) rest)
    go false own rest =
        let both = rolled_none q row (e ∷ es) (all_not_own q e es lawful own) in
        subst (λ es'. Keyed key (row_of q row (e ∷ es)) es') (sym both.0) (subst (λ row'. Keyed key row' (e ∷ es)) (sym both.1) keyed)
