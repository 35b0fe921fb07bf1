-- What a write, a commit and a roll-back of a slot do to what is seen of it.
use Rattle.std.proofs.Common.{[], ◌≡◌, ◌≢◌, ℕ, ◌≤◌, Bool, true, false, not, cond, ◌&&◌, ◌||◌, ◌==◌, List, ◌∷◌, Option, None, Some, fold, is_none, refl, sym, ap, ◌∙◌, arith}
use Rattle.std.specs.Prelude.{All, IfNone, IfSome}
use Rattle.std.proofs.lemmas.Bool.Decides.{nat_tests}
use Rattle.std.proofs.lemmas.List.Elements.{All-head, All-tail, All-nil, All-weaker}
use Rattle.undo_chain.specs.declared.undo.Undo.{Undo}
use Rattle.undo_chain.specs.Entry.{is_move, is_own, is_at_most, is_stamped_by}
use Rattle.undo_chain.specs.Lawful.{IsLawful, NoneStampedAbove, IsStampedUpTo}
use Rattle.undo_chain.specs.Visible.{images_laid_back}
use Rattle.undo_chain.proofs.Order.{IsLawful-head, all_not_own}
use Rattle.undo_chain.proofs.Rows.{visible_row-change}
use Rattle.undo_chain.proofs.Views.{images-cons, images_passed, images_at_view}
use Rattle.block_spec.specs.Slots.{Slot, Row, laid_back, seen, written, writer_of, row_after, image_before, kind_of}
use Rattle.block_spec.specs.declared.change.Before.{Before}
use Rattle.block_spec.specs.declared.change.Change.{Change}
use Rattle.event_spec.specs.SlotSound.{IsOfSession}

-- an entry on top without a stamp is its session's own
own_top : (e : Undo Before) (stamp : Option ℕ) (move : Bool) (q : ℕ) → IfNone stamp (move ≡ false) → is_none stamp ≡ true → e.session ≡ q
    → (is_none stamp && not move && (e.session == q)) ≡ true
own_top e None false q w n s = grind (arith, nat_tests)
own_top e None true q w n s = cc
own_top e (Some x) move q w n s = cc

-- the writer's newest entry stands first, without a stamp
pub writer_top : (e : Undo Before) (es : List (Undo Before)) (q : ℕ) → writer_of (e ∷ es) ≡ Some q → (is_none e.stamp ≡ true) × (e.session ≡ q)
writer_top e es q w = go (is_none e.stamp) refl w
  where
    go : (b : Bool) → is_none e.stamp ≡ b → cond b (Some e.session) None ≡ Some q → (is_none e.stamp ≡ true) × (e.session ≡ q)
    go true is w = (is, cc)
    go false is w = cc

-- in a lawful chain the writer's newest entry is its own
pub writer_is_own : (e : Undo Before) (es : List (Undo Before)) (q : ℕ) → IsLawful (e ∷ es) → writer_of (e ∷ es) ≡ Some q → is_own e q ≡ true
writer_is_own e es q lawful w = own_top e e.stamp (is_move e.kind) q (IsLawful-head e es lawful) (writer_top e es q w).0 (writer_top e es q w).1

-- Where the first of two holds, one of them does.
own_from : (own by : Bool) → own ≡ true → own || by ≡ true
own_from true by is = refl
own_from false by is = cc

-- the writer sees the current row
pub seen_writer : (row : Option Row) (es : List (Undo Before)) (s q : ℕ) → IsLawful es → writer_of es ≡ Some q
    → seen (record { row = row; entries = es }) s q ≡ row
seen_writer row [] s q lawful w = cc
seen_writer row (e ∷ es) s q lawful w =
    ap (λ images. fold laid_back row images) (images_at_view e es s q (own_from (is_own e q) (is_stamped_by e s) (writer_is_own e es q lawful w)))

-- whoever else has the writes of nobody in view
not_own_writer : (e : Undo Before) (es : List (Undo Before)) (q : ℕ) → writer_of (e ∷ es) ≢ Some q → is_own e q ≡ false
not_own_writer e es q ne = go e.stamp (is_move e.kind) (e.session == q) refl refl
  where
    go : (stamp : Option ℕ) (move b : Bool) → e.stamp ≡ stamp → (e.session == q) ≡ b → (is_none stamp && not move && b) ≡ false
    go (Some x) move b st se = refl
    go None true b st se = refl
    go None false false st se = refl
    go None false true st se =
        let same : e.session ≡ q = grind (arith, nat_tests) in
        absurd (ne (ap (λ o. cond (is_none o) (Some e.session) None) st ∙ ap Some same))

-- where a session is not the writer no entry is its own
pub none_own : (es : List (Undo Before)) (q : ℕ) → IsLawful es → writer_of es ≢ Some q → All (λ undo. is_own undo q ≡ false) es
none_own [] q lawful ne = All-nil (λ (undo : Undo Before). is_own undo q ≡ false)
none_own (e ∷ es) q lawful ne = all_not_own q e es lawful (not_own_writer e es q ne)

-- no entry is the session 0's
zero_own : (e : Undo Before) → IsOfSession e → is_own e 0 ≡ false
zero_own e pass = go e.stamp (is_move e.kind) pass
  where
    go : (stamp : Option ℕ) (move : Bool) → IfNone stamp (1 ≤ e.session) → (is_none stamp && not move && (e.session == 0)) ≡ false
    go (Some x) move p = refl
    go None true p = refl
    go None false p = grind (arith, nat_tests)

-- no session's entry is of the session 0
pub zero_none : (es : List (Undo Before)) → All IsOfSession es → All (λ undo. is_own undo 0 ≡ false) es
zero_none es passes = All-weaker IsOfSession (λ undo. is_own undo 0 ≡ false) zero_own es passes

-- two sessions without an entry of their own have the same images laid back
pub images_alike : (es : List (Undo Before)) (s q r : ℕ) → All (λ undo. is_own undo q ≡ false) es → All (λ undo. is_own undo r ≡ false) es
    → images_laid_back es s q ≡ images_laid_back es s r
images_alike [] s q r a b = refl
images_alike (e ∷ es) s q r a b =
    let x : is_own e q ≡ false = All-head (λ undo. is_own undo q ≡ false) e es a in
    let y : is_own e r ≡ false = All-head (λ undo. is_own undo r ≡ false) e es b in
    images-cons e es s q
    ∙ ap (λ own. cond (own || is_stamped_by e s) [] (e.before ∷ images_laid_back es s q)) (x ∙ sym y)
    ∙ ap (λ images. cond (is_own e r || is_stamped_by e s) [] (e.before ∷ images))
    (images_alike es s q r (All-tail (λ undo. is_own undo q ≡ false) e es a) (All-tail (λ undo. is_own undo r ≡ false) e es b))
    ∙ sym (images-cons e es s r)

-- who is not the writer sees what one without a session does
pub seen_other : (row : Option Row) (es : List (Undo Before)) (s q : ℕ) → IsLawful es → All IsOfSession es → writer_of es ≢ Some q
    → seen (record { row = row; entries = es }) s q ≡ seen (record { row = row; entries = es }) s 0
seen_other row es s q lawful passes ne =
    ap (λ images. fold laid_back row images) (images_alike es s q 0 (none_own es q lawful ne) (zero_none es passes))

-- where no write is open, a snapshot that has every stamp sees the current row
stamped_in_view : (stamp : Option ℕ) (limit s : ℕ) → IfSome stamp (λ x. x ≤ limit) → limit ≤ s → is_none stamp ≡ false → is_at_most stamp s ≡ true
stamped_in_view None limit s up le n = cc
stamped_in_view (Some x) limit s up le n = grind (arith, nat_tests)

-- Where the second of two holds, one of them does.
or_true : (own by : Bool) → by ≡ true → own || by ≡ true
or_true true by is = refl
or_true false by is = is

-- Without a writer the newest entry has a stamp.
no_writer_top : (e : Undo Before) (es : List (Undo Before)) → writer_of (e ∷ es) ≡ None → is_none e.stamp ≡ false
no_writer_top e es w = go (is_none e.stamp) refl w
  where
    go : (b : Bool) → is_none e.stamp ≡ b → cond b (Some e.session) None ≡ None → is_none e.stamp ≡ false
    go true is w = cc
    go false is w = is

-- without a writer or a later stamp the row that stands there is seen
pub seen_settled : (row : Option Row) (es : List (Undo Before)) (limit s q : ℕ) → NoneStampedAbove es limit → limit ≤ s → writer_of es ≡ None
    → seen (record { row = row; entries = es }) s q ≡ row
seen_settled row [] limit s q up le w = refl
seen_settled row (e ∷ es) limit s q up le w =
    ap (λ images. fold laid_back row images)
    (images_at_view e es s q (or_true (is_own e q) (is_stamped_by e s)
    (stamped_in_view e.stamp limit s (All-head (IsStampedUpTo limit) e es up) le (no_writer_top e es w))))

-- a write changes nothing that a committed view has
pub seen_written : (q : ℕ) (change : Change) (slot : Slot) (s : ℕ) → 1 ≤ q → laid_back (row_after slot.row change) (image_before slot.row change) ≡ slot.row
    → seen (written q change slot) s 0 ≡ seen slot s 0
seen_written q change slot s pass undone =
    let e : Undo Before = record { session = q; stamp = None; number = 0; kind = kind_of change; before = image_before slot.row change } in
    visible_row-change laid_back slot.row (row_after slot.row change) (image_before slot.row change) (e ∷ slot.entries) slot.entries s 0
    (images_passed e slot.entries s 0 (go q (is_move (kind_of change)) pass))
    undone
  where
    go : (q : ℕ) (move : Bool) → 1 ≤ q → ((true && not move && (q == 0)) || false) ≡ false
    go q true p = refl
    go q false p = grind (arith, nat_tests)
