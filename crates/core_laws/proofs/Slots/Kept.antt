-- Bare slots, the numbers of commits, and that slots stay sound.
use Rattle.std.proofs.Common.{[], ◌≡◌, ◌≢◌, ◌⊎◌, ℕ, ◌+◌, ◌<◌, ◌≤◌, Bool, true, false, not, cond, ◌&&◌, ◌||◌, ◌==◌, List, ◌∷◌, map, Option, None, Some, fold, is_none, is_some, refl, sym, ap, subst, ◌∙◌, arith, nat_le}
use mathlib.Core.Logic.{inl, inr}
use Rattle.std.specs.Prelude.{All, filter, IfNone, IfSome}
use Rattle.std.proofs.lemmas.Bool.Decides.{nat_tests}
use Rattle.std.proofs.lemmas.List.Elements.{All-head, All-tail, All-cons, All-nil, All-weaker, All-filter}
use Rattle.std.proofs.lemmas.Bool.{or_right, or_left}
use Rattle.undo_chain.specs.declared.undo.Undo.{Undo}
use Rattle.undo_chain.specs.Entry.{is_move, is_own, is_at_most, is_in_view, is_commit_above}
use Rattle.undo_chain.specs.Conflict.{numbers_above}
use Rattle.undo_chain.specs.Lawful.{IsLawful, MayStandAbove, NoneStampedAbove, IsStampedUpTo}
use Rattle.undo_chain.specs.Stamped.{stamped}
use Rattle.undo_chain.specs.Visible.{images_laid_back}
use Rattle.undo_chain.proofs.Order.{IsLawful-tail, IsLawful-filter, IsLawful-stamped, IsLawful-above}
use Rattle.undo_chain.proofs.Views.{images_at_view, images_passed}
use Rattle.block_spec.specs.Slots.{Slot, Row, bare, is_bare, has_none, laid_back, seen, committed, rolled_back, writer_of}
use Rattle.block_spec.specs.declared.change.Before.{Before}
use Rattle.event_spec.specs.SlotSound.{IsOfSession, IsSoundSlot}
use Rattle.event_spec.specs.Lawful.{Among}
use Rattle.event_spec.specs.Follows.{is_current}
use Rattle.core_laws.proofs.Slots.Views.{writer_top, writer_is_own, none_own, seen_settled}
use Rattle.core_laws.proofs.Slots.Endings.{number_of_own, stamp_of_own, stamped_not_own, rest_of, rest_own, rolled_none}

-- what is there or not is a number, or is not
pub same_option : (a : Option ℕ) (q : ℕ) → (a ≡ Some q) ⊎ (a ≢ Some q)
same_option None q = inr (λ e. cc)
same_option (Some w) q = go (w == q) refl
  where
    go : (b : Bool) → (w == q) ≡ b → (Some w ≡ Some q) ⊎ (Some w ≢ Some q)
    go true is = inl (ap Some (grind (arith, nat_tests)))
    go false is = inr (λ e. let s : w ≡ q = cc in absurd (grind (arith, nat_tests)))

-- ---- bare slots

-- a slot that is tested bare is the bare one
pub bare_is : (slot : Slot) → is_bare slot ≡ true → slot ≡ bare
bare_is slot is = go slot.row slot.entries refl refl is
  where
    go : (row : Option Row) (es : List (Undo Before)) → slot.row ≡ row → slot.entries ≡ es → (is_none row && has_none es) ≡ true → slot ≡ bare
    go None [] r e is = ap (λ row. record { row = row; entries = slot.entries }) r ∙ ap (λ es. record { row = None; entries = es }) e
    go None (x ∷ xs) r e is = cc
    go (Some x) es r e is = cc

-- what shows a row, has a writer or a number is not bare
pub shown_filled : (slot : Slot) (s q : ℕ) → is_some (seen slot s q) ≡ true → is_bare slot ≡ false
shown_filled slot s q some = go (is_bare slot) refl
  where
    go : (b : Bool) → is_bare slot ≡ b → is_bare slot ≡ false
    go true is = let n : is_some (seen slot s q) ≡ false = ap (λ (x : Slot). is_some (seen x s q)) (bare_is slot is) in absurd (let e : true ≡ false = sym some ∙ n in cc)
    go false is = is

-- a slot that has a writer is not bare
pub writer_filled : (slot : Slot) (q : ℕ) → writer_of slot.entries ≡ Some q → is_bare slot ≡ false
writer_filled slot q w = go (is_bare slot) refl
  where
    go : (b : Bool) → is_bare slot ≡ b → is_bare slot ≡ false
    go true is = let n : writer_of slot.entries ≡ None = ap (λ (x : Slot). writer_of x.entries) (bare_is slot is) in absurd (let e : Some q ≡ None = sym w ∙ n in cc)
    go false is = is

-- nor is one that has a commit above a snapshot
pub number_filled : (slot : Slot) (s k : ℕ) → Among k (numbers_above slot.entries s) → is_bare slot ≡ false
number_filled slot s k among = go (is_bare slot) refl
  where
    go : (b : Bool) → is_bare slot ≡ b → is_bare slot ≡ false
    go true is = absurd (subst (λ (x : Slot). Among k (numbers_above x.entries s)) (bare_is slot is) among)
    go false is = is

-- ---- the newest view

-- a snapshot that has every stamp sees the same at each later one
pub seen_later : (row : Option Row) (es : List (Undo Before)) (limit s : ℕ) → NoneStampedAbove es limit → limit ≤ s
    → seen (record { row = row; entries = es }) s 0 ≡ seen (record { row = row; entries = es }) limit 0
seen_later row es limit s up le = ap (λ images. fold laid_back row images) (go es up)
  where
    view : (own : Bool) (stamp : Option ℕ) → IfSome stamp (λ x. x ≤ limit) → (own || is_at_most stamp s) ≡ (own || is_at_most stamp limit)
    view true stamp u = refl
    view false None u = refl
    view false (Some x) u = grind (arith, nat_tests)

    step : (e : Undo Before) (xs : List (Undo Before)) (b : Bool) → is_in_view e limit 0 ≡ b → IfSome e.stamp (λ x. x ≤ limit)
        → images_laid_back xs s 0 ≡ images_laid_back xs limit 0 → images_laid_back (e ∷ xs) s 0 ≡ images_laid_back (e ∷ xs) limit 0
    step e xs true is u rest = images_at_view e xs s 0 (view (is_own e 0) e.stamp u ∙ is) ∙ sym (images_at_view e xs limit 0 is)
    step e xs false is u rest = images_passed e xs s 0 (view (is_own e 0) e.stamp u ∙ is) ∙ ap (λ ys. e.before ∷ ys) rest ∙ sym (images_passed e xs limit 0 is)

    go : (xs : List (Undo Before)) → NoneStampedAbove xs limit → images_laid_back xs s 0 ≡ images_laid_back xs limit 0
    go [] u = refl
    go (e ∷ xs) u = step e xs (is_in_view e limit 0) refl (All-head (IsStampedUpTo limit) e xs u) (go xs (All-tail (IsStampedUpTo limit) e xs u))

-- a slot that shows a row at a snapshot that has every stamp is current
pub shown_current : (slot : Slot) (limit : ℕ) → NoneStampedAbove slot.entries limit → is_some (seen slot limit 0) ≡ true → is_current slot ≡ true
shown_current slot limit up some = go (writer_of slot.entries) refl
  where
    go : (w : Option ℕ) → writer_of slot.entries ≡ w → is_current slot ≡ true
    go None is = or_left (is_some slot.row) (is_some (writer_of slot.entries)) (sym (ap is_some (seen_settled slot.row slot.entries limit limit 0 up (omega arith) is)) ∙ some)
    go (Some w) is = or_right (is_some slot.row) (is_some (writer_of slot.entries)) (ap is_some is)

-- a slot that has a writer is current
pub writer_current : (slot : Slot) (q : ℕ) → writer_of slot.entries ≡ Some q → is_current slot ≡ true
writer_current slot q w = or_right (is_some slot.row) (is_some (writer_of slot.entries)) (ap is_some w)

-- ---- numbers

-- where no entry has a stamp above a snapshot's, no commit is above it
pub numbers_settled : (es : List (Undo Before)) (limit s : ℕ) → NoneStampedAbove es limit → limit ≤ s → numbers_above es s ≡ []
numbers_settled [] limit s up le = refl
numbers_settled (e ∷ es) limit s up le =
    ap (λ b. map (λ undo. undo.number) (cond b (e ∷ filter (λ undo. is_commit_above undo s) es) (filter (λ undo. is_commit_above undo s) es)))
    (go e.stamp (is_move e.kind) (All-head (IsStampedUpTo limit) e es up))
    ∙ numbers_settled es limit s (All-tail (IsStampedUpTo limit) e es up) le
  where
    go : (stamp : Option ℕ) (move : Bool) → IfSome stamp (λ x. x ≤ limit) → (is_some stamp && not (is_at_most stamp s) && not move) ≡ false
    go None move u = refl
    go (Some x) true u = grind (arith, nat_tests)
    go (Some x) false u = grind (arith, nat_tests)

-- A session's own entry that is not committed is no commit above a stamp.
own_no_number : (e : Undo Before) (q s : ℕ) → is_own e q ≡ true → is_commit_above e s ≡ false
own_no_number e q s own = go e.stamp (is_move e.kind) (e.session == q) own
  where
    go : (stamp : Option ℕ) (move b : Bool) → (is_none stamp && not move && b) ≡ true → (is_some stamp && not (is_at_most stamp s) && not move) ≡ false
    go None move b own = refl
    go (Some x) move b own = cc

-- the commits above a snapshot with one entry more
pub numbers_step : (e : Undo Before) (es : List (Undo Before)) (s : ℕ) (b : Bool) → is_commit_above e s ≡ b → numbers_above (e ∷ es) s ≡ cond b (e.number ∷ numbers_above es s) (numbers_above es s)
numbers_step e es s true is = ap (λ b. map (λ undo. undo.number) (cond b (e ∷ filter (λ undo. is_commit_above undo s) es) (filter (λ undo. is_commit_above undo s) es))) is
numbers_step e es s false is = ap (λ b. map (λ undo. undo.number) (cond b (e ∷ filter (λ undo. is_commit_above undo s) es) (filter (λ undo. is_commit_above undo s) es))) is

-- a roll-back leaves the commits above a snapshot
pub numbers_rolled : (q s : ℕ) (es : List (Undo Before)) → numbers_above (rest_of q es) s ≡ numbers_above es s
numbers_rolled q s [] = refl
numbers_rolled q s (e ∷ es) = go (is_own e q) refl (numbers_rolled q s es)
  where
    go : (b : Bool) → is_own e q ≡ b → numbers_above (rest_of q es) s ≡ numbers_above es s → numbers_above (rest_of q (e ∷ es)) s ≡ numbers_above (e ∷ es) s
    go true own rest = ap (λ xs. numbers_above xs s) (rest_own q e es own) ∙ rest ∙ sym (numbers_step e es s false (own_no_number e q s own))
    go false own rest =
        ap (λ b. numbers_above (cond (not b) (e ∷ rest_of q es) (rest_of q es)) s) own
        ∙ numbers_step e (rest_of q es) s (is_commit_above e s) refl
        ∙ ap (λ ns. cond (is_commit_above e s) (e.number ∷ ns) ns) rest
        ∙ sym (numbers_step e es s (is_commit_above e s) refl)

-- A number among some is among them with one more in front or not.
among_more : (k n : ℕ) (b : Bool) (ns : List ℕ) → Among k ns → Among k (cond b (n ∷ ns) ns)
among_more k n true ns a = inr a
among_more k n false ns a = a

-- A number among some with one more in front or not is that one or among the others.
among_back : (k n : ℕ) (b : Bool) (ns : List ℕ) → Among k (cond b (n ∷ ns) ns) → ((b ≡ true) × (k ≡ n)) ⊎ Among k ns
among_back k n true ns (inl e) = inl (refl, e)
among_back k n true ns (inr a) = inr a
among_back k n false ns a = inr a

-- a number above a stamp is the newest entry's, or stands below
among_cons : (k s : ℕ) (e : Undo Before) (es : List (Undo Before)) → Among k (numbers_above (e ∷ es) s) → ((is_commit_above e s ≡ true) × (k ≡ e.number)) ⊎ Among k (numbers_above es s)
among_cons k s e es a = among_back k e.number (is_commit_above e s) (numbers_above es s) (subst (Among k) (numbers_step e es s (is_commit_above e s) refl) a)

-- The number of a newest entry that is a commit above the snapshot is among those above.
among_top : (s : ℕ) (e : Undo Before) (es : List (Undo Before)) → is_commit_above e s ≡ true → Among e.number (numbers_above (e ∷ es) s)
among_top s e es is = subst (Among e.number) (sym (numbers_step e es s true is)) (inl refl)

-- A number above a snapshot is so with one entry more on top.
among_rest : (k s : ℕ) (e : Undo Before) (es : List (Undo Before)) → Among k (numbers_above es s) → Among k (numbers_above (e ∷ es) s)
among_rest k s e es a = subst (Among k) (sym (numbers_step e es s (is_commit_above e s) refl)) (among_more k e.number (is_commit_above e s) (numbers_above es s) a)

-- after a commit a number is its own, or was there
pub numbers_of_commit : (q S N s k : ℕ) (es : List (Undo Before)) → Among k (numbers_above (map (stamped q S N) es) s) → (k ≡ N) ⊎ Among k (numbers_above es s)
numbers_of_commit q S N s k [] among = absurd among
numbers_of_commit q S N s k (e ∷ es) among = go (is_own e q) refl (numbers_of_commit q S N s k es) (among_cons k s (stamped q S N e) (map (stamped q S N) es) among)
  where
    rest : (k ≡ N) ⊎ Among k (numbers_above es s) → (k ≡ N) ⊎ Among k (numbers_above (e ∷ es) s)
    rest (inl n) = inl n
    rest (inr a) = inr (among_rest k s e es a)

    go : (b : Bool) → is_own e q ≡ b → (Among k (numbers_above (map (stamped q S N) es) s) → (k ≡ N) ⊎ Among k (numbers_above es s))
        → ((is_commit_above (stamped q S N e) s ≡ true) × (k ≡ (stamped q S N e).number)) ⊎ Among k (numbers_above (map (stamped q S N) es) s)
        → (k ≡ N) ⊎ Among k (numbers_above (e ∷ es) s)
    go b own before (inr a) = rest (before a)
    go true own before (inl both) = inl (both.1 ∙ number_of_own q S N e own)
    go false own before (inl both) =
        let same : stamped q S N e ≡ e = stamped_not_own q S N e own in
        inr (subst (λ n. Among n (numbers_above (e ∷ es) s)) (sym (both.1 ∙ ap (λ (u : Undo Before). u.number) same))
        (among_top s e es (sym (ap (λ u. is_commit_above u s) same) ∙ both.0)))

-- and what was there stays
pub numbers_stay : (q S N s k : ℕ) (es : List (Undo Before)) → Among k (numbers_above es s) → Among k (numbers_above (map (stamped q S N) es) s)
numbers_stay q S N s k [] among = absurd among
numbers_stay q S N s k (e ∷ es) among = go (is_own e q) refl (numbers_stay q S N s k es) (among_cons k s e es among)
  where
    go : (b : Bool) → is_own e q ≡ b → (Among k (numbers_above es s) → Among k (numbers_above (map (stamped q S N) es) s))
        → ((is_commit_above e s ≡ true) × (k ≡ e.number)) ⊎ Among k (numbers_above es s)
        → Among k (numbers_above (map (stamped q S N) (e ∷ es)) s)
    go b own before (inr a) = among_rest k s (stamped q S N e) (map (stamped q S N) es) (before a)
    go true own before (inl both) = absurd (let never : true ≡ false = sym both.0 ∙ own_no_number e q s own in cc)
    go false own before (inl both) =
        let same : stamped q S N e ≡ e = stamped_not_own q S N e own in
        subst (λ (u : Undo Before). Among k (numbers_above (u ∷ map (stamped q S N) es) s)) (sym same)
        (subst (λ n. Among n (numbers_above (e ∷ map (stamped q S N) es) s)) (sym both.1) (among_top s e (map (stamped q S N) es) both.0))

-- the writer's commit stands at its slots
pub number_there : (q S N s : ℕ) (es : List (Undo Before)) → IsLawful es → writer_of es ≡ Some q → s < S → Among N (numbers_above (map (stamped q S N) es) s)
number_there q S N s [] lawful w above = cc
number_there q S N s (e ∷ es) lawful w above =
    let own : is_own e q ≡ true = writer_is_own e es q lawful w in
    subst (λ n. Among n (numbers_above (map (stamped q S N) (e ∷ es)) s)) (number_of_own q S N e own)
    (among_top s (stamped q S N e) (map (stamped q S N) es)
    (ap (λ o. is_some o && not (is_at_most o s) && not (is_move e.kind)) (stamp_of_own q S N e own) ∙ go (is_move e.kind) (no_move own)))
  where
    no_move : is_own e q ≡ true → is_move e.kind ≡ false
    no_move own = at e.stamp (is_move e.kind) (e.session == q) own
      where
        at : (stamp : Option ℕ) (move b : Bool) → (is_none stamp && not move && b) ≡ true → move ≡ false
        at None false b own = refl
        at None true b own = cc
        at (Some x) move b own = cc

    go : (move : Bool) → move ≡ false → (true && not (nat_le S s) && not move) ≡ true
    go true n = cc
    go false n = grind (arith, nat_tests)

-- ---- the writer after a roll-back

-- after the writer's roll-back a slot has no writer
pub rolled_writer : (q : ℕ) (es : List (Undo Before)) → IsLawful es → writer_of es ≡ Some q → writer_of (rest_of q es) ≡ None
rolled_writer q [] lawful w = refl
rolled_writer q (e ∷ es) lawful w =
    ap writer_of (rest_own q e es (writer_is_own e es q lawful w)) ∙ go (writer_of es) refl (rolled_writer q es (IsLawful-tail e es lawful))
  where
    other : (f : Undo Before) (fs : List (Undo Before)) (x : ℕ) → IsLawful (e ∷ f ∷ fs) → writer_of (f ∷ fs) ≡ Some x → x ≡ q
    other f fs x l wf = at e.stamp f.stamp (writer_top e (f ∷ fs) q (top l)).0 (writer_top f fs x wf).0 (IsLawful-above e f fs l)
      where
        top : IsLawful (e ∷ f ∷ fs) → writer_of (e ∷ f ∷ fs) ≡ Some q
        top l = w

        at : (a b : Option ℕ) → is_none a ≡ true → is_none b ≡ true → MayStandAbove (record e { stamp = a }) (record f { stamp = b }) → x ≡ q
        at None None na nb above = sym (writer_top f fs x wf).1 ∙ sym above ∙ (writer_top e es q w).1
        at None (Some y) na nb above = cc
        at (Some y) b na nb above = cc

    go : (a : Option ℕ) → writer_of es ≡ a → (writer_of es ≡ Some q → writer_of (rest_of q es) ≡ None) → writer_of (rest_of q es) ≡ None
    go None is step = ap writer_of (rolled_none q None es (none_own es q (IsLawful-tail e es lawful) (λ y. let n : None ≡ Some q = sym is ∙ y in cc))).0 ∙ is
    go (Some x) is step = step (is ∙ ap Some (same es x lawful is))
      where
        same : (es' : List (Undo Before)) (x : ℕ) → IsLawful (e ∷ es') → writer_of es' ≡ Some x → x ≡ q
        same [] x l is = cc
        same (f ∷ fs) x l is = other f fs x l is

-- ---- slots stay sound

-- a commit with the next stamp and number keeps a slot sound
pub sound_committed : (q newest commits : ℕ) (slot : Slot) → IsSoundSlot newest commits slot → IsSoundSlot (newest + 1) (commits + 1) (committed q (newest + 1) (commits + 1) slot)
sound_committed q newest commits slot ok =
    let S : ℕ = newest + 1 in let N : ℕ = commits + 1 in
    record {
      lawful = IsLawful-stamped q S N slot.entries ok.lawful (All-weaker (IsStampedUpTo newest) (IsStampedUpTo S) (λ u. more u.stamp) slot.entries ok.stamps);
      stamps = each (IsStampedUpTo newest) (IsStampedUpTo S) (λ u. stamp u) slot.entries ok.stamps;
      numbers = each (λ undo. undo.number ≤ commits) (λ undo. undo.number ≤ N) (λ u. number u) slot.entries ok.numbers;
      sessions = each IsOfSession IsOfSession (λ u. pass u) slot.entries ok.sessions;
    }
  where
    more : (a : Option ℕ) → IfSome a (λ x. x ≤ newest) → IfSome a (λ x. x ≤ newest + 1)
    more None u = tt
    more (Some x) u = omega arith

    each : (P Q : Undo Before → Type 0) → ((u : Undo Before) → P u → Q (stamped q (newest + 1) (commits + 1) u)) → (es : List (Undo Before)) → All P es → All Q (map (stamped q (newest + 1) (commits + 1)) es)
    each P Q f [] all = All-nil Q
    each P Q f (e ∷ es) all = All-cons Q (stamped q (newest + 1) (commits + 1) e) (map (stamped q (newest + 1) (commits + 1)) es) (f e (All-head P e es all)) (each P Q f es (All-tail P e es all))

    stamp : (u : Undo Before) → IsStampedUpTo newest u → IsStampedUpTo (newest + 1) (stamped q (newest + 1) (commits + 1) u)
    stamp u h = go (is_own u q)
      where
        go : (b : Bool) → IfSome (cond b (Some (newest + 1)) u.stamp) (λ x. x ≤ newest + 1)
        go true = omega arith
        go false = more u.stamp h

    number : (u : Undo Before) → u.number ≤ commits → (stamped q (newest + 1) (commits + 1) u).number ≤ commits + 1
    number u h = go (is_own u q)
      where
        go : (b : Bool) → cond b (commits + 1) u.number ≤ commits + 1
        go true = omega arith
        go false = omega arith

    pass : (u : Undo Before) → IsOfSession u → IsOfSession (stamped q (newest + 1) (commits + 1) u)
    pass u h = go (is_own u q)
      where
        go : (b : Bool) → IfNone (cond b (Some (newest + 1)) u.stamp) (1 ≤ u.session)
        go true = tt
        go false = h

-- a roll-back keeps a slot sound
pub sound_rolled : (q newest commits : ℕ) (slot : Slot) → IsSoundSlot newest commits slot → IsSoundSlot newest commits (rolled_back q slot)
sound_rolled q newest commits slot ok = record {
  lawful = IsLawful-filter (λ undo. not (is_own undo q)) slot.entries ok.lawful;
  stamps = All-filter (λ undo. not (is_own undo q)) (IsStampedUpTo newest) slot.entries ok.stamps;
  numbers = All-filter (λ undo. not (is_own undo q)) (λ undo. undo.number ≤ commits) slot.entries ok.numbers;
  sessions = All-filter (λ undo. not (is_own undo q)) IsOfSession slot.entries ok.sessions;
}

-- a number above a stamp was given out
pub small_number : (limit s k : ℕ) (es : List (Undo Before)) → All (λ undo. undo.number ≤ limit) es → Among k (numbers_above es s) → k ≤ limit
small_number limit s k [] all among = absurd among
small_number limit s k (e ∷ es) all among = go (small_number limit s k es (All-tail (λ undo. undo.number ≤ limit) e es all)) (among_cons k s e es among)
  where
    go : (Among k (numbers_above es s) → k ≤ limit) → ((is_commit_above e s ≡ true) × (k ≡ e.number)) ⊎ Among k (numbers_above es s) → k ≤ limit
    go rest (inl both) = let h : e.number ≤ limit = All-head (λ undo. undo.number ≤ limit) e es all in let i = both.1 in omega (arith, h, i)
    go rest (inr a) = rest a
