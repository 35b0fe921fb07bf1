-- What writes one after another leave, and that a transaction's write set leaves the same.
use Rattle.std.proofs.Common.{◌≡◌, ℕ, Bool, true, false, cond, List, [], ◌∷◌, ◌++◌, Option, None, Some, refl, sym, ap, ◌∙◌}
use Rattle.std.specs.Prelude.{fold, unwrap_or, is_some, option_map}
use Rattle.std.specs.BTreeMap.{insert_entry}
use Rattle.std.specs.List.{filter, filter_map, last_or}
use Rattle.std.specs.Ordering.{is_eq}
use Rattle.std.specs.declared.cmp.Ordering.TheVariants.{Less}
use Rattle.std.proofs.lemmas.Option.{same_Some}
use Rattle.cell_model.specs.declared.cell.Cell.{Cell}
use Rattle.isolation_spec.specs.Contents.{place_cmp, is_place, at_place, State, WriteSet, with_write, laid_over}
use Rattle.isolation_spec.specs.declared.place.Place.{Place}
use Rattle.isolation_laws.proofs.Entries.{lookup-insert_entry}
use Rattle.isolation_laws.proofs.Rows.{place_cmp-total}
use Rattle.si_machine.specs.Kept.{Below, Rises}
use Rattle.si_machine.proofs.Rising.{same-place, itself, at-below, rises-insert, rises-laid, at-laid}
use Rattle.si_machine.proofs.Scanned.{among}
use Rattle.outcome_spec.specs.Entries.{Entry}
use Rattle.outcome_spec.specs.Runs.{accepted_write, writes_in}
use Rattle.outcome_judge.specs.Timed.{TimedWrite, after_writes, left_at, timed}

-- ---- one write

-- places that rise still rise after a write
pub rises-write : (rows : State) (place : Place) (change : Option (List Cell)) → Rises rows → Rises (with_write rows place change)
rises-write rows place change h = rises-laid rows ((place, change) ∷ []) h

-- A change that is there by a test, or else what was, is a choice by the test.
unwrapped : (b : Bool) (change : Option (List Cell)) (was : Option (List Cell)) → unwrap_or (cond b (Some change) None) was ≡ cond b change was
unwrapped true change was = refl
unwrapped false change was = refl

-- what stands at a place after a write of another place or of it
pub at-write : (rows : State) (place : Place) (change : Option (List Cell)) (q : Place) → Rises rows → at_place (with_write rows place change) q ≡ cond (is_place q place) change (at_place rows q)
at-write rows place change q h = at-laid rows ((place, change) ∷ []) q h (tt, tt) ∙ unwrapped (is_place q place) change (at_place rows q)

-- ---- writes one after another

-- places that rise still rise after all writes
pub rises-after : (rows : State) (writes : List TimedWrite) → Rises rows → Rises (after_writes rows writes)
rises-after rows [] h = h
rises-after rows (write ∷ writes) h = rises-after (with_write rows write.place write.row) writes (rises-write rows write.place write.row h)

-- What holds of each element holds of the last of a list that has a first.
last-some : {X : Type 0} (x : X) (xs : List X) (P : Option X → Type 0) → ((y : X) → P (Some y)) → P (last_or (Some x) xs)
last-some x [] P h = h x
last-some x (y ∷ xs) P h = last-some y xs P h

-- What the last of further writes leaves, or else the first, is what the last of all leaves.
left-onto : (was : Option (List Cell)) (write : TimedWrite) (xs : List TimedWrite)
    → unwrap_or (option_map (λ w. w.row) (last_or None xs)) write.row ≡ unwrap_or (option_map (λ w. w.row) (last_or (Some write) xs)) was
left-onto was write [] = refl
left-onto was write (x ∷ xs) = last-some x xs (λ o. unwrap_or (option_map (λ w. w.row) o) write.row ≡ unwrap_or (option_map (λ w. w.row) o) was) (λ y. refl)

-- What a first write and others leave at a place is what the last of all leaves there.
left-step : (was : Option (List Cell)) (q : Place) (write : TimedWrite) (writes : List TimedWrite) (b : Bool)
    → unwrap_or (left_at q writes) (cond b write.row was)
    ≡ unwrap_or (option_map (λ w. w.row) (last_or None (cond b (write ∷ filter (λ w. is_place q w.place) writes) (filter (λ w. is_place q w.place) writes)))) was
left-step was q write writes true = left-onto was write (filter (λ w. is_place q w.place) writes)
left-step was q write writes false = refl

-- What is found at a place behind writes: what the last of them there left, or else what was there.
pub at-after : (rows : State) (writes : List TimedWrite) (q : Place) → Rises rows → at_place (after_writes rows writes) q ≡ unwrap_or (left_at q writes) (at_place rows q)
at-after rows [] q h = refl
at-after rows (write ∷ writes) q h =
    at-after (with_write rows write.place write.row) writes q (rises-write rows write.place write.row h)
    ∙ ap (unwrap_or (left_at q writes)) (at-write rows write.place write.row q h)
    ∙ left-step (at_place rows q) q write writes (is_place q write.place)

-- the rows after writes and further ones
pub after-append : (rows : State) (front back : List TimedWrite) → after_writes rows (front ++ back) ≡ after_writes (after_writes rows front) back
after-append rows [] back = refl
after-append rows (write ∷ front) back = after-append (with_write rows write.place write.row) front back

-- ---- states with the same rows at each place are one

-- No two places are each below the other.
less-both : (a b : Place) → place_cmp a b ≡ Less → place_cmp b a ≡ Less → ⊥
less-both a b h k =
    let e : Less ≡ place_cmp a a = sym (place_cmp-total.trans a b a h k) in
    let f : is_eq Less ≡ true = ap is_eq e ∙ itself a in
    let never : ⊥ = cc in never

-- at the place of its first entry a state has this entry's row
pub first-here : (x : Place × List Cell) (xs : State) → at_place (x ∷ xs) x.0 ≡ Some x.1
first-here x xs = ap (λ (b : Bool). cond b (Some x.1) (at_place xs x.0)) (itself x.0)

-- where a place is found behind the first, the first is below it
found-behind : (y : Place × List Cell) (ys : State) (q : Place) (r : List Cell) (b : Bool) → is_place q y.0 ≡ b → b ≡ false → Below y.0 ys → at_place (y ∷ ys) q ≡ Some r → place_cmp y.0 q ≡ Less
found-behind y ys q r true is fails below h = absurd (let never : ⊥ = cc in never)
found-behind y ys q r false is fails below h =
    let there : at_place ys q ≡ Some r = ap (λ (b : Bool). cond b (Some y.1) (at_place ys q)) (sym is) ∙ h in
    among q ys y.0 below (ap is_some there)

-- States with the same first entry and the same at each place have the same behind it.
rest-same : (x y : Place × List Cell) (xs ys : State) → x ≡ y → Below x.0 xs → Below y.0 ys → ((q : Place) → at_place (x ∷ xs) q ≡ at_place (y ∷ ys) q)
    → (q : Place) (b : Bool) → is_place q x.0 ≡ b → at_place xs q ≡ at_place ys q
rest-same x y xs ys same low high h q true is =
    let e : q ≡ x.0 = same-place q x.0 is in
    ap (at_place xs) e ∙ at-below x.0 xs low ∙ sym (ap (at_place ys) (e ∙ ap (λ (z : Place × List Cell). z.0) same) ∙ at-below y.0 ys high)
rest-same x y xs ys same low high h q false is =
    let other : is_place q y.0 ≡ false = ap (λ (z : Place × List Cell). is_place q z.0) (sym same) ∙ is in
    sym (ap (λ (b : Bool). cond b (Some x.1) (at_place xs q)) is) ∙ h q ∙ ap (λ (b : Bool). cond b (Some y.1) (at_place ys q)) other

-- states with the same row at each place are one
pub same-states : (a b : State) → Rises a → Rises b → ((q : Place) → at_place a q ≡ at_place b q) → a ≡ b
same-states [] [] h k same = refl
same-states [] (y ∷ ys) h k same = absurd (let e : None ≡ Some y.1 = same y.0 ∙ first-here y ys in let never : ⊥ = cc in never)
same-states (x ∷ xs) [] h k same = absurd (let e : Some x.1 ≡ None = sym (first-here x xs) ∙ same x.0 in let never : ⊥ = cc in never)
same-states (x ∷ xs) (y ∷ ys) h k same = by (same-states xs ys h.1 k.1) (is_place x.0 y.0) refl
  where
    found-y : at_place (x ∷ xs) y.0 ≡ Some y.1
    found-y = same y.0 ∙ first-here y ys

    found-x : at_place (y ∷ ys) x.0 ≡ Some x.1
    found-x = sym (same x.0) ∙ first-here x xs

    apart : (b : Bool) → is_place x.0 y.0 ≡ false → is_place y.0 x.0 ≡ b → x ∷ xs ≡ y ∷ ys
    apart true is back =
        let e : y.0 ≡ x.0 = same-place y.0 x.0 back in
        let f : true ≡ false = sym (itself x.0) ∙ ap (is_place x.0) (sym e) ∙ is in
        absurd (let never : ⊥ = cc in never)
    apart false is back = absurd (less-both x.0 y.0 (found-behind x xs y.0 y.1 (is_place y.0 x.0) refl back h.0 found-y) (found-behind y ys x.0 x.1 (is_place x.0 y.0) refl is k.0 found-x))

    by : (((q : Place) → at_place xs q ≡ at_place ys q) → xs ≡ ys) → (b : Bool) → is_place x.0 y.0 ≡ b → x ∷ xs ≡ y ∷ ys
    by again false is = apart (is_place y.0 x.0) is refl
    by again true is =
        let places : x.0 ≡ y.0 = same-place x.0 y.0 is in
        let rows : x.1 ≡ y.1 = same_Some x.1 y.1 (sym found-x ∙ ap (at_place (y ∷ ys)) places ∙ first-here y ys) in
        let whole : x ≡ y = ap (λ (p : Place). (p, x.1)) places ∙ ap (λ (r : List Cell). (y.0, r)) rows in
        let rest : xs ≡ ys = again (λ q. rest-same x y xs ys whole h.0 k.0 same q (is_place q x.0) refl) in
        ap (λ (z : Place × List Cell). z ∷ xs) whole ∙ ap (λ (zs : State). y ∷ zs) rest

-- ---- a transaction's write set leaves what its writes do one after another

-- A change that is found first is what is left, or else what the others leave.
laid-one : (b : Bool) (change : Option (List Cell)) (found : Option (Option (List Cell))) (was : Option (List Cell))
    → unwrap_or (cond b (Some change) found) was ≡ cond b change (unwrap_or found was)
laid-one true change found was = refl
laid-one false change found was = refl

-- A write set with one write more, laid over rows, leaves what this write leaves after the others.
laid-insert : (rows : State) (writes : WriteSet) (place : Place) (change : Option (List Cell)) → Rises rows → Rises writes
    → laid_over rows (insert_entry place_cmp writes place change) ≡ with_write (laid_over rows writes) place change
laid-insert rows writes place change h k =
    same-states (laid_over rows (insert_entry place_cmp writes place change)) (with_write (laid_over rows writes) place change)
    (rises-laid rows (insert_entry place_cmp writes place change) h) (rises-write (laid_over rows writes) place change (rises-laid rows writes h))
    (λ q.
    at-laid rows (insert_entry place_cmp writes place change) q h (rises-insert place change writes k)
    ∙ ap (λ (o : Option (Option (List Cell))). unwrap_or o (at_place rows q)) (lookup-insert_entry place_cmp-total writes place change q)
    ∙ laid-one (is_place q place) change (at_place writes q) (at_place rows q)
    ∙ ap (cond (is_place q place) change) (sym (at-laid rows writes q h k))
    ∙ sym (at-write (laid_over rows writes) place change q (rises-laid rows writes h)))

-- a write set with changes entered into it
abbrev pub entered : WriteSet → List (Place × Option (List Cell)) → WriteSet
entered writes changes = fold (λ writes write. insert_entry place_cmp writes write.0 write.1) writes changes

-- A write set with changes entered, laid over rows, leaves what these leave after the others.
laid-entered : (time : ℕ) (rows : State) (writes : WriteSet) (changes : List (Place × Option (List Cell))) → Rises rows → Rises writes
    → laid_over rows (entered writes changes) ≡ after_writes (laid_over rows writes) (timed time changes)
laid-entered time rows writes [] h k = refl
laid-entered time rows writes (change ∷ changes) h k =
    laid-entered time rows (insert_entry place_cmp writes change.0 change.1) changes h (rises-insert change.0 change.1 writes k)
    ∙ ap (λ (s : State). after_writes s (timed time changes)) (laid-insert rows writes change.0 change.1 h k)

-- A transaction's write set, laid over rows, leaves what its writes leave one after another.
pub laid-writes : (time : ℕ) (rows : State) (entries : List Entry) → Rises rows → laid_over rows (writes_in entries) ≡ after_writes rows (timed time (filter_map accepted_write entries))
laid-writes time rows entries h = laid-entered time rows [] (filter_map accepted_write entries) h tt
