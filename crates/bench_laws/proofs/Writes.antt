-- What a session's transaction writes: rows at keys of that session alone.
use Rattle.std.proofs.Common.{◌≡◌, ◌⊎◌, inl, inr, ℕ, ◌+◌, ◌-◌, ◌*◌, ◌%◌, ◌<◌, ◌≤◌, pos, Bool, true, false, cond, ◌&&◌, ◌||◌, List, [], ◌∷◌, Option, None, Some, Ordering, Less, Equal, Greater, is_eq, fold, refl, sym, ap, ◌∙◌, subst, arith}
use Rattle.std.specs.Prelude.{if◌then◌else◌}
use Rattle.std.specs.BTreeMap.{insert_entry}
use Rattle.std.specs.Cmp.{tied_itself, eq_by_cmp_equiv}
use Rattle.std.specs.List.{cons_option, filter}
use Rattle.std.specs.Option.{option_map_or}
use Rattle.std.specs.Ordering.{match_ordering}
use Rattle.std.proofs.lemmas.Bool.{or_parts}
use Rattle.cell_model.specs.declared.cell.Cell.{Cell}
use Rattle.isolation_spec.specs.Contents.{place_cmp, is_place, at_place, State, WriteSet, laid_over, place_at, place_of}
use Rattle.isolation_spec.specs.declared.place.Place.{Place}
use Rattle.isolation_laws.proofs.Entries.{lookup-insert_entry}
use Rattle.isolation_laws.proofs.Rows.{place_cmp-total}
use Rattle.timeline_laws.proofs.Placed.{one-place}
use Rattle.workload_spec.specs.declared.reply.Said.{Said}
use Rattle.workload_spec.specs.declared.reply.Said.TheVariants as said
use Rattle.outcome_spec.specs.Entries.{Entry, is_accepted}
use Rattle.outcome_spec.specs.Runs.{accepted_write, writes_in}
use Rattle.outcome_spec.specs.Conflicts.{has_write}
use Rattle.bench_spec.specs.Generated.{draw_in}
use Rattle.bench_laws.proofs.Every.{Has, any-found}
use Rattle.bench_laws.proofs.Replies.{IsScanReply, IsExportReply}
use Rattle.bench_laws.proofs.Parts.{Wrote, GoodWrote, Last, replies_to, last_entries, first_row, next_row}

-- ---- places

-- the place of a key
abbrev pub at_key : ℕ → Place
at_key key = place_at 0 (pos key)

-- An ordering that is tested to be equal is equal.
is-equal : (answer : Ordering) → is_eq answer ≡ true → answer ≡ Equal
is-equal Less h = absurd (let never : ⊥ = cc in never)
is-equal Equal h = refl
is-equal Greater h = absurd (let never : ⊥ = cc in never)

-- places that are tested to be one are one
pub same-place : (a b : Place) → is_place a b ≡ true → a ≡ b
same-place a b h = one-place a b (is-equal (place_cmp a b) h)

-- a place is itself
pub place-itself : (a : Place) → is_place a a ≡ true
place-itself a = ap is_eq (tied_itself place_cmp-total a)

-- keys at the same place are equal
pub same-key : (a b : ℕ) → at_key a ≡ at_key b → a ≡ b
same-key a b h = let e : pos a ≡ pos b = ap (λ (p : Place). p.key) h in cc

-- the key at which a transaction inserts, and the one of those that its session inserted that it
-- updates
abbrev pub first_key : Wrote → ℕ
first_key w = 4 * (w.turn - 1) + w.session

-- the turn whose key the update takes, counted from 0
abbrev pub picked : ℕ → Wrote → ℕ
picked seed w = draw_in seed w.turn w.session 3 % w.turn

-- the key that it updates
abbrev pub next_key : ℕ → Wrote → ℕ
next_key seed w = 4 * picked seed w + w.session

-- the row that a session inserts stands at its turn's key
pub first-place-of : (seed turn session : ℕ) → place_of 0 (first_row seed turn session) ≡ at_key (4 * (turn - 1) + session)
unfolding first_row
first-place-of seed turn session = refl

-- the row that it leaves stands at the key of the turn that a draw names
pub next-place-of : (seed turn session : ℕ) → place_of 0 (next_row seed turn session) ≡ at_key (4 * (draw_in seed turn session 3 % turn) + session)
unfolding next_row
next-place-of seed turn session = refl

-- a transaction inserts at its first key
pub first-place : (seed : ℕ) (w : Wrote) → GoodWrote seed w → place_of 0 w.row ≡ at_key (first_key w)
first-place seed w good = ap (place_of 0) good.row_is ∙ first-place-of seed w.turn w.session

-- and updates at the key that it picked
pub next-place : (seed : ℕ) (w : Wrote) → GoodWrote seed w → place_of 0 w.change ≡ at_key (next_key seed w)
next-place seed w good = ap (place_of 0) good.change_is ∙ next-place-of seed w.turn w.session

-- the key that is picked is of its turn or an earlier one
pub picked-low : (seed : ℕ) (w : Wrote) → GoodWrote seed w → picked seed w < w.turn
picked-low seed w good = below (draw_in seed w.turn w.session 3) w.turn good.turn_low
  where
    below : (x n : ℕ) → 1 ≤ n → x % n < n
    below x n h = omega (arith, h)

-- ---- what the replies of a transaction write

-- an accepted write of the place
abbrev pub writes_it : Place → Entry → Bool
writes_it place entry = option_map_or (λ write. is_place write.0 place) (accepted_write entry) false

-- the place is that of a key of the session, of its turn or an earlier one
pub record Touches (w : Wrote) (place : Place) : Type 0 where
  pub turn : ℕ
  pub low : turn < w.turn
  pub is : place ≡ at_key (4 * turn + w.session)

-- The place of a write that may have been made is the write's own.
chosen : (b : Bool) (own place : Place) (row : List Cell) → option_map_or (λ (write : Place × Option (List Cell)). is_place write.0 place) (if b then Some (own, Some row) else None) false ≡ true → place ≡ own
chosen true own place row h = sym (same-place own place h)
chosen false own place row h = absurd (let never : ⊥ = cc in never)

-- an accepted write of a transaction is at a key of its session
pub entry-touches : (seed : ℕ) (w : Wrote) → GoodWrote seed w → (place : Place) (e : Entry) → Has e (replies_to w) → writes_it place e ≡ true → Touches w place
entry-touches seed w good place e (inl same) h = absurd (let never : false ≡ true = subst (λ (x : Entry). writes_it place x ≡ true) (sym same) h in let impossible : ⊥ = cc in impossible)
entry-touches seed w good place e (inr (inl same)) h = record {
  turn = w.turn - 1;
  low = let e = good.turn_low in omega (arith, e);
  is = chosen (is_accepted w.insert_said) (place_of 0 w.row) place w.row (subst (λ (x : Entry). writes_it place x ≡ true) (sym same) h) ∙ first-place seed w good;
}
entry-touches seed w good place e (inr (inr (inl same))) h = record {
  turn = picked seed w;
  low = picked-low seed w good;
  is = chosen (is_accepted w.update_said) (place_of 0 w.change) place w.change (subst (λ (x : Entry). writes_it place x ≡ true) (sym same) h) ∙ next-place seed w good;
}
entry-touches seed w good place e (inr (inr (inr (inl same)))) h = absurd (let never : false ≡ true = subst (λ (x : Entry). writes_it place x ≡ true) (sym same) h in let impossible : ⊥ = cc in impossible)
entry-touches seed w good place e (inr (inr (inr (inr never)))) h = absurd never

-- a place that a transaction writes is a key of its session
pub touches : (seed : ℕ) (w : Wrote) → GoodWrote seed w → (place : Place) → has_write place (replies_to w) ≡ true → Touches w place
touches seed w good place h = let found = any-found (writes_it place) (replies_to w) h in entry-touches seed w good place found.0 found.1 found.2

-- One reply more: what a filter keeps is in the list.
unfiltered-step : (p : Entry → Bool) (e x : Entry) (xs : List Entry) (b : Bool) → Has e (cond b (x ∷ filter p xs) (filter p xs)) → (Has e (filter p xs) → Has e xs) → (x ≡ e) ⊎ Has e xs
unfiltered-step p e x xs true (inl same) rest = inl same
unfiltered-step p e x xs true (inr there) rest = inr (rest there)
unfiltered-step p e x xs false there rest = inr (rest there)

-- Each reply that a filter keeps is in the list.
unfiltered : (p : Entry → Bool) (e : Entry) (xs : List Entry) → Has e (filter p xs) → Has e xs
unfiltered p e [] h = absurd h
unfiltered p e (x ∷ xs) h = unfiltered-step p e x xs (p x) h (unfiltered p e xs)

-- the same of some of its replies
pub some-touch : (seed : ℕ) (w : Wrote) → GoodWrote seed w → (place : Place) (p : Entry → Bool) → has_write place (filter p (replies_to w)) ≡ true → Touches w place
some-touch seed w good place p h =
    let found = any-found (writes_it place) (filter p (replies_to w)) h in
    entry-touches seed w good place found.0 (unfiltered p found.0 (replies_to w) found.1) found.2

-- the last round writes nothing
scan-unaccepted : (told : Said) → IsScanReply told → is_accepted told ≡ false
scan-unaccepted (said.Scanned rows) h = refl
scan-unaccepted said.Memory h = refl
scan-unaccepted _ h = absurd h

-- No export is told that it is accepted.
export-unaccepted : (told : Said) → IsExportReply told → is_accepted told ≡ false
export-unaccepted (said.Exported number rows batches frozen) h = refl
export-unaccepted (said.Dirty key) h = refl
export-unaccepted said.Memory h = refl
export-unaccepted _ h = absurd h

-- no reply of the last round is of an accepted write
pub last-unwritten : (l : Last) → IsScanReply l.scan_said → IsExportReply l.export_said → (e : Entry) → Has e (last_entries l) → accepted_write e ≡ None
last-unwritten l scans exports e (inl same) = ap accepted_write (sym same)
last-unwritten l scans exports e (inr (inl same)) = ap accepted_write (sym same) ∙ (rw (scan-unaccepted l.scan_said scans) refl)
last-unwritten l scans exports e (inr (inr (inl same))) = ap accepted_write (sym same) ∙ (rw (export-unaccepted l.export_said exports) refl)
last-unwritten l scans exports e (inr (inr (inr (inl same)))) = ap accepted_write (sym same)
last-unwritten l scans exports e (inr (inr (inr (inr never)))) = absurd never

-- so the last round writes no place
pub last-touches-none : (l : Last) → IsScanReply l.scan_said → IsExportReply l.export_said → (place : Place) (p : Entry → Bool) → has_write place (filter p (last_entries l)) ≡ true → ⊥
last-touches-none l scans exports place p h =
    let found = any-found (writes_it place) (filter p (last_entries l)) h in
    let none = last-unwritten l scans exports found.0 (unfiltered p found.0 (last_entries l) found.1) in
    let e : false ≡ true = sym (ap (λ (o : Option (Place × Option (List Cell))). option_map_or (λ write. is_place write.0 place) o false) none) ∙ found.2 in
    let never : ⊥ = cc in never

-- ---- the state behind a transaction's writes

-- what stands at a place behind two writes, each made or not
abbrev pub behind_two : Bool → Place → List Cell → Bool → Place → List Cell → Place → Option (List Cell) → Option (List Cell)
behind_two first first_place first_row second second_place second_row place before =
    cond (second && is_place place second_place) (Some second_row) (cond (first && is_place place first_place) (Some first_row) before)

-- a place behind a row that was put: the row itself at its own, and else what stood there
pub put : (rows : State) (own : Place) (row : List Cell) (place : Place) → at_place (insert_entry place_cmp rows own row) place ≡ cond (is_place place own) (Some row) (at_place rows place)
put rows own row place = lookup-insert_entry place_cmp-total rows own row place

-- Of two tests that never both pass, either may be asked first.
swapped : {X : Type 0} (a b : Bool) (x y z : X) → (a ≡ true → b ≡ true → ⊥) → cond a x (cond b y z) ≡ cond b y (cond a x z)
swapped true true x y z apart = absurd (apart refl refl)
swapped true false x y z apart = refl
swapped false b x y z apart = refl

-- Asked with the same answer again, a test chooses the same.
twice : {X : Type 0} (a b : Bool) (x y z : X) → a ≡ b → cond a x z ≡ cond b x (cond a y z)
twice a true x y z h = rw h refl
twice a false x y z h = rw h refl

-- What stands at a place behind two writes in the order of their places.
both-laid : (rows : State) (p q : Place) (r s : List Cell) (place : Place) (answer : Ordering) → place_cmp q p ≡ answer
    → at_place (laid_over rows (match_ordering answer ((q, Some s) ∷ (p, Some r) ∷ []) ((p, Some s) ∷ []) ((p, Some r) ∷ (q, Some s) ∷ []))) place
    ≡ cond (is_place place q) (Some s) (cond (is_place place p) (Some r) (at_place rows place))
both-laid rows p q r s place Less is =
    put (insert_entry place_cmp rows q s) p r place
    ∙ ap (cond (is_place place p) (Some r)) (put rows q s place)
    ∙ swapped (is_place place p) (is_place place q) (Some r) (Some s) (at_place rows place)
    (λ h k. let same : q ≡ p = sym (same-place place q k) ∙ same-place place p h in
    let e : Less ≡ Equal = sym is ∙ ap (λ (x : Place). place_cmp x p) same ∙ tied_itself place_cmp-total p in let never : ⊥ = cc in never)
both-laid rows p q r s place Equal is =
    let same : q ≡ p = one-place q p is in
    put rows p s place ∙ twice (is_place place p) (is_place place q) (Some s) (Some r) (at_place rows place) (sym (ap (is_place place) same))
    ∙ refl
both-laid rows p q r s place Greater is = put (insert_entry place_cmp rows p r) q s place ∙ ap (cond (is_place place q) (Some s)) (put rows p r place)

-- What stands at a place behind two writes, each made or not.
laid : (rows : State) (p q : Place) (r s : List Cell) (a b : Bool) (place : Place)
    → at_place (laid_over rows (fold (λ (own : WriteSet) (write : Place × Option (List Cell)). insert_entry place_cmp own write.0 write.1) []
    (cons_option (if a then Some (p, Some r) else None) (cons_option (if b then Some (q, Some s) else None) [])))) place ≡ behind_two a p r b q s place (at_place rows place)
laid rows p q r s false false place = refl
laid rows p q r s true false place = put rows p r place
laid rows p q r s false true place = put rows q s place
laid rows p q r s true true place = both-laid rows p q r s place (place_cmp q p) refl

-- What stands at a place behind the writes of a transaction.
pub laid-over : (rows : State) (w : Wrote) (place : Place)
    → at_place (laid_over rows (writes_in (replies_to w))) place
    ≡ behind_two (is_accepted w.insert_said) (place_of 0 w.row) w.row (is_accepted w.update_said) (place_of 0 w.change) w.change place (at_place rows place)
laid-over rows w place = laid rows (place_of 0 w.row) (place_of 0 w.change) w.row w.change (is_accepted w.insert_said) (is_accepted w.update_said) place

-- two writes of which neither was accepted at a place leave what stood there
pub unwritten : (a b : Bool) (p q place : Place) (r s : List Cell) (before : Option (List Cell))
    → (option_map_or (λ (write : Place × Option (List Cell)). is_place write.0 place) (if a then Some (p, Some r) else None) false
    || (option_map_or (λ (write : Place × Option (List Cell)). is_place write.0 place) (if b then Some (q, Some s) else None) false || false)) ≡ false
    → behind_two a p r b q s place before ≡ before
unwritten false false p q place r s before h = refl
unwritten true false p q place r s before h =
    let e : is_place place p ≡ false = (eq_by_cmp_equiv place_cmp-total).symm place p ∙ (or_parts (is_place p place) false h).0 in
    rw e refl
unwritten false true p q place r s before h =
    let e : is_place place q ≡ false = (eq_by_cmp_equiv place_cmp-total).symm place q ∙ (or_parts (is_place q place) false h).0 in
    rw e refl
unwritten true true p q place r s before h =
    let parts = or_parts (is_place p place) (is_place q place || false) h in
    let e : is_place place p ≡ false = (eq_by_cmp_equiv place_cmp-total).symm place p ∙ parts.0 in
    let f : is_place place q ≡ false = (eq_by_cmp_equiv place_cmp-total).symm place q ∙ (or_parts (is_place q place) false parts.1).0 in
    rw (e, f) refl

-- a transaction that does not write a place leaves what stood there
pub untouched : (rows : State) (w : Wrote) (place : Place) → has_write place (replies_to w) ≡ false → at_place (laid_over rows (writes_in (replies_to w))) place ≡ at_place rows place
untouched rows w place h =
    laid-over rows w place ∙ unwritten (is_accepted w.insert_said) (is_accepted w.update_said) (place_of 0 w.row) (place_of 0 w.change) place w.row w.change (at_place rows place) h
