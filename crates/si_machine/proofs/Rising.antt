-- Entries whose places rise, and what writes make of them.
use Rattle.std.proofs.Common.{◌≡◌, ℕ, zero, suc, Bool, true, false, cond, List, [], ◌∷◌, Option, None, Some, refl, sym, ap, ◌∙◌}
use Rattle.std.specs.Prelude.{fold, take, unwrap_or}
use Rattle.std.specs.BTreeMap.{insert_entry}
use Rattle.std.specs.Cmp.{tied_itself}
use Rattle.std.specs.List.{AllByRecursion}
use Rattle.std.specs.List.Sorted.{IsStrictlySortedBy}
use Rattle.std.specs.Map.{keys_of, remove_entry}
use Rattle.std.proofs.lemmas.Map.Keys.{sorted_head, sorted_tail}
use Rattle.std.specs.Ordering.{is_eq, match_ordering, ordering_reverse}
use Rattle.std.specs.declared.cmp.Ordering.{Ordering}
use Rattle.std.specs.declared.cmp.Ordering.TheVariants.{Less, Equal, Greater}
use Rattle.cell_model.specs.declared.cell.Cell.{Cell}
use Rattle.isolation_spec.specs.Contents.{place_cmp, is_place, at_place, PlaceMap, State, WriteSet, History, with_write, laid_over}
use Rattle.isolation_spec.specs.declared.place.Place.{Place}
use Rattle.isolation_laws.proofs.Entries.{lookup-insert_entry}
use Rattle.isolation_laws.proofs.Rows.{place_cmp-total}
use Rattle.timeline_laws.proofs.Placed.{one-place}
use Rattle.si_machine.specs.Kept.{Below, Rises, AllRise}

-- An answer that is tested as equal is equal.
is-equal : (answer : Ordering) → is_eq answer ≡ true → answer ≡ Equal
is-equal Less h = absurd (let never : ⊥ = cc in never)
is-equal Equal h = refl
is-equal Greater h = absurd (let never : ⊥ = cc in never)

-- places that are tested to be one are one, and a place is one with itself
pub same-place : (a b : Place) → is_place a b ≡ true → a ≡ b
same-place a b h = one-place a b (is-equal (place_cmp a b) h)

-- a place is itself
pub itself : (a : Place) → is_place a a ≡ true
itself a = ap is_eq (tied_itself place_cmp-total a)

-- of two places, one that is above the other has the other below it
pub turned : (a b : Place) → place_cmp a b ≡ Greater → place_cmp b a ≡ Less
turned a b h = place_cmp-total.antisymm b a ∙ ap ordering_reverse h

module _ {X : Type 0} where
  -- a place below one that is below the entries is below them
  pub below-less : (low high : Place) (entries : PlaceMap X) → place_cmp low high ≡ Less → Below high entries → Below low entries
  below-less low high [] less h = tt
  below-less low high (entry ∷ entries) less h = (place_cmp-total.trans low high entry.0 less h.0, below-less low high entries less h.1)

  -- A place below some entries and below one more is below all with that one.
  below-insert : (low place : Place) (x : X) (entries : PlaceMap X) → place_cmp low place ≡ Less → Below low entries → Below low (insert_entry place_cmp entries place x)
  below-insert low place x [] less h = (less, tt)
  below-insert low place x (entry ∷ entries) less h = by (below-insert low place x entries less h.1) (place_cmp place entry.0)
    where
      by : Below low (insert_entry place_cmp entries place x) → (answer : Ordering) → Below low (match_ordering answer ((place, x) ∷ entry ∷ entries) ((entry.0, x) ∷ entries) (entry ∷ insert_entry place_cmp entries place x))
      by again Less = (less, h)
      by again Equal = h
      by again Greater = (h.0, again)

  -- an insertion leaves places that rise
  pub rises-insert : (place : Place) (x : X) (entries : PlaceMap X) → Rises entries → Rises (insert_entry place_cmp entries place x)
  rises-insert place x [] h = (tt, tt)
  rises-insert place x (entry ∷ entries) h = by (rises-insert place x entries h.1) (place_cmp place entry.0) refl
    where
      by : Rises (insert_entry place_cmp entries place x) → (answer : Ordering) → place_cmp place entry.0 ≡ answer → Rises (match_ordering answer ((place, x) ∷ entry ∷ entries) ((entry.0, x) ∷ entries) (entry ∷ insert_entry place_cmp entries place x))
      by again Less is = ((is, below-less place entry.0 entries is h.0), h)
      by again Equal is = h
      by again Greater is = (below-insert entry.0 place x entries (turned place entry.0 is) h.0, again)

  -- A place below some entries is below those that are left without one.
  below-remove : (low : Place) (test : Place → Bool) (entries : PlaceMap X) → Below low entries → Below low (remove_entry test entries)
  below-remove low test [] h = tt
  below-remove low test (entry ∷ entries) h = by (below-remove low test entries h.1) (test entry.0)
    where
      by : Below low (remove_entry test entries) → (gone : Bool) → Below low (cond gone entries (entry ∷ remove_entry test entries))
      by again true = h.1
      by again false = (h.0, again)

  -- Without an entry the places of the others rise.
  rises-remove : (test : Place → Bool) (entries : PlaceMap X) → Rises entries → Rises (remove_entry test entries)
  rises-remove test [] h = tt
  rises-remove test (entry ∷ entries) h = by (rises-remove test entries h.1) (test entry.0)
    where
      by : Rises (remove_entry test entries) → (gone : Bool) → Rises (cond gone entries (entry ∷ remove_entry test entries))
      by again true = h.1
      by again false = (below-remove entry.0 test entries h.0, again)

  -- a place below the entries has none of them
  pub at-below : (place : Place) (entries : PlaceMap X) → Below place entries → at_place entries place ≡ None
  at-below place [] h = refl
  at-below place (entry ∷ entries) h = ap (λ (o : Ordering). cond (is_eq o) (Some entry.1) (at_place entries place)) h.0 ∙ at-below place entries h.1

  -- What is found without a place's entry, with one entry more in front.
  gone : (p q : Place) (entry : Place × X) (entries : PlaceMap X) (a b c : Bool) → is_place p entry.0 ≡ a → is_place q entry.0 ≡ b → is_place q p ≡ c → Below entry.0 entries
      → at_place (remove_entry (is_place p) entries) q ≡ cond c None (at_place entries q)
      → at_place (cond a entries (entry ∷ remove_entry (is_place p) entries)) q ≡ cond c None (cond b (Some entry.1) (at_place entries q))
  gone p q entry entries true true true is_a is_b is_c below rest =
      ap (at_place entries) (same-place q entry.0 is_b) ∙ at-below entry.0 entries below
  gone p q entry entries true true false is_a is_b is_c below rest =
      let e : q ≡ p = same-place q entry.0 is_b ∙ sym (same-place p entry.0 is_a) in
      let f : true ≡ false = sym (itself q) ∙ ap (is_place q) e ∙ is_c in
      absurd (let never : ⊥ = cc in never)
  gone p q entry entries true false true is_a is_b is_c below rest =
      let e : q ≡ entry.0 = same-place q p is_c ∙ same-place p entry.0 is_a in
      let f : true ≡ false = sym (itself q) ∙ ap (is_place q) e ∙ is_b in
      absurd (let never : ⊥ = cc in never)
  gone p q entry entries true false false is_a is_b is_c below rest = refl
  gone p q entry entries false true true is_a is_b is_c below rest =
      let e : p ≡ entry.0 = sym (same-place q p is_c) ∙ same-place q entry.0 is_b in
      let f : true ≡ false = sym (itself p) ∙ ap (is_place p) e ∙ is_a in
      absurd (let never : ⊥ = cc in never)
  gone p q entry entries false true false is_a is_b is_c below rest =
      ap (λ (b : Bool). cond b (Some entry.1) (at_place (remove_entry (is_place p) entries) q)) is_b
  gone p q entry entries false false c is_a is_b is_c below rest =
      ap (λ (b : Bool). cond b (Some entry.1) (at_place (remove_entry (is_place p) entries) q)) is_b ∙ rest

  -- Without a place's entry nothing is found there, and elsewhere what was.
  at-remove : (p q : Place) (entries : PlaceMap X) → Rises entries → at_place (remove_entry (is_place p) entries) q ≡ cond (is_place q p) None (at_place entries q)
  at-remove p q [] h = none (is_place q p)
    where
      none : (b : Bool) → None ≡ cond {A = Option X} b None None
      none true = refl
      none false = refl
  at-remove p q (entry ∷ entries) h =
      gone p q entry entries (is_place p entry.0) (is_place q entry.0) (is_place q p) refl refl refl h.0 (at-remove p q entries h.1)

  -- A place that is below all places of the entries is below the entries.
  below-sorted : (place : Place) (entries : PlaceMap X) → AllByRecursion (λ other. place_cmp place other ≡ Less) (keys_of entries) → Below place entries
  below-sorted place [] h = tt
  below-sorted place (entry ∷ entries) h = (h.0, below-sorted place entries h.1)

  -- entries that are strictly sorted rise
  pub rises-sorted : (entries : PlaceMap X) → IsStrictlySortedBy place_cmp (keys_of entries) → Rises entries
  rises-sorted [] h = tt
  rises-sorted (entry ∷ entries) h =
      (below-sorted entry.0 entries (sorted_head place_cmp entry.0 (keys_of entries) h), rises-sorted entries (sorted_tail place_cmp entry.0 (keys_of entries) h))

-- ---- states

-- With a write the places of rows rise.
rises-with : (rows : State) (place : Place) (change : Option (List Cell)) → Rises rows → Rises (with_write rows place change)
rises-with rows place None h = rises-remove (is_place place) rows h
rises-with rows place (Some row) h = rises-insert place row rows h

-- With a write its change is found at its place, and elsewhere what was.
at-with : (rows : State) (place : Place) (change : Option (List Cell)) (q : Place) → Rises rows → at_place (with_write rows place change) q ≡ cond (is_place q place) change (at_place rows q)
at-with rows place None q h = at-remove place q rows h
at-with rows place (Some row) q h = lookup-insert_entry place_cmp-total rows place row q

-- writes laid over rows leave places that rise
pub rises-laid : (rows : State) (writes : WriteSet) → Rises rows → Rises (laid_over rows writes)
rises-laid rows [] h = h
rises-laid rows (write ∷ writes) h = rises-laid (with_write rows write.0 write.1) writes (rises-with rows write.0 write.1 h)

-- What a first write leaves counts where none of those behind it wrote the place.
laid-step : (q : Place) (write : Place × Option (List Cell)) (writes : WriteSet) (before : Option (List Cell)) (b : Bool) → is_place q write.0 ≡ b → Below write.0 writes
    → unwrap_or (at_place writes q) (cond b write.1 before) ≡ unwrap_or (cond b (Some write.1) (at_place writes q)) before
laid-step q write writes before true is below =
    ap (λ (o : Option (Option (List Cell))). unwrap_or o write.1) (ap (at_place writes) (same-place q write.0 is) ∙ at-below write.0 writes below)
laid-step q write writes before false is below = refl

-- What is found behind writes: what they left, or else what was there.
pub at-laid : (rows : State) (writes : WriteSet) (q : Place) → Rises rows → Rises writes → at_place (laid_over rows writes) q ≡ unwrap_or (at_place writes q) (at_place rows q)
at-laid rows [] q h k = refl
at-laid rows (write ∷ writes) q h k =
    at-laid (with_write rows write.0 write.1) writes q (rises-with rows write.0 write.1 h) k.1
    ∙ ap (unwrap_or (at_place writes q)) (at-with rows write.0 write.1 q h)
    ∙ laid-step q write writes (at_place rows q) (is_place q write.0) refl k.0

-- all commits laid over rows, one after the other, leave places that rise
pub rises-fold : (rows : State) (history : History) → Rises rows → Rises (fold laid_over rows history)
rises-fold rows [] h = h
rises-fold rows (writes ∷ history) h = rises-fold (laid_over rows writes) history (rises-laid rows writes h)

-- where the places of each commit rise, so do those of the first ones
pub rise-take : (n : ℕ) (history : History) → AllRise history → AllRise (take n history)
rise-take zero history h = tt
rise-take (suc n) [] h = tt
rise-take (suc n) (writes ∷ history) h = (h.0, rise-take n history h.1)
