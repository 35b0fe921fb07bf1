-- Rows that rise, each of which is seen, and as many as are seen, are all that is seen.
use Rattle.std.proofs.Common.{◌≡◌, ℕ, ◌+◌, ◌<◌, ◌≤◌, zero, suc, Bool, true, false, cond, ◌&&◌, eqb, List, [], ◌∷◌, length, drop, get_or, Option, None, Some, refl, sym, ap, ◌∙◌, subst, arith}
use Rattle.std.specs.Cmp.Lexicographic.{pointwise}
use Rattle.std.specs.Cmp.{nat_cmp_is}
use Rattle.std.proofs.lemmas.Bool.{and_parts, and_from, eqb-true, eq-eqb}
use Rattle.std.proofs.lemmas.Bool.Decides.{Decides-int_eq}
use Rattle.std.proofs.lemmas.Slice.Eq.{bytes_eq-Decides}
use Rattle.std.proofs.lemmas.Option.{same_Some}
use Rattle.std.specs.Option.{option_map_or}
use Rattle.std.specs.Ordering.{nat_cmp, int_cmp, ordering_then}
use Rattle.std.specs.declared.cmp.Ordering.{Ordering}
use Rattle.std.specs.declared.cmp.Ordering.TheVariants.{Less, Equal, Greater}
use Rattle.std.specs.Prelude.{◌==◌, ℤ, int_lt, is_some}
use Rattle.cell_model.specs.declared.cell.Cell.{Cell}
use Rattle.cell_model.specs.declared.cell.Cell.TheVariants.{Null, Num, Truth, Text, Blob}
use Rattle.isolation_spec.specs.Contents.{State, at_place, contents_of, is_place, key_of, place_at, place_cmp, place_of}
use Rattle.isolation_spec.specs.declared.place.Place.{Place}
use Rattle.isolation_laws.proofs.Rows.{place_cmp-total}
use Rattle.si_machine.specs.Kept.{Below, Rises}
use Rattle.si_machine.proofs.Rising.{same-place, itself}
use Rattle.si_machine.proofs.Scanned.{unlike, among}
use Rattle.outcome_spec.specs.Answers.{is_cell, is_row}
use Rattle.outcome_counts.proofs.Shown.{both-ways}
use Rattle.outcome_judge.specs.ReadsJudged.{are_found, is_above, is_found}
use Rattle.outcome_judge.specs.Timed.{rows_in}
use Rattle.outcome_judge.proofs.Keyed.{AreKeyed}
use Rattle.outcome_judge.proofs.Laid.{first-here}

-- each of the rows is found at its place
abbrev pub Found : ℕ → State → List (List Cell) → Type 0
Found table seen [] = Unit {0}
Found table seen (row ∷ rows) = (at_place seen (place_of table row) ≡ Some row) × Found table seen rows

-- a place is below those of the rows, and the rows' places rise
abbrev pub Under : ℕ → Place → List (List Cell) → Type 0
Under table place [] = Unit {0}
Under table place (row ∷ rows) = (place_cmp place (place_of table row) ≡ Less) × Under table place rows

-- the places of the rows rise
abbrev pub Ordered : ℕ → List (List Cell) → Type 0
Ordered table [] = Unit {0}
Ordered table (row ∷ rows) = Under table (place_of table row) rows × Ordered table rows

module _ (table : ℕ) where
  -- what isn't at the first place is found behind it
  behind : (e : Place × List Cell) (seen : State) (row : List Cell) → is_place (place_of table row) e.0 ≡ false → at_place (e ∷ seen) (place_of table row) ≡ Some row → at_place seen (place_of table row) ≡ Some row
  behind e seen row apart h = sym (ap (λ (b : Bool). cond b (Some e.1) (at_place seen (place_of table row))) apart) ∙ h

  -- Rows that are found, and are all above the first place, are found behind it.
  all-behind : (e : Place × List Cell) (seen : State) (rows : List (List Cell)) → Under table e.0 rows → Found table (e ∷ seen) rows → Found table seen rows
  all-behind e seen [] under found = tt
  all-behind e seen (row ∷ rows) under found =
      (behind e seen row (unlike e.0 (place_of table row) under.0) found.0, all-behind e seen rows under.1 found.1)

  -- a place of another table is none of the rows'
  other-table : (place : Place) (row : List Cell) (b : Bool) → (place.table == table) ≡ false → is_place (place_of table row) place ≡ b → b ≡ false
  other-table place row true apart is =
      let e : place_of table row ≡ place = same-place (place_of table row) place is in
      let f : (table == table) ≡ false = ap (λ (p : Place). p.table == table) e ∙ apart in
      absurd (never f)
    where
      never : (table == table) ≡ false → ⊥
      never h = let e : eqb table table ≡ true = eq-eqb table table refl in let no : ⊥ = cc in no
  other-table place row false apart is = refl

  -- Rows that are found where the first place is another table's are found behind it.
  all-other : (e : Place × List Cell) (seen : State) (rows : List (List Cell)) → (e.0.table == table) ≡ false → Found table (e ∷ seen) rows → Found table seen rows
  all-other e seen [] apart found = tt
  all-other e seen (row ∷ rows) apart found =
      (behind e seen row (other-table e.0 row (is_place (place_of table row) e.0) apart refl) found.0, all-other e seen rows apart found.1)

  -- A place below one that is below all rows is below them, too.
  under-less : (low high : Place) (rows : List (List Cell)) → place_cmp low high ≡ Less → Under table high rows → Under table low rows
  under-less low high [] less h = tt
  under-less low high (row ∷ rows) less h = (place_cmp-total.trans low high (place_of table row) less h.0, under-less low high rows less h.1)

  -- A first entry of another table leaves a table's count of rows and its contents.
  rows-other : (e : Place × List Cell) (seen : State) → (e.0.table == table) ≡ false → (rows_in table (e ∷ seen) ≡ rows_in table seen) × (contents_of table (e ∷ seen) ≡ contents_of table seen)
  rows-other e seen apart = (rw apart refl, rw apart refl)

  -- A first entry of the table is the first of its contents.
  contents-own : (e : Place × List Cell) (seen : State) → (e.0.table == table) ≡ true → contents_of table (e ∷ seen) ≡ e.1 ∷ contents_of table seen
  contents-own e seen same = rw same refl

  -- A first entry of the table is one more of its rows.
  rows-own : (e : Place × List Cell) (seen : State) → (e.0.table == table) ≡ true → rows_in table (e ∷ seen) ≡ suc (rows_in table seen)
  rows-own e seen same = rw same refl

  -- all of them stand behind the first place, where the first row does
  first-behind : (e : Place × List Cell) (seen : State) (row : List Cell) (rows : List (List Cell)) → Below e.0 seen → is_place (place_of table row) e.0 ≡ false
      → Ordered table (row ∷ rows) → Found table (e ∷ seen) (row ∷ rows) → Found table seen (row ∷ rows)
  first-behind e seen row rows below apart ordered found =
      let here : at_place seen (place_of table row) ≡ Some row = behind e seen row apart found.0 in
      let less : place_cmp e.0 (place_of table row) ≡ Less = among (place_of table row) seen e.0 below (ap is-some-row here) in
      (here, all-behind e seen rows (under-less e.0 (place_of table row) rows less ordered.0) found.1)
    where
      is-some-row : Option (List Cell) → Bool
      is-some-row None = false
      is-some-row (Some row) = true

  -- rows that rise and are found are no more than there are
  few : (seen : State) (rows : List (List Cell)) → Rises seen → Ordered table rows → Found table seen rows → length rows ≤ rows_in table seen
  few seen [] rises ordered found = omega arith
  few [] (row ∷ rows) rises ordered found = absurd (let e : None ≡ Some row = found.0 in let never : ⊥ = cc in never)
  few (e ∷ seen) (row ∷ rows) rises ordered found = by (e.0.table == table) (is_place (place_of table row) e.0) refl refl
      (λ f. few seen (row ∷ rows) rises.1 ordered f) (λ f. few seen rows rises.1 ordered.1 f)
    where
      by : (own first : Bool) → (e.0.table == table) ≡ own → is_place (place_of table row) e.0 ≡ first
          → (Found table seen (row ∷ rows) → length (row ∷ rows) ≤ rows_in table seen) → (Found table seen rows → length rows ≤ rows_in table seen)
          → length (row ∷ rows) ≤ rows_in table (e ∷ seen)
      by false first is at whole rest = let r = (rows-other e seen is).0 in let h = whole (all-other e seen (row ∷ rows) is found) in omega (arith, r, h)
      by true false is at whole rest = let r = rows-own e seen is in let h = whole (first-behind e seen row rows rises.0 at ordered found) in omega (arith, r, h)
      by true true is at whole rest =
          let r = rows-own e seen is in
          let under : Under table e.0 rows = subst (λ (p : Place). Under table p rows) (same-place (place_of table row) e.0 at) ordered.0 in
          let h = rest (all-behind e seen rows under found.1) in
          omega (arith, r, h)

  -- as many of them as there are are all
  pub all-seen : (seen : State) (rows : List (List Cell)) → Rises seen → Ordered table rows → Found table seen rows → length rows ≡ rows_in table seen → rows ≡ contents_of table seen
  all-seen [] [] rises ordered found long = refl
  all-seen [] (row ∷ rows) rises ordered found long = absurd (let e : None ≡ Some row = found.0 in let never : ⊥ = cc in never)
  all-seen (e ∷ seen) [] rises ordered found long = by (e.0.table == table) refl (λ l. all-seen seen [] rises.1 tt tt l)
    where
      by : (own : Bool) → (e.0.table == table) ≡ own → (0 ≡ rows_in table seen → [] ≡ contents_of table seen) → [] ≡ contents_of table (e ∷ seen)
      by false is rest = rest (long ∙ (rows-other e seen is).0) ∙ sym (rows-other e seen is).1
      by true is rest = absurd (let r = rows-own e seen is in let no : ⊥ = omega (arith, r, long) in no)
  all-seen (e ∷ seen) (row ∷ rows) rises ordered found long = by (e.0.table == table) (is_place (place_of table row) e.0) refl refl
      (λ f l. all-seen seen (row ∷ rows) rises.1 ordered f l) (λ f l. all-seen seen rows rises.1 ordered.1 f l)
    where
      by : (own first : Bool) → (e.0.table == table) ≡ own → is_place (place_of table row) e.0 ≡ first
          → (Found table seen (row ∷ rows) → length (row ∷ rows) ≡ rows_in table seen → row ∷ rows ≡ contents_of table seen)
          → (Found table seen rows → length rows ≡ rows_in table seen → rows ≡ contents_of table seen)
          → row ∷ rows ≡ contents_of table (e ∷ seen)
      by false first is at whole rest = whole (all-other e seen (row ∷ rows) is found) (long ∙ (rows-other e seen is).0) ∙ sym (rows-other e seen is).1
      by true false is at whole rest =
          let r = rows-own e seen is in
          let h = few seen (row ∷ rows) rises.1 ordered (first-behind e seen row rows rises.0 at ordered found) in
          absurd (let no : ⊥ = omega (arith, r, h, long) in no)
      by true true is at whole rest =
          let r = rows-own e seen is in
          let under : Under table e.0 rows = subst (λ (p : Place). Under table p rows) (same-place (place_of table row) e.0 at) ordered.0 in
          let same : e.1 ≡ row = same_Some e.1 row (sym (ap (λ (b : Bool). cond b (Some e.1) (at_place seen (place_of table row))) at) ∙ found.0) in
          ap (λ (x : List Cell). x ∷ rows) (sym same) ∙ ap (λ (xs : List (List Cell)). e.1 ∷ xs) (rest (all-behind e seen rows under found.1) (omega (arith, r, long)))
          ∙ sym (contents-own e seen is)

-- ---- cells and rows that are tested to be one are one

-- Cells that are tested to be one are one.
cell-same : (a b : Cell) → is_cell a b ≡ true → a ≡ b
cell-same Null Null h = refl
cell-same (Num a) (Num b) h = ap Num ((Decides-int_eq a b).0 h)
cell-same (Truth true) (Truth true) h = refl
cell-same (Truth false) (Truth false) h = refl
cell-same (Text a) (Text b) h = ap Text ((bytes_eq-Decides a b).0 h)
cell-same (Blob a) (Blob b) h = ap Blob ((bytes_eq-Decides a b).0 h)
cell-same _ _ h = absurd (let never : ⊥ = cc in never)

-- Each cell is tested to be one with itself.
cell-itself : (a : Cell) → is_cell a a ≡ true
cell-itself Null = refl
cell-itself (Num a) = (Decides-int_eq a a).1 refl
cell-itself (Truth true) = refl
cell-itself (Truth false) = refl
cell-itself (Text a) = (bytes_eq-Decides a a).1 refl
cell-itself (Blob a) = (bytes_eq-Decides a a).1 refl

-- Lists that are tested to be one, element by element, are one where such elements are.
lists-same : {X : Type 0} (test : X → X → Bool) → ((a b : X) → test a b ≡ true → a ≡ b) → (xs ys : List X) → pointwise test xs ys ≡ true → xs ≡ ys
lists-same test same [] [] h = refl
lists-same test same [] (y ∷ ys) h = absurd (let never : ⊥ = cc in never)
lists-same test same (x ∷ xs) [] h = absurd (let never : ⊥ = cc in never)
lists-same test same (x ∷ xs) (y ∷ ys) h =
    let parts = and_parts (test x y) (pointwise test xs ys) h in
    ap (λ z. z ∷ xs) (same x y parts.0) ∙ ap (λ zs. y ∷ zs) (lists-same test same xs ys parts.1)

-- Each list is tested to be one with itself where each element is.
lists-itself : {X : Type 0} (test : X → X → Bool) → ((a : X) → test a a ≡ true) → (xs : List X) → pointwise test xs xs ≡ true
lists-itself test itself [] = refl
lists-itself test itself (x ∷ xs) = and_from (test x x) (pointwise test xs xs) (itself x) (lists-itself test itself xs)

-- Rows that are tested to be one are one.
row-same : (a b : List Cell) → is_row a b ≡ true → a ≡ b
row-same = lists-same is_cell cell-same

-- Each row is tested to be one with itself.
row-itself : (a : List Cell) → is_row a a ≡ true
row-itself = lists-itself is_cell cell-itself

-- ---- keys

-- A key that is below another compares as less.
key-less : (a b : ℤ) → int_lt a b ≡ true → int_cmp a b ≡ Less
key-less a b h = ap (λ (t : Bool). cond t Less (cond (int_lt b a) Greater Equal)) h

-- A comparison that is less is so by its first test.
less-by : (below above : Bool) → cond below Less (cond above Greater Equal) ≡ Less → below ≡ true
less-by true above h = refl
less-by false true h = absurd (let never : ⊥ = cc in never)
less-by false false h = absurd (let never : ⊥ = cc in never)

-- A key that compares as less is below the other.
less-key : (a b : ℤ) → int_cmp a b ≡ Less → int_lt a b ≡ true
less-key a b h = less-by (int_lt a b) (int_lt b a) h

module _ (table : ℕ) where
  -- Places of one table compare as their keys.
  place-less : (a b : ℤ) → place_cmp (place_at table a) (place_at table b) ≡ int_cmp a b
  place-less a b = ap (λ (o : Ordering). ordering_then o (int_cmp a b)) (nat-tied table)
    where
      nat-tied : (n : ℕ) → nat_cmp n n ≡ Equal
      nat-tied n = sym (nat_cmp_is n n Equal refl)

  -- A row that is tested to be the one found is found.
  found-row : (seen : State) (row : List Cell) (found : Option (List Cell)) → option_map_or (is_row row) found false ≡ true → found ≡ Some row
  found-row seen row None h = absurd (let never : ⊥ = cc in never)
  found-row seen row (Some found) h = ap Some (sym (row-same row found h))

  -- Rows that pass the test of a scan are each found at their place.
  found-all : (seen : State) (last : Option ℤ) (rows : List (List Cell)) → are_found table seen last rows ≡ true → Found table seen rows
  found-all seen last [] h = tt
  found-all seen last (row ∷ rows) h =
      let one = and_parts (is_above last (key_of row)) (is_found table seen row && are_found table seen (Some (key_of row)) rows) h in
      let two = and_parts (is_found table seen row) (are_found table seen (Some (key_of row)) rows) one.1 in
      (found-row seen row (at_place seen (place_of table row)) two.0, found-all seen (Some (key_of row)) rows two.1)

  -- Rows that pass the test of a scan above a key have places above the key's.
  under-all : (seen : State) (low : ℤ) (rows : List (List Cell)) → are_found table seen (Some low) rows ≡ true → Under table (place_at table low) rows
  under-all seen low [] h = tt
  under-all seen low (row ∷ rows) h =
      let one = and_parts (int_lt low (key_of row)) (is_found table seen row && are_found table seen (Some (key_of row)) rows) h in
      let two = and_parts (is_found table seen row) (are_found table seen (Some (key_of row)) rows) one.1 in
      let less : place_cmp (place_at table low) (place_of table row) ≡ Less = place-less low (key_of row) ∙ key-less low (key_of row) one.0 in
      (less, under-less table (place_at table low) (place_of table row) rows less (under-all seen (key_of row) rows two.1))

  -- Rows that pass the test of a scan have places that rise.
  ordered-all : (seen : State) (last : Option ℤ) (rows : List (List Cell)) → are_found table seen last rows ≡ true → Ordered table rows
  ordered-all seen last [] h = tt
  ordered-all seen last (row ∷ rows) h =
      let one = and_parts (is_above last (key_of row)) (is_found table seen row && are_found table seen (Some (key_of row)) rows) h in
      let two = and_parts (is_found table seen row) (are_found table seen (Some (key_of row)) rows) one.1 in
      (under-all seen (key_of row) rows two.1, ordered-all seen (Some (key_of row)) rows two.1)

  -- ---- the rows that are seen are found

  -- each entry is one of the whole
  abbrev Within : State → State → Type 0
  Within whole part = (place : Place) (row : List Cell) → at_place part place ≡ Some row → at_place whole place ≡ Some row

  -- Where each entry is one of the whole, each behind the first is.
  within-rest : (whole : State) (e : Place × List Cell) (part : State) → Below e.0 part → Within whole (e ∷ part) → Within whole part
  within-rest whole e part below within place row h =
      let less : place_cmp e.0 place ≡ Less = among place part e.0 below (ap is_some h) in
      within place row (ap (λ (b : Bool). cond b (Some e.1) (at_place part place)) (unlike e.0 place less) ∙ h)

  -- All entries are above the place of the last key, if there is one.
  abbrev AllAbove : Option ℤ → State → Type 0
  AllAbove None part = Unit {0}
  AllAbove (Some low) part = Below (place_at table low) part

  -- Where all entries are above the last key, those behind the first are.
  above-rest : (last : Option ℤ) (e : Place × List Cell) (part : State) → AllAbove last (e ∷ part) → AllAbove last part
  above-rest None e part h = tt
  above-rest (Some low) e part h = h.1

  -- Where all entries are above the last key, the key of the first is.
  above-key : (last : Option ℤ) (key : ℤ) (part : State) (row : List Cell) → AllAbove last ((place_at table key, row) ∷ part) → is_above last key ≡ true
  above-key None key part row h = refl
  above-key (Some low) key part row h = less-key low key (sym (place-less low key) ∙ h.0)

  -- The contents of a part of the whole pass the test of a scan from a lower key on.
  contents-found : (whole part : State) (last : Option ℤ) → Rises part → AreKeyed part → Within whole part → AllAbove last part → are_found table whole last (contents_of table part) ≡ true
  contents-found whole [] last rises keyed within above = refl
  contents-found whole (e ∷ part) last rises keyed within above = by (e.0.table == table) refl
      (contents-found whole part last rises.1 keyed.1 (within-rest whole e part rises.0 within) (above-rest last e part above))
      (λ h. contents-found whole part (Some (key_of e.1)) rises.1 keyed.1 (within-rest whole e part rises.0 within) h)
    where
      by : (own : Bool) → (e.0.table == table) ≡ own → are_found table whole last (contents_of table part) ≡ true
          → (AllAbove (Some (key_of e.1)) part → are_found table whole (Some (key_of e.1)) (contents_of table part) ≡ true)
          → are_found table whole last (contents_of table (e ∷ part)) ≡ true
      by false is rest next = ap (are_found table whole last) (rows-other table e part is).1 ∙ rest
      by true is rest next =
          let same : e.0.table ≡ table = eqb-true e.0.table table is in
          let place : e.0 ≡ place_of table e.1 = keyed.0 ∙ ap (λ (t : ℕ). place_of t e.1) same in
          let above-it : is_above last (key_of e.1) ≡ true = above-key last (key_of e.1) part e.1 (subst (λ (p : Place). AllAbove last ((p, e.1) ∷ part)) place above) in
          let there : at_place whole (place_of table e.1) ≡ Some e.1 = ap (at_place whole) (sym place) ∙ within e.0 e.1 (first-here e part) in
          let found : is_found table whole e.1 ≡ true = ap (λ (o : Option (List Cell)). option_map_or (is_row e.1) o false) there ∙ row-itself e.1 in
          ap (are_found table whole last) (contents-own table e part is)
          ∙ and_from (is_above last (key_of e.1)) (is_found table whole e.1 && are_found table whole (Some (key_of e.1)) (contents_of table part)) above-it
          (and_from (is_found table whole e.1) (are_found table whole (Some (key_of e.1)) (contents_of table part)) found (next (subst (λ (p : Place). Below p part) place rises.0)))

  -- Rows that rise, each that of its key, and as many as there are, are those of the table.
  pub scanned : (seen : State) (rows : List (List Cell)) → Rises seen → AreKeyed seen → (length rows == rows_in table seen && are_found table seen None rows) ≡ pointwise is_row rows (contents_of table seen)
  scanned seen rows rises keyed = both-ways (length rows == rows_in table seen && are_found table seen None rows) (pointwise is_row rows (contents_of table seen)) there back
    where
      there : (length rows == rows_in table seen && are_found table seen None rows) ≡ true → pointwise is_row rows (contents_of table seen) ≡ true
      there h =
          let parts = and_parts (length rows == rows_in table seen) (are_found table seen None rows) h in
          let all = all-seen table seen rows rises (ordered-all seen None rows parts.1) (found-all seen None rows parts.1) (eqb-true (length rows) (rows_in table seen) parts.0) in
          ap (pointwise is_row rows) (sym all) ∙ lists-itself is_row row-itself rows

      back : pointwise is_row rows (contents_of table seen) ≡ true → (length rows == rows_in table seen && are_found table seen None rows) ≡ true
      back h =
          let same = lists-same is_row row-same rows (contents_of table seen) h in
          and_from (length rows == rows_in table seen) (are_found table seen None rows) (eq-eqb (length rows) (rows_in table seen) (ap length same))
          (ap (are_found table seen None) same ∙ contents-found seen seen None rises keyed (λ place row h. h) tt)

-- ---- one more row

-- a row above the last that is found leaves the rest to be judged
pub found-step : (table : ℕ) (seen : State) (last : Option ℤ) (row : List Cell) (rest : List (List Cell)) (a b : Bool) → a ≡ is_above last (key_of row) → b ≡ is_found table seen row → a ≡ true → b ≡ true
    → are_found table seen last (row ∷ rest) ≡ are_found table seen (Some (key_of row)) rest
found-step table seen last row rest a b one two h k =
    ap (λ (x : Bool). x && (is_found table seen row && are_found table seen (Some (key_of row)) rest)) (sym one ∙ h)
    ∙ ap (λ (x : Bool). x && are_found table seen (Some (key_of row)) rest) (sym two ∙ k)

-- one that is not leaves the rows not found
pub found-stop : (table : ℕ) (seen : State) (last : Option ℤ) (row : List Cell) (rest : List (List Cell)) (a b : Bool) → a ≡ is_above last (key_of row) → b ≡ is_found table seen row → (a && b) ≡ false
    → are_found table seen last (row ∷ rest) ≡ false
found-stop table seen last row rest a b one two h = ap (λ (x : Bool). x && (is_found table seen row && are_found table seen (Some (key_of row)) rest)) (sym one) ∙ ap (λ (x : Bool). a && (x && are_found table seen (Some (key_of row)) rest)) (sym two) ∙ by a b h
  where
    by : (a b : Bool) → (a && b) ≡ false → (a && (b && are_found table seen (Some (key_of row)) rest)) ≡ false
    by true b h = ap (λ (x : Bool). x && are_found table seen (Some (key_of row)) rest) h
    by false b h = refl

-- the elements from one on are it and those behind it
pub drop-next-one : {X : Type 0} (xs : List X) (i : ℕ) (x : X) → i < length xs → x ≡ get_or xs i x → drop i xs ≡ x ∷ drop (i + 1) xs
drop-next-one {X = X} xs i x within is = let e : i + 1 ≡ suc i = omega arith in by xs i within is ∙ ap (λ (n : ℕ). x ∷ drop n xs) (sym e)
  where
    by : (xs : List X) (i : ℕ) → i < length xs → x ≡ get_or xs i x → drop i xs ≡ x ∷ drop (suc i) xs
    by [] i within is = absurd (omega (arith, within))
    by (y ∷ xs) zero within is = ap (λ (z : X). z ∷ xs) (sym is)
    by (y ∷ xs) (suc i) within is = by xs i (omega (arith, within)) is
