-- A scan goes over places that rise, and finds the rows at those that pass a test in the order of
-- their keys.
use Rattle.std.proofs.Common.{◌≡◌, Bool, true, false, cond, List, [], ◌∷◌, Option, None, Some, refl, sym, ap, ◌∙◌, subst}
use Rattle.std.specs.Prelude.{is_some}
use Rattle.std.specs.List.{filter, filter_map, cons_option}
use Rattle.std.specs.Ordering.{is_eq}
use Rattle.std.specs.declared.cmp.Ordering.TheVariants.{Less}
use Rattle.cell_model.specs.declared.cell.Cell.{Cell}
use Rattle.isolation_spec.specs.Contents.{place_cmp, is_place, at_place, PlaceMap, State}
use Rattle.isolation_laws.proofs.Maps.{chosen}
use Rattle.isolation_spec.specs.declared.place.Place.{Place}
use Rattle.si_machine.specs.Kept.{Below, Rises}
use Rattle.si_machine.proofs.Rising.{same-place, itself, at-below, below-less}

-- what is found at the places that pass a test among the entries
abbrev pub found_in : {X : Type 0} → (Place → Bool) → State → PlaceMap X → List (List Cell)
found_in test seen entries = filter_map (λ entry. at_place seen entry.0) (filter (λ entry. test entry.0) entries)

-- a place below another isn't one with it
unlike-by : (low high : Place) (b : Bool) → is_place high low ≡ b → place_cmp low high ≡ Less → b ≡ false
unlike-by low high true is less =
    let e : Less ≡ place_cmp low low = sym less ∙ ap (place_cmp low) (same-place high low is) in
    let f : is_eq Less ≡ true = ap is_eq e ∙ itself low in
    absurd (let never : ⊥ = cc in never)
unlike-by low high false is less = refl

-- a place above another is not that one
pub unlike : (low high : Place) → place_cmp low high ≡ Less → is_place high low ≡ false
unlike low high less = unlike-by low high (is_place high low) refl less

module _ {X : Type 0} where
  -- what is found where the first entry is not it is found behind it
  pub either : (b : Bool) (x : X) (later : Option X) → is_some (cond b (Some x) later) ≡ true → b ≡ false → is_some later ≡ true
  either true x later h untold = absurd (let never : ⊥ = cc in never)
  either false x later h untold = h

  -- what is found behind an entry is found with it
  pub still : (b : Bool) (x : X) (later : Option X) → is_some later ≡ true → is_some (cond b (Some x) later) ≡ true
  still true x later h = refl
  still false x later h = h

  -- A place with something among entries above another place is above it, with one more in front.
  among-by : (place : Place) (entry : Place × X) (entries : PlaceMap X) (low : Place) (b : Bool) → is_place place entry.0 ≡ b → place_cmp low entry.0 ≡ Less
      → (is_some (at_place entries place) ≡ true → place_cmp low place ≡ Less) → is_some (cond b (Some entry.1) (at_place entries place)) ≡ true → place_cmp low place ≡ Less
  among-by place entry entries low true is below rest h = ap (place_cmp low) (same-place place entry.0 is) ∙ below
  among-by place entry entries low false is below rest h = rest h

  -- a place that is below the entries is below each of their places
  pub among : (place : Place) (entries : PlaceMap X) (low : Place) → Below low entries → is_some (at_place entries place) ≡ true → place_cmp low place ≡ Less
  among place [] low below h = absurd (let never : ⊥ = cc in never)
  among place (entry ∷ entries) low below h =
      among-by place entry entries low (is_place place entry.0) refl below.0 (among place entries low below.1) h

-- A choice between nothing and nothing adds nothing to the rows.
one-none : (b : Bool) (rows : List (List Cell)) → cons_option (cond {A = Option (List Cell)} b None None) rows ≡ rows
one-none true rows = refl
one-none false rows = refl

-- At another place than the first row's is what the rest has there.
both : (seen : State) (row : Place × List Cell) (q : Place) → is_place q row.0 ≡ false → at_place (row ∷ seen) q ≡ at_place seen q
both seen row q apart = ap (λ (b : Bool). cond b (Some row.1) (at_place seen q)) apart

-- Rows of which none is at any place are none.
none-left : (seen : State) → ((place : Place) → is_some (at_place seen place) ≡ true → ⊥) → seen ≡ []
none-left [] none = refl
none-left (row ∷ seen) none = absurd (none row.0 (ap (λ (b : Bool). is_some (cond b (Some row.1) (at_place seen row.0))) (itself row.0)))

module _ {X : Type 0} (test : Place → Bool) where
  -- One entry more adds the row at its place where that passes and has one.
  one-more : (seen : State) (entry : Place × X) (entries : PlaceMap X) (b : Bool) (found : Option (List Cell)) → at_place seen entry.0 ≡ found
      → filter_map (λ e. at_place seen e.0) (cond b (entry ∷ filter (λ e. test e.0) entries) (filter (λ e. test e.0) entries))
      ≡ cons_option (cond b found None) (found_in test seen entries)
  one-more seen entry entries true found is = ap (λ (o : Option (List Cell)). cons_option o (found_in test seen entries)) is
  one-more seen entry entries false found is = refl

  -- Without rows nothing is found at the places of the entries.
  nothing-found : (entries : PlaceMap X) → found_in test [] entries ≡ []
  nothing-found [] = refl
  nothing-found (entry ∷ entries) =
      one-more [] entry entries (test entry.0) None refl ∙ one-none (test entry.0) (found_in test [] entries) ∙ nothing-found entries

  -- A row below all entries is found at none of their places.
  skipped : (row : Place × List Cell) (seen : State) (entries : PlaceMap X) → Below row.0 entries → found_in test (row ∷ seen) entries ≡ found_in test seen entries
  skipped row seen [] below = refl
  skipped row seen (entry ∷ entries) below =
      let other : at_place (row ∷ seen) entry.0 ≡ at_place seen entry.0 = ap (λ (b : Bool). cond b (Some row.1) (at_place seen entry.0)) (unlike row.0 entry.0 below.0) in
      one-more (row ∷ seen) entry entries (test entry.0) (at_place seen entry.0) other
      ∙ ap (cons_option (cond (test entry.0) (at_place seen entry.0) None)) (skipped row seen entries below.1)
      ∙ sym (one-more seen entry entries (test entry.0) (at_place seen entry.0) refl)

  -- each place with a row is one of the entries'
  abbrev pub Covers : State → PlaceMap X → Type 0
  Covers seen entries = (place : Place) → is_some (at_place seen place) ≡ true → is_some (at_place entries place) ≡ true

  -- Without a first row and a first entry of one place, the entries still have each row's.
  covers-both : (row : Place × List Cell) (seen : State) (entry : Place × X) (entries : PlaceMap X) → row.0 ≡ entry.0 → Below row.0 seen → Covers (row ∷ seen) (entry ∷ entries) → Covers seen entries
  covers-both row seen entry entries same below covers q h =
      let apart : is_place q row.0 ≡ false = unlike row.0 q (among q seen row.0 below h) in
      either (is_place q entry.0) entry.1 (at_place entries q) (covers q (ap is_some (both seen row q apart) ∙ h)) (ap (is_place q) (sym same) ∙ apart)

  -- Without a first entry below all rows, the entries still have each row's place.
  covers-rest : (seen : State) (entry : Place × X) (entries : PlaceMap X) → Below entry.0 seen → Covers seen (entry ∷ entries) → Covers seen entries
  covers-rest seen entry entries below covers q h =
      either (is_place q entry.0) entry.1 (at_place entries q) (covers q h) (unlike entry.0 q (among q seen entry.0 below h))

  -- With a first row and a first entry what is found are the chosen rows, be their places one or not.
  merged-by : (row : Place × List Cell) (seen : State) (entry : Place × X) (entries : PlaceMap X) (b : Bool) → is_place row.0 entry.0 ≡ b
      → Rises (row ∷ seen) → Rises (entry ∷ entries) → Covers (row ∷ seen) (entry ∷ entries)
      → ((seen : State) → Rises seen → Covers seen entries → found_in test seen entries ≡ chosen test seen)
      → found_in test (row ∷ seen) (entry ∷ entries) ≡ chosen test (row ∷ seen)
  merged-by row seen entry entries true is rises among_rises covers rest =
      let same : row.0 ≡ entry.0 = same-place row.0 entry.0 is in
      let found : at_place (row ∷ seen) entry.0 ≡ Some row.1 = ap (at_place (row ∷ seen)) (sym same) ∙ ap (λ (b : Bool). cond b (Some row.1) (at_place seen row.0)) (itself row.0) in
      let below : Below row.0 entries = subst (λ (p : Place). Below p entries) (sym same) among_rises.0 in
      one-more (row ∷ seen) entry entries (test entry.0) (Some row.1) found
      ∙ ap (cons_option (cond (test entry.0) (Some row.1) None)) (skipped row seen entries below ∙ rest seen rises.1 (covers-both row seen entry entries same rises.0 covers))
      ∙ ap (λ (p : Place). cons_option (cond (test p) (Some row.1) None) (chosen test seen)) (sym same)
  merged-by row seen entry entries false is rises among_rises covers rest =
      let has : is_some (at_place (row ∷ seen) row.0) ≡ true = ap (λ (b : Bool). is_some (cond b (Some row.1) (at_place seen row.0))) (itself row.0) in
      let later : is_some (at_place entries row.0) ≡ true = either (is_place row.0 entry.0) entry.1 (at_place entries row.0) (covers row.0 has) is in
      let less : place_cmp entry.0 row.0 ≡ Less = among row.0 entries entry.0 among_rises.0 later in
      let below : Below entry.0 (row ∷ seen) = (less, below-less entry.0 row.0 seen less rises.0) in
      one-more (row ∷ seen) entry entries (test entry.0) None (at-below entry.0 (row ∷ seen) below)
      ∙ one-none (test entry.0) (found_in test (row ∷ seen) entries)
      ∙ rest (row ∷ seen) rises (covers-rest (row ∷ seen) entry entries below covers)

  -- The rows that are found at places that pass among the entries are the chosen rows.
  pub merged : (entries : PlaceMap X) (seen : State) → Rises seen → Rises entries → Covers seen entries → found_in test seen entries ≡ chosen test seen
  merged [] seen rises among_rises covers = sym (ap (chosen test) (none-left seen (λ place h. let e : false ≡ true = covers place h in let never : ⊥ = cc in never)))
  merged (entry ∷ entries) [] rises among_rises covers = nothing-found (entry ∷ entries)
  merged (entry ∷ entries) (row ∷ seen) rises among_rises covers =
      merged-by row seen entry entries (is_place row.0 entry.0) refl rises among_rises covers
      (λ seen rises covers. merged entries seen rises among_rises.1 covers)
