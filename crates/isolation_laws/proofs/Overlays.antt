-- Maps whose entries stand in the order of their places: look-ups, insertions, removals, and write
-- sets laid over rows.
use Rattle.std.proofs.Common.{◌≡◌, Bool, true, false, cond, List, [], ◌∷◌, Option, None, Some, Ordering, Less, Equal, Greater, All, refl, sym, ap, ◌∙◌}
use Rattle.std.specs.BTreeMap.{insert_entry}
use Rattle.std.specs.Cmp.{IsTotalOrder, tied_back, alike_right}
use Rattle.std.specs.Map.{keys_of, remove_entry}
use Rattle.std.specs.Ordering.{match_ordering, is_eq, ordering_reverse}
use Rattle.std.proofs.lemmas.List.Elements.{All-nil, All-cons, All-head, All-tail, All-weaker}
use Rattle.std.proofs.lemmas.Map.Views.{All-keys-insert_entry, All-map-remove_entry}
use Rattle.cell_model.specs.declared.cell.Cell.{Cell}
use Rattle.isolation_spec.specs.Contents.{place_cmp, is_place, at_place, PlaceMap, State, WriteSet, with_write, laid_over}
use Rattle.isolation_spec.specs.declared.place.Place.{Place}
use Rattle.isolation_laws.proofs.Entries.{lookup-insert_entry}
use Rattle.isolation_laws.proofs.Rows.{place_cmp-total}
use Rattle.isolation_spec.specs.Order.{InOrder}

-- The comparison of places is a total order.
o : IsTotalOrder place_cmp
o = place_cmp-total

-- A comparison that tests as equal has the answer equal.
equal_from : (answer : Ordering) → is_eq answer ≡ true → answer ≡ Equal
equal_from Less is = cc
equal_from Equal is = refl
equal_from Greater is = cc

-- at a place below all of a map's it has nothing
pub none_below : {X : Type 0} (es : PlaceMap X) (k q : Place) → is_eq (place_cmp k q) ≡ true → All (λ place. place_cmp k place ≡ Less) (keys_of es) → at_place es q ≡ None
none_below [] k q same all = refl
none_below (e ∷ es) k q same all =
    let less : place_cmp k e.0 ≡ Less = All-head (λ place. place_cmp k place ≡ Less) e.0 (keys_of es) all in
    let alike : place_cmp k e.0 ≡ place_cmp q e.0 = o.congr k q e.0 (equal_from (place_cmp k q) same) in
    ap (λ (r : Ordering). cond (is_eq r) (Some e.1) (at_place es q)) (sym alike ∙ less)
    ∙ none_below es k q same (All-tail (λ place. place_cmp k place ≡ Less) e.0 (keys_of es) all)

-- what was inserted is found at its place, and elsewhere what was there
pub at-insert : {X : Type 0} (es : PlaceMap X) (k : Place) (v : X) (q : Place) → at_place (insert_entry place_cmp es k v) q ≡ cond (is_place q k) (Some v) (at_place es q)
at-insert es k v q = lookup-insert_entry place_cmp-total es k v q

-- Two places compare as equal either way around, or neither way.
flip : (k q : Place) → is_eq (place_cmp k q) ≡ is_eq (place_cmp q k)
flip k q = ap is_eq (o.antisymm k q) ∙ go (place_cmp q k)
  where
    go : (r : Ordering) → is_eq (ordering_reverse r) ≡ is_eq r
    go Less = refl
    go Equal = refl
    go Greater = refl

-- A choice between a thing and itself is this thing.
cond_same : {Y : Type 0} (b : Bool) (y : Y) → y ≡ cond b y y
cond_same true y = refl
cond_same false y = refl

-- what was removed is not found at its place, and elsewhere what was there is
pub at-remove : {X : Type 0} (es : PlaceMap X) (k q : Place) → InOrder es → at_place (remove_entry (is_place k) es) q ≡ cond (is_place q k) None (at_place es q)
at-remove [] k q order = cond_same (is_place q k) None
at-remove (e ∷ es) k q order = go (is_place k e.0) (is_place q k) refl refl (at-remove es k q order.1)
  where
    go : (b c : Bool) → is_place k e.0 ≡ b → is_place q k ≡ c → at_place (remove_entry (is_place k) es) q ≡ cond (is_place q k) None (at_place es q)
        → at_place (cond (is_place k e.0) es (e ∷ remove_entry (is_place k) es)) q ≡ cond (is_place q k) None (at_place (e ∷ es) q)
    go true true ke qk rest =
        let eq : is_eq (place_cmp e.0 q) ≡ true =
        ap is_eq (o.antisymm e.0 q) ∙ ap (λ r. is_eq (ordering_reverse r)) (o.congr q k e.0 (equal_from (place_cmp q k) qk) ∙ equal_from (place_cmp k e.0) ke) in
        ap (λ b. at_place (cond b es (e ∷ remove_entry (is_place k) es)) q) ke
        ∙ none_below es e.0 q eq order.0
        ∙ ap (λ c. cond c None (at_place (e ∷ es) q)) (sym qk)
    go true false ke qk rest =
        let ek : is_place q e.0 ≡ false = ap is_eq (alike_right o e.0 k q (tied_back o k e.0 (equal_from (place_cmp k e.0) ke))) ∙ qk in
        ap (λ b. at_place (cond b es (e ∷ remove_entry (is_place k) es)) q) ke
        ∙ ap (λ b. cond b (Some e.1) (at_place es q)) (sym ek)
        ∙ ap (λ c. cond c None (at_place (e ∷ es) q)) (sym qk)
    go false true ke qk rest =
        let qe : is_place q e.0 ≡ false = ap is_eq (o.congr q k e.0 (equal_from (place_cmp q k) qk)) ∙ ke in
        ap (λ b. at_place (cond b es (e ∷ remove_entry (is_place k) es)) q) ke
        ∙ ap (λ b. cond b (Some e.1) (at_place (remove_entry (is_place k) es) q)) qe
        ∙ rest
        ∙ ap (λ c. cond c None (at_place es q)) qk
        ∙ ap (λ c. cond c None (at_place (e ∷ es) q)) (sym qk)
    go false false ke qk rest =
        ap (λ b. at_place (cond b es (e ∷ remove_entry (is_place k) es)) q) ke
        ∙ ap (cond (is_place q e.0) (Some e.1)) (rest ∙ ap (λ c. cond c None (at_place es q)) qk)
        ∙ ap (λ c. cond c None (at_place (e ∷ es) q)) (sym qk)

-- an insertion leaves the places in order
pub order-insert : {X : Type 0} (es : PlaceMap X) (k : Place) (v : X) → InOrder es → InOrder (insert_entry place_cmp es k v)
order-insert [] k v order = (All-nil (λ place. place_cmp k place ≡ Less), tt)
order-insert (e ∷ es) k v order = go (place_cmp k e.0) refl (order-insert es k v order.1)
  where
    go : (r : Ordering) → place_cmp k e.0 ≡ r → InOrder (insert_entry place_cmp es k v)
        → InOrder (match_ordering r ((k, v) ∷ e ∷ es) ((e.0, v) ∷ es) (e ∷ insert_entry place_cmp es k v))
    go Less is rest = (
      All-cons (λ place. place_cmp k place ≡ Less) e.0 (keys_of es) is
          (All-weaker (λ place. place_cmp e.0 place ≡ Less) (λ place. place_cmp k place ≡ Less) (λ x less. o.trans k e.0 x is less) (keys_of es) order.0),
      order,
    )
    go Equal is rest = order
    go Greater is rest = (
      All-keys-insert_entry place_cmp k v (λ place. place_cmp e.0 place ≡ Less) es order.0 (o.antisymm e.0 k ∙ ap ordering_reverse is),
      rest,
    )

-- a removal leaves the places in order
pub order-remove : {X : Type 0} (es : PlaceMap X) (k : Place) → InOrder es → InOrder (remove_entry (is_place k) es)
order-remove [] k order = order
order-remove (e ∷ es) k order = go (is_place k e.0) (order-remove es k order.1)
  where
    go : (b : Bool) → InOrder (remove_entry (is_place k) es) → InOrder (cond b es (e ∷ remove_entry (is_place k) es))
    go true rest = order.1
    go false rest = (All-map-remove_entry (is_place k) (λ x. x.0) (λ place. place_cmp e.0 place ≡ Less) es order.0, rest)

-- ---- write sets

-- a write leaves the rows in order
pub order-write : (rows : State) (place : Place) (value : Option (List Cell)) → InOrder rows → InOrder (with_write rows place value)
order-write rows place (Some row) order = order-insert rows place row order
order-write rows place None order = order-remove rows place order

-- what a write leaves at a place
abbrev pub over : Option (Option (List Cell)) → Option (List Cell) → Option (List Cell)
over None row = row
over (Some value) row = value

-- A write leaves its value at its place, and elsewhere what was there.
at-write : (rows : State) (k q : Place) (value : Option (List Cell)) → InOrder rows → at_place (with_write rows k value) q ≡ cond (is_place q k) value (at_place rows q)
at-write rows k q (Some row) order = at-insert rows k row q
at-write rows k q None order = at-remove rows k q order

-- a write set laid over rows: what it has at a place, else what was there
pub at-laid_over : (rows : State) (writes : WriteSet) (q : Place) → InOrder rows → InOrder writes
    → (at_place (laid_over rows writes) q ≡ over (at_place writes q) (at_place rows q)) × InOrder (laid_over rows writes)
at-laid_over rows [] q order ordered = (refl, order)
at-laid_over rows (e ∷ es) q order ordered =
    let rest = at-laid_over (with_write rows e.0 e.1) es q (order-write rows e.0 e.1 order) ordered.1 in
    (rest.0 ∙ ap (over (at_place es q)) (at-write rows e.0 q e.1 order) ∙ go (is_place q e.0) refl, rest.1)
  where
    go : (b : Bool) → is_place q e.0 ≡ b → over (at_place es q) (cond (is_place q e.0) e.1 (at_place rows q)) ≡ over (cond (is_place q e.0) (Some e.1) (at_place es q)) (at_place rows q)
    go true is =
        let none : at_place es q ≡ None = none_below es e.0 q (flip e.0 q ∙ is) ordered.0 in
        ap (λ found. over found (cond (is_place q e.0) e.1 (at_place rows q))) none
        ∙ ap (λ b. cond b e.1 (at_place rows q)) is
        ∙ ap (λ b. over (cond b (Some e.1) (at_place es q)) (at_place rows q)) (sym is)
    go false is =
        ap (λ b. over (at_place es q) (cond b e.1 (at_place rows q))) is
        ∙ ap (λ b. over (cond b (Some e.1) (at_place es q)) (at_place rows q)) (sym is)
