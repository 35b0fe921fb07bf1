-- Writes whose places rise, one by one.
use Rattle.std.proofs.Common.{◌≡◌, ℕ, suc, ◌-◌, List, [], ◌∷◌, ◌++◌, length, refl, sym, ap, subst, arith}
use Rattle.std.specs.Prelude.{All, IfSome, slice_get, Option}
use Rattle.std.specs.Cmp.{IsTotalOrder}
use Rattle.std.specs.Map.{keys_of}
use Rattle.std.specs.declared.cmp.Ordering.TheVariants.{Less}
use Rattle.std.proofs.lemmas.Cmp.{int_cmp_total, nat_cmp_total, on_total, then_total}
use Rattle.std.proofs.lemmas.List.Elements.{All-append, All-cons, All-head, All-nil, All-tail}
use Rattle.cell_model.specs.declared.cell.Cell.{Cell}
use Rattle.isolation_spec.specs.Contents.{place_cmp}
use Rattle.isolation_spec.specs.Order.{InOrder}
use Rattle.isolation_spec.specs.declared.place.Place.{Place}
use Rattle.log_records.specs.Front.{GoesOn}

abbrev Write : Type 0
Write = Place × Option (List Cell)

-- the comparison of places is a total order
places : IsTotalOrder place_cmp
places = then_total (on_total (λ (p : Place). p.table) nat_cmp_total) (on_total (λ (p : Place). p.key) int_cmp_total)

-- above the last of two or more is above the last of all but the first
goes_on-tail : (e f : Write) (es : List Write) (place : Place) → GoesOn (e ∷ f ∷ es) place → GoesOn (f ∷ es) place
goes_on-tail e f es place above =
    let same : length (e ∷ f ∷ es) - 1 ≡ suc (length (f ∷ es) - 1) = omega arith in
    subst (λ (n : ℕ). IfSome (slice_get (e ∷ f ∷ es) n) (λ last. place_cmp last.0 place ≡ Less)) same above

goes_on-cons : (e f : Write) (es : List Write) (place : Place) → GoesOn (f ∷ es) place → GoesOn (e ∷ f ∷ es) place
goes_on-cons e f es place above =
    let same : suc (length (f ∷ es) - 1) ≡ length (e ∷ f ∷ es) - 1 = omega arith in
    subst (λ (n : ℕ). IfSome (slice_get (e ∷ f ∷ es) n) (λ last. place_cmp last.0 place ≡ Less)) same above

-- what is below all of some writes is below what is above the last of them
below_next : (p : Place) (e : Write) (es : List Write) (place : Place) → All (λ q. place_cmp p q ≡ Less) (keys_of (e ∷ es)) → GoesOn (e ∷ es) place → place_cmp p place ≡ Less
below_next p e [] place below above = places.trans p e.0 place (All-head (λ q. place_cmp p q ≡ Less) e.0 [] below) above
below_next p e (f ∷ es) place below above =
    below_next p f es place (All-tail (λ q. place_cmp p q ≡ Less) e.0 (keys_of (f ∷ es)) below) (goes_on-tail e f es place above)

keys-more : (es : List Write) (w : Write) → keys_of (es ++ w ∷ []) ≡ keys_of es ++ w.0 ∷ []
keys-more [] w = refl
keys-more (e ∷ es) w = ap (λ (l : List Place). e.0 ∷ l) (keys-more es w)

-- one more write above the last keeps the places in order
pub in_order_more : (es : List Write) (w : Write) → InOrder es → GoesOn es w.0 → InOrder (es ++ w ∷ [])
in_order_more [] w order above = (All-nil (λ place. place_cmp w.0 place ≡ Less), tt)
in_order_more (e ∷ []) w order above =
    (All-cons (λ place. place_cmp e.0 place ≡ Less) w.0 [] above (All-nil (λ place. place_cmp e.0 place ≡ Less)), in_order_more [] w tt tt)
in_order_more (e ∷ f ∷ es) w order above = (
  subst (λ (l : List Place). All (λ place. place_cmp e.0 place ≡ Less) l) (sym (keys-more (f ∷ es) w))
      (All-append (λ place. place_cmp e.0 place ≡ Less) (keys_of (f ∷ es)) (w.0 ∷ []) order.0
      (All-cons (λ place. place_cmp e.0 place ≡ Less) w.0 [] (below_next e.0 f es w.0 order.0 (goes_on-tail e f es w.0 above)) (All-nil (λ place. place_cmp e.0 place ≡ Less)))),
  in_order_more (f ∷ es) w order.1 (goes_on-tail e f es w.0 above),
)

-- in order each write is above the last one before it
pub in_order_next : (es later : List Write) (w : Write) → InOrder (es ++ w ∷ later) → GoesOn es w.0
in_order_next [] later w order = tt
in_order_next (e ∷ []) later w order = All-head (λ place. place_cmp e.0 place ≡ Less) w.0 (keys_of later) order.0
in_order_next (e ∷ f ∷ es) later w order = goes_on-cons e f es w.0 (in_order_next (f ∷ es) later w order.1)
