-- Of the bodies of ascending places the first that may be taken stands for all.
use Rattle.std.proofs.Common.{◌≡◌, ◌⊎◌, ℕ, zero, suc, ◌-◌, ◌/◌, ◌^◌, ◌<◌, ◌≤◌, ◌==◌, Bool, true, false, cond, List, [], ◌∷◌, Option, None, Some, length, get_or, nat_lt, refl, subst, sym, ap, ◌∙◌, arith}
use mathlib.Core.Logic.{inl, inr}
use Rattle.std.specs.Prelude.{count_by, slice_get}
use Rattle.std.specs.List.Sorted.{IsNonDecreasing}
use Rattle.std.proofs.lemmas.Bool.Decides.{nat_tests}
use Rattle.std.proofs.lemmas.List.Sums.{sum_by-cons}
use Rattle.block_layout.specs.Place.{block_of}
use Rattle.core_parts.proofs.Founds.{absorbed, behind_none, low_none, outside_none, same_names, unless}
use Rattle.core_laws.proofs.Words.Numbers.{name_at, number_at}
use Rattle.core_laws.specs.Words.Words.{number_among}
use Rattle.core_parts.proofs.Numbered.{offered_there}
use Rattle.core_parts.proofs.Spots.{number_is, number_of}
use Rattle.core_parts.specs.declared.least.Least.{Least}
use Rattle.core_parts.specs.declared.written.PartKind.TheVariants as kinds
use Rattle.core_parts.specs.Least.{IsFirstBlock, offered, offered_all, offered_name}
use Rattle.core_parts.specs.Touched.{bodies_at}
use Rattle.event_spec.specs.Lawful.{Among}
use Rattle.event_spec.specs.Parts.{BodyOf, Name, Shape, names}
use Rattle.key_index.specs.Candidates.{IsInOrder}

pub below : (a b : ℕ) → nat_lt a b ≡ true → a < b
below a b e = grind (arith, nat_tests)

pub above : (a b : ℕ) → nat_lt a b ≡ false → b ≤ a
above a b e = grind (arith, nat_tests)

-- the blocks of ascending places ascend
pub blocks_rise : (places : List ℕ) → IsNonDecreasing places → (i j d : ℕ) → i ≤ j → j < length places → block_of (get_or places i d) ≤ block_of (get_or places j d)
blocks_rise places rises i j d le less = let r = rises i j d le less in divided (get_or places i d) (get_or places j d) r
  where
    divided : (a b : ℕ) → a ≤ b → a / 2 ^ 20 ≤ b / 2 ^ 20
    divided a b le = omega (arith, le)

module _ (sh : Shape) (table : ℕ) where
  -- Where the body of each place changes nothing, those of all places change nothing.
  settled : (places : List ℕ) (least : Least) → ((k : ℕ) → k < length places → offered_name sh least (BodyOf table (block_of (get_or places k 0))) ≡ least)
      → offered_all sh (bodies_at table places) least ≡ least
  settled [] least each = refl
  settled (p ∷ ps) least each =
      ap (offered_all sh (bodies_at table ps)) (each 0 (omega arith)) ∙ settled ps least (λ k l. each (suc k) (omega (arith, l)))

  -- The body of a place is among those of all.
  among_bodies : (places : List ℕ) (k : ℕ) → k < length places → Among (BodyOf table (block_of (get_or places k 0))) (bodies_at table places)
  among_bodies [] k l = absurd (omega (arith, l))
  among_bodies (p ∷ ps) zero l = inl refl
  among_bodies (p ∷ ps) (suc k) l = inr (among_bodies ps k (omega (arith, l)))

  -- A body of a later block has a later number.
  numbers_rise : (a b n m : ℕ) → a ≤ b → slice_get (names sh) n ≡ Some (BodyOf table a) → slice_get (names sh) m ≡ Some (BodyOf table b) → n ≤ m
  numbers_rise a b n m le ata atb =
      let one = (number_is sh kinds.Body table a n ata).2 in
      let other = (number_is sh kinds.Body table b m atb).2 in
      omega (arith, one, other, le)

  -- A table that has a body of a later block has one of each before.
  body_before : (a b m : ℕ) → a ≤ b → slice_get (names sh) m ≡ Some (BodyOf table b) → (n : ℕ) × (slice_get (names sh) n ≡ Some (BodyOf table a))
  body_before a b m le atb =
      let other = number_is sh kinds.Body table b m atb in
      let few = other.1 in
      (_, number_of sh kinds.Body table a other.0 (omega (arith, few, le)))

  -- Beside the first body that may be taken another changes nothing.
  passed : (least : Least) (first start block : ℕ) → IsFirstBlock sh table least.from first → first ≤ start → (block < first) ⊎ (start ≤ block)
      → offered_name sh (offered_name sh least (BodyOf table start)) (BodyOf table block) ≡ offered_name sh least (BodyOf table start)
  passed least first start block is low apart = go (number_among (names sh) (BodyOf table start)) refl
    where
      gone : number_among (names sh) (BodyOf table start) ≡ None → (n : ℕ) → slice_get (names sh) n ≡ Some (BodyOf table start) → ⊥
      gone none n at = let never : None ≡ Some n = sym none ∙ number_at sh n (BodyOf table start) at in cc

      alone : ((n : ℕ) → slice_get (names sh) n ≡ Some (BodyOf table start) → ⊥) → (n : ℕ) → slice_get (names sh) n ≡ Some (BodyOf table block)
          → (block < first) ⊎ (start ≤ block) → offered n least ≡ least
      alone never n at (inl less) = low_none n least ((is block n at).0 less)
      alone never n at (inr behind) = let there = body_before start block n behind at in absurd (never there.0 there.1)

      beside : (m : ℕ) → slice_get (names sh) m ≡ Some (BodyOf table start) → (n : ℕ) → slice_get (names sh) n ≡ Some (BodyOf table block)
          → (block < first) ⊎ (start ≤ block) → offered n (offered m least) ≡ offered m least
      beside m there n at (inl less) = outside_none m n least ((is block n at).0 less)
      beside m there n at (inr behind) = behind_none m n least ((is start m there).1 low) (numbers_rise start block m n behind there at)

      go : (o : Option ℕ) → number_among (names sh) (BodyOf table start) ≡ o
          → offered_name sh (offered_name sh least (BodyOf table start)) (BodyOf table block) ≡ offered_name sh least (BodyOf table start)
      go None none =
          let same = unless sh (BodyOf table start) least (λ n at. absurd (gone none n at)) in
          ap (λ l. offered_name sh l (BodyOf table block)) same ∙ unless sh (BodyOf table block) least (λ n at. alone (gone none) n at apart) ∙ sym same
      go (Some m) some =
          let there = name_at (names sh) (BodyOf table start) m some in
          let same = offered_there sh least (BodyOf table start) m there in
          ap (λ l. offered_name sh l (BodyOf table block)) same ∙ unless sh (BodyOf table block) (offered m least) (λ n at. beside m there n at apart) ∙ sym same

  -- where no place may be taken nothing is offered
  pub none_offered : (places : List ℕ) (least : Least) (first start : ℕ) → IsFirstBlock sh table least.from first → length places ≤ start
      → ((k : ℕ) → k < start → k < length places → block_of (get_or places k 0) < first) → offered_all sh (bodies_at table places) least ≡ least
  none_offered places least first start is long low =
      settled places least (λ k l. unless sh (BodyOf table (block_of (get_or places k 0))) least
      (λ n at. low_none n least ((is (block_of (get_or places k 0)) n at).0 (low k (omega (arith, long, l)) l))))

  -- else the body of the first that may is offered for those of all
  pub first_offered : (places : List ℕ) (least : Least) (first start : ℕ) → IsFirstBlock sh table least.from first → IsNonDecreasing places → start < length places
      → ((k : ℕ) → k < start → k < length places → block_of (get_or places k 0) < first)
      → ((k : ℕ) → start ≤ k → k < length places → first ≤ block_of (get_or places k 0))
      → offered_all sh (bodies_at table places) least ≡ offered_name sh least (BodyOf table (block_of (get_or places start 0)))
  first_offered places least first start is rises there low high =
      let w = BodyOf table (block_of (get_or places start 0)) in
      sym (absorbed sh (bodies_at table places) least w (among_bodies places start there))
      ∙ settled places (offered_name sh least w)
      (λ k l. passed least first (block_of (get_or places start 0)) (block_of (get_or places k 0)) is (high start (omega arith) there) (apart k l (nat_lt k start) refl))
    where
      apart : (k : ℕ) → k < length places → (b : Bool) → nat_lt k start ≡ b → (block_of (get_or places k 0) < first) ⊎ (block_of (get_or places start 0) ≤ block_of (get_or places k 0))
      apart k l true e = inl (low k (below k start e) l)
      apart k l false e = inr (blocks_rise places rises start k 0 (above k start e) l)

-- ---- the same places in any order

-- how often a place counts in a test
abbrev weight : (ℕ → Bool) → ℕ → ℕ
weight test place = cond (test place) 1 0

same_place : (a b : ℕ) → (a == b) ≡ true → a ≡ b
same_place a b e = grind (arith, nat_tests)

itself : (a : ℕ) → (a == a) ≡ true
itself a = grind (arith, nat_tests)

-- A place that counts is among them, and one among them counts.
counted : (place : ℕ) (places : List ℕ) → 0 < count_by (λ other. other == place) places → Among place places
counted place [] some = absurd (omega (arith, some))
counted place (p ∷ ps) some = go (counted place ps) (p == place) refl
  where
    go : (0 < count_by (λ other. other == place) ps → Among place ps) → (b : Bool) → (p == place) ≡ b → Among place (p ∷ ps)
    go behind true e = inl (sym (same_place p place e))
    go behind false e =
        let c = sum_by-cons (weight (λ other. other == place)) p ps in
        let z : weight (λ other. other == place) p ≡ 0 = ap (λ b. cond b 1 0) e in
        inr (behind (omega (arith, some, c, z)))

counts : (place : ℕ) (places : List ℕ) → Among place places → 0 < count_by (λ other. other == place) places
counts place [] a = absurd a
counts place (p ∷ ps) (inl e) =
    let c = sum_by-cons (weight (λ other. other == place)) p ps in
    let z : weight (λ other. other == place) p ≡ 1 = ap (λ b. cond b 1 0) (ap (λ q. q == place) (sym e) ∙ itself place) in
    omega (arith, c, z)
counts place (p ∷ ps) (inr a) =
    let c = sum_by-cons (weight (λ other. other == place)) p ps in
    let r = counts place ps a in
    omega (arith, c, r)

-- A body of a place among them is among their bodies, and there are no others.
body_of_place : (table : ℕ) (w : Name) (places : List ℕ) → Among w (bodies_at table places) → (place : ℕ) × Among place places × (w ≡ BodyOf table (block_of place))
body_of_place table w [] a = absurd a
body_of_place table w (p ∷ ps) (inl e) = (p, inl refl, e)
body_of_place table w (p ∷ ps) (inr a) = let r = body_of_place table w ps a in (r.0, inr r.1, r.2)

place_of_body : (table place : ℕ) (places : List ℕ) → Among place places → Among (BodyOf table (block_of place)) (bodies_at table places)
place_of_body table place [] a = absurd a
place_of_body table place (p ∷ ps) (inl e) = inl (ap (λ q. BodyOf table (block_of q)) e)
place_of_body table place (p ∷ ps) (inr a) = inr (place_of_body table place ps a)

moved : (table : ℕ) (places others : List ℕ) → ((place : ℕ) → Among place places → Among place others)
    → (w : Name) → Among w (bodies_at table places) → Among w (bodies_at table others)
moved table places others each w a =
    let there = body_of_place table w places a in
    subst (λ v. Among v (bodies_at table others)) (sym there.2) (place_of_body table there.0 others (each there.0 there.1))

-- the bodies of the same places in order are offered alike
pub in_order_offered : (sh : Shape) (table : ℕ) (places ascending : List ℕ) (least : Least) → IsInOrder places ascending
    → offered_all sh (bodies_at table ascending) least ≡ offered_all sh (bodies_at table places) least
in_order_offered sh table places ascending least is =
    same_names sh (bodies_at table ascending) (bodies_at table places) least
    (moved table places ascending (λ p a. let e = is.same (λ other. other == p) in let c = counts p places a in counted p ascending (omega (arith, e, c))))
    (moved table ascending places (λ p a. let e = is.same (λ other. other == p) in let c = counts p ascending a in counted p places (omega (arith, e, c))))

-- ---- the first block whose body may be taken

-- where a table has bodies
pub first_block : (sh : Shape) (table from base first : ℕ) → slice_get (names sh) base ≡ Some (BodyOf table 0) → first ≡ from - base → IsFirstBlock sh table from first
first_block sh table from base first at same block number there =
    let one = (number_is sh kinds.Body table 0 base at).2 in
    let other = (number_is sh kinds.Body table block number there).2 in
    (λ less. omega (arith, one, other, same, less), λ le. omega (arith, one, other, same, le))
