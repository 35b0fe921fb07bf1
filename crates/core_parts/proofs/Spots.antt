-- The parts of a kind lie in the order of their spots.
use Rattle.std.proofs.Common.{◌≡◌, ◌⊎◌, ℕ, zero, suc, ◌+◌, ◌-◌, ◌*◌, ◌/◌, ◌%◌, ◌^◌, ◌<◌, ◌≤◌, Bool, true, false, List, [], ◌∷◌, Option, None, Some, length, get_or, nat_lt, refl, sym, ap, ◌∙◌, arith}
use mathlib.Core.Logic.{inl, inr}
use Rattle.std.specs.Prelude.{option_map, slice_get, unwrap_or}
use Rattle.std.proofs.lemmas.Bool.Decides.{nat_tests}
use Rattle.cell_model.specs.declared.table.TableDecl.{TableDecl}
use Rattle.core_parts.proofs.Numbering.{body_at_number, first_at, shard_at_number}
use Rattle.core_parts.proofs.Placing.{named_once}
use Rattle.core_parts.proofs.Telling.{block_of_body, table_of_shard}
use Rattle.core_parts.specs.Numbers.{first_bodies}
use Rattle.core_parts.specs.declared.written.PartKind.{PartKind}
use Rattle.core_parts.specs.declared.written.PartKind.TheVariants as kinds
use Rattle.core_laws.specs.Words.Words.{number_among}
use Rattle.core_parts.specs.Written.{IsFirstSpot, count_of, name_of, name_on}
use Rattle.core_laws.proofs.Words.Numbers.{name_at, number_at}
use Rattle.event_spec.specs.Lawful.{Among, HasTable}
use Rattle.event_spec.specs.Parts.{Name, Shape, blocks_of, names}

-- A name that stands at a place of a list is among it.
among_at : (ns : List Name) (k : ℕ) (w : Name) → slice_get ns k ≡ Some w → Among w ns
among_at [] k w is = cc
among_at (n ∷ ns) zero w is = inl (let e : n ≡ w = cc in sym e)
among_at (n ∷ ns) (suc k) w is = inr (among_at ns k w is)

-- A number that stands at a place of a list is read there.
got_or : (xs : List ℕ) (k x : ℕ) → slice_get xs k ≡ Some x → get_or xs k 0 ≡ x
got_or [] k x is = cc
got_or (y ∷ xs) zero x is = cc
got_or (y ∷ xs) (suc k) x is = got_or xs k x is

-- A list has an element at each place within its length.
got_there : {X : Type 0} (xs : List X) (k : ℕ) → k < length xs → (x : X) × (slice_get xs k ≡ Some x)
got_there [] k less = absurd (omega (arith, less))
got_there (x ∷ xs) zero less = (x, refl)
got_there (x ∷ xs) (suc k) less = got_there xs k (omega (arith, less))

-- each table's bodies come after those of the tables before it
first_low : (from : ℕ) (tables : List TableDecl) (u : ℕ) → u < length tables → from ≤ get_or (first_bodies from tables) u 0
first_low from [] u less = absurd (omega (arith, less))
first_low from (d ∷ ds) zero less = omega arith
first_low from (d ∷ ds) (suc u) less = let r = first_low (from + d.blocks) ds u (omega (arith, less)) in omega (arith, r)

-- A later table's first body stands behind all bodies of an earlier one.
bodies_rise : (from : ℕ) (tables : List TableDecl) (t u : ℕ) (decl : TableDecl) → slice_get tables t ≡ Some decl → t < u → u < length tables
    → get_or (first_bodies from tables) t 0 + decl.blocks ≤ get_or (first_bodies from tables) u 0
bodies_rise from [] t u decl at less within = cc
bodies_rise from (d ∷ ds) t zero decl at less within = absurd (omega (arith, less))
bodies_rise from (d ∷ ds) zero (suc u) decl at less within =
    let same : d ≡ decl = cc in let b = ap (λ (x : TableDecl). x.blocks) same in
    let r = first_low (from + d.blocks) ds u (omega (arith, within)) in omega (arith, r, b)
bodies_rise from (d ∷ ds) (suc t) (suc u) decl at less within = bodies_rise (from + d.blocks) ds t u decl at (omega (arith, less)) (omega (arith, within))

-- the number of a table's first part of a kind
abbrev pub start_of : Shape → PartKind → ℕ → ℕ
start_of sh kinds.Shard t = length sh.tables + 8 * t
start_of sh kinds.Body t = get_or (first_bodies (9 * length sh.tables) sh.tables) t 0

-- a table's part of a kind stands behind the first of these, as far as its index says
pub number_of : (sh : Shape) (kind : PartKind) (t i : ℕ) → HasTable sh t → i < count_of sh kind t → slice_get (names sh) (start_of sh kind t + i) ≡ Some (name_of kind t i)
number_of sh kinds.Shard t i has less =
    ap (slice_get (names sh)) (let e : length sh.tables + 8 * t + i ≡ length sh.tables + (8 * t + i) = omega arith in e) ∙ shard_at_number sh t i has less
number_of sh kinds.Body t i has less =
    let first = first_at (9 * length sh.tables) sh.tables t has in
    ap (λ n. slice_get (names sh) (n + i)) (got_or (first_bodies (9 * length sh.tables) sh.tables) t first.0 first.1)
    ∙ body_at_number sh t i first.0 (has, less) first.1

-- A part of the core is of one of the tables, and within their count.
has_part : (sh : Shape) (kind : PartKind) (t i : ℕ) → Among (name_of kind t i) (names sh) → HasTable sh t × (i < count_of sh kind t)
has_part sh kinds.Shard t i a = table_of_shard sh t i a
has_part sh kinds.Body t i a = block_of_body sh t i a

-- and what stands there is that part
pub number_is : (sh : Shape) (kind : PartKind) (t i n : ℕ) → slice_get (names sh) n ≡ Some (name_of kind t i) → HasTable sh t × (i < count_of sh kind t) × (n ≡ start_of sh kind t + i)
number_is sh kind t i n at =
    let has = has_part sh kind t i (among_at (names sh) n (name_of kind t i) at) in
    (has.0, has.1, named_once sh n (start_of sh kind t + i) (name_of kind t i) at (number_of sh kind t i has.0 has.1))

-- the part at a spot, if there is one
pub part_there : (sh : Shape) (kind : PartKind) (spot n : ℕ) → slice_get (names sh) n ≡ Some (name_on kind spot) → Some n ≡ number_among (names sh) (name_on kind spot)
part_there sh kind spot n at = sym (number_at sh n (name_on kind spot) at)

-- Where no part is at a spot, it has no number.
no_part : (sh : Shape) (kind : PartKind) (spot : ℕ) → (Among (name_on kind spot) (names sh) → ⊥) → None ≡ number_among (names sh) (name_on kind spot)
no_part sh kind spot never = go (number_among (names sh) (name_on kind spot)) refl
  where
    go : (o : Option ℕ) → number_among (names sh) (name_on kind spot) ≡ o → None ≡ number_among (names sh) (name_on kind spot)
    go None e = sym e
    go (Some n) e = absurd (never (among_at (names sh) n (name_on kind spot) (name_at (names sh) (name_on kind spot) n e)))

-- no part is at a spot of a table that there is not
pub no_table : (sh : Shape) (kind : PartKind) (spot : ℕ) → length sh.tables ≤ spot / 2 ^ 32 → None ≡ number_among (names sh) (name_on kind spot)
no_table sh kind spot high = no_part sh kind spot (λ a. let has = (has_part sh kind (spot / 2 ^ 32) (spot % 2 ^ 32) a).0 in absurd (omega (arith, has, high)))

-- nor at a spot behind the last of its table
pub no_place : (sh : Shape) (kind : PartKind) (spot : ℕ) → count_of sh kind (spot / 2 ^ 32) ≤ spot % 2 ^ 32 → None ≡ number_among (names sh) (name_on kind spot)
no_place sh kind spot high = no_part sh kind spot (λ a. let has = (has_part sh kind (spot / 2 ^ 32) (spot % 2 ^ 32) a).1 in absurd (omega (arith, has, high)))

-- a table's parts of a kind stand before those of a later table
pub starts_rise : (sh : Shape) (kind : PartKind) (t u : ℕ) → t < u → HasTable sh u → start_of sh kind t + count_of sh kind t ≤ start_of sh kind u
starts_rise sh kinds.Shard t u less has = omega (arith, less)
starts_rise sh kinds.Body t u less has =
    let there = got_there sh.tables t (omega (arith, less, has)) in
    let blocks : blocks_of sh t ≡ there.0.blocks = ap (λ o. unwrap_or (option_map (λ (d : TableDecl). d.blocks) o) 0) there.1 in
    let r = bodies_rise (9 * length sh.tables) sh.tables t u there.0 there.1 less has in
    omega (arith, blocks, r)

-- ---- the first spot

-- One number is below another, equal to it, or above it.
by_order : (a b : ℕ) → (a < b) ⊎ ((a ≡ b) ⊎ (b < a))
by_order a b = go (nat_lt a b) (nat_lt b a) refl refl
  where
    less : (a b : ℕ) → nat_lt a b ≡ true → a < b
    less a b e = grind (arith, nat_tests)

    same : (a b : ℕ) → nat_lt a b ≡ false → nat_lt b a ≡ false → a ≡ b
    same a b e f = grind (arith, nat_tests)

    go : (x y : Bool) → nat_lt a b ≡ x → nat_lt b a ≡ y → (a < b) ⊎ ((a ≡ b) ⊎ (b < a))
    go true y e f = inl (less a b e)
    go false true e f = inr (inr (less b a f))
    go false false e f = inr (inl (same a b e f))

-- two spots of parts, in their order
pub spots_rise : (sh : Shape) (kind : PartKind) (x y n m : ℕ) → x ≤ y → slice_get (names sh) n ≡ Some (name_on kind x) → slice_get (names sh) m ≡ Some (name_on kind y) → n ≤ m
spots_rise sh kind x y n m le atx aty = go (by_order (x / 2 ^ 32) (y / 2 ^ 32))
  where
    a : HasTable sh (x / 2 ^ 32) × (x % 2 ^ 32 < count_of sh kind (x / 2 ^ 32)) × (n ≡ start_of sh kind (x / 2 ^ 32) + x % 2 ^ 32)
    a = number_is sh kind (x / 2 ^ 32) (x % 2 ^ 32) n atx

    b : HasTable sh (y / 2 ^ 32) × (y % 2 ^ 32 < count_of sh kind (y / 2 ^ 32)) × (m ≡ start_of sh kind (y / 2 ^ 32) + y % 2 ^ 32)
    b = number_is sh kind (y / 2 ^ 32) (y % 2 ^ 32) m aty

    go : (x / 2 ^ 32 < y / 2 ^ 32) ⊎ ((x / 2 ^ 32 ≡ y / 2 ^ 32) ⊎ (y / 2 ^ 32 < x / 2 ^ 32)) → n ≤ m
    go (inl less) =
        let r = starts_rise sh kind (x / 2 ^ 32) (y / 2 ^ 32) less b.0 in
        let p = a.1 in let q = a.2 in let s = b.2 in omega (arith, r, p, q, s)
    go (inr (inl same)) =
        let start = ap (start_of sh kind) same in
        let q = a.2 in let s = b.2 in omega (arith, same, start, q, s, le)
    go (inr (inr more)) = absurd (omega (arith, more, le))

-- the parts of the tables before one have numbers below
abbrev pub AreBefore : PartKind → Shape → ℕ → ℕ → Type 0
AreBefore kind sh from t = (spot n : ℕ) → slice_get (names sh) n ≡ Some (name_on kind spot) → spot / 2 ^ 32 < t → n < from

-- of one more table
pub before_more : (kind : PartKind) (sh : Shape) (from t : ℕ) → AreBefore kind sh from t → (count_of sh kind t ≡ 0) ⊎ (start_of sh kind t + (count_of sh kind t - 1) < from) → AreBefore kind sh from (t + 1)
before_more kind sh from t before here spot n at less = go (by_order (spot / 2 ^ 32) t)
  where
    a : HasTable sh (spot / 2 ^ 32) × (spot % 2 ^ 32 < count_of sh kind (spot / 2 ^ 32)) × (n ≡ start_of sh kind (spot / 2 ^ 32) + spot % 2 ^ 32)
    a = number_is sh kind (spot / 2 ^ 32) (spot % 2 ^ 32) n at

    low : (count_of sh kind t ≡ 0) ⊎ (start_of sh kind t + (count_of sh kind t - 1) < from) → spot / 2 ^ 32 ≡ t → n < from
    low (inl none) same = let p = a.1 in let count = ap (count_of sh kind) same in absurd (omega (arith, none, p, count))
    low (inr high) same =
        let p = a.1 in let q = a.2 in let count = ap (count_of sh kind) same in let start = ap (start_of sh kind) same in
        omega (arith, high, p, q, count, start)

    go : (spot / 2 ^ 32 < t) ⊎ ((spot / 2 ^ 32 ≡ t) ⊎ (t < spot / 2 ^ 32)) → n < from
    go (inl under) = before spot n at under
    go (inr (inl same)) = low here same
    go (inr (inr over)) = absurd (omega (arith, over, less))

-- behind all tables
pub first_behind : (kind : PartKind) (sh : Shape) (from first : ℕ) → AreBefore kind sh from (length sh.tables) → first ≡ length sh.tables * 2 ^ 32 + 0 → IsFirstSpot kind sh from first
first_behind kind sh from first before is spot n at =
    let has = (number_is sh kind (spot / 2 ^ 32) (spot % 2 ^ 32) n at).0 in
    (λ less. before spot n at has, λ le. absurd (omega (arith, le, is, has)))

-- in a table whose last part has no lower number
pub first_within : (kind : PartKind) (sh : Shape) (from t first : ℕ) → HasTable sh t → 0 < count_of sh kind t → count_of sh kind t < 2 ^ 32
    → from ≤ start_of sh kind t + (count_of sh kind t - 1) → AreBefore kind sh from t → first ≡ t * 2 ^ 32 + (from - start_of sh kind t) → IsFirstSpot kind sh from first
first_within kind sh from t first has some few high before is spot n at = (λ less. low less (by_order (spot / 2 ^ 32) t), λ le. up le (by_order (spot / 2 ^ 32) t))
  where
    a : HasTable sh (spot / 2 ^ 32) × (spot % 2 ^ 32 < count_of sh kind (spot / 2 ^ 32)) × (n ≡ start_of sh kind (spot / 2 ^ 32) + spot % 2 ^ 32)
    a = number_is sh kind (spot / 2 ^ 32) (spot % 2 ^ 32) n at

    low : spot < first → (spot / 2 ^ 32 < t) ⊎ ((spot / 2 ^ 32 ≡ t) ⊎ (t < spot / 2 ^ 32)) → n < from
    low less (inl under) = before spot n at under
    low less (inr (inl same)) = let q = a.2 in let start = ap (start_of sh kind) same in omega (arith, less, is, same, q, start)
    low less (inr (inr over)) = absurd (omega (arith, less, is, over, some, few, high))

    up : first ≤ spot → (spot / 2 ^ 32 < t) ⊎ ((spot / 2 ^ 32 ≡ t) ⊎ (t < spot / 2 ^ 32)) → from ≤ n
    up le (inl under) = absurd (omega (arith, le, is, under))
    up le (inr (inl same)) = let q = a.2 in let start = ap (start_of sh kind) same in omega (arith, le, is, same, q, start)
    up le (inr (inr over)) =
        let q = a.2 in let r = starts_rise sh kind t (spot / 2 ^ 32) over a.0 in omega (arith, r, q, high, some)
