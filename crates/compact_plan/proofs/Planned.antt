-- A plan over looks at blocks of a table fits the table.
use Rattle.std.proofs.Common.{◌≡◌, ◌≢◌, ℕ, ◌<◌, ◌≤◌, ◌^◌, Bool, List, [], ◌∷◌, ◌++◌, get_or, map, take, length, refl, sym, ap, ◌∙◌, subst, arith, nat_lt, min}
use Rattle.std.specs.Prelude.{All, AllPairs, filter, reverse}
use Rattle.std.specs.List.{flat_map, prefix_len, zip}
use Rattle.std.proofs.lemmas.List.{length-map, length-take}
use Rattle.std.proofs.lemmas.List.Elements.{All-filter, All-map, All-take, All-weaker}
use Rattle.std.proofs.lemmas.List.Kept.{AllPairs-filter}
use Rattle.std.proofs.lemmas.Slice.Zip.{length-zip}
use Rattle.block_layout.specs.Place.{place_of}
use Rattle.block_spec.specs.declared.look.MovableRow.{MovableRow}
use Rattle.block_spec.specs.Looks.{Look}
use Rattle.cold_plan.specs.Plan.{moves_of}
use Rattle.cold_plan.proofs.Apart.{NoPlaceTwice-moves_of}
use Rattle.event_spec.specs.declared.event.MovePair.{MovePair}
use Rattle.event_spec.specs.Lawful.{HasPlace, HasTable, NoPlaceTwice}
use Rattle.event_spec.specs.Parts.{Shape, slots_of}
use Rattle.event_spec.specs.Plans.{BlockLook, gap_places, is_in_group, pair_of, pairs_of, row_places}
use Rattle.compact_plan.specs.Laws.{IsLookAt, LooksHavePlaces, PlansFit}
use Rattle.compact_plan.specs.Looks.{HasPlaces}
use Rattle.compact_plan.proofs.Lists.{Both, All-flat_map, All-reverse, All-zip, AllPairs-flat_map, AllPairs-from_map, AllPairs-map, AllPairs-reverse}
use Rattle.compact_plan.proofs.Looking.{ArePlaces, AreSlots, has_places, looked_gaps, looked_rows, placed}

-- ---- the pairs of rows and gaps

-- There are no more moves than rows, and at most 64.
moves_short : (places gaps : List ℕ) → (length (moves_of places gaps) ≤ length places) × (length (moves_of places gaps) ≤ 64)
moves_short places gaps =
    let passes : ℕ × ℕ → Bool = λ move. nat_lt move.1 move.0 in
    let most : List (ℕ × ℕ) = take 64 (zip places gaps) in
    let all : length (moves_of places gaps) ≡ min (prefix_len passes most) (length most) = length-take (prefix_len passes most) most in
    let first : length most ≡ min 64 (length (zip places gaps)) = length-take 64 (zip places gaps) in
    let both : length (zip places gaps) ≡ min (length places) (length gaps) = length-zip places gaps in
    (omega (arith, all, first, both), omega (arith, all, first))

-- the ends of the pairs are those of the moves
ends : (end : MovePair → ℕ) (half : ℕ × ℕ → ℕ) → ((row : ℕ × MovableRow) (move : ℕ × ℕ) → end (pair_of (row, move)) ≡ half move)
    → (rows : List (ℕ × MovableRow)) (moves : List (ℕ × ℕ)) → length moves ≤ length rows
    → map end (map pair_of (zip rows moves)) ≡ map half moves
ends end half is [] [] short = refl
ends end half is [] (move ∷ moves) short = absurd (omega (arith, short))
ends end half is (row ∷ rows) [] short = refl
ends end half is (row ∷ rows) (move ∷ moves) short =
    ap (λ (n : ℕ). n ∷ map end (map pair_of (zip rows moves))) (is row move)
    ∙ ap (λ (ns : List ℕ). half move ∷ ns) (ends end half is rows moves (omega (arith, short)))

-- The place of a row that is planned.
abbrev row_place : ℕ × MovableRow → ℕ
row_place row = row.0

-- The place of a gap, which the gap itself is.
abbrev gap_place : ℕ → ℕ
gap_place gap = gap

-- The slot of a row that may move.
abbrev row_slot : MovableRow → ℕ
row_slot row = row.slot

-- The pairs of falling rows and rising gaps name no place twice.
apart : (rows : List (ℕ × MovableRow)) (gaps : List ℕ)
    → AllPairs (λ higher lower. lower < higher) (map row_place rows) → AllPairs (λ lower higher. lower < higher) gaps
    → NoPlaceTwice (pairs_of rows gaps)
apart rows gaps falling rising =
    let moves : List (ℕ × ℕ) = moves_of (map row_place rows) gaps in
    let short : length moves ≤ length rows = omega (arith, (moves_short (map row_place rows) gaps).0, length-map rows row_place) in
    let sources = ends (λ pair. pair.source) (λ move. move.0) (λ row move. refl) rows moves short in
    let targets = ends (λ pair. pair.target) (λ move. move.1) (λ row move. refl) rows moves short in
    subst
    (λ (places : List ℕ). AllPairs (λ one other. one ≢ other) places)
    (sym (ap (λ (left : List ℕ). left ++ map (λ (pair : MovePair). pair.target) (pairs_of rows gaps)) sources
    ∙ ap (λ (filled : List ℕ). map (λ (move : ℕ × ℕ). move.0) moves ++ filled) targets))
    (NoPlaceTwice-moves_of (map row_place rows) gaps falling rising)

-- There are at most 64 pairs of rows and gaps.
few : (rows : List (ℕ × MovableRow)) (gaps : List ℕ) → length (pairs_of rows gaps) ≤ 64
few rows gaps =
    let moves : List (ℕ × ℕ) = moves_of (map row_place rows) gaps in
    omega (arith, (moves_short (map row_place rows) gaps).1, length-map (zip rows moves) pair_of, length-zip rows moves)

-- what holds of all places of rows and gaps holds of both ends of each pair
both_ends : (P : ℕ → Type 0) (rows : List (ℕ × MovableRow)) (gaps : List ℕ) → All (λ row. P (row_place row)) rows → All P gaps
    → All (λ (pair : MovePair). P pair.source × P pair.target) (pairs_of rows gaps)
both_ends P rows gaps of_rows of_gaps =
    let places : List ℕ = map row_place rows in
    let passes : ℕ × ℕ → Bool = λ move. nat_lt move.1 move.0 in
    let most : List (ℕ × ℕ) = take 64 (zip places gaps) in
    let moves : List (ℕ × ℕ) = moves_of places gaps in
    let whole = All-zip P P places gaps (All-map P row_place rows of_rows) of_gaps in
    let some = All-take (Both P P) (prefix_len passes most) most (All-take (Both P P) 64 (zip places gaps) whole) in
    let zipped = All-zip (λ (row : ℕ × MovableRow). Unit {0}) (Both P P) rows moves (λ k d within. tt) some in
    All-map
    (λ (pair : MovePair). P pair.source × P pair.target)
    pair_of
    (zip rows moves)
    (λ k d within. (zipped k d within).1)

-- ---- the looks at a table's blocks

module _ (shape : Shape) (table : ℕ) (small : slots_of shape table ≤ 2 ^ 15) where
  -- The rows that a look tells stand in the order of their slots, which are the table's.
  row_slots : (seen : BlockLook) → IsLookAt shape table seen → AreSlots row_slot (slots_of shape table) seen.look.rows
  row_slots seen is =
      subst
      (λ slots. AreSlots row_slot slots seen.look.rows)
      is.slots
      (subst (λ (look : Look). AreSlots row_slot (length is.body.slots) look.rows) (sym is.look) (looked_rows is.body))

  -- The gaps that a look tells stand in their order and are the table's slots.
  gap_slots : (seen : BlockLook) → IsLookAt shape table seen → AreSlots gap_place (slots_of shape table) seen.look.gaps
  gap_slots seen is =
      subst
      (λ slots. AreSlots gap_place slots seen.look.gaps)
      is.slots
      (subst (λ (look : Look). AreSlots gap_place (length is.body.slots) look.gaps) (sym is.look) (looked_gaps is.body))

  -- The rows that a look tells have places of its block, in order.
  row_placed : (seen : BlockLook) → IsLookAt shape table seen → ArePlaces row_place seen.block (slots_of shape table) (row_places seen)
  row_placed seen is =
      placed row_slot row_place (λ row. (place_of seen.block row.slot, row)) seen.block (slots_of shape table) seen.look.rows (λ row. refl) (omega (arith, small)) (row_slots seen is)

  -- The gaps that a look tells have places of its block, in order.
  gap_placed : (seen : BlockLook) → IsLookAt shape table seen → ArePlaces gap_place seen.block (slots_of shape table) (gap_places seen)
  gap_placed seen is =
      placed gap_place gap_place (place_of seen.block) seen.block (slots_of shape table) seen.look.gaps (λ gap. refl) (omega (arith, small)) (gap_slots seen is)

  -- A look at a block of the table is one that can be planned over.
  can_be_planned : (seen : BlockLook) → IsLookAt shape table seen → HasPlaces seen
  can_be_planned seen is = has_places seen is.body is.look (omega (arith, is.slots, small))

  module _ {Y : Type 0} (place : Y → ℕ) (pieces : BlockLook → List Y) (are_placed : (seen : BlockLook) → IsLookAt shape table seen → ArePlaces place seen.block (slots_of shape table) (pieces seen))
      (looks : List BlockLook) (are : All (IsLookAt shape table) looks) where
    -- The places of ascending blocks rise, since a place begins with its block.
    rising_places : AllPairs (λ one other. one.block < other.block) looks → AllPairs (λ one other. place one < place other) (flat_map pieces looks)
    rising_places ascending =
        AllPairs-flat_map
        (λ one other. place one < place other)
        pieces
        looks
        (λ k d within. (are_placed (get_or looks k d) (are k d within)).rising)
        (λ i j d before within k a inside m b within_other.
        let early : i < length looks = omega (arith, before, within) in
        let first = (are_placed (get_or looks i d) (are i d early)).here k a inside in
        let second = (are_placed (get_or looks j d) (are j d within)).here m b within_other in
        omega (arith, first, second, ascending i j d before within))

    table_places : HasTable shape table → All (λ one. HasPlace shape table (place one)) (flat_map pieces looks)
    table_places has =
        All-flat_map
        (λ one. HasPlace shape table (place one))
        pieces
        looks
        (λ k d within m a inside.
        let placed_here = are_placed (get_or looks k d) (are k d within) in
        let block = placed_here.here m a inside in
        ((has, omega (arith, block, (are k d within).block)), placed_here.within m a inside))

-- looks at blocks of a table can be planned over
pub looks_have_places : LooksHavePlaces
looks_have_places shape table looks small are =
    All-weaker (IsLookAt shape table) HasPlaces (can_be_planned shape table small) looks are

-- a plan over looks at blocks of a table fits the table
pub plans_fit : PlansFit
plans_fit shape table looks has small are ascending =
    let group : List BlockLook = filter is_in_group looks in
    let members : All (IsLookAt shape table) group = All-filter is_in_group (IsLookAt shape table) looks are in
    let blocks : AllPairs (λ one other. one.block < other.block) group =
    AllPairs-filter (λ one other. one.block < other.block) is_in_group looks (AllPairs-from_map (λ one other. one < other) (λ (seen : BlockLook). seen.block) looks ascending) in
    let rows : List (ℕ × MovableRow) = flat_map row_places group in
    let gaps : List ℕ = flat_map gap_places group in
    let rising_rows = rising_places shape table small row_place row_places (row_placed shape table small) group members blocks in
    let rising_gaps = rising_places shape table small gap_place gap_places (gap_placed shape table small) group members blocks in
    let rows_fit = table_places shape table small row_place row_places (row_placed shape table small) group members has in
    let gaps_fit = table_places shape table small gap_place gap_places (gap_placed shape table small) group members has in
    record {
      places = both_ends (HasPlace shape table) (reverse rows) gaps (All-reverse (λ row. HasPlace shape table (row_place row)) rows rows_fit) gaps_fit;
      apart = apart (reverse rows) gaps
          (AllPairs-map (λ higher lower. lower < higher) row_place (reverse rows) (AllPairs-reverse (λ one other. row_place one < row_place other) rows rising_rows))
          rising_gaps;
      few = few (reverse rows) gaps;
    }
