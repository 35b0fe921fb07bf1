-- Heads behind rows.
use Rattle.std.proofs.Common.{◌≡◌, ℕ, zero, suc, ◌+◌, ◌-◌, ◌*◌, ◌/◌, ◌%◌, ◌^◌, ◌<◌, ◌≤◌, Bool, true, false, cond, nat_lt, List, ◌∷◌, refl, sym, ap, ◌∙◌, arith}
use Rattle.std.specs.Prelude.{filter}
use Rattle.std.specs.List.{range_with_len}
use Rattle.std.proofs.lemmas.Bool.Decides.{nat_tests}
use Rattle.core_laws.proofs.Logs.FirstPlaces.{quotient_less, row_number}
use Rattle.core_parts.proofs.Heads.{all_but_first}
use Rattle.event_spec.specs.declared.part.Head.{Head}
use Rattle.event_spec.specs.Replay.{opening_head}

-- All of a range above a number pass as above it.
all_above : (q a n : ℕ) → q < a → filter (nat_lt q) (range_with_len a n) ≡ range_with_len a n
all_above q a zero less = refl
all_above q a (suc n) less =
    let pass : nat_lt q a ≡ true = grind (arith, nat_tests) in
    ap (λ b. cond b (a ∷ filter (nat_lt q) (range_with_len (a + 1) n)) (filter (nat_lt q) (range_with_len (a + 1) n))) pass
    ∙ ap (λ (rest : List ℕ). a ∷ rest) (all_above q (a + 1) n (omega (arith, less)))

-- Those of a range above a number are the end of the range.
rest_above : (q a n : ℕ) → a ≤ q + 1 → filter (nat_lt q) (range_with_len a n) ≡ range_with_len (q + 1) (a + n - (q + 1))
rest_above q a zero low = let e : 0 ≡ a + 0 - (q + 1) = omega arith in ap (range_with_len (q + 1)) e
rest_above q a (suc n) low = go (nat_lt q a) refl (rest_above q (a + 1) n)
  where
    go : (b : Bool) → nat_lt q a ≡ b → (a + 1 ≤ q + 1 → filter (nat_lt q) (range_with_len (a + 1) n) ≡ range_with_len (q + 1) (a + 1 + n - (q + 1)))
        → filter (nat_lt q) (range_with_len a (suc n)) ≡ range_with_len (q + 1) (a + suc n - (q + 1))
    go true is rest =
        let above : q < a = grind (arith, nat_tests) in
        let same : a ≡ q + 1 = omega (arith, above, low) in
        let count : suc n ≡ a + suc n - (q + 1) = omega (arith, same) in
        all_above q a (suc n) above ∙ ap (λ x. range_with_len x (suc n)) same ∙ ap (range_with_len (q + 1)) count
    go false is rest =
        let behind : a ≤ q = grind (arith, nat_tests) in
        let count : a + 1 + n - (q + 1) ≡ a + suc n - (q + 1) = omega arith in
        ap (λ b. cond b (a ∷ filter (nat_lt q) (range_with_len (a + 1) n)) (filter (nat_lt q) (range_with_len (a + 1) n))) is
        ∙ rest (omega (arith, behind)) ∙ ap (range_with_len (q + 1)) count

-- Nothing in any parts is nothing.
none_each : (slots : ℕ) → 1 ≤ slots → 0 / slots ≡ 0
none_each slots some = let less = quotient_less 0 slots 1 some (omega (arith, some)) in omega (arith, less)

-- the block behind the head's is one of the table's, or the second
pub behind_few : (blocks slots rows : ℕ) → 1 ≤ slots → blocks ≤ 2 ^ 10 → rows ≤ blocks * slots → (rows - 1) / slots + 1 ≤ 2 ^ 10
behind_few blocks slots zero some few room = let none = none_each slots some in let e : zero - 1 ≡ 0 = omega arith in let q : (zero - 1) / slots ≡ 0 = ap (λ n. n / slots) e ∙ none in omega (arith, q)
behind_few blocks slots (suc before) some few room =
    let e : suc before - 1 ≡ before = omega arith in
    let q : (suc before - 1) / slots ≡ before / slots = ap (λ n. n / slots) e in
    let less = quotient_less before slots blocks some (omega (arith, room)) in omega (arith, q, less, few)

-- the head that stands behind so many rows, with the blocks behind its own
abbrev pub head_behind : ℕ → ℕ → ℕ → ℕ → Head
head_behind slots rows block count = record { block = block; taken = rows - block * slots; inserts = rows; empty = range_with_len (block + 1) count }

pub head_is : (blocks slots rows count : ℕ) → 1 ≤ slots → count ≡ blocks - ((rows - 1) / slots + 1) → head_behind slots rows ((rows - 1) / slots) count ≡ opening_head blocks slots rows
head_is blocks slots zero count some is =
    let e : zero - 1 ≡ 0 = omega arith in
    let q : (zero - 1) / slots ≡ 0 = ap (λ n. n / slots) e ∙ none_each slots some in
    let taken : zero - 0 * slots ≡ 0 = omega arith in
    let one : 0 + 1 ≡ 1 = omega arith in
    let many : count ≡ blocks - 1 = omega (arith, is, q) in
    ap (λ block. head_behind slots 0 block count) q
    ∙ ap (λ n. record { block = 0; taken = n; inserts = 0; empty = range_with_len (0 + 1) count }) taken
    ∙ ap (λ (empty : List ℕ). record { block = 0; taken = 0; inserts = 0; empty = empty }) (ap (λ a. range_with_len a count) one ∙ all_but_first blocks count many)
head_is blocks slots (suc before) count some is =
    let e : suc before - 1 ≡ before = omega arith in
    let q : (suc before - 1) / slots ≡ before / slots = ap (λ n. n / slots) e in
    let whole = row_number slots before in
    let taken : suc before - before / slots * slots ≡ before % slots + 1 = omega (arith, whole) in
    let many : count ≡ 0 + blocks - (before / slots + 1) = omega (arith, is, q) in
    ap (λ block. head_behind slots (suc before) block count) q
    ∙ ap (λ n. record { block = before / slots; taken = n; inserts = suc before; empty = range_with_len (before / slots + 1) count }) taken
    ∙ ap (λ (empty : List ℕ). record { block = before / slots; taken = before % slots + 1; inserts = suc before; empty = empty })
    (ap (range_with_len (before / slots + 1)) many ∙ sym (rest_above (before / slots) 0 blocks (omega arith)))
