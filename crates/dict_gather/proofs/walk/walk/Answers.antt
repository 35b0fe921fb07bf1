use Rattle.std.proofs.Common.{rules, ◌≡◌, ◌+◌, ◌-◌, ◌<◌, ◌∙◌, List, ℕ, [], length, map, set, get_or, replicate, ap, sym, subst, arith, Bor, vec_len}
use Rattle.std.proofs.lemmas.List.{length-map}
use Rattle.dict_gather.specs.Places.{PlacedValue}
use Rattle.dict_gather.proofs.PlaceLemmas.{count-placed, indices-found, slot-inside, slots-tell, value_in_slot, values-found}
use Rattle.dict_gather.proofs.WalkLemmas.{GoesOn, IsPassed, adds-goes, passed-none, passed-on, some-values}
use Rattle.dict_gather.proofs.walk.walk.Goals as goal

-- the values behind references
abbrev values_of : List (Bor (List ℕ)) → List (List ℕ)
values_of = map (λ value. value.now)

pub loop-at-init : goal.loop-at-init
loop-at-init c =
    let none : values_of c.new-values.result.items ≡ values_of [] = ap values_of c.new-values.ensures.items in
    let zeros : c.in_ok-indices.indices.items ≡ replicate c.args.rows 0 = search rules in
    subst (λ (values : List (List ℕ)). IsPassed c.args.placed.now c.args.rows 0 values c.in_ok-indices.indices.items) (sym none)
    (subst (IsPassed c.args.placed.now c.args.rows 0 []) (sym zeros) (passed-none c.args.placed.now c.args.rows))

pub overflow_cast-len : goal.overflow_cast-len
overflow_cast-len c =
    let inside : c.loop-at.at < length c.args.placed.now = omega arith in
    let goes : GoesOn (values_of c.loop-at.values.items) (values_of c.add_if_new.new.values.items) c.index-placed-at.result.value =
    adds-goes c.args.placed.now c.args.rows c.loop-at.at (values_of c.loop-at.values.items) (values_of c.add_if_new.new.values.items) c.loop-at.indices.items
    c.index-placed-at.result c.loop-at.invariant c.requires.sorted inside c.index-placed-at.is
    (c.in_ok-add_if_new.ensures c.index-placed-at.result c.index-placed-at.is) in
    let count : vec_len c.add_if_new.new.values ≡ length c.add_if_new.new.values.items = search rules in
    let size : length (values_of c.add_if_new.new.values.items) ≡ length c.add_if_new.new.values.items = length-map c.add_if_new.new.values.items _ in
    let most = count-placed c.requires.some.0 c.args.placed.now c.requires.some.1.1 in
    omega (arith, goes.few, c.loop-at.invariant.few, c.requires.some.1.0, c.len.ensures)

pub overflow_sub-len : goal.overflow_sub-len
overflow_sub-len c =
    let inside : c.loop-at.at < length c.args.placed.now = omega arith in
    let goes : GoesOn (values_of c.loop-at.values.items) (values_of c.add_if_new.new.values.items) c.index-placed-at.result.value =
    adds-goes c.args.placed.now c.args.rows c.loop-at.at (values_of c.loop-at.values.items) (values_of c.add_if_new.new.values.items) c.loop-at.indices.items
    c.index-placed-at.result c.loop-at.invariant c.requires.sorted inside c.index-placed-at.is
    (c.in_ok-add_if_new.ensures c.index-placed-at.result c.index-placed-at.is) in
    let count : vec_len c.add_if_new.new.values ≡ length c.add_if_new.new.values.items = search rules in
    let size : length (values_of c.add_if_new.new.values.items) ≡ length c.add_if_new.new.values.items = length-map c.add_if_new.new.values.items _ in
    omega (arith, some-values (values_of c.loop-at.values.items) (values_of c.add_if_new.new.values.items) c.index-placed-at.result.value goes, c.len.ensures)

pub index_mut-requires : goal.index_mut-requires
index_mut-requires c =
    let inside : c.loop-at.at < length c.args.placed.now = omega arith in
    let below = slot-inside c.requires.some.0 c.args.placed.now c.requires.some.1.1 c.loop-at.at c.index-placed-at.result inside in
    let here : c.slot.result ≡ c.index-placed-at.result.slot = c.slot.ensures in
    let is : c.index-placed-at.result.slot ≡ (get_or c.args.placed.now c.loop-at.at c.index-placed-at.result).slot =
    ap (λ (p : PlacedValue). p.slot) c.index-placed-at.is in
    let count : vec_len c.loop-at.indices ≡ length c.loop-at.indices.items = search rules in
    omega (arith, below, here, is, c.requires.some.1.0, c.loop-at.invariant.long)

pub loop-at-preserved : goal.loop-at-preserved
loop-at-preserved c =
    let inside : c.loop-at.at < length c.args.placed.now = omega arith in
    let goes : GoesOn (values_of c.loop-at.values.items) (values_of c.add_if_new.new.values.items) c.index-placed-at.result.value =
    adds-goes c.args.placed.now c.args.rows c.loop-at.at (values_of c.loop-at.values.items) (values_of c.add_if_new.new.values.items) c.loop-at.indices.items
    c.index-placed-at.result c.loop-at.invariant c.requires.sorted inside c.index-placed-at.is
    (c.in_ok-add_if_new.ensures c.index-placed-at.result c.index-placed-at.is) in
    let below = slot-inside c.requires.some.0 c.args.placed.now c.requires.some.1.1 c.loop-at.at c.index-placed-at.result inside in
    let is : c.index-placed-at.result.slot ≡ (get_or c.args.placed.now c.loop-at.at c.index-placed-at.result).slot =
    ap (λ (p : PlacedValue). p.slot) c.index-placed-at.is in
    let slot : c.index-placed-at.result.slot < c.args.rows = omega (arith, below, is, c.requires.some.1.0) in
    let count : vec_len c.add_if_new.new.values ≡ length c.add_if_new.new.values.items = search rules in
    let size : length (values_of c.add_if_new.new.values.items) ≡ length c.add_if_new.new.values.items = length-map c.add_if_new.new.values.items _ in
    let written : c.len.result - 1 ≡ length (values_of c.add_if_new.new.values.items) - 1 = omega (arith, c.len.ensures) in
    let on = passed-on c.args.placed.now c.args.rows c.loop-at.at (values_of c.loop-at.values.items) (values_of c.add_if_new.new.values.items)
    c.loop-at.indices.items c.index-placed-at.result (value_in_slot c.requires.some.0) c.loop-at.invariant inside c.index-placed-at.is slot
    (slots-tell c.requires.some.0 c.args.placed.now c.requires.some.1.1) goes in
    let same : set c.loop-at.indices.items c.index-placed-at.result.slot (length (values_of c.add_if_new.new.values.items) - 1)
    ≡ set c.loop-at.indices.items c.slot.result (c.len.result - 1) =
    ap (λ (n : ℕ). set c.loop-at.indices.items c.index-placed-at.result.slot n) (sym written)
    ∙ ap (λ (s : ℕ). set c.loop-at.indices.items s (c.len.result - 1)) (sym c.slot.ensures) in
    subst (IsPassed c.args.placed.now c.args.rows (c.loop-at.at + 1) (values_of c.add_if_new.new.values.items)) same on

pub returns-clause-values : goal.returns-clause-values
returns-clause-values c = λ cells count same.
    let all : c.loop-at.at ≡ length c.args.placed.now = omega arith in
    let P : ℕ → Type 0 = λ n. IsPassed c.args.placed.now c.args.rows n (values_of c.loop-at.values.items) c.loop-at.indices.items in
    values-found cells c.args.placed.now c.args.rows (values_of c.loop-at.values.items) c.loop-at.indices.items same (subst P all c.loop-at.invariant)

pub returns-clause-indices : goal.returns-clause-indices
returns-clause-indices c = λ cells count same.
    let all : c.loop-at.at ≡ length c.args.placed.now = omega arith in
    let P : ℕ → Type 0 = λ n. IsPassed c.args.placed.now c.args.rows n (values_of c.loop-at.values.items) c.loop-at.indices.items in
    indices-found cells c.args.placed.now c.args.rows (values_of c.loop-at.values.items) c.loop-at.indices.items count same (subst P all c.loop-at.invariant)
