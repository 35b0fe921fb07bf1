-- How many parts a core has.
use Rattle.std.proofs.Common.{◌≡◌, ℕ, zero, suc, ◌+◌, ◌*◌, ◌^◌, ◌<◌, ◌≤◌, List, [], ◌∷◌, ◌++◌, map, length, unwrap_or, ◌∙◌, length-append, arith}
use Rattle.std.specs.Prelude.{All, option_map, slice_get}
use Rattle.std.specs.List.{flat_map}
use Rattle.std.proofs.lemmas.List.{length-map}
use Rattle.std.proofs.lemmas.List.Elements.{All-head, All-tail}
use Rattle.std.proofs.lemmas.List.FromFn.{length-range_with_len}
use Rattle.cell_model.specs.declared.table.TableDecl.{TableDecl}
use Rattle.core_parts.specs.Numbers.{IsOfSize}
use Rattle.event_spec.specs.Parts.{Name, HeadOf, ShardOf, BodyOf, TheDesk, Shape, below, blocks_of, names, tables_of}

-- There are as many names as the numbers that they are made of.
named_long : (f : ℕ → Name) (n : ℕ) → length (map f (below n)) ≡ n
named_long f n = length-map (below n) f ∙ length-range_with_len 0 n

-- Lists of at most so many names each are together at most as many times that.
flat_few : (f : ℕ → List Name) (most : ℕ) (ts : List ℕ) → ((t : ℕ) → length (f t) ≤ most) → length (flat_map f ts) ≤ length ts * most
flat_few f most [] each = omega arith
flat_few f most (t ∷ ts) each =
    let here = each t in
    let rest = flat_few f most ts each in
    let both = length-append (f t) (flat_map f ts) in
    let m : suc (length ts) * most ≡ most + length ts * most = omega arith in
    omega (arith, here, rest, both, m)

-- A table has at most 1024 blocks, as has one that there is not.
few_blocks : (tables : List TableDecl) (t : ℕ) → All (λ (table : TableDecl). table.blocks ≤ 2 ^ 10) tables
    → unwrap_or (option_map (λ (decl : TableDecl). decl.blocks) (slice_get tables t)) 0 ≤ 2 ^ 10
few_blocks [] t all = omega arith
few_blocks (table ∷ tables) zero all = All-head (λ (table : TableDecl). table.blocks ≤ 2 ^ 10) table tables all
few_blocks (table ∷ tables) (suc t) all = few_blocks tables t (All-tail (λ (table : TableDecl). table.blocks ≤ 2 ^ 10) table tables all)

-- a core of a lawful size has fewer than 2^31 parts
pub few_parts : (sh : Shape) → IsOfSize sh.tables sh.passes → length (names sh) < 2 ^ 31
few_parts sh size =
    let n = length sh.tables in
    let few = size.tables_few in
    let heads = named_long HeadOf n in
    let shards = flat_few (λ t. map (ShardOf t) (below 8)) 8 (tables_of sh) (λ t. let e = named_long (ShardOf t) 8 in omega (arith, e)) in
    let bodies = flat_few (λ t. map (BodyOf t) (below (blocks_of sh t))) (2 ^ 10) (tables_of sh)
    (λ t. let e = named_long (BodyOf t) (blocks_of sh t) in let b = few_blocks sh.tables t size.blocks_few in omega (arith, e, b)) in
    let long = length-range_with_len 0 n in
    let one = length-append (map HeadOf (tables_of sh)) (flat_map (λ t. map (ShardOf t) (below 8)) (tables_of sh)) in
    let two = length-append (map HeadOf (tables_of sh) ++ flat_map (λ t. map (ShardOf t) (below 8)) (tables_of sh)) (flat_map (λ t. map (BodyOf t) (below (blocks_of sh t))) (tables_of sh)) in
    let three = length-append (map HeadOf (tables_of sh) ++ flat_map (λ t. map (ShardOf t) (below 8)) (tables_of sh) ++ flat_map (λ t. map (BodyOf t) (below (blocks_of sh t))) (tables_of sh)) (TheDesk ∷ []) in
    omega (arith, few, heads, shards, bodies, long, one, two, three)
