use Rattle.std.proofs.Common.{◌≡◌, ◌+◌, ℤ, List, get_or, cond, int_cmp, rules, arith, sym, ap, ◌∙◌}
use Rattle.std.specs.Prelude.{All, pos}
use Rattle.std.specs.List.Sorted.{IsSortedByKey}
use Rattle.std.specs.Ordering.{is_lt}
use Rattle.std.proofs.lemmas.List.Elements.{All-get_or, All-weaker}
use Rattle.std.proofs.lemmas.List.Sorted.{All-permutation, answers_always}
use Rattle.block_body.specs.Keys.{HasKey}
use Rattle.block_spec.specs.Slots.{Row}
use Rattle.block_body.proofs.Keyed.{fits-has_key}
use Rattle.cell_model.specs.Rows.{Fits}
use Rattle.isolation_spec.specs.Contents.{key_of}
use Rattle.store_laws.proofs.Sorting.{sorted_rows_are_in_key_order}
use Rattle.shared_store.specs.Sorting.{narrow_key}
use Rattle.shared_store.proofs.sorting.rows_in_order.Goals as goal

-- the number by which a row is sorted that has a key is its key
key_is : (row : Row) → HasKey row → narrow_key row ≡ key_of row
key_is row has = ap (λ b. cond {A = ℤ} b (key_of row) (pos 0)) has

-- so rows that are sorted by it are sorted by their keys
sorted_by : (xs : List Row) → All HasKey xs → IsSortedByKey narrow_key int_cmp xs → IsSortedByKey key_of int_cmp xs
sorted_by xs all up k d low high =
    let one = key_is (get_or xs (k + 1) d) (All-get_or HasKey xs (k + 1) d high all) in
    let other = key_is (get_or xs k d) (All-get_or HasKey xs k d (omega (arith, high)) all) in
    ap (λ key. is_lt (int_cmp key (key_of (get_or xs k d)))) (sym one) ∙ ap (λ key. is_lt (int_cmp (narrow_key (get_or xs (k + 1) d)) key)) (sym other) ∙ up k d low high

pub returns : goal.returns
returns c table once =
    let keys = All-weaker (Fits c.args.schema.now) HasKey (λ row fits. fits-has_key c.args.schema.now row (c.columns-columns.ensures.schema.key) fits) c.args.rows.items c.requires in
    c.from.ensures ∙ sorted_rows_are_in_key_order table c.args.rows.items c.sort_by_cached_key.new.self.items once c.sort_by_cached_key.ensures.permutation
    (sorted_by c.sort_by_cached_key.new.self.items (All-permutation HasKey c.args.rows.items c.sort_by_cached_key.new.self.items c.sort_by_cached_key.ensures.permutation keys)
    (c.in_ok-sort_by_cached_key.ensures.sorted narrow_key (answers_always _ _ _ (λ f a r g h. search rules))))
