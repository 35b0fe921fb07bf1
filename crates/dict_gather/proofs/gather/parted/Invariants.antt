use Rattle.std.proofs.Common.{◌≡◌, ◌++◌, map}
use Rattle.std.specs.Vec.Iter.{into_iter_items}
use Rattle.dict_gather.proofs.gather.parted.Given as goal

abbrev pub invariant-loop-column : goal.invariant-loop-column
invariant-loop-column l = record {
  dictionaries : l.dictionaries.items ++ map (λ column. column.dictionary) (into_iter_items l.column-iterator) ≡ map (λ column. column.dictionary) l.fn.encoded.items;
  arrays : l.arrays.items ++ map (λ column. column.array) (into_iter_items l.column-iterator) ≡ map (λ column. column.array) l.fn.encoded.items;
}
