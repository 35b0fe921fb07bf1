use Rattle.std.proofs.Common.{◌≡◌, ◌∙◌, List, ℕ, [], length, get_or, ap, sym, arith}
use Rattle.arrow_spec.specs.Batches.{Array}
use Rattle.arrow_spec.specs.DictBatches.{array_of}
use Rattle.dict_gather.proofs.EncodeLemmas.{encoded-buffers, item-is, no-short, short-told}
use Rattle.dict_gather.proofs.encode.variable_column.Goals as goal

pub returns-then-offsets-rows-clause-found : goal.returns-then-offsets-rows-clause-found
returns-then-offsets-rows-clause-found c = λ kind cells is.
    let buffers : List (List ℕ) = c.as_slice-buffers.result.now in
    let all : buffers ≡ (array_of kind cells).buffers =
    c.as_slice-buffers.ensures ∙ c.buffers.ensures ∙ ap (λ (array : Array). array.buffers) is.array_is in
    let offsets : c.as_slice-offsets.result.now ≡ get_or buffers 1 [] =
    item-is buffers 1 c.index-buffers-1.result c.as_slice-offsets.result.now c.as_slice-offsets.ensures c.index-buffers-1.is (omega arith) in
    no-short kind cells buffers all (λ short. c.if-offsets-rows.true (omega (arith, ap length offsets, short, is.rows_are)))

pub returns-clause-found : goal.returns-clause-found
returns-clause-found c = λ kind cells is.
    let buffers : List (List ℕ) = c.as_slice-buffers.result.now in
    let all : buffers ≡ (array_of kind cells).buffers =
    c.as_slice-buffers.ensures ∙ c.buffers.ensures ∙ ap (λ (array : Array). array.buffers) is.array_is in
    let offsets : c.as_slice-offsets.result.now ≡ get_or buffers 1 [] =
    item-is buffers 1 c.index-buffers-1.result c.as_slice-offsets.result.now c.as_slice-offsets.ensures c.index-buffers-1.is (omega arith) in
    let three : length buffers ≡ 3 = omega arith in
    short-told kind cells buffers all three (omega (arith, ap length offsets, is.rows_are))

pub returns-clause-cells : goal.returns-clause-cells
returns-clause-cells c = λ kind cells is.
    let buffers : List (List ℕ) = c.as_slice-buffers.result.now in
    let all : buffers ≡ (array_of kind cells).buffers =
    c.as_slice-buffers.ensures ∙ c.buffers.ensures ∙ ap (λ (array : Array). array.buffers) is.array_is in
    let three : length buffers ≡ 3 = omega arith in
    let validity : c.as_slice.result.now ≡ get_or buffers 0 [] =
    item-is buffers 0 c.index-buffers-0.result c.as_slice.result.now c.as_slice.ensures c.index-buffers-0.is (omega arith) in
    let offsets : c.as_slice-offsets.result.now ≡ get_or buffers 1 [] =
    item-is buffers 1 c.index-buffers-1.result c.as_slice-offsets.result.now c.as_slice-offsets.ensures c.index-buffers-1.is (omega arith) in
    let values : c.as_slice-2.result.now ≡ get_or buffers 2 [] =
    item-is buffers 2 c.index-buffers-2.result c.as_slice-2.result.now c.as_slice-2.ensures c.index-buffers-2.is (omega arith) in
    let encoded = short-told kind cells buffers all three (omega (arith, ap length offsets, is.rows_are)) in
    let whole = all ∙ encoded-buffers kind cells (sym encoded) in
    record {
      rows_are = is.rows_are;
      nulls_are = sym (c.nulls.ensures ∙ ap (λ (array : Array). array.nulls) is.array_is);
      validity_is = validity ∙ ap (λ (b : List (List ℕ)). get_or b 0 []) whole;
      offsets_are = offsets ∙ ap (λ (b : List (List ℕ)). get_or b 1 []) whole;
      values_are = values ∙ ap (λ (b : List (List ℕ)). get_or b 2 []) whole;
    }
