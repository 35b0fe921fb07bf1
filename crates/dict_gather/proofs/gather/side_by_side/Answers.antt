use Rattle.std.proofs.Common.{rules, ◌≡◌, Vec, Global, ap, length, map, arith}
use Rattle.std.specs.Prelude.{Ok}
use Rattle.std.proofs.lemmas.Result.{IfOk-weaker}
use Rattle.dict_gather.specs.Encoded.{encoded_column}
use Rattle.dict_gather.specs.declared.encode.Encoded.{Encoded}
use Rattle.arrow_spec.specs.DictBatches.{of_columns}
use Rattle.dict_gather.proofs.GatherLemmas.{count-made, each-made}
use Rattle.dict_gather.proofs.gather.side_by_side.Goals as goal

pub returns : goal.returns
returns g c = λ columns rows is.
    IfOk-weaker c.all_made.result
    (λ (encoded : Vec Encoded Global). c.in_ok-made.made.items ≡ map (λ column. Ok column) encoded.items)
    (λ (encoded : Vec Encoded Global). encoded.items ≡ of_columns encoded_column columns rows)
    (λ encoded made.
    each-made (of_columns encoded_column columns rows) c.in_ok-made.made.items encoded.items made
    (omega (arith, c.in_ok-made.ensures.len, ap length c.arrays.ensures.arrays, c.in_ok-made.made.ok.0, count-made c.args.batch.now columns rows is))
    (λ at d lt.
    let count = count-made c.args.batch.now columns rows is in
    let h = c.in_ok-made.ensures.each at d (omega (arith, lt, ap length c.arrays.ensures.arrays)) in search rules))
    c.all_made.ensures
