use Rattle.std.proofs.Common.{◌∙◌, ap, length, arith}
use Rattle.std.proofs.lemmas.List.{take_all}
use Rattle.arrow_spec.specs.DictBatches.{of_columns}
use Rattle.dict_gather.specs.Encoded.{encoded_column}
use Rattle.dict_gather.proofs.GatherLemmas.{count-made, more-made}
use Rattle.dict_gather.proofs.gather.in_turn.Goals as goal

pub loop-at-preserved : goal.loop-at-preserved
loop-at-preserved c = λ columns rows is.
    let count = count-made c.args.batch.now columns rows is in
    more-made (of_columns encoded_column columns rows) c.loop-at.encoded.items c.push.new.self.items c.loop-at.at c.in_ok-encode_at.field-0
    (c.loop-at.invariant columns rows is) (omega (arith, ap length c.arrays-width.ensures.arrays)) (c.in_ok-encode_at.ensures columns rows is) c.in_ok-push.ensures.items

pub returns : goal.returns
returns c = λ columns rows is.
    let count = count-made c.args.batch.now columns rows is in
    c.loop-at.invariant columns rows is ∙ take_all c.loop-at.at (of_columns encoded_column columns rows) (omega (arith, ap length c.arrays-width.ensures.arrays))
