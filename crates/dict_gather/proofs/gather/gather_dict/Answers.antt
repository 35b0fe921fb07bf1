use Rattle.std.proofs.Common.{◌≡◌, ◌∙◌, ℕ, map, ap}
use Rattle.std.proofs.lemmas.Result.{IfOk-weaker}
use Rattle.arrow_spec.specs.DictBatches.{DictBatch, dict_batch_of}
use Rattle.dict_gather.proofs.GatherLemmas.{few-made, parted-is}
use Rattle.dict_gather.proofs.gather.gather_dict.Goals as goal

pub parted-requires : goal.parted-requires
parted-requires g c =
    let columns = c.requires.0 in
    let rows = c.requires.1.0 in
    few-made c.args.batch.now columns rows c.in_ok-encoded.encoded.items c.requires.1.1 c.arrays-arrays.ensures.few (c.in_ok-encoded.ensures columns rows c.requires.1.1)

pub returns : goal.returns
returns g c = λ columns rows is.
    IfOk-weaker c.parted.result
    (λ (dicts : DictBatch). dicts ≡ record { rows = c.rows.result; dictionaries = map (λ column. column.dictionary) c.in_ok-encoded.encoded.items; arrays = map (λ column. column.array) c.in_ok-encoded.encoded.items })
    (λ (dicts : DictBatch). dicts ≡ dict_batch_of columns rows)
    (λ dicts made. parted-is c.args.batch.now columns rows c.in_ok-encoded.encoded.items dicts is (c.in_ok-encoded.ensures columns rows is)
    (made
    ∙ ap
    (λ (n : ℕ). record { rows = n; dictionaries = map (λ column. column.dictionary) c.in_ok-encoded.encoded.items; arrays = map (λ column. column.array) c.in_ok-encoded.encoded.items })
    c.rows.ensures))
    c.parted.ensures
