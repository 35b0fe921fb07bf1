use Rattle.std.proofs.Common.{rules, ◌≡◌, ◌∷◌, [], ◌∙◌, List, ℕ, ap}
use Rattle.std.specs.Int.{w32, to_le_bytes}
use Rattle.std.specs.Prelude.{flat_map}
use Rattle.arrow_spec.specs.Batches.{Array}
use Rattle.dict_gather.proofs.EncodeLemmas.{index-made}
use Rattle.dict_gather.proofs.encode.index_array.Goals as goal

pub returns : goal.returns
returns c = λ cells has are.
    let buffers : c.from-2.result ≡ c.args.column.now.validity.now ∷ flat_map (to_le_bytes w32) c.args.indices.now ∷ [] = search rules in
    c.new.ensures
    ∙ ap (λ (b : List (List ℕ)). let made : Array = record { nulls = c.args.column.now.nulls; buffers = b } in made) buffers
    ∙ index-made cells c.args.column.now.nulls c.args.column.now.validity.now c.args.indices.now has.nulls_are has.validity_is are
