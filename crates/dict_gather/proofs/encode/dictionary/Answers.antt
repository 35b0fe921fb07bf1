use Rattle.std.proofs.Common.{◌∙◌, List, ℕ, length, map, ap, sym, Bor}
use Rattle.std.proofs.lemmas.List.{length-map}
use Rattle.arrow_spec.specs.Batches.{Array}
use Rattle.arrow_spec.specs.DictBatches.{Dictionary}
use Rattle.dict_gather.proofs.EncodeLemmas.{dictionary-made, three-few}
use Rattle.dict_gather.proofs.encode.dictionary.Goals as goal

pub new-requires-2 : goal.new-requires-2
new-requires-2 c =
    three-few c.new.result (map (λ (value : Bor (List ℕ)). value.now) c.args.values.now)
    (ap (λ (array : Array). array.buffers) c.new.ensures ∙ c.in_ok-buffers.ensures)

pub returns : goal.returns
returns c = λ kind is.
    let values : List (List ℕ) = map (λ (value : Bor (List ℕ)). value.now) c.args.values.now in
    c.new-2.ensures
    ∙ ap (λ (array : Array). let made : Dictionary = record { size = length c.args.values.now; array = array } in made) c.new.ensures
    ∙ dictionary-made kind values is (length c.args.values.now) c.in_ok-buffers.buffers
    (sym (length-map c.args.values.now (λ (value : Bor (List ℕ)). value.now))) c.in_ok-buffers.ensures
