use Rattle.std.proofs.Common.{rules, ◌≡◌, List, ℕ, map, Bor}
use Rattle.std.specs.Prelude.{flat_map}
use Rattle.std.proofs.lemmas.List.Folds.{flat_map-map}
use Rattle.dict_gather.proofs.values.value_buffers.Goals as goal

pub returns : goal.returns
returns c =
    let same : flat_map (λ (value : List ℕ). value) (map (λ (value : Bor (List ℕ)). value.now) c.args.values.now)
    ≡ flat_map (λ (value : Bor (List ℕ)). value.now) c.args.values.now =
    flat_map-map (λ (value : List ℕ). value) (λ (value : Bor (List ℕ)). value.now) c.args.values.now in
    search rules
