use Rattle.std.proofs.Common.{◌≡◌, ◌++◌, ◌∷◌, [], ◌∙◌, List, ℕ, true, false, map, ap, subst, refl, Bor}
use Rattle.std.proofs.lemmas.List.{map-append}
use Rattle.dict_gather.specs.Walks.{IsNew}
use Rattle.dict_gather.proofs.WalkLemmas.{value-there}
use Rattle.dict_gather.proofs.walk.add_if_new.Goals as goal

pub returns : goal.returns
returns c = λ place is.
    let now : Bor (List ℕ) → List ℕ = λ value. value.now in
    let told : IsNew c.args.placed.now c.args.at true = subst (IsNew c.args.placed.now c.args.at) c.if-not-is_new.false c.is_new.ensures in
    let value : c.value.result.now ≡ place.value =
    c.value.ensures ∙ value-there c.args.placed.now c.args.at c.index-placed-at.result place c.requires c.index-placed-at.is is in (
      true,
      told,
      ap (map now) c.in_ok-push.ensures.items
          ∙ map-append now c.args.values.now.items (c.value.result ∷ [])
          ∙ ap (λ (v : List ℕ). map now c.args.values.now.items ++ v ∷ []) value,
    )

pub returns-then-not-is_new : goal.returns-then-not-is_new
returns-then-not-is_new c = λ place is.
    (false, subst (IsNew c.args.placed.now c.args.at) c.if-not-is_new.true c.is_new.ensures, refl)
