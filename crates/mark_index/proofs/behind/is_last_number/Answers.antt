use Rattle.std.proofs.Common.{◌≡◌, ◌∙◌, ap, ℕ, List, Option, None, Some, false}
use Rattle.std.specs.List.{last_or}
use Rattle.std.specs.Option.{option_map_or}
use Rattle.std.specs.Prelude.{◌==◌}
use Rattle.mark_index.proofs.Parted.{last-get}
use Rattle.mark_index.proofs.behind.is_last_number.Goals as goal

pub returns-in-None : goal.returns-in-None
returns-in-None c =
    let numbers : List ℕ = c.args.numbers.now in
    let found : None ≡ last_or None numbers = c.in-None.ensures ∙ c.last.ensures.value ∙ last-get numbers in
    ap (λ (o : Option ℕ). option_map_or (λ its. its == c.args.number) o false) found

pub returns-in-Some : goal.returns-in-Some
returns-in-Some c =
    let numbers : List ℕ = c.args.numbers.now in
    let found : Some c.in-Some.last ≡ last_or None numbers = c.in-Some.ensures ∙ c.last.ensures.value ∙ last-get numbers in
    ap (λ (o : Option ℕ). option_map_or (λ its. its == c.args.number) o false) found
