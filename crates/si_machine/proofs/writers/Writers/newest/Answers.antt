use Rattle.std.proofs.Common.{◌∙◌, [], ℕ, None, Option, Vec, Global, ap}
use Rattle.std.specs.List.{last_or}
use Rattle.std.specs.Option.{option_map_or}
use Rattle.si_machine.proofs.Parts.{last-get}
use Rattle.si_machine.proofs.writers.Writers.newest.Goals as goal

pub returns : goal.returns
returns c =
    c.copied.ensures ∙ c.last.ensures.value ∙ last-get c.deref.result.now ∙ ap (last_or None) c.deref.ensures.value
    ∙ ap (λ (o : Option (Vec ℕ Global)). last_or None (option_map_or (λ (numbers : Vec ℕ Global). numbers.items) o [])) c.in_ok-get.ensures.value
