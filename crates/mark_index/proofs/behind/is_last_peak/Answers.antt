use Rattle.std.proofs.Common.{◌≡◌, ◌∙◌, ap, List, Option, None, Some, false}
use Rattle.std.specs.List.{last_or}
use Rattle.std.specs.Option.{option_map_or}
use Rattle.std.specs.Prelude.{◌==◌}
use Rattle.mark_index.specs.declared.marks.Peak.{Peak}
use Rattle.mark_index.proofs.Parted.{last-get}
use Rattle.mark_index.proofs.behind.is_last_peak.Goals as goal

pub returns-in-None : goal.returns-in-None
returns-in-None c =
    let peaks : List Peak = c.args.peaks.now in
    let found : None ≡ last_or None peaks = c.in-None.ensures ∙ c.last.ensures.value ∙ last-get peaks in
    ap (λ (o : Option Peak). option_map_or (λ its. its.place == c.args.place) o false) found

pub returns-in-Some : goal.returns-in-Some
returns-in-Some c =
    let peaks : List Peak = c.args.peaks.now in
    let found : Some c.in-Some.last ≡ last_or None peaks = c.in-Some.ensures ∙ c.last.ensures.value ∙ last-get peaks in
    ap (λ (o : Option Peak). option_map_or (λ its. its.place == c.args.place) o false) found
