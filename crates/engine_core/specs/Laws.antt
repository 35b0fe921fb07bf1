-- What holds of an opening core.
use Rattle.std.proofs.Common.{◌≡◌, ℕ, None, Some, sym, ap, subst, ◌∙◌}
use Rattle.std.specs.Prelude.{slice_get}
use Rattle.engine_core.specs.Core.{IsOpening}
use Rattle.event_spec.specs.Lawful.{transaction}
use Rattle.event_spec.specs.Parts.{CorePart, Parts, Shape}
use Rattle.core_laws.specs.Frames.Shards.{CoreHolds}
use Rattle.core_laws.specs.Words.Words.{word_of}
use Rattle.core_laws.proofs.Hall.Meets.{starts}
use Rattle.hall_rule.specs.Heads.{head_of}

pub holds_opening : (sh : Shape) (s : Parts) → IsOpening sh s → CoreHolds sh s
holds_opening sh s is = subst (CoreHolds sh) (sym is.parts_are) (starts sh is.measures).0

pub rests_opening : (sh : Shape) (s : Parts) (q : ℕ) → IsOpening sh s → transaction sh s q ≡ None
rests_opening sh s q is = ap (λ t. transaction sh t q) is.parts_are ∙ (starts sh is.measures).1 q

pub cold_opening : (sh : Shape) (s : Parts) (k : ℕ) (p : CorePart) → IsOpening sh s
    → slice_get s k ≡ Some p → head_of (word_of p) ≡ 0
cold_opening sh s k p is at =
    (starts sh is.measures).2 k p (ap (λ t. slice_get t k) (sym is.parts_are) ∙ at)
