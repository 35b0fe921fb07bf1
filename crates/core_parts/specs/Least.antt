-- The least number from one on, of those that were offered.
use Rattle.std.specs.Prelude.{◌≡◌, ℕ, ◌<◌, ◌≤◌, ◌&&◌, nat_le, nat_lt, true, List, Some, fold}
use Rattle.std.specs.Prelude.{slice_get, if◌then◌else◌}
use Rattle.std.specs.Option.{option_map_or}
use Rattle.core_laws.specs.Words.Words.{number_among}
use Rattle.core_parts.specs.declared.least.Least.{Least}
use Rattle.event_spec.specs.Parts.{Name, BodyOf, Shape, names}

-- a number takes the seat where it is from the first one on, and below what sits there
abbrev pub offered : ℕ → Least → Least
offered number least =
    if nat_le least.from number && option_map_or (λ best. nat_lt number best) least.best true
    then record least { best = Some number } else least

-- a part's number is offered, where there is such a part
abbrev pub offered_name : Shape → Least → Name → Least
offered_name shape least name = option_map_or (λ number. offered number least)
    (number_among (names shape) name) least

-- the numbers of parts are offered one after another
abbrev pub offered_all : Shape → List Name → Least → Least
offered_all shape offers least = fold (offered_name shape) least offers

-- A table's bodies of the blocks before this one have numbers below `from`, and the others have
-- not.
abbrev pub IsFirstBlock : Shape → ℕ → ℕ → ℕ → Type 0
IsFirstBlock shape table from first = (block number : ℕ)
    → slice_get (names shape) number ≡ Some (BodyOf table block)
    → (block < first → number < from) × (first ≤ block → from ≤ number)
