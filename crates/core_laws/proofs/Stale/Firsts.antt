-- Of a transaction's reads, in their order, the core finds the machine's first.
use Rattle.std.proofs.Common.{◌≡◌, ℕ, List, [], ◌∷◌, Option, option_map, refl, ap, ◌∙◌, All}
use Rattle.std.proofs.lemmas.List.Elements.{All-head, All-tail}
use Rattle.std.specs.Option.{option_or}
use Rattle.core_laws.specs.Stale.Laws.{FindsTheLastCommit, FindsTheFirstStale, IsKnown}
use Rattle.event_spec.specs.Newest.{newest_of}
use Rattle.isolation_spec.specs.declared.read.Read.{Read}
use Rattle.isolation_spec.specs.Reads.{last_meeting, first_stale}
use Rattle.core_laws.proofs.Stale.Newest.{newest_is}

-- Two ways of finding the last commit that agree on each read find the same first.
pub first-alike : (one other : Read → Option ℕ) (reads : List Read) → All IsKnown reads → ((what : Read) → IsKnown what → one what ≡ other what)
    → first_stale one reads ≡ first_stale other reads
first-alike one other [] known alike = refl
first-alike one other (what ∷ reads) known alike =
    ap (λ (found : Option ℕ). option_or (option_map (λ (number : ℕ). (what, number)) found) (first_stale one reads)) (alike what (All-head IsKnown what reads known))
    ∙ ap (option_or (option_map (λ (number : ℕ). (what, number)) (other what))) (first-alike one other reads (All-tail IsKnown what reads known) alike)

pub finds_each : FindsTheLastCommit
finds_each slot places desk machine keys wrote session snapshot what f open' listed last known =
    newest_is slot places desk machine keys wrote session snapshot f open' listed last what known

pub finds_first : FindsTheFirstStale
finds_first slot places desk machine keys wrote session snapshot reads f open' listed last known =
    first-alike (newest_of slot places keys wrote snapshot) (last_meeting machine.history snapshot.number) reads known
    (newest_is slot places desk machine keys wrote session snapshot f open' listed last)
