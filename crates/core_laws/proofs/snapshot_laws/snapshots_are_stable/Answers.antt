use Rattle.core_laws.proofs.Events.Still.{all_stay}
use Rattle.event_spec.specs.Parts.{names}
use Rattle.core_laws.proofs.Snapshots.Sights.{seen_stays}
use Rattle.core_laws.proofs.snapshot_laws.snapshots_are_stable.Goals as goal

pub returns-clause-others : goal.returns-clause-others
returns-clause-others c = seen_stays

pub returns-clause-looks : goal.returns-clause-looks
returns-clause-looks c = λ shape parts. (λ own table key. all_stay (names shape) parts, λ own table block. all_stay (names shape) parts, λ own table low high. all_stay (names shape) parts)
