use Rattle.std.proofs.Common.{◌≡◌, map, take}
use Rattle.block_layout.specs.Place.{block_of}
use Rattle.core_parts.specs.Least.{offered_all}
use Rattle.event_spec.specs.Parts.{BodyOf}
use Rattle.event_spec.specs.declared.event.MovePair.{MovePair}
use Rattle.core_parts.proofs.offers.offer_sources.Given as goal

abbrev pub invariant-loop-pair : goal.invariant-loop-pair
invariant-loop-pair l = l.least ≡ offered_all l.shape (map (λ (pair : MovePair). BodyOf l.fn.table (block_of pair.source)) (take l.pair-index l.pairs)) l.fn.least
