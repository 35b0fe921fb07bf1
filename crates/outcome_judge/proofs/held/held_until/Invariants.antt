use Rattle.std.proofs.Common.{◌≡◌, false, map, take}
use Rattle.workload_spec.specs.declared.reply.Who.{Who}
use Rattle.output_read.specs.Kept.{entries_of}
use Rattle.outcome_spec.specs.Forms.{is_within}
use Rattle.outcome_judge.specs.Held.{held_in}
use Rattle.outcome_judge.specs.Ranks.{kept_for}
use Rattle.outcome_judge.proofs.held.held_until.Given as goal

abbrev pub invariant-loop-at : goal.invariant-loop-at
invariant-loop-at l = record {
  within : (who : Who) → kept_for l.within who false ≡ is_within who (take l.at (entries_of l.replies));
  untils : l.untils.items ≡ map (λ held. held.until) (take l.at (held_in (entries_of l.replies)));
}
