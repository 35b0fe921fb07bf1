use Rattle.std.proofs.Common.{◌∙◌, sym, subst, ℕ, List, Option}
use Rattle.output_read.specs.Kept.{entries_of}
use Rattle.outcome_counts.specs.Openings.{AreOpenings}
use Rattle.outcome_counts.proofs.spans.Spans.openings.Goals as goal

pub returns-clause-own : goal.returns-clause-own
returns-clause-own c = subst (λ (openings : List (Option ℕ)). AreOpenings (entries_of c.args.replies.now) openings) (sym c.as_slice.ensures.value) c.requires.openings

pub returns-clause-each : goal.returns-clause-each
returns-clause-each c = c.as_slice.ensures.value ∙ c.requires.each
