use Rattle.std.proofs.Common.{◌≡◌, drop}
use Rattle.output_read.specs.Kept.{entries_of}
use Rattle.output_read.specs.declared.kept.KeptReply.{KeptReply}
use Rattle.outcome_counts.specs.Asked.{asked_at}
use Rattle.outcome_judge.specs.Stale.{answers}
use Rattle.outcome_judge.proofs.Threads.{any_own}
use Rattle.outcome_judge.proofs.stale.is_answered.Given as goal

abbrev pub invariant-loop-place : goal.invariant-loop-place
invariant-loop-place l = (none : KeptReply) → let test = answers (asked_at l.replies l.at none) l.question in
    any_own (asked_at l.replies l.opening none).reply.who test (drop l.opening (entries_of l.replies)) ≡ any_own (asked_at l.replies l.opening none).reply.who test (drop l.place (entries_of l.replies))
