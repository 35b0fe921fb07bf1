use Rattle.std.proofs.Common.{◌≡◌, true, subst, List}
use Rattle.outcome_spec.specs.Entries.{Entry}
use Rattle.output_read.specs.declared.kept.KeptReply.{KeptReply}
use Rattle.outcome_counts.proofs.Starts.{kept-at}
use Rattle.outcome_judge.specs.Asked.{are_bounded}
use Rattle.outcome_judge.proofs.Asking.{bounded-at}
use Rattle.output_read.specs.Kept.{entry_of}
use Rattle.outcome_judge.proofs.sights.Sights.read_holds.Goals as goal

pub read_told-requires-clause-bounded : goal.read_told-requires-clause-bounded
read_told-requires-clause-bounded c =
    let reply : KeptReply = c.index-replies-at.result in
    let its = kept-at c.args.replies.now c.args.at reply c.requires.inside c.index-replies-at.is in
    bounded-at its.front (entry_of reply) its.rest (subst (λ (es : List Entry). are_bounded es ≡ true) its.whole c.requires.bounded)
