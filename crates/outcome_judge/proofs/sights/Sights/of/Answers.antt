use Rattle.std.proofs.Common.{refl, []}
use Rattle.output_read.specs.Kept.{entries_of}
use Rattle.outcome_judge.specs.Seen.{base_at}
use Rattle.outcome_judge.proofs.CommitsMade.{laid-none}
use Rattle.outcome_judge.proofs.sights.Sights.of.Goals as goal

pub loop-place-init : goal.loop-place-init
loop-place-init c = record {
  commits = c.requires.commits;
  own = record {
    written = λ owner. [];
    kept = laid-none c.new.result c.new.ensures.left c.new.ensures.gained c.new.ensures.lost (base_at (entries_of c.args.replies.now));
    own = λ owner. refl;
  };
}
