use Rattle.std.proofs.Common.{reverse}
use Rattle.undo_chain.proofs.Ends.{reverse-last}
use Rattle.undo_chain.proofs.Views.{images_passed}
use Rattle.undo_chain.proofs.chain.Chain.push.Goals as goal

pub returns-clause-views : goal.returns-clause-views
returns-clause-views g c =
    rw
    (← c.self.view_is)
    (λ stamp session out.
    rw
    (reverse-last c.push_reserved.new.self.items c.self.inside.oldest_first.items c.args.undo c.push_reserved.ensures.items)
    (images_passed c.args.undo (reverse c.self.inside.oldest_first.items) stamp session out))
