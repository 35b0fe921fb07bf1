use Rattle.undo_chain.proofs.Ends.{popped_lawful, popped_views}
use Rattle.undo_chain.proofs.chain.Chain.pop_newest.Goals as goal

pub returns-clause-lawful : goal.returns-clause-lawful
returns-clause-lawful g c =
    popped_lawful
    c.self.inside.oldest_first.items
    c.pop.new.self.items
    c.pop.result
    c.pop.ensures.items
    (rw (← c.self.view_is) at c.requires.lawful)

pub returns-clause-views : goal.returns-clause-views
returns-clause-views g c =
    rw
    (← c.self.view_is)
    (popped_views c.self.inside.oldest_first.items c.pop.new.self.items c.pop.result c.pop.ensures.items)
