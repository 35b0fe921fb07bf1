use Rattle.std.proofs.Common.{refl, rules}
use Rattle.undo_chain.proofs.Ends.{last_first}
use Rattle.undo_chain.proofs.Order.{none_of_another}
use Rattle.undo_chain.proofs.chain.Chain.other_writer.Goals as goal

pub returns-else-is_open_write_of_another : goal.returns-else-is_open_write_of_another
returns-else-is_open_write_of_another g c =
    let found = last_first c.self.inside.oldest_first.items c.in_ok-newest.newest.now (search rules) in
    let lawful = rw (← c.self.view_is, found.1) at c.requires in
    rw
    (← c.self.view_is, found.1, none_of_another c.args.session c.in_ok-newest.newest.now found.0 lawful (search rules))
    refl
