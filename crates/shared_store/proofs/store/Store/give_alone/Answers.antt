use Rattle.shared_store.proofs.Alone.{gave_alone}
use Rattle.shared_store.proofs.store.Store.give_alone.Goals as goal

pub returns : goal.returns
returns c session own within =
    let u = c.args.pass.now in
    let w = c.give_part.new.pass in
    gave_alone c.args.self.now session u.seat w.seat u.hands w.hands own c.args.part c.requires.alone (c.give_part.ensures.gives session own within) c.give_part.ensures.hand
