use Rattle.store_rounds.proofs.Rows.{all_met, still_sessions}
use Rattle.store_rounds.proofs.row.meet_all.Goals as goal

pub see_back-requires-clause-sessions : goal.see_back-requires-clause-sessions
see_back-requires-clause-sessions c =
    still_sessions c.args.store.now c.args.row.now c.show_along.new.row c.show_along.ensures.look_on

pub returns : goal.returns
returns c =
    all_met c.args.store.now c.args.row.now c.show_along.new.row c.see_back.new.row
    c.requires.sessions c.requires.some c.show_along.ensures c.see_back.ensures
