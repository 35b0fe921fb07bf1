use Rattle.std.proofs.Common.{arith}
use Rattle.shared_store.proofs.Latched.{last_new}
use Rattle.store_trials.proofs.commits.a_store_goes_on_behind_its_first_commits.Goals as goal

pub go_on-requires-clause-session : goal.go_on-requires-clause-session
go_on-requires-clause-session g c =
    let new = (last_new c.in_ok-store.field-0.store 1 _ _ _ c.in-Some.ensures.items c.in_ok-store.ensures.sessions).1 in
    record { stands = new.session; free = new.free }

pub go_on-requires-clause-room : goal.go_on-requires-clause-room
go_on-requires-clause-room g c =
    let made = (last_new c.in_ok-store.field-0.store 1 _ _ _ c.in-Some.ensures.items c.in_ok-store.ensures.sessions).1.made in
    omega (arith, made)
