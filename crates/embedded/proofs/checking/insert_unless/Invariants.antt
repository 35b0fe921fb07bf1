use Rattle.std.proofs.Common.{◌≤◌, ◌+◌, ◌*◌}
use Rattle.shared_store.specs.Open.{IsAtRest, commits_seen}
use Rattle.shared_store.specs.Store.{IsSession, events_made}
use Rattle.store_laws.specs.Machines.{HasMore}
use Rattle.embedded.specs.Checking.{CommitsNothing}
use Rattle.embedded.proofs.checking.insert_unless.Given as goal

abbrev pub invariant-loop : goal.invariant-loop
invariant-loop g l = record {
  session : IsSession l.fn.store l.session;
  rests : IsAtRest l.session;
  seen : HasMore (commits_seen l.fn.store l.fn.session) (commits_seen l.fn.store l.session);
  unwritten : CommitsNothing l.fn.store l.fn.session l.session;
  made : events_made l.session ≤ events_made l.fn.session + 5 * l.counter;
}
