use Rattle.std.proofs.Common.{◌≤◌, ◌+◌, ◌*◌}
use Rattle.shared_store.specs.Store.{events_made}
use Rattle.store_rounds.specs.Sessions.{IsFreeSession}
use Rattle.store_trials.proofs.turns.write_open.Given as goal

abbrev pub invariant-loop-change : goal.invariant-loop-change
invariant-loop-change g l = record {
  session : IsFreeSession l.fn.store l.session;
  made : events_made l.session ≤ events_made l.fn.session + 1 + 2 * l.change-index;
}
