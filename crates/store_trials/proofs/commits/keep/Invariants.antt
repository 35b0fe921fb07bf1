use Rattle.std.proofs.Common.{◌≤◌, ◌+◌, ◌*◌, ◌^◌}
use Rattle.shared_store.specs.Store.{events_made}
use Rattle.store_rounds.specs.Sessions.{IsFreeSession}
use Rattle.store_trials.proofs.commits.keep.Given as goal

abbrev pub invariant-loop-case : goal.invariant-loop-case
invariant-loop-case g l = record {
  session : IsFreeSession l.fn.store l.session;
  made : events_made l.session ≤ events_made l.fn.session + 2 ^ 10 * l.case-index;
}
