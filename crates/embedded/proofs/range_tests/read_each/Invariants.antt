use Rattle.shared_store.specs.Store.{IsSession}
use Rattle.embedded.proofs.range_tests.read_each.Given as goal

abbrev pub invariant-loop-range : goal.invariant-loop-range
invariant-loop-range g l = record {
  session : IsSession l.fn.store l.session;
}
