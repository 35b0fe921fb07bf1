use Rattle.shared_store.specs.Store.{IsSession}
use Rattle.embedded.proofs.range_tests.insert_each.Given as goal

abbrev pub invariant-loop-key : goal.invariant-loop-key
invariant-loop-key g l = record {
  session : IsSession l.fn.store l.session;
}
