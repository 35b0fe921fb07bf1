use Rattle.std.proofs.Common.{◌≡◌, Some}
use Rattle.event_spec.specs.declared.own.OwnTransaction.{OwnTransaction}
use Rattle.shared_store.specs.Store.{own_of}
use Rattle.shared_store.proofs.Scanned.{ScansBy}
use Rattle.shared_store.proofs.store.Store.scan.Given as goal

abbrev pub invariant-loop-block : goal.invariant-loop-block
invariant-loop-block g l =
    (own : OwnTransaction) → own_of l.fn.session ≡ Some own
    → ScansBy l.fn.self l.fn.session l.session own l.fn.table l.block l.read.items l.fn.steps l.steps
