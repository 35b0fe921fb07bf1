use Rattle.std.proofs.Common.{◌≡◌, ◌++◌}
use Rattle.std.specs.Vec.Iter.{into_iter_items}
use Rattle.store_rounds.specs.Duties.{duties_text}
use Rattle.store_rounds.proofs.duty.text_of.Given as goal

abbrev pub invariant-loop-duty : goal.invariant-loop-duty
invariant-loop-duty l = record {
  text : l.text.items ≡ duties_text l.yielded;
  split : l.yielded ++ into_iter_items l.duty-iterator ≡ l.fn.duties.items;
}
