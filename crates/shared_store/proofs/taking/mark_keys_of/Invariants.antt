use Rattle.std.proofs.Common.{[], map}
use Rattle.std.specs.List.{flat_map}
use Rattle.std.specs.Option.{option_map_or}
use Rattle.core_parts.specs.Hands.{in_hand}
use Rattle.core_parts.specs.Touched.{bodies_on}
use Rattle.shared_store.specs.Taking.{Marked}
use Rattle.shared_store.proofs.taking.mark_keys_of.Given as goal

abbrev pub invariant-loop-key : goal.invariant-loop-key
invariant-loop-key l = Marked l.fn.shape
    (flat_map (bodies_on l.shape (in_hand l.shape l.held) (option_map_or (λ writes. writes.now) l.fn.writes []) l.range.table) (map (λ key. key.now) l.yielded))
    l.fn.marks
    l.marks
