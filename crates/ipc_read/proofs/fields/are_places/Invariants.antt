use Rattle.std.proofs.Common.{◌≡◌, true}
use Rattle.std.specs.List.{list_all, range_with_len}
use Rattle.stream_spec.specs.Columns.{is_place_in}
use Rattle.ipc_read.specs.Views.{cell_in}
use Rattle.ipc_read.proofs.fields.are_places.Given as goal

-- each index so far is a place
abbrev pub invariant-loop-i : goal.invariant-loop-i
invariant-loop-i l = list_all (λ i. is_place_in l.values (cell_in l.view i)) (range_with_len 0 l.i) ≡ true
