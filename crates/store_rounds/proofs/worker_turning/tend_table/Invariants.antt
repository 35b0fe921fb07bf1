use Rattle.std.proofs.Common.{◌+◌, ◌*◌}
use Rattle.shared_store.specs.Store.{most_blocks_in_table}
use Rattle.store_rounds.specs.Turns.{KeepsUp, most_of_block}
use Rattle.store_rounds.proofs.Tended.{first_blocks}
use Rattle.store_rounds.proofs.worker_turning.tend_table.Given as goal

abbrev pub invariant-loop-block : goal.invariant-loop-block
invariant-loop-block g l =
    KeepsUp l.fn.store l.fn.session l.session l.fn.lines l.lines (first_blocks l.fn.table l.block) (most_blocks_in_table + 1 + most_of_block * l.block)
