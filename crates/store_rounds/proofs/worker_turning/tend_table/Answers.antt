use Rattle.std.proofs.Common.{◌≡◌, ◌+◌, ◌*◌, ◌++◌, ◌∷◌, [], refl, ap, arith}
use Rattle.event_spec.specs.Parts.{blocks_of}
use Rattle.shared_store.specs.Store.{most_blocks_in_table, shape_in}
use Rattle.workload_spec.specs.declared.command.Command.TheVariants as command
use Rattle.store_rounds.specs.Turns.{asked_of_block, asked_of_table, most_of_block, most_of_table}
use Rattle.store_rounds.proofs.Kept.{blocks_few}
use Rattle.store_rounds.proofs.Tended.{block_more, block_there, blocks_read, first_blocks, keeps_as, keeps_on}
use Rattle.store_rounds.proofs.worker_turning.tend_table.Goals as goal

pub loop-block-init : goal.loop-block-init
loop-block-init g c =
    keeps_as c.args.store.now c.args.session.now c.step.new.session c.args.lines.now c.step.new.lines
    (command.Compact c.args.table ∷ []) (first_blocks c.args.table 0) (most_blocks_in_table + 1) (most_blocks_in_table + 1 + most_of_block * 0) refl (omega arith)
    c.step.ensures

pub loop-block-preserved : goal.loop-block-preserved
loop-block-preserved g c =
    let st = c.args.store.now in
    let t = c.args.table in
    let b = c.loop-block.block in
    keeps_as st c.args.session.now c.tend_block.new.session c.args.lines.now c.tend_block.new.lines
    (first_blocks t b ++ asked_of_block t b) (first_blocks t (b + 1))
    (most_blocks_in_table + 1 + most_of_block * b + most_of_block) (most_blocks_in_table + 1 + most_of_block * (b + 1)) (block_more t b) (omega arith)
    (keeps_on st c.args.session.now c.loop-block.session c.tend_block.new.session c.args.lines.now c.loop-block.lines c.tend_block.new.lines
    (first_blocks t b) (asked_of_block t b) (most_blocks_in_table + 1 + most_of_block * b) most_of_block
    c.loop-block.invariant c.tend_block.ensures)

pub tend_block-requires-clause-block : goal.tend_block-requires-clause-block
tend_block-requires-clause-block g c κs within =
    let sh = shape_in c.args.store.now in
    let blocks = blocks_read sh c.tables.result.now c.args.table c.index-tables-table.result c.tables.ensures.tables c.requires.table in
    let low = c.loop-block-test.true in
    block_there sh.tables c.args.table c.loop-block.block (omega (arith, blocks, low))

pub returns : goal.returns
returns g c =
    let st = c.args.store.now in
    let sh = shape_in st in
    let t = c.args.table in
    let b = c.loop-block.block in
    let blocks = blocks_read sh c.tables.result.now t c.index-tables-table.result c.tables.ensures.tables c.requires.table in
    let done = c.loop-block-test.false in
    let end' = c.loop-block.auto.block-end in
    let all : b ≡ blocks_of sh t = omega (arith, blocks, done, end') in
    let few = blocks_few sh.tables t c.tables.ensures.few in
    keeps_as st c.args.session.now c.loop-block.session c.args.lines.now c.loop-block.lines
    (first_blocks t b) (asked_of_table t (blocks_of sh t)) (most_blocks_in_table + 1 + most_of_block * b) most_of_table
    (ap (first_blocks t) all) (omega (arith, all, few)) c.loop-block.invariant
