use Rattle.std.proofs.Common.{◌≡◌, ◌+◌, ◌*◌, ◌<◌, ◌++◌, List, [], length, refl, ap, ◌∙◌, arith}
use Rattle.cell_model.specs.declared.table.TableDecl.{TableDecl}
use Rattle.event_spec.specs.Parts.{blocks_of}
use Rattle.shared_store.specs.Store.{shape_in}
use Rattle.store_rounds.specs.Turns.{asked_of_table, asked_of_tables, most_of_table, most_of_tables}
use Rattle.store_rounds.proofs.Tended.{all_tables, first_tables, keeps_as, keeps_nothing, keeps_on, table_more}
use Rattle.store_rounds.proofs.worker_turning.tend_tables.Goals as goal

pub loop-table-init : goal.loop-table-init
loop-table-init g c =
    let st = c.args.store.now in
    keeps_as st c.args.session.now c.args.session.now c.args.lines.now c.args.lines.now [] (first_tables (shape_in st).tables 0) 0 (most_of_table * 0) refl (omega arith)
    (keeps_nothing st c.args.session.now c.args.lines.now c.requires.session)

pub loop-table-preserved : goal.loop-table-preserved
loop-table-preserved g c =
    let st = c.args.store.now in
    let t = c.loop-table.table in
    let tables : length c.tables.result.now ≡ length (shape_in st).tables = ap (λ (ts : List TableDecl). length ts) c.tables.ensures.tables in
    let below' = c.loop-table-test.true in
    let end' = c.loop-table.auto.table-end in
    let low : t < length (shape_in st).tables = omega (arith, tables, below', end') in
    keeps_as st c.args.session.now c.tend_table.new.session c.args.lines.now c.tend_table.new.lines
    (first_tables (shape_in st).tables t ++ asked_of_table t (blocks_of (shape_in st) t)) (first_tables (shape_in st).tables (t + 1))
    (most_of_table * t + most_of_table) (most_of_table * (t + 1)) (table_more (shape_in st) t low) (omega arith)
    (keeps_on st c.args.session.now c.loop-table.session c.tend_table.new.session c.args.lines.now c.loop-table.lines c.tend_table.new.lines
    (first_tables (shape_in st).tables t) (asked_of_table t (blocks_of (shape_in st) t)) (most_of_table * t) most_of_table
    c.loop-table.invariant c.tend_table.ensures)

pub returns : goal.returns
returns g c =
    let st = c.args.store.now in
    let t = c.loop-table.table in
    let tables : length c.tables.result.now ≡ length (shape_in st).tables = ap (λ (ts : List TableDecl). length ts) c.tables.ensures.tables in
    let done = c.loop-table-test.false in
    let end' = c.loop-table.auto.table-end in
    let many = c.tables.ensures.many in
    let all : t ≡ length (shape_in st).tables = omega (arith, tables, done, end') in
    keeps_as st c.args.session.now c.loop-table.session c.args.lines.now c.loop-table.lines
    (first_tables (shape_in st).tables t) (asked_of_tables (shape_in st).tables) (most_of_table * t) most_of_tables
    (ap (first_tables (shape_in st).tables) all ∙ all_tables (shape_in st).tables) (omega (arith, all, many))
    c.loop-table.invariant
