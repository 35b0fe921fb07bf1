use Rattle.std.proofs.Common.{◌≡◌, List, [], length, refl, ap, subst, ◌∙◌, arith}
use Rattle.cell_model.specs.declared.table.TableDecl.{TableDecl}
use Rattle.event_spec.specs.Parts.{Shape}
use Rattle.run_spec.specs.Asked.{at_all_blocks}
use Rattle.shared_store.specs.Observing.{HaveTurned, Observes, observing}
use Rattle.shared_store.specs.Store.{shape_in}
use Rattle.shared_store.proofs.Observed.{observes_whole}
use Rattle.shared_store.proofs.Stays.{swept_leaves, tables_ask}
use Rattle.shared_store.proofs.Swept.{at_tables, sweeps_nothing, sweeps_table}
use Rattle.shared_store.proofs.store.Store.observe.Goals as goal

pub loop-table-init : goal.loop-table-init
loop-table-init g c =
    let st = c.args.self.now in
    (omega arith, omega arith, sweeps_nothing st (at_all_blocks (shape_in st) observing) (HaveTurned 0) c.args.session.now c.requires.session refl)

pub loop-table-preserved : goal.loop-table-preserved
loop-table-preserved g c =
    let st = c.args.self.now in
    let t = c.loop-table.table in
    let inv = c.loop-table.invariant in
    let few = inv.0 in
    let made = inv.1 in
    let more = c.observe_table-turned.ensures.few in
    let made_more = c.observe_table-turned.ensures.made in (
      omega (arith, few, more),
      omega (arith, made, made_more),
      sweeps_table st (at_all_blocks (shape_in st) observing) HaveTurned observing c.args.session.now c.loop-table.session c.observe_table-turned.new.session [] t
          c.loop-table.turned c.observe_table-turned.result inv.2 c.observe_table-turned.ensures.observes,
    )

pub returns-clause-answers : goal.returns-clause-answers
returns-clause-answers g c =
    let st = c.args.self.now in
    let inv = c.loop-table.invariant in
    let tables : length c.tables.result.now ≡ length (shape_in st).tables =
    ap (λ (ts : List TableDecl). length ts) (c.tables.ensures.tables ∙ ap (λ (sh : Shape). sh.tables) (c.shape.ensures ∙ c.self.invariant.shape ∙ ap shape_in c.self.view_is)) in
    let done = c.loop-table-test.false in
    let end' = c.loop-table.auto.table-end in
    let all : c.loop-table.table ≡ length (shape_in st).tables = omega (arith, tables, done, end') in
    observes_whole st c.args.session.now c.loop-table.session c.loop-table.turned c.requires.session
    (subst (λ n. Observes st c.args.session.now c.loop-table.session (at_tables (shape_in st) observing n) c.loop-table.turned) all inv.2)

pub returns-clause-few : goal.returns-clause-few
returns-clause-few g c =
    let made = c.loop-table.invariant.1 in
    let few = c.tables.ensures.few.tables_few in
    let tables = ap (λ (ts : List TableDecl). length ts) c.tables.ensures.tables in
    let end' = c.loop-table.auto.table-end in
    omega (arith, made, few, tables, end')

pub returns-clause-leaves : goal.returns-clause-leaves
returns-clause-leaves g c =
    let st = c.args.self.now in
    swept_leaves st (at_all_blocks (shape_in st) observing) (HaveTurned c.loop-table.turned) c.args.session.now c.loop-table.session (at_tables (shape_in st) observing c.loop-table.table)
    c.loop-table.invariant.2 (tables_ask (shape_in st) observing (λ table block. refl) c.loop-table.table)
