use Rattle.std.proofs.Common.{◌≡◌, List, [], ◌∷◌, length, refl, ap, subst, ◌∙◌, arith}
use Rattle.cell_model.specs.declared.table.TableDecl.{TableDecl}
use Rattle.event_spec.specs.declared.event.Event.TheVariants as event
use Rattle.event_spec.specs.Parts.{Shape}
use Rattle.shared_store.specs.Pruning.{HaveDropped, Prunes, asked_by, pruning}
use Rattle.shared_store.specs.Store.{shape_in}
use Rattle.shared_store.proofs.Pruned.{prunes_begin, prunes_whole}
use Rattle.shared_store.proofs.Stays.{swept_leaves, tables_ask}
use Rattle.shared_store.proofs.Swept.{at_tables, sweeps_table}
use Rattle.shared_store.proofs.store.Store.prune.Goals as goal

pub loop-table-init : goal.loop-table-init
loop-table-init g c =
    let one = c.oldest-oldest.ensures.asks.makes.count in
    record {
      oldest = c.oldest-oldest.ensures.oldest;
      made = omega (arith, one);
      few = omega arith;
      prunes = prunes_begin c.args.self.now c.oldest-oldest.result c.args.session.now c.oldest-oldest.new.session c.requires.session c.oldest-oldest.ensures.asks;
    }

pub loop-table-preserved : goal.loop-table-preserved
loop-table-preserved g c =
    let st = c.args.self.now in
    let t = c.loop-table.table in
    let oldest = c.oldest-oldest.result in
    let inv = c.loop-table.invariant in
    let made = inv.made in
    let few = inv.few in
    let more = c.prune_table-dropped.ensures.few in
    let made_more = c.prune_table-dropped.ensures.made in
    record {
      oldest = c.prune_table-dropped.ensures.oldest;
      made = omega (arith, made, made_more);
      few = omega (arith, few, more);
      prunes = sweeps_table st (asked_by (shape_in st) oldest) (HaveDropped oldest) (pruning oldest) c.args.session.now c.loop-table.session c.prune_table-dropped.new.session (event.Oldest ∷ []) t
          c.loop-table.dropped c.prune_table-dropped.result inv.prunes c.prune_table-dropped.ensures.prunes;
    }

pub returns-clause-answers : goal.returns-clause-answers
returns-clause-answers g c =
    let st = c.args.self.now in
    let oldest = c.oldest-oldest.result in
    let inv = c.loop-table.invariant in
    let tables : length c.tables.result.now ≡ length (shape_in st).tables =
    ap (λ (ts : List TableDecl). length ts) (c.tables.ensures.tables ∙ ap (λ (sh : Shape). sh.tables) (c.shape.ensures ∙ c.self.invariant.shape ∙ ap shape_in c.self.view_is)) in
    let done = c.loop-table-test.false in
    let end' = c.loop-table.auto.table-end in
    let all : c.loop-table.table ≡ length (shape_in st).tables = omega (arith, tables, done, end') in
    prunes_whole st oldest c.args.session.now c.loop-table.session c.loop-table.dropped c.requires.session
    (subst (λ n. Prunes st oldest c.args.session.now c.loop-table.session (event.Oldest ∷ at_tables (shape_in st) (pruning oldest) n) c.loop-table.dropped) all inv.prunes)

pub returns-clause-few : goal.returns-clause-few
returns-clause-few g c =
    let made = c.loop-table.invariant.made in
    let few = c.tables.ensures.few.tables_few in
    let tables = ap (λ (ts : List TableDecl). length ts) c.tables.ensures.tables in
    let end' = c.loop-table.auto.table-end in
    omega (arith, made, few, tables, end')

pub returns-clause-leaves : goal.returns-clause-leaves
returns-clause-leaves g c =
    let st = c.args.self.now in
    let oldest = c.oldest-oldest.result in
    swept_leaves st (asked_by (shape_in st) oldest) (HaveDropped oldest c.loop-table.dropped) c.args.session.now c.loop-table.session
    (event.Oldest ∷ at_tables (shape_in st) (pruning oldest) c.loop-table.table)
    c.loop-table.invariant.prunes (refl, tables_ask (shape_in st) (pruning oldest) (λ table block. refl) c.loop-table.table)
