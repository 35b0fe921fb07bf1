use Rattle.std.proofs.Common.{List, ⊎_elim, sym, ap, subst, ◌∙◌}
use mathlib.Core.Logic.{inl, inr}
use Rattle.std.specs.Prelude.{All}
use Rattle.cell_model.specs.declared.column.Column.{Column}
use Rattle.cell_model.specs.Rows.{Fits}
use Rattle.event_spec.specs.Effects.{CoreEvent}
use Rattle.event_spec.specs.Parts.{Shape}
use Rattle.event_spec.specs.Replay.{columns_in}
use Rattle.shared_store.specs.Making.{Makes}
use Rattle.shared_store.specs.Store.{shape_in}
use Rattle.shared_store.specs.Taking.{IsMarked}
use Rattle.shared_store.proofs.Ranged.{if_err, laid, listed_fit, listed_once, range_told, ranging}
use Rattle.shared_store.proofs.store.Store.find_range.Given.{Over}
use Rattle.shared_store.proofs.store.Store.find_range.Goals.{After-make_range-told}
use Rattle.shared_store.proofs.store.Store.find_range.Goals as goal

pub make_range-told-requires-clause-range : goal.make_range-told-requires-clause-range
make_range-told-requires-clause-range g c = subst IsMarked (sym c.requires.range.3) tt

-- The event was made by a session of the pass.
makes : (g : Over) (c : After-make_range-told g)
    → Makes c.args.self.now c.requires.may.session c.args.pass.now.seat c.make_range-told.new.pass.seat c.make_range-told.new.pass.hands c.requires.may.own
    (ranging c.requires.range.0 c.args.table c.requires.range.1 c.requires.range.2) c.make_range-told.result
makes g c =
    let may = c.requires.may in
    subst (λ (e : CoreEvent). Makes c.args.self.now may.session c.args.pass.now.seat c.make_range-told.new.pass.seat c.make_range-told.new.pass.hands may.own e c.make_range-told.result)
    c.requires.range.3 (c.make_range-told.ensures.made may.session may.own may.at' may.mine)

pub rows_found-requires : goal.rows_found-requires
rows_found-requires g c =
    let may = c.requires.may in
    let r = c.requires.range in
    ⊎_elim inl (λ is. inr (_, is))
    (range_told c.args.self.now may.session c.args.pass.now.seat c.make_range-told.new.pass.seat c.make_range-told.new.pass.hands may.own r.0 c.args.table r.1 r.2 c.make_range-told.result
    (makes g (goal.at.rows_found-requires g c).After-make_range-told))

pub returns-in_err-rows : goal.returns-in_err-rows
returns-in_err-rows g c = record {
  told = c.make_range-told.result;
  made = c.make_range-told.ensures.made;
  rows = if_err _ c.from_residual.result c.from_residual.ensures.0;
  few = c.make_range-told.ensures.steps;
}

pub rows_in_order-requires : goal.rows_in_order-requires
rows_in_order-requires g c =
    let may = c.requires.may in
    let r = c.requires.range in
    let columns = c.schema.ensures.columns ∙ ap (λ (sh : Shape). columns_in sh c.args.table) (c.shape-shape.ensures ∙ c.self.invariant.shape ∙ ap shape_in c.self.view_is) in
    subst (λ (columns : List Column). All (Fits columns) c.in_ok-rows.rows.items) (sym columns)
    (listed_fit c.args.self.now may.session c.args.pass.now.seat c.make_range-told.new.pass.seat c.make_range-told.new.pass.hands may.own r.0 c.args.table r.1 r.2 c.make_range-told.result
    (makes g (goal.at.rows_in_order-requires g c).After-make_range-told) c.in_ok-rows.rows.items c.in_ok-rows.ensures)

pub returns : goal.returns
returns g c =
    let may = c.requires.may in
    let r = c.requires.range in
    record {
      told = c.make_range-told.result;
      made = c.make_range-told.ensures.made;
      rows = laid c.rows_in_order.result c.args.table c.in_ok-rows.rows.items c.make_range-told.result c.in_ok-rows.ensures
          (listed_once c.args.self.now may.session c.args.pass.now.seat c.make_range-told.new.pass.seat c.make_range-told.new.pass.hands may.own r.0 c.args.table r.1 r.2 c.make_range-told.result
          (makes g (goal.at.returns g c).After-make_range-told) c.in_ok-rows.rows.items c.in_ok-rows.ensures)
          c.rows_in_order.ensures;
      few = c.make_range-told.ensures.steps;
    }
