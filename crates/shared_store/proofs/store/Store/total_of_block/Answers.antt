use Rattle.std.proofs.Common.{◌≡◌, List, Result, Ok, Err, length, sym, ap, subst, arith}
use Rattle.std.specs.Prelude.{All, IfOk}
use Rattle.std.specs.declared.alloc.AllocError.{AllocError}
use Rattle.block_spec.specs.Slots.{Row}
use Rattle.cell_model.specs.declared.column.Column.{Column}
use Rattle.cell_model.specs.Rows.{Fits}
use Rattle.event_spec.specs.Parts.{slots_of}
use Rattle.event_spec.specs.Replay.{columns_in}
use Rattle.lane_filter.specs.Totals.{IsTotalOf}
use Rattle.lane_filter.specs.declared.total.Total.{Total}
use Rattle.shared_store.specs.Reading.{reply_of, rows_in}
use Rattle.shared_store.specs.Store.{shape_in}
use Rattle.shared_store.specs.Totalling.{IsWanted, TotalsRows, wanted_in}
use Rattle.shared_store.specs.declared.totalling.Wanted.{Wanted}
use Rattle.shared_store.proofs.Calls.{own_open}
use Rattle.shared_store.proofs.GivenBack.{given_back, looked_none, read_some}
use Rattle.shared_store.proofs.Open.{measures_of}
use Rattle.shared_store.proofs.Scanned.{ok_if, on_ok, read_granted, rows_same}
use Rattle.shared_store.proofs.Totalled.{looks_cost, told_total, unlooked_cost}
use Rattle.shared_store.proofs.Totals.{wanted_small}
use Rattle.shared_store.proofs.store.Store.total_of_block.Goals as goal

pub returns-in_err-seen : goal.returns-in_err-seen
returns-in_err-seen g c own is =
    let r = c.in_err-seen.ensures.sees own is in
    record {
      told = _;
      reads = r.reads;
      free = r.holds;
      granted = on_ok _ c.from_residual.result c.from_residual.ensures.0;
      total = told_total _ c.from_residual.result c.from_residual.ensures.0;
      few = unlooked_cost (shape_in c.args.self.now) c.args.table c.args.steps.now c.see_block.new.steps c.in_err-seen.ensures.steps;
      unlooked = looked_none (slots_of (shape_in c.args.self.now) c.args.table) c.args.steps.now c.see_block.new.steps r.reads.made r.looked;
    }

pub total_of_seen-requires-clause-session : goal.total_of_seen-requires-clause-session
total_of_seen-requires-clause-session g c =
    let o = own_open c.args.session.now c.requires.busy in
    (c.in_ok-seen.ensures.sees o.0 o.1).reads.session

pub total_of_seen-requires-clause-holds : goal.total_of_seen-requires-clause-holds
total_of_seen-requires-clause-holds g c =
    let o = own_open c.args.session.now c.requires.busy in
    (c.in_ok-seen.ensures.sees o.0 o.1).holds

pub total_of_seen-requires-clause-small : goal.total_of_seen-requires-clause-small
total_of_seen-requires-clause-small g c = wanted_small (columns_in (shape_in c.args.self.now) c.args.table) c.args.wanted c.requires.wanted

pub total_of_seen-requires-clause-few : goal.total_of_seen-requires-clause-few
total_of_seen-requires-clause-few g c =
    let o = own_open c.args.session.now c.requires.busy in
    let few = (c.in_ok-seen.ensures.sees o.0 o.1).reads.few in
    let slots = ((measures_of c.args.self.now c.args.session.now c.requires.session).slots c.args.table c.requires.block.0).1 in
    let same = ap (λ (rows : List Row). length rows) (rows_same AllocError c.in_ok-seen.seen) in
    omega (arith, few, slots, same)

-- the total of the rows that were seen is that of those that were told
of_told : (seen told : List Row) (columns : List Column) (wanted : Wanted) (result : Result Total AllocError) → told ≡ seen → IsWanted columns wanted → All (Fits columns) told
    → TotalsRows wanted seen result → IfOk result (IsTotalOf (wanted_in wanted told))
of_told seen told columns wanted (Ok total) same is fits totals =
    subst (λ (rows : List Row). IsTotalOf (wanted_in wanted rows) total) (sym same) (totals columns is (subst (All (Fits columns)) same fits))
of_told seen told columns wanted (Err memory) same is fits totals = tt

pub returns : goal.returns
returns g c own is =
    let r = c.in_ok-seen.ensures.sees own is in
    let back = given_back AllocError c.args.self.now c.args.session.now c.see_block.new.session c.total_of_seen.new.session own c.args.table c.args.block c.args.steps.now c.see_block.new.steps c.in_ok-seen.seen r
    c.total_of_seen.ensures.gives in
    record {
      told = _;
      reads = back.0;
      free = back.1;
      granted = ok_if c.total_of_seen.result (read_granted AllocError c.in_ok-seen.seen);
      total = of_told (rows_in c.in_ok-seen.seen) _ (columns_in (shape_in c.args.self.now) c.args.table) c.args.wanted c.total_of_seen.result (rows_same AllocError c.in_ok-seen.seen) c.requires.wanted back.0.fits
          c.total_of_seen.ensures.total;
      few = looks_cost AllocError (shape_in c.args.self.now) c.args.table c.in_ok-seen.seen c.args.steps.now c.see_block.new.steps c.in_ok-seen.ensures.steps;
      unlooked = λ none'. absurd (read_some c.args.session.now.session own c.args.table c.args.block (reply_of {E = AllocError} (Ok c.in_ok-seen.seen)) back.0.made back.0.is_read
          (read_granted AllocError c.in_ok-seen.seen) none');
    }
