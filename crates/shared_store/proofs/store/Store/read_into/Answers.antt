use Rattle.std.proofs.Common.{◌≡◌, List, ◌++◌, cond, Ok, Err, sym, ap, ◌∙◌}
use Rattle.std.specs.Prelude.{OnOk, Result, is_ok}
use Rattle.std.specs.declared.alloc.AllocError.{AllocError}
use Rattle.block_spec.specs.Slots.{Row}
use Rattle.event_spec.specs.Parts.{slots_of}
use Rattle.shared_store.specs.Store.{shape_in}
use Rattle.shared_store.specs.Reading.{reply_of}
use Rattle.shared_store.proofs.Calls.{own_open}
use Rattle.shared_store.proofs.Counted.{read_costs, unread_costs}
use Rattle.shared_store.proofs.GivenBack.{given_back, looked_none, read_some}
use Rattle.shared_store.proofs.Scanned.{ok_if, on_ok, read_granted, rows_same}
use Rattle.shared_store.proofs.store.Store.read_into.Goals as goal

-- Rows that were added to others stand behind them.
appended : {T E : Type 0} (result : Result T E) (rows more now : List Row) {told : List Row} → now ≡ cond (is_ok result) (rows ++ more) rows → more ≡ told → OnOk result (now ≡ rows ++ told)
appended (Ok done) rows more now is same = is ∙ ap (λ (rs : List Row). rows ++ rs) same
appended (Err memory) rows more now is same = tt

pub returns-in_err-seen : goal.returns-in_err-seen
returns-in_err-seen g c own is =
    let r = c.in_err-seen.ensures.sees own is in
    record {
      told = _;
      reads = r.reads;
      free = r.holds;
      granted = on_ok _ c.from_residual.result c.from_residual.ensures.0;
      rows = on_ok _ c.from_residual.result c.from_residual.ensures.0;
      few = unread_costs (shape_in c.args.self.now) c.args.table c.args.steps.now c.see_block.new.steps c.in_err-seen.ensures.steps;
      unlooked = looked_none (slots_of (shape_in c.args.self.now) c.args.table) c.args.steps.now c.see_block.new.steps r.reads.made r.looked;
    }

pub rows_of_seen-requires-clause-session : goal.rows_of_seen-requires-clause-session
rows_of_seen-requires-clause-session g c =
    let o = own_open c.args.session.now c.requires.busy in
    (c.in_ok-seen.ensures.sees o.0 o.1).reads.session

pub rows_of_seen-requires-clause-holds : goal.rows_of_seen-requires-clause-holds
rows_of_seen-requires-clause-holds g c =
    let o = own_open c.args.session.now c.requires.busy in
    (c.in_ok-seen.ensures.sees o.0 o.1).holds

pub returns-in_err-more : goal.returns-in_err-more
returns-in_err-more g c own is =
    let r = c.in_ok-seen.ensures.sees own is in
    let back = given_back AllocError c.args.self.now c.args.session.now c.see_block.new.session c.rows_of_seen.new.session own c.args.table c.args.block c.args.steps.now c.see_block.new.steps c.in_ok-seen.seen r
    c.rows_of_seen.ensures.gives in
    record {
      told = _;
      reads = back.0;
      free = back.1;
      granted = on_ok _ c.from_residual-in_err-more.result c.from_residual-in_err-more.ensures.0;
      rows = on_ok _ c.from_residual-in_err-more.result c.from_residual-in_err-more.ensures.0;
      few = read_costs AllocError (shape_in c.args.self.now) c.args.table c.in_ok-seen.seen c.args.steps.now c.see_block.new.steps c.rows_of_seen.new.steps c.in_ok-seen.ensures.steps c.rows_of_seen.ensures.steps;
      unlooked = λ none'. absurd (read_some c.args.session.now.session own c.args.table c.args.block (reply_of {E = AllocError} (Ok c.in_ok-seen.seen)) back.0.made back.0.is_read
          (read_granted AllocError c.in_ok-seen.seen) none');
    }

pub returns : goal.returns
returns g c own is =
    let r = c.in_ok-seen.ensures.sees own is in
    let back = given_back AllocError c.args.self.now c.args.session.now c.see_block.new.session c.rows_of_seen.new.session own c.args.table c.args.block c.args.steps.now c.see_block.new.steps c.in_ok-seen.seen r
    c.rows_of_seen.ensures.gives in
    record {
      told = _;
      reads = back.0;
      free = back.1;
      granted = ok_if c.append.result (read_granted AllocError c.in_ok-seen.seen);
      rows = appended c.append.result c.args.rows.now.items c.in_ok-more.more.items c.append.new.self.items c.append.ensures.items
          (c.in_ok-more.ensures.rows ∙ sym (rows_same AllocError c.in_ok-seen.seen));
      few = read_costs AllocError (shape_in c.args.self.now) c.args.table c.in_ok-seen.seen c.args.steps.now c.see_block.new.steps c.rows_of_seen.new.steps c.in_ok-seen.ensures.steps c.in_ok-more.ensures.steps;
      unlooked = λ none'. absurd (read_some c.args.session.now.session own c.args.table c.args.block (reply_of {E = AllocError} (Ok c.in_ok-seen.seen)) back.0.made back.0.is_read
          (read_granted AllocError c.in_ok-seen.seen) none');
    }
