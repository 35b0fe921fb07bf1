use Rattle.std.proofs.Common.{ℕ, List, refl, ◌∙◌, subst, arith}
use Rattle.std.specs.Prelude.{IfOk}
use Rattle.cell_model.specs.declared.table.TableDecl.{TableDecl}
use Rattle.store_rounds.specs.Turned.{PutTurn}
use Rattle.store_rounds.proofs.WorkerTurns.{lines_fit, turning_begins, turning_goes_on}
use Rattle.store_rounds.proofs.turning.make_turns.Goals as goal

pub loop-made-init : goal.loop-made-init
loop-made-init g c = record {
  turning = turning_begins c.args.store.now c.args.lines.now.round c.args.worker c.args.session.now c.args.lines.now.text.items c.requires.session;
  round = refl;
  high = omega arith;
  memory = tt;
}

pub put_turn-shown-requires : goal.put_turn-shown-requires
put_turn-shown-requires g c = record {
  few = lines_fit c.args.store.now c.args.lines.now.round c.args.worker c.args.session.now c.loop-made.session c.turn-told.new.session
      c.args.lines.now.text.items c.loop-made.lines.text.items c.loop-made.lines.text.items c.loop-made.shown c.loop-made.shown c.turn-told.result c.loop-made.made
      c.loop-made.invariant.turning c.turn-told.ensures c.tables-tables.ensures.few c.tables-tables.ensures.many
      (omega (arith, c.loop-made-test.true, c.requires.turns));
}

pub loop-made-preserved : goal.loop-made-preserved
loop-made-preserved g c =
    let inv = c.loop-made.invariant in
    record {
      turning = turning_goes_on c.args.store.now c.args.lines.now.round c.args.worker c.args.session.now c.loop-made.session c.turn-told.new.session
          c.args.lines.now.text.items c.loop-made.lines.text.items c.put_turn-shown.new.self.text.items
          c.loop-made.shown c.put_turn-shown.result c.turn-told.result c.loop-made.made inv.turning c.turn-told.ensures
          (subst (λ (tables : List TableDecl). IfOk c.put_turn-shown.result (λ count.
          PutTurn tables c.args.lines.now.round c.args.worker c.loop-made.shown c.turn-told.result c.loop-made.lines.text.items c.put_turn-shown.new.self.text.items count))
          c.tables-tables.ensures.tables
          (subst (λ (round : ℕ). IfOk c.put_turn-shown.result (λ count.
          PutTurn c.tables-tables.result.now round c.args.worker c.loop-made.shown c.turn-told.result c.loop-made.lines.text.items c.put_turn-shown.new.self.text.items count))
          inv.round c.put_turn-shown.ensures.ok));
      round = c.put_turn-shown.ensures.round ∙ inv.round;
      high = omega (arith, c.loop-made-test.true);
      memory = c.put_turn-shown.ensures.err;
    }
