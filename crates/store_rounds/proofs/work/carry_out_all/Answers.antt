use Rattle.std.proofs.Common.{◌≡◌, ℕ, ◌+◌, List, [], ◌∷◌, ◌++◌, refl, ap, sym, ◌∙◌, arith, append_assoc, subst}
use Rattle.std.specs.Prelude.{OnOk}
use Rattle.std.specs.Vec.Iter.{into_iter_items}
use Rattle.cell_model.specs.declared.table.TableDecl.{TableDecl}
use Rattle.workload_spec.specs.declared.command.Command.{Command}
use Rattle.workload_spec.specs.ReplyText.{reply_text}
use Rattle.workload_spec.specs.declared.reply.Said.TheVariants as said
use Rattle.workload_spec.specs.declared.reply.Who.TheVariants.{Session as TheSession}
use Rattle.run_laws.specs.Rounds.Lines.{line_of}
use Rattle.shared_store.specs.Store.{shape_in}
use Rattle.store_rounds.proofs.Answering.{few_events}
use Rattle.store_rounds.proofs.Turns.{none_left, turn_begins, turn_ends, turn_goes_on, turn_has_room, turn_stops}
use Rattle.store_rounds.proofs.work.carry_out_all.Goals as goal

pub loop-command-init : goal.loop-command-init
loop-command-init g c = record {
  turn = turn_begins c.args.store.now c.args.lines.now.round c.args.session.now c.args.lines.now.text.items (g.X.Sink.written c.args.outlet.now) _ c.requires.session;
  round = refl;
  split = c.into_iter-command-iterator.ensures.into_iter_gives.0;
  few = omega (arith, c.args.commands.ok.0, c.args.commands.ok.1, c.args.commands.small);
  memory = tt;
  kept = refl;
  started = refl;
}

pub carry_out-requires-clause-room : goal.carry_out-requires-clause-room
carry_out-requires-clause-room g c κs within =
    let inv = c.loop-command.invariant in
    let split : c.loop-command.yielded ++ c.in-Some.command ∷ into_iter_items c.next.new.self ≡ c.args.commands.items =
    ap (λ (cs : List Command). c.loop-command.yielded ++ cs) (sym c.in-Some.ensures.steps.0) ∙ inv.split in
    turn_has_room c.args.store.now c.args.lines.now.round c.args.session.now c.loop-command.session c.loop-command.yielded (into_iter_items c.next.new.self)
    c.args.commands.items _ _ c.loop-command.shown _ _ c.loop-command.index c.in-Some.command inv.turn split c.requires.room

pub loop-command-preserved : goal.loop-command-preserved
loop-command-preserved g c =
    let inv = c.loop-command.invariant in
    let split : c.loop-command.yielded ++ c.in-Some.command ∷ into_iter_items c.next.new.self ≡ c.args.commands.items =
    ap (λ (cs : List Command). c.loop-command.yielded ++ cs) (sym c.in-Some.ensures.steps.0) ∙ inv.split in
    let few = few_events c.args.store.now c.loop-command.session c.carry_out.new.session c.in-Some.command c.in-Ok.said _ _
    c.tables-tables.ensures.few c.in-Ok.ensures.answered in
    let line : List TableDecl → ℕ → ℕ → List ℕ = λ (tables : List TableDecl) (round session : ℕ).
    c.loop-command.lines.text.items ++ reply_text tables (line_of round (TheSession session) (c.loop-command.index + 1) c.in-Ok.said) in
    let same : line c.tables-tables.result.now c.loop-command.lines.round c.session_number-in-loop-command.result
    ≡ line (shape_in c.args.store.now).tables c.args.lines.now.round c.carry_out.new.session.session =
    ap (λ (tables : List TableDecl). line tables c.loop-command.lines.round c.session_number-in-loop-command.result) c.tables-tables.ensures.tables
    ∙ ap (line (shape_in c.args.store.now).tables c.loop-command.lines.round) c.session_number-in-loop-command.ensures
    ∙ ap (λ (round : ℕ). line (shape_in c.args.store.now).tables round c.carry_out.new.session.session) inv.round in
    record {
      turn = turn_goes_on c.args.store.now c.args.lines.now.round c.args.session.now c.loop-command.session c.carry_out.new.session
          c.loop-command.yielded _ _ _ c.loop-command.shown c.put_unless-shown.result _ _ _ c.loop-command.index c.in-Some.command c.in-Ok.said
          inv.turn c.in-Ok.ensures.answered few
          (subst (λ (text : List ℕ). OnOk c.put_unless-shown.result (OnOk c.loop-command.shown (c.put_unless-shown.new.self.text.items ≡ text))) same c.put_unless-shown.ensures.ok)
          c.put_unless-shown.ensures.kept;
      round = c.put_unless-shown.ensures.round ∙ inv.round;
      split = append_assoc c.loop-command.yielded (c.in-Some.command ∷ []) (into_iter_items c.next.new.self) ∙ split;
      few = inv.few;
      memory = c.put_unless-shown.ensures.err;
      kept = c.in-Ok.ensures.kept ∙ inv.kept;
      started = c.carry_out.ensures.started ∙ inv.started;
    }

pub returns-in_default-clause-served : goal.returns-in_default-clause-served
returns-in_default-clause-served g c =
    let inv = c.loop-command.invariant in
    let split : c.loop-command.yielded ++ c.in-Some.command ∷ into_iter_items c.next.new.self ≡ c.args.commands.items =
    ap (λ (cs : List Command). c.loop-command.yielded ++ cs) (sym c.in-Some.ensures.steps.0) ∙ inv.split in
    let few = few_events c.args.store.now c.loop-command.session c.carry_out.new.session c.in-Some.command said.Memory _ _
    c.tables-tables.ensures.few c.in_default.ensures.answered in
    turn_stops c.args.store.now c.args.lines.now.round c.args.session.now c.loop-command.session c.carry_out.new.session
    c.loop-command.yielded _ _ c.loop-command.lines.text.items c.loop-command.shown c.loop-command.shown _ _ _ c.loop-command.index c.in-Some.command said.Memory
    inv.turn c.in_default.ensures.answered few (into_iter_items c.next.new.self) c.args.commands.items split c.in_default.ensures.asked refl

pub returns-clause-served : goal.returns-clause-served
returns-clause-served g c =
    let inv = c.loop-command.invariant in
    turn_ends c.args.store.now c.args.lines.now.round c.args.session.now c.loop-command.session c.loop-command.yielded c.args.commands.items _ _ c.loop-command.shown _ _
    c.loop-command.index inv.turn
    (none_left c.loop-command.yielded (into_iter_items c.loop-command.command-iterator) c.args.commands.items
    (omega (arith, c.in-None.ensures.steps.0, c.loop-command.command-iterator.rest.ok.0)) inv.split)
    inv.memory
