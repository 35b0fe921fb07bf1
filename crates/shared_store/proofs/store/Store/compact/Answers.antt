use Rattle.std.proofs.Common.{sym, subst, ◌∙◌, arith}
use Rattle.workload_spec.specs.declared.command.Command.TheVariants.{Compact}
use Rattle.workload_spec.specs.declared.reply.Said.{Said}
use Rattle.run_spec.specs.Handed.{own_in}
use Rattle.run_spec.specs.Opened.{own_after}
use Rattle.shared_store.specs.Store.{Answers, reads_of, seen, shape_in}
use Rattle.shared_store.proofs.Compacted.{compacted, moves_few, moves_session, uncompacted}
use Rattle.shared_store.proofs.Stays.{call_leaves, compact_asks}
use Rattle.shared_store.proofs.store.Store.compact.Goals as goal

pub returns-in_err-moves-clause-answers : goal.returns-in_err-moves-clause-answers
returns-in_err-moves-clause-answers g c =
    subst (λ (line : Said). Answers c.args.self.now c.args.session.now c.plan_table.new.session (Compact c.args.table) line) (sym (uncompacted c.from_residual.result c.from_residual.ensures.0))
    c.in_err-moves.ensures.plans

pub returns-clause-session : goal.returns-clause-session
returns-clause-session g c =
    (moves_session c.args.self.now c.plan_table.new.session c.move_rows.new.session c.args.table c.in_ok-moves.moves c.move_rows.result c.in_ok-moves.ensures.session c.move_rows.ensures).0

pub returns-clause-same : goal.returns-clause-same
returns-clause-same g c =
    (moves_session c.args.self.now c.plan_table.new.session c.move_rows.new.session c.args.table c.in_ok-moves.moves c.move_rows.result c.in_ok-moves.ensures.session c.move_rows.ensures).1
    ∙ c.in_ok-moves.ensures.same

pub returns-clause-answers : goal.returns-clause-answers
returns-clause-answers g c =
    compacted c.args.self.now c.args.table c.args.session.now c.plan_table.new.session c.move_rows.new.session c.in_ok-moves.moves c.move_rows.result c.requires.session
    c.in_ok-moves.ensures.plans c.move_rows.ensures

pub returns-clause-few : goal.returns-clause-few
returns-clause-few g c =
    let made = c.in_ok-moves.ensures.made in
    let one = moves_few c.args.self.now c.plan_table.new.session c.move_rows.new.session c.args.table c.in_ok-moves.moves c.move_rows.result c.move_rows.ensures in
    omega (arith, made, one)

pub returns-in_err-moves-clause-leaves : goal.returns-in_err-moves-clause-leaves
returns-in_err-moves-clause-leaves g c =
    let st = c.args.self.now in
    let s = c.args.session.now in
    call_leaves st s c.plan_table.new.session (Compact c.args.table) _ c.requires.session c.in_err-moves.ensures.session c.in_err-moves.ensures.same c.in_err-moves.ensures.plans
    (λ made. compact_asks (shape_in st) (own_after (own_in (shape_in st) s.session (seen s))) (reads_of s) s.session made c.args.table)

pub returns-clause-leaves : goal.returns-clause-leaves
returns-clause-leaves g c =
    let st = c.args.self.now in
    let s = c.args.session.now in
    call_leaves st s c.move_rows.new.session (Compact c.args.table) _ c.requires.session (returns-clause-session g c) (returns-clause-same g c) (returns-clause-answers g c)
    (λ made. compact_asks (shape_in st) (own_after (own_in (shape_in st) s.session (seen s))) (reads_of s) s.session made c.args.table)
