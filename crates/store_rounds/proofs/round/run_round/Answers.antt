use Rattle.std.proofs.Common.{List, sym, ap, ◌∙◌, subst, arith}
use Rattle.std.specs.List.{list_any}
use Rattle.store_rounds.specs.Duties.{is_cut}
use Rattle.store_rounds.specs.Rounds.{RanRound}
use Rattle.store_rounds.specs.Served.{MayServeRow, OneExportsAtMost, RowServed}
use Rattle.store_rounds.specs.declared.duty.Duty.{Duty}
use Rattle.store_rounds.proofs.Duties.{export_once, may_serve_row}
use Rattle.store_rounds.proofs.Ranges.{written_over}
use Rattle.store_rounds.proofs.WholeRounds.{ended_sessions, ran_round, ran_to_export}
use Rattle.store_rounds.proofs.round.run_round.Goals as goal

pub duties_of-requires-clause-size : goal.duties_of-requires-clause-size
duties_of-requires-clause-size g c = omega (arith, c.requires.few, c.requires.workers)

pub serve_row-requires-clause-may : goal.serve_row-requires-clause-may
serve_row-requires-clause-may g c κs within =
    subst (λ (duties : List Duty). MayServeRow c.args.store.now duties c.args.row.now) (sym c.as_mut_slice.ensures.value)
    (may_serve_row c.args.crew c.args.number c.args.round c.in-Ok.duties.items c.in-Ok.ensures c.args.store.now c.args.row.now
    c.requires.sessions c.requires.size c.requires.room c.requires.workers c.requires.turns c.requires.commands)

pub serve_row-requires-clause-once : goal.serve_row-requires-clause-once
serve_row-requires-clause-once g c κs within =
    subst OneExportsAtMost (sym c.as_mut_slice.ensures.value)
    (export_once c.args.crew c.args.number c.args.round c.in-Ok.duties.items c.in-Ok.ensures c.requires.one)

pub meet_all-requires-clause-sessions : goal.meet_all-requires-clause-sessions
meet_all-requires-clause-sessions g c =
    ended_sessions c.args.store.now c.args.crew c.args.number c.args.round c.args.row.now c.serve_row.new.row c.serve_row.new.row
    c.in-Ok.duties.items c.serve_row.new.duties (g.X.Sink.written c.args.outlet.now) (g.X.Sink.written c.serve_row.new.outlet)
    c.requires.size c.requires.some c.requires.numbers c.in-Ok.ensures
    (subst (λ (before : List Duty). RowServed c.args.store.now c.args.row.now c.serve_row.new.row before c.serve_row.new.duties
    (g.X.Sink.written c.args.outlet.now) (g.X.Sink.written c.serve_row.new.outlet)) c.as_mut_slice.ensures.value c.serve_row.ensures.served)

pub returns-then-any_is_cut-clause-part : goal.returns-then-any_is_cut-clause-part
returns-then-any_is_cut-clause-part g c =
    let served = subst (λ (before : List Duty). RowServed c.args.store.now c.args.row.now c.serve_row.new.row before c.serve_row.new.duties
    (g.X.Sink.written c.args.outlet.now) (g.X.Sink.written c.serve_row.new.outlet)) c.as_mut_slice.ensures.value c.serve_row.ensures.served in
    let after = written_over c.serve_row.new.duties c.in-Ok.duties.items c.in-Ok.duties.len (omega (arith, c.in-Ok.duties.ok.0, c.in-Ok.duties.ok.1)) served.duties in
    ran_to_export c.args.store.now c.args.crew c.args.number c.args.round c.args.row.now c.serve_row.new.row c.meet_all.new.row
    c.in-Ok.duties.items c.serve_row.new.duties (g.X.Sink.written c.args.outlet.now) (g.X.Sink.written c.serve_row.new.outlet)
    c.requires.size c.requires.some c.requires.numbers c.in-Ok.ensures served c.meet_all.ensures
    (ap (list_any is_cut) (sym (c.as_slice.ensures.value ∙ after)) ∙ sym c.any_is_cut.ensures ∙ c.if-any_is_cut.true)

pub returns-clause-whole : goal.returns-clause-whole
returns-clause-whole g c =
    let served = subst (λ (before : List Duty). RowServed c.args.store.now c.args.row.now c.serve_row.new.row before c.serve_row.new.duties
    (g.X.Sink.written c.args.outlet.now) (g.X.Sink.written c.serve_row.new.outlet)) c.as_mut_slice.ensures.value c.serve_row.ensures.served in
    let after = written_over c.serve_row.new.duties c.in-Ok.duties.items c.in-Ok.duties.len (omega (arith, c.in-Ok.duties.ok.0, c.in-Ok.duties.ok.1)) served.duties in
    subst (λ (duties : List Duty). RanRound c.args.store.now c.args.number c.args.crew c.args.row.now c.meet_all.new.row c.args.round duties
    (g.X.Sink.written c.args.outlet.now) (g.X.Sink.written c.serve_row.new.outlet)) (sym after)
    (ran_round c.args.store.now c.args.crew c.args.number c.args.round c.args.row.now c.serve_row.new.row c.meet_all.new.row
    c.in-Ok.duties.items c.serve_row.new.duties (g.X.Sink.written c.args.outlet.now) (g.X.Sink.written c.serve_row.new.outlet)
    c.requires.size c.requires.some c.requires.numbers c.in-Ok.ensures served c.meet_all.ensures
    (ap (list_any is_cut) (sym (c.as_slice.ensures.value ∙ after)) ∙ sym c.any_is_cut.ensures ∙ c.if-any_is_cut.false))
