use Rattle.std.proofs.Common.{◌≡◌, List, [], ◌∷◌, ◌++◌, refl, ap, sym, ◌∙◌, subst, append_assoc, arith}
use Rattle.std.specs.Vec.Iter.{into_iter_items}
use Rattle.store_rounds.specs.Duties.{AreOfSessions}
use Rattle.store_rounds.specs.declared.agenda.Agenda.{Agenda}
use Rattle.store_rounds.proofs.Duties.{no_duties, session_more}
use Rattle.store_rounds.proofs.Turns.{none_left}
use Rattle.store_rounds.proofs.duty.session_duties.Goals as goal

pub loop-agenda-init : goal.loop-agenda-init
loop-agenda-init c = record {
  duties = subst (AreOfSessions c.args.number []) (sym c.in_ok-duties.ensures.items) (no_duties c.args.number);
  split = c.into_iter-agenda-iterator.ensures.into_iter_gives.0;
}

pub loop-agenda-preserved : goal.loop-agenda-preserved
loop-agenda-preserved c =
    let inv = c.loop-agenda.invariant in
    let rest : List Agenda = into_iter_items c.next.new.self in
    let split : c.loop-agenda.yielded ++ c.in-Some.agenda ∷ rest ≡ c.args.agendas.items =
    ap (λ (agendas : List Agenda). c.loop-agenda.yielded ++ agendas) (sym c.in-Some.ensures.steps.0) ∙ inv.split in
    record {
      duties = subst (AreOfSessions c.args.number (c.loop-agenda.yielded ++ c.in-Some.agenda ∷ [])) (sym c.in_ok-push.ensures.items)
          (session_more c.args.number c.loop-agenda.yielded c.loop-agenda.duties.items c.in-Some.agenda c.in-Some.agenda.commands c.new.result inv.duties refl c.new.ensures);
      split = append_assoc c.loop-agenda.yielded (c.in-Some.agenda ∷ []) rest ∙ split;
    }

pub returns : goal.returns
returns c =
    subst (λ (agendas : List Agenda). AreOfSessions c.args.number agendas c.loop-agenda.duties.items)
    (none_left c.loop-agenda.yielded (into_iter_items c.loop-agenda.agenda-iterator) c.args.agendas.items
    (omega (arith, c.in-None.ensures.steps.0, c.loop-agenda.agenda-iterator.rest.ok.0)) c.loop-agenda.invariant.split)
    c.loop-agenda.invariant.duties
