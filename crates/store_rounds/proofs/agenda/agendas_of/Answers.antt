use Rattle.std.proofs.Common.{◌≡◌, List, ◌∷◌, ◌++◌, [], ap, ◌∙◌, sym, append_assoc}
use Rattle.std.specs.Vec.Iter.{into_iter_items}
use Rattle.workload_spec.specs.declared.script.Line.{Line}
use Rattle.store_rounds.specs.declared.agenda.Agenda.{Agenda}
use Rattle.store_rounds.proofs.Agendas.{line_more, line_within}
use Rattle.store_rounds.proofs.agenda.agendas_of.Goals as goal

pub loop-line-preserved : goal.loop-line-preserved
loop-line-preserved c =
    let inv = c.loop-line.invariant in
    let split : c.loop-line.yielded ++ c.in-Some.line ∷ into_iter_items c.next.new.self ≡ c.args.round =
    ap (λ (ls : List Line). c.loop-line.yielded ++ ls) (sym c.in-Some.ensures.steps.0) ∙ inv.split in
    let within = line_within c.args.sessions c.loop-line.yielded (into_iter_items c.next.new.self) c.args.round c.in-Some.line split c.requires.lines in
    record {
      agendas = line_more c.args.sessions c.loop-line.yielded c.in-Some.line c.loop-line.agendas.items c.push.new.self c.index_mut.result.now
          inv.agendas within.0 within.1
          (c.in_ok-push.ensures ∙ ap (λ (a : Agenda). a.commands.items ++ c.in-Some.line.command ∷ []) c.index_mut.ensures.value);
      split = append_assoc c.loop-line.yielded (c.in-Some.line ∷ []) (into_iter_items c.next.new.self) ∙ split;
    }
