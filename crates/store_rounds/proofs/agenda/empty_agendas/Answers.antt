use Rattle.std.proofs.Common.{◌≡◌, ◌+◌, [], arith, subst, sym}
use Rattle.store_rounds.specs.Agendas.{AreAgendas}
use Rattle.store_rounds.proofs.Agendas.{none_yet, one_more}
use Rattle.store_rounds.proofs.agenda.empty_agendas.Goals as goal

pub loop-made-init : goal.loop-made-init
loop-made-init c = record { agendas = subst (AreAgendas 0 []) (sym c.in_ok-agendas.ensures.items) none_yet; high = omega arith }

pub loop-made-preserved : goal.loop-made-preserved
loop-made-preserved c = record {
  agendas = subst (AreAgendas (c.loop-made.made + 1) []) (sym c.in_ok-push.ensures.items)
      (one_more c.loop-made.made c.loop-made.agendas.items (record { commands = c.new-commands.result }) c.loop-made.invariant.agendas c.new-commands.ensures.items);
  high = omega arith;
}

pub returns : goal.returns
returns c =
    subst (λ n. AreAgendas n [] c.loop-made.agendas.items) (let e : c.loop-made.made ≡ c.args.sessions = omega arith in e) c.loop-made.invariant.agendas
