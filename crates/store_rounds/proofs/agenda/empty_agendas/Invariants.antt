use Rattle.std.proofs.Common.{◌≤◌, []}
use Rattle.store_rounds.specs.Agendas.{AreAgendas}
use Rattle.store_rounds.proofs.agenda.empty_agendas.Given as goal

abbrev pub invariant-loop-made : goal.invariant-loop-made
invariant-loop-made l = record {
  agendas : AreAgendas l.made [] l.agendas.items;
  high : l.made ≤ l.sessions;
}
