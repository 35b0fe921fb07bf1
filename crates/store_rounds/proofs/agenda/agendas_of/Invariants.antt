use Rattle.std.proofs.Common.{◌≡◌, ◌++◌}
use Rattle.std.specs.Vec.Iter.{into_iter_items}
use Rattle.store_rounds.specs.Agendas.{AreAgendas}
use Rattle.store_rounds.proofs.agenda.agendas_of.Given as goal

abbrev pub invariant-loop-line : goal.invariant-loop-line
invariant-loop-line l = record {
  agendas : AreAgendas l.sessions l.yielded l.agendas.items;
  split : l.yielded ++ into_iter_items l.line-iterator ≡ l.fn.round;
}
