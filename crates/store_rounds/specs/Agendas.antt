-- What each session is asked in a round.
use Rattle.std.specs.Prelude.{◌≡◌, ℕ, ◌+◌, ◌<◌, List, get_or, length}
use Rattle.outcome_spec.specs.Forms.{commands_of}
use Rattle.workload_spec.specs.declared.script.Line.{Line}
use Rattle.store_rounds.specs.declared.agenda.Agenda.{Agenda}

-- These are the commands of so many sessions in a round of these lines, session by session.
pub record AreAgendas (sessions : ℕ) (lines : List Line) (agendas : List Agenda) : Type 0 where
  pub size : length agendas ≡ sessions
  pub each : (k : ℕ) (d : Agenda) → k < sessions
      → (get_or agendas k d).commands.items ≡ commands_of (k + 1) lines
