-- A run up to the end of a round, and that a further round in which all met extends it.
use Rattle.std.specs.Prelude.{◌≡◌, List, [], ◌∷◌, ◌++◌, map, All}
use Rattle.std.specs.List.{flat_map}
use Rattle.event_spec.specs.Replay.{IsLawfulLog, opening}
use Rattle.workload_spec.specs.declared.script.Line.{Line}
use Rattle.workload_spec.specs.declared.script.Script.{Script}
use Rattle.run_spec.specs.Handed.{Brings}
use Rattle.run_spec.specs.Occurrences.{Logged, Occurrence, occurrences_in}
use Rattle.run_spec.specs.Ran.{AreRounds, RoundRun, Share, agenda_of, agendas_in, shape_of}
use Rattle.run_spec.specs.Traces.{Action, LendsFit, as_log, log_in}
use Rattle.run_laws.specs.Calls.Meeting.{IsNamedIn}

-- the events of a log, and which of them were refused
abbrev pub made_in : List Logged → List Rattle.event_spec.specs.Replay.Made
made_in log = map (λ entry. entry.made) log

-- Rounds of these lines ran and ended with this log, in which all met: it is lawful, and with the
-- blocks that were lent it is the rounds' parts one behind the other; in each each session carried
-- out its commands and each worker its turns, and nobody else made an event.
pub record RanSoFar
    (script : Script) (asked : List (List Line)) (rounds : List RoundRun) (finished : List Logged)
    : Type 0 where
  pub lawful : IsLawfulLog (shape_of script) (made_in finished)
  pub trace : List Action
  pub log_is : finished ≡ log_in trace
  pub lends : LendsFit (shape_of script) (opening (shape_of script)) trace
  pub agendas : map (λ round. map agenda_of round.shares) rounds ≡ map (agendas_in script) asked
  pub parted
      : occurrences_in (shape_of script) (as_log trace) ≡ flat_map (λ round. round.made) rounds
  pub done : AreRounds script [] rounds

-- Before the first round nothing ran.
abbrev pub NothingRan : Type 0
NothingRan = (script : Script) → RanSoFar script [] [] []

-- A further round of these lines: all met in a log that is lawful and has entries of the script's
-- sessions and workers alone, and there each brings its share.
pub record RoundMet
    (script : Script) (finished now : List Logged) (lines : List Line) (shares : List Share)
    : Type 0 where
  pub lawful : IsLawfulLog (shape_of script) (made_in (finished ++ now))
  pub named : All (IsNamedIn script) (finished ++ now)
  pub agendas : map agenda_of shares ≡ agendas_in script lines
  pub brought : All (Brings script finished (finished ++ now)) shares

-- It ran one round further: what was made in it, the shares tell.
pub record RanFurther
    (script : Script) (asked : List (List Line)) (rounds : List RoundRun) (finished : List Logged)
    (shares : List Share)
    : Type 0 where
  pub made : List Occurrence
  pub ran : RanSoFar
      script
      asked
      (rounds ++ record { made = made; shares = shares } ∷ [])
      finished

-- So it extends the run, whatever the sessions and workers made at once.
abbrev pub RoundsGoOn : Type 0
RoundsGoOn = (script : Script) (asked : List (List Line)) (rounds : List RoundRun)
    (finished now : List Logged) (lines : List Line) (shares : List Share)
    → RanSoFar script asked rounds finished
    → RoundMet script finished now lines shares
    → RanFurther script (asked ++ lines ∷ []) rounds (finished ++ now) shares
