-- A script, a log of events and a text belong together: the script ran, the log is what it did, but
-- for the blocks that were lent, and the text is what it printed.
use Rattle.std.specs.Prelude.{◌≡◌, ⊤, ℕ, ◌+◌, ◌≤◌, List, [], ◌∷◌, ◌++◌, map, filter, Option, None, true}
use Rattle.std.specs.Prelude.{All}
use Rattle.std.specs.List.{flat_map, range_with_len}
use Rattle.event_spec.specs.Parts.{Shape}
use Rattle.event_spec.specs.Replay.{IsLawfulLog, opening}
use Rattle.event_spec.specs.Sound.{IsShape}
use Rattle.outcome_spec.specs.Entries.{is_same}
use Rattle.outcome_spec.specs.Forms.{commands_of, turn_of, is_worker}
use Rattle.timeline_spec.specs.Printed.{text_of}
use Rattle.workload_spec.specs.declared.command.Command.{Command}
use Rattle.workload_spec.specs.declared.reply.Said.{Said}
use Rattle.workload_spec.specs.declared.reply.Who.{Who}
use Rattle.workload_spec.specs.declared.reply.Who.TheVariants.{Session, Worker}
use Rattle.workload_spec.specs.declared.script.Line.{Line}
use Rattle.workload_spec.specs.declared.script.Script.{Script}
use Rattle.workload_spec.specs.Valid.{is_valid}
use Rattle.run_spec.specs.Calls.{Call, AreCalls, Kept}
use Rattle.run_spec.specs.Occurrences.{Logged, Occurrence, occurrences_in, under}
use Rattle.run_spec.specs.Traces.{Action, LendsFit, as_log, log_in}

-- The core of a script has its tables, a pass for each session and each worker, and begins with the
-- script's commits.
abbrev pub shape_of : Script → Shape
shape_of script = record {
  tables = script.tables;
  passes = script.sessions + script.workers;
  first = script.begun;
}

-- A script that a store can run: it is a valid workload, and its core can be made, which asks of the
-- commits that it begins with to be of its tables, and to leave no table more rows than it takes.
pub record IsRunnable (script : Script) : Type 0 where
  pub valid : is_valid script ≡ true
  pub shape : IsShape (shape_of script)

-- The session under which one's events stand in the log: the workers' come behind the sessions'.
abbrev pub session_of : Script → Who → ℕ
session_of script (Session session) = session
session_of script (Worker worker) = script.sessions + worker

-- ---- what a round asks, and what was done in it

-- What one is asked in a round.
pub record Agenda : Type 0 where
  pub who : Who
  pub commands : List Command

-- what a worker is asked in each round: so many turns
abbrev pub turns_of : Script → List Command
turns_of script = flat_map (λ turn. turn_of script.tables) (range_with_len 1 script.turns)

-- What a round asks, in the order of its lines: each session its commands, and each worker its
-- turns.
abbrev pub agendas_in : Script → List Line → List Agenda
agendas_in script lines =
    map
    (λ session. record { who = Session session; commands = commands_of session lines })
    (range_with_len 1 script.sessions)
    ++ map
    (λ worker. record { who = Worker worker; commands = turns_of script })
    (range_with_len 1 script.workers)

-- What one did in a round.
pub record Share : Type 0 where
  pub who : Who
  pub calls : List Call

abbrev pub agenda_of : Share → Agenda
agenda_of share = record { who = share.who; commands = map (λ call. call.command) share.calls }

-- A round that ran: its part of the trace, and what each did.
pub record RoundRun : Type 0 where
  pub made : List Occurrence
  pub shares : List Share

-- ---- a run

-- What one did, behind these events: one's events of the round are those of one's calls, one call
-- behind the other.
pub record IsDone (script : Script) (front made : List Occurrence) (share : Share) : Type 0 where
  pub events : under (session_of script share.who) made ≡ flat_map (λ call. call.made) share.calls
  pub calls : AreCalls
      (shape_of script)
      (is_worker share.who)
      (session_of script share.who)
      (under (session_of script share.who) front)
      share.calls

-- the event stands under a session or worker of the script
abbrev pub IsOfScript : Script → Occurrence → Type 0
IsOfScript script occurrence =
    (1 ≤ occurrence.session) × (occurrence.session ≤ script.sessions + script.workers)

-- A round, behind these events: each did its share, and nobody else made an event.
pub record IsRound (script : Script) (front : List Occurrence) (round : RoundRun) : Type 0 where
  pub done : All (IsDone script front round.made) round.shares
  pub nobody_else : All (IsOfScript script) round.made

-- Round behind round.
abbrev pub AreRounds : Script → List Occurrence → List RoundRun → Type 0
AreRounds script front [] = ⊤
AreRounds script front (round ∷ rounds) =
    IsRound script front round × AreRounds script (front ++ round.made) rounds

-- what the calls told, in the order of the lines
abbrev pub told_in : List RoundRun → List (Option Said)
told_in rounds = flat_map
    (λ round. flat_map (λ share. map (λ call. call.told) share.calls) round.shares)
    rounds

-- one's calls of all rounds, one behind the other
abbrev pub calls_of : Who → List RoundRun → List Call
calls_of who rounds = flat_map
    (λ share. share.calls)
    (filter (λ share. is_same share.who who) (flat_map (λ round. round.shares) rounds))

-- The script ran with this log and printed this text. The log is lawful. With the blocks that were
-- lent at their points it is a trace, which is the rounds' parts one behind the other. In each
-- round each session carried out its commands and each worker its turns, in order; these calls have
-- the events and the lends of the trace, each knows what its session's calls before it were told
-- that was read, and the text is what they told.
pub record Ran (script : Script) (log : List Logged) (text : List ℕ) : Type 0 where
  pub lawful : IsLawfulLog (shape_of script) (map (λ entry. entry.made) log)
  pub trace : List Action
  pub log_is : log ≡ log_in trace
  pub lends : LendsFit (shape_of script) (opening (shape_of script)) trace
  pub rounds : List RoundRun
  pub asked
      : map (λ round. map agenda_of round.shares) rounds ≡ map (agendas_in script) script.rounds
  pub parted
      : occurrences_in (shape_of script) (as_log trace) ≡ flat_map (λ round. round.made) rounds
  pub done : AreRounds script [] rounds
  pub kept : (who : Who) → Kept None (calls_of who rounds)
  pub printed : text ≡ text_of script (told_in rounds)
