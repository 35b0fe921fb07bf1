-- The replies to one session in a round, one after the other.
use Rattle.std.specs.Prelude.{ℕ, ◌+◌, ◌<◌, ◌^◌, ◌≡◌, Bool, true, List, [], ◌∷◌, ◌++◌, Option, None}
use Rattle.std.specs.Prelude.{Some}
use Rattle.workload_spec.specs.declared.command.Command.{Command}
use Rattle.workload_spec.specs.declared.reply.Who.{Who}
use Rattle.workload_spec.specs.declared.reply.Who.TheVariants.{Session}
use Rattle.outcome_spec.specs.Entries.{Entry}
use Rattle.outcome_spec.specs.Forms.{Due, commands_of, dues_to, is_within}
use Rattle.output_read.specs.declared.reader.Reader.{Reader}
use Rattle.output_read.specs.declared.sessions.Thread.{Thread}
use Rattle.workload_spec.specs.declared.script.Line.{Line}
use Rattle.output_read.specs.Order.{AddsAll}
use Rattle.output_read.specs.Readers.{IsReading, Passes, is_of, next_index, read_by}

-- what is due to a session
abbrev pub session_due : Thread → Command → Due
session_due thread asked = record {
  round = thread.round;
  who = Session thread.session;
  command = asked;
}

-- The replies to a session were read so far: so many in this round, and whether it is in a
-- transaction.
pub record IsThread (thread : Thread) (entries : List Entry) : Type 0 where
  pub round : thread.round < 2 ^ 32
  pub session : thread.session < 2 ^ 32
  pub index : thread.index + 1 ≡ next_index thread.round (Session thread.session) entries
  pub within : thread.within ≡ is_within (Session thread.session) entries

-- no count of rows stands where a scan is due
abbrev pub NoCount : Option ℕ → Option ℕ → Type 0
NoCount None count = Unit {0}
NoCount (Some table) count = count ≡ None

-- A reply of the round to one was read behind others.
pub record Adds (old new : Reader) (round : ℕ) (who : Who) : Type 0 where
  pub entry : Entry
  pub is : read_by new ≡ read_by old ++ entry ∷ []
  pub own : is_of round who entry ≡ true

-- What was due to the session was read.
pub record ThreadGoes (old new : Reader) (thread after : Thread) (asked : Command) : Type 0 where
  pub reading : IsReading new
  pub thread_on : IsThread after (read_by new)
  pub round : after.round ≡ thread.round
  pub session : after.session ≡ thread.session
  pub passes : Passes old new (session_due thread asked ∷ [])
  pub adds : Adds old new thread.round (Session thread.session)

-- what is due of a line of the round
abbrev pub line_dues : Thread → Line → List Due
line_dues thread line = dues_to thread.round (Session thread.session)
    (commands_of thread.session (line ∷ []))

-- What was due of a line was read.
pub record LineGoes (old new : Reader) (thread after : Thread) (line : Line) : Type 0 where
  pub reading : IsReading new
  pub thread_on : IsThread after (read_by new)
  pub round : after.round ≡ thread.round
  pub session : after.session ≡ thread.session
  pub passes : Passes old new (line_dues thread line)
  pub adds : AddsAll old new thread.round (Session thread.session)

-- What was due to a session in a round was read.
pub record SessionGoes (old new : Reader) (round session : ℕ) (within : Bool) (lines : List Line) : Type 0 where
  pub reading : IsReading new
  pub within_is : within ≡ is_within (Session session) (read_by new)
  pub passes : Passes old new (dues_to round (Session session) (commands_of session lines))
  pub adds : AddsAll old new round (Session session)
