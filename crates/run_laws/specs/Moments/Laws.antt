-- What the moments of a run are.
use Rattle.std.specs.Prelude.{◌≡◌, ⊤, ℕ, nat_le, ◌+◌, ◌≤◌, List, [], ◌∷◌, ◌++◌, Option, None, Some}
use Rattle.std.specs.Prelude.{IfSome, option_to_list, if◌then◌else◌}
use Rattle.event_spec.specs.Lawful.{Among}
use Rattle.outcome_spec.specs.Entries.{Entry, thread}
use Rattle.outcome_spec.specs.Forms.{commands_of, is_worker}
use Rattle.timeline_spec.specs.Printed.{printed_of}
use Rattle.timeline_spec.specs.Timeline.{InOrder}
use Rattle.workload_spec.specs.declared.command.Command.{Command}
use Rattle.workload_spec.specs.declared.command.Command.TheVariants as command
use Rattle.workload_spec.specs.declared.reply.Who.{Who}
use Rattle.workload_spec.specs.declared.script.Line.{Line}
use Rattle.workload_spec.specs.declared.script.Script.{Script}
use Rattle.run_spec.specs.Calls.{Call, IsCall}
use Rattle.run_spec.specs.Occurrences.{Logged, Occurrence, occurrences_in, under}
use Rattle.run_spec.specs.Ran.{Ran, RoundRun, Share, shape_of, told_in, turns_of}
use Rattle.run_spec.specs.Traces.{as_log}
use Rattle.run_laws.specs.Calls.Moments.{Lined, Moment, events_at}
use Rattle.run_laws.specs.Moments.Moments.{moments_of, replies_at, who_at}

-- the command that a printed reply shows: a worker's shows none of its own
abbrev pub command_told : Who → Command → Command
command_told who asked = if is_worker who then command.Observe else asked

-- the commands that one at this seat is asked in a round of these lines
abbrev pub commands_at : Script → List Line → ℕ → List Command
commands_at script lines seat =
    if nat_le seat script.sessions then commands_of seat lines else turns_of script

-- the command is one of those that one at this seat is asked in some round
abbrev pub IsAsked : Script → ℕ → Command → Type 0
IsAsked script seat asked =
    (lines : List Line)
    × Among lines script.rounds
    × Among asked (commands_at script lines seat)

-- The printed reply of one's call, if it has one: it says what the call told.
abbrev pub IsPrinted : Who → Call → Option Entry → Type 0
IsPrinted who call None = call.told ≡ None
IsPrinted who call (Some entry) =
    (call.told ≡ Some entry.reply.said)
    × (entry.reply.who ≡ who)
    × (entry.command ≡ command_told who call.command)

-- A call ends: one's events in front are those before the call and the call's, but for the event of
-- this moment, if it has one.
pub record Ends
    (script : Script) (front : List Occurrence) (seat : ℕ) (event : Option Occurrence)
    (line : Lined)
    : Type 0 where
  pub began : List Occurrence
  pub done : List Occurrence
  pub behind : under seat front ≡ began ++ done
  pub made : line.call.made ≡ done ++ option_to_list event
  pub none : event ≡ None → done ≡ []
  pub is_call : IsCall (shape_of script) (is_worker (who_at script seat)) seat began line.call
  pub printed : IsPrinted (who_at script seat) line.call line.printed
  pub asked : IsAsked script seat line.call.command

-- A call goes on: another event of it follows.
pub record GoesOn (script : Script) (front : List Occurrence) (seat : ℕ) (event : Occurrence)
    : Type 0 where
  pub began : List Occurrence
  pub done : List Occurrence
  pub next : Occurrence
  pub rest : List Occurrence
  pub call : Call
  pub behind : under seat front ≡ began ++ done
  pub made : call.made ≡ done ++ event ∷ next ∷ rest
  pub is_call : IsCall (shape_of script) (is_worker (who_at script seat)) seat began call

abbrev pub Stands
    : Script → List Occurrence → ℕ → Option Occurrence → Option Lined → Type 0
Stands script front seat event (Some line) = Ends script front seat event line
Stands script front seat (Some event) None = GoesOn script front seat event
Stands script front seat None None = ⊥

-- A moment behind these events, of one of the script's sessions or workers.
pub record IsMoment (script : Script) (front : List Occurrence) (moment : Moment) : Type 0 where
  pub low : 1 ≤ moment.session
  pub high : moment.session ≤ script.sessions + script.workers
  pub event_is : IfSome moment.event (λ occurrence. occurrence.session ≡ moment.session)
  pub stands : Stands script front moment.session moment.event moment.line

abbrev pub with_event : List Occurrence → Option Occurrence → List Occurrence
with_event front None = front
with_event front (Some event) = front ++ event ∷ []

-- Moment behind moment.
abbrev pub AreMoments : Script → List Occurrence → List Moment → Type 0
AreMoments script front [] = ⊤
AreMoments script front (moment ∷ moments) =
    IsMoment script front moment × AreMoments script (with_event front moment.event) moments

-- ---- facts of calls

-- a fact of each call that ends at one of the moments
abbrev pub EachEnds : Script → (Who → Call → Type 0) → List Moment → Type 0
EachEnds script P [] = ⊤
EachEnds script P (moment ∷ moments) =
    IfSome moment.line (λ line. P (who_at script moment.session) line.call)
    × EachEnds script P moments

abbrev pub EachOf : (Who → Call → Type 0) → Who → List Call → Type 0
EachOf P who [] = ⊤
EachOf P who (call ∷ calls) = P who call × EachOf P who calls

abbrev pub EachShare : (Who → Call → Type 0) → List Share → Type 0
EachShare P [] = ⊤
EachShare P (share ∷ shares) = EachOf P share.who share.calls × EachShare P shares

-- a fact of each call of some rounds
abbrev pub EachCall : (Who → Call → Type 0) → List RoundRun → Type 0
EachCall P [] = ⊤
EachCall P (round ∷ rounds) = EachShare P round.shares × EachCall P rounds

-- The moments have the events of a log in their order, and the printed replies of each session and
-- worker, which may have come about in this order; and each call ends behind its own events.
pub record HaveTheRun
    (script : Script) (log : List Logged) (rounds : List RoundRun) (moments : List Moment)
    : Type 0 where
  pub events : events_at moments ≡ occurrences_in (shape_of script) log
  pub threads : (who : Who) → thread who (printed_of script (told_in rounds))
      ≡ thread who (replies_at moments)
  pub order : InOrder (replies_at moments)
  pub calls : AreMoments script [] moments

-- So have those of a run, each lend as its read.
abbrev pub RunsHaveMoments : Type 0
RunsHaveMoments = (script : Script) (log : List Logged) (text : List ℕ)
    → (ran : Ran script log text)
    → HaveTheRun script (as_log ran.trace) ran.rounds (moments_of script ran.rounds)
