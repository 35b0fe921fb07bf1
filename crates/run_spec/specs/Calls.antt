-- A call: a command that was carried out, with its events in the log and its line.
use Rattle.std.specs.Prelude.{◌≡◌, ◌⊎◌, ⊤, ℕ, Bool, true, false, not, ◌&&◌, ◌||◌, List, [], ◌∷◌}
use Rattle.std.specs.Prelude.{◌++◌, Option, None, Some, option_and_then, if◌then◌else◌}
use Rattle.std.specs.List.{list_any}
use Rattle.std.specs.Option.{option_map_or}
use Rattle.event_spec.specs.declared.event.Event.TheVariants as event
use Rattle.event_spec.specs.declared.own.OwnTransaction.{OwnTransaction}
use Rattle.event_spec.specs.declared.reply.Reply.TheVariants as reply
use Rattle.event_spec.specs.Effects.{CoreEvent}
use Rattle.event_spec.specs.Parts.{Shape}
use Rattle.event_spec.specs.Replies.{CoreReply}
use Rattle.isolation_spec.specs.Reads.{ReadSet}
use Rattle.outcome_spec.specs.Forms.{is_silent}
pub use Rattle.outcome_spec.specs.Stale.{reads_behind}
use Rattle.workload_spec.specs.declared.command.Command.{Command}
use Rattle.workload_spec.specs.declared.command.Command.TheVariants as command
use Rattle.workload_spec.specs.declared.reply.Said.{Said}
use Rattle.workload_spec.specs.declared.reply.Said.TheVariants as said
use Rattle.run_spec.specs.Asked.{events_of}
use Rattle.run_spec.specs.Occurrences.{Occurrence, events_in, replies_in}
use Rattle.run_spec.specs.Opened.{own_after}
use Rattle.run_spec.specs.Told.{line_of, refusal_of}

-- A command that was carried out: its events, and its line; none where it is silent. `reads` is
-- what its session's open transaction had read before it; none where that is plain, and without
-- one.
pub record Call : Type 0 where
  pub command : Command
  pub made : List Occurrence
  pub told : Option Said
  pub reads : Option ReadSet

-- ---- want of memory

-- the commands that may find no memory
abbrev pub may_lack_memory : Command → Bool
may_lack_memory (command.Begin checked) = false
may_lack_memory (command.Get table key) = true
may_lack_memory (command.Scan table) = true
may_lack_memory (command.Range table low high) = true
may_lack_memory (command.Total table column low high) = true
may_lack_memory (command.Insert table row) = true
may_lack_memory (command.Update table row) = true
may_lack_memory (command.Delete table key) = true
may_lack_memory command.Commit = false
may_lack_memory command.Abort = false
may_lack_memory command.Observe = false
may_lack_memory command.Prune = false
may_lack_memory (command.Compact table) = true
may_lack_memory (command.Seal table block) = false
may_lack_memory (command.Gather table block) = true
may_lack_memory (command.Export table) = true

-- the events that a call ends with: once one of them was granted, the call tells what it did
abbrev pub is_final : CoreEvent → Bool
is_final (event.Begin session) = false
is_final (event.Get own table key) = false
is_final (event.Insert own table row) = true
is_final (event.Update own table row) = true
is_final (event.Delete own table key) = true
is_final (event.Read own table block) = false
is_final (event.Range own table low high) = false
is_final (event.Commit own reads) = false
is_final (event.Abort own) = false
is_final event.Oldest = false
is_final (event.Observe table block) = false
is_final (event.Prune table block oldest) = false
is_final (event.Look table block) = false
is_final (event.Move table moves) = true
is_final (event.Seal table block) = false
is_final (event.Image table block image) = true
is_final (event.Thaw table block) = false

abbrev pub is_memory : CoreReply → Bool
is_memory reply.Memory = true
is_memory _ = false

-- the event was refused memory
abbrev pub is_refused : Occurrence → Bool
is_refused occurrence = is_memory occurrence.reply

-- Only the last event may have been refused memory, and one that a call ends with stands there only
-- where it was.
abbrev pub is_cut_short : List Occurrence → Bool
is_cut_short [] = true
is_cut_short (last ∷ []) = is_refused last || not (is_final last.event)
is_cut_short (first ∷ next ∷ rest) =
    not (is_refused first || is_final first.event) && is_cut_short (next ∷ rest)

-- ---- calls

-- A worker's seal or gathering that does nothing has no line.
abbrev pub line_to : Bool → Option Said → Option Said
line_to false told = told
line_to true told = option_and_then (λ line. if is_silent line then None else Some line) told

-- All events of the command were made, none was refused memory, and the line is what their replies
-- make.
pub record IsWhole
    (shape : Shape) (worker : Bool) (session : ℕ) (own : Option OwnTransaction) (call : Call)
    : Type 0 where
  pub events
      : events_in call.made ≡ events_of shape own call.reads session call.command call.made
  pub granted : list_any is_refused call.made ≡ false
  pub line : call.told ≡ line_to worker (line_of own call.command (replies_in call.made))

-- Memory was wanting: the events are a front of the command's.
pub record IsPart
    (shape : Shape) (session : ℕ) (own : Option OwnTransaction) (call : Call) : Type 0 where
  pub may : may_lack_memory call.command ≡ true
  pub missed : List CoreEvent
  pub events
      : events_of shape own call.reads session call.command call.made
      ≡ events_in call.made ++ missed
  pub cut : is_cut_short call.made ≡ true
  pub line : call.told ≡ Some said.Memory

-- A call of one who has this open: refused without an event, or made, as a whole or in part.
abbrev pub IsCallBy : Shape → Bool → ℕ → Option OwnTransaction → Option Said → Call → Type 0
IsCallBy shape worker session own (Some refusal) call =
    (call.made ≡ []) × (call.told ≡ Some refusal)
IsCallBy shape worker session own None call =
    IsWhole shape worker session own call ⊎ IsPart shape session own call

-- A call of a session or a worker, behind these events of its own.
abbrev pub IsCall : Shape → Bool → ℕ → List Occurrence → Call → Type 0
IsCall shape worker session front call =
    IsCallBy shape worker session (own_after front) (refusal_of call.command (own_after front)) call

-- Calls of one session or worker, one behind the other.
abbrev pub AreCalls : Shape → Bool → ℕ → List Occurrence → List Call → Type 0
AreCalls shape worker session front [] = ⊤
AreCalls shape worker session front (call ∷ calls) =
    IsCall shape worker session front call
    × AreCalls shape worker session (front ++ call.made) calls

-- ---- what was read

-- what a session's open transaction has read behind a call
abbrev pub reads_now : Option ReadSet → Call → Option ReadSet
reads_now reads call = option_map_or (reads_behind reads call.command) call.told reads

-- Calls one behind the other keep what was read: each has before it what those before it were told.
abbrev pub Kept : Option ReadSet → List Call → Type 0
Kept reads [] = ⊤
Kept reads (call ∷ calls) = (call.reads ≡ reads) × Kept (reads_now reads call) calls
