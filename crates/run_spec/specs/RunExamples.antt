-- A worked run: a session exports an empty table beside a worker's turn, event by event.
use Rattle.std.specs.Prelude.{ℕ, false, List, [], ◌∷◌, None}
use Rattle.event_spec.specs.declared.event.Event.TheVariants as event
use Rattle.event_spec.specs.declared.own.OwnTransaction.{OwnTransaction}
use Rattle.event_spec.specs.Effects.{CoreEvent}
use Rattle.outcome_spec.specs.Samples.{begin, commit, export, get, texts, with_worker}
use Rattle.workload_spec.specs.ReplyText.{replies_text}
use Rattle.workload_spec.specs.declared.reply.ReplyLine.{ReplyLine}
use Rattle.workload_spec.specs.declared.reply.Said.{Said}
use Rattle.workload_spec.specs.declared.reply.Said.TheVariants as said
use Rattle.workload_spec.specs.declared.reply.Who.{Who}
use Rattle.workload_spec.specs.declared.reply.Who.TheVariants.{Session, Worker}
use Rattle.workload_spec.specs.declared.script.Script.{Script}
use Rattle.run_spec.specs.Occurrences.{Logged}
use Rattle.run_spec.specs.Ran.{Ran}

-- one session, and one worker, whose events stand under 2; a table of two blocks
abbrev pub script : Script
script = with_worker (texts 2) ((begin 1 ∷ begin 1 ∷ export 1 ∷ commit 1 ∷ get 1 5 ∷ []) ∷ [])

abbrev pub by : ℕ → CoreEvent → Logged
by session event = record { session = session; made = record { event = event; refused = false } }

abbrev pub own : OwnTransaction
own = record { session = 1; snapshot = record { stamp = 0; number = 0 }; writes = [] }

-- The log: the session's begin, reads and commit among the worker's events.
abbrev pub log : List Logged
log =
    by 1 (event.Begin 1)
    ∷ by 2 (event.Observe 0 0)
    ∷ by 2 (event.Observe 0 1)
    ∷ by 1 (event.Read own 0 0)
    ∷ by 2 event.Oldest
    ∷ by 2 (event.Prune 0 0 0)
    ∷ by 1 (event.Read own 0 1)
    ∷ by 2 (event.Prune 0 1 0)
    ∷ by 2 (event.Look 0 0)
    ∷ by 1 (event.Commit own None)
    ∷ by 2 (event.Look 0 1)
    ∷ by 2 (event.Seal 0 0)
    ∷ by 2 (event.Image 0 0 None)
    ∷ by 2 (event.Seal 0 1)
    ∷ by 2 (event.Image 0 1 None)
    ∷ []

abbrev pub line : Who → ℕ → Said → ReplyLine
line who index told = record { round = 1; who = who; index = index; said = told }

-- The lines: the session's, of which two have no event, and the worker's, whose seals and
-- gatherings are silent.
abbrev pub lines : List ReplyLine
lines =
    line (Session 1) 1 (said.At 0)
    ∷ line (Session 1) 2 said.InTransaction
    ∷ line (Session 1) 3 (said.Exported 0 0 0 0)
    ∷ line (Session 1) 4 (said.Committed None)
    ∷ line (Session 1) 5 said.NoTransaction
    ∷ line (Worker 1) 1 (said.Cooling 0)
    ∷ line (Worker 1) 2 (said.Pruned 0)
    ∷ line (Worker 1) 3 (said.Moved 0)
    ∷ []

abbrev pub ExportsBesideAWorker : Type 0
ExportsBesideAWorker = Ran script log (replies_text script.tables lines)
