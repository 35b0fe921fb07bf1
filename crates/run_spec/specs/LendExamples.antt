-- A worked export that lends both blocks of its table, beside an event of a worker.
use Rattle.std.specs.Prelude.{◌≡◌, ◌==◌, true, false, List, [], ◌∷◌, codes, None, Some}
use Rattle.std.specs.Prelude.{if◌then◌else◌}
use Rattle.block_spec.specs.Bodies.{Body, imaged, sealed}
use Rattle.block_spec.specs.Examples.{row_of, settled, two_rows}
use Rattle.block_spec.specs.Slots.{bare}
use Rattle.event_spec.specs.declared.event.Event.TheVariants as event
use Rattle.event_spec.specs.Parts.{Parts, each_changed, names, nothing}
use Rattle.event_spec.specs.Replay.{opening}
use Rattle.workload_spec.specs.declared.command.Command.TheVariants as command
use Rattle.workload_spec.specs.declared.reply.Said.{Said}
use Rattle.workload_spec.specs.declared.reply.Said.TheVariants as said
use Rattle.run_spec.specs.Calls.{IsCall}
use Rattle.run_spec.specs.Occurrences.{Logged, occurrences_from, occurrences_in, under}
use Rattle.run_spec.specs.Ran.{shape_of}
use Rattle.run_spec.specs.RunExamples.{by, own, script}
use Rattle.run_spec.specs.Traces.{Action, EachAlong, MayLend, as_event, as_log, log_in}

-- a body with one row
abbrev pub one_row : Body
one_row = record two_rows { slots = settled (row_of 3 (codes "c")) ∷ bare ∷ [] }

-- The core in which both blocks are imaged, one with two rows and one with one, and the session has
-- its transaction open.
abbrev pub frozen : Parts
frozen = each_changed
    (record nothing {
      body = λ table block body. imaged (sealed (if block == 0 then two_rows else one_row));
      desk = λ desk. record desk { open_snapshots = Some own.snapshot ∷ None ∷ [] };
    })
    (names (shape_of script))
    (opening (shape_of script))

abbrev pub lend : Logged → Action
lend entry = record { entry = entry; lent = true }

-- The session's lends, and an event of the worker between them.
abbrev pub trace : List Action
trace =
    lend (by 1 (event.Read own 0 0))
    ∷ as_event (by 2 (event.Observe 0 0))
    ∷ lend (by 1 (event.Read own 0 1))
    ∷ []

-- What was lent of a trace that begins with these parts might be.
abbrev pub MayBeLent : Parts → List Action → Type 0
MayBeLent parts actions = EachAlong (shape_of script)
    (λ before action. action.lent ≡ true → MayLend (shape_of script) before action.entry)
    parts
    actions

-- The session's actions of the trace are an export that told this line.
abbrev pub Exports : Said → Type 0
Exports told = IsCall
    (shape_of script)
    false
    1
    (occurrences_in (shape_of script) (by 1 (event.Begin 1) ∷ []))
    (record {
      command = command.Export 0;
      made = under 1 (occurrences_from (shape_of script) frozen (as_log trace));
      told = Some told;
      reads = None;
    })

-- Where blocks are lent the log has the other's event alone, and the lends count as frozen blocks.
-- A block that is not imaged is not lent, and nothing but a read stands for a lend.
abbrev pub LendsStandForReads : Type 0
LendsStandForReads =
    (log_in trace ≡ by 2 (event.Observe 0 0) ∷ [])
    × MayBeLent frozen trace
    × Exports (said.Exported 0 3 2 2)
    × (Exports (said.Exported 0 3 2 1) → ⊥)
    × (MayBeLent (opening (shape_of script)) (lend (by 1 (event.Read own 0 0)) ∷ []) → ⊥)
    × (MayBeLent frozen (lend (by 2 (event.Observe 0 0)) ∷ []) → ⊥)
