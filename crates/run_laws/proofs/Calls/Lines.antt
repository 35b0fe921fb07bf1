-- What a reply says by itself, reply by reply.
use Rattle.std.proofs.Common.{◌≡◌, ℕ, Option, None, Some, List, refl, subst}
use Rattle.std.proofs.lemmas.Option.{same_Some, none-some}
use Rattle.cell_model.specs.declared.cell.Cell.{Cell}
use Rattle.core_laws.specs.Events.Laws.{outcome_of_fault}
use Rattle.event_spec.specs.declared.reply.Reply.TheVariants as reply
use Rattle.event_spec.specs.declared.reply.WriteFault.{WriteFault}
use Rattle.event_spec.specs.declared.reply.WriteFault.TheVariants as fault
use Rattle.isolation_spec.specs.declared.command.Answer.TheVariants as answer
use Rattle.isolation_spec.specs.Store.{Outcome}
use Rattle.isolation_spec.specs.Store as store
use Rattle.timeline_spec.specs.Timeline.{Tells}
use Rattle.workload_spec.specs.declared.reply.Said.{Said}
use Rattle.workload_spec.specs.declared.reply.Said.TheVariants as said
use Rattle.run_spec.specs.Told.{fault_told, row_told, stale_of}
use Rattle.run_laws.specs.Calls.Lines.{LinesTellOutcomes}

-- What a refused write is told tells the outcome of the fault.
fault_tells : (table : ℕ) (refused : WriteFault) → Tells (outcome_of_fault refused) (fault_told table refused)
fault_tells table (fault.ConflictSession session) = refl
fault_tells table (fault.ConflictCommit number) = refl
fault_tells table fault.Exists = refl
fault_tells table fault.Missing = refl
fault_tells table (fault.Freezing block stamp) = (table, block, stamp, refl)
fault_tells table (fault.Full inserts) = refl

-- What a get is told tells the row that was found, or that there was none.
row_tells : (row : Option (List Cell)) → Tells (store.Answered (answer.Found row)) (row_told row)
row_tells None = refl
row_tells (Some row) = refl

-- what is told of the outcome and the line that are meant
abbrev tells_of : (here : Outcome) (meant : Said) → Tells here meant → (outcome : Outcome) (line : Said)
    → Some here ≡ Some outcome → Some meant ≡ Some line → Tells outcome line
tells_of here meant tells outcome line o l = subst
    (λ (x : Outcome). Tells x line)
    (same_Some here outcome o)
    (subst (λ (x : Said). Tells here x) (same_Some meant line l) tells)

-- what a reply says by itself tells its outcome
pub lines_tell : LinesTellOutcomes
lines_tell asked table block (reply.Begun snapshot) outcome line o l =
    tells_of (store.Answered (answer.At snapshot.number)) (said.At snapshot.number) refl outcome line o l
lines_tell asked table block (reply.Found row) outcome line o l =
    tells_of (store.Answered (answer.Found row)) (row_told row) (row_tells row) outcome line o l
lines_tell asked table block (reply.Written place) outcome line o l =
    tells_of (store.Answered answer.Accepted) said.Accepted refl outcome line o l
lines_tell asked table block (reply.Refused refused) outcome line o l =
    tells_of (outcome_of_fault refused) (fault_told table refused) (fault_tells table refused) outcome line o l
lines_tell asked table block (reply.Rows rows) outcome line o l = absurd (none-some line l)
lines_tell asked table block (reply.Shared rows) outcome line o l = absurd (none-some outcome o)
lines_tell asked table block (reply.Stale what number) outcome line o l =
    tells_of (store.Answered (answer.Stale what number)) (said.Stale (stale_of what) number) refl outcome line o l
lines_tell asked table block (reply.Committed number) outcome line o l =
    tells_of (store.Answered (answer.Committed number)) (said.Committed number) refl outcome line o l
lines_tell asked table block reply.Aborted outcome line o l =
    tells_of (store.Answered answer.Aborted) said.Aborted refl outcome line o l
lines_tell asked table block (reply.Oldest oldest) outcome line o l = absurd (none-some outcome o)
lines_tell asked table block (reply.Turned turned) outcome line o l = absurd (none-some outcome o)
lines_tell asked table block (reply.Dropped count) outcome line o l = absurd (none-some outcome o)
lines_tell asked table block (reply.Looked look) outcome line o l = absurd (none-some outcome o)
lines_tell asked table block (reply.Moved count) outcome line o l = absurd (none-some outcome o)
lines_tell asked table block (reply.Sealed stamp) outcome line o l = absurd (none-some outcome o)
lines_tell asked table block (reply.NotSealed because) outcome line o l = absurd (none-some outcome o)
lines_tell asked table block (reply.Imaged rows) outcome line o l = absurd (none-some outcome o)
lines_tell asked table block reply.NoSeal outcome line o l = absurd (none-some outcome o)
lines_tell asked table block reply.Thawed outcome line o l = absurd (none-some outcome o)
lines_tell asked table block reply.Memory outcome line o l = tells_of store.Memory said.Memory refl outcome line o l
