-- What a session's reads of a table's blocks make: the call of an export.
use Rattle.std.specs.Prelude.{◌≡◌, ℕ, true, false, List, [], ◌++◌, Option, None, Some}
use Rattle.std.specs.List.{list_any}
use Rattle.event_spec.specs.declared.event.Event.TheVariants as event
use Rattle.event_spec.specs.declared.own.OwnTransaction.{OwnTransaction}
use Rattle.event_spec.specs.Effects.{CoreEvent}
use Rattle.event_spec.specs.Parts.{Shape}
use Rattle.isolation_spec.specs.Reads.{ReadSet}
use Rattle.run_spec.specs.Asked.{at_blocks}
use Rattle.run_spec.specs.Calls.{Call, is_cut_short, is_refused}
use Rattle.run_spec.specs.Handed.{Called, Stretch, own_in}
use Rattle.run_spec.specs.Occurrences.{Logged, Occurrence, events_in, replies_in}
use Rattle.run_spec.specs.Opened.{least_written, own_after}
use Rattle.run_spec.specs.Told.{refusal_of, summary_of}
use Rattle.workload_spec.specs.declared.command.Command.TheVariants as command
use Rattle.workload_spec.specs.declared.reply.Said.{Said}
use Rattle.workload_spec.specs.declared.reply.Said.TheVariants as said

-- an export of a table, with these events and this line, by one that had read so
abbrev pub export_call : ℕ → Option ReadSet → List Occurrence → Said → Call
export_call table handed made told =
    record { command = command.Export table; made = made; told = Some told; reads = handed }

-- A session that had this transaction open, and had not written the table by it, read or lent some
-- first blocks of the table, and made no other event meanwhile.
pub record ReadsOn
    (shape : Shape) (session : ℕ) (old new : List Logged) (own : OwnTransaction) (table : ℕ)
    (made : List Occurrence) : Type 0 where
  pub own_is : own_after (own_in shape session old) ≡ Some own
  pub clean : least_written table own ≡ None
  pub stretch : Stretch shape session old new made
  pub missed : List CoreEvent
  pub events : at_blocks shape table (event.Read own table) ≡ events_in made ++ missed

-- With all blocks read, and no read refused memory, it carried out an export, which tells what the
-- reads told, whatever its transaction had read before.
abbrev pub AllReadsAreAnExport : Type 0
AllReadsAreAnExport = (shape : Shape) (session : ℕ) (old new : List Logged) (own : OwnTransaction)
    (table : ℕ) (handed : Option ReadSet) (made : List Occurrence)
    → (reads : ReadsOn shape session old new own table made)
    → reads.missed ≡ []
    → list_any is_refused made ≡ false
    → Called shape false session old new
    (export_call table handed made (summary_of own (replies_in made)))

-- With some, of which only the last may have been refused, it carried out one that found no memory.
abbrev pub SomeReadsAreAnExport : Type 0
SomeReadsAreAnExport = (shape : Shape) (session : ℕ) (old new : List Logged) (own : OwnTransaction)
    (table : ℕ) (handed : Option ReadSet) (made : List Occurrence)
    → ReadsOn shape session old new own table made
    → is_cut_short made ≡ true
    → Called shape false session old new (export_call table handed made said.Memory)

-- Without a transaction, or with one that wrote the table, an export makes no event.
abbrev pub RefusedExportsReadNothing : Type 0
RefusedExportsReadNothing = (shape : Shape) (session : ℕ) (log : List Logged) (table : ℕ)
    (handed : Option ReadSet) (line : Said)
    → refusal_of (command.Export table) (own_after (own_in shape session log)) ≡ Some line
    → Called shape false session log log (export_call table handed [] line)
