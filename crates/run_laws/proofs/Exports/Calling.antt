-- A session's reads of a table's blocks are the call of an export.
use Rattle.std.proofs.Common.{◌≡◌, ℕ, false, List, [], ◌++◌, None, option_map, refl, sym, ap, ◌∙◌, subst, append-nil, Option}
use mathlib.Core.Logic.{inl, inr}
use Rattle.event_spec.specs.declared.own.OwnTransaction.{OwnTransaction}
use Rattle.event_spec.specs.Parts.{Shape}
use Rattle.run_laws.specs.Exports.Calls.{AllReadsAreAnExport, ReadsOn, RefusedExportsReadNothing, SomeReadsAreAnExport, export_call}
use Rattle.isolation_spec.specs.Reads.{ReadSet}
use Rattle.run_spec.specs.Asked.{events_of}
use Rattle.run_spec.specs.Calls.{IsCall, IsCallBy}
use Rattle.run_spec.specs.Handed.{own_in}
use Rattle.run_spec.specs.Occurrences.{Logged, Occurrence, events_in, replies_in}
use Rattle.run_spec.specs.Opened.{own_after}
use Rattle.run_spec.specs.Told.{line_of, refusal_of, summary_of}
use Rattle.store_laws.proofs.Stretches.{nothing_is_a_stretch}
use Rattle.workload_spec.specs.declared.command.Command.TheVariants as command
use Rattle.workload_spec.specs.declared.reply.Said.{Said}
use Rattle.workload_spec.specs.declared.reply.Said.TheVariants as said

module _ (shape : Shape) (session : ℕ) (old new : List Logged) (own : OwnTransaction) (table : ℕ) (handed : Option ReadSet) (made : List Occurrence) (reads : ReadsOn shape session old new own table made) where
  -- it is not refused
  free : refusal_of (command.Export table) (own_after (own_in shape session old)) ≡ None
  free = ap (refusal_of (command.Export table)) reads.own_is ∙ ap (option_map said.Dirty) reads.clean

  -- The events that the export asks for are those made and those missed.
  asked : events_of shape (own_after (own_in shape session old)) handed session (command.Export table) made ≡ events_in made ++ reads.missed
  asked = ap (λ o. events_of shape o handed session (command.Export table) made) reads.own_is ∙ reads.events

  -- A call that is made and not refused is a call of the session behind its earlier events.
  is_call : (line : Said) → IsCallBy shape false session (own_after (own_in shape session old)) None (export_call table handed made line)
      → IsCall shape false session (own_in shape session old) (export_call table handed made line)
  is_call line by = subst (λ r. IsCallBy shape false session (own_after (own_in shape session old)) r (export_call table handed made line)) (sym free) by

-- Reads of all blocks, none refused memory, are an export that tells what they told.
pub all_reads_are_an_export : AllReadsAreAnExport
all_reads_are_an_export shape session old new own table handed made reads all granted = record {
  stretch = reads.stretch;
  is_call = is_call shape session old new own table handed made reads (summary_of own (replies_in made)) (inl (record {
    events = sym (asked shape session old new own table handed made reads ∙ ap (λ missed. events_in made ++ missed) all ∙ append-nil (events_in made));
    granted = granted;
    line = ap (λ o. line_of o (command.Export table) (replies_in made)) (sym reads.own_is);
  }));
}

-- Reads that broke off are an export that found no memory.
pub some_reads_are_an_export : SomeReadsAreAnExport
some_reads_are_an_export shape session old new own table handed made reads cut = record {
  stretch = reads.stretch;
  is_call = is_call shape session old new own table handed made reads said.Memory (inr (record {
    may = refl;
    missed = reads.missed;
    events = asked shape session old new own table handed made reads;
    cut = cut;
    line = refl;
  }));
}

-- An export without a transaction, or with one that wrote the table, makes no event.
pub refused_exports_read_nothing : RefusedExportsReadNothing
refused_exports_read_nothing shape session log table handed line refused = record {
  stretch = nothing_is_a_stretch shape session log log ([], sym (append-nil log)) refl;
  is_call = subst (λ r. IsCallBy shape false session (own_after (own_in shape session log)) r (export_call table handed [] line)) (sym refused) (refl, refl);
}
