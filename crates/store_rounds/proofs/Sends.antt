-- What calls sent to an outlet.
use Rattle.std.proofs.Common.{◌≡◌, ℕ, true, false, List, [], ◌∷◌, ◌++◌, Option, Some, Ok, Err, refl, sym, subst, true≢false}
use Rattle.std.specs.Prelude.{IfSome, Result}
use Rattle.std.specs.Io.KnownBytes.{Appends}
use Rattle.std.proofs.KnownBytes.{Appends-nil, Appends-trans}
use Rattle.cell_model.specs.declared.column.Column.{Column}
use Rattle.cell_model.specs.declared.table.TableDecl.{TableDecl}
use Rattle.event_spec.specs.Parts.{Shape, blocks_of}
use Rattle.event_spec.specs.Replay.{columns_in}
use Rattle.run_laws.proofs.Explained.Counting.{blocks_same}
use Rattle.run_laws.proofs.Exports.Sending.{sending_goes_on, sendings_join}
use Rattle.run_laws.proofs.Exports.Tables.{columns_same}
use Rattle.export_spec.specs.Calls.{CallSends, SendsAs}
use Rattle.outcome_spec.specs.Forms.{is_upkeep}
use Rattle.outcome_spec.specs.Tables.{blocks_at, columns_at}
use Rattle.outcome_spec.specs.Upkeep.{exported_table}
use Rattle.run_spec.specs.Calls.{Call}
use Rattle.run_spec.specs.Occurrences.{Occurrence}
use Rattle.shared_store.specs.Store.{Answers, MakesAtMost, StoreView, shape_in}
use Rattle.store_rounds.proofs.Lending.{still_free}
use Rattle.store_rounds.specs.Sessions.{IsFreeSession}
use Rattle.shared_store.specs.declared.session.Session.{Session}
use Rattle.store_export.specs.Exports.{Exports, exported_told}
use Rattle.store_export.specs.declared.exporting.ExportFault.{ExportFault}
use Rattle.store_export.specs.declared.exporting.ExportFault.TheVariants as fault
use Rattle.store_export.specs.declared.exporting.Summary.{Summary}
use Rattle.store_rounds.specs.Keeping.{Counts}
use Rattle.store_rounds.specs.Answered.{Answered, SentBy, most_events}
use Rattle.workload_spec.specs.Valid.{is_export}
use Rattle.workload_spec.specs.declared.command.Command.{Command}
use Rattle.workload_spec.specs.declared.command.Command.TheVariants as command
use Rattle.workload_spec.specs.declared.reply.Said.{Said}
use Rattle.workload_spec.specs.declared.reply.Said.TheVariants as said

-- ---- call by call

-- no calls send nothing
pub nothing_sent : (tables : List TableDecl) (exported : Option (List ℕ)) → SentBy tables [] exported exported
nothing_sent tables exported = record { bytes = []; sent = Appends-nil exported; by_calls = refl }

-- one call more puts what it sends behind what was sent
pub call_sent : (tables : List TableDecl) (calls : List Call) (call : Call) (exported now later : Option (List ℕ)) (bytes : List ℕ)
    → SentBy tables calls exported now → Appends now later bytes → CallSends tables call bytes
    → SentBy tables (calls ++ call ∷ []) exported later
call_sent tables calls call exported now later bytes before grown by_call = record {
  bytes = before.bytes ++ bytes;
  sent = Appends-trans exported now later before.bytes bytes before.sent grown;
  by_calls = sending_goes_on tables calls call before.bytes bytes before.by_calls by_call;
}

-- what more calls sent stands behind what the first ones did
pub calls_sent : (tables : List TableDecl) (calls more : List Call) (exported now later : Option (List ℕ))
    → SentBy tables calls exported now → SentBy tables more now later → SentBy tables (calls ++ more) exported later
calls_sent tables calls more exported now later before behind = record {
  bytes = before.bytes ++ behind.bytes;
  sent = Appends-trans exported now later before.bytes behind.bytes before.sent behind.sent;
  by_calls = sendings_join tables calls more before.bytes behind.bytes before.by_calls behind.by_calls;
}

-- ---- other commands

-- of a command that is no export nothing is said
pub nothing_said : (asked : Command) (P : ℕ → Type 0) → is_export asked ≡ false → IfSome (exported_table asked) P
nothing_said (command.Export table) P is = absurd (true≢false is)
nothing_said _ P is = tt

-- a command that is the export of no table is no export
pub no_export : (asked : Command) → ((table : ℕ) → asked ≡ command.Export table → ⊥) → is_export asked ≡ false
no_export (command.Export table) other = absurd (other table refl)
no_export _ other = refl

-- they send nothing
pub other_answered : (store : StoreView) (old new : Session) (asked : Command) (told : Said) (exported : Option (List ℕ))
    → IsFreeSession store new → new.session ≡ old.session → Answers store old new asked told → Counts told
    → (is_upkeep asked ≡ true → MakesAtMost most_events old new) → is_export asked ≡ false
    → Answered store old new asked told exported exported
other_answered store old new asked told exported is same answers counts kept_up other = record {
  session = is;
  same = same;
  answers = answers;
  counts = counts;
  kept_up = kept_up;
  bytes = [];
  sent = Appends-nil exported;
  by_call = record {
    by_line = nothing_said asked
        (λ table. IfSome (Some told) (λ told. SendsAs (columns_at (shape_in store).tables table) (blocks_at (shape_in store).tables table) answers.made told [])) other;
    quiet = λ no. refl;
  };
}

-- ---- exports

-- refused without a transaction
pub export_refused : (store : StoreView) (s : Session) (table : ℕ) (exported : Option (List ℕ))
    → IsFreeSession store s → Answers store s s (command.Export table) said.NoTransaction
    → Answered store s s (command.Export table) said.NoTransaction exported exported
export_refused store s table exported is answers = record {
  session = is;
  same = refl;
  answers = answers;
  counts = λ count e. absurd (let never : ⊥ = cc e in never);
  kept_up = λ e. absurd (true≢false (sym e));
  bytes = [];
  sent = Appends-nil exported;
  by_call = record { by_line = refl; quiet = λ no. refl };
}

-- What an export tells is no count of a pruning.
no_count : (told : Result Summary ExportFault) → Counts (exported_told told)
no_count (Ok summary) count e = absurd (let never : ⊥ = cc e in never)
no_count (Err (fault.Dirty key)) count e = absurd (let never : ⊥ = cc e in never)
no_count (Err (fault.Sink failed)) count e = absurd (let never : ⊥ = cc e in never)
no_count (Err fault.Memory) count e = absurd (let never : ⊥ = cc e in never)

-- a table's columns and blocks are those of its declaration
sends_by_tables : (shape : Shape) (table : ℕ) (made : List Occurrence) (told : Said) (bytes : List ℕ)
    → SendsAs (columns_in shape table) (blocks_of shape table) made told bytes
    → SendsAs (columns_at shape.tables table) (blocks_at shape.tables table) made told bytes
sends_by_tables shape table made told bytes sends =
    subst (λ (columns : List Column). SendsAs columns (blocks_at shape.tables table) made told bytes) (sym (columns_same shape table))
    (subst (λ (blocks : ℕ). SendsAs (columns_in shape table) blocks made told bytes) (sym (blocks_same shape table)) sends)

-- an export that was made is a command that was answered
pub export_answered : (store : StoreView) (old new : Session) (table : ℕ) (told : Result Summary ExportFault) (exported now : Option (List ℕ))
    → IsFreeSession store old
    → Exports store old new table (exported_told told) exported now
    → Answered store old new (command.Export table) (exported_told told) exported now
export_answered store old new table told exported now is exports = record {
  session = still_free store old new (command.Export table) (exported_told told) is exports.session exports.answers;
  same = exports.same;
  answers = exports.answers;
  counts = no_count told;
  kept_up = λ e. absurd (true≢false (sym e));
  bytes = exports.bytes;
  sent = exports.sent;
  by_call = record {
    by_line = sends_by_tables (shape_in store) table exports.answers.made (exported_told told) exports.bytes exports.sends;
    quiet = λ no. absurd (true≢false no);
  };
}
