-- What the call of an export sends, by its reads and its line.
use Rattle.std.specs.Prelude.{◌≡◌, ◌⊎◌, ℕ, false, List, [], ◌∷◌, ◌++◌, length, filter, map}
use Rattle.std.specs.Prelude.{flat_map, All, IfSome}
use Rattle.std.specs.List.{list_any}
use Rattle.arrow_spec.specs.Streams.{batch_message, schema_message, stream_of}
use Rattle.block_spec.specs.Slots.{Row}
use Rattle.cell_model.specs.declared.column.Column.{Column}
use Rattle.cell_model.specs.declared.table.TableDecl.{TableDecl}
use Rattle.outcome_spec.specs.Tables.{blocks_at, columns_at}
use Rattle.outcome_spec.specs.Upkeep.{exported_table}
use Rattle.run_spec.specs.Calls.{Call, is_refused}
use Rattle.run_spec.specs.Occurrences.{Occurrence, replies_in}
use Rattle.run_spec.specs.Ran.{RoundRun}
use Rattle.run_spec.specs.Told.{is_some_row, rows_told}
use Rattle.workload_spec.specs.Valid.{is_export}
use Rattle.workload_spec.specs.declared.reply.Said.{Said}
use Rattle.workload_spec.specs.declared.reply.Said.TheVariants as said

-- the rows of each read that told one, in the order of the reads
abbrev pub groups_told : List Occurrence → List (List Row)
groups_told made = filter is_some_row (map rows_told (replies_in made))

-- the messages of a stream, without the word that ends it
abbrev pub messages_of : List Column → List (List Row) → List ℕ
messages_of columns groups = schema_message columns ++ flat_map (batch_message columns) groups

-- other bytes begin with these
abbrev pub IsFrontIn : List ℕ → List ℕ → Type 0
IsFrontIn whole bytes = (rest : List ℕ) × (bytes ++ rest ≡ whole)

-- so many blocks were read, and no read was refused memory
abbrev pub AreAllRead : ℕ → List Occurrence → Type 0
AreAllRead blocks made = (length made ≡ blocks) × (list_any is_refused made ≡ false)

-- An export that breaks off sends a front of the messages of what it read, and begins the last word
-- only where it has read all blocks.
abbrev pub BreaksOff : List Column → ℕ → List Occurrence → List ℕ → Type 0
BreaksOff columns blocks made bytes =
    IsFrontIn (messages_of columns (groups_told made)) bytes
    ⊎ (AreAllRead blocks made × IsFrontIn (stream_of columns (groups_told made)) bytes)

-- What an export sends that tells this line: the canonical stream of its reads' rows, a batch for
-- each read that told a row; where memory was wanting, or the outlet failed, which counts as the
-- same, a front of it; nothing with any other line.
abbrev pub SendsAs : List Column → ℕ → List Occurrence → Said → List ℕ → Type 0
SendsAs columns blocks made (said.Exported number rows batches frozen) bytes =
    bytes ≡ stream_of columns (groups_told made)
SendsAs columns blocks made said.Memory bytes = BreaksOff columns blocks made bytes
SendsAs columns blocks made (said.At n) bytes = bytes ≡ []
SendsAs columns blocks made said.InTransaction bytes = bytes ≡ []
SendsAs columns blocks made said.NoTransaction bytes = bytes ≡ []
SendsAs columns blocks made (said.Found row) bytes = bytes ≡ []
SendsAs columns blocks made said.Absent bytes = bytes ≡ []
SendsAs columns blocks made (said.Scanned rows) bytes = bytes ≡ []
SendsAs columns blocks made (said.Totalled count sum) bytes = bytes ≡ []
SendsAs columns blocks made said.Accepted bytes = bytes ≡ []
SendsAs columns blocks made (said.ConflictSession session) bytes = bytes ≡ []
SendsAs columns blocks made (said.ConflictCommit n) bytes = bytes ≡ []
SendsAs columns blocks made said.Exists bytes = bytes ≡ []
SendsAs columns blocks made said.Missing bytes = bytes ≡ []
SendsAs columns blocks made (said.Freezing table block stamp) bytes = bytes ≡ []
SendsAs columns blocks made said.Full bytes = bytes ≡ []
SendsAs columns blocks made (said.Committed n) bytes = bytes ≡ []
SendsAs columns blocks made (said.Stale read n) bytes = bytes ≡ []
SendsAs columns blocks made said.Aborted bytes = bytes ≡ []
SendsAs columns blocks made (said.Cooling count) bytes = bytes ≡ []
SendsAs columns blocks made (said.Pruned count) bytes = bytes ≡ []
SendsAs columns blocks made (said.Moved count) bytes = bytes ≡ []
SendsAs columns blocks made (said.Sealed table block stamp) bytes = bytes ≡ []
SendsAs columns blocks made (said.NotSealed cause) bytes = bytes ≡ []
SendsAs columns blocks made (said.Frozen table block rows) bytes = bytes ≡ []
SendsAs columns blocks made said.NotFrozen bytes = bytes ≡ []
SendsAs columns blocks made (said.Dirty key) bytes = bytes ≡ []

-- What a call of an export sends; of another command's nothing is said.
abbrev pub SendsBy : List TableDecl → Call → List ℕ → Type 0
SendsBy tables call bytes = IfSome
    (exported_table call.command)
    (λ table. IfSome
    call.told
    (λ told. SendsAs (columns_at tables table) (blocks_at tables table) call.made told bytes))

-- What one call sent: an export what its line says, any other call nothing.
pub record CallSends (tables : List TableDecl) (call : Call) (bytes : List ℕ) : Type 0 where
  pub by_line : SendsBy tables call bytes
  pub quiet : is_export call.command ≡ false → bytes ≡ []

-- What calls sent, one behind the other.
abbrev pub CallsSend : List TableDecl → List Call → List ℕ → Type 0
CallsSend tables [] bytes = bytes ≡ []
CallsSend tables (call ∷ calls) bytes =
    (first : List ℕ)
    × (rest : List ℕ)
    × (bytes ≡ first ++ rest)
    × CallSends tables call first
    × CallsSend tables calls rest

-- all calls of some rounds, in the order of the lines
abbrev pub calls_in : List RoundRun → List Call
calls_in rounds = flat_map (λ round. flat_map (λ share. share.calls) round.shares) rounds

-- The bytes are what the export of these rounds sent, if they have one, and else none.
pub record WereSent (tables : List TableDecl) (rounds : List RoundRun) (bytes : List ℕ)
    : Type 0 where
  pub by_calls : All (λ call. SendsBy tables call bytes) (calls_in rounds)
  pub quiet : list_any (λ call. is_export call.command) (calls_in rounds) ≡ false → bytes ≡ []
