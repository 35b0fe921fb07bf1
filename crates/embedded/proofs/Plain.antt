-- A plain transaction keeps no reads, call by call.
use Rattle.std.proofs.Common.{◌≡◌, ℕ, ℤ, List, Option, None, Some, false, refl, ap, ◌∙◌}
use Rattle.std.specs.Prelude.{Result, Ok}
use Rattle.block_spec.specs.Slots.{Row}
use Rattle.isolation_spec.specs.Reads.{ReadSet}
use Rattle.run_spec.specs.Calls.{reads_behind}
use Rattle.run_spec.specs.Told.{row_told}
use Rattle.workload_spec.specs.declared.command.Command.TheVariants as command
use Rattle.workload_spec.specs.declared.reply.Said.TheVariants as said
use Rattle.shared_store.specs.Store.{reads_of}
use Rattle.shared_store.specs.Told.{begun_told}
use Rattle.shared_store.specs.declared.session.Session.{Session}

pub plain_begun : {E : Type 0} (old new : Session) (told : Result ℕ E) (number : ℕ) → told ≡ Ok number
    → reads_of new ≡ reads_behind (reads_of old) (command.Begin false) (begun_told told) → reads_of new ≡ None
plain_begun {E} old new told number is keeps = keeps ∙ ap (λ (r : Result ℕ E). reads_behind (reads_of old) (command.Begin false) (begun_told r)) is

pub plain_found : (old new : Session) (table : ℕ) (key : ℤ) (found : Option Row) → reads_of old ≡ None
    → reads_of new ≡ reads_behind (reads_of old) (command.Get table key) (row_told found) → reads_of new ≡ None
plain_found old new table key found none keeps = keeps ∙ ap (λ (r : Option ReadSet). reads_behind r (command.Get table key) (row_told found)) none ∙ go found
  where
    go : (found : Option Row) → reads_behind None (command.Get table key) (row_told found) ≡ None
    go None = refl
    go (Some row) = refl

pub plain_scanned : (old new : Session) (table : ℕ) (rows : List Row) → reads_of old ≡ None
    → reads_of new ≡ reads_behind (reads_of old) (command.Scan table) (said.Scanned rows) → reads_of new ≡ None
plain_scanned old new table rows none keeps = keeps ∙ ap (λ (r : Option ReadSet). reads_behind r (command.Scan table) (said.Scanned rows)) none
