-- The accepted writes of each transaction, by the place where it is opened.
use Rattle.std.specs.Prelude.{◌≡◌, ℕ, ◌+◌, ◌==◌, Bool, false, List, [], ◌∷◌, ◌++◌, map, take}
use Rattle.std.specs.Prelude.{Option, if◌then◌else◌}
use Rattle.std.specs.Option.{option_map_or}
use Rattle.std.specs.Ordering.{nat_cmp}
use Rattle.cell_model.specs.declared.cell.Cell.{Cell}
use Rattle.isolation_spec.specs.declared.place.Place.{Place}
use Rattle.mark_index.specs.Lists.{marks_at}
use Rattle.outcome_spec.specs.Entries.{Entry}
use Rattle.outcome_spec.specs.Runs.{accepted_write}
use Rattle.outcome_judge.specs.Timed.{TimedWrite, timed_one}
use Rattle.outcome_judge.specs.HistoryKept.{place_in, row_left}
use Rattle.outcome_judge.specs.declared.changes.Change.{Change}
use Rattle.outcome_judge.specs.declared.changes.Changes.{Changes}

-- the write that a change is
abbrev pub written_by : Change → TimedWrite
written_by change = record {
  time = change.left.time;
  place = place_in change.of;
  row = row_left change.left;
}

-- a reply's transaction is opened at the place
abbrev pub is_opened : ℕ → Option ℕ → Bool
is_opened owner opening = option_map_or (λ at. at == owner) opening false

-- changes with one more behind them, if it is one of the transaction that is opened at the place
abbrev pub with_change : ℕ → Option ℕ → Option Change → List Change → List Change
with_change owner opening change changes = if is_opened owner opening
    then option_map_or (λ its. changes ++ its ∷ []) change changes else changes

-- the writes of a transaction among replies from a place on: those that it accepts of its replies
abbrev pub own_one : ℕ → ℕ → Option ℕ → Entry → List TimedWrite
own_one owner place opening entry = if is_opened owner opening
    then option_map_or (λ change. timed_one (place + 1) change ∷ []) (accepted_write entry) []
    else []

abbrev pub own_writes : ℕ → ℕ → List (Option ℕ) → List Entry → List TimedWrite
own_writes owner place [] entries = []
own_writes owner place (opening ∷ openings) [] = []
own_writes owner place (opening ∷ openings) (entry ∷ entries) = own_one owner place opening entry
    ++ own_writes owner (place + 1) openings entries

-- The changes are those of the first so many replies.
abbrev pub AreChanges : List (Option ℕ) → List Entry → ℕ → Changes → Type 0
AreChanges openings entries taken changes = (owner : ℕ)
    → map written_by (marks_at nat_cmp changes.own owner)
    ≡ own_writes owner 0 (take taken openings) (take taken entries)

-- what writes change, whenever they are made
abbrev pub changes_of : List TimedWrite → List (Place × Option (List Cell))
changes_of writes = map (λ write. (write.place, write.row)) writes
