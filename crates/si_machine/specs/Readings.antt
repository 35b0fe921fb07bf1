-- What the program keeps of the reads of the open checked transactions.
use Rattle.std.specs.Prelude.{◌≡◌, ℕ, true, false, ◌==◌, List, [], ◌∷◌, map, find, Option, None}
use Rattle.std.specs.Prelude.{is_some}
use Rattle.isolation_spec.specs.Checked.{CheckedMachine, Reading}
use Rattle.isolation_spec.specs.Machine.{IsolationMachine, transaction_of}
use Rattle.isolation_spec.specs.declared.command.Act.{Act}
use Rattle.isolation_spec.specs.declared.command.Act.TheVariants as act
use Rattle.si_machine.specs.declared.ledger.Ledger.{Ledger}
use Rattle.si_machine.specs.declared.reads.Reading.{Reading as KeptReading}
use Rattle.si_machine.specs.Kept.{machine_in}

-- the act opens no checked transaction, reads nothing and ends none
abbrev pub IsPlain : Act → Type 0
IsPlain (act.Begin checked) = checked ≡ false
IsPlain (act.Insert table row) = Unit {0}
IsPlain (act.Update table row) = Unit {0}
IsPlain (act.Delete table key) = Unit {0}
IsPlain (act.Get table key) = ⊥
IsPlain (act.Scan table) = ⊥
IsPlain (act.Range table low high) = ⊥
IsPlain (act.Total table column low high) = ⊥
IsPlain act.Commit = ⊥
IsPlain act.Abort = ⊥

-- what is kept of a reading
abbrev pub reading_in : KeptReading → Reading
reading_in r = record { session = r.session; reads = r.reads }

-- the machine that is kept, with what was read
abbrev pub checked_in : Ledger → List KeptReading → CheckedMachine
checked_in ledger readings = record {
  machine = machine_in ledger;
  readings = map reading_in readings;
}

-- the reading of a session
abbrev pub at_reading : ℕ → List Reading → Option Reading
at_reading session readings = find (λ r. r.session == session) readings

-- no two of the readings are one session's
abbrev pub AreApart : List Reading → Type 0
AreApart [] = Unit {0}
AreApart (r ∷ rs) = (at_reading r.session rs ≡ None) × AreApart rs

-- How readings belong to a machine: they are of different sessions, each of which has a transaction
-- open.
pub record AreRead (machine : IsolationMachine) (readings : List Reading) : Type 0 where
  pub apart : AreApart readings
  pub opened : (session : ℕ) → is_some (at_reading session readings) ≡ true
      → is_some (transaction_of session machine) ≡ true

abbrev pub AreKept : Ledger → List KeptReading → Type 0
AreKept ledger readings = AreRead (machine_in ledger) (map reading_in readings)
