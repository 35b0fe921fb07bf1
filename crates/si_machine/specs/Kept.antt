-- What the program keeps of the machine, and how that belongs together.
use Rattle.std.specs.Prelude.{◌≡◌, ℕ, ◌+◌, ◌-◌, ◌^◌, ◌<◌, ℤ, pos, negsuc, Bool, true, List, [], ◌∷◌}
use Rattle.std.specs.Prelude.{Result, Ok, Err, map, Option, if◌then◌else◌, is_some, slice_index_or}
use Rattle.std.specs.Prelude.{IsSomeAnd, vec_len}
use Rattle.std.specs.Prelude.{vec_capacity}
use Rattle.std.specs.BTreeMap.{BTreeMap}
use Rattle.std.specs.Option.{option_map_or}
use Rattle.std.specs.declared.cmp.Ordering.TheVariants.{Less}
use Rattle.cell_model.specs.declared.cell.Cell.{Cell}
use Rattle.cell_model.specs.declared.kind.Kind.TheVariants.{I64}
use Rattle.cell_model.specs.Values.{is_between, is_integer_of}
use Rattle.isolation_spec.specs.Contents.{place_cmp, at_place, PlaceMap, History, key_of}
use Rattle.isolation_spec.specs.Machine.{IsolationMachine, Transaction, writes_place}
use Rattle.isolation_spec.specs.declared.command.Act.{Act}
use Rattle.isolation_spec.specs.declared.command.Act.TheVariants as act
use Rattle.isolation_spec.specs.declared.command.Answer.{Answer}
use Rattle.isolation_spec.specs.declared.place.Place.{Place}
use Rattle.timeline_laws.proofs.Machine.{Apart}
use Rattle.si_machine.specs.declared.writers.Writers.{Writers}
use Rattle.si_machine.specs.declared.ledger.OpenTransaction.{OpenTransaction}
use Rattle.si_machine.specs.declared.ledger.Ledger.{Ledger}

-- a key is a signed number of 64 bits
abbrev pub is_key : Place → Bool
is_key place = is_integer_of I64 place.key

-- the number is one of the kinds', which have at most 64 bits
abbrev pub is_number : ℤ → Bool
is_number = is_between (negsuc (2 ^ 63 - 1)) (pos (2 ^ 64 - 1))

-- the row that an act would write has such a key, and a total is asked of such numbers
abbrev pub HasKey : Act → Type 0
HasKey (act.Insert table row) = is_integer_of I64 (key_of row) ≡ true
HasKey (act.Update table row) = is_integer_of I64 (key_of row) ≡ true
HasKey (act.Total table column low high) = (is_number low ≡ true) × (is_number high ≡ true)
HasKey (act.Begin checked) = Unit {0}
HasKey (act.Get table key) = Unit {0}
HasKey (act.Scan table) = Unit {0}
HasKey (act.Range table low high) = Unit {0}
HasKey (act.Delete table key) = Unit {0}
HasKey act.Commit = Unit {0}
HasKey act.Abort = Unit {0}

-- the numbers of the write sets that have the place, where the first set has number `at`
abbrev pub numbers_from : Place → ℕ → History → List ℕ
numbers_from place at [] = []
numbers_from place at (writes ∷ later) =
    if writes_place place writes then at ∷ numbers_from place (at + 1) later
    else numbers_from place (at + 1) later

-- the numbers of the commits that wrote the place
abbrev pub numbers_at : Writers → Place → List ℕ
numbers_at writers place = option_map_or (λ numbers. numbers.items)
    (at_place writers.places.entries place) []

-- the place is one of those that were written
abbrev pub has_place : Writers → Place → Bool
has_place writers place = is_some (at_place writers.places.entries place)

-- there is room for a number more at the place
abbrev pub HasRoom : Writers → Place → Type 0
HasRoom writers place = IsSomeAnd (at_place writers.places.entries place)
    (λ numbers. vec_len numbers < vec_capacity numbers)

-- the open transaction that is kept
abbrev pub transaction_in : OpenTransaction → Transaction
transaction_in t = record { session = t.session; snapshot = t.snapshot; own = t.own.entries }

-- what commits wrote
abbrev pub history_in : List (BTreeMap Place (Option (List Cell))) → History
history_in commits = map (λ writes. writes.entries) commits

-- the machine that is kept
abbrev pub machine_in : Ledger → IsolationMachine
machine_in ledger = record {
  history = history_in ledger.commits.items;
  open_transactions = map transaction_in ledger.transactions.items;
}

-- the place is below those of the entries
abbrev pub Below : {X : Type 0} → Place → PlaceMap X → Type 0
Below place [] = Unit {0}
Below place (entry ∷ entries) = (place_cmp place entry.0 ≡ Less) × Below place entries

-- the places of the entries rise
abbrev pub Rises : {X : Type 0} → PlaceMap X → Type 0
Rises [] = Unit {0}
Rises (entry ∷ entries) = Below entry.0 entries × Rises entries

abbrev pub AllRise : History → Type 0
AllRise [] = Unit {0}
AllRise (writes ∷ history) = Rises writes × AllRise history

-- the places of each open transaction's own rise, and each is one of those that were written
abbrev pub AreOpen : Writers → List Transaction → Type 0
AreOpen writers [] = Unit {0}
AreOpen writers (t ∷ ts) = Rises t.own
    × ((place : Place) → writes_place place t.own ≡ true → has_place writers place ≡ true)
    × AreOpen writers ts

-- How the parts belong together: each place has the numbers of the commits that wrote it, and what
-- is open has places that are there; keys are numbers of 64 bits; no session has two transactions;
-- places rise.
pub record Belongs (machine : IsolationMachine) (writers : Writers) : Type 0 where
  pub numbers : (place : Place) → numbers_at writers place ≡ numbers_from place 1 machine.history
  pub keys : (place : Place) → has_place writers place ≡ true → is_key place ≡ true
  pub apart : Apart machine.open_transactions
  pub rise : AllRise machine.history
  pub opened : AreOpen writers machine.open_transactions

abbrev pub IsKept : Ledger → Type 0
IsKept ledger = Belongs (machine_in ledger) ledger.writers

-- the open transaction at a place among those that are kept
abbrev pub open_at : Ledger → ℕ → OpenTransaction → Transaction
open_at ledger at none = transaction_in (slice_index_or ledger.transactions.items at none)

-- A step of the session with an open transaction: what the machine answers and becomes; where
-- memory is refused, the machine is as it was.
abbrev pub Answers : {E : Type 0} → (IsolationMachine → Transaction → Answer × IsolationMachine)
    → Ledger → ℕ → Result Answer E → Ledger → Type 0
Answers step before at (Ok said) now = (none : OpenTransaction)
    → step (machine_in before) (open_at before at none) ≡ (said, machine_in now)
Answers step before at (Err refused) now = machine_in now ≡ machine_in before
