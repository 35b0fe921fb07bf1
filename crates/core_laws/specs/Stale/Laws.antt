-- What the core finds of a transaction's reads is the machine's.
use Rattle.std.specs.Prelude.{◌≡◌, ⊤, ℕ, ◌<◌, ℤ, true, List, All, unwrap_or}
use Rattle.cell_model.specs.Values.{is_between}
use Rattle.core_laws.specs.Following.Owned.{HasOpen}
use Rattle.core_laws.specs.Following.Steps.{SlotMap, CandidateMap}
use Rattle.event_spec.specs.Newest.{newest_of}
use Rattle.isolation_spec.specs.declared.read.Read.{Read}
use Rattle.isolation_spec.specs.Reads.{last_meeting, first_stale}
use Rattle.isolation_spec.specs.declared.read.Read.TheVariants as read
use Rattle.event_spec.specs.Follows.{Follows}
use Rattle.event_spec.specs.Lawful.{Among}
use Rattle.isolation_spec.specs.Machine.{IsolationMachine}
use Rattle.txn_desk.specs.declared.Snapshot.{Snapshot}
use Rattle.txn_desk.specs.Desk.{DeskState}

-- The keys of an index in a range: each is within it, and each key within it that has a place is
-- one.
pub record ListsKeys (places : CandidateMap) (keys : ℕ → ℤ → ℤ → List ℤ) : Type 0 where
  pub within : (table : ℕ) (low high key : ℤ) → Among key (keys table low high)
      → is_between low high key ≡ true
  pub all : (table : ℕ) (low high key : ℤ) (place : ℕ) → Among place (places table key)
      → is_between low high key ≡ true → Among key (keys table low high)

-- The number of each of 16 tables is that of the last commit that wrote it, 0 where none did.
abbrev pub WroteLast : (ℕ → ℕ) → IsolationMachine → Type 0
WroteLast wrote machine = (table : ℕ) → table < 16
    → wrote table ≡ unwrap_or (last_meeting machine.history 0 (read.Table table)) 0

-- A table that is read as a whole is one of the 16.
abbrev pub IsKnown : Read → Type 0
IsKnown (read.Key table key) = ⊤
IsKnown (read.Table table) = table < 16
IsKnown (read.Range table low high) = ⊤

-- Of each read of a session's open transaction the core finds the machine's last commit.
abbrev pub FindsTheLastCommit : Type 0
FindsTheLastCommit = (slot : SlotMap) (places : CandidateMap) (desk : DeskState)
    (machine : IsolationMachine) (keys : ℕ → ℤ → ℤ → List ℤ) (wrote : ℕ → ℕ) (session : ℕ)
    (snapshot : Snapshot) (what : Read)
    → Follows slot places desk machine → HasOpen desk session snapshot
    → ListsKeys places keys → WroteLast wrote machine → IsKnown what
    → newest_of slot places keys wrote snapshot what
    ≡ last_meeting machine.history snapshot.number what

-- Of its reads, in their order, it finds the one that the machine finds, with the same commit.
abbrev pub FindsTheFirstStale : Type 0
FindsTheFirstStale = (slot : SlotMap) (places : CandidateMap) (desk : DeskState)
    (machine : IsolationMachine) (keys : ℕ → ℤ → ℤ → List ℤ) (wrote : ℕ → ℕ) (session : ℕ)
    (snapshot : Snapshot) (reads : List Read)
    → Follows slot places desk machine → HasOpen desk session snapshot
    → ListsKeys places keys → WroteLast wrote machine → All IsKnown reads
    → first_stale (newest_of slot places keys wrote snapshot) reads
    ≡ first_stale (last_meeting machine.history snapshot.number) reads
