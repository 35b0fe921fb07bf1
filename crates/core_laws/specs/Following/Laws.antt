-- What is found and met of a key, and what each change keeps, by the snapshot-isolation machine.
use Rattle.std.specs.Prelude.{◌≡◌, ℕ, ◌+◌, ◌<◌, ◌≤◌, ℤ, false, [], ◌∷◌, Option, None, Some}
use Rattle.block_spec.specs.declared.change.Change.{Change}
use Rattle.block_spec.specs.Slots.{Row, row_after, committed, rolled_back}
use Rattle.event_spec.specs.Effects.{opened, closed, numbered, writes_table}
use Rattle.event_spec.specs.Follows.{Follows, IsLive}
use Rattle.event_spec.specs.Judged.{found_by, newer_by}
use Rattle.event_spec.specs.Lawful.{Among}
use Rattle.core_laws.specs.Following.Owned.{HasOpen, OwnSlot, own_key}
use Rattle.core_laws.specs.Following.Steps.{SlotMap, CandidateMap, IsAdded, IsSwept, MayWrite, IsWritten}
use Rattle.core_laws.specs.Following.Steps.{IsPruned, IsMoved}
use Rattle.isolation_spec.specs.declared.command.Act.{Act}
use Rattle.isolation_spec.specs.declared.command.Act.TheVariants as act
use Rattle.isolation_spec.specs.declared.command.Answer.{Answer}
use Rattle.isolation_spec.specs.declared.command.Answer.TheVariants as answer
use Rattle.isolation_spec.specs.declared.command.Command.{Command}
use Rattle.isolation_spec.specs.Contents.{PlaceMap, WriteSet, at_place, place_at}
use Rattle.isolation_spec.specs.declared.place.Place.{Place}
use Rattle.isolation_spec.specs.declared.read.Read.TheVariants as read
use Rattle.isolation_spec.specs.Machine.{IsolationMachine, Transaction, transaction_of, seen_rows}
use Rattle.isolation_spec.specs.Machine.{conflict_of, step, with_own}
use Rattle.isolation_spec.specs.Reads.{meets}
use Rattle.txn_desk.specs.declared.Snapshot.{Snapshot}
use Rattle.txn_desk.specs.Desk.{DeskState}
use Rattle.txn_desk.specs.Oldest.{HasPass, snapshot_of}
use Rattle.undo_chain.specs.declared.chain.Newer.{Newer}
use Rattle.undo_chain.specs.declared.chain.Newer.TheVariants as newer

abbrev pub command_of : ℕ → Act → Command
command_of session what = record { session = session; act = what }

-- the machine after a session's act
abbrev pub machine_after : IsolationMachine → ℕ → Act → IsolationMachine
machine_after machine session what = (step machine (command_of session what)).1

-- what a write that meets this is answered
abbrev pub answer_of : Newer → Option Answer
answer_of newer.Nothing = None
answer_of (newer.Session writer) = Some (answer.ConflictSession writer)
answer_of (newer.Number number) = Some (answer.ConflictCommit number)

module _ (slot : SlotMap) (places : CandidateMap) (desk : DeskState) (machine : IsolationMachine) where
  -- What a session finds of a key is what its transaction of the machine sees, and what its write
  -- meets is the machine's conflict.
  pub record JudgesAsTheMachine (session : ℕ) (snapshot : Snapshot) (table : ℕ) (key : ℤ) (written : Option ℕ) : Type 0 where
    pub open' : Transaction
    pub is_open : transaction_of session machine ≡ Some open'
    pub found : found_by (slot table) (places table key) (own_key session snapshot written)
        ≡ at_place (seen_rows machine open') (place_at table key)
    pub conflict : answer_of (newer_by (slot table) (places table key)
        (own_key session snapshot written))
        ≡ conflict_of machine open' (place_at table key)

-- A session is told the machine's rows and conflicts.
abbrev pub Judges : Type 0
Judges = (slot : SlotMap) (places : CandidateMap) (desk : DeskState) (machine : IsolationMachine)
    (session : ℕ) (snapshot : Snapshot) (table : ℕ) (key : ℤ) (written : Option ℕ)
    → Follows slot places desk machine → HasOpen desk session snapshot
    → OwnSlot slot places session table key written
    → JudgesAsTheMachine slot places desk machine session snapshot table key written

-- A begin of a session that has none open follows the machine's.
abbrev pub BeginFollows : Type 0
BeginFollows = (slot : SlotMap) (places : CandidateMap) (desk : DeskState)
    (machine : IsolationMachine) (session : ℕ)
    → Follows slot places desk machine → HasPass desk session → snapshot_of desk session ≡ None
    → Follows slot places (opened session desk) (machine_after machine session (act.Begin false))

-- A write that the session may make enters the machine's own.
abbrev pub WriteFollows : Type 0
WriteFollows = (slot after : SlotMap) (places added : CandidateMap) (desk : DeskState)
    (machine : IsolationMachine)
    (session : ℕ) (snapshot : Snapshot) (table place : ℕ) (key : ℤ) (change : Change)
    → Follows slot places desk machine → HasOpen desk session snapshot
    → MayWrite slot places session table place key change
    → IsWritten slot after session table place change → IsAdded places added table place key
    → Follows after added desk (with_own session (place_at table key)
    (row_after (slot table place).row change) machine)

-- A commit with writes gives them the next stamp and number, and is the last that wrote their
-- tables.
abbrev pub CommitFollows : Type 0
CommitFollows = (slot : SlotMap) (places : CandidateMap) (desk : DeskState)
    (machine : IsolationMachine)
    (session : ℕ) (snapshot : Snapshot) (open' : Transaction) (first : Place × Option Row)
    (rest : WriteSet) (writes : PlaceMap ℕ)
    → Follows slot places desk machine → HasOpen desk session snapshot
    → transaction_of session machine ≡ Some open' → open'.own ≡ first ∷ rest
    → ((table : ℕ) → writes_table writes table ≡ meets (read.Table table) open'.own)
    → Follows
    (λ table place. committed session (desk.newest + 1) (desk.commits + 1) (slot table place))
    places
    (closed session (numbered writes desk))
    (machine_after machine session act.Commit)

-- A commit without writes closes the session.
abbrev pub EmptyCommitFollows : Type 0
EmptyCommitFollows = (slot : SlotMap) (places : CandidateMap) (desk : DeskState)
    (machine : IsolationMachine)
    (session : ℕ) (snapshot : Snapshot) (open' : Transaction)
    → Follows slot places desk machine → HasOpen desk session snapshot
    → transaction_of session machine ≡ Some open' → open'.own ≡ []
    → Follows slot places (closed session desk) (machine_after machine session act.Commit)

-- An abort lays back what the session wrote.
abbrev pub AbortFollows : Type 0
AbortFollows = (slot : SlotMap) (places swept : CandidateMap) (desk : DeskState)
    (machine : IsolationMachine)
    (session : ℕ) (snapshot : Snapshot)
    → Follows slot places desk machine → HasOpen desk session snapshot
    → IsSwept (λ table place. rolled_back session (slot table place)) places swept
    → Follows (λ table place. rolled_back session (slot table place)) swept (closed session desk)
    (machine_after machine session act.Abort)

-- A pruning by a stamp that no live snapshot is below changes nothing of the machine.
abbrev pub PruneFollows : Type 0
PruneFollows = (slot after : SlotMap) (places swept : CandidateMap) (desk : DeskState)
    (machine : IsolationMachine) (oldest : ℕ)
    → Follows slot places desk machine
    → ((stamp number : ℕ) → IsLive desk stamp number → oldest ≤ stamp)
    → IsPruned slot after oldest → IsSwept after places swept
    → Follows after swept desk machine

-- A row that moves with a stamp that is not below the newest, and later than each open snapshot,
-- changes nothing of the machine.
abbrev pub MoveFollows : Type 0
MoveFollows = (slot after : SlotMap) (places added : CandidateMap) (desk : DeskState)
    (machine : IsolationMachine)
    (stamp table source target : ℕ) (key : ℤ) (row : Row)
    → Follows slot places desk machine → desk.newest ≤ stamp
    → ((session : ℕ) (snapshot : Snapshot) → HasOpen desk session snapshot → snapshot.stamp < stamp)
    → Among source (places table key) → IsMoved slot after stamp table source target row
    → IsAdded places added table target key
    → Follows after added (record desk { newest = stamp }) machine
