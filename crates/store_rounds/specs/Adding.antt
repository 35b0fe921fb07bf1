-- How the commits of a round are added to the log of a run.
use Rattle.std.specs.Prelude.{◌≡◌, ◌≢◌, ℕ, ◌<◌, ◌≤◌, ◌^◌, false, List, [], ◌++◌, length, take}
use Rattle.std.specs.Prelude.{Option, None, Some, Result, Ok, Err}
use Rattle.cell_model.specs.declared.table.TableDecl.{TableDecl}
use Rattle.commit_log.specs.Commits.{GivesOneOf, StandsOf}
use Rattle.commit_log.specs.declared.log.Log.{Log}
use Rattle.disk_ports.specs.Crashes.{LeavesOnly}
use Rattle.isolation_spec.specs.Commits.{AreCommitsOf}
use Rattle.isolation_spec.specs.Contents.{History}
use Rattle.log_spec.specs.LogText.{payload_text}
use Rattle.shared_store.specs.declared.session.Session.{Session}
use Rattle.store_rounds.specs.Grouped.{AreByNumber, TookGroup, kept_in}
use Rattle.store_rounds.specs.declared.fault.RunFault.{RunFault}
use Rattle.store_rounds.specs.declared.fault.RunFault.TheVariants as fault

-- the log takes no more than a record has of its commits
abbrev pub IsShort : History → Type 0
IsShort group = length (payload_text group) < 2 ^ 32

-- A log of these tables may be given the group.
pub record MayBeAdded (tables : List TableDecl) (group : History) : Type 0 where
  pub few : length tables ≤ 2 ^ 8
  pub each : AreCommitsOf tables group

module _
    {D : Type 0} (told : D → Option (List ℕ)) (moment : D → ℕ)
    (left_since : D → ℕ → List ℕ → Type 0) (may_leave : D → List ℕ → Type 0)
  where
    -- Where the log stood on the disk, a crash at any moment leaves it with the group or without.
    abbrev pub LeavesWithOrWithout : History → Log → D → D → Type 0
    LeavesWithOrWithout group log old new = (tables : List TableDecl) (before : History)
        → StandsOf tables (told old) (may_leave old) before log
        → MayBeAdded tables group
        → LeavesOnly moment left_since old new (GivesOneOf tables before group)

    -- The group was added to the log, which works on.
    pub record Added (group : History) (log later : Log) (old new : D) : Type 0 where
      pub works : later.payloads.failed ≡ false
      pub any_moment : LeavesWithOrWithout group log old new
      pub stands : (tables : List TableDecl) (before : History)
          → StandsOf tables (told old) (may_leave old) before log
          → MayBeAdded tables group
          → StandsOf tables (told new) (may_leave new) (before ++ group) later

    -- The disk failed at the adding of the group, which has a commit.
    pub record FailedGroup (group : History) (log : Log) (old new : D) : Type 0 where
      pub some : group ≢ []
      pub any_moment : LeavesWithOrWithout group log old new

    -- How the adding of a group ends.
    abbrev pub AddsGroup : {T : Type 0} → History → Log → Log → D → D → Result T RunFault → Type 0
    AddsGroup group log later old new (Ok done) = Added group log later old new
    AddsGroup group log later old new (Err fault.Out) = ⊥
    AddsGroup group log later old new (Err fault.Export) = ⊥
    AddsGroup group log later old new (Err fault.Memory) = new ≡ old
    AddsGroup group log later old new (Err fault.Log) = FailedGroup group log old new
    AddsGroup group log later old new (Err fault.GroupTooLong) = ⊥

    -- ---- the end of a round

    -- The commits that the first so many of a row kept were taken, and added to the log.
    pub record AddedTaken
        (sessions : ℕ) (row now : List Session) (log : Log) (later : Option Log) (old new : D)
        : Type 0 where
      pub group : History
      pub took : TookGroup sessions row now group
      pub short : IsShort group
      pub its : Log
      pub is : later ≡ Some its
      pub added : Added group log its old new

    -- The disk failed at the adding of these commits.
    pub record FailedToAdd
        (sessions : ℕ) (row : List Session) (log : Log) (old new : D)
        : Type 0 where
      pub group : History
      pub sets : AreByNumber (kept_in (take sessions row)) group
      pub short : IsShort group
      pub failed : FailedGroup group log old new

    -- These commits are too long for a record, and nothing was done.
    pub record TookTooMany (sessions : ℕ) (row : List Session) (old new : D) : Type 0 where
      pub same : new ≡ old
      pub group : History
      pub sets : AreByNumber (kept_in (take sessions row)) group
      pub long : 2 ^ 32 ≤ length (payload_text group)

    -- Nothing was done where there is no log.
    pub record LeftAlone
        (row now : List Session) (later : Option Log) (old new : D)
        : Type 0 where
      pub disk : new ≡ old
      pub row_is : now ≡ row
      pub none : later ≡ None

    -- How a round ends, of whose row so many are sessions.
    abbrev pub EndsRound : {T : Type 0} → ℕ → List Session → List Session → Option Log
        → Option Log → D → D → Result T RunFault → Type 0
    EndsRound sessions row now None later old new (Ok text) = LeftAlone row now later old new
    EndsRound sessions row now None later old new (Err fault.Out) = ⊥
    EndsRound sessions row now None later old new (Err fault.Export) = ⊥
    EndsRound sessions row now None later old new (Err fault.Memory) = new ≡ old
    EndsRound sessions row now None later old new (Err fault.Log) = ⊥
    EndsRound sessions row now None later old new (Err fault.GroupTooLong) = ⊥
    EndsRound sessions row now (Some log) later old new (Ok text) =
        AddedTaken sessions row now log later old new
    EndsRound sessions row now (Some log) later old new (Err fault.Out) = ⊥
    EndsRound sessions row now (Some log) later old new (Err fault.Export) = ⊥
    EndsRound sessions row now (Some log) later old new (Err fault.Memory) = new ≡ old
    EndsRound sessions row now (Some log) later old new (Err fault.Log) =
        FailedToAdd sessions row log old new
    EndsRound sessions row now (Some log) later old new (Err fault.GroupTooLong) =
        TookTooMany sessions row old new
