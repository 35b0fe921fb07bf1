-- What a disk over a file holds.
use Rattle.std.specs.Prelude.{◌≡◌, ℕ, Bool, false, Option, IsSome}
use Rattle.byte_ports.specs.Calls.{faults_after}

-- the file, if the disk was started; whether a sync failed, from which on each call fails; and how
-- many calls have failed
pub record Mounted (X : Type 0) : Type 0 where
  pub file : Option X
  pub stopped : Bool
  pub faults : ℕ

-- there is a file, and no sync of it failed
pub record IsRunning {X : Type 0} (disk : Mounted X) : Type 0 where
  pub some : IsSome disk.file
  pub on : disk.stopped ≡ false

-- the disk after a call that leaves its file, and is counted where it failed
abbrev pub after : {X : Type 0} → Mounted X → Bool → Mounted X
after disk failed = record disk { faults = faults_after disk.faults failed }
