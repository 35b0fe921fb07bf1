-- Logs of commits on a disk.
use Rattle.std.specs.Prelude.{◌≡◌, ◌⊎◌, ℕ, List, ◌++◌, Option, Some, false}
use Rattle.cell_model.specs.declared.table.TableDecl.{TableDecl}
use Rattle.disk_ports.specs.Crashes.{LeavesJust}
use Rattle.isolation_spec.specs.Contents.{History}
use Rattle.log_spec.specs.Reading.{Gives, IsLogOf}
use Rattle.commit_log.specs.declared.log.Log.{Log}

-- The log stands on the disk with these commits, a crash leaves just that, and no append of it met
-- a failed call.
pub record StandsOf
    (tables : List TableDecl) (told : Option (List ℕ)) (may_leave : List ℕ → Type 0)
    (commits : History) (log : Log)
    : Type 0 where
  pub works : log.payloads.failed ≡ false
  pub bytes : List ℕ
  pub told_is : told ≡ Some bytes
  pub is_log : IsLogOf tables commits log.payloads.gate bytes
  pub only : LeavesJust may_leave bytes

-- an opening gives the commits, with some more or without
abbrev pub GivesOneOf : List TableDecl → History → History → List ℕ → Type 0
GivesOneOf tables commits more bytes =
    Gives tables bytes commits ⊎ Gives tables bytes (commits ++ more)
