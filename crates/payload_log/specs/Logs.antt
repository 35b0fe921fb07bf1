-- Logs of payloads on a disk.
use Rattle.std.specs.Prelude.{◌≡◌, ◌⊎◌, ℕ, List, [], ◌∷◌, ◌++◌, Option, Some, false}
use Rattle.disk_ports.specs.Crashes.{LeavesJust}
use Rattle.log_spec.specs.LogText.{IsLogAt}
use Rattle.payload_log.specs.declared.log.PayloadLog.{PayloadLog}

-- the bytes are the log of these payloads
abbrev pub IsLog : List (List ℕ) → List ℕ → Type 0
IsLog payloads bytes = (gate : ℕ) × IsLogAt payloads gate bytes

-- the log has these payloads, with one more or without
abbrev pub IsBeforeOrAfter : List (List ℕ) → List ℕ → List ℕ → Type 0
IsBeforeOrAfter payloads payload bytes =
    IsLog payloads bytes ⊎ IsLog (payloads ++ payload ∷ []) bytes

-- The disk's file is told, it is the log of these payloads with its closed gate at this place, and
-- a crash leaves just this file.
pub record Stands
    (told : Option (List ℕ)) (may_leave : List ℕ → Type 0) (payloads : List (List ℕ)) (gate : ℕ)
    : Type 0 where
  pub bytes : List ℕ
  pub told_is : told ≡ Some bytes
  pub log : IsLogAt payloads gate bytes
  pub only : LeavesJust may_leave bytes

-- The log stands on the disk with these payloads, and no append of it met a failed call.
pub record StandsBy
    (told : Option (List ℕ)) (may_leave : List ℕ → Type 0) (payloads : List (List ℕ))
    (log : PayloadLog) : Type 0
  where
    pub works : log.failed ≡ false
    pub stands : Stands told may_leave payloads log.gate
