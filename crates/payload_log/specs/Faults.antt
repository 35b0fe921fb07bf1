-- When a log meets a failed call of its disk.
use Rattle.std.specs.Prelude.{◌≡◌, ℕ, Result, Ok, Err}
use Rattle.disk_ports.specs.Faults.{Rose}
use Rattle.payload_log.specs.declared.fault.LogFault.{LogFault}
use Rattle.payload_log.specs.declared.fault.LogFault.TheVariants.{NotALog, Disk, Failed, Memory}

-- the disk's count of faults rose where a call of it failed, and else is as before
abbrev pub CountsDisk : {T : Type 0} → ℕ → ℕ → Result T LogFault → Type 0
CountsDisk before now (Ok done) = now ≡ before
CountsDisk before now (Err (NotALog place)) = now ≡ before
CountsDisk before now (Err Disk) = Rose before now
CountsDisk before now (Err Failed) = now ≡ before
CountsDisk before now (Err Memory) = now ≡ before
