-- The numbers with which the program ends.
use Rattle.std.specs.Prelude.{ℕ}
use Rattle.program.specs.declared.status.Status.{Status}
use Rattle.program.specs.declared.status.Status.TheVariants as status

-- the number of a status
abbrev pub status_code : Status → ℕ
status_code status.Done = 0
status_code status.Usage = 1
status_code status.Refused = 2
status_code status.ReadFault = 3
status_code status.OutFault = 4
status_code status.ExportFault = 5
status_code status.Memory = 6
status_code status.NotAStream = 7
status_code status.TooLong = 8
status_code status.LogFault = 9
status_code status.NotALog = 10
status_code status.LogFull = 11
status_code status.GroupTooLong = 12
