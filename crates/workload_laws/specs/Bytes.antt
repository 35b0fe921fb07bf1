-- Whose cells of bytes are bytes.
use Rattle.std.specs.Prelude.{Bool, true, nat_lt, List, []}
use Rattle.std.specs.List.{list_all}
use Rattle.cell_model.specs.declared.cell.Cell.{Cell}
use Rattle.cell_model.specs.declared.cell.Cell.TheVariants.{Null, Num, Truth, Text, Blob}
use Rattle.workload_spec.specs.declared.command.Command.{Command}
use Rattle.workload_spec.specs.declared.command.Command.TheVariants as command
use Rattle.workload_spec.specs.declared.script.Script.{Script}
use Rattle.workload_spec.specs.Valid.{all_lines}

-- the numbers of a cell of bytes are below 256
abbrev pub has_only_bytes : Cell → Bool
has_only_bytes Null = true
has_only_bytes (Num number) = true
has_only_bytes (Truth truth) = true
has_only_bytes (Text text) = true
has_only_bytes (Blob bytes) = list_all (λ byte. nat_lt byte 256) bytes

-- the row that a command writes
abbrev pub written_row : Command → List Cell
written_row (command.Insert table row) = row
written_row (command.Update table row) = row
written_row (command.Begin checked) = []
written_row (command.Get table key) = []
written_row (command.Scan table) = []
written_row (command.Range table low high) = []
written_row (command.Total table column low high) = []
written_row (command.Delete table key) = []
written_row command.Commit = []
written_row command.Abort = []
written_row command.Observe = []
written_row command.Prune = []
written_row (command.Compact table) = []
written_row (command.Seal table block) = []
written_row (command.Gather table block) = []
written_row (command.Export table) = []

-- each cell of bytes that the script writes has bytes
abbrev pub writes_only_bytes : Script → Bool
writes_only_bytes script = list_all (λ line. list_all has_only_bytes (written_row line.command))
    (all_lines script)
