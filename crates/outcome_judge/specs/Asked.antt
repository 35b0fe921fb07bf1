-- The commands that are asked, and the bounds of totals.
use Rattle.std.specs.Prelude.{Bool, true, ◌&&◌, List}
use Rattle.std.specs.List.{list_all}
use Rattle.workload_spec.specs.declared.command.Command.{Command}
use Rattle.workload_spec.specs.declared.command.Command.TheVariants as command
use Rattle.outcome_spec.specs.Entries.{Entry}
use Rattle.si_machine.specs.Kept.{is_number}

-- the bounds of a total are numbers as columns have them
abbrev pub is_bounded : Command → Bool
is_bounded (command.Total table column low high) = is_number low && is_number high
is_bounded (command.Begin checked) = true
is_bounded (command.Get table key) = true
is_bounded (command.Scan table) = true
is_bounded (command.Range table low high) = true
is_bounded (command.Insert table row) = true
is_bounded (command.Update table row) = true
is_bounded (command.Delete table key) = true
is_bounded command.Commit = true
is_bounded command.Abort = true
is_bounded command.Observe = true
is_bounded command.Prune = true
is_bounded (command.Compact table) = true
is_bounded (command.Seal table block) = true
is_bounded (command.Gather table block) = true
is_bounded (command.Export table) = true

-- those of each of the commands that are replied to are
abbrev pub are_bounded : List Entry → Bool
are_bounded entries = list_all (λ entry. is_bounded entry.command) entries
