-- What the writes of a script leave, when each of them is carried out in the order of its lines.
use Rattle.std.specs.Prelude.{List, [], fold}
use Rattle.std.specs.Option.{option_map_or}
use Rattle.isolation_spec.specs.Contents.{State, with_write}
use Rattle.workload_spec.specs.declared.script.Line.{Line}
use Rattle.workload_spec.specs.declared.script.Script.{Script}
use Rattle.outcome_spec.specs.Runs.{write_of}

-- the rows behind a line: its write is carried out, where it has one
abbrev pub carried_out : State → Line → State
carried_out rows line = option_map_or (λ write. with_write rows write.0 write.1)
    (write_of line.command) rows

-- the rows behind the lines of a round
abbrev pub round_carried_out : State → List Line → State
round_carried_out rows lines = fold carried_out rows lines

-- The rows that the writes of a script leave.
abbrev pub left_by : Script → State
left_by script = fold round_carried_out [] script.rounds
