-- The head of a workload, line by line.
use Rattle.std.specs.Prelude.{ℕ, ◌+◌, false, List, [], length, bytes_eq, codes, Result, Ok}
use Rattle.cell_model.specs.declared.table.TableDecl.{TableDecl}
use Rattle.workload_spec.specs.declared.extent.Extent.{Extent}
use Rattle.workload_spec.specs.declared.script.Cause.TheVariants as cause
use Rattle.workload_spec.specs.declared.script.Script.{Script}
use Rattle.workload_spec.specs.Reading.{words_of}
use Rattle.workload_spec.specs.Extents.{extent_of}
use Rattle.workload_spec.specs.Grammar.{◌>>=◌, or_cause, rule, Fault, on_line, next_line}
use Rattle.workload_spec.specs.Grammar.{is_table_line, tables_from, rounds_from, sessions_of}
use Rattle.workload_spec.specs.Grammar.{workers_of, version_of, script_behind}

-- the version that the first line names, and the lines behind it
abbrev pub version_in : List (List ℕ) → Result (ℕ × List (List ℕ)) Fault
version_in all = do
  store ← next_line 1 cause.Version all
  version ← on_line 1 (or_cause cause.Version (version_of store.0))
  Ok (version, store.1)

-- the tables, one at least, and the lines behind theirs
abbrev pub tables_in : Extent → List (List ℕ) → Result (List TableDecl × List (List ℕ)) Fault
tables_in extent all = do
  first ← next_line 2 cause.Table all
  begins ← on_line 2 (rule cause.Table (is_table_line first.0))
  tables_from extent 2 [] all

-- how many sessions there are, and the lines behind
abbrev pub sessions_in : Extent → ℕ → List (List ℕ) → Result (ℕ × List (List ℕ)) Fault
sessions_in extent at all = do
  line ← next_line at cause.Sessions all
  sessions ← on_line at (sessions_of extent (words_of line.0))
  Ok (sessions, line.1)

-- how many workers there are with how many turns, and the lines behind
abbrev pub workers_in : Extent → ℕ → List (List ℕ) → Result ((ℕ × ℕ) × List (List ℕ)) Fault
workers_in extent at all = do
  line ← next_line at cause.Workers all
  workers ← on_line at (workers_of extent (words_of line.0))
  Ok (workers, line.1)

-- the lines behind `go`
abbrev pub go_in : ℕ → List (List ℕ) → Result (List (List ℕ)) Fault
go_in at all = do
  line ← next_line at cause.Go all
  goes ← on_line at (rule cause.Go (bytes_eq line.0 (codes "go")))
  Ok line.1

-- the workload of a version behind its line, head and rounds
abbrev pub behind_read : ℕ → Extent → List (List ℕ) → Result Script Fault
behind_read version extent all = do
  tables ← tables_in extent all
  let behind = length tables.0 + 2
  sessions ← sessions_in extent behind tables.1
  workers ← workers_in extent (behind + 1) sessions.1
  go ← go_in (behind + 2) workers.1
  rounds ← rounds_from extent tables.0 sessions.0 (behind + 3) false go
  Ok (record {
    version = version;
    tables = tables.0;
    sessions = sessions.0;
    workers = workers.0.0;
    turns = workers.0.1;
    rounds = rounds;
    begun = [];
  })

-- the workload, its version and what stands behind
abbrev pub script_read : List (List ℕ) → Result Script Fault
script_read all = do
  version ← version_in all
  script_behind version.0 (extent_of version.0) version.1
