-- Which steps of a worker's turn may be next, where any of them but a compaction may leave no line.
use Rattle.std.specs.Prelude.{ℕ, ◌+◌, Bool, true, false, ◌&&◌, ◌||◌, not, ◌==◌, nat_lt, List, []}
use Rattle.std.specs.Prelude.{◌∷◌, length, if◌then◌else◌, Option, None, Some}
use Rattle.cell_model.specs.declared.table.TableDecl.{TableDecl}
use Rattle.workload_spec.specs.declared.command.Command.{Command}
use Rattle.workload_spec.specs.declared.command.Command.TheVariants as command
use Rattle.workload_spec.specs.declared.reply.Who.TheVariants.{Session, Worker}
use Rattle.workload_spec.specs.declared.reply.Said.{Said}
use Rattle.workload_spec.specs.declared.reply.Said.TheVariants as said
use Rattle.outcome_spec.specs.Forms.{Due}
use Rattle.outcome_spec.specs.Tables.{blocks_at}
use Rattle.output_read.specs.declared.turns.NextSteps.{NextSteps}

-- one table further, where there is one
abbrev pub one_more : List TableDecl → ℕ → ℕ
one_more tables until = if nat_lt until (length tables) then until + 1 else until

-- behind the next table's compaction
abbrev pub next_table : List TableDecl → NextSteps → Option NextSteps
next_table tables steps = if nat_lt (steps.table + 1) (length tables)
    then Some (record {
      table = steps.table + 1;
      block = 0;
      sealed = false;
      until = one_more tables steps.until;
    }) else None

-- behind the first gathering that may be next, or the next table's compaction where there is none;
-- and of each further table likewise
abbrev pub after_memory : List TableDecl → NextSteps → Option NextSteps
after_memory tables steps = if nat_lt steps.block (blocks_at tables steps.table)
    then Some (record {
      table = steps.table;
      block = steps.block + 1;
      sealed = false;
      until = one_more tables steps.until;
    }) else next_table tables steps

-- the seal of a block may be next; its gathering may
abbrev pub may_seal : List TableDecl → NextSteps → ℕ → ℕ → Bool
may_seal tables steps table block = nat_lt block (blocks_at tables table)
    && (table == steps.table && (nat_lt steps.block block || block == steps.block
    && not steps.sealed) || nat_lt steps.table table && nat_lt table steps.until)

abbrev pub may_gather : List TableDecl → NextSteps → ℕ → ℕ → Bool
may_gather tables steps table block = nat_lt block (blocks_at tables table)
    && (table == steps.table && not (nat_lt block steps.block) || nat_lt steps.table table
    && nat_lt table steps.until)

-- Which steps may be next behind one that says this; none where no step that may be next says it.
abbrev pub next_steps : List TableDecl → NextSteps → Said → Option NextSteps
next_steps tables steps (said.Moved count) = next_table tables steps
next_steps tables steps said.Memory = after_memory tables steps
next_steps tables steps (said.Sealed table block stamp) = if may_seal tables steps table block
    then Some (record { table = table; block = block; sealed = true; until = table + 1 }) else None
next_steps tables steps (said.Frozen table block rows) = if may_gather tables steps table block
    then Some (record { table = table; block = block + 1; sealed = false; until = table + 1 })
    else None
next_steps tables steps _ = None

-- a turn begins with it, or an observation before it
abbrev pub begins_turn : Command → Bool
begins_turn command.Observe = true
begins_turn command.Prune = true
begins_turn _ = false

-- What is due is a session's, or begins a turn, or nothing is: no line of a worker's other steps is
-- its.
abbrev pub begins_anew : List Due → Bool
begins_anew [] = true
begins_anew (due ∷ dues) = elim due.who
    [ Session number ↦ true | Worker number ↦ begins_turn due.command ]
