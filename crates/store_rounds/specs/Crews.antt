-- Who is at work in a round, sessions and workers behind them, and what they do in it.
use Rattle.std.specs.Prelude.{ℕ, List, ◌++◌, map}
use Rattle.std.specs.List.{flat_map, range_with_len}
use Rattle.cell_model.specs.declared.table.TableDecl.{TableDecl}
use Rattle.outcome_spec.specs.Forms.{turn_of}
use Rattle.workload_spec.specs.declared.command.Command.{Command}
use Rattle.workload_spec.specs.declared.reply.Who.{Who}
use Rattle.workload_spec.specs.declared.reply.Who.TheVariants.{Session as TheSession}
use Rattle.workload_spec.specs.declared.reply.Who.TheVariants.{Worker as TheWorker}
use Rattle.workload_spec.specs.declared.script.Script.{Script}
use Rattle.run_spec.specs.Calls.{Call}
use Rattle.run_spec.specs.Ran.{Share}
use Rattle.store_rounds.specs.Worked.{share_of}
use Rattle.store_rounds.specs.declared.crew.Crew.{Crew}

-- the sessions and workers of a script
abbrev pub crew_of : Script → Crew
crew_of script =
    record { sessions = script.sessions; workers = script.workers; turns = script.turns }

-- what a worker is asked in a round: so many turns, one behind the other
abbrev pub turns_in : List TableDecl → ℕ → List Command
turns_in tables turns = flat_map (λ turn. turn_of tables) (range_with_len 1 turns)

-- The shares and the calls of so many sessions, or of so many workers, by the calls of each.
abbrev pub shares_of : (ℕ → Who) → ℕ → (ℕ → List Call) → List Share
shares_of who count calls = map (λ n. share_of (who n) (calls n)) (range_with_len 1 count)

abbrev pub calls_of : ℕ → (ℕ → List Call) → List Call
calls_of count calls = flat_map calls (range_with_len 1 count)

-- Those of a crew, the sessions' first, in the order of their lines.
abbrev pub crew_shares : Crew → (Who → List Call) → List Share
crew_shares crew calls =
    shares_of TheSession crew.sessions (λ n. calls (TheSession n))
    ++ shares_of TheWorker crew.workers (λ n. calls (TheWorker n))

abbrev pub crew_calls : Crew → (Who → List Call) → List Call
crew_calls crew calls =
    calls_of crew.sessions (λ n. calls (TheSession n))
    ++ calls_of crew.workers (λ n. calls (TheWorker n))
