-- A worked example, as a fact.
use Rattle.std.specs.Prelude.{false, ℕ, [], ◌∷◌}
use Rattle.workload_spec.specs.declared.command.Command.TheVariants as command
use Rattle.workload_spec.specs.declared.reply.Said.TheVariants as said
use Rattle.workload_spec.specs.declared.reply.Who.{Who}
use Rattle.workload_spec.specs.declared.reply.Who.TheVariants.{Session, Worker}
use Rattle.outcome_spec.specs.Entries.{Entry}
use Rattle.order_laws.specs.Sides.{Sides}

-- a reply of a round, to a session or worker, with an index
abbrev pub reply_at : ℕ → Who → ℕ → Entry
reply_at round who index = record {
  number = 1;
  command = command.Begin false;
  reply = record { round = round; who = who; index = index; said = said.InTransaction };
}

-- Two sessions and a worker in the second of three rounds, about the second session's second reply.
abbrev pub RepliesOfThreeRounds : Type 0
RepliesOfThreeRounds = Sides
    (reply_at 1 (Session 2) 1 ∷ reply_at 2 (Session 1) 1 ∷ reply_at 2 (Session 2) 1 ∷ reply_at 2
    (Session 2) 2
    ∷ reply_at 2 (Session 2) 3 ∷ reply_at 2 (Worker 2) 2 ∷ reply_at 3 (Session 1) 1 ∷ [])
    (reply_at 2 (Session 2) 2)
