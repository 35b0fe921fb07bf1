-- The order of the replies: round by round, its sessions and then its workers.
use Rattle.std.specs.Prelude.{ℕ, Bool, true, false, ◌&&◌, ◌||◌, ◌==◌, ◌≡◌, nat_lt, List, ◌++◌}
use Rattle.std.specs.List.{list_all}
use Rattle.workload_spec.specs.declared.reply.Who.{Who}
use Rattle.workload_spec.specs.declared.reply.Who.TheVariants.{Session, Worker}
use Rattle.outcome_spec.specs.Entries.{Entry}
use Rattle.output_read.specs.declared.reader.Reader.{Reader}
use Rattle.output_read.specs.Readers.{is_of, read_by}

-- one is answered before another in a round
abbrev pub comes_before : Who → Who → Bool
comes_before (Session a) (Session b) = nat_lt a b
comes_before (Session a) (Worker b) = true
comes_before (Worker a) (Session b) = false
comes_before (Worker a) (Worker b) = nat_lt a b

-- the reply is of an earlier round, or to one before this one in the round
abbrev pub is_ahead : ℕ → Who → Entry → Bool
is_ahead round who entry = nat_lt entry.reply.round round || entry.reply.round == round
    && comes_before entry.reply.who who

abbrev pub are_ahead : ℕ → Who → List Entry → Bool
are_ahead round who entries = list_all (is_ahead round who) entries

-- Replies of the round to one were read behind others.
pub record AddsAll (old new : Reader) (round : ℕ) (who : Who) : Type 0 where
  pub added : List Entry
  pub is : read_by new ≡ read_by old ++ added
  pub own : list_all (is_of round who) added ≡ true
