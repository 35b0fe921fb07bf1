-- Where the transaction of each reply ends.
use Rattle.std.specs.Prelude.{◌≡◌, ℕ, ◌+◌, ◌<◌, Bool, false, ◌&&◌, List, ◌∷◌, ◌++◌, length}
use Rattle.std.specs.Prelude.{slice_get, if◌then◌else◌, Option, None, Some}
use Rattle.std.specs.BTreeMap.{get}
use Rattle.std.specs.List.{position_or_len}
use Rattle.std.specs.Ordering.{nat_cmp}
use Rattle.workload_spec.specs.declared.reply.Who.{Who}
use Rattle.workload_spec.specs.declared.reply.Who.TheVariants.{Session, Worker}
use Rattle.outcome_spec.specs.Entries.{Entry, is_same, is_end}
use Rattle.outcome_spec.specs.Forms.{is_worker}
use Rattle.outcome_counts.specs.declared.ends.Ended.{Ended}

-- the reply ends a transaction of this session or worker
abbrev pub ends_of : Who → Entry → Bool
ends_of who entry = is_same entry.reply.who who && is_end entry.reply.said

-- how many replies stand in front of the first that ends one, all of them where none does
abbrev pub next_end : Who → List Entry → ℕ
next_end who entries = position_or_len (ends_of who) entries

-- The ends are those of the last so many replies, from the end: for each reply of a session the
-- place of the first reply at or behind it that ends a transaction of its own, the count of the
-- replies where none does.
pub record AreEnds (entries : List Entry) (taken : ℕ) (backs : List ℕ) : Type 0 where
  pub long : length backs ≡ taken
  pub own : (front : List Entry) (entry : Entry) (rest : List Entry) → entries ≡ front
      ++ entry ∷ rest → is_worker entry.reply.who ≡ false → length rest < taken
      → slice_get backs (length rest)
      ≡ Some (length front + next_end entry.reply.who (entry ∷ rest))

-- where the next end of a session's transaction is; a worker has none
abbrev pub ended_of : Ended → Who → Option ℕ
ended_of ended (Session number) = get nat_cmp ended.sessions number
ended_of ended (Worker number) = None

-- the same in front of a reply at a place
abbrev pub ended_next : Entry → ℕ → (Who → Option ℕ) → Who → Option ℕ
ended_next entry place ended who = if is_worker entry.reply.who then ended who
    else (if ends_of who entry then Some place else ended who)
