-- For how long the transaction lasts in which a reply is.
use Rattle.std.specs.Prelude.{ℕ, ◌+◌, ◌^◌, List, [], ◌∷◌, ◌++◌, find, if◌then◌else◌}
use Rattle.std.specs.Option.{option_map_or}
use Rattle.workload_spec.specs.declared.reply.Who.{Who}
use Rattle.outcome_spec.specs.Entries.{Entry, thread, is_end}
use Rattle.outcome_spec.specs.Forms.{is_within}

-- it is above each round and the one behind it
abbrev pub never : ℕ
never = 2 ^ 33

-- one more than the round of the first of these replies that ends a transaction, `never` where none
-- does
abbrev pub stop_in : List Entry → ℕ
stop_in entries = option_map_or (λ ending. ending.reply.round + 1)
    (find (λ entry. is_end entry.reply.said) entries) never

-- that of a session or worker
abbrev pub stop_of : Who → List Entry → ℕ
stop_of who entries = stop_in (thread who entries)

-- that of each reply's session or worker from the reply on
abbrev pub stops_of : List Entry → List ℕ
stops_of [] = []
stops_of (entry ∷ entries) = stop_of entry.reply.who (entry ∷ entries) ∷ stops_of entries

-- A reply, and one more than the round up to which its transaction lasts: `never` where nothing
-- ends it, and 0 where the reply is in none.
pub record Held : Type 0 where
  pub entry : Entry
  pub until : ℕ

abbrev pub held_at : List Entry → Entry → List Entry → Held
held_at front entry rest = record {
  entry = entry;
  until = if is_within entry.reply.who front then stop_of entry.reply.who (entry ∷ rest) else 0;
}

-- each of the replies that follow others
abbrev pub held_behind : List Entry → List Entry → List Held
held_behind front [] = []
held_behind front (entry ∷ entries) = held_at front entry entries ∷ held_behind
    (front ++ entry ∷ []) entries

abbrev pub held_in : List Entry → List Held
held_in entries = held_behind [] entries
