-- The places of an output's replies: between which places stand those of a reply's round, and those
-- of its round that are its own session's or worker's.
use Rattle.std.specs.Prelude.{◌≡◌, ℕ, ◌+◌, Bool, true, false, ◌&&◌, ◌||◌, ◌==◌, nat_lt, nat_le}
use Rattle.std.specs.Prelude.{List, [], ◌∷◌, ◌++◌, take, drop, length, count_by}
use Rattle.std.specs.List.{list_all}
use Rattle.workload_spec.specs.declared.reply.Who.{Who}
use Rattle.workload_spec.specs.declared.reply.Who.TheVariants.{Session, Worker}
use Rattle.outcome_spec.specs.Entries.{Entry, is_same, before, after, not_after}
use Rattle.order_laws.specs.Sides.{is_past, is_own}

-- sessions stand in front of workers, and each of them by its number
abbrev pub is_earlier : Who → Who → Bool
is_earlier (Session a) (Session b) = nat_lt a b
is_earlier (Session a) (Worker b) = true
is_earlier (Worker a) (Session b) = false
is_earlier (Worker a) (Worker b) = nat_lt a b

-- sessions and workers up to one
abbrev pub is_up_to : Who → Who → Bool
is_up_to a b = is_earlier a b || is_same a b

-- the other is of an earlier round, or of the reply's round and to one of these
abbrev pub is_among : (Who → Bool) → Entry → Entry → Bool
is_among chosen entry other = is_past entry other || other.reply.round == entry.reply.round
    && chosen other.reply.who

-- the other is of an earlier round, or of the reply's round and to one that stands in front of its
-- session or worker
abbrev pub is_in_front : Entry → Entry → Bool
is_in_front entry other = is_among (λ who. is_earlier who entry.reply.who) entry other

-- the same, or to its own session or worker
abbrev pub is_up_to_own : Entry → Entry → Bool
is_up_to_own entry other = is_among (λ who. is_up_to who entry.reply.who) entry other

-- the first reply's line is in front of the second's
abbrev pub is_ahead : Entry → Entry → Bool
is_ahead a b = is_in_front b a || is_own b a && nat_lt a.reply.index b.reply.index

-- The replies stand in the order of their lines: by round, by session or worker, and by index.
abbrev pub Rises : List Entry → Type 0
Rises [] = Unit {0}
Rises (entry ∷ entries) = (list_all (is_ahead entry) entries ≡ true) × Rises entries

-- where the round of a reply begins among the replies, where its own in the round begin and end,
-- and where the round ends
abbrev pub round_start : List Entry → Entry → ℕ
round_start entries entry = count_by (is_past entry) entries

abbrev pub own_start : List Entry → Entry → ℕ
own_start entries entry = count_by (is_in_front entry) entries

abbrev pub own_end : List Entry → Entry → ℕ
own_end entries entry = count_by (is_up_to_own entry) entries

abbrev pub round_end : List Entry → Entry → ℕ
round_end entries entry = count_by (λ other. nat_le other.reply.round entry.reply.round) entries

-- the replies from one place up to another
abbrev pub between : ℕ → ℕ → List Entry → List Entry
between from to entries = drop from (take to entries)

-- Before a reply are the replies up to its round, and its own of the round up to it; not after it
-- are those up to it and it, and those of its round behind its own; after it are its own behind it,
-- and those behind its round.
abbrev pub PlacesAreBeforeAndAfter : Type 0
PlacesAreBeforeAndAfter = (front : List Entry) (entry : Entry) (rest entries : List Entry) → entries
    ≡ front ++ entry ∷ rest → Rises entries
    → (before entries entry ≡ take (round_start entries entry) entries
    ++ between (own_start entries entry) (length front) entries)
    × (not_after entries entry ≡ take (length front + 1) entries
    ++ between (own_end entries entry) (round_end entries entry) entries)
    × (after entries entry ≡ between (length front + 1) (own_end entries entry) entries
    ++ drop (round_end entries entry) entries)
