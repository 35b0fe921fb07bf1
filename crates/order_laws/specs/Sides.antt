-- Where the replies of an output stand about one of them.
use Rattle.std.specs.Prelude.{◌≡◌, ℕ, ◌+◌, sum_by, Bool, true, ◌&&◌, not, ◌==◌, nat_lt, List, ◌∷◌}
use Rattle.std.specs.Prelude.{◌++◌}
use Rattle.std.specs.List.{list_all}
use Rattle.outcome_spec.specs.Entries.{Entry, is_same, before, after, not_after}

-- the reply is of a round before this one's; of its round and another's; of its round and its own
abbrev pub is_past : Entry → Entry → Bool
is_past entry other = nat_lt other.reply.round entry.reply.round

abbrev pub is_beside : Entry → Entry → Bool
is_beside entry other = other.reply.round == entry.reply.round
    && not (is_same other.reply.who entry.reply.who)

abbrev pub is_own : Entry → Entry → Bool
is_own entry other = other.reply.round == entry.reply.round
    && is_same other.reply.who entry.reply.who

-- The replies as they stand about one of them: those of earlier rounds; of its round the others' in
-- front, its own session's or worker's with smaller indexes, it, its own with greater indexes and
-- the others' behind; and those of later rounds.
pub record Sides (entries : List Entry) (entry : Entry) : Type 0 where
  pub past : List Entry
  pub front : List Entry
  pub own : List Entry
  pub rest : List Entry
  pub back : List Entry
  pub later : List Entry
  pub whole : entries ≡ past ++ (front ++ (own ++ entry ∷ (rest ++ (back ++ later))))
  pub past_are : list_all (is_past entry) past ≡ true
  pub front_are : list_all (is_beside entry) front ≡ true
  pub own_are : list_all (λ other. is_own entry other && nat_lt other.reply.index entry.reply.index)
      own ≡ true
  pub rest_are : list_all (λ other. is_own entry other
      && nat_lt entry.reply.index other.reply.index) rest ≡ true
  pub back_are : list_all (is_beside entry) back ≡ true
  pub later_are : list_all (λ other. is_past other entry) later ≡ true

-- Before a reply are those of earlier rounds and its own in front of it; not after it are those of
-- earlier rounds and of its round, but for its own behind it; after it are its own behind it and
-- those of later rounds.
abbrev pub SidesAreBeforeAndAfter : Type 0
SidesAreBeforeAndAfter = (entries : List Entry) (entry : Entry) (sides : Sides entries entry)
    → (before entries entry ≡ sides.past ++ sides.own)
    × (not_after entries entry ≡ sides.past ++ (sides.front ++ (sides.own ++ entry ∷ sides.back)))
    × (after entries entry ≡ sides.rest ++ sides.later)

-- the replies of its round
abbrev pub round_about : {entries : List Entry} {entry : Entry} → Sides entries entry → List Entry
round_about {entry = entry} sides = sides.front ++ (sides.own ++ entry ∷ (sides.rest ++ sides.back))

-- A sum over the replies before one is that over earlier rounds and over its own in front of it. A
-- sum over those not after it, and over its own behind it, is that over earlier rounds and over its
-- round.
abbrev pub SidesAddUp : Type 0
SidesAddUp = (f : Entry → ℕ) (entries : List Entry) (entry : Entry) (sides : Sides entries entry)
    → (sum_by f (before entries entry) ≡ sum_by f sides.past + sum_by f sides.own)
    × (sum_by f (not_after entries entry) + sum_by f sides.rest
    ≡ sum_by f sides.past + sum_by f (round_about sides))
