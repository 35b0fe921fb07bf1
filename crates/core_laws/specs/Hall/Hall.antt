-- What the core's events mean to a hall.
use Rattle.std.specs.Prelude.{◌≡◌, ℕ, None, Some, slice_get}
use Rattle.core_laws.specs.Words.Words.{thawed_part, turns_words, word_of}
use Rattle.event_spec.specs.Effects.{CoreEvent, effect}
use Rattle.event_spec.specs.Lawful.{FitsIn, IsOldest, Opened, Stands, session_of, takes_memory}
use Rattle.event_spec.specs.Lawful.{transaction}
use Rattle.event_spec.specs.Parts.{CorePart, Parts, Shape}
use Rattle.event_spec.specs.Replay.{opening}
use Rattle.event_spec.specs.Sound.{IsShape}
use Rattle.event_spec.specs.Touched.{touching}
use Rattle.core_laws.specs.Frames.Shards.{CoreHolds}
use Rattle.hall_rule.specs.Heads.{head_of}
use Rattle.hall_rule.specs.Meaning.{Laws, Meaning}

-- The core's events over parts, from a start on, for so many passes. A lasting fact is a stamp that
-- no live snapshot is below.
abbrev pub core_meaning : Shape → Parts → ℕ → Meaning CorePart CoreEvent Opened ℕ
core_meaning shape start passes = record {
  start = start;
  sound = CoreHolds shape;
  touching = touching shape;
  names = session_of;
  stands = Stands shape;
  fits = FitsIn shape;
  effect = λ made parts. effect shape parts made;
  takes_memory = takes_memory;
  transaction = transaction shape;
  fact = IsOldest shape;
  head = λ part. head_of (word_of part);
  thaws = thawed_part shape;
  turning = turns_words;
  passes = passes;
}

-- They have the laws that a hall asks.
abbrev pub HasHallLaws : Type 0
HasHallLaws = (shape : Shape) (start : Parts) (passes : ℕ)
    → Laws (core_meaning shape start passes)

-- The opening core is one to start at: it holds, no session has a transaction in it, and each word
-- is hot, without a stamp.
abbrev pub StartsAtRest : Type 0
StartsAtRest = (shape : Shape) → IsShape shape
    → CoreHolds shape (opening shape)
    × ((session : ℕ) → transaction shape (opening shape) session ≡ None)
    × ((number : ℕ) (part : CorePart) → slice_get (opening shape) number ≡ Some part
    → head_of (word_of part) ≡ 0)
