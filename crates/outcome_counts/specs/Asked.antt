-- A reply among kept ones that is judged, and counts about it.
use Rattle.std.specs.Prelude.{◌≡◌, ℕ, ◌+◌, ◌-◌, ◌<◌, max, Bool, List, length, slice_index_or}
use Rattle.outcome_spec.specs.Entries.{Entry}
use Rattle.order_laws.specs.Places.{Rises}
use Rattle.mark_index.specs.Marks.{count_below, most_below, own_below}
use Rattle.mark_index.specs.declared.marks.Peak.{Peak}
use Rattle.output_read.specs.Kept.{entries_of, entry_of}
use Rattle.output_read.specs.declared.kept.KeptReply.{KeptReply}
use Rattle.outcome_counts.specs.declared.stretch.Stretch.{Stretch}
use Rattle.outcome_counts.specs.Stretch.{stretch_of}

-- the reply at a place, where it isn't past the end
abbrev pub asked_at : List KeptReply → ℕ → KeptReply → Entry
asked_at replies at none = entry_of (slice_index_or replies at none)

-- The replies rise, and the places are those about the one that is judged.
pub record IsAsked (replies : List KeptReply) (at : ℕ) (stretch : Stretch) : Type 0 where
  pub rises : Rises (entries_of replies)
  pub inside : at < length replies
  pub places : (none : KeptReply) → stretch
      ≡ stretch_of (entries_of replies) (asked_at replies at none)

-- the answer is what the test is of the reply that is judged
abbrev pub IsJudgedBy : (Entry → Bool) → List KeptReply → ℕ → Bool → Type 0
IsJudgedBy test replies at answer = (none : KeptReply) → answer ≡ test (asked_at replies at none)

-- how many of the places are before the reply, and how many not after it
abbrev pub count_before : List ℕ → ℕ → Stretch → ℕ
count_before places at stretch =
    count_below stretch.round_start places
    + (count_below at places - count_below stretch.own_start places)

abbrev pub count_not_after : List ℕ → ℕ → Stretch → ℕ
count_not_after places at stretch =
    count_below (at + 1) places + (count_below stretch.round_end places - count_below
    stretch.own_end places)

-- the highest of the peaks before the reply
abbrev pub peak_before : List Peak → ℕ → Stretch → ℕ
peak_before peaks at stretch = max (most_below stretch.round_start peaks)
    (own_below stretch.own_start at peaks)
