-- The widths of stamps and of commit numbers.
use Rattle.std.specs.Prelude.{◌+◌, ◌<◌, ◌≤◌, ◌^◌}
use Rattle.event_spec.specs.Lawful.{IsLawful}
use Rattle.event_spec.specs.Parts.{Parts, Shape, desk_at}
use Rattle.event_spec.specs.Replay.{Made, after, opening}
use Rattle.event_spec.specs.Sound.{IsShape, Sound}
use Rattle.txn_desk.specs.Desk.{DeskState}

-- The commits with a number are no more than the stamps, but for those that the core began with,
-- which are at most 2 ^ 63; and the stamps end below 2 ^ 63.
pub record IsNarrow (desk : DeskState) : Type 0 where
  pub commits : desk.commits ≤ desk.newest + 2 ^ 63
  pub stamps : desk.newest < 2 ^ 63

abbrev pub OpensNarrow : Type 0
OpensNarrow = (shape : Shape) → IsShape shape → IsNarrow (desk_at shape (opening shape))

-- So it is behind each event.
abbrev pub NumbersAreNarrow : Type 0
NumbersAreNarrow = (shape : Shape) (parts : Parts) (made : Made)
    → Sound shape parts → IsLawful shape made.event parts
    → IsNarrow (desk_at shape parts)
    → IsNarrow (desk_at shape (after shape parts made))
