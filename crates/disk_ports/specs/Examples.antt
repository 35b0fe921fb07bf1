-- Worked examples of what calls do to a file and of what crashes leave.
use Rattle.std.specs.Prelude.{◌≡◌, [], ◌∷◌, None, Some, Result, Ok, Err}
use Rattle.byte_ports.specs.FaultPlan.{new_plan}
use Rattle.disk_ports.specs.Crashes.{Elapses, Leaves}
use Rattle.disk_ports.specs.FileSteps.{Lays, Reads, ReadsFrom, Tears, TearsWithin, Writes}
use Rattle.disk_ports.specs.Memory.{Held, Asked, Wrote, Synced, held_since, may_hold}

abbrev pub done : Result (Unit {0}) (Unit {0})
done = Ok tt

abbrev pub refused : Result (Unit {0}) (Unit {0})
refused = Err tt

-- A piece takes the place of as many bytes, and a gap before it holds any bytes. What stands before
-- and behind stays, and the gap is as long as what is missing.
abbrev pub PiecesAreLaid : Type 0
PiecesAreLaid =
    Lays 1 (8 ∷ 9 ∷ []) (1 ∷ 2 ∷ 3 ∷ 4 ∷ []) (1 ∷ 8 ∷ 9 ∷ 4 ∷ [])
    × Lays 3 (9 ∷ []) (1 ∷ []) (1 ∷ 5 ∷ 6 ∷ 9 ∷ [])
    × (¬ Lays 1 (9 ∷ []) (1 ∷ 2 ∷ 3 ∷ []) (7 ∷ 9 ∷ 3 ∷ []))
    × (¬ Lays 1 (9 ∷ []) (1 ∷ 2 ∷ 3 ∷ []) (1 ∷ 9 ∷ 4 ∷ []))
    × (¬ Lays 3 (9 ∷ []) (1 ∷ []) (1 ∷ 5 ∷ 9 ∷ []))

-- A torn range holds any bytes, and so does what stands past the old end. What stands before and
-- behind stays, and no byte is lost. A write that failed tells no bytes past both ends.
abbrev pub RangesAreTorn : Type 0
RangesAreTorn =
    Tears 1 2 (1 ∷ 2 ∷ 3 ∷ 4 ∷ []) (1 ∷ 7 ∷ 8 ∷ 4 ∷ 5 ∷ [])
    × TearsWithin 3 2 (1 ∷ 2 ∷ 3 ∷ 4 ∷ []) (1 ∷ 2 ∷ 3 ∷ 9 ∷ 8 ∷ [])
    × (¬ Tears 1 2 (1 ∷ 2 ∷ 3 ∷ 4 ∷ []) (9 ∷ 2 ∷ 3 ∷ 4 ∷ []))
    × (¬ Tears 1 2 (1 ∷ 2 ∷ 3 ∷ 4 ∷ []) (1 ∷ 2 ∷ 3 ∷ 9 ∷ []))
    × (¬ Tears 1 2 (1 ∷ 2 ∷ 3 ∷ 4 ∷ []) (1 ∷ 2 ∷ 4 ∷ []))
    × (¬ TearsWithin 1 2 (1 ∷ 2 ∷ 3 ∷ 4 ∷ []) (1 ∷ 2 ∷ 3 ∷ 4 ∷ 5 ∷ []))

-- A write that is done lays its piece, one that failed tears its range, and a file is told behind
-- it exactly where it was before.
abbrev pub WritesLayOrTear : Type 0
WritesLayOrTear =
    (¬ Writes (Some (1 ∷ 2 ∷ [])) (Some (1 ∷ 7 ∷ [])) done 1 (9 ∷ []))
    × Writes (Some (1 ∷ 2 ∷ [])) (Some (1 ∷ 7 ∷ [])) refused 1 (9 ∷ [])
    × Writes None None done 1 (9 ∷ [])
    × (¬ Writes (Some []) None done 0 [])
    × (¬ Writes None (Some []) refused 0 [])

-- A read fills the front of the buffer with bytes of the file, as many as it answers, and answers
-- none just at the end. Of a file that is not told it answers no more than there is room for.
abbrev pub ReadsAreOfTheFile : Type 0
ReadsAreOfTheFile =
    ReadsFrom (1 ∷ 2 ∷ 3 ∷ []) 1 1 (2 ∷ 0 ∷ [])
    × ReadsFrom (1 ∷ []) 1 0 (0 ∷ [])
    × (¬ ReadsFrom (1 ∷ 2 ∷ []) 0 1 (2 ∷ []))
    × (¬ ReadsFrom (1 ∷ 2 ∷ []) 1 0 (0 ∷ []))
    × (¬ ReadsFrom (1 ∷ []) 1 1 (0 ∷ []))
    × (¬ ReadsFrom (1 ∷ 1 ∷ []) 0 2 (1 ∷ []))
    × (¬ Reads {E = Unit {0}} None (Ok 2) 0 (1 ∷ []))

-- The byte behind 1 was written, and then all was synced, and a call asked.
abbrev pub synced : Held
synced = record {
  first = 1 ∷ 2 ∷ [];
  bytes = 1 ∷ 9 ∷ [];
  past = Asked ∷ Synced (1 ∷ 9 ∷ []) ∷ Wrote 1 (9 ∷ []) ∷ [];
  started = [];
  plan = new_plan [];
}

-- Before the sync a crash leaves any byte there, and any behind it, but no other before it; from
-- the sync on it leaves just what was written. A moment is that behind so many calls.
abbrev pub CrashesLeaveTornRanges : Type 0
CrashesLeaveTornRanges =
    held_since synced 1 (1 ∷ 7 ∷ 5 ∷ [])
    × (¬ held_since synced 0 (3 ∷ 9 ∷ []))
    × (¬ held_since synced 2 (1 ∷ 7 ∷ []))
    × (¬ may_hold synced (1 ∷ 2 ∷ []))
    × may_hold synced (1 ∷ 9 ∷ [])
    × (¬ Leaves 1 1 (λ c. c ≡ 1 ∷ 2 ∷ []) (λ c. c ≡ 3 ∷ 2 ∷ []))

-- What a moment might leave before, it may leave now.
abbrev pub MomentsStay : Type 0
MomentsStay =
    ¬ Elapses 0 1 (λ t c. c ≡ 1 ∷ []) (λ t c. c ≡ 2 ∷ []) (λ c. c ≡ 2 ∷ [])
