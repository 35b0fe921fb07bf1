-- The commits that wrote a place, by their numbers and by the places of their lines.
use Rattle.std.specs.Prelude.{◌≡◌, ℕ, ◌+◌, Bool, true, false, ◌&&◌, ◌==◌, nat_le, nat_lt, List, map}
use Rattle.std.specs.Prelude.{length, count_by, slice_get, Option, None, Some, option_and_then}
use Rattle.std.specs.Prelude.{if◌then◌else◌}
use Rattle.std.specs.BTreeMap.{get}
use Rattle.std.specs.List.{filter, list_all, list_any, range_with_len}
use Rattle.std.specs.List.Sorted.{IsNonDecreasing, IsNonDecreasingBy}
use Rattle.std.specs.Option.{option_map_or}
use Rattle.std.specs.Ordering.{nat_cmp}
use Rattle.isolation_spec.specs.Contents.{History}
use Rattle.isolation_spec.specs.Machine.{later_commits, later_writers, write_set_at}
use Rattle.isolation_spec.specs.declared.place.Place.{Place}
use Rattle.outcome_spec.specs.Entries.{Entry, commit_in, is_reply}
use Rattle.outcome_spec.specs.Runs.{Span, commit_count, commit_line, commits_as, committed_writes}
use Rattle.outcome_spec.specs.Runs.{ending_of, transactions_of}
use Rattle.mark_index.specs.Lists.{marks_at, with_mark}
use Rattle.mark_index.specs.Marks.{ArePeaks, next_peak}
use Rattle.mark_index.specs.declared.MarkIndex.{MarkIndex}
use Rattle.mark_index.specs.declared.marks.Peak.{Peak}
use Rattle.outcome_counts.specs.BlockMarks.{starts_in}
use Rattle.outcome_judge.specs.HistoryKept.{place_in}
use Rattle.outcome_judge.specs.Targets.{covers, target_cmp, wrote}
use Rattle.outcome_judge.specs.declared.commits.Transaction.{Transaction}
use Rattle.outcome_judge.specs.declared.commits.Heights.{Heights}
use Rattle.outcome_judge.specs.declared.commits.Numbers.{Numbers}
use Rattle.outcome_judge.specs.Commits.{first_of}
use Rattle.outcome_judge.specs.Own.{AreChanges}
use Rattle.outcome_judge.specs.Seen.{IsOutput}
use Rattle.outcome_judge.specs.declared.changes.Change.{Change}
use Rattle.outcome_judge.specs.declared.keys.Target.{Target}
use Rattle.outcome_judge.specs.declared.writers.Written.{Written}

-- what the commits of the replies wrote, by their numbers
abbrev pub history_in : List Entry → History
history_in entries = map (committed_writes entries (transactions_of entries))
    (range_with_len 1 (commit_count entries))

-- the numbers of the commits that wrote the place, rising
abbrev pub numbers_of : List Entry → Place → List ℕ
numbers_of entries place = later_writers (history_in entries) 0 place

-- those of the commits that wrote a row, or into a table
abbrev pub numbers_at : List Entry → Target → List ℕ
numbers_at entries of = later_commits (history_in entries) 0 (wrote of)

-- the reply is the line of the commit number
abbrev pub is_line_of : List Entry → ℕ → Entry → Bool
is_line_of entries number entry = option_map_or (λ line. is_reply line entry)
    (commit_line entries number) false

-- it is that of a number, and among numbers
abbrev pub is_number_in : List ℕ → ℕ → Bool
is_number_in numbers number = list_any (λ its. its == number) numbers

-- the number of which the reply is the line, if the commit wrote the place; 0 where it isn't one
abbrev pub number_told : List Entry → List ℕ → Entry → ℕ
number_told entries numbers entry =
    option_map_or (λ number. if is_line_of entries number entry && is_number_in numbers number
    then number else 0) (commit_in entry.reply.said) 0

-- how many numbers are up to a bound
abbrev pub count_up_to : ℕ → List ℕ → ℕ
count_up_to bound numbers = count_by (λ number. nat_le number bound) numbers

-- What is kept are the numbers of the commits that wrote each row and table, and the line of each
-- number.
pub record AreNumbered (entries : List Entry) (kept : Numbers) : Type 0 where
  pub rise : (of : Target) → IsNonDecreasing (marks_at target_cmp kept.numbers of)
  pub numbers : (of : Target) → marks_at target_cmp kept.numbers of ≡ numbers_at entries of
  pub lines : (number : ℕ) → option_and_then (slice_get entries) (get nat_cmp kept.lines number)
      ≡ commit_line entries number

-- What is kept is how high they are.
pub record AreHeights (entries : List Entry) (heights : Heights) : Type 0 where
  pub peaks : (of : Target) → ArePeaks (number_told entries (numbers_at entries of))
      (starts_in entries) entries (length entries) (marks_at target_cmp heights.peaks of)

-- of a transaction its snapshot, and the number with which it commits, if it does
abbrev pub transaction_told : Span → Transaction
transaction_told t = record {
  snapshot = t.snapshot;
  committed = option_and_then (λ ending. commit_in ending.reply.said) (ending_of t);
}

-- a place of it is changed up to a time
abbrev pub is_written : Target → ℕ → List Change → Bool
is_written of bound own = list_any
    (λ change. nat_le change.left.time bound && covers of (place_in change.of)) own

-- the first so many of the numbers of the commits that wrote a place of it
abbrev pub numbers_up_to : ℕ → List Entry → Target → List ℕ
numbers_up_to count entries of =
    filter (λ number. nat_lt 0 number
    && wrote of (write_set_at (history_in entries) number)) (range_with_len 1 count)

-- The numbers are those of the first so many commits.
pub record AreNumbers (entries : List Entry) (count : ℕ) (kept : MarkIndex Target ℕ) : Type 0 where
  pub numbers : (of : Target) → marks_at target_cmp kept of ≡ numbers_up_to count entries of
  pub rise : (of : Target) → IsNonDecreasing (marks_at target_cmp kept of)
  pub below : (of : Target) → list_all (λ number. nat_lt number (count + 1))
      (marks_at target_cmp kept of) ≡ true

-- the reply at a place is the line of a number among the first so many
abbrev pub is_line_at : List Entry → ℕ → ℕ → ℕ → Bool
is_line_at entries count place number =
    nat_le 1 number && nat_le number count
    && option_map_or (λ first. first == place) (first_of (commits_as number) entries) false

-- the number of which the reply at a place is the line
abbrev pub line_told : List Entry → ℕ → ℕ → Entry → Option ℕ
line_told entries count place entry = option_and_then
    (λ number. if is_line_at entries count place number then Some number else None)
    (commit_in entry.reply.said)

-- the number that is told of a row or table by the reply at a place
abbrev pub value_at : List Entry → Target → Entry → ℕ
value_at entries of entry = number_told entries (numbers_at entries of) entry

-- The peaks are those of the first so many replies.
abbrev pub ArePeaksUpTo : List Entry → ℕ → MarkIndex Target Peak → Type 0
ArePeaksUpTo entries taken peaks = (of : Target)
    → ArePeaks (value_at entries of) (starts_in entries) entries taken (marks_at target_cmp peaks of)

-- What is kept are some marks, with one more at a place behind those of some rows and tables.
pub record AreMarked (place start number : ℕ) (peaks : MarkIndex Target Peak) : Type 0 where
  pub base : Target → List Peak
  pub put : Target → Bool
  pub rise : (of : Target) → IsNonDecreasingBy (λ peak. peak.place) (base of)
  pub below : (of : Target) → list_all (λ peak. nat_lt peak.place place) (base of) ≡ true
  pub marks : (of : Target) → marks_at target_cmp peaks of
      ≡ with_mark (put of) (next_peak (base of) place start number) (base of)

-- By what the writers are built is what the replies tell.
pub record IsWritten (entries : List Entry) (written : Written) : Type 0 where
  pub output : IsOutput written.openings.now entries
  pub changes : AreChanges written.openings.now entries (length entries) written.changes.now
  pub places : (number : ℕ) → get nat_cmp written.places.now.places number
      ≡ first_of (commits_as number) entries
