-- What is marked of numbers that replies show.
use Rattle.std.specs.Prelude.{◌≡◌, ℕ, ◌+◌, Bool, List, is_some, Option}
use Rattle.std.specs.Option.{option_map_or}
use Rattle.std.specs.Ordering.{nat_cmp}
use Rattle.outcome_spec.specs.Entries.{Entry, commit_in}
use Rattle.outcome_spec.specs.Numbers.{number_shown}
use Rattle.mark_index.specs.Lists.{marks_at, with_mark}
use Rattle.mark_index.specs.Marks.{AreCounted, ArePeaks, next_peak}
use Rattle.mark_index.specs.declared.marks.Peak.{Peak}
use Rattle.outcome_counts.specs.BlockMarks.{starts_in}
use Rattle.outcome_counts.specs.Keys.{is_keyed}
use Rattle.outcome_counts.specs.declared.number_marks.NumberMarks.{NumberMarks}

-- the reply commits with the number, or with any
abbrev pub is_commit_of : ℕ → Entry → Bool
is_commit_of number entry = is_keyed nat_cmp number (commit_in entry.reply.said)

abbrev pub is_numbered : Entry → Bool
is_numbered entry = is_some (commit_in entry.reply.said)

-- one more than a number, 0 where there is none
abbrev pub above : Option ℕ → ℕ
above number = option_map_or (λ n. n + 1) number 0

abbrev pub above_commit : Entry → ℕ
above_commit entry = above (commit_in entry.reply.said)

abbrev pub above_shown : Entry → ℕ
above_shown entry = above (number_shown entry.reply.said)

-- The marks are those of the first so many replies.
pub record AreNumberMarks (entries : List Entry) (taken : ℕ) (marks : NumberMarks) : Type 0 where
  pub commits : (number : ℕ) → AreCounted (is_commit_of number) entries taken
      (marks_at nat_cmp marks.commits number)
  pub numbered : AreCounted is_numbered entries taken marks.numbered.items
  pub committed : ArePeaks above_commit (starts_in entries) entries taken marks.committed.items
  pub shown : ArePeaks above_shown (starts_in entries) entries taken marks.shown.items

-- the peaks with that of a number at a place, if there is one
abbrev pub with_peak : Option ℕ → ℕ → ℕ → List Peak → List Peak
with_peak number place start peaks = with_mark (is_some number)
    (next_peak peaks place start (above number)) peaks

-- What a reply at a place shows is marked, where its own part begins at a start.
pub record IsNumbered (entry : Entry) (place start : ℕ) (before now : NumberMarks) : Type 0 where
  pub commits : (number : ℕ) → marks_at nat_cmp now.commits number
      ≡ with_mark (is_commit_of number entry) place (marks_at nat_cmp before.commits number)
  pub numbered : now.numbered.items ≡ with_mark (is_numbered entry) place before.numbered.items
  pub committed : now.committed.items
      ≡ with_peak (commit_in entry.reply.said) place start before.committed.items
  pub shown : now.shown.items ≡ with_peak (number_shown entry.reply.said) place start
      before.shown.items
