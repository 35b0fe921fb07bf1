-- The marks of numbers with a reply more.
use Rattle.std.proofs.Common.{◌≡◌, ℕ, ◌+◌, false, List, ◌∷◌, ◌++◌, length, Option, None, Some, refl}
use Rattle.std.specs.Ordering.{nat_cmp}
use Rattle.std.specs.Prelude.{is_some}
use Rattle.mark_index.specs.Lists.{marks_at}
use Rattle.mark_index.specs.Marks.{AreStarts}
use Rattle.mark_index.proofs.Noted.{counted-next, peaks-next}
use Rattle.outcome_spec.specs.Entries.{Entry, commit_in}
use Rattle.outcome_spec.specs.Numbers.{number_shown}
use Rattle.outcome_counts.specs.BlockMarks.{starts_in}
use Rattle.outcome_counts.specs.NumberMarks.{AreNumberMarks, IsNumbered, is_commit_of, is_numbered, above, above_commit, above_shown}
use Rattle.outcome_counts.specs.declared.number_marks.NumberMarks.{NumberMarks}

-- Where there is no number, one more than it is taken as zero.
none-above : (number : Option ℕ) → is_some number ≡ false → above number ≡ 0
none-above None h = refl
none-above (Some n) h = absurd (let never : ⊥ = cc in never)

-- the marks of numbers are those of one reply more once it is noted
pub number-marks-next : (entries front : List Entry) (entry : Entry) (rest : List Entry) (n : ℕ) → entries ≡ front ++ entry ∷ rest → length front ≡ n → AreStarts entries (starts_in entries)
    → (before now : NumberMarks) → AreNumberMarks entries n before → IsNumbered entry n (starts_in entries n) before now → AreNumberMarks entries (n + 1) now
number-marks-next entries front entry rest n whole far begins before now marked noted = record {
  commits = λ number. counted-next (is_commit_of number) entries front entry rest n whole far (marks_at nat_cmp before.commits number) (marks_at nat_cmp now.commits number) (marked.commits number) (is_commit_of number entry) refl (noted.commits number);
  numbered = counted-next is_numbered entries front entry rest n whole far before.numbered.items now.numbered.items marked.numbered (is_numbered entry) refl noted.numbered;
  committed = peaks-next above_commit (starts_in entries) entries front entry rest n whole far begins before.committed.items now.committed.items marked.committed
      (is_some (commit_in entry.reply.said)) (none-above (commit_in entry.reply.said)) noted.committed;
  shown = peaks-next above_shown (starts_in entries) entries front entry rest n whole far begins before.shown.items now.shown.items marked.shown
      (is_some (number_shown entry.reply.said)) (none-above (number_shown entry.reply.said)) noted.shown;
}
