use Rattle.std.proofs.Common.{◌≡◌, ℕ, ◌+◌, ◌-◌, ◌^◌, Bool, nat_le, nat_lt}
use Rattle.std.specs.Prelude.{◌&&◌}
use Rattle.outcome_spec.specs.Entries.{before, after}
use Rattle.output_read.specs.Kept.{entries_of}
use Rattle.outcome_counts.specs.Asked.{asked_at}
use Rattle.outcome_counts.proofs.Shown.{shown-up-to, commits-above}
use Rattle.outcome_counts.proofs.number_marks.NumberMarks.is_snapshot.Goals as goal

shown : (result : Bool) (number past count above below its_count its_above its_below : ℕ) (earlier later : Bool)
    → result ≡ (nat_le number count && nat_le above (number + 1) && nat_lt below past) → count ≡ its_count → above ≡ its_above → below ≡ its_below
    → earlier ≡ nat_le its_above (number + 1) → later ≡ nat_lt its_below past
    → result ≡ (nat_le number its_count && earlier && later)
shown result number past count above below its_count its_above its_below earlier later is one two three four five = cc

pub returns : goal.returns
returns c = λ none.
    let es = entries_of c.args.replies.now in
    let entry = asked_at c.args.replies.now c.args.at none in
    shown c.is_snapshot_by.result c.args.number (2 ^ 64 - c.args.number) c.commit_count-count.result c.above_shown_before-above.result c.below_commits_after-below.result _ _ _ _ _
    c.is_snapshot_by.ensures c.commit_count-count.ensures (c.above_shown_before-above.ensures none) (c.below_commits_after-below.ensures none)
    (shown-up-to c.args.number (before es entry)) (commits-above c.args.number c.ranges.number.fits (after es entry))
