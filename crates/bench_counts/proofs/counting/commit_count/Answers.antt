use Rattle.std.proofs.Common.{◌≡◌, ℕ, ◌+◌, Bool, true, false, ap, sym, ◌∙◌, arith}
use Rattle.std.specs.Prelude.{is_some, if◌then◌else◌}
use Rattle.outcome_spec.specs.Entries.{commit_in}
use Rattle.output_read.specs.Kept.{said_of}
use Rattle.bench_counts.proofs.Commits.{commits_more}
use Rattle.bench_counts.proofs.counting.commit_count.Goals as goal
use Rattle.bench_counts.proofs.counting.commit_count.Goals.{then-shows_commit, else-shows_commit}

one_more : (b : Bool) (old count total : ℕ) → b ≡ true → total ≡ old + (if b then 1 else 0) → count ≡ old → count + 1 ≡ total
one_more b old count total shows sum is = let grown : total ≡ old + 1 = sum ∙ ap (λ (c : Bool). old + (if c then 1 else 0)) shows in omega (arith, grown, is)

none_more : (b : Bool) (old count total : ℕ) → b ≡ false → total ≡ old + (if b then 1 else 0) → count ≡ old → count ≡ total
none_more b old count total hides sum is = let same : total ≡ old + 0 = sum ∙ ap (λ (c : Bool). old + (if c then 1 else 0)) hides in omega (arith, same, is)

pub loop-reply-preserved : goal.loop-reply-preserved
loop-reply-preserved c =
    let told = c.reply-item.result.told in
    let more = commits_more c.args.replies.now c.loop-reply.reply-index c.reply-item.result c.loop-reply-test.true c.reply-item.is in
    let before = c.loop-reply.invariant.counted in
    let few = c.loop-reply.invariant.few in
    elim c.if-shows_commit.branch [
      | then-shows_commit w ↦
          let is = w.count-is in
          record {
            counted = w.count-is ∙ one_more (is_some (commit_in (said_of told))) _ c.loop-reply.count _ (sym c.shows_commit.ensures ∙ w.if-shows_commit.true) more before;
            few = omega (arith, is, few);
          }
      | else-shows_commit w ↦
          let is = w.count-is in
          record {
            counted = w.count-is ∙ none_more (is_some (commit_in (said_of told))) _ c.loop-reply.count _ (sym c.shows_commit.ensures ∙ w.if-shows_commit.false) more before;
            few = omega (arith, is, few);
          }
    ]
