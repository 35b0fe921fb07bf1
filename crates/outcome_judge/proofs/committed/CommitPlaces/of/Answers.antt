use Rattle.std.proofs.Common.{◌∙◌, ap, sym, ℕ, Option, None, Some}
use Rattle.std.specs.BTreeMap.{get}
use Rattle.std.specs.Option.{option_or}
use Rattle.std.specs.Ordering.{nat_cmp}
use Rattle.std.specs.Prelude.{if◌then◌else◌}
use Rattle.outcome_counts.specs.Keys.{is_keyed}
use Rattle.outcome_spec.specs.Runs.{commits_as}
use Rattle.output_read.specs.Kept.{entries_of, entry_of}
use Rattle.outcome_counts.proofs.Starts.{kept-at}
use Rattle.outcome_judge.proofs.CommitsMade.{first-next, commit-keyed}
use Rattle.outcome_judge.proofs.committed.CommitPlaces.of.Goals as goal

pub loop-place-preserved : goal.loop-place-preserved
loop-place-preserved c number =
    let replies = c.args.replies.now in
    let place : ℕ = c.loop-place.place in
    let reply = c.index-replies-place.result in
    let at = kept-at replies place reply c.loop-place-test.true c.index-replies-place.is in
    let old : Option ℕ = get nat_cmp c.loop-place.commits.places number in
    c.in_ok-note.ensures number
    ∙ ap (λ (o : Option ℕ). option_or old (if is_keyed nat_cmp number o then Some place else None)) c.commit_told.ensures
    ∙ first-next (commits_as number) (entries_of replies) at.front (entry_of reply) at.rest place at.whole at.far old _ (sym (commit-keyed number (entry_of reply))) (c.loop-place.invariant number)
