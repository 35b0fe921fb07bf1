use Rattle.std.proofs.Common.{◌≡◌, ◌∷◌, ◌∙◌, reverse, rules, max, unwrap_or, ap, Some, sym}
use Rattle.std.specs.Prelude.{fold}
use Rattle.undo_chain.specs.Conflict.{numbers_above}
use Rattle.undo_chain.proofs.Ends.{reverse-last}
use Rattle.undo_chain.proofs.Order.{IsLawful-tail, all_stamped}
use Rattle.undo_chain.proofs.Numbers.{largest_with-commit, largest_with-other, largest_with-end}
use Rattle.undo_chain.proofs.chain.Chain.above.Goals as goal

pub loop-newest-preserved-then-is_commit_above : goal.loop-newest-preserved-then-is_commit_above
loop-newest-preserved-then-is_commit_above g c =
    let turned = reverse-last c.loop-newest.older.now c.in-Some.rest.now c.in-Some.newest.now c.in-Some.ensures.cases.0 in
    let lawful = rw turned at c.loop-newest.invariant.0 in
    let same = rw turned at c.loop-newest.invariant.1 in
    let larger : c.max.result ≡ max (unwrap_or c.loop-newest.number 0) c.in-Some.newest.now.number = search rules in (
      IsLawful-tail c.in-Some.newest.now (reverse c.in-Some.rest.now) lawful,
      ap (λ m. Some (fold max m (numbers_above (reverse c.in-Some.rest.now) c.args.stamp))) larger
          ∙ largest_with-commit c.loop-newest.number c.in-Some.newest.now (reverse c.in-Some.rest.now) c.args.stamp (search rules)
          ∙ same,
    )

pub loop-newest-preserved : goal.loop-newest-preserved
loop-newest-preserved g c =
    let turned = reverse-last c.loop-newest.older.now c.in-Some.rest.now c.in-Some.newest.now c.in-Some.ensures.cases.0 in
    let lawful = rw turned at c.loop-newest.invariant.0 in
    let same = rw turned at c.loop-newest.invariant.1 in (
      IsLawful-tail c.in-Some.newest.now (reverse c.in-Some.rest.now) lawful,
      largest_with-other c.loop-newest.number c.in-Some.newest.now (reverse c.in-Some.rest.now) c.args.stamp (search rules) ∙ same,
    )

pub returns-else-not-is_stamped_by : goal.returns-else-not-is_stamped_by
returns-else-not-is_stamped_by g c =
    let turned = reverse-last c.loop-newest.older.now c.in-Some.rest.now c.in-Some.newest.now c.in-Some.ensures.cases.0 in
    let lawful = rw turned at c.loop-newest.invariant.0 in
    let same = rw turned at c.loop-newest.invariant.1 in
    sym (largest_with-end
    c.loop-newest.number
    (c.in-Some.newest.now ∷ reverse c.in-Some.rest.now)
    c.args.stamp
    (all_stamped c.args.stamp c.in-Some.newest.now (reverse c.in-Some.rest.now) lawful (search rules)))
    ∙ same
