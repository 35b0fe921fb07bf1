use Rattle.std.proofs.Common.{◌≡◌, ◌∙◌, ◌<◌, ◌^◌, ap, sym, subst, ℕ, List, false, nat_lt, arith}
use Rattle.std.proofs.lemmas.Bool.Decides.{nat_tests}
use Rattle.mark_index.specs.Lists.{with_mark}
use Rattle.mark_index.specs.Marks.{next_sum}
use Rattle.mark_index.specs.declared.marks.Sum.{Sum}
use Rattle.mark_index.proofs.Noted.{sums-next}
use Rattle.outcome_spec.specs.Entries.{Entry}
use Rattle.output_read.specs.Kept.{entries_of, entry_of}
use Rattle.outcome_counts.proofs.Asked.{asked-is}
use Rattle.outcome_counts.proofs.Starts.{kept-at}
use Rattle.outcome_counts.specs.Weights.{pruned_by, moved_by, committed_by}
use Rattle.outcome_counts.proofs.prunes.Prunes.of.Goals as goal

none-there : (n : ℕ) → nat_lt 0 n ≡ false → n ≡ 0
none-there n h = grind (arith, nat_tests, h)

noted : (sums old : List Sum) (place value its : ℕ) → sums ≡ with_mark (nat_lt 0 value) (next_sum old place value) old → value ≡ its → sums ≡ with_mark (nat_lt 0 its) (next_sum old place its) old
noted sums old place value its is same = is ∙ ap (λ (n : ℕ). with_mark (nat_lt 0 n) (next_sum old place n) old) same

pub loop-place-preserved : goal.loop-place-preserved
loop-place-preserved c =
    let replies = c.args.replies.now in
    let es = entries_of replies in
    let place : ℕ = c.loop-place.place in
    let reply = c.index-replies-place.result in
    let entry : Entry = entry_of reply in
    let at = kept-at replies place reply c.loop-place-test.true c.index-replies-place.is in
    let mine : c.committed_by.result ≡ committed_by es entry =
    c.committed_by.ensures reply ∙ ap (committed_by es) (sym (asked-is replies place reply reply c.loop-place-test.true c.index-replies-place.is)) in
    record {
      pruned = sums-next pruned_by es at.front entry at.rest place at.whole at.far c.loop-place.pruned.items c.note_sum.new.sums.items c.loop-place.invariant.pruned
          (subst (λ (n : ℕ). n < 2 ^ 64) c.pruned_by.ensures c.pruned_by.type_inv) (nat_lt 0 (pruned_by entry)) (none-there (pruned_by entry))
          (noted c.note_sum.new.sums.items c.loop-place.pruned.items place c.pruned_by.result (pruned_by entry) c.in_ok-note_sum.ensures c.pruned_by.ensures);
      moved = sums-next moved_by es at.front entry at.rest place at.whole at.far c.loop-place.moved.items c.note_sum-in-loop-place.new.sums.items c.loop-place.invariant.moved
          (subst (λ (n : ℕ). n < 2 ^ 64) c.moved_by.ensures c.moved_by.type_inv) (nat_lt 0 (moved_by entry)) (none-there (moved_by entry))
          (noted c.note_sum-in-loop-place.new.sums.items c.loop-place.moved.items place c.moved_by.result (moved_by entry) c.in_ok-note_sum-2.ensures c.moved_by.ensures);
      committed = sums-next (committed_by es) es at.front entry at.rest place at.whole at.far c.loop-place.committed.items c.note_sum-in-loop-place-2.new.sums.items c.loop-place.invariant.committed
          (subst (λ (n : ℕ). n < 2 ^ 64) mine c.committed_by.type_inv) (nat_lt 0 (committed_by es entry)) (none-there (committed_by es entry))
          (noted c.note_sum-in-loop-place-2.new.sums.items c.loop-place.committed.items place c.committed_by.result (committed_by es entry) c.in_ok-note_sum-3.ensures mine);
    }
