use Rattle.std.proofs.Common.{◌≡◌, ◌∙◌, ap, sym, List, map, subst, take, filter_map}
use Rattle.std.specs.Prelude.{◌+◌, option_map}
use Rattle.output_read.specs.Kept.{entry_of}
use Rattle.outcome_judge.specs.HistoryKept.{place_in}
use Rattle.outcome_judge.specs.Written.{written_by}
use Rattle.outcome_judge.specs.declared.keys.RowKey.{RowKey}
use Rattle.outcome_judge.proofs.KeyLists.{written-none, written-one}
use Rattle.outcome_judge.proofs.key_list.keys_written.Goals as goal
use Rattle.outcome_judge.proofs.key_list.keys_written.Goals.{in-Some+in_ok-push, in_default}

pub loop-reply-preserved : goal.loop-reply-preserved
loop-reply-preserved c =
    let replies = c.args.replies.now in
    let reply = c.reply-item.result in
    elim c.match-written_by.branch [
      | in-Some+in_ok-push w ↦
          subst (λ (keys : List RowKey). map place_in keys ≡ filter_map written_by (map entry_of (take (c.loop-reply.reply-index + 1) replies))) (sym (ap (λ k. k.items) w.keys-is ∙ w.in_ok-push.ensures.items))
          (written-one replies c.loop-reply.reply-index reply c.loop-reply-test.true c.reply-item.is c.loop-reply.keys.items w.in-Some.of (sym (ap (option_map place_in) w.in-Some.is) ∙ c.written_by.ensures) c.loop-reply.invariant)
      | in_default w ↦
          subst (λ (keys : List RowKey). map place_in keys ≡ filter_map written_by (map entry_of (take (c.loop-reply.reply-index + 1) replies))) (sym (ap (λ k. k.items) w.keys-is))
          (written-none replies c.loop-reply.reply-index reply c.loop-reply-test.true c.reply-item.is (sym c.written_by.ensures ∙ ap (option_map place_in) w.in_default.is) (map place_in c.loop-reply.keys.items) c.loop-reply.invariant)
    ]
