use Rattle.std.proofs.Common.{◌≡◌, ◌∙◌, ap, sym, Bool, true, false}
use Rattle.std.specs.Option.{option_map_or}
use Rattle.std.specs.Prelude.{if◌then◌else◌}
use Rattle.outcome_spec.specs.Entries.{Entry, is_commit}
use Rattle.outcome_spec.specs.Runs.{transaction_with, transactions_of}
use Rattle.output_read.specs.Kept.{entries_of}
use Rattle.outcome_counts.specs.Asked.{asked_at}
use Rattle.outcome_counts.proofs.Asked.{asked-is}
use Rattle.outcome_counts.specs.Written.{writes_of}
use Rattle.outcome_counts.proofs.spans.Spans.committed_by.Goals as goal

pub returns-then-is_commit : goal.returns-then-is_commit
returns-then-is_commit c = λ none.
    let replies = c.args.replies.now in
    let es = entries_of replies in
    let entry = asked_at replies c.args.at none in
    let is = asked-is replies c.args.at c.index-replies-at.result none c.requires.inside c.index-replies-at.is in
    let commits : is_commit entry.reply.said ≡ true = ap (λ (e : Entry). is_commit e.reply.said) (sym is) ∙ sym c.is_commit.ensures ∙ c.if-is_commit.true in
    c.own_writes.ensures none ∙ ap (λ (b : Bool). if b then option_map_or writes_of (transaction_with (transactions_of es) entry) 0 else 0) (sym commits)

pub returns-else-is_commit : goal.returns-else-is_commit
returns-else-is_commit c = λ none.
    let replies = c.args.replies.now in
    let es = entries_of replies in
    let entry = asked_at replies c.args.at none in
    let is = asked-is replies c.args.at c.index-replies-at.result none c.requires.inside c.index-replies-at.is in
    let commits : is_commit entry.reply.said ≡ false = ap (λ (e : Entry). is_commit e.reply.said) (sym is) ∙ sym c.is_commit.ensures ∙ c.if-is_commit.false in
    ap (λ (b : Bool). if b then option_map_or writes_of (transaction_with (transactions_of es) entry) 0 else 0) (sym commits)
