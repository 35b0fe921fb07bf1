use Rattle.std.proofs.Common.{◌≡◌, ◌∙◌, ◌<◌, ◌≤◌, ℕ, Bool, List, Option, length, drop, sym, ap, arith}
use Rattle.std.specs.Prelude.{◌+◌, slice_index_or, unwrap_or}
use Rattle.workload_spec.specs.declared.reply.Who.{Who}
use Rattle.output_read.specs.Kept.{entries_of}
use Rattle.output_read.specs.declared.kept.KeptReply.{KeptReply}
use Rattle.outcome_counts.specs.Asked.{asked_at}
use Rattle.outcome_counts.proofs.Asked.{asked-is}
use Rattle.outcome_spec.specs.Entries.{Entry}
use Rattle.outcome_judge.specs.Stale.{is_overtaken}
use Rattle.outcome_judge.specs.Threads.{told_by}
use Rattle.outcome_judge.proofs.Threads.{any_own, none-kept, opened-any, own-step}
use Rattle.outcome_judge.proofs.commits.Numbers.are_overtaken.Goals as goal

-- The reply that was read is the one that is asked.
told : (replies : List KeptReply) (opening place : ℕ) (first : KeptReply) (none : KeptReply) (test : Entry → Bool) (answer : Option Bool) → opening < length replies → first ≡ slice_index_or replies opening first
    → answer ≡ told_by (slice_index_or replies opening first).who test (asked_at replies place none) → told_by (asked_at replies opening none).reply.who test (asked_at replies place none) ≡ answer
told replies opening place first none test answer within is h =
    ap (λ (e : Entry). told_by e.reply.who test (asked_at replies place none)) (sym (asked-is replies opening first none within is)) ∙ ap (λ (k : KeptReply). told_by k.who test (asked_at replies place none)) is ∙ sym h

pub returns-in-Some : goal.returns-in-Some
returns-in-Some c = λ t opened.
    let replies = c.args.replies.now in
    let opening : ℕ = c.args.opening in
    let place : ℕ = c.loop-place.place in
    let none : KeptReply = c.index-replies-opening.result in
    let test = is_overtaken (entries_of replies) c.args.t in
    let who : Who = (asked_at replies opening none).reply.who in
    let is = told replies opening place c.index-replies-opening.result none test c.overtaken_by.result c.requires.opened c.index-replies-opening.is (c.overtaken_by.ensures none) in
    sym (sym (opened-any test replies opening c.requires.opened none t opened)
    ∙ c.loop-place.invariant none
    ∙ own-step who test replies place c.loop-place-test.true none
    ∙ ap (λ (o : Option Bool). unwrap_or o (any_own who test (drop (place + 1) (entries_of replies)))) (is ∙ c.in-Some.is))

pub loop-place-preserved : goal.loop-place-preserved
loop-place-preserved c = λ none.
    let replies = c.args.replies.now in
    let opening : ℕ = c.args.opening in
    let place : ℕ = c.loop-place.place in
    let test = is_overtaken (entries_of replies) c.args.t in
    let who : Who = (asked_at replies opening none).reply.who in
    let is = told replies opening place c.index-replies-opening.result none test c.overtaken_by.result c.requires.opened c.index-replies-opening.is (c.overtaken_by.ensures none) in
    c.loop-place.invariant none
    ∙ own-step who test replies place c.loop-place-test.true none
    ∙ ap (λ (o : Option Bool). unwrap_or o (any_own who test (drop (place + 1) (entries_of replies)))) (is ∙ c.in_default.is)

pub returns : goal.returns
returns c = λ t opened.
    let replies = c.args.replies.now in
    let none : KeptReply = c.index-replies-opening.result in
    let past = c.loop-place-test.false in
    let most : length replies ≤ c.loop-place.place = omega (arith, past) in
    let test = is_overtaken (entries_of replies) c.args.t in
    sym (sym (opened-any test replies c.args.opening c.requires.opened none t opened) ∙ c.loop-place.invariant none ∙ none-kept (asked_at replies c.args.opening none).reply.who test replies c.loop-place.place most)
