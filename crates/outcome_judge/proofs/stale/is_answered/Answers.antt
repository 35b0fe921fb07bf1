use Rattle.std.proofs.Common.{◌≡◌, ◌∙◌, ◌<◌, ◌≤◌, ℕ, Bool, List, Option, length, drop, sym, ap, arith}
use Rattle.std.specs.Prelude.{◌+◌, slice_index_or, unwrap_or}
use Rattle.workload_spec.specs.declared.reply.Who.{Who}
use Rattle.output_read.specs.Kept.{entries_of, entry_of}
use Rattle.output_read.specs.declared.kept.KeptReply.{KeptReply}
use Rattle.outcome_counts.specs.Asked.{asked_at}
use Rattle.outcome_counts.proofs.Asked.{asked-is}
use Rattle.outcome_spec.specs.Entries.{Entry}
use Rattle.outcome_judge.specs.Stale.{answers}
use Rattle.outcome_judge.specs.Threads.{told_by}
use Rattle.outcome_judge.specs.declared.stale.Question.{Question}
use Rattle.outcome_judge.proofs.Threads.{any_own, none-kept, opened-any, own-step}
use Rattle.outcome_judge.proofs.stale.is_answered.Goals as goal

-- What was asked of the replies that were read is what is asked of those at their places.
answer-is : (replies : List KeptReply) (opening at place : ℕ) (question : Question) (first by its none : KeptReply) (answer : Option Bool) → opening < length replies → at < length replies → place < length replies
    → first ≡ slice_index_or replies opening first → by ≡ slice_index_or replies at by → its ≡ slice_index_or replies place its → answer ≡ told_by (slice_index_or replies opening first).who (answers (entry_of by) question) (entry_of its)
    → told_by (asked_at replies opening none).reply.who (answers (asked_at replies at none) question) (asked_at replies place none) ≡ answer
answer-is replies opening at place question first by its none answer opened inside here first_is by_is its_is h =
    sym (h
    ∙ ap (λ (k : KeptReply). told_by k.who (answers (entry_of by) question) (entry_of its)) (sym first_is)
    ∙ ap (λ (e : Entry). told_by e.reply.who (answers (entry_of by) question) (entry_of its)) (asked-is replies opening first none opened first_is)
    ∙ ap (λ (e : Entry). told_by (asked_at replies opening none).reply.who (answers e question) (entry_of its)) (asked-is replies at by none inside by_is)
    ∙ ap (told_by (asked_at replies opening none).reply.who (answers (asked_at replies at none) question)) (asked-is replies place its none here its_is))

pub returns-in-Some : goal.returns-in-Some
returns-in-Some c = λ none t opened.
    let replies = c.args.replies.now in
    let opening : ℕ = c.args.opening in
    let place : ℕ = c.loop-place.place in
    let test = answers (asked_at replies c.args.at none) c.args.question in
    let who : Who = (asked_at replies opening none).reply.who in
    let is = answer-is replies opening c.args.at place c.args.question c.index-replies-opening.result c.index-replies-at.result c.index-replies-place.result none c.asked_of.result c.requires.opened c.requires.inside c.loop-place-test.true c.index-replies-opening.is c.index-replies-at.is c.index-replies-place.is c.asked_of.ensures in
    sym (sym (opened-any test replies opening c.requires.opened none t opened)
    ∙ c.loop-place.invariant none
    ∙ own-step who test replies place c.loop-place-test.true none
    ∙ ap (λ (o : Option Bool). unwrap_or o (any_own who test (drop (place + 1) (entries_of replies)))) (is ∙ c.in-Some.is))

pub loop-place-preserved : goal.loop-place-preserved
loop-place-preserved c = λ none.
    let replies = c.args.replies.now in
    let opening : ℕ = c.args.opening in
    let place : ℕ = c.loop-place.place in
    let test = answers (asked_at replies c.args.at none) c.args.question in
    let who : Who = (asked_at replies opening none).reply.who in
    let is = answer-is replies opening c.args.at place c.args.question c.index-replies-opening.result c.index-replies-at.result c.index-replies-place.result none c.asked_of.result c.requires.opened c.requires.inside c.loop-place-test.true c.index-replies-opening.is c.index-replies-at.is c.index-replies-place.is c.asked_of.ensures in
    c.loop-place.invariant none
    ∙ own-step who test replies place c.loop-place-test.true none
    ∙ ap (λ (o : Option Bool). unwrap_or o (any_own who test (drop (place + 1) (entries_of replies)))) (is ∙ c.in_default.is)

pub returns : goal.returns
returns c = λ none t opened.
    let replies = c.args.replies.now in
    let past = c.loop-place-test.false in
    let most : length replies ≤ c.loop-place.place = omega (arith, past) in
    let test = answers (asked_at replies c.args.at none) c.args.question in
    sym (sym (opened-any test replies c.args.opening c.requires.opened none t opened) ∙ c.loop-place.invariant none ∙ none-kept (asked_at replies c.args.opening none).reply.who test replies c.loop-place.place most)
