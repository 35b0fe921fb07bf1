use Rattle.std.proofs.Common.{◌≡◌, ◌∙◌, ◌<◌, ◌≤◌, ap, sym, subst, ℕ, List, Some, None, length}
use Rattle.std.specs.List.{slice_get}
use Rattle.std.specs.Prelude.{option_and_then}
use Rattle.std.proofs.lemmas.Bool.{ltb-true}
use Rattle.std.proofs.lemmas.List.{length-map}
use Rattle.std.proofs.lemmas.Option.{slice_get_past}
use Rattle.outcome_spec.specs.Entries.{Entry, commit_in}
use Rattle.output_read.specs.Kept.{entries_of, entry_of}
use Rattle.outcome_counts.proofs.Starts.{kept-at, at-place, get-at}
use Rattle.outcome_counts.specs.Openings.{opened_at}
use Rattle.outcome_counts.proofs.Written.{ending-is, opens-session}
use Rattle.outcome_counts.proofs.spans.Spans.number_of.Goals as goal

pub returns-in-Some : goal.returns-in-Some
returns-in-Some c = λ t opened.
    let replies = c.args.replies.now in
    let es = entries_of replies in
    let long = length-map replies entry_of in
    let at = at-place es c.args.opening (subst (λ (n : ℕ). c.args.opening < n) (sym long) c.requires.inside) in
    let its = ap (λ (n : ℕ). opened_at n es) at.far ∙ opened in
    let session = opens-session es at.front at.item at.rest at.whole c.requires.outside t its in
    let end = c.end_of.ensures at.front at.item at.rest at.whole at.far session in
    let reply = c.in-Some.reply.now in
    let found = kept-at replies c.end_of.result reply (ltb-true c.end_of.result (length replies) (sym c.in-Some.ensures.lookup.0)) c.in-Some.ensures.lookup.1 in
    let there : slice_get es c.end_of.result ≡ Some (entry_of reply) =
    ap (slice_get es) (sym found.far) ∙ ap (λ (xs : List Entry). slice_get xs (length found.front)) found.whole ∙ get-at found.front (entry_of reply) found.rest in
    c.commit_told.ensures
    ∙ ap (option_and_then (λ (ending : Entry). commit_in ending.reply.said)) (sym (ending-is es at.front at.item at.rest at.whole c.requires.outside t its c.end_of.result end ∙ there))

pub returns-in-None : goal.returns-in-None
returns-in-None c = λ t opened.
    let replies = c.args.replies.now in
    let es = entries_of replies in
    let long = length-map replies entry_of in
    let at = at-place es c.args.opening (subst (λ (n : ℕ). c.args.opening < n) (sym long) c.requires.inside) in
    let its = ap (λ (n : ℕ). opened_at n es) at.far ∙ opened in
    let session = opens-session es at.front at.item at.rest at.whole c.requires.outside t its in
    let end = c.end_of.ensures at.front at.item at.rest at.whole at.far session in
    let past : slice_get es c.end_of.result ≡ None = slice_get_past es c.end_of.result (subst (λ (n : ℕ). n ≤ c.end_of.result) (sym long) c.in-None.ensures.lookup.3) in
    ap (option_and_then (λ (ending : Entry). commit_in ending.reply.said)) (sym (ending-is es at.front at.item at.rest at.whole c.requires.outside t its c.end_of.result end ∙ past))
