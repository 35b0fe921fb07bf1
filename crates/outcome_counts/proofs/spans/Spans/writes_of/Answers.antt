use Rattle.std.proofs.Common.{◌≡◌, ◌∙◌, ap, sym, subst, ℕ, ◌+◌, ◌-◌, min, List, length}
use Rattle.std.specs.List.Sorted.{IsNonDecreasing}
use Rattle.std.proofs.lemmas.List.{length-map}
use Rattle.mark_index.specs.Marks.{count_below}
use Rattle.output_read.specs.Kept.{entries_of, entry_of}
use Rattle.outcome_counts.proofs.Starts.{kept-at}
use Rattle.outcome_counts.specs.Openings.{opened_at}
use Rattle.outcome_counts.proofs.Written.{writes-counted, opens-not-worker, opens-session}
use Rattle.outcome_counts.proofs.spans.Spans.writes_of.Goals as goal

pub returns-in_default : goal.returns-in_default
returns-in_default c = λ t opened.
    let replies = c.args.replies.now in
    let reply = c.index-replies-opening.result in
    let at = kept-at replies c.args.opening reply c.requires.inside c.index-replies-opening.is in
    opens-not-worker (entries_of replies) at.front (entry_of reply) at.rest at.whole c.requires.outside t (ap (λ (n : ℕ). opened_at n (entries_of replies)) at.far ∙ opened) c.in_default.not-Session

pub count_below-requires : goal.count_below-requires
count_below-requires c = subst IsNonDecreasing (sym c.at-places.ensures) (c.requires.spans.writes c.in-Session.session).rise

pub count_below-requires-2 : goal.count_below-requires-2
count_below-requires-2 c = subst IsNonDecreasing (sym c.at-places.ensures) (c.requires.spans.writes c.in-Session.session).rise

joined : (result a b from behind end count : ℕ) (read items : List ℕ) → result ≡ a - b → a ≡ count_below behind read → b ≡ count_below from read → behind ≡ min (end + 1) count → read ≡ items
    → result ≡ count_below (min (end + 1) count) items - count_below from items
joined result a b from behind end count read items is one two three four = cc

pub returns : goal.returns
returns c = λ t opened.
    let replies = c.args.replies.now in
    let es = entries_of replies in
    let reply = c.index-replies-opening.result in
    let at = kept-at replies c.args.opening reply c.requires.inside c.index-replies-opening.is in
    let its = ap (λ (n : ℕ). opened_at n es) at.far ∙ opened in
    let session = opens-session es at.front (entry_of reply) at.rest at.whole c.requires.outside t its in
    let end = c.end_of.ensures at.front (entry_of reply) at.rest at.whole at.far session in
    joined c.saturating_sub.result c.count_below.result c.count_below-2.result c.args.opening c.behind-behind.result c.end_of.result (length replies) c.at-places.result.now _
    c.saturating_sub.ensures c.count_below.ensures c.count_below-2.ensures c.behind-behind.ensures c.at-places.ensures
    ∙ writes-counted es at.front (entry_of reply) at.rest at.whole c.requires.outside t its c.in-Session.session (length replies) c.end_of.result c.args.opening _
    c.in-Session.is (length-map replies entry_of) at.far end (c.requires.spans.writes c.in-Session.session)
