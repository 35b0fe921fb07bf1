use Rattle.std.proofs.Common.{◌≡◌, ◌∙◌, ap, sym, ℕ, Option, None, Some, false}
use Rattle.std.specs.List.{list_any}
use Rattle.std.specs.Option.{option_map_or}
use Rattle.std.specs.Prelude.{option_and_then, is_some}
use Rattle.outcome_spec.specs.Runs.{Span, accepted_write}
use Rattle.output_read.specs.Kept.{entries_of}
use Rattle.outcome_counts.specs.Openings.{opened_at, opening_of}
use Rattle.outcome_counts.proofs.Written.{transaction-asked, written-by}
use Rattle.outcome_counts.proofs.spans.Spans.has_written.Goals as goal

pub returns-in-Some : goal.returns-in-Some
returns-in-Some c = λ tables none.
    let replies = c.args.replies.now in
    let es = entries_of replies in
    let spans = c.args.self.now in
    let s : ℕ = c.in-Some.opening in
    let opening : opening_of spans.openings.items c.args.at ≡ Some s = sym c.in-Some.ensures.opening in
    let its = transaction-asked replies spans.openings.items c.requires.spans.openings c.args.at c.requires.inside none ∙ ap (option_and_then (λ place. opened_at place es)) opening in
    written-by (opened_at s es) c.writes_of.result (c.requires.spans.openings.there c.args.at s opening) c.writes_of.ensures
    ∙ ap (λ (o : Option Span). option_map_or (λ t. list_any (λ other. is_some (accepted_write other)) t.replies) o false) (sym its)

pub returns-in-None : goal.returns-in-None
returns-in-None c = λ tables none.
    let replies = c.args.replies.now in
    let es = entries_of replies in
    let spans = c.args.self.now in
    let opening : opening_of spans.openings.items c.args.at ≡ None = sym c.in-None.ensures.opening in
    let its = transaction-asked replies spans.openings.items c.requires.spans.openings c.args.at c.requires.inside none ∙ ap (option_and_then (λ place. opened_at place es)) opening in
    ap (λ (o : Option Span). option_map_or (λ t. list_any (λ other. is_some (accepted_write other)) t.replies) o false) (sym its)
