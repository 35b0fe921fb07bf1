use Rattle.std.proofs.Common.{◌≡◌, ◌∙◌, ap, sym, ℕ, Option, None, Some, true, refl}
use Rattle.std.specs.Prelude.{is_some, option_and_then, option_map}
use Rattle.outcome_spec.specs.Entries.{commit_in}
use Rattle.outcome_spec.specs.Runs.{Span, ending_of}
use Rattle.output_read.specs.Kept.{entries_of}
use Rattle.outcome_counts.specs.Openings.{opened_at, opening_of}
use Rattle.outcome_counts.proofs.Written.{transaction-asked}
use Rattle.outcome_judge.specs.Writers.{transaction_told}
use Rattle.outcome_judge.proofs.transactions.transaction_at.Goals as goal

told-found : (o : Option Span) (snapshot : ℕ) (committed : Option ℕ) → is_some o ≡ true → ((t : Span) → o ≡ Some t → snapshot ≡ t.snapshot)
    → ((t : Span) → o ≡ Some t → committed ≡ option_and_then (λ ending. commit_in ending.reply.said) (ending_of t))
    → option_map transaction_told o ≡ Some (record { snapshot = snapshot; committed = committed })
told-found None snapshot committed there shown ended = absurd (let never : ⊥ = cc in never)
told-found (Some t) snapshot committed there shown ended =
    ap (λ (n : ℕ). Some (record { snapshot = n; committed = option_and_then (λ ending. commit_in ending.reply.said) (ending_of t) })) (sym (shown t refl))
    ∙ ap (λ (n : Option ℕ). Some (record { snapshot = snapshot; committed = n })) (sym (ended t refl))

pub returns-in-None : goal.returns-in-None
returns-in-None c = λ none tables.
    let replies = c.args.replies.now in
    let es = entries_of replies in
    let spans = c.args.spans.now in
    let opening : opening_of spans.openings.items c.args.at ≡ None = sym c.in-None.ensures.opening in
    let its = transaction-asked replies spans.openings.items c.requires.spans.openings c.args.at c.requires.inside none ∙ ap (option_and_then (λ place. opened_at place es)) opening in
    ap (λ (o : Option Span). option_map transaction_told o) its

pub returns-in-Some : goal.returns-in-Some
returns-in-Some c = λ none tables.
    let replies = c.args.replies.now in
    let es = entries_of replies in
    let spans = c.args.spans.now in
    let s : ℕ = c.in-Some.opening in
    let opening : opening_of spans.openings.items c.args.at ≡ Some s = sym c.in-Some.ensures.opening in
    let its = transaction-asked replies spans.openings.items c.requires.spans.openings c.args.at c.requires.inside none ∙ ap (option_and_then (λ place. opened_at place es)) opening in
    ap (λ (o : Option Span). option_map transaction_told o) its
    ∙ told-found (opened_at s es) c.snapshot_of.result c.number_of.result (c.requires.spans.openings.there c.args.at s opening) c.snapshot_of.ensures c.number_of.ensures
