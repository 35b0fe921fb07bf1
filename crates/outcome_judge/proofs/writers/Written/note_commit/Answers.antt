use Rattle.std.proofs.Common.{◌≡◌, ◌∙◌, ap, sym, ℕ, Bool, List, Option, None, Some}
use Rattle.mark_index.specs.Lists.{marks_at, with_mark}
use Rattle.output_read.specs.Kept.{entries_of}
use Rattle.outcome_spec.specs.Runs.{commits_as, committed_writes, transactions_of}
use Rattle.outcome_judge.specs.Commits.{first_of}
use Rattle.outcome_judge.specs.Targets.{target_cmp, wrote}
use Rattle.outcome_judge.specs.declared.changes.Change.{Change}
use Rattle.outcome_judge.specs.declared.keys.Target.{Target}
use Rattle.outcome_judge.specs.Writers.{is_written}
use Rattle.outcome_judge.proofs.Numbering.{on-each, wrote-line, wrote_from}
use Rattle.outcome_judge.proofs.writers.Written.note_commit.Goals as goal

pub returns-in_default : goal.returns-in_default
returns-in_default c = λ of.
    let entries = entries_of c.args.replies.now in
    let its = c.requires.written in
    let written = c.args.self.now in
    let first : first_of (commits_as c.args.number) entries ≡ None = sym (c.first.ensures ∙ its.places c.args.number) ∙ c.in_default.is in
    sym (ap (λ (b : Bool). with_mark b c.args.number (marks_at target_cmp c.args.numbers.now of))
    (wrote-line written.openings.now entries its.output written.changes.now its.changes of c.args.number None first))

pub returns-in_default-opening_at : goal.returns-in_default-opening_at
returns-in_default-opening_at c = λ of.
    let entries = entries_of c.args.replies.now in
    let its = c.requires.written in
    let written = c.args.self.now in
    let place : ℕ = c.in-Some.place in
    let first : first_of (commits_as c.args.number) entries ≡ Some place = sym (c.first.ensures ∙ its.places c.args.number) ∙ c.in-Some.is in
    sym (ap (λ (b : Bool). with_mark b c.args.number (marks_at target_cmp c.args.numbers.now of))
    (wrote-line written.openings.now entries its.output written.changes.now its.changes of c.args.number (Some place) first
    ∙ ap (λ (o : Option ℕ). wrote_from written.openings.now entries its.output written.changes.now its.changes of place o) (sym c.opening_at.ensures ∙ c.in_default-opening_at.is)))

pub returns : goal.returns
returns c =
    let entries = entries_of c.args.replies.now in
    let its = c.requires.written in
    let written = c.args.self.now in
    let place : ℕ = c.in-Some.place in
    let number : ℕ = c.args.number in
    let first : first_of (commits_as number) entries ≡ Some place = sym (c.first.ensures ∙ its.places number) ∙ c.in-Some.is in
    on-each c.note_numbers.result (λ (of : Target). marks_at target_cmp c.note_numbers.new.numbers of)
    (λ (of : Target). with_mark (is_written of place c.at.result.now) number (marks_at target_cmp c.args.numbers.now of))
    (λ (of : Target). with_mark (wrote of (committed_writes entries (transactions_of entries) number)) number (marks_at target_cmp c.args.numbers.now of))
    c.note_numbers.ensures
    (λ of. sym (ap (λ (b : Bool). with_mark b number (marks_at target_cmp c.args.numbers.now of))
    (wrote-line written.openings.now entries its.output written.changes.now its.changes of number (Some place) first
    ∙ ap (λ (o : Option ℕ). wrote_from written.openings.now entries its.output written.changes.now its.changes of place o) (sym c.opening_at.ensures ∙ c.in-Some-opening_at.is)
    ∙ ap (λ (own : List Change). is_written of place own) (sym c.at.ensures))))
