use Rattle.std.proofs.Common.{◌≡◌, ◌∙◌, ap, sym, ℕ, Bool, List, Option, None, Some, false, nat_lt}
use Rattle.std.specs.Option.{option_map_or}
use Rattle.std.specs.Prelude.{slice_index_or, if◌then◌else◌}
use Rattle.std.proofs.lemmas.List.{get_or_default}
use Rattle.mark_index.specs.Lists.{marks_at, with_mark}
use Rattle.mark_index.specs.Marks.{next_peak}
use Rattle.output_read.specs.Kept.{entries_of, entry_of}
use Rattle.output_read.specs.declared.kept.KeptReply.{KeptReply}
use Rattle.order_laws.specs.Places.{own_start}
use Rattle.outcome_counts.specs.Asked.{asked_at}
use Rattle.outcome_counts.specs.BlockMarks.{starts_in}
use Rattle.outcome_counts.specs.declared.stretch.Stretch.{Stretch}
use Rattle.outcome_counts.proofs.Starts.{kept-at, start-at}
use Rattle.outcome_spec.specs.Entries.{Entry}
use Rattle.outcome_spec.specs.Runs.{commit_count, committed_writes, transactions_of}
use Rattle.outcome_judge.specs.Targets.{target_cmp, wrote}
use Rattle.outcome_judge.specs.declared.changes.Change.{Change}
use Rattle.outcome_judge.specs.declared.keys.Target.{Target}
use Rattle.outcome_judge.specs.Writers.{is_written, line_told, value_at}
use Rattle.outcome_judge.proofs.Numbering.{on-each-of, wrote-line, wrote_from}
use Rattle.outcome_judge.proofs.Valuing.{line-first, line-marks, no-marks, value-is}
use Rattle.outcome_judge.proofs.writers.Written.note_line.Goals as goal

abbrev told_of : List Entry → Target → Option ℕ → ℕ
told_of entries of shown = option_map_or (λ number. if wrote of (committed_writes entries (transactions_of entries) number) then number else 0) shown 0

pub returns-in_default : goal.returns-in_default
returns-in_default c = λ none of.
    let replies = c.args.replies.now in
    let entries = entries_of replies in
    let place : ℕ = c.args.place in
    let reply : KeptReply = slice_index_or replies place none in
    let at = kept-at replies place reply c.requires.inside (get_or_default replies place none reply c.requires.inside) in
    let told : line_told entries (commit_count entries) place (entry_of reply) ≡ None = ap (λ (n : ℕ). line_told entries n place (entry_of reply)) (sym c.requires.count) ∙ sym (c.line_at.ensures none) ∙ c.in_default.is in
    no-marks (value_at entries of (entry_of reply)) place (starts_in entries place) (marks_at target_cmp c.args.peaks.now of)
    (value-is entries at.front (entry_of reply) at.rest place at.whole at.far c.requires.written.output.rises of ∙ ap (told_of entries of) told)

pub returns-in_default-opening_at : goal.returns-in_default-opening_at
returns-in_default-opening_at c = λ none of.
    let replies = c.args.replies.now in
    let entries = entries_of replies in
    let its = c.requires.written in
    let written = c.args.self.now in
    let place : ℕ = c.args.place in
    let number : ℕ = c.in-Some.number in
    let reply : KeptReply = slice_index_or replies place none in
    let at = kept-at replies place reply c.requires.inside (get_or_default replies place none reply c.requires.inside) in
    let told : line_told entries (commit_count entries) place (entry_of reply) ≡ Some number = ap (λ (n : ℕ). line_told entries n place (entry_of reply)) (sym c.requires.count) ∙ sym (c.line_at.ensures none) ∙ c.in-Some.is in
    let line = line-first entries (commit_count entries) place number (entry_of reply) told in
    let did : wrote of (committed_writes entries (transactions_of entries) number) ≡ false =
    wrote-line written.openings.now entries its.output written.changes.now its.changes of number (Some place) line.first
    ∙ ap (λ (o : Option ℕ). wrote_from written.openings.now entries its.output written.changes.now its.changes of place o) (sym c.opening_at.ensures ∙ c.in_default-opening_at.is) in
    no-marks (value_at entries of (entry_of reply)) place (starts_in entries place) (marks_at target_cmp c.args.peaks.now of)
    (value-is entries at.front (entry_of reply) at.rest place at.whole at.far its.output.rises of ∙ ap (told_of entries of) told ∙ ap (λ (b : Bool). if b then number else 0) did)

pub returns : goal.returns
returns c =
    let replies = c.args.replies.now in
    let entries = entries_of replies in
    let its = c.requires.written in
    let written = c.args.self.now in
    let place : ℕ = c.args.place in
    let number : ℕ = c.in-Some.number in
    let old = λ (of : Target). marks_at target_cmp c.args.peaks.now of in
    let own : List Change = c.at.result.now in
    let start : ℕ = c.stretch_about-start.result.own_start in
    on-each-of c.note_peaks.result (λ (of : Target). marks_at target_cmp c.note_peaks.new.peaks of)
    (λ (of : Target). with_mark (is_written of place own) (next_peak (old of) place start number) (old of))
    (λ (none : KeptReply) (of : Target). with_mark (nat_lt 0 (value_at entries of (asked_at replies place none))) (next_peak (old of) place (starts_in entries place) (value_at entries of (asked_at replies place none))) (old of))
    c.note_peaks.ensures
    (λ none of.
    let reply : KeptReply = slice_index_or replies place none in
    let at = kept-at replies place reply c.requires.inside (get_or_default replies place none reply c.requires.inside) in
    let told : line_told entries (commit_count entries) place (entry_of reply) ≡ Some number = ap (λ (n : ℕ). line_told entries n place (entry_of reply)) (sym c.requires.count) ∙ sym (c.line_at.ensures none) ∙ c.in-Some.is in
    let line = line-first entries (commit_count entries) place number (entry_of reply) told in
    let did : wrote of (committed_writes entries (transactions_of entries) number) ≡ is_written of place own =
    wrote-line written.openings.now entries its.output written.changes.now its.changes of number (Some place) line.first
    ∙ ap (λ (o : Option ℕ). wrote_from written.openings.now entries its.output written.changes.now its.changes of place o) (sym c.opening_at.ensures ∙ c.in-Some-opening_at.is)
    ∙ ap (λ (changes : List Change). is_written of place changes) (sym c.at.ensures) in
    let value : value_at entries of (entry_of reply) ≡ (if is_written of place own then number else 0) =
    value-is entries at.front (entry_of reply) at.rest place at.whole at.far its.output.rises of ∙ ap (told_of entries of) told ∙ ap (λ (b : Bool). if b then number else 0) did in
    let begins : start ≡ starts_in entries place =
    ap (λ (s : Stretch). s.own_start) (c.stretch_about-start.ensures reply) ∙ ap (λ (k : KeptReply). own_start entries (entry_of k)) (at.there reply) ∙ sym (start-at entries at.front (entry_of reply) at.rest place at.whole at.far) in
    ap (λ (n : ℕ). with_mark (is_written of place own) (next_peak (old of) place n number) (old of)) begins
    ∙ line-marks (is_written of place own) number (value_at entries of (entry_of reply)) place (starts_in entries place) (old of) line.low value)
