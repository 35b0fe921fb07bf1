use Rattle.std.proofs.Common.{◌≡◌, eqb, ℕ, List, true, arith}
use Rattle.std.proofs.lemmas.Bool.Decides.{nat_tests}
use Rattle.mark_index.proofs.Noted.{on-ok}
use Rattle.mark_index.specs.Lists.{marks_at}
use Rattle.outcome_judge.specs.HistoryKept.{place_in}
use Rattle.outcome_judge.specs.Targets.{target_cmp}
use Rattle.outcome_judge.proofs.Numbering.{none-same}
use Rattle.outcome_judge.proofs.Targets.{both-noted}
use Rattle.outcome_judge.proofs.writers.note_number.Goals as goal

pub returns : goal.returns
returns c = λ base put below marks.
    let number : ℕ = c.args.number in
    let itself : eqb number number ≡ true = grind (arith, nat_tests) in
    on-ok _ _ c.push_number-2.result
    (λ second.
    both-noted (λ (its : ℕ). eqb its number) (λ (ns : List ℕ). number) (place_in c.args.of) base (marks_at target_cmp c.args.numbers.now) (marks_at target_cmp c.push_number.new.self) (marks_at target_cmp c.push_number-2.new.self) put
    c.row_target.result c.table_target.result c.row_target.ensures c.table_target.ensures (λ of. itself) (λ of. none-same number (base of) (below of)) marks c.in_ok-push_number.ensures second)
    c.push_number-2.ensures
