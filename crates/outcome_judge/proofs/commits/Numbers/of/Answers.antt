use Rattle.std.proofs.Common.{◌∙◌, ap, sym, ℕ}
use Rattle.std.specs.List.{filter, range_with_len}
use Rattle.std.specs.Prelude.{◌&&◌, nat_lt}
use Rattle.std.proofs.lemmas.List.FromFn.{length-map-range_with_len}
use Rattle.isolation_spec.specs.Machine.{write_set_at}
use Rattle.output_read.specs.Kept.{entries_of}
use Rattle.outcome_spec.specs.Runs.{commit_count, committed_writes, transactions_of}
use Rattle.outcome_judge.specs.Targets.{wrote}
use Rattle.outcome_judge.specs.Writers.{history_in}
use Rattle.outcome_judge.proofs.commits.Numbers.of.Goals as goal

pub returns : goal.returns
returns c =
    let entries = entries_of c.args.replies.now in
    let long = length-map-range_with_len (committed_writes entries (transactions_of entries)) 1 (commit_count entries) in
    let its = c.in_ok-numbers.ensures in
    record {
      rise = λ of. its.rise of;
      numbers = λ of. its.numbers of
          ∙ ap (λ (n : ℕ). filter (λ number. nat_lt 0 number && wrote of (write_set_at (history_in entries) number)) (range_with_len 1 n)) (c.requires.count ∙ sym long);
      lines = c.in_ok-lines_of.ensures;
    }
