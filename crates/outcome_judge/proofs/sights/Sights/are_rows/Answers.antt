use Rattle.std.proofs.Common.{◌≡◌, ◌∙◌, ◌&&◌, ap, sym, ℕ, Bool, None, length}
use Rattle.std.proofs.lemmas.Bool.{eq-eqb}
use Rattle.isolation_spec.specs.Contents.{State}
use Rattle.output_read.specs.Kept.{entries_of}
use Rattle.outcome_judge.specs.ReadsJudged.{are_found}
use Rattle.outcome_judge.specs.Seen.{seen_up_to}
use Rattle.outcome_judge.specs.Timed.{rows_in}
use Rattle.outcome_judge.proofs.Scans.{scanned}
use Rattle.outcome_judge.proofs.Seen.{seen-keyed, seen-rises}
use Rattle.outcome_judge.proofs.sights.Sights.are_rows.Goals as goal

pub returns-then-rows-count : goal.returns-then-rows-count
returns-then-rows-count c =
    let entries = entries_of c.args.replies.now in
    let taken : ℕ = length c.args.replies.now in
    let seen : State = seen_up_to c.args.openings.now entries taken c.args.opening c.args.at in
    let many : length c.args.rows.now ≡ rows_in c.args.table seen = c.if-rows-count.true ∙ c.rows_seen-count.ensures in
    c.are_found-found.ensures
    ∙ ap (λ (b : Bool). b && are_found c.args.table seen None c.args.rows.now) (sym (eq-eqb (length c.args.rows.now) (rows_in c.args.table seen) many))
    ∙ scanned c.args.table seen c.args.rows.now (seen-rises c.args.openings.now entries taken c.args.opening c.args.at) (seen-keyed c.args.openings.now entries c.requires.output taken c.args.opening c.args.at)
