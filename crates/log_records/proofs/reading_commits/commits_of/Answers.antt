use Rattle.std.proofs.Common.{◌≡◌, ℕ, List, [], ◌∷◌, length, Err, sym, ◌∙◌, ap, subst, refl, arith, append-nil}
use Rattle.isolation_spec.specs.Contents.{History}
use Rattle.log_spec.specs.LogText.{payload_text}
use Rattle.log_records.specs.Front.{AreCounted, IsReadCommit, Takes}
use Rattle.log_records.proofs.Exits.{form_met}
use Rattle.log_records.proofs.Sets.{group_may, group_same}
use Rattle.log_records.proofs.reading_commits.commits_of.Goals as goal
use Rattle.log_records.proofs.reading_commits.commits_of.Goals.{else-len-eq0-via-then-len-eq0+else-not-is_empty, else-len-eq0-via-else-len-eq0}

pub returns-in_err-commits-clause-form : goal.returns-in_err-commits-clause-form
returns-in_err-commits-clause-form c = λ form commits is same.
    let met = form_met c.from_residual.result c.in_err-commits.field-0.0 c.from_residual.ensures.1 form in
    let none = c.in_err-commits.ensures.form (ap Err met) in
    none commits [] (group_may c.args.tables.now commits is) (c.new-reader.ensures ∙ sym same ∙ sym (append-nil (payload_text commits)))

pub returns-else-len-eq0-clause-form : goal.returns-else-len-eq0-clause-form
returns-else-len-eq0-clause-form c = λ _ commits is same.
    let both = group_same c.args.tables.now c.args.payload.now c.read_commits.new.reader c.in_ok-commits.commits.items commits
    (subst (λ (l : List ℕ). Takes (AreCounted (IsReadCommit c.args.tables.now)) payload_text l c.read_commits.new.reader c.in_ok-commits.commits.items) c.new-reader.ensures
    c.in_ok-commits.ensures.commits) is same in
    let len = c.len.ensures in
    let left : length c.read_commits.new.reader ≡ 0 = ap length both.1 in
    elim c.else-len-eq0.branch [
      | else-len-eq0-via-then-len-eq0+else-not-is_empty w ↦
          is.some (sym both.0 ∙ empty c.in_ok-commits.commits.items (let e = w.is_empty.ensures in let t = w.if-not-is_empty.false in let k = c.in_ok-commits.commits.ok.0 in grind arith))
      | else-len-eq0-via-else-len-eq0 w ↦ let other = w.if-len-eq0.false in absurd (omega (arith, other, len, left))
    ]
  where
    empty : (commits : History) → length commits ≡ 0 → commits ≡ []
    empty [] none = refl
    empty (w ∷ commits) none = absurd (omega (arith, none))
