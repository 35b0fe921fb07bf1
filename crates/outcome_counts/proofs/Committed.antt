-- A commit by what it shows.
use Rattle.std.proofs.Common.{◌≡◌, ◌∙◌, ap, sym, ℕ, Bool, true, false, ◌&&◌, not, Option, None, Some, refl}
use Rattle.std.specs.Option.{option_map_or}
use Rattle.workload_spec.specs.declared.reply.Said.{Said}
use Rattle.workload_spec.specs.declared.reply.Said.TheVariants as said
use Rattle.outcome_spec.specs.Entries.{Entry}
use Rattle.outcome_spec.specs.Runs.{Run}
use Rattle.outcome_spec.specs.Numbers.{commit_holds, has_written, is_commit_number}
use Rattle.outcome_counts.specs.Commits.{committed, may_show}

-- a commit holds where it may show what it shows
pub commit-by : (run : Run) (entry : Entry) (told : Said) → commit_holds run entry told ≡ option_map_or (may_show run entry) (committed told) true
commit-by run entry (said.Committed None) = refl
commit-by run entry (said.Committed (Some number)) = refl
commit-by run entry _ = refl

-- ---- what may be shown, by whether the transaction has written

module _ (run : Run) (entry : Entry) (number : Option ℕ) where
  -- a commit may show no number where its transaction has not written
  pub shows-none : (written : Bool) → number ≡ None → written ≡ has_written run entry → not written ≡ may_show run entry number
  shows-none written is w = ap not w ∙ sym (ap (may_show run entry) is)

  -- where it has written it may show a commit's number
  pub shows-number : (written numbered : Bool) (n : ℕ) → number ≡ Some n → written ≡ has_written run entry → written ≡ true → numbered ≡ is_commit_number run entry n → numbered ≡ may_show run entry number
  shows-number written numbered n is w has k =
      k ∙ ap (λ (b : Bool). b && is_commit_number run entry n) (sym has ∙ w) ∙ sym (ap (may_show run entry) is)

  -- where it has not written it may show none
  pub shows-nothing : (written : Bool) (n : ℕ) → number ≡ Some n → written ≡ has_written run entry → written ≡ false → written ≡ may_show run entry number
  shows-nothing written n is w no_write =
      no_write ∙ ap (λ (b : Bool). b && is_commit_number run entry n) (sym no_write ∙ w) ∙ sym (ap (may_show run entry) is)
