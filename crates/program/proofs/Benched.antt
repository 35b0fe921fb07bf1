-- That a generated workload ran, by what its run and its replies tell.
use Rattle.std.proofs.Common.{◌≡◌, ◌≤◌, ℕ, Bool, true, false, List, [], ◌++◌, Option, None, Some, Ok, refl, ap, ◌∙◌, subst, arith}
use Rattle.std.specs.Prelude.{IfSome, if◌then◌else◌}
use Rattle.outcome_spec.specs.Explained.{Explained, replies_of}
use Rattle.run_spec.specs.Ran.{Ran}
use Rattle.store_rounds.specs.Logging.{OfLogged}
use Rattle.store_rounds.specs.Workloads.{GoesWhole, WentBy}
use Rattle.workload_spec.specs.declared.script.Script.{Script}
use Rattle.bench_counts.specs.Told.{IsTold}
use Rattle.bench_spec.specs.Counted.{counted, was_refused}
use Rattle.bench_spec.specs.Generated.{generated}
use Rattle.bench_spec.specs.declared.counts.Counts.{Counts}
use Rattle.bench_script.specs.Laws.{most_size}
use Rattle.bench_laws.proofs.Told.{told-of}
use Rattle.bench_laws.proofs.Totals.{counted-are}
use Rattle.program.specs.Bench.{RanGenerated}

-- what was kept is the text
is_text : (script : Script) (old output : List ℕ) (sent sent_now : Option (List ℕ)) (Logs : OfLogged) → old ≡ []
    → (goes : GoesWhole (WentBy script sent sent_now Logs) script (Some old) (Some output)) → output ≡ goes.text
is_text script old output sent sent_now Logs none goes = goes.printed ∙ ap (λ (bytes : List ℕ). bytes ++ goes.text) none

-- A generated workload that went whole ran with the counts that are told of its output.
pub ran_generated : (seed size : ℕ) (script other : Script) (old output : List ℕ) (sent sent_now : Option (List ℕ)) (Logs : OfLogged) (told : Option Counts)
    → size ≤ most_size → script ≡ generated seed size → other ≡ generated seed size → old ≡ []
    → GoesWhole (WentBy script sent sent_now Logs) script (Some old) (Some output) → IsTold other output told → IfSome told (λ counts. RanGenerated seed size counts)
ran_generated seed size script other old output sent sent_now Logs None few is same_script none goes tells = tt
ran_generated seed size script other old output sent sent_now Logs (Some counts) few is same_script none goes tells = by (was_refused tells.replies) refl
  where
    by : (b : Bool) → was_refused tells.replies ≡ b → RanGenerated seed size counts
    by true refused = let told_none : Some counts ≡ None = tells.counted ∙ ap (λ (c : Bool). if c then None else Some (counted tells.replies)) refused in absurd cc
    by false spared =
        let some : Some counts ≡ Some (counted tells.replies) = tells.counted ∙ ap (λ (c : Bool). if c then None else Some (counted tells.replies)) spared in
        let are : counts ≡ counted tells.replies = cc in
        let explained = subst (λ (s : Script). Explained s goes.text) is goes.went.went.explained in
        let read : replies_of (generated seed size) goes.text ≡ Ok tells.replies =
        subst (λ (s : Script). replies_of s goes.text ≡ Ok tells.replies) same_script
        (subst (λ (t : List ℕ). replies_of other t ≡ Ok tells.replies) (is_text script old output sent sent_now Logs none goes) tells.read) in
        record {
          log = goes.went.went.log;
          text = goes.text;
          ran = subst (λ (s : Script). Ran s goes.went.went.log goes.text) is goes.went.went.ran;
          explained = explained;
          replies = tells.replies;
          read = read;
          spared = spared;
          counted_are = are;
          same = are ∙ counted-are seed size (omega (arith, few)) tells.replies
              (told-of seed size goes.text tells.replies explained read spared);
        }
