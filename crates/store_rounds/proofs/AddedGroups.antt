-- The groups of a round: what was taken of a row, and what is added to a log.
use Rattle.std.proofs.Common.{◌≡◌, ℕ, ◌<◌, ◌^◌, ◌==◌, Bool, false, List, [], ◌++◌, map, length, take, Option, Some, Result, Ok, Err, sym, ap, ◌∙◌, subst, true≢false}
use Rattle.std.specs.Prelude.{◌≢◌, IfOk}
use Rattle.std.specs.declared.alloc.AllocError.{AllocError}
use Rattle.std.specs.Global.{Vec as GlobalVec}
use Rattle.std.specs.List.Sorted.{IsNonDecreasingBy, IsPermutation}
use Rattle.cell_model.specs.declared.table.TableDecl.{TableDecl}
use Rattle.commit_log.specs.declared.log.Log.{Log}
use Rattle.isolation_spec.specs.Contents.{History, WriteSet}
use Rattle.log_spec.specs.LogText.{payload_text}
use Rattle.log_spec.specs.Reading.{IsGroupOf}
use Rattle.run_spec.specs.Commits.{write_sets}
use Rattle.run_spec.specs.declared.commit.Commit.{Commit}
use Rattle.shared_store.specs.Store.{handed_over}
use Rattle.shared_store.specs.declared.session.Session.{Session}
use Rattle.store_rounds.specs.Adding.{AddsGroup, EndsRound, MayBeAdded}
use Rattle.store_rounds.specs.Grouped.{AreByNumber, HandedOver, TookGroup, kept_in}
use Rattle.store_rounds.specs.declared.fault.RunFault.{RunFault}
use Rattle.store_rounds.specs.declared.fault.RunFault.TheVariants as fault
use Rattle.store_rounds.proofs.HandedOver.{front_taken}
use Rattle.store_rounds.proofs.Logged.{failed_as}

-- A group that is not told empty has a commit.
pub has_commits : (group : History) (empty : Bool) → empty ≡ (length group == 0) → empty ≡ false → group ≢ []
has_commits group empty is not_empty = λ none. absurd (true≢false (sym (ap (λ (g : History). length g == 0) none) ∙ sym is ∙ not_empty))

-- A group of some commits that fits is one that a record may have.
pub is_group : (tables : List TableDecl) (group : History) (empty : Bool) → empty ≡ (length group == 0) → empty ≡ false → length (payload_text group) < 2 ^ 32
    → MayBeAdded tables group → IsGroupOf tables group
is_group tables group empty is not_empty short may = record {
  some = has_commits group empty is not_empty;
  few = may.few;
  each = may.each;
  short = short;
}

-- What was taken of the first part of a row, sorted.
pub took_group : (n : ℕ) (front now back row : List Session) (commits sorted : List Commit) (r : Result (GlobalVec WriteSet) AllocError)
    → row ≡ front ++ back → front ≡ take n row → length front ≡ n → now ≡ map handed_over front → commits ≡ kept_in front
    → IsPermutation commits sorted → IsNonDecreasingBy (λ (commit : Commit). commit.number) sorted
    → IfOk r (λ sets. sets.items ≡ write_sets sorted) → IfOk r (λ group. TookGroup n row (now ++ back) group.items)
took_group n front now back row commits sorted (Err failed) parted first size handed kept same rises sets = tt
took_group n front now back row commits sorted (Ok group) parted first size handed kept same rises sets = record {
  taken = subst (λ (old : List Session). HandedOver n old (now ++ back)) (sym parted)
      (subst (λ (its : List Session). HandedOver n (front ++ back) (its ++ back)) (sym handed) (front_taken n front back (sym size)));
  sets = record {
    sorted = sorted;
    same = subst (λ (its : List Commit). IsPermutation its sorted) (kept ∙ ap kept_in first) same;
    rises = rises;
    sets_are = sets;
  };
}

-- A group that was not added was not taken into the log.
pub not_added : {D : Type 0} (told : D → Option (List ℕ)) (moment : D → ℕ) (left_since : D → ℕ → List ℕ → Type 0) (may_leave : D → List ℕ → Type 0)
    (T U : Type 0) (sessions : ℕ) (row now : List Session) (log : Option Log) (its its_now : Log) (later : Option Log) (old new : D) (group : History) (failed : RunFault)
    → log ≡ Some its → AreByNumber (kept_in (take sessions row)) group → length (payload_text group) < 2 ^ 32
    → AddsGroup told moment left_since may_leave group its its_now old new (failed_as U failed)
    → EndsRound told moment left_since may_leave sessions row now log later old new (failed_as T failed)
not_added told moment left_since may_leave T U sessions row now log its its_now later old new group failed is sets short adds =
    subst (λ (l : Option Log). EndsRound told moment left_since may_leave sessions row now l later old new (failed_as T failed)) (sym is) (by failed adds)
  where
    by : (failed : RunFault) → AddsGroup told moment left_since may_leave group its its_now old new (failed_as U failed)
        → EndsRound told moment left_since may_leave sessions row now (Some its) later old new (failed_as T failed)
    by fault.Out adds = absurd adds
    by fault.Export adds = absurd adds
    by fault.Memory adds = adds
    by fault.Log adds = record { group = group; sets = sets; short = short; failed = adds }
    by fault.GroupTooLong adds = absurd adds
