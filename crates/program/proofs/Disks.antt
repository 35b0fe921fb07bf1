-- What calls of a run leave of its disk.
use Rattle.std.proofs.Common.{◌≡◌, ℕ, ◌≤◌, Option, List, refl, subst, sym}
use Rattle.commit_log.proofs.Watching.{no_call, one_call}
use Rattle.commit_log.specs.Readings.{OnlyReads}
use Rattle.disk_ports.specs.Crashes.{Elapses, LeavesOnly, NoMore}
use Rattle.program.specs.Outcome.{IsLeft, of_disk}

module _ {D : Type 0} (told : D → Option (List ℕ)) (may_leave : D → List ℕ → Type 0) (moment : D → ℕ) (left_since : D → ℕ → List ℕ → Type 0) where
  -- A disk that is the same was only read.
  pub same_reads : ((disk : D) (c : List ℕ) → left_since disk (moment disk) c → may_leave disk c)
      → (old new : D) → new ≡ old → OnlyReads told may_leave moment left_since old new
  same_reads only_now old new same =
      subst (λ (d : D). OnlyReads told may_leave moment left_since old d) (sym same) (no_call told may_leave moment left_since only_now old)

  -- So it is left as it was.
  pub is_left : ((disk : D) (c : List ℕ) → left_since disk (moment disk) c → may_leave disk c)
      → (started : D → Option (List (List ℕ))) (disk : D) → IsLeft (of_disk told started may_leave moment left_since disk disk)
  is_left only_now started disk = record { unstarted = refl; only_read = no_call told may_leave moment left_since only_now disk }

  -- Two calls that change nothing, one behind the other.
  pub two_calls : ((disk : D) (c : List ℕ) → left_since disk (moment disk) c → may_leave disk c)
      → (old mid new : D) → told mid ≡ told old → NoMore (may_leave old) (may_leave mid)
      → Elapses (moment old) (moment mid) (left_since old) (left_since mid) (may_leave mid)
      → told new ≡ told mid → NoMore (may_leave mid) (may_leave new)
      → Elapses (moment mid) (moment new) (left_since mid) (left_since new) (may_leave new)
      → OnlyReads told may_leave moment left_since old new
  two_calls only_now old mid new same no_more time same' no_more' time' =
      one_call told may_leave moment left_since old mid new
      (one_call told may_leave moment left_since old old mid (no_call told may_leave moment left_since only_now old) same no_more time)
      same' no_more' time'

  -- Calls that leave what was told, and what a crash might have left, only read.
  pub opening_reads : ((disk : D) (t : ℕ) (c : List ℕ) → t ≤ moment disk → may_leave disk c → left_since disk t c)
      → (old new : D) → told new ≡ told old → LeavesOnly moment left_since old new (may_leave old)
      → OnlyReads told may_leave moment left_since old new
  opening_reads counts_now old new same leaves = record {
    same = same;
    no_more = λ c now. leaves.each c (counts_now new (moment old) c leaves.later now);
    any_moment = leaves;
  }
