-- How calls of a disk that change nothing go on.
use Rattle.std.proofs.Common.{◌≡◌, ◌∙◌, refl, ℕ, List, Option}
use Rattle.disk_ports.specs.Crashes.{Elapses, NoMore}
use Rattle.disk_ports.proofs.Moments.{goes_further, goes_on, started}
use Rattle.commit_log.specs.Readings.{OnlyReads}

module _ {D : Type 0} (told : D → Option (List ℕ)) (may_leave : D → List ℕ → Type 0)
    (moment : D → ℕ)
    (left_since : D → ℕ → List ℕ → Type 0) where
  -- before the first call
  pub no_call : ((disk : D) (c : List ℕ) → left_since disk (moment disk) c → may_leave disk c)
      → (disk : D) → OnlyReads told may_leave moment left_since disk disk
  no_call only_now disk = record {
    same = refl;
    no_more = λ c now. now;
    any_moment = started moment left_since disk (may_leave disk) (only_now disk);
  }

  -- one call more
  pub one_call : (old mid new : D) → OnlyReads told may_leave moment left_since old mid
      → told new ≡ told mid → NoMore (may_leave mid) (may_leave new)
      → Elapses (moment mid) (moment new) (left_since mid) (left_since new) (may_leave new)
      → OnlyReads told may_leave moment left_since old new
  one_call old mid new so_far same no_more time = record {
    same = same ∙ so_far.same;
    no_more = λ c now. so_far.no_more c (no_more c now);
    any_moment = goes_on moment left_since old mid new (may_leave old) (may_leave new)
        so_far.any_moment time (λ c now. so_far.no_more c (no_more c now));
  }

  -- a run of such calls behind another
  pub run_on : (old mid new : D) → OnlyReads told may_leave moment left_since old mid
      → OnlyReads told may_leave moment left_since mid new
      → OnlyReads told may_leave moment left_since old new
  run_on old mid new first next = record {
    same = next.same ∙ first.same;
    no_more = λ c now. first.no_more c (next.no_more c now);
    any_moment = goes_further moment left_since old mid new (may_leave old) (may_leave mid)
        (may_leave old) first.any_moment next.any_moment (λ c was. was)
        (λ c was. first.no_more c was);
  }
