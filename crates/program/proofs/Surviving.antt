-- That the rounds of a run survive on its disk, by what stands behind the opening of its log.
use Rattle.std.proofs.Common.{◌≡◌, ◌⊎◌, ◌∙◌, ℕ, ◌≤◌, ◌+◌, List, [], ◌∷◌, length, add-one, Option, None, Some, inl, inr, refl, sym, ap, subst, append-nil, arith}
use Rattle.std.specs.Prelude.{IsSome}
use Rattle.std.specs.Option.{ForSome}
use Rattle.commit_log.specs.Commits.{StandsOf}
use Rattle.commit_log.specs.Readings.{OnlyReads}
use Rattle.commit_log.specs.declared.log.Log.{Log}
use Rattle.disk_ports.specs.Crashes.{LeavesOnly}
use Rattle.isolation_spec.specs.Contents.{History, rows_left}
use Rattle.log_spec.specs.Reading.{Gives, IsLogOf}
use Rattle.run_laws.specs.Recovery.Leaves.{LeavesRounds, Survives}
use Rattle.run_spec.specs.Ran.{RoundRun, shape_of}
use Rattle.store_rounds.specs.Logging.{ComesThrough, LogsRounds}
use Rattle.store_rounds.specs.Prepared.{IsFirstFull, begun_with}
use Rattle.workload_spec.specs.declared.script.Script.{Script}
use Rattle.program.specs.Opening.{MakesOrReads}

-- a file that is told, and empty if it is, is the empty one
pub is_empty : (file : Option (List ℕ)) → IsSome file → ForSome file (λ bytes. bytes ≡ []) → file ≡ Some []
is_empty None some empty = absurd (let no : ⊥ = cc in no)
is_empty (Some bytes) some empty = ap (λ (b : List ℕ). Some b) (empty bytes refl)

-- bytes of which there are none
pub no_bytes : (bytes : List ℕ) (size : ℕ) → size ≡ length bytes → size ≡ 0 → bytes ≡ []
no_bytes [] size is zero = refl
no_bytes (b ∷ bs) size is zero = absurd (let long : size ≡ length bs + 1 = is ∙ sym (add-one (length bs)) in omega (arith, long, zero))

-- What has the commits that the run began with leaves its rounds, where none ran.
first_left : (script : Script) (bytes : List ℕ) → Gives script.tables bytes script.begun → LeavesRounds script [] 0 bytes
first_left script bytes gives = record {
  count = 0;
  enough = omega arith;
  within = omega arith;
  gives = subst (Gives script.tables bytes) (sym (append-nil script.begun)) gives;
}

-- No commits leave no rows, which each table takes.
none_full : (script : Script) (table : ℕ) → IsFirstFull (shape_of (begun_with [] script)) table → ⊥
none_full script table full =
    let empty : length (rows_left [] table) ≡ 0 = refl in
    let more = full.more in
    omega (arith, more, empty)

module _ {D : Type 0} (told : D → Option (List ℕ)) (may_leave : D → List ℕ → Type 0) (moment : D → ℕ) (left_since : D → ℕ → List ℕ → Type 0) where
  -- A log that stands comes through no rounds.
  pub stands_through : ((disk : D) (c : List ℕ) → left_since disk (moment disk) c → may_leave disk c)
      → (disk : D) (log : Option Log) (script : Script) → LogsRounds told moment left_since may_leave disk disk log script [] 0
  stands_through only_now disk None script = tt
  stands_through only_now disk (Some log) script = λ stands.
      let left : (c : List ℕ) → may_leave disk c → LeavesRounds script [] 0 c = λ c leaves.
      first_left script c (log.payloads.gate, subst (λ (b : List ℕ). IsLogOf script.tables script.begun log.payloads.gate b) (sym (stands.only c leaves)) stands.is_log) in
      record {
        any_moment = record { later = omega arith; each = λ c since. left c (only_now disk c since); before = λ t c le since. inl since };
        kept = left;
      }

  -- Where a log was made on a file that is told, this was empty.
  quiet : (old mid : D) (commits : History) → IsSome (told old) → MakesOrReads told may_leave moment left_since old mid commits
      → (told old ≡ Some [] → ⊥) → LeavesOnly moment left_since old mid (may_leave old)
  quiet old mid commits some (inl made) full = absurd (full (is_empty (told old) some made.empty))
  quiet old mid commits some (inr reads) full = reads.any_moment

  module _ (old mid new : D) (script : Script) (rounds : List RoundRun) (printed : ℕ) where
    from_start : LeavesOnly moment left_since old mid (may_leave old) → (c : List ℕ) → left_since mid (moment old) c ⊎ LeavesRounds script rounds 0 c
        → may_leave old c ⊎ LeavesRounds script rounds 0 c
    from_start before c (inl was) = inl (before.each c was)
    from_start before c (inr leaves) = inr leaves

    -- What comes through from the opening on survives from the call's begin on.
    pub survives : moment old ≤ moment mid → (commits : History) → MakesOrReads told may_leave moment left_since old mid commits
        → (log : Log) → (IsSome (told old) → StandsOf script.tables (told mid) (may_leave mid) script.begun log)
        → LogsRounds told moment left_since may_leave mid new (Some log) script rounds printed
        → IsSome (told old) → Survives told moment left_since may_leave old new script rounds printed
    survives later commits opening log stands logs some =
        let through : ComesThrough moment left_since may_leave mid new script rounds printed = logs (stands some) in
        record {
          opened = moment mid;
          began = later;
          ended = through.any_moment.later;
          any_moment = λ c left. through.any_moment.each c left;
          from_start = λ full c left.
              from_start (quiet old mid commits some opening full) c (through.any_moment.before (moment old) c later left);
          kept = through.kept;
        }

  -- A log that leaves a table too many rows has commits, so that its file was only read.
  pub full_reads : (old mid new : D) (script : Script) (commits : History) (table : ℕ) → IsFirstFull (shape_of (begun_with commits script)) table
      → MakesOrReads told may_leave moment left_since old mid commits → new ≡ mid → OnlyReads told may_leave moment left_since old new
  full_reads old mid new script commits table full (inl made) same =
      absurd (none_full script table (subst (λ (first : History). IsFirstFull (shape_of (begun_with first script)) table) made.none full))
  full_reads old mid new script commits table full (inr reads) same = subst (λ (d : D). OnlyReads told may_leave moment left_since old d) (sym same) reads
