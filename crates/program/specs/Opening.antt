-- How the log of a run is made or opened.
use Rattle.std.specs.Prelude.{◌≡◌, ◌⊎◌, ℕ, List, [], Option}
use Rattle.std.specs.Option.{ForSome}
use Rattle.commit_log.specs.Readings.{OnlyReads}
use Rattle.isolation_spec.specs.Contents.{History}

-- A log was made on a file, which was empty, and has no commit.
pub record IsMade (file : Option (List ℕ)) (commits : History) : Type 0 where
  pub empty : ForSome file (λ bytes. bytes ≡ [])
  pub none : commits ≡ []

-- A log with these commits was made, or the file was only read.
abbrev pub MakesOrReads : {D : Type 0} → (D → Option (List ℕ)) → (D → List ℕ → Type 0) → (D → ℕ)
    → (D → ℕ → List ℕ → Type 0) → D → D → History → Type 0
MakesOrReads told may_leave moment left_since old new commits =
    IsMade (told old) commits ⊎ OnlyReads told may_leave moment left_since old new
