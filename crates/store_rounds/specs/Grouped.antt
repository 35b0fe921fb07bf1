-- What the sessions of a row committed in a round, as one group for a log.
use Rattle.std.specs.Prelude.{◌≡◌, ℕ, ◌<◌, List, Option, get_or, length, take}
use Rattle.std.specs.List.{flat_map}
use Rattle.std.specs.List.Sorted.{IsNonDecreasingBy, IsPermutation}
use Rattle.isolation_spec.specs.Contents.{History}
use Rattle.run_spec.specs.Commits.{SessionWrites, write_sets}
use Rattle.run_spec.specs.declared.commit.Commit.{Commit}
use Rattle.shared_store.specs.Commits.{commits_in}
use Rattle.shared_store.specs.Store.{handed_over, wrote_of}
use Rattle.shared_store.specs.declared.session.Session.{Session}

-- the commits that the sessions of a row keep
abbrev pub kept_in : List Session → List Commit
kept_in row = flat_map (λ s. commits_in (wrote_of s)) row

-- What these commits wrote, in the order of their numbers.
pub record AreByNumber (commits : List Commit) (sets : History) : Type 0 where
  pub sorted : List Commit
  pub same : IsPermutation commits sorted
  pub rises : IsNonDecreasingBy (λ commit. commit.number) sorted
  pub sets_are : sets ≡ write_sets sorted

-- A session is as it was, but for what it keeps of its commits.
abbrev pub MayHandOver : Session → Session → Type 0
MayHandOver old new = (kept : Option SessionWrites) × (new ≡ record old { kept = kept })

-- So is each of a row.
pub record MayHaveHandedOver (old new : List Session) : Type 0 where
  pub size : length new ≡ length old
  pub each : (k : ℕ) (d : Session) → k < length old
      → MayHandOver (get_or old k d) (get_or new k d)

-- The commits of the first so many of a row were taken.
pub record HandedOver (sessions : ℕ) (old new : List Session) : Type 0 where
  pub each : (k : ℕ) (d : Session) → k < sessions → get_or new k d ≡ handed_over (get_or old k d)

-- All that the first so many of a row kept of their commits was taken, and here is what these wrote.
pub record TookGroup (sessions : ℕ) (old new : List Session) (group : History) : Type 0 where
  pub taken : HandedOver sessions old new
  pub sets : AreByNumber (kept_in (take sessions old)) group
