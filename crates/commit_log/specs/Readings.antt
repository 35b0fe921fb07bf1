-- How the bytes of a log are read.
use Rattle.std.specs.Prelude.{◌≡◌, ◌≢◌, ◌⊎◌, ℕ, List, [], ◌∷◌, ◌++◌, Option, map, take}
use Rattle.std.specs.Prelude.{All}
use Rattle.std.specs.List.{AllByRecursion, flat_map}
use Rattle.cell_model.specs.declared.table.TableDecl.{TableDecl}
use Rattle.disk_ports.specs.Crashes.{LeavesOnly, NoMore}
use Rattle.isolation_spec.specs.Contents.{History}
use Rattle.log_spec.specs.Reading.{IsGroupOf, IsLogOf, IsNoLog}
use Rattle.log_spec.specs.LogText.{IsOpen, Record, front_text, magic, payload_text, sized}
use Rattle.commit_log.specs.declared.reading.LogEnd.{LogEnd}
use Rattle.commit_log.specs.declared.reading.LogEnd.TheVariants.{Broken, Closed}

-- The commits in front of a place where bytes leave the form of a log, those of the whole records
-- there: what stands in front of the place, with a closed gate behind it, is their log. Bytes that
-- do not begin as a log have none.
abbrev pub GivesBefore : List TableDecl → List ℕ → ℕ → History → Type 0
GivesBefore tables bytes place commits =
    ((take 8 bytes ≢ magic) × (commits ≡ []))
    ⊎ IsLogOf tables commits place (take place bytes ++ 0 ∷ [])

-- What bytes read as, as a log of these tables: its commits, up to its closed gate; or, where they
-- are no log, the place at which they leave the form, and the commits in front of it.
abbrev pub ReadsAs : List TableDecl → List ℕ → History → LogEnd → Type 0
ReadsAs tables bytes commits (Closed gate) = IsLogOf tables commits gate bytes
ReadsAs tables bytes commits (Broken place) =
    IsNoLog tables bytes place × GivesBefore tables bytes place commits

-- Calls that only read or sync: the file is told as before, and a crash at any moment of theirs
-- leaves nothing that it might not have left before.
pub record OnlyReads
    {D : Type 0} (told : D → Option (List ℕ)) (may_leave : D → List ℕ → Type 0) (moment : D → ℕ)
    (left_since : D → ℕ → List ℕ → Type 0) (old new : D)
    : Type 0 where
  pub same : told new ≡ told old
  pub no_more : NoMore (may_leave old) (may_leave new)
  pub any_moment : LeavesOnly moment left_since old new (may_leave old)

-- the bytes begin with a closed gate
abbrev pub IsClosed : List ℕ → Type 0
IsClosed bytes = (behind : List ℕ) × (bytes ≡ 0 ∷ behind)

-- The bytes begin with a record of these commits of the tables, and the others stand behind it.
pub record HasGroup (tables : List TableDecl) (bytes behind : List ℕ) (commits : History) : Type 0
  where
    pub gate : ℕ
    pub opens : gate ≢ 0
    pub are : IsGroupOf tables commits
    pub is : bytes ≡ gate ∷ (sized (payload_text commits) ++ behind)

-- In front of the rest the bytes are the records of these commits.
pub record SoFar (tables : List TableDecl) (bytes rest : List ℕ) (commits : History) : Type 0 where
  pub groups : List History
  pub are : All (IsGroupOf tables) groups
  pub flat : flat_map (λ group. group) groups ≡ commits
  pub records : List Record
  pub same : map (λ r. r.payload) records ≡ map payload_text groups
  pub are_open : AllByRecursion IsOpen records
  pub is : bytes ≡ front_text records ++ rest
