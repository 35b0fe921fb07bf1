-- The order in which the entries of a chain stand, by their stamps.
use Rattle.std.specs.Prelude.{◌≡◌, ℕ, ◌≤◌, List, MatchOption, IsSomeAnd, IfNone, IfSome, IsFalse}
use Rattle.std.specs.Prelude.{All, AllPairs}
use Rattle.undo_chain.specs.declared.undo.Undo.{Undo}
use Rattle.undo_chain.specs.Entry.{is_move}

-- An entry without a stamp is a session's write, and no move's.
abbrev pub IsWriteOrStamped : {D : Type 0} → Undo D → Type 0
IsWriteOrStamped undo = IfNone undo.stamp (IsFalse (is_move undo.kind))

-- Above an entry without a stamp stand only the same session's without one, and above one with a
-- stamp none with a lower stamp.
abbrev pub MayStandAbove : {D : Type 0} → Undo D → Undo D → Type 0
MayStandAbove newer older =
    MatchOption
    newer.stamp
    (IfNone older.stamp (newer.session ≡ older.session))
    (λ stamp. IsSomeAnd older.stamp (λ below. below ≤ stamp))

-- The entries without a stamp stand first and are one session's, and the stamps of the others don't
-- rise from newest to oldest.
pub record IsLawful {D : Type 0} (entries : List (Undo D)) : Type 0 where
  pub writes : All IsWriteOrStamped entries
  pub order : AllPairs MayStandAbove entries

-- An entry has no stamp, or one that is at most a given one.
abbrev pub IsStampedUpTo : {D : Type 0} → ℕ → Undo D → Type 0
IsStampedUpTo limit undo = IfSome undo.stamp (λ stamp. stamp ≤ limit)

-- No stamp in a chain is above a given one.
abbrev pub NoneStampedAbove : {D : Type 0} → List (Undo D) → ℕ → Type 0
NoneStampedAbove entries limit = All (IsStampedUpTo limit) entries
