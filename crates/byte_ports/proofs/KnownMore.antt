-- What writes in turn do to the bytes that are told.
use Rattle.std.proofs.Common.{ℕ, ◌+◌, List, Option, take, drop, take-add, subst, sym}
use Rattle.std.specs.Io.KnownBytes.{Appends}
use Rattle.std.proofs.KnownBytes.{Appends-trans}

-- a front of a piece, and then a front of the rest of it
pub Appends-more : (a b c : Option (List ℕ)) (at count : ℕ) (piece : List ℕ)
    → Appends a b (take at piece) → Appends b c (take count (drop at piece)) → Appends a c (take (at + count) piece)
Appends-more a b c at count piece first second =
    subst (Appends a c) (sym (take-add at count piece)) (Appends-trans a b c _ _ first second)
