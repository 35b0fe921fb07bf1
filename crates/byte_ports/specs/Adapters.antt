-- What an adapter over a reader, a writer or a file of std holds.
use Rattle.std.specs.Prelude.{◌≡◌, ◌<ℤ◌, ℕ, ℤ, pos, List, Option, IfSome}
use Rattle.std.specs.Option.{option_and_then}

-- the reader or writer, and how many calls have failed so far
pub record Adapter (X : Type 0) : Type 0 where
  pub inner : X
  pub faults : ℕ

-- the bytes that a file holds, where there is one and they are known
abbrev pub held : {X : Type 0} → (X → Option (List ℕ)) → Option X → Option (List ℕ)
held contents file = option_and_then contents file

-- a path, where it is told, is this one
abbrev pub IsAt : Option (List ℕ) → List ℕ → Type 0
IsAt told path = IfSome told (λ known. known ≡ path)

-- a file's number, where it is told, is that of no standard stream
abbrev pub IsApart : Option ℤ → Type 0
IsApart number = IfSome number (λ known. pos 2 <ℤ known)
