-- The key of a version of a row, where there is one.
use Rattle.std.specs.Prelude.{◌≡◌, ℤ, Option, IfSome}
use Rattle.block_spec.specs.Slots.{Row}
use Rattle.isolation_spec.specs.Contents.{key_of}

-- the row, if there is one, has this key
abbrev pub HasKey : ℤ → Option Row → Type 0
HasKey key row = IfSome row (λ cells. key_of cells ≡ key)
