-- Which rows have a key that a look tells.
use Rattle.std.specs.Prelude.{◌≡◌, ℕ, ◌<◌, true, length, IfSome}
use Rattle.cell_model.specs.declared.kind.Kind.TheVariants.{I64}
use Rattle.cell_model.specs.Values.{is_integer_of}
use Rattle.isolation_spec.specs.Contents.{key_of}
use Rattle.block_spec.specs.Slots.{Row}
use Rattle.block_spec.specs.Bodies.{Body, slot_in}

-- the row's key is a number of 64 bits, as that of each row which fits a table
abbrev pub HasKey : Row → Type 0
HasKey row = is_integer_of I64 (key_of row) ≡ true

-- A body's columns begin with one, that of the key, and each of its rows has a key.
pub record HasKeys (body : Body) : Type 0 where
  pub columns : 0 < length body.columns
  pub rows : (slot : ℕ) → IfSome (slot_in body slot).row HasKey
