-- How bytes are kept: a few in place, or any number in a vector.
use Rattle.std.specs.Prelude.{ℕ, List, take}
use Rattle.cell_model.specs.declared.bytes.Kept.{Kept}
use Rattle.cell_model.specs.declared.bytes.Kept.TheVariants.{InPlace, InVector}

-- the bytes themselves
abbrev pub bytes_of : Kept → List ℕ
bytes_of (InPlace short) = take short.len short.bytes
bytes_of (InVector bytes) = bytes.items
