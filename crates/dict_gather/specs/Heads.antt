-- The head of a value: the number in its first bytes.
use Rattle.std.specs.Prelude.{ℕ, List}
use Rattle.byteorder.specs.Endian.{big_number}
use Rattle.dict_gather.specs.declared.heads.TheConstants.{HEAD}

-- the number in the first bytes of a value, the highest first; behind a shorter value stand zeros
unfoldable pub head_of : List ℕ → ℕ
head_of value = big_number HEAD value
