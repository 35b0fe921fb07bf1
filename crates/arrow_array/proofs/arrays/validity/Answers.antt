use Rattle.std.proofs.Common.{◌≡◌, ℕ, map, Vec, Global}
use Rattle.std.proofs.lemmas.Result.{IfOk-weaker}
use Rattle.arrow_spec.specs.Arrays.{validity}
use Rattle.arrow_spec.specs.Batches.{column_cells}
use Rattle.arrow_spec.specs.Bytes.{bitmap}
use Rattle.arrow_array.specs.Batches.{bit_of, cell_at}
use Rattle.arrow_array.specs.declared.bitmaps.Bit.TheVariants as bit
use Rattle.arrow_array.proofs.ArrayLemmas.{validity-is}
use Rattle.arrow_array.proofs.arrays.validity.Goals as goal

pub returns-else-nulls-eq0 : goal.returns-else-nulls-eq0
returns-else-nulls-eq0 c =
    IfOk-weaker c.bitmap.result
    (λ (bytes : Vec ℕ Global). bytes.items ≡ bitmap (map (λ row. bit_of bit.Valid (cell_at c.args.place row)) c.args.rows.now))
    (λ (bytes : Vec ℕ Global). bytes.items ≡ validity (column_cells c.args.place c.args.rows.now))
    (λ bytes is. validity-is c.args.nulls c.args.place c.args.rows.now bytes.items c.requires c.if-nulls-eq0.false is)
    c.bitmap.ensures
