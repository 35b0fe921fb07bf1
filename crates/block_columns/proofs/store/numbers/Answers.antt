use Rattle.std.proofs.Common.{ℕ, ◌*◌, subst, sym}
use Rattle.flat_column.specs.Numbers.{IsWidth}
use Rattle.block_columns.proofs.Lent.{number_bits}
use Rattle.block_columns.proofs.store.numbers.Goals as goal

pub new-requires : goal.new-requires
new-requires c = subst (λ (n : ℕ). IsWidth (8 * n)) (sym c.bytes.ensures.bytes) (number_bits c.args.width)
