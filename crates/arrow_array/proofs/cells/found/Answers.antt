use Rattle.arrow_array.proofs.CellLemmas.{cell_there}
use Rattle.std.specs.Option.{option_copied}
use Rattle.arrow_array.proofs.cells.found.Goals as goal

pub returns : goal.returns
returns c = cell_there c.args.row.now c.args.place (option_copied c.get.result) c.get.ensures
