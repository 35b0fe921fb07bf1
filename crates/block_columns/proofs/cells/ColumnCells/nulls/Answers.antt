use Rattle.std.proofs.Common.{◌≡◌, Bool, List, take, map, ap, ◌∙◌, arith}
use Rattle.std.specs.List.{count_by}
use Rattle.std.proofs.lemmas.List.{take-map, length-take-le}
use Rattle.block_columns.specs.Cells.{ColumnValue, cells_in, valid_bit}
use Rattle.block_columns.proofs.Lent.{nulls_and_others}
use Rattle.block_columns.proofs.cells.ColumnCells.nulls.Goals as goal

pub returns : goal.returns
returns c =
    let ones : c.count_first.result ≡ count_by (λ bit. bit) (map valid_bit (take c.args.n c.args.self.now.cells)) =
    c.count_first.ensures ∙ ap (λ (xs : List Bool). count_by (λ bit. bit) (take c.args.n xs)) c.self.invariant.bits
    ∙ ap (λ (xs : List Bool). count_by (λ bit. bit) xs) (take-map valid_bit c.args.n (cells_in c.self.inside.kind c.self.inside.valid c.self.inside.store))
    ∙ ap (λ (v : ColumnValue). count_by (λ bit. bit) (map valid_bit (take c.args.n v.cells))) c.self.view_is in
    let all = nulls_and_others (take c.args.n c.args.self.now.cells) in
    let long = length-take-le c.args.n c.args.self.now.cells c.requires in
    omega (arith, ones, all, long)
