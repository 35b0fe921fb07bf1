use Rattle.std.proofs.Common.{◌≤◌, Bool, List, length, take, ap, ◌∙◌, arith}
use Rattle.std.specs.Prelude.{is_some}
use Rattle.std.specs.List.{count_by}
use Rattle.block_columns.specs.Columns.{ColumnsValue, rows_in}
use Rattle.block_columns.proofs.Lists.{count-map}
use Rattle.block_columns.proofs.Rowed.{first_bits}
use Rattle.block_columns.proofs.columns.Columns.count_first.Goals as goal

pub count_first-requires : goal.count_first-requires
count_first-requires c = omega (arith, c.requires, ap (λ (v : ColumnsValue). v.room) c.self.view_is)

pub returns : goal.returns
returns c =
    let i = c.self.inside in
    let room : c.args.n ≤ length i.taken = omega (arith, c.requires, ap (λ (v : ColumnsValue). v.room) c.self.view_is) in
    c.count_first.ensures
    ∙ ap (λ (bits : List Bool). count_by (λ bit. bit) bits) (first_bits i.taken i.columns.items i.slots c.args.n c.self.invariant room)
    ∙ count-map is_some (take c.args.n (rows_in i.taken i.columns.items i.slots))
    ∙ ap (λ (v : ColumnsValue). count_by is_some (take c.args.n v.rows)) c.self.view_is
