use Rattle.std.proofs.Common.{◌≡◌, ℕ, List, take, get_or, arith}
use Rattle.std.proofs.lemmas.Result.{IfOk-weaker}
use Rattle.arrow_spec.specs.Arrays.{column_buffers}
use Rattle.gather_core.specs.Gathered.{buffers_from}
use Rattle.gather_core.proofs.Columns.{buffers_there}
use Rattle.gather_core.proofs.block.buffers_at.Goals as goal

pub returns : goal.returns
returns c =
    IfOk-weaker c.gather_column.result
    (λ (buffers : List (List ℕ)). buffers ≡ column_buffers c.column.result.now.column.kind (take c.args.n c.column.result.now.cells))
    (λ (buffers : List (List ℕ)). buffers ≡ get_or (buffers_from 0 c.args.columns.now.columns (take c.args.n c.args.columns.now.rows)) c.args.at buffers)
    (λ buffers made.
    buffers_there c.args.columns.now.columns c.args.columns.now.rows c.args.n c.args.at c.column.result.now.column c.column.result.now.cells buffers
    c.column.ensures.column (omega (arith, c.requires.room, c.column.ensures.room))
    (omega (arith, c.requires.room, c.room-room.ensures.room, c.room-room.ensures.within)) c.column.ensures.cells made)
    c.gather_column.ensures
