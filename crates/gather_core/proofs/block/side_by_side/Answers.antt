use Rattle.std.proofs.Common.{◌≡◌, ℕ, List, Vec, Global, map, take, arith, rules}
use Rattle.std.specs.Prelude.{Ok}
use Rattle.std.proofs.lemmas.Result.{IfOk-weaker}
use Rattle.gather_core.specs.Gathered.{buffers_from}
use Rattle.gather_core.proofs.Columns.{buffers_each}
use Rattle.gather_core.proofs.block.side_by_side.Goals as goal

pub returns : goal.returns
returns g c =
    IfOk-weaker c.all_made.result
    (λ (buffers : Vec (List (List ℕ)) Global). c.in_ok-made.made.items ≡ map (λ column. Ok column) buffers.items)
    (λ (buffers : Vec (List (List ℕ)) Global). buffers.items ≡ buffers_from 0 c.args.columns.now.columns (take c.args.n c.args.columns.now.rows))
    (λ buffers made.
    buffers_each c.args.columns.now.columns (take c.args.n c.args.columns.now.rows) c.in_ok-made.made.items buffers.items made
    (omega (arith, c.in_ok-made.ensures.len, c.width.ensures, c.in_ok-made.made.ok.0))
    (λ at d lt. let h = c.in_ok-made.ensures.each at d (omega (arith, lt, c.width.ensures)) in search rules))
    c.all_made.ensures
