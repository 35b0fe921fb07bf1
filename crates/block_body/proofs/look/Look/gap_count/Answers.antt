use Rattle.std.proofs.Common.{◌≡◌, ◌+◌, ◌++◌, length, ap, arith}
use Rattle.std.specs.List.{range_with_len}
use Rattle.std.proofs.lemmas.List.{length-append}
use Rattle.std.proofs.lemmas.List.FromFn.{length-range_with_len}
use Rattle.block_spec.specs.Looks.{Look as LookValue}
use Rattle.block_body.proofs.look.Look.gap_count.Goals as goal

pub returns : goal.returns
returns c =
    let i = c.self.inside in
    let both : length (range_with_len 0 i.first ++ i.gaps.items) ≡ length (range_with_len 0 i.first) + length i.gaps.items = length-append (range_with_len 0 i.first) i.gaps.items in
    let many : length (range_with_len 0 i.first) ≡ i.first = length-range_with_len 0 i.first in
    let same : length (range_with_len 0 i.first ++ i.gaps.items) ≡ length c.args.self.now.gaps = ap (λ (l : LookValue). length l.gaps) c.self.view_is in
    omega (arith, both, many, same, c.len.ensures)
