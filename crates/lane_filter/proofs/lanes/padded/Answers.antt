use Rattle.std.proofs.Common.{ℕ, ◌++◌, ap, ◌∙◌, drop, replicate, length}
use Rattle.lane_filter.proofs.Spelling.{drop_zeros}
use Rattle.lane_filter.proofs.lanes.padded.Goals as goal

pub returns : goal.returns
returns c =
    ap (λ bytes. bytes ++ drop (length c.args.bytes.now) (replicate {A = ℕ} 32 0)) c.copy_from_slice.ensures.after
    ∙ ap (λ zeros. c.args.bytes.now ++ zeros) (drop_zeros (length c.args.bytes.now) 32)
