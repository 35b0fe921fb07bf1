use Rattle.std.proofs.Common.{◌≡◌, ◌++◌, ◌∙◌, List, ℕ, ap, drop, length, replicate, arith}
use borrow.Rule.Slice.PartMut.{put_mid}
use Rattle.dict_gather.proofs.HeadLemmas.{head-padded}
use Rattle.dict_gather.proofs.heads.short_head.Goals as goal

pub returns : goal.returns
returns c =
    let value : List ℕ = c.args.value.now in
    let zeros : List ℕ = replicate 16 0 in
    let bytes : List ℕ = put_mid 0 (length value) zeros c.copy_from_slice.new.self in
    let same : bytes ≡ put_mid 0 (length value) zeros value =
    ap (λ (written : List ℕ). put_mid 0 (length value) zeros written) c.copy_from_slice.ensures.after in
    let padded : put_mid 0 (length value) zeros value ≡ value ++ drop (length value) zeros = grind arith in
    head-padded c.read_u128.result value bytes c.read_u128.ensures (same ∙ padded)
