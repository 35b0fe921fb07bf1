use Rattle.std.proofs.Common.{◌≡◌, length, map, sym, ap, ◌∙◌, w8}
use Rattle.std.proofs.lemmas.List.{length-map}
use Rattle.std.proofs.lemmas.Simd.{zip2_splat}
use Rattle.lane_filter.specs.Lanes.{offset}
use Rattle.lane_filter.proofs.Spelling.{digits_back}
use Rattle.lane_filter.proofs.bits8.offsets_of.Goals as goal

pub returns : goal.returns
returns c =
    let bytes = c.args.bytes.now in
    let long : length bytes ≡ 32 = c.told-bytes in
    let value = zip2_splat (λ a b. offset w8 b a) bytes 32 c.args.from long in
    record {
      value = value ∙ ap (map (offset w8 c.args.from)) (sym (digits_back 256 32 bytes long c.requires));
      lanes = ap length value ∙ length-map bytes (offset w8 c.args.from) ∙ long;
    }
