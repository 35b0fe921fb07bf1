use Rattle.std.proofs.Common.{◌^◌, refl, w64}
use lib.Lanes.{digits_l, number_l}
use Rattle.std.proofs.lemmas.Simd.{zip2_splat}
use Rattle.lane_filter.specs.Lanes.{offset}
use Rattle.lane_filter.proofs.bits64.offsets_of.Goals as goal

pub returns : goal.returns
returns c = record {
  value = zip2_splat (λ a b. offset w64 b a) (digits_l (2 ^ 64) 4 (number_l 256 c.args.bytes.now)) 4 c.args.from refl;
  lanes = refl;
}
