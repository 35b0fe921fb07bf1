use Rattle.std.proofs.Common.{◌≡◌}
use Rattle.stream_pieces.proofs.Schemas.{no-rows-yet, schema-stays-known}
use Rattle.stream_pieces.proofs.the_schema_comes_first.Goals as goal

pub returns : goal.returns
returns c = record {
  first = no-rows-yet;
  kept = λ old new piece rows fault known.
      schema-stays-known (λ taken. rows ≡ taken) old new piece fault known;
}
