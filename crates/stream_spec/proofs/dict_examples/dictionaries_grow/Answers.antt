use Rattle.std.proofs.Common.{refl}
use lib.Utf8.{encode}
use Rattle.std.specs.Str.{is_utf8, chars}
use Rattle.stream_spec.proofs.dict_examples.dictionaries_grow.Goals as goal

pub returns : goal.returns
unfolding is_utf8 chars encode
returns c = refl
