use Rattle.std.proofs.Common.{◌≡◌, ◌++◌, take, drop}
use Rattle.std.specs.Prelude.{option_map}
use Rattle.reply_text.specs.Readers.{cut}
use Rattle.reply_text.proofs.pieces.cut.Given as goal

abbrev pub invariant-loop-at : goal.invariant-loop-at
invariant-loop-at l = cut l.separator l.bytes ≡ option_map (λ both. (take l.at l.bytes ++ both.0, both.1)) (cut l.separator (drop l.at l.bytes))
