use Rattle.std.proofs.Common.{◌≡◌, ◌++◌, length}
use Rattle.std.specs.Prelude.{option_map}
use Rattle.workload_spec.specs.Reading.{Itself}
use Rattle.word_read.specs.Spellings.{text_from}
use Rattle.word_read.proofs.texts.unescaped.Given as goal

abbrev pub invariant-loop-text : goal.invariant-loop-text
invariant-loop-text l = text_from Itself l.spelling ≡ option_map (λ more. l.text.items ++ more) (text_from Itself l.rest)

abbrev pub decreases-loop-text : goal.decreases-loop-text
decreases-loop-text l = length l.rest
