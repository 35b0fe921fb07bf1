-- A line has a word.
use Rattle.std.proofs.Common.{◌≡◌, ℕ, List, refl}
use Rattle.std.specs.Prelude.{Err}
use Rattle.workload_spec.specs.declared.script.Cause.{Cause}
use Rattle.workload_spec.specs.Reading.{AtStart, words_of}
use Rattle.workload_spec.specs.Grammar.{no_word}
use Rattle.word_read.proofs.WordEnds.{words_split}

-- the answer that no word is left, where a line is
pub words_some : (cause : Cause) (line : List ℕ) → no_word cause (words_of line) ≡ Err cause
words_some cause line = rw (words_split AtStart line) refl
