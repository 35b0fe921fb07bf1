-- The text of an output as lines.
use Rattle.std.specs.Prelude.{ℕ, ◌==◌, List, [], ◌∷◌, if◌then◌else◌}
use Rattle.workload_spec.specs.Words.{line_feed}
use Rattle.workload_spec.specs.Reading.{onto_first}

-- the lines with a byte in front: a line feed is a line of its own, which the bytes before it begin
abbrev pub with_byte : ℕ → List (List ℕ) → List (List ℕ)
with_byte byte lines = if byte == line_feed then (byte ∷ []) ∷ lines else onto_first byte lines

-- The lines of a text, each with the line feed that ends it; the last line may be without one.
abbrev pub lines_of : List ℕ → List (List ℕ)
lines_of [] = []
lines_of (byte ∷ text) = with_byte byte (lines_of text)
