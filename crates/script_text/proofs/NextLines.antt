-- The lines that are left, where one is whole.
use Rattle.std.proofs.Common.{◌≡◌, ℕ, ◌<◌, Bool, true, false, List, [], ◌∷◌, length, refl, arith}
use Rattle.std.specs.Prelude.{◌==◌, Ok}
use Rattle.workload_spec.specs.declared.script.Cause.{Cause}
use Rattle.workload_spec.specs.Reading.{onto_first, parted, parts}
use Rattle.workload_spec.specs.Grammar.{next_line}

-- With a byte in front of the first part there is a part.
onto_some : (byte : ℕ) (ps : List (List ℕ)) → 0 < length (onto_first byte ps)
onto_some byte [] = omega arith
onto_some byte (p ∷ ps) = omega arith

-- With a byte more in front, be it a separator or not, there is a part.
parted_some : (parts : Bool) (byte : ℕ) (ps : List (List ℕ)) → 0 < length (parted parts byte ps)
parted_some true byte ps = omega arith
parted_some false byte ps = onto_some byte ps

-- there is a part
pub parts_some : (separator : ℕ) (bytes : List ℕ) → 0 < length (parts separator bytes)
parts_some separator [] = omega arith
parts_some separator (byte ∷ bytes) = parted_some (byte == separator) byte (parts separator bytes)

-- a line is whole where a part follows it
pub next_whole : (at : ℕ) (absent : Cause) (line : List ℕ) (rest : List (List ℕ)) → 0 < length rest → next_line at absent (line ∷ rest) ≡ Ok (line, rest)
next_whole at absent line [] some = absurd (omega arith)
next_whole at absent [] (next ∷ rest) some = refl
next_whole at absent (byte ∷ bytes) (next ∷ rest) some = refl
