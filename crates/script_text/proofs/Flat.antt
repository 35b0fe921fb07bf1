-- What is read piece by piece is what is read at once.
use Rattle.std.proofs.Common.{◌≡◌, ℕ, Bool, List, refl, sym}
use Rattle.std.specs.Prelude.{Result, Ok, Err}
use Rattle.cell_model.specs.declared.table.TableDecl.{TableDecl}
use Rattle.workload_spec.specs.declared.extent.Extent.{Extent}
use Rattle.workload_spec.specs.Grammar.{◌>>=◌, table_of, line_of, script_behind, script_in}
use Rattle.script_text.specs.Tables.{table_read}
use Rattle.script_text.specs.Commands.{line_read}
use Rattle.script_text.specs.Heads.{behind_read, script_read}

-- Steps of a reading in turn are the same however they are paired.
flat : {A B C E : Type 0} (r : Result A E) (f : A → Result B E) (g : B → Result C E) → ((r >>= f) >>= g) ≡ (r >>= λ a. f a >>= g)
flat (Ok a) f g = refl
flat (Err fault) f g = refl

-- a table's line, with its end apart
pub table_parts : (extent : Extent) (tables : List TableDecl) (words : List (List ℕ)) → table_of extent tables words ≡ table_read extent tables words
table_parts extent tables words = sym (simp flat)

-- a line of a round, with its command apart
pub line_parts : (extent : Extent) (tables : List TableDecl) (sessions : ℕ) (exported : Bool) (words : List (List ℕ)) → line_of extent tables sessions exported words ≡ line_read extent tables sessions exported words
line_parts extent tables sessions exported words = sym (simp flat)

-- a workload behind its version, with the lines of its head apart
pub behind_parts : (version : ℕ) (extent : Extent) (all : List (List ℕ)) → script_behind version extent all ≡ behind_read version extent all
behind_parts version extent all = sym (simp flat)

-- a workload, with the line of its version apart
pub script_parts : (all : List (List ℕ)) → script_in all ≡ script_read all
script_parts all = sym (simp flat)
