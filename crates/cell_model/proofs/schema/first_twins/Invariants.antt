use Rattle.std.proofs.Common.{◌≡◌, drop}
use Rattle.cell_model.specs.Schemas.{first_twins}
use Rattle.cell_model.proofs.schema.first_twins.Given as goal

-- the columns so far have no twin, so the first twins are those of the rest
abbrev pub invariant-loop-first : goal.invariant-loop-first
invariant-loop-first l = first_twins l.first (drop l.first l.columns) ≡ first_twins 0 l.columns
