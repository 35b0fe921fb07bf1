-- What a list double holds.
use Rattle.std.specs.Prelude.{ℕ, List}
use Rattle.byte_ports.specs.FaultPlan.{Plan}

-- a list source: the bytes left to read, and the plan of its faults
pub record Reading : Type 0 where
  pub left : List ℕ
  pub plan : Plan

-- a list sink: the bytes written so far, and the plan of its faults
pub record Writing : Type 0 where
  pub written : List ℕ
  pub plan : Plan

-- a list outlet: the names that it was started with, the bytes written so far, and the plan of its
-- faults
pub record Exporting : Type 0 where
  pub started : List (List ℕ)
  pub written : List ℕ
  pub plan : Plan
