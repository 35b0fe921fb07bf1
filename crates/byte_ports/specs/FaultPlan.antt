-- Which calls of a list double fail.
use Rattle.std.specs.Prelude.{ℕ, Bool, List, ◌==◌}
use Rattle.std.specs.List.{list_any}
use Rattle.byte_ports.specs.Calls.{counted, faults_after}

-- the calls that fail, counted from 1, and how many calls and faults there were
pub record Plan : Type 0 where
  pub failing : List ℕ
  pub calls : ℕ
  pub faults : ℕ

-- a plan before its first call
abbrev pub new_plan : List ℕ → Plan
new_plan failing = record { failing = failing; calls = 0; faults = 0 }

-- whether the next call is one of those that fail
abbrev pub fails_next : Plan → Bool
fails_next plan = list_any (λ call. call == counted plan.calls) plan.failing

-- the plan after one more call, which is counted as a fault too where it failed
abbrev pub after_call : Plan → Bool → Plan
after_call plan failed = record {
  failing = plan.failing;
  calls = counted plan.calls;
  faults = faults_after plan.faults failed;
}
