use Rattle.std.proofs.Common.{◌≡◌, ◌-◌, IfSome, true, take, List}
use Rattle.std.specs.List.{list_all}
use Rattle.cell_model.specs.declared.table.TableDecl.{TableDecl}
use Rattle.outcome_judge.specs.Judged.{heights_stand}
use Rattle.outcome_spec.specs.Runs.{run_of}
use Rattle.output_read.specs.Kept.{entries_of}
use Rattle.outcome_counts.specs.Asked.{IsAsked}
use Rattle.outcome_judge.proofs.clashes.heights_end.Given as goal

abbrev pub invariant-loop-at : goal.invariant-loop-at
invariant-loop-at l = ((tables : List TableDecl) → list_all (heights_stand (run_of tables (entries_of l.replies))) (take l.at (entries_of l.replies)) ≡ true) × IfSome l.known (IsAsked l.replies (l.at - 1))
