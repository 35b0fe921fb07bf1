use Rattle.std.proofs.Common.{◌≡◌, ◌+◌, ◌++◌, drop}
use Rattle.log_text.specs.Lines.{commit_lines}
use Rattle.workload_spec.specs.Words.{lines_text}
use Rattle.log_text.proofs.lines.put_commits.Given as goal

-- the commits so far, and then those that are left
abbrev pub invariant-loop-at : goal.invariant-loop-at
invariant-loop-at l = l.out.items
    ++ lines_text (commit_lines l.tables (l.at + 1) (drop l.at l.commits))
    ≡ l.initial.out.items ++ lines_text (commit_lines l.tables 1 l.commits)
