use Rattle.std.proofs.Common.{◌++◌, List, map, take}
use Rattle.outcome_judge.specs.Commits.{AreLater, IsLaid}
use Rattle.outcome_judge.specs.Own.{changes_of, written_by}
use Rattle.outcome_judge.specs.Timed.{TimedWrite, timed, up_to}
use Rattle.outcome_judge.proofs.committed.lay.Given as goal

abbrev pub invariant-loop-change : goal.invariant-loop-change
invariant-loop-change l = (front : List TimedWrite) → IsLaid front l.fn.writes → AreLater l.number front
    → IsLaid (front ++ timed l.number (changes_of (up_to l.bound (map written_by (take l.change-index l.own))))) l.writes
