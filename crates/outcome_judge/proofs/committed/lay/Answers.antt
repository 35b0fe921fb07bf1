use Rattle.std.proofs.Common.{◌≡◌, ◌+◌, ◌++◌, ◌∷◌, [], sym, subst, ℕ, List, map, take}
use Rattle.outcome_judge.specs.Commits.{IsLaid}
use Rattle.outcome_judge.specs.Own.{changes_of, written_by}
use Rattle.outcome_judge.specs.Timed.{TimedWrite, timed, up_to}
use Rattle.outcome_judge.specs.declared.changes.Change.{Change}
use Rattle.outcome_judge.proofs.CommitsMade.{later-with, made-first, made-past, take-next-one}
use Rattle.outcome_judge.proofs.committed.lay.Goals as goal
use Rattle.outcome_judge.proofs.committed.lay.Goals.{then-change-bound+in_ok-lay_one, else-change-bound}

pub lay_one-requires : goal.lay_one-requires
lay_one-requires c = record {
  front = c.requires.front ++ timed c.args.number (changes_of (up_to c.args.bound (map written_by (take c.loop-change.change-index c.args.own.now))));
  laid = c.loop-change.invariant c.requires.front c.requires.laid c.requires.later;
  later = later-with c.args.number c.requires.front (changes_of (up_to c.args.bound (map written_by (take c.loop-change.change-index c.args.own.now)))) c.requires.later;
}

pub loop-change-preserved : goal.loop-change-preserved
loop-change-preserved c = λ front laid later.
    let own : List Change = c.args.own.now in
    let i : ℕ = c.loop-change.change-index in
    let bound : ℕ = c.args.bound in
    let number : ℕ = c.args.number in
    let so_far = changes_of (up_to bound (map written_by (take i own))) in
    let next : take (i + 1) own ≡ take i own ++ c.change-item.result ∷ [] = take-next-one own i c.change-item.result c.loop-change-test.true c.change-item.is in
    elim c.if-change-bound.branch [
      | then-change-bound+in_ok-lay_one w ↦
          subst (IsLaid (front ++ timed number (changes_of (up_to bound (map written_by (take (i + 1) own)))))) (sym w.writes-is)
          (subst (λ (ws : List TimedWrite). IsLaid ws w.lay_one.new.writes)
          (sym (made-first front number bound own i c.change-item.result next w.if-change-bound.true))
          (w.in_ok-lay_one.ensures (front ++ timed number so_far) (c.loop-change.invariant front laid later) (later-with number front so_far later)))
      | else-change-bound w ↦
          subst (IsLaid (front ++ timed number (changes_of (up_to bound (map written_by (take (i + 1) own)))))) (sym w.writes-is)
          (subst (λ (ws : List TimedWrite). IsLaid ws c.loop-change.writes)
          (sym (made-past front number bound own i c.change-item.result next w.if-change-bound.false))
          (c.loop-change.invariant front laid later))
    ]
