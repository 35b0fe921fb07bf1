use Rattle.outcome_judge.proofs.Both.{first-fails, second-fails, third-fails, fourth-fails, last-is}
use Rattle.outcome_judge.proofs.counts.Counts.counts_hold.Goals as goal

pub returns-then-not-commit_numbers_hold : goal.returns-then-not-commit_numbers_hold
returns-then-not-commit_numbers_hold c = λ none. first-fails _ _ _ _ _ (c.if-not-commit_numbers_hold.ensures c.args.tables.now none)

pub returns-then-not-snapshot_numbers_hold : goal.returns-then-not-snapshot_numbers_hold
returns-then-not-snapshot_numbers_hold c = λ none. second-fails _ _ _ _ _ (c.if-not-commit_numbers_hold.ensures c.args.tables.now none) (c.if-not-snapshot_numbers_hold.ensures c.args.tables.now none)

pub returns-then-not-freezing_holds : goal.returns-then-not-freezing_holds
returns-then-not-freezing_holds c =
    λ none. third-fails _ _ _ _ _ (c.if-not-commit_numbers_hold.ensures c.args.tables.now none) (c.if-not-snapshot_numbers_hold.ensures c.args.tables.now none)
    (c.if-not-freezing_holds.ensures c.args.tables.now none)

pub returns-then-not-full_holds : goal.returns-then-not-full_holds
returns-then-not-full_holds c =
    λ none. fourth-fails _ _ _ _ _ (c.if-not-commit_numbers_hold.ensures c.args.tables.now none) (c.if-not-snapshot_numbers_hold.ensures c.args.tables.now none)
    (c.if-not-freezing_holds.ensures c.args.tables.now none) (c.if-not-full_holds.ensures none)

pub returns : goal.returns
returns c =
    λ none. last-is _ _ _ _ _ _ (c.if-not-commit_numbers_hold.ensures c.args.tables.now none) (c.if-not-snapshot_numbers_hold.ensures c.args.tables.now none)
    (c.if-not-freezing_holds.ensures c.args.tables.now none) (c.if-not-full_holds.ensures none) (c.upkeep_holds.ensures none)
