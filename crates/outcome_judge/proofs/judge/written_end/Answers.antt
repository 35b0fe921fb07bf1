use Rattle.std.proofs.Common.{◌≡◌, ◌∙◌, ◌&&◌, Bool, ap, arith}
use Rattle.outcome_judge.specs.Conflicts.{heights_hold, numbers_hold, sessions_hold}
use Rattle.outcome_judge.proofs.Whole.{in-parts}
use Rattle.outcome_spec.specs.Conflicts.{conflicts_hold}
use Rattle.outcome_spec.specs.Entries.{Entry}
use Rattle.outcome_spec.specs.Runs.{run_of}
use Rattle.output_read.specs.Kept.{entries_of}
use Rattle.outcome_judge.specs.Judged.{commits_hold, views_hold}
use Rattle.outcome_judge.proofs.Answered.{ok-map}
use Rattle.outcome_judge.proofs.Both.{five-in-turn}
use Rattle.outcome_judge.proofs.ReadsLast.{reads-parts}
use Rattle.outcome_judge.specs.Stale.{reads_stand, tops_stand}
use Rattle.outcome_spec.specs.Stale.{reads_last}
use Rattle.outcome_judge.proofs.Ends.{both-end, same-end}
use Rattle.outcome_judge.proofs.judge.written_end.Goals as goal

pub clear_end-requires-clause-within : goal.clear_end-requires-clause-within
clear_end-requires-clause-within c = omega (arith, (c.in_ok-free.ensures c.args.tables.now).within, c.requires.within)

pub seen_end-requires-clause-within : goal.seen_end-requires-clause-within
seen_end-requires-clause-within c = omega (arith, (c.in_ok-free.ensures c.args.tables.now).within, (c.in_ok-clear.ensures c.args.tables.now).within, c.requires.within)

pub returns : goal.returns
returns c =
    let tables = c.args.tables.now in
    let replies = c.args.replies.now in
    let run = run_of tables (entries_of replies) in
    let parts : (entry : Entry) → (sessions_hold run entry && commits_hold run entry) ≡ (conflicts_hold run entry && reads_last run entry) =
    λ entry. five-in-turn (sessions_hold run entry) (heights_hold run entry) (tops_stand run entry) (numbers_hold run entry) (reads_stand run entry)
    ∙ ap (λ (b : Bool). b && (tops_stand run entry && reads_stand run entry)) (in-parts tables (entries_of replies) entry)
    ∙ ap (λ (b : Bool). conflicts_hold run entry && b) (reads-parts tables (entries_of replies) entry) in
    let clear = same-end (λ entry. sessions_hold run entry && commits_hold run entry) (λ entry. conflicts_hold run entry && reads_last run entry) replies c.args.until c.in_ok-clear.clear parts
    (both-end (sessions_hold run) (commits_hold run) replies c.args.until c.in_ok-free.free c.in_ok-clear.clear (c.in_ok-free.ensures tables) (c.in_ok-clear.ensures tables)) in
    ok-map _ _ c.seen_end.result _ _
    (λ place views. both-end (λ entry. conflicts_hold run entry && reads_last run entry) (views_hold run) replies c.args.until c.in_ok-clear.clear place clear views)
    c.seen_end.ensures
