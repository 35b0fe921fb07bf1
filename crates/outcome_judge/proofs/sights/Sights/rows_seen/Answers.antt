use Rattle.std.proofs.Common.{◌∙◌, ℕ, ap, arith}
use Rattle.isolation_spec.specs.Contents.{state_at}
use Rattle.output_read.specs.Kept.{entries_of}
use Rattle.std.specs.Prelude.{length}
use Rattle.outcome_judge.specs.Timed.{rows_in}
use Rattle.outcome_judge.specs.Seen.{history_of}
use Rattle.outcome_judge.proofs.Seen.{rows-own}
use Rattle.outcome_judge.proofs.sights.Sights.rows_seen.Goals as goal

pub rows_at-base-requires-clause-commits : goal.rows_at-base-requires-clause-commits
rows_at-base-requires-clause-commits c = c.requires.sights.commits

pub gained-gained-requires : goal.gained-gained-requires
gained-gained-requires c = c.requires.sights.own.kept.gained_rise (record { owner = c.args.opening; table = c.args.table })

pub lost-lost-requires : goal.lost-lost-requires
lost-lost-requires c = c.requires.sights.own.kept.lost_rise (record { owner = c.args.opening; table = c.args.table })

pub returns : goal.returns
returns c =
    let entries = entries_of c.args.replies.now in
    let rows = rows-own c.args.openings.now entries (length c.args.replies.now) c.args.self.now.own c.requires.sights.own c.args.opening c.args.table c.args.at in
    let base = c.rows_at-base.ensures ∙ ap (λ (n : ℕ). rows_in c.args.table (state_at (history_of entries) n)) c.snapshot_at-number.ensures in
    omega (arith, rows, base, c.gained-gained.ensures, c.lost-lost.ensures, c.saturating_sub.ensures)
