use Rattle.std.proofs.Common.{◌≡◌, ◌∙◌, ℕ, ap}
use Rattle.std.specs.Prelude.{length}
use Rattle.isolation_spec.specs.Contents.{contents_of, state_at}
use Rattle.outcome_spec.specs.Entries.{not_after}
use Rattle.outcome_spec.specs.Tables.{blocks_at, slots_at}
use Rattle.outcome_spec.specs.Upkeep.{frozen_blocks}
use Rattle.output_read.specs.Kept.{entries_of}
use Rattle.outcome_counts.specs.Asked.{asked_at}
use Rattle.outcome_judge.specs.Exports.{is_within}
use Rattle.outcome_judge.specs.Seen.{history_of}
use Rattle.outcome_judge.proofs.exports.Exports.is_summary.Goals as goal

pub returns : goal.returns
returns c = λ none t known.
    let entries = entries_of c.args.replies.now in
    let tables = c.args.self.now.tables.now in
    let number : c.snapshot_at.result ≡ t.snapshot = c.snapshot_at.ensures ∙ known in
    let rows_of : ℕ = length (contents_of c.args.table (state_at (history_of entries) c.args.summary.now.number)) in
    let rows : c.rows_at.result ≡ rows_of = c.rows_at.ensures in
    let slots : c.slots_at.result ≡ slots_at tables c.args.table = c.slots_at.ensures in
    let blocks : c.blocks_at.result ≡ blocks_at tables c.args.table = c.blocks_at.ensures in
    let frozen : c.frozen_blocks.result ≡ frozen_blocks tables c.args.table (not_after entries (asked_at c.args.replies.now c.args.at none)) = c.frozen_blocks.ensures none in
    let summary = c.args.summary.now in
    c.is_within.ensures
    ∙ ap (λ (n : ℕ). is_within summary (record { number = n; rows = c.rows_at.result; slots = c.slots_at.result; blocks = c.blocks_at.result; frozen = c.frozen_blocks.result })) number
    ∙ ap (λ (n : ℕ). is_within summary (record { number = t.snapshot; rows = n; slots = c.slots_at.result; blocks = c.blocks_at.result; frozen = c.frozen_blocks.result })) rows
    ∙ ap (λ (n : ℕ). is_within summary (record { number = t.snapshot; rows = rows_of; slots = n; blocks = c.blocks_at.result; frozen = c.frozen_blocks.result })) slots
    ∙ ap (λ (n : ℕ). is_within summary (record { number = t.snapshot; rows = rows_of; slots = slots_at tables c.args.table; blocks = n; frozen = c.frozen_blocks.result })) blocks
    ∙ ap (λ (n : ℕ). is_within summary (record { number = t.snapshot; rows = rows_of; slots = slots_at tables c.args.table; blocks = blocks_at tables c.args.table; frozen = n })) frozen
