-- What is said of an export, and by what it is judged.
use Rattle.std.specs.Prelude.{◌≡◌, ℕ, ◌*◌, ℤ, Bool, true, false, ◌&&◌, ◌==◌, nat_le, int_lt, List}
use Rattle.std.specs.Prelude.{length, fold, Option, None, Some, is_none, if◌then◌else◌}
use Rattle.std.specs.Option.{option_map_or}
use Rattle.std.specs.Ordering.{int_eq}
use Rattle.isolation_spec.specs.declared.place.Place.{Place}
use Rattle.outcome_spec.specs.Entries.{Entry, before}
use Rattle.outcome_spec.specs.Runs.{Run, Span, commit_count, writes_in}
use Rattle.outcome_spec.specs.Upkeep.{summary_holds}
use Rattle.isolation_spec.specs.Contents.{least_key}
use Rattle.outcome_counts.specs.BlockMarks.{AreBlockMarks}
use Rattle.outcome_judge.specs.Commits.{AreCommits}
use Rattle.outcome_judge.specs.Timed.{TimedWrite, up_to}
use Rattle.outcome_judge.specs.HistoryKept.{place_in}
use Rattle.outcome_judge.specs.Own.{AreChanges, own_writes}
use Rattle.outcome_judge.specs.Seen.{snapshot_at}
use Rattle.outcome_judge.specs.declared.changes.Change.{Change}
use Rattle.outcome_judge.specs.declared.exports.Bounds.{Bounds}
use Rattle.outcome_judge.specs.declared.exports.Summary.{Summary}
use Rattle.outcome_judge.specs.declared.exports.Export.{Export}
use Rattle.outcome_judge.specs.declared.exports.Export.TheVariants as export
use Rattle.outcome_judge.specs.declared.exports.Exports.{Exports}

-- the lesser of a key and another, if there is one
abbrev pub lesser : Option ℤ → ℤ → ℤ
lesser None key = key
lesser (Some low) key = if int_lt key low then key else low

-- the least key of a table with that of one more place
abbrev pub least_with : ℕ → Option ℤ → Place → Option ℤ
least_with table least place = if place.table == table then Some (lesser least place.key) else least

-- the least key of the table among these writes
abbrev pub least_written : ℕ → List TimedWrite → Option ℤ
least_written table writes = fold (λ least write. least_with table least write.place) None writes

-- the same among changes up to a time
abbrev pub least_next : ℕ → ℕ → Option ℤ → Change → Option ℤ
least_next table bound least change = if nat_le change.left.time bound
    then least_with table least (place_in change.of) else least

abbrev pub least_in : ℕ → ℕ → List Change → Option ℤ
least_in table bound own = fold (least_next table bound) None own

-- the numbers of a summary are within their bounds
abbrev pub is_within : Summary → Bounds → Bool
is_within summary bounds =
    summary.number == bounds.number && summary.rows == bounds.rows
    && nat_le summary.frozen summary.batches && nat_le summary.batches summary.rows
    && nat_le summary.rows (summary.batches * bounds.slots)
    && nat_le summary.batches bounds.blocks
    && nat_le summary.frozen bounds.frozen

-- an export that was done is summed up so where nothing of the table was written, and a refused one
-- names the least key
abbrev pub export_by : Run → Span → Entry → Export → Bool
export_by run t entry export.Nothing = true
export_by run t entry (export.Done table summary) =
    is_none (least_key table (writes_in (before t.replies entry)))
    && summary_holds run t entry table summary.number summary.rows summary.batches summary.frozen
export_by run t entry (export.Dirty of) = option_map_or (int_eq of.key)
    (least_key of.table (writes_in (before t.replies entry))) false

-- What is kept tells of the transaction that is opened at a place: its snapshot, and the least key
-- of each table among what it wrote before the reply at another.
pub record IsKnown (openings : List (Option ℕ)) (entries : List Entry) (opening at : ℕ) (entry : Entry) (t : Span) : Type 0 where
  pub snapshot : snapshot_at entries opening ≡ t.snapshot
  pub least : (table : ℕ) → least_written table (up_to at (own_writes opening 0 openings entries))
      ≡ least_key table (writes_in (before t.replies entry))

-- What exports are judged by is what is kept of the replies.
pub record AreExports (openings : List (Option ℕ)) (entries : List Entry) (exports : Exports) : Type 0 where
  pub commits : AreCommits openings entries (commit_count entries) exports.committed.now.writes
  pub changes : AreChanges openings entries (length entries) exports.changes.now
  pub marks : AreBlockMarks entries (length entries) exports.marks.now
