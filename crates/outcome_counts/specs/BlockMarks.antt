-- What is marked of blocks, by the replies.
use Rattle.std.specs.Prelude.{◌≡◌, ℕ, Bool, List, slice_get}
use Rattle.std.specs.Option.{option_map_or}
use Rattle.std.specs.Ordering.{nat_cmp}
use Rattle.outcome_spec.specs.Entries.{Entry}
use Rattle.order_laws.specs.Places.{own_start}
use Rattle.mark_index.specs.Lists.{marks_at, with_mark}
use Rattle.mark_index.specs.Marks.{AreCounted, ArePeaks, next_peak}
use Rattle.outcome_counts.specs.Keys.{above_told, block_cmp, stamp_cmp, inserted_into, stamp_told}
use Rattle.outcome_counts.specs.Keys.{block_sealed, block_frozen, is_keyed}
use Rattle.outcome_counts.specs.declared.keys.Block.{Block}
use Rattle.outcome_counts.specs.declared.keys.Stamp.{Stamp}
use Rattle.outcome_counts.specs.declared.block_marks.BlockMarks.{BlockMarks}

-- where the own replies of the reply at a place begin
abbrev pub starts_in : List Entry → ℕ → ℕ
starts_in entries place = option_map_or (own_start entries) (slice_get entries place) 0

-- the reply accepts an insert into the table; it says that the block was sealed, under the stamp,
-- or frozen
abbrev pub is_insert_into : ℕ → Entry → Bool
is_insert_into table entry = is_keyed nat_cmp table (inserted_into entry)

abbrev pub is_seal_of : Block → Entry → Bool
is_seal_of block entry = is_keyed block_cmp block (block_sealed entry.reply.said)

abbrev pub is_stamp_of : Stamp → Entry → Bool
is_stamp_of stamp entry = is_keyed stamp_cmp stamp (stamp_told entry.reply.said)

abbrev pub is_freeze_of : Block → Entry → Bool
is_freeze_of block entry = is_keyed block_cmp block (block_frozen entry.reply.said)

-- one more than the stamp under which the block was sealed, 0 where it wasn't
abbrev pub above_stamp : Block → Entry → ℕ
above_stamp block entry = above_told block (stamp_told entry.reply.said)

-- The marks are those of the first so many replies.
pub record AreBlockMarks (entries : List Entry) (taken : ℕ) (marks : BlockMarks) : Type 0 where
  pub inserts : (table : ℕ) → AreCounted (is_insert_into table) entries taken
      (marks_at nat_cmp marks.inserts table)
  pub seals : (block : Block) → AreCounted (is_seal_of block) entries taken
      (marks_at block_cmp marks.seals block)
  pub stamps : (stamp : Stamp) → AreCounted (is_stamp_of stamp) entries taken
      (marks_at stamp_cmp marks.stamps stamp)
  pub freezes : (block : Block)
      → AreCounted (is_freeze_of block) entries taken (marks_at block_cmp marks.freezes block)
  pub peaks : (block : Block) → ArePeaks (above_stamp block) (starts_in entries) entries taken
      (marks_at block_cmp marks.peaks block)

-- What a reply at a place says is marked, where its own part begins at a start.
pub record IsNoted (entry : Entry) (place start : ℕ) (before now : BlockMarks) : Type 0 where
  pub inserts : (table : ℕ) → marks_at nat_cmp now.inserts table
      ≡ with_mark (is_insert_into table entry) place (marks_at nat_cmp before.inserts table)
  pub seals : (block : Block) → marks_at block_cmp now.seals block
      ≡ with_mark (is_seal_of block entry) place (marks_at block_cmp before.seals block)
  pub stamps : (stamp : Stamp) → marks_at stamp_cmp now.stamps stamp
      ≡ with_mark (is_stamp_of stamp entry) place (marks_at stamp_cmp before.stamps stamp)
  pub freezes : (block : Block) → marks_at block_cmp now.freezes block
      ≡ with_mark (is_freeze_of block entry) place (marks_at block_cmp before.freezes block)
  pub peaks : (block : Block) → marks_at block_cmp now.peaks block
      ≡ with_mark (is_seal_of block entry)
      (next_peak (marks_at block_cmp before.peaks block) place start
      (above_stamp block entry)) (marks_at block_cmp before.peaks block)
