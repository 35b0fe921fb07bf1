-- The marks of blocks with a reply more.
use Rattle.std.proofs.Common.{◌≡◌, ℕ, ◌+◌, Bool, false, List, ◌∷◌, ◌++◌, length, Option, None, Some, refl, ap}
use Rattle.std.specs.Ordering.{nat_cmp}
use Rattle.std.specs.Prelude.{option_map, if◌then◌else◌}
use Rattle.mark_index.specs.Lists.{marks_at}
use Rattle.mark_index.specs.Marks.{AreStarts}
use Rattle.mark_index.proofs.Noted.{counted-next, peaks-next}
use Rattle.outcome_spec.specs.Entries.{Entry}
use Rattle.outcome_counts.specs.Keys.{block_cmp, stamp_cmp, is_keyed, above_told, stamp_told}
use Rattle.outcome_counts.specs.BlockMarks.{AreBlockMarks, IsNoted, starts_in, is_insert_into, is_seal_of, is_stamp_of, is_freeze_of, above_stamp}
use Rattle.outcome_counts.specs.declared.keys.Block.{Block}
use Rattle.outcome_counts.specs.declared.keys.Stamp.{Stamp}
use Rattle.outcome_counts.specs.declared.block_marks.BlockMarks.{BlockMarks}

-- A reply that tells no stamp of the block counts zero for its highest.
none-above : (block : Block) (told : Option Stamp) → is_keyed block_cmp block (option_map (λ stamp. stamp.of) told) ≡ false → above_told block told ≡ 0
none-above block None h = refl
none-above block (Some stamp) h = ap (λ (b : Bool). if b then stamp.stamp + 1 else 0) h

-- the marks of blocks are those of one reply more once it is noted
pub block-marks-next : (entries front : List Entry) (entry : Entry) (rest : List Entry) (n : ℕ) → entries ≡ front ++ entry ∷ rest → length front ≡ n → AreStarts entries (starts_in entries)
    → (before now : BlockMarks) → AreBlockMarks entries n before → IsNoted entry n (starts_in entries n) before now → AreBlockMarks entries (n + 1) now
block-marks-next entries front entry rest n whole far begins before now marked noted = record {
  inserts = λ table. counted-next (is_insert_into table) entries front entry rest n whole far (marks_at nat_cmp before.inserts table) (marks_at nat_cmp now.inserts table) (marked.inserts table) (is_insert_into table entry) refl (noted.inserts table);
  seals = λ block. counted-next (is_seal_of block) entries front entry rest n whole far (marks_at block_cmp before.seals block) (marks_at block_cmp now.seals block) (marked.seals block) (is_seal_of block entry) refl (noted.seals block);
  stamps = λ stamp. counted-next (is_stamp_of stamp) entries front entry rest n whole far (marks_at stamp_cmp before.stamps stamp) (marks_at stamp_cmp now.stamps stamp) (marked.stamps stamp) (is_stamp_of stamp entry) refl (noted.stamps stamp);
  freezes = λ block. counted-next (is_freeze_of block) entries front entry rest n whole far (marks_at block_cmp before.freezes block) (marks_at block_cmp now.freezes block) (marked.freezes block) (is_freeze_of block entry) refl (noted.freezes block);
  peaks = λ block. peaks-next (above_stamp block) (starts_in entries) entries front entry rest n whole far begins (marks_at block_cmp before.peaks block) (marks_at block_cmp now.peaks block) (marked.peaks block)
      (is_seal_of block entry) (none-above block (stamp_told entry.reply.said)) (noted.peaks block);
}
