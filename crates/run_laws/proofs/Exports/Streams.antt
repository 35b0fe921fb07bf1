-- The bytes of an export are a stream of all groups that its transaction reads, or a front of one.
use Rattle.std.proofs.Common.{◌≡◌, ℕ, Bool, true, false, cond, ◌+◌, List, [], ◌∷◌, ◌++◌, map, filter, count_by, length, refl, sym, ap, ◌∙◌, append_assoc, append-nil}
use mathlib.Core.Logic.{inl, inr}
use Rattle.std.specs.List.{flat_map}
use Rattle.std.proofs.lemmas.Grind.{flat_map-append}
use Rattle.std.proofs.lemmas.List.Sums.{sum_by-cons}
use Rattle.arrow_spec.specs.Streams.{batch_message, end_word, schema_message, stream_of}
use Rattle.block_spec.specs.Slots.{Row}
use Rattle.cell_model.specs.declared.column.Column.{Column}
use Rattle.event_spec.specs.Replies.{CoreReply}
use Rattle.export_spec.specs.Calls.{AreAllRead, BreaksOff, IsFrontIn, groups_told, messages_of}
use Rattle.isolation_laws.specs.Inserts.{all_rows}
use Rattle.run_spec.specs.Occurrences.{Occurrence, replies_in}
use Rattle.run_spec.specs.Told.{is_some_row, rows_told}
use Rattle.run_laws.proofs.Exports.Groups.{rows_kept, rows_together}

-- a stream goes on from its first messages
goes_on : (columns : List Column) (first more : List (List Row))
    → stream_of columns (first ++ more) ≡ messages_of columns first ++ (flat_map (batch_message columns) more ++ end_word)
goes_on columns first more =
    ap (λ bytes. (schema_message columns ++ bytes) ++ end_word) (flat_map-append (batch_message columns) first more)
    ∙ ap (λ bytes. bytes ++ end_word) (sym (append_assoc (schema_message columns) (flat_map (batch_message columns) first) (flat_map (batch_message columns) more)))
    ∙ append_assoc (messages_of columns first) (flat_map (batch_message columns) more) end_word

-- What an export sent that broke off is a front of the stream of all groups.
pub front_is : (columns : List Column) (blocks : ℕ) (made : List Occurrence) (bytes : List ℕ) (groups more : List (List Row))
    → groups_told made ++ more ≡ groups → (AreAllRead blocks made → more ≡ []) → BreaksOff columns blocks made bytes → IsFrontIn (stream_of columns groups) bytes
front_is columns blocks made bytes groups more split all (inl front) = (
  front.0 ++ (flat_map (batch_message columns) more ++ end_word),
  sym (append_assoc bytes front.0 (flat_map (batch_message columns) more ++ end_word))
      ∙ ap (λ bs. bs ++ (flat_map (batch_message columns) more ++ end_word)) front.1
      ∙ sym (goes_on columns (groups_told made) more)
      ∙ ap (stream_of columns) split,
)
front_is columns blocks made bytes groups more split all (inr whole) = (
  whole.1.0,
  whole.1.1 ∙ ap (stream_of columns) (sym (append-nil (groups_told made)) ∙ ap (λ rest. groups_told made ++ rest) (sym (all whole.0)) ∙ split),
)

-- how many groups and rows the reads told
pub groups_counted : (told : List CoreReply) → length (filter is_some_row (map rows_told told)) ≡ count_by (λ told. is_some_row (rows_told told)) told
groups_counted [] = refl
groups_counted (y ∷ ys) =
    go (is_some_row (rows_told y)) (groups_counted ys) ∙ sym (sum_by-cons (λ told. cond {A = ℕ} (is_some_row (rows_told told)) 1 0) y ys)
  where
    go : (b : Bool) → length (filter is_some_row (map rows_told ys)) ≡ count_by (λ told. is_some_row (rows_told told)) ys
        → length (cond b (rows_told y ∷ filter is_some_row (map rows_told ys)) (filter is_some_row (map rows_told ys)))
        ≡ cond {A = ℕ} b 1 0 + count_by (λ told. is_some_row (rows_told told)) ys
    go true rest = omega (Rattle.std.proofs.Common.arith, rest)
    go false rest = omega (Rattle.std.proofs.Common.arith, rest)

-- the groups that reads told have as many rows as the reads
pub rows_counted : (made : List Occurrence) → length (all_rows (groups_told made)) ≡ length (flat_map rows_told (replies_in made))
rows_counted made = ap (λ (rows : List Row). length rows) (rows_kept (map rows_told (replies_in made)) ∙ rows_together rows_told (replies_in made))
