-- The message of a batch put together from its columns is that of its rows.
use Rattle.std.proofs.Common.{◌≡◌, ◌∙◌, ℕ, List, sym, ap}
use Rattle.arrow_spec.specs.Batches.{Array, arrays_of, batch_of_arrays}
use Rattle.arrow_spec.specs.Streams.{batch_message, message_of_batch}
use Rattle.block_columns.specs.Images.{ImageValue, IsWhole, rows_of}
use Rattle.block_columns.proofs.Whole.{held_count}

-- the message of its columns is that of its rows
pub message-whole : (image : ImageValue) (arrays : List Array) (message : List ℕ) → IsWhole image → arrays ≡ arrays_of image.columns (rows_of image)
    → message ≡ message_of_batch (batch_of_arrays image.rows arrays) → message ≡ batch_message image.columns (rows_of image)
message-whole image arrays message whole are is =
    is ∙ ap (λ (l : List Array). message_of_batch (batch_of_arrays image.rows l)) are
    ∙ ap (λ (n : ℕ). message_of_batch (batch_of_arrays n (arrays_of image.columns (rows_of image)))) (sym (held_count image.rows image.slots whole.held))
