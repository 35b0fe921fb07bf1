-- The messages of a block's rows and of its image are one.
use Rattle.std.proofs.Common.{◌≡◌, ◌∙◌, ℕ, Err, Option, List, [], ◌∷◌, length, refl, sym, ap}
use Rattle.arrow_spec.specs.Streams.{batch_message}
use Rattle.block_columns.specs.Images.{ImageValue, IsWhole, rows_of}
use Rattle.block_spec.specs.Slots.{Row}
use Rattle.cell_model.specs.declared.column.Column.{Column}
use Rattle.core_parts.specs.Kinds.{kinds_of}
use Rattle.core_parts.proofs.SameKinds.{same_message}
use Rattle.ipc_write.specs.Calls.{MakesPiece, WriterView}
use Rattle.ipc_write.specs.declared.faults.PieceFault.{PieceFault}
use Rattle.ipc_write.specs.declared.faults.PieceFault.TheVariants.{Sink, Memory}
use Rattle.shared_store.proofs.Counted.{rows_counted}
use Rattle.store_export.specs.Groups.{group_message}

-- rows make the message of their batch
pub message_is : (columns : List Column) (rows : List Row) → (length rows ≡ 0 → ⊥) → batch_message columns rows ≡ group_message columns rows
message_is columns [] some = absurd (some refl)
message_is columns (row ∷ rows) some = refl

-- a fault is told of one answer as of another
pub retold : {W : Type 0} (T S : Type 0) (written : W → Option (List ℕ)) (faults : W → ℕ) (old new : WriterView W) (piece : List ℕ) (fault : PieceFault)
    → MakesPiece {T = T} written faults old new piece (Err fault) → MakesPiece {T = S} written faults old new piece (Err fault)
retold T S written faults old new piece (Sink fault) told = told
retold T S written faults old new piece (Memory refused) told = told

-- ---- images

-- the message of an image of a table's kinds is that of its rows
pub image_message : (image : ImageValue) (columns : List Column) (rows : List Row) → IsWhole image → rows_of image ≡ rows → kinds_of image.columns ≡ kinds_of columns
    → (image.rows ≡ 0 → ⊥) → batch_message image.columns (rows_of image) ≡ group_message columns rows
image_message image columns rows whole same kinds some =
    same_message image.columns columns (rows_of image) kinds ∙ ap (batch_message columns) same
    ∙ message_is columns rows (λ none. some (sym (rows_counted image whole) ∙ ap (λ (rows : List Row). length rows) same ∙ none))
