-- What one message did, behind which others follow.
use Rattle.std.specs.Prelude.{◌≡◌, ◌≤◌, ℕ, List, [], ◌∷◌, length, None, Some, Ok, Err}
use Rattle.cell_model.specs.declared.cell.Cell.{Cell}
use Rattle.stream_spec.specs.Streams.{Known, next_message}
use Rattle.ipc_read.specs.declared.steps.Step.{Step}
use Rattle.ipc_read.specs.declared.steps.Step.TheVariants as step

-- The bytes begin with a batch of these rows, which were taken.
pub record TookBatch
    {T : Type 0} (took : T → List (List Cell) → T → Type 0) (known : Known) (bytes : List ℕ)
    (old new : T) (size : ℕ)
    : Type 0 where
  pub rows : List (List Cell)
  pub is : next_message known bytes
      ≡ Ok (Some (record { batches = rows ∷ []; known = known; size = size }))
  pub taken : took old rows new
  pub some : 8 ≤ size
  pub inside : size ≤ length bytes

-- They begin with a dictionary, behind which this is known; nothing was taken.
pub record LearnedMore {T : Type 0} (known : Known) (bytes : List ℕ) (old new : T) (more : Known)
    (size : ℕ) : Type 0 where
  pub is : next_message known bytes
      ≡ Ok (Some (record { batches = []; known = more; size = size }))
  pub kept : new ≡ old
  pub some : 8 ≤ size
  pub inside : size ≤ length bytes

abbrev pub Steps : {T : Type 0} → (T → List (List Cell) → T → Type 0) → Known → List ℕ → T → T
    → Step → Type 0
Steps took known bytes old new (step.Took size) = TookBatch took known bytes old new size
Steps took known bytes old new (step.Learned more size) =
    LearnedMore known bytes old new more size
Steps took known bytes old new step.End = (next_message known bytes ≡ Ok None) × (new ≡ old)
Steps took known bytes old new (step.Fault cause) = (next_message known bytes ≡ Err cause)
    × (new ≡ old)
