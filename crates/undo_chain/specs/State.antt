-- What a contract sees of a chain.
use Rattle.std.specs.Prelude.{ℕ, List}
use Rattle.undo_chain.specs.declared.undo.Undo.{Undo}

-- A chain is its entries, newest first, and how many it has room for.
pub record ChainState (D : Type 0) : Type 0 where
  pub entries : List (Undo D)
  pub room : ℕ
