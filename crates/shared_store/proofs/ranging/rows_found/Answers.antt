use Rattle.std.proofs.Common.{⊎_elim}
use Rattle.shared_store.proofs.ranging.rows_found.Goals as goal

pub unreachable-requires : goal.unreachable-requires
unreachable-requires c = ⊎_elim (λ r. c.in_default.not-Memory r) (λ r. c.in_default.not-Rows r.0 r.1) c.requires
