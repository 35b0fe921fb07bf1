use Rattle.std.proofs.Common.{◌∙◌}
use Rattle.shared_store.proofs.taking.mark_read.Goals as goal

pub mark_ranges-requires : goal.mark_ranges-requires
mark_ranges-requires c = c.mark_keys.ensures.room ∙ c.requires
