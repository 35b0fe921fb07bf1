use Rattle.std.proofs.Common.{not, filter}
use Rattle.undo_chain.specs.Entry.{is_stamped_by}
use Rattle.undo_chain.proofs.Rows.{visible_row-same}
use Rattle.undo_chain.proofs.Views.{images_after_prune}
use Rattle.undo_chain.proofs.laws.a_pruning.Goals as goal

pub returns : goal.returns
returns g c =
    λ lay_back row entries oldest stamp me lawful later.
    visible_row-same
    lay_back
    row
    (filter (λ undo. not (is_stamped_by undo oldest)) entries)
    entries
    stamp
    me
    (images_after_prune oldest entries stamp me lawful later)
