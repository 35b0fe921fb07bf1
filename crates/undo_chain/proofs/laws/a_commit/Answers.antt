use Rattle.std.proofs.Common.{map}
use Rattle.undo_chain.specs.Stamped.{stamped}
use Rattle.undo_chain.proofs.Rows.{visible_row-same}
use Rattle.undo_chain.proofs.Views.{images_after_commit}
use Rattle.undo_chain.proofs.laws.a_commit.Goals as goal

pub returns : goal.returns
returns g c =
    λ lay_back row entries session commit number stamp me other below.
    visible_row-same
    lay_back
    row
    (map (stamped session commit number) entries)
    entries
    stamp
    me
    (images_after_commit session commit number entries stamp me other below)
