use Rattle.std.proofs.Common.{[], ◌∷◌, ◌++◌, ◌∙◌}
use Rattle.core_parts.specs.Hands.{in_hand}
use Rattle.core_parts.specs.Touched.{bodies_written, names_read}
use Rattle.event_spec.specs.Newest.{judged_reads}
use Rattle.event_spec.specs.Parts.{TheDesk}
use Rattle.shared_store.proofs.Marking.{marked_on}
use Rattle.shared_store.proofs.taking.mark_commit.Goals as goal

pub mark_read-requires : goal.mark_read-requires
mark_read-requires c = c.mark_written.ensures.room ∙ c.requires

pub mark_desk-requires : goal.mark_desk-requires
mark_desk-requires c = c.mark_read.ensures.room ∙ c.mark_written.ensures.room ∙ c.requires

pub returns : goal.returns
returns c =
    let sh = c.args.shape.now in
    let writes = c.args.own.now.writes in
    let read = names_read sh (in_hand sh c.args.held.now) (judged_reads writes c.args.reads.now) in
    marked_on sh (bodies_written writes ++ read) (TheDesk ∷ []) c.args.marks.now c.mark_read.new.marks c.mark_desk.new.marks
    (marked_on sh (bodies_written writes) read c.args.marks.now c.mark_written.new.marks c.mark_read.new.marks c.mark_written.ensures c.mark_read.ensures) c.mark_desk.ensures
