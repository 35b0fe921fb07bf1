use Rattle.std.proofs.Common.{◌∙◌}
use mathlib.Core.Logic.{inr}
use Rattle.core_sweeps.proofs.Halves.{in_bare, in_fits, in_has, in_loose, in_room, in_slot, out_entry, out_has, row_back, row_ends}
use Rattle.core_sweeps.proofs.moving.move_row.Goals as goal

pub move_in-requires-clause-body : goal.move_in-requires-clause-body
move_in-requires-clause-body c = in_has c.args.shape.now c.args.held.now c.args.table c.args.pair.now c.requires c.move_out.new.held c.args.stamp c.in_ok-row.row c.in_ok-row.ensures.row c.in_ok-row.ensures.moved

pub move_in-requires-clause-room : goal.move_in-requires-clause-room
move_in-requires-clause-room c = in_room c.args.shape.now c.args.held.now c.args.table c.args.pair.now c.requires c.move_out.new.held c.args.stamp c.in_ok-row.row c.in_ok-row.ensures.row c.in_ok-row.ensures.moved

pub move_in-requires-clause-loose : goal.move_in-requires-clause-loose
move_in-requires-clause-loose c = in_loose c.args.shape.now c.args.held.now c.args.table c.args.pair.now c.requires c.move_out.new.held c.args.stamp c.in_ok-row.row c.in_ok-row.ensures.row c.in_ok-row.ensures.moved

pub move_in-requires-clause-slot : goal.move_in-requires-clause-slot
move_in-requires-clause-slot c = in_slot c.args.shape.now c.args.held.now c.args.table c.args.pair.now c.requires c.move_out.new.held c.args.stamp c.in_ok-row.row c.in_ok-row.ensures.row c.in_ok-row.ensures.moved

pub move_in-requires-clause-bare : goal.move_in-requires-clause-bare
move_in-requires-clause-bare c = in_bare c.args.shape.now c.args.held.now c.args.table c.args.pair.now c.requires c.move_out.new.held c.args.stamp c.in_ok-row.row c.in_ok-row.ensures.row c.in_ok-row.ensures.moved

pub move_in-requires-clause-fits : goal.move_in-requires-clause-fits
move_in-requires-clause-fits c = in_fits c.args.shape.now c.args.held.now c.args.table c.args.pair.now c.requires c.move_out.new.held c.args.stamp c.in_ok-row.row c.in_ok-row.ensures.row c.in_ok-row.ensures.moved

pub take_back-requires-clause-body : goal.take_back-requires-clause-body
take_back-requires-clause-body c = out_has c.args.shape.now c.args.held.now c.args.table c.args.pair.now c.requires c.move_in.new.held c.args.stamp c.in_ok-row.row c.in_ok-row.ensures.row (c.in-Err.ensures.err ∙ c.in_ok-row.ensures.moved)

pub take_back-requires-clause-room : goal.take_back-requires-clause-room
take_back-requires-clause-room c = in_room c.args.shape.now c.args.held.now c.args.table c.args.pair.now c.requires c.move_in.new.held c.args.stamp c.in_ok-row.row c.in_ok-row.ensures.row (c.in-Err.ensures.err ∙ c.in_ok-row.ensures.moved)

pub take_back-requires-clause-entry : goal.take_back-requires-clause-entry
take_back-requires-clause-entry c = out_entry c.args.shape.now c.args.held.now c.args.table c.args.pair.now c.requires c.move_in.new.held c.args.stamp c.in_ok-row.row c.in_ok-row.ensures.row (c.in-Err.ensures.err ∙ c.in_ok-row.ensures.moved)

pub returns-in-Ok-clause-ok : goal.returns-in-Ok-clause-ok
returns-in-Ok-clause-ok c = row_ends c.args.shape.now c.args.held.now c.args.table c.args.pair.now c.requires c.move_out.new.held c.args.stamp c.in_ok-row.row c.in_ok-row.ensures.row c.in_ok-row.ensures.moved c.move_in.new.held c.in-Ok.ensures.ok

pub returns-in-Err-clause-err : goal.returns-in-Err-clause-err
returns-in-Err-clause-err c = inr (row_back c.args.shape.now c.args.held.now c.args.table c.args.pair.now c.requires c.move_in.new.held c.args.stamp c.in_ok-row.row c.in_ok-row.ensures.row (c.in-Err.ensures.err ∙ c.in_ok-row.ensures.moved) c.take_back.new.held c.take_back.ensures)
