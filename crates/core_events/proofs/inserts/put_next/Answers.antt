use Rattle.std.proofs.Common.{◌≡◌, ◌+◌, ◌<◌, ◌^◌, ℤ, rules, to_z, of_z, w64, sym, ap, ◌∙◌, subst}
use Rattle.std.proofs.Math.Facts.{to_z-of_z}
use Rattle.core_parts.specs.Hands.{after}
use Rattle.event_spec.specs.Parts.{HeadOf, head_from}
use Rattle.event_spec.specs.Sound.{IsOfKind}
use Rattle.core_events.proofs.Puts.{slot_taken, still_head, still_room}
use Rattle.core_events.specs.Puts.{put_changes, row_changes}
use Rattle.core_events.proofs.inserts.put_next.Goals as goal

pub take_slot-requires-clause-room : goal.take_slot-requires-clause-room
take_slot-requires-clause-room c = let key : to_z w64 (of_z w64 c.args.key) ≡ c.args.key = to_z-of_z {w = w64} (search rules) in let k = to_z w64 (of_z w64 c.args.key) in
    still_room c.args.shape.now (row_changes c.args.own.now.session c.args.table k c.args.place c.args.row) c.args.held.now c.put_row.new.held c.requires.room c.in_ok-put_row.ensures.ok

pub take_slot-requires-clause-head : goal.take_slot-requires-clause-head
take_slot-requires-clause-head c = let key : to_z w64 (of_z w64 c.args.key) ≡ c.args.key = to_z-of_z {w = w64} (search rules) in let k = to_z w64 (of_z w64 c.args.key) in
    subst (IsOfKind (HeadOf c.args.table)) (sym (still_head c.args.shape.now c.args.held.now c.put_row.new.held c.args.own.now.session c.args.table k c.args.place c.args.row c.in_ok-put_row.ensures.ok c.requires.head)) c.requires.head

pub take_slot-requires-clause-count : goal.take_slot-requires-clause-count
take_slot-requires-clause-count c = let key : to_z w64 (of_z w64 c.args.key) ≡ c.args.key = to_z-of_z {w = w64} (search rules) in let k = to_z w64 (of_z w64 c.args.key) in
    subst (λ o. (head_from o).inserts + 1 < 2 ^ 64) (sym (still_head c.args.shape.now c.args.held.now c.put_row.new.held c.args.own.now.session c.args.table k c.args.place c.args.row c.in_ok-put_row.ensures.ok c.requires.head)) (c.counts_on.ensures (search rules))

pub returns-clause-ok : goal.returns-clause-ok
returns-clause-ok c = let key : to_z w64 (of_z w64 c.args.key) ≡ c.args.key = to_z-of_z {w = w64} (search rules) in let k = to_z w64 (of_z w64 c.args.key) in
    slot_taken c.args.shape.now c.args.held.now c.put_row.new.held c.take_slot.new.held c.args.own.now c.args.table k c.args.place c.args.row c.requires.fresh c.in_ok-put_row.ensures.ok c.take_slot.ensures
    ∙ ap (λ (k : ℤ). after c.args.shape.now (put_changes c.args.shape.now c.args.own.now c.args.table k c.args.place c.args.row) c.args.held.now) key
