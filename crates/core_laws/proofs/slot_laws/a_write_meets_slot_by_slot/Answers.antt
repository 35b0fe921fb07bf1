use Rattle.core_laws.proofs.Slots.Meetings.{newer_over}
use Rattle.core_laws.proofs.slot_laws.a_write_meets_slot_by_slot.Goals as goal

pub returns : goal.returns
returns c = newer_over
