use Rattle.core_laws.proofs.Events.Owners.{all_open, all_slots}
use Rattle.core_laws.proofs.event_laws.events_are_handed_what_is_written.Goals as goal

pub returns : goal.returns
returns c = λ shape parts own ok owns. record { is_open = all_open shape parts ok own owns; slots = all_slots shape parts ok own owns }
