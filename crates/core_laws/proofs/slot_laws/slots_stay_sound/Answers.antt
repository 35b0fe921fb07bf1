use Rattle.core_laws.proofs.Slots.Kept.{sound_committed, sound_rolled}
use Rattle.core_laws.proofs.Slots.Prunings.{sound_pruned}
use Rattle.core_laws.proofs.Slots.Written.{sound_written}
use Rattle.core_laws.proofs.slot_laws.slots_stay_sound.Goals as goal

pub returns-clause-write : goal.returns-clause-write
returns-clause-write c = λ slot session newest commits change some mine ok. sound_written session newest commits change slot some mine ok

pub returns-clause-commit : goal.returns-clause-commit
returns-clause-commit c = λ slot session newest commits ok. sound_committed session newest commits slot ok

pub returns-clause-roll_back : goal.returns-clause-roll_back
returns-clause-roll_back c = λ slot session newest commits ok. sound_rolled session newest commits slot ok

pub returns-clause-pruning : goal.returns-clause-pruning
returns-clause-pruning c = λ slot oldest newest commits ok. sound_pruned oldest newest commits slot ok
