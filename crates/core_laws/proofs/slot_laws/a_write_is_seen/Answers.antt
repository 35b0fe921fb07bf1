use Rattle.core_laws.proofs.Slots.Views.{seen_writer}
use Rattle.core_laws.proofs.Slots.Endings.{seen_after_commit}
use Rattle.core_laws.proofs.slot_laws.a_write_is_seen.Goals as goal

pub returns-clause-writer : goal.returns-clause-writer
returns-clause-writer c = λ slot writer stamp lawful is. seen_writer slot.row slot.entries stamp writer lawful is

pub returns-clause-commit : goal.returns-clause-commit
returns-clause-commit c = λ slot writer at number stamp lawful is later. seen_after_commit writer at number slot stamp lawful is later
