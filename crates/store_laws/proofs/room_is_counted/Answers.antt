use Rattle.store_laws.proofs.Room.{full_is_full, opens_with_rows, room_is_counted}
use Rattle.store_laws.proofs.Spent.{full_is_spent}
use Rattle.store_laws.proofs.room_is_counted.Goals as goal

pub returns-clause-opens : goal.returns-clause-opens
returns-clause-opens c = opens_with_rows

pub returns-clause-next : goal.returns-clause-next
returns-clause-next c = room_is_counted

pub returns-clause-full : goal.returns-clause-full
returns-clause-full c = full_is_full

pub returns-clause-spent : goal.returns-clause-spent
returns-clause-spent c = full_is_spent
