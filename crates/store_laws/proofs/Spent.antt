-- What an insert is told that finds its table full.
use Rattle.std.proofs.Common.{ℕ, ◌≤◌, List, [], ◌∷◌, ◌++◌, fold, arith}
use Rattle.core_laws.proofs.Logs.Logs.{made_keeps, made_step}
use Rattle.core_laws.proofs.Logs.Opening.{opening_follows, sound}
use Rattle.core_laws.proofs.Logs.Refusals.{full_from}
use Rattle.core_laws.specs.Events.Named.{FollowsMachine}
use Rattle.event_spec.specs.declared.event.Event.TheVariants as event
use Rattle.event_spec.specs.Lawful.{HasTable, IsLawful}
use Rattle.event_spec.specs.Parts.{Parts, Shape, head_at}
use Rattle.event_spec.specs.Replay.{IsLawfulFrom, Made, after, opening}
use Rattle.event_spec.specs.Sound.{IsShape, Sound}
use Rattle.isolation_spec.specs.Machine.{IsolationMachine}
use Rattle.isolation_spec.specs.Machine as machine
use Rattle.store_laws.specs.Room.{FullIsSpent, used}
use Rattle.store_laws.proofs.Room.{full_is_full, opens_with_rows, room_is_counted}

-- The state is sound and goes with a machine, and a table's slots in use are no more than its
-- inserts.
record Counts (sh : Shape) (s : Parts) (t : ℕ) : Type 0 where
  pub ok : Sound sh s
  pub at : IsolationMachine
  pub follows : FollowsMachine sh s at
  pub room : used sh s t ≤ (head_at sh s t).inserts

-- In front of the last event of a lawful log that holds, and the event may be made.
counts_from : (sh : Shape) (front : List Made) (last : Made) (s : Parts) (t : ℕ) → IsShape sh → HasTable sh t → Counts sh s t → IsLawfulFrom sh s (front ++ last ∷ [])
    → Counts sh (fold (after sh) s front) t × IsLawful sh last.event (fold (after sh) s front)
counts_from sh [] last s t shape has counts lawful = (counts, lawful.0)
counts_from sh (made ∷ front) last s t shape has counts lawful =
    let step = made_step sh s made counts.at shape counts.ok counts.follows lawful.0 lawful.1 in
    let one = (room_is_counted sh s made t shape counts.ok lawful.0 has).room in
    let room = counts.room in
    counts_from sh front last (after sh s made) t shape has
    (record { ok = made_keeps sh s made shape counts.ok lawful.0; at = step.0; follows = step.2; room = omega (arith, one, room) }) lawful.2

-- The last event of a lawful log may be made.
last_may : (sh : Shape) (front : List Made) (last : Made) (s : Parts) → IsLawfulFrom sh s (front ++ last ∷ []) → IsLawful sh last.event (fold (after sh) s front)
last_may sh [] last s lawful = lawful.0
last_may sh (made ∷ front) last s lawful = last_may sh front last (after sh s made) lawful.2

-- It holds in the opening core.
counts_first : (sh : Shape) (t : ℕ) → IsShape sh → HasTable sh t → Counts sh (opening sh) t
counts_first sh t shape has =
    let rows = opens_with_rows sh t shape has in
    let in_use = rows.0 in
    let counted = rows.1 in
    record { ok = sound sh shape; at = machine.opening_from sh.first; follows = opening_follows sh shape; room = omega (arith, in_use, counted) }

-- an insert that is refused as full found all slots of its table taken
pub full_is_spent : FullIsSpent
full_is_spent sh before refused own t row inserts shape lawful is =
    let last : Made = record { event = event.Insert own t row; refused = refused } in
    let has : HasTable sh t = (last_may sh before last (opening sh) lawful).1.0 in
    let front = counts_from sh before last (opening sh) t shape has (counts_first sh t shape has) lawful in
    let counts = front.0 in
    let full = full_from sh (fold (after sh) (opening sh) before) own t row counts.at shape counts.ok front.1 counts.follows inserts is in
    let all = full_is_full sh (fold (after sh) (opening sh) before) own t full.1 in
    let room = counts.room in
    let same = full.2 in
    record { counted = full.2; all = omega (arith, all, room, same) }
