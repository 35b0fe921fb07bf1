-- How many rows an event may read.
use Rattle.std.specs.Prelude.{ℕ, ◌+◌, length, sum_by, if◌then◌else◌}
use Rattle.block_spec.specs.Bodies.{is_imaged}
use Rattle.event_spec.specs.declared.event.Event.TheVariants as event
use Rattle.event_spec.specs.Effects.{CoreEvent, range_keys}
use Rattle.event_spec.specs.Parts.{Parts, Shape, body_at, places_at, slots_of}

-- A get reads a row of each candidate at most, and of its own write; an update the row that it
-- changes, and an insert and a delete none; a read of a block one for each slot, but none where the
-- block is imaged; a range one for each candidate of its keys.
abbrev pub cost_of : Shape → CoreEvent → Parts → ℕ
cost_of shape (event.Begin session) parts = 0
cost_of shape (event.Get own table key) parts = length (places_at shape parts table key) + 1
cost_of shape (event.Insert own table row) parts = 0
cost_of shape (event.Update own table row) parts = 1
cost_of shape (event.Delete own table key) parts = 0
cost_of shape (event.Read own table block) parts =
    if is_imaged (body_at shape parts table block).phase then 0 else slots_of shape table
cost_of shape (event.Range own table low high) parts =
    sum_by (λ key. length (places_at shape parts table key)) (range_keys shape parts table low high)
cost_of shape (event.Commit own reads) parts = 0
cost_of shape (event.Abort own) parts = 0
cost_of shape event.Oldest parts = 0
cost_of shape (event.Observe table block) parts = 0
cost_of shape (event.Prune table block oldest) parts = 0
cost_of shape (event.Look table block) parts = 0
cost_of shape (event.Move table moves) parts = 0
cost_of shape (event.Seal table block) parts = 0
cost_of shape (event.Image table block image) parts = 0
cost_of shape (event.Thaw table block) parts = 0
