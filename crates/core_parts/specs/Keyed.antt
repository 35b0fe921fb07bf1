-- Events whose rows have a key of 64 bits.
use Rattle.std.specs.Prelude.{⊤}
use Rattle.block_body.specs.Keys.{HasKey}
use Rattle.event_spec.specs.declared.event.Event.TheVariants as event
use Rattle.event_spec.specs.Effects.{CoreEvent}

-- The row of the event, if it has one, has a key of 64 bits, as each row that fits a table.
abbrev pub IsKeyed : CoreEvent → Type 0
IsKeyed (event.Begin session) = ⊤
IsKeyed (event.Get own table key) = ⊤
IsKeyed (event.Insert own table row) = HasKey row
IsKeyed (event.Update own table row) = HasKey row
IsKeyed (event.Delete own table key) = ⊤
IsKeyed (event.Read own table block) = ⊤
IsKeyed (event.Range own table low high) = ⊤
IsKeyed (event.Commit own reads) = ⊤
IsKeyed (event.Abort own) = ⊤
IsKeyed event.Oldest = ⊤
IsKeyed (event.Observe table block) = ⊤
IsKeyed (event.Prune table block oldest) = ⊤
IsKeyed (event.Look table block) = ⊤
IsKeyed (event.Move table moves) = ⊤
IsKeyed (event.Seal table block) = ⊤
IsKeyed (event.Image table block image) = ⊤
IsKeyed (event.Thaw table block) = ⊤
