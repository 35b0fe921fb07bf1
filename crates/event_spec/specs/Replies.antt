-- What the core replies to each event.
use Rattle.std.specs.Prelude.{ℕ, ◌+◌, Bool, false, not, ◌==◌, List, Option, None, Some}
use Rattle.std.specs.Prelude.{[], fold, option_and_then, length, Result, Ok, Err, if◌then◌else◌}
use Rattle.std.specs.BTreeMap.{insert_entry}
use Rattle.std.specs.List.{filter_map}
use Rattle.block_layout.specs.Place.{place_of as slot_place}
use Rattle.block_spec.specs.declared.phase.Phase.{Phase}
use Rattle.block_spec.specs.declared.phase.Phase.TheVariants.{Loose, Sealed, Imaged}
use Rattle.block_spec.specs.declared.phase.SealFault.{SealFault}
use Rattle.block_spec.specs.Slots.{Row, seen}
use Rattle.block_spec.specs.Bodies.{Body, is_imaged, rows_of, turns, dropped_from, seal_fault}
use Rattle.block_spec.specs.Looks.{Look, looked}
use Rattle.event_spec.specs.declared.event.Event.TheVariants as event
use Rattle.event_spec.specs.declared.own.OwnTransaction.{OwnTransaction}
use Rattle.event_spec.specs.declared.reply.Reply.{Reply}
use Rattle.event_spec.specs.declared.reply.Reply.TheVariants as reply
use Rattle.event_spec.specs.declared.reply.WriteFault.{WriteFault}
use Rattle.event_spec.specs.Parts.{Parts, Shape, body_at, desk_at, slot_at, is_head, below}
use Rattle.event_spec.specs.Effects.{CoreEvent, is_some_write, found, insert_judged, change_judged}
use Rattle.event_spec.specs.Effects.{range_found, stale_in, held_pairs}
use Rattle.isolation_spec.specs.Contents.{State, place_cmp, at_place, contents_of, place_at}
use Rattle.isolation_spec.specs.Contents.{place_of, key_of}
use Rattle.isolation_spec.specs.declared.read.Read.{Read}
use Rattle.txn_desk.specs.Oldest.{oldest_of}

-- The core's replies: a shared image goes by its rows.
abbrev pub CoreReply : Type 0
CoreReply = Reply (List Row) (List Row) Look

-- the place, if there is one, is another
abbrev pub is_elsewhere : Option ℕ → ℕ → Bool
is_elsewhere None place = false
is_elsewhere (Some other) place = not (other == place)

abbrev pub reply_to_write : Result ℕ WriteFault → CoreReply
reply_to_write (Ok place) = reply.Written place
reply_to_write (Err fault) = reply.Refused fault

abbrev pub reply_to_seal : Option SealFault → ℕ → CoreReply
reply_to_seal None last = reply.Sealed (last + 1)
reply_to_seal (Some fault) last = reply.NotSealed fault

abbrev pub reply_to_image : Phase → Body → CoreReply
reply_to_image Loose body = reply.NoSeal
reply_to_image (Sealed stamp) body = reply.Imaged (length (rows_of body))
reply_to_image (Imaged stamp) body = reply.NoSeal

-- rows of a table, by their places
abbrev pub by_place : ℕ → List Row → State
by_place table rows =
    fold (λ state row. insert_entry place_cmp state (place_of table row) row) [] rows

-- rows of a table in the order of their keys
abbrev pub in_key_order : ℕ → List Row → List Row
in_key_order table rows = contents_of table (by_place table rows)

module _ (shape : Shape) (parts : Parts) where
  -- A row that the session sees at a place, but for one whose key it wrote at another slot.
  abbrev pub row_read : OwnTransaction → ℕ → ℕ → Option Row
  row_read own table place = option_and_then
      (λ row. if is_elsewhere (at_place own.writes (place_at table (key_of row))) place then None
      else Some row)
      (seen (slot_at shape parts table place) own.snapshot.stamp own.session)

  -- the rows read in a block, in slot order
  abbrev pub rows_read : OwnTransaction → ℕ → ℕ → List Row
  rows_read own table block =
      filter_map (λ slot. row_read own table (slot_place block slot))
      (below (length (body_at shape parts table block).slots))

  -- An imaged block replies its shared image, which stands for all its rows.
  abbrev pub reply_to_read : OwnTransaction → ℕ → ℕ → CoreReply
  reply_to_read own table block =
      if is_imaged (body_at shape parts table block).phase
      then reply.Shared (rows_of (body_at shape parts table block))
      else reply.Rows (rows_read own table block)

  -- A commit replies its number where it has writes, and where it is refused the stale read.
  abbrev pub reply_to_commit : OwnTransaction → Option (Read × ℕ) → CoreReply
  reply_to_commit own (Some stale) = reply.Stale stale.0 stale.1
  reply_to_commit own None =
      reply.Committed (if is_some_write own.writes then Some ((desk_at shape parts).commits + 1)
      else None)

  -- The reply to an event.
  abbrev pub reply_to : CoreEvent → CoreReply
  reply_to (event.Begin session) =
      reply.Begun (record {
        stamp = (desk_at shape parts).newest;
        number = (desk_at shape parts).commits;
      })
  reply_to (event.Get own table key) = reply.Found (found shape parts own table key)
  reply_to (event.Insert own table row) = reply_to_write
      (insert_judged shape parts own table (key_of row))
  reply_to (event.Update own table row) = reply_to_write
      (change_judged shape parts own table (key_of row))
  reply_to (event.Delete own table key) = reply_to_write (change_judged shape parts own table key)
  reply_to (event.Read own table block) = reply_to_read own table block
  reply_to (event.Range own table low high) = reply.Rows
      (range_found shape parts own table low high)
  reply_to (event.Commit own reads) = reply_to_commit own (stale_in shape parts own reads)
  reply_to (event.Abort own) = reply.Aborted
  reply_to event.Oldest = reply.Oldest (oldest_of (desk_at shape parts))
  reply_to (event.Observe table block) =
      reply.Turned (turns (is_head shape parts table block) (body_at shape parts table block))
  reply_to (event.Prune table block oldest) = reply.Dropped
      (dropped_from oldest (body_at shape parts table block))
  reply_to (event.Look table block) = reply.Looked (looked (body_at shape parts table block))
  reply_to (event.Move table moves) = reply.Moved (length (held_pairs shape parts table moves))
  reply_to (event.Seal table block) = reply_to_seal
      (seal_fault (is_head shape parts table block) (body_at shape parts table block))
      (body_at shape parts table block).last
  reply_to (event.Image table block image) =
      reply_to_image (body_at shape parts table block).phase (body_at shape parts table block)
  reply_to (event.Thaw table block) = reply.Thawed
