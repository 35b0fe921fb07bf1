-- What a session has open, by its own events alone.
use Rattle.std.specs.Prelude.{ℕ, ℤ, ◌==◌, List, [], Option, None, Some, option_map, find, fold}
use Rattle.std.specs.BTreeMap.{insert_entry}
use Rattle.event_spec.specs.declared.event.Event.TheVariants as event
use Rattle.event_spec.specs.declared.own.OwnTransaction.{OwnTransaction}
use Rattle.event_spec.specs.declared.reply.Reply.TheVariants as reply
use Rattle.event_spec.specs.Effects.{CoreEvent}
pub use Rattle.event_spec.specs.Judged.{own_key}
use Rattle.event_spec.specs.Replies.{CoreReply}
use Rattle.isolation_spec.specs.declared.place.Place.{Place}
use Rattle.isolation_spec.specs.Contents.{place_cmp, place_at, place_of}
use Rattle.run_spec.specs.Occurrences.{Occurrence}

-- A begin opens a transaction, with the snapshot that it replied.
abbrev pub begun_by : ℕ → Option OwnTransaction → CoreReply → Option OwnTransaction
begun_by session own (reply.Begun snapshot) =
    Some (record { session = session; snapshot = snapshot; writes = [] })
begun_by session own _ = own

-- A write that was accepted is the transaction's own, on the slot that was replied.
abbrev pub with_own : Place → CoreReply → OwnTransaction → OwnTransaction
with_own place (reply.Written slot) own =
    record own { writes = insert_entry place_cmp own.writes place slot }
with_own place _ own = own

-- A commit ends the transaction, but one that was refused for a stale read leaves it as it is.
abbrev pub committed_by : Option OwnTransaction → CoreReply → Option OwnTransaction
committed_by own (reply.Stale what number) = own
committed_by own (reply.Committed number) = None
committed_by own (reply.Begun snapshot) = None
committed_by own (reply.Found row) = None
committed_by own (reply.Written slot) = None
committed_by own (reply.Refused refused) = None
committed_by own (reply.Rows rows) = None
committed_by own (reply.Shared rows) = None
committed_by own reply.Aborted = None
committed_by own (reply.Oldest oldest) = None
committed_by own (reply.Turned turned) = None
committed_by own (reply.Dropped count) = None
committed_by own (reply.Looked look) = None
committed_by own (reply.Moved count) = None
committed_by own (reply.Sealed stamp) = None
committed_by own (reply.NotSealed because) = None
committed_by own (reply.Imaged rows) = None
committed_by own reply.NoSeal = None
committed_by own reply.Thawed = None
committed_by own reply.Memory = None

-- what a session has open behind one more of its events
abbrev pub own_behind : Option OwnTransaction → CoreEvent → CoreReply → Option OwnTransaction
own_behind own (event.Begin session) told = begun_by session own told
own_behind own (event.Get handed table key) told = own
own_behind own (event.Insert handed table row) told =
    option_map (with_own (place_of table row) told) own
own_behind own (event.Update handed table row) told =
    option_map (with_own (place_of table row) told) own
own_behind own (event.Delete handed table key) told =
    option_map (with_own (place_at table key) told) own
own_behind own (event.Read handed table block) told = own
own_behind own (event.Range handed table low high) told = own
own_behind own (event.Commit handed reads) told = committed_by own told
own_behind own (event.Abort handed) told = None
own_behind own event.Oldest told = own
own_behind own (event.Observe table block) told = own
own_behind own (event.Prune table block oldest) told = own
own_behind own (event.Look table block) told = own
own_behind own (event.Move table moves) told = own
own_behind own (event.Seal table block) told = own
own_behind own (event.Image table block image) told = own
own_behind own (event.Thaw table block) told = own

-- The transaction that a session has open behind these events of its own: what its begin replied,
-- and the slot of each row that it wrote.
abbrev pub own_after : List Occurrence → Option OwnTransaction
own_after front =
    fold (λ own occurrence. own_behind own occurrence.event occurrence.reply) None front

-- the least key of a table that a transaction wrote
abbrev pub least_written : ℕ → OwnTransaction → Option ℤ
least_written table own =
    option_map (λ write. write.0.key) (find (λ write. write.0.table == table) own.writes)
