-- What stands next in a stream, as the reader answers it.
use Rattle.std.specs.Prelude.{ℕ, ◌≤◌, [], ◌∷◌, None, Some, Option, Result, Ok, Err}
use Rattle.stream_spec.specs.Streams.{Known, MessageRead}
use Rattle.stream_spec.specs.declared.fault.Cause.{Cause}
use Rattle.ipc_read.specs.declared.message.Next.{Next}
use Rattle.ipc_read.specs.declared.message.Next.TheVariants as next

-- what is read of the message, where this is known
abbrev pub read_of : Known → Next → Result (Option MessageRead) Cause
read_of known (next.Batch batch) = Ok (Some (record {
  batches = batch.rows ∷ [];
  known = known;
  size = batch.size;
}))
read_of known (next.Dictionary learned) = Ok (Some (record {
  batches = [];
  known = learned.known;
  size = learned.size;
}))
read_of known next.End = Ok None
read_of known (next.Fault cause) = Err cause

-- a message that is read has its first eight bytes, and is one of so many bytes
abbrev pub IsInside : ℕ → Next → Type 0
IsInside total (next.Batch batch) = (8 ≤ batch.size) × (batch.size ≤ total)
IsInside total (next.Dictionary learned) = (8 ≤ learned.size) × (learned.size ≤ total)
IsInside total next.End = Unit {0}
IsInside total (next.Fault cause) = Unit {0}
