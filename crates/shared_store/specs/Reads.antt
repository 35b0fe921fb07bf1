-- What a session keeps of its open transaction's reads, around a call.
use Rattle.std.specs.Prelude.{Bool, Option, None, Some, IfSome, option_map, if◌then◌else◌}
use Rattle.event_spec.specs.Lawful.{HasReads}
use Rattle.event_spec.specs.Parts.{Shape}
use Rattle.event_spec.specs.Replies.{CoreReply}
pub use Rattle.isolation_spec.specs.Reads.{ReadSet}
use Rattle.isolation_spec.specs.Reads.{no_reads, with_read}
use Rattle.isolation_spec.specs.declared.place.Place.{Place}
use Rattle.isolation_spec.specs.declared.read.Read.{Read}
use Rattle.isolation_spec.specs.declared.read.Read.TheVariants as read
use Rattle.run_spec.specs.Calls.{is_memory}

-- each read is of a table that there is
abbrev pub ReadsFit : Shape → Option ReadSet → Type 0
ReadsFit shape reads = IfSome reads (HasReads shape)

-- what a transaction has read that begins
abbrev pub reads_begun : Bool → Option ReadSet
reads_begun checked = if checked then Some no_reads else None

-- one read more, where reads are kept
abbrev pub with_one : Read → Option ReadSet → Option ReadSet
with_one what reads = option_map (with_read what) reads

-- A get reads its key, but for one that found no memory.
abbrev pub read_by : Place → CoreReply → Option ReadSet → Option ReadSet
read_by place told reads =
    if is_memory told then reads else with_one (read.Key place.table place.key) reads
