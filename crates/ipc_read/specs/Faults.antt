-- Why metadata was not read, as a message's fault.
use Rattle.arrow_meta.specs.declared.fields.NotRead.{NotRead as MetaNotRead}
use Rattle.arrow_meta.specs.declared.fields.NotRead.TheVariants as meta_not_read
use Rattle.stream_spec.specs.Streams.{cause_of}
use Rattle.ipc_read.specs.declared.faults.NotRead.{NotRead}
use Rattle.ipc_read.specs.declared.faults.NotRead.TheVariants as not_read

-- a fault of the metadata is one of the message, and want of memory stays it
abbrev pub not_read_of : MetaNotRead → NotRead
not_read_of (meta_not_read.Fault fault) = not_read.Fault (cause_of fault)
not_read_of meta_not_read.Memory = not_read.Memory
