use Rattle.std.proofs.Common.{◌≡◌, ◌+◌, drop}
use Rattle.stream_spec.specs.Columns.{buffer_count}
use Rattle.ipc_read.proofs.batch.are_buffers_of.Given as goal

-- those that are left and those of all fields are as many as those of the fields that are left
-- and all
abbrev pub invariant-loop-field : goal.invariant-loop-field
invariant-loop-field l = l.left + buffer_count l.fields ≡ l.count + buffer_count (drop l.field-index l.fields)
