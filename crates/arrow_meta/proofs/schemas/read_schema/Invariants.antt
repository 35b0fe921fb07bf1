use Rattle.std.proofs.Common.{◌≡◌, ◌+◌, ◌*◌, ◌-◌, map}
use Rattle.std.specs.List.{range_with_len}
use Rattle.stream_spec.specs.Metadata.{fields_at, fields_behind}
use Rattle.arrow_meta.proofs.schemas.read_schema.Given as goal

-- the fields so far, and behind them those that are left
abbrev pub invariant-loop-i : goal.invariant-loop-i
invariant-loop-i l =
    fields_at l.bytes l.table
    ≡ fields_behind l.bytes l.fields.items (map (λ i. l.schema.fields.first + 4 * i) (range_with_len l.i (l.i-end - l.i)))
