-- The places about a reply.
use Rattle.std.specs.Prelude.{List}
use Rattle.outcome_spec.specs.Entries.{Entry}
use Rattle.order_laws.specs.Places.{round_start, own_start, own_end, round_end}
use Rattle.outcome_counts.specs.declared.stretch.Stretch.{Stretch}

-- where its round begins, where its own of the round begin and end, and where the round ends
abbrev pub stretch_of : List Entry → Entry → Stretch
stretch_of entries entry = record {
  round_start = round_start entries entry;
  own_start = own_start entries entry;
  own_end = own_end entries entry;
  round_end = round_end entries entry;
}
