use Rattle.std.proofs.Common.{◌≡◌, List, Some, sym, ap, ◌∙◌}
use Rattle.cell_model.specs.declared.column.Column.{Column}
use Rattle.stream_spec.specs.Streams.{Reading}
use Rattle.stream_laws.proofs.bytes_are_one_stream_at_most.Goals as goal

same_columns : (columns others : List Column) → Some columns ≡ Some others → columns ≡ others
same_columns columns others is = cc

pub returns : goal.returns
returns c = λ bytes columns others batches more one two.
    let both = sym one ∙ two in (
      same_columns columns others (ap (λ (reading : Reading). reading.schema) both),
      ap
          (λ (reading : Reading). reading.batches) both,
    )
