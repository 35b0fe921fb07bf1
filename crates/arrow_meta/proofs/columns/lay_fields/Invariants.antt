use Rattle.std.proofs.Common.{◌≡◌, ◌+◌, ◌*◌, ◌≤◌, length, map, drop}
use Rattle.std.specs.List.{enumerate_from}
use Rattle.arrow_spec.specs.Flatbuffers.{references}
use Rattle.arrow_meta.specs.Laying.{laid_fields}
use Rattle.arrow_meta.proofs.HeaderLemmas.{table_at}
use Rattle.arrow_meta.proofs.columns.lay_fields.Given as goal

abbrev pub invariant-loop-place : goal.invariant-loop-place
invariant-loop-place l = record {
  at : l.at ≡ l.fields + (4 + 4 * l.place);
  more : length l.initial.build ≤ length l.build;
  short : length l.build ≤ length l.initial.build + 66000 * l.place;
  bytes : laid_fields l.fields l.build (references (4 + 4 * l.place) (map (table_at l.encode) (drop l.place (enumerate_from 0 l.columns))))
      ≡ laid_fields l.fields l.initial.build (references 4 (map (table_at l.encode) (enumerate_from 0 l.columns)));
}
