use Rattle.std.proofs.Common.{◌≡◌, ◌+◌, ◌*◌, ◌∙◌, ◌≤◌, ◌<◌, Bool, ℕ, List, [], length, map, drop, get_or, sym, ap, subst, arith}
use Rattle.std.specs.List.{enumerate_from}
use Rattle.std.proofs.lemmas.List.{length-map, drop_all}
use Rattle.std.proofs.lemmas.List.FromFn.{get_or-enumerate_from, length-enumerate_from}
use Rattle.cell_model.specs.declared.column.Column.{Column}
use Rattle.flat_build.specs.Layout.{with_vector}
use Rattle.arrow_spec.specs.Flatbuffers.{Object, references, vector_of_tables}
use Rattle.arrow_meta.specs.Laying.{IsLaid, laid_fields}
use Rattle.arrow_meta.proofs.FieldLemmas.{LaidTo, one-more, tables-are}
use Rattle.arrow_meta.proofs.HeaderLemmas.{table_at, tables-of}
use Rattle.arrow_meta.proofs.columns.lay_fields.Goals as goal

pub loop-place-preserved : goal.loop-place-preserved
loop-place-preserved c =
    let columns : List Column = c.args.columns.now in
    let place : ℕ = c.loop-place.place in
    let column : Column = c.index-columns-place.result in
    let item : ℕ × Column = (place, column) in
    let laid : IsLaid (table_at c.args.encode item) 66000 c.loop-place.build c.lay_field.new.build c.in_ok-field.field = c.in_ok-field.ensures in
    let count = length-enumerate_from 0 columns in
    let inside : place < length (enumerate_from 0 columns) = omega arith in
    let here : item ≡ get_or (enumerate_from 0 columns) place item =
    let same : place ≡ 0 + place = omega arith in
    let within : place < length columns = omega arith in
    ap (λ (n : ℕ). let pair : ℕ × Column = (n, column) in pair) same
    ∙ ap (λ (x : Column). let pair : ℕ × Column = (0 + place, x) in pair) c.index-columns-place.is
    ∙ sym (get_or-enumerate_from 0 columns place item within) in
    record {
      at = omega arith;
      more = omega arith;
      short = omega arith;
      bytes = one-more (table_at c.args.encode) (enumerate_from 0 columns) item c.in_ok-fields.fields place 66000
          c.loop-place.at c.in_ok-field.field c.loop-place.build c.lay_field.new.build c.refer.new.self
          inside here c.loop-place.invariant.at laid c.refer.ensures.written
          ∙ c.loop-place.invariant.bytes;
    }

pub returns : goal.returns
returns c =
    let columns : List Column = c.args.columns.now in
    let encode : Bool = c.args.encode in
    let all : List (ℕ × Column) = enumerate_from 0 columns in
    let objects : List Object = map (table_at encode) all in
    let count : length objects ≡ length columns = length-map all (table_at encode) ∙ length-enumerate_from 0 columns in
    let past : length all ≤ c.loop-place.place = omega (arith, length-enumerate_from 0 columns) in
    let none : drop c.loop-place.place all ≡ [] = drop_all c.loop-place.place all past in
    let rest : LaidTo c.in_ok-fields.fields c.vector.new.self (references 4 objects) c.loop-place.build = record {
      is =
          ap (λ (ys : List (ℕ × Column)). laid_fields c.in_ok-fields.fields c.loop-place.build (references (4 + 4 * c.loop-place.place) (map (table_at encode) ys))) (sym none)
          ∙ c.loop-place.invariant.bytes;
    } in
    let laid : IsLaid (vector_of_tables objects) (64 + length columns * 66200) c.args.build.now c.loop-place.build c.in_ok-fields.fields =
    tables-are c.args.build.now objects (64 + length columns * 66200) c.in_ok-fields.fields c.vector.new.self c.loop-place.build
    c.in_ok-fields.ensures.place
    (c.in_ok-fields.ensures.ok ∙ ap (λ (n : ℕ). with_vector c.args.build.now n 4) (sym count))
    rest
    (omega (arith, c.in_ok-fields.ensures.len, c.in_ok-fields.ensures.place))
    (omega (arith, c.in_ok-fields.ensures.len, c.in_ok-fields.ensures.place)) in
    subst
    (λ (tables : List Object). IsLaid (vector_of_tables tables) (64 + length columns * 66200) c.args.build.now c.loop-place.build c.in_ok-fields.fields)
    (tables-of encode all) laid
