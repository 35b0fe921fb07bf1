use Rattle.std.proofs.Common.{◌≡◌, ◌∙◌, ◌+◌, ◌++◌, Bool, List, [], Option, None, Some, ap, refl}
use Rattle.std.specs.Prelude.{if◌then◌else◌, is_some}
use Rattle.arrow_spec.specs.declared.fields.Field.{Field}
use Rattle.cell_model.specs.declared.column.Column.{Column}
use Rattle.stream_pieces.specs.Pieces.{schema_of}
use Rattle.std.specs.Option.{option_copied, option_map}
use Rattle.stream_spec.specs.Streams.{Known}
use Rattle.stream_text.specs.Shown.{field_columns, front_lines}
use Rattle.stream_text.proofs.ShowingLemmas.{next-shows}
use Rattle.workload_spec.specs.Words.{lines_text}
use Rattle.stream_text.proofs.showing.Showing.next.Goals as goal

pub returns-clause-shows : goal.returns-clause-shows
returns-clause-shows c = λ fed so.
    let old = c.args.self.now in
    let reader = c.feed_to.new.self in
    let taker = c.feed_to.new.taker in
    let lines = c.new-lines.result in
    let after : Option (List Column) = schema_of reader.known in
    let copied : is_some c.schema.result ≡ is_some (option_copied c.schema.result) =
    elim c.schema.result as (λ o. is_some o ≡ is_some (option_copied o))
    [ None ↦ refl | Some fields ↦ refl ] in
    let began : c.is_some-began.result ≡ is_some (schema_of old.reader.known) =
    c.is_some-began.ensures ∙ copied ∙ ap (λ (o : Option (List Field)). is_some o) c.schema.ensures
    ∙ elim old.reader.known
    as (λ k. is_some (option_map (λ (known : Known). known.fields) k) ≡ is_some (schema_of k))
    [ None ↦ refl | Some known ↦ refl ] in
    next-shows fed c.args.piece.now old reader _ lines.text.items taker.text.items lines.count
    taker.count (old.rows + c.count.result) _ _ _ c.in_ok-stand.stand so
    c.in_ok-stand.ensures.ok c.in_ok-stand.ensures.waits c.in_ok-stand.ensures.stand
    (cc (c.new-lines.ensures.text, c.replace.ensures.value, c.clear.ensures.items))
    c.new-lines.ensures.count
    (ap (λ n. old.rows + n) c.count.ensures)
    (c.due_fields-fields.ensures
    ∙ ap (λ (b : Bool). if b then None else after) began)
    (c.in_ok-text.ensures
    ∙ ap (λ t. lines_text (front_lines (option_map field_columns (option_copied c.due_fields-fields.result)) []) ++ t)
    c.into_text.ensures)
    c.in_ok-put_last.ensures
