use Rattle.std.proofs.Common.{◌∙◌, List, Option, map, sym, ap, subst}
use Rattle.block_columns.specs.Columns.{ColumnsValue}
use Rattle.block_spec.specs.Slots.{Row, Slot}
use Rattle.core_parts.proofs.Front.{front_filled, front_listed}
use Rattle.core_parts.specs.FrontValues.{IsFilled, rows_of_front}
use Rattle.core_events.proofs.reading.front_rows.Goals as goal

pub new-requires : goal.new-requires
new-requires g c =
    let slots_are = ap (λ (v : ColumnsValue). v.rows) c.in_ok-columns.ensures ∙ c.columns.ensures.rows in
    subst (λ (slots : List (Option Row)). IsFilled slots c.rows-rows.result) (sym slots_are)
    (subst (IsFilled (map (λ (slot : Slot). slot.row) c.args.body.now.slots)) (sym c.rows-rows.ensures)
    (front_filled c.args.body.now.slots c.requires.front c.requires.few))

pub returns-clause-rows : goal.returns-clause-rows
returns-clause-rows g c =
    let slots_are = ap (λ (v : ColumnsValue). v.rows) c.in_ok-columns.ensures ∙ c.columns.ensures.rows in
    c.in_columns.ensures
    ∙ ap rows_of_front c.new.ensures
    ∙ ap (λ (slots : List (Option Row)). rows_of_front (record { columns = c.in_ok-columns.columns.columns; slots = slots; rows = c.rows-rows.result })) slots_are
    ∙ ap (λ n. rows_of_front (record { columns = c.in_ok-columns.columns.columns; slots = map (λ (slot : Slot). slot.row) c.args.body.now.slots; rows = n })) c.rows-rows.ensures
    ∙ front_listed c.in_ok-columns.columns.columns c.args.body.now.slots c.requires.front
