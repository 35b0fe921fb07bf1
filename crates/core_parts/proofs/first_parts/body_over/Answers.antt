use Rattle.std.proofs.Common.{◌≡◌, ◌+◌, ◌*◌, ◌≤◌, List, Some, None, length, nat_lt, false, cond, refl, ap, sym, ◌∙◌, subst, arith}
use Rattle.std.specs.Prelude.{slice_get}
use Rattle.std.proofs.lemmas.Bool.Decides.{nat_tests}
use Rattle.std.proofs.lemmas.Option.{slice_get_past, slice_get_read}
use Rattle.block_body.specs.Changes.{with_row}
use Rattle.block_spec.specs.Bodies.{Body, slot_in, untouched}
use Rattle.block_spec.specs.Slots.{Row, Slot, bare, is_bare}
use Rattle.block_spec.specs.Fitting.{columns_of}
use Rattle.block_spec.proofs.Unnamed.{fault-unnamed}
use Rattle.cell_model.specs.declared.column.Column.{Column}
use Rattle.cell_model.specs.Rows.{Fits}
use Rattle.core_laws.proofs.Logs.FirstPlaces.{by_number, of_row, so_many}
use Rattle.core_parts.proofs.FirstLent.{first_fits, item_is, lent_all}
use Rattle.core_parts.proofs.FirstParts.{all_laid, none_laid, one_laid, slot_laid}
use Rattle.event_spec.specs.Parts.{slots_of}
use Rattle.event_spec.specs.Replay.{columns_in, rows_first}
use Rattle.core_parts.proofs.first_parts.body_over.Goals as goal

pub loop-slot-init : goal.loop-slot-init
loop-slot-init c =
    let sh = c.args.shape.now in
    c.in_ok-body.ensures
    ∙ ap (λ (columns : List Column). untouched columns c.slots-slots.result) c.schema.ensures.columns
    ∙ ap (untouched (columns_in sh c.args.table)) c.slots-slots.ensures.slots
    ∙ none_laid (columns_in sh c.args.table) (slots_of sh c.args.table) (rows_first sh c.args.table) c.args.block

pub returns-in_default : goal.returns-in_default
returns-in_default c =
    let sh = c.args.shape.now in
    let past : length c.args.rows.now ≤ c.args.block * slots_of sh c.args.table + c.loop-slot.slot =
    subst (λ slots. length c.args.rows.now ≤ c.args.block * slots + c.loop-slot.slot) c.slots-slots.ensures.slots c.in_default.ensures.lookup.3 in
    let all = lent_all sh c.args.table c.args.rows.now c.requires.rows in
    c.loop-slot.invariant
    ∙ all_laid (columns_in sh c.args.table) (slots_of sh c.args.table) (rows_first sh c.args.table) c.args.block c.loop-slot.slot
    (λ slot less behind. slice_get_past (rows_first sh c.args.table) (c.args.block * slots_of sh c.args.table + slot) (omega (arith, past, all, behind)))

pub lay-requires-clause-slot : goal.lay-requires-clause-slot
lay-requires-clause-slot c =
    let sh = c.args.shape.now in
    let many = ap (λ (b : Body). length b.slots) c.loop-slot.invariant ∙ so_many (slot_laid (rows_first sh c.args.table) (c.args.block * slots_of sh c.args.table) c.loop-slot.slot) 0 (slots_of sh c.args.table) in
    let slots = c.slots-slots.ensures.slots in omega (arith, many, slots)

pub lay-requires-clause-bare : goal.lay-requires-clause-bare
lay-requires-clause-bare c =
    let sh = c.args.shape.now in
    let e : 0 + c.loop-slot.slot ≡ c.loop-slot.slot = omega arith in
    let not_yet : nat_lt c.loop-slot.slot c.loop-slot.slot ≡ false = grind (arith, nat_tests) in
    let slots = c.slots-slots.ensures.slots in
    ap (λ (b : Body). is_bare (slot_in b c.loop-slot.slot)) c.loop-slot.invariant
    ∙ ap is_bare (by_number (slot_laid (rows_first sh c.args.table) (c.args.block * slots_of sh c.args.table) c.loop-slot.slot) bare 0 (slots_of sh c.args.table) c.loop-slot.slot (omega (arith, slots)))
    ∙ ap (λ k. is_bare (slot_laid (rows_first sh c.args.table) (c.args.block * slots_of sh c.args.table) c.loop-slot.slot k)) e
    ∙ ap (λ b. is_bare (of_row (cond b (slice_get (rows_first sh c.args.table) (c.args.block * slots_of sh c.args.table + c.loop-slot.slot)) None))) not_yet

pub lay-requires-clause-fits : goal.lay-requires-clause-fits
lay-requires-clause-fits c =
    let sh = c.args.shape.now in
    let item = c.in-Some.row.now in
    let there : slice_get c.args.rows.now (c.args.block * c.slots-slots.result + c.loop-slot.slot) ≡ Some item =
    slice_get_read c.args.rows.now (length c.args.rows.now) (c.args.block * c.slots-slots.result + c.loop-slot.slot) item refl c.in-Some.ensures.lookup.3.0 c.in-Some.ensures.lookup.1 in
    let its = item_is sh c.args.table c.args.rows.now c.requires.rows (c.args.block * c.slots-slots.result + c.loop-slot.slot) item there in
    let fits = first_fits sh c.requires.commits c.args.table (c.args.block * c.slots-slots.result + c.loop-slot.slot) item.row.now its.0 in
    subst (λ (columns : List Column). Fits columns c.in_ok-clone.field-0) (sym (ap (λ (b : Body). b.columns) c.loop-slot.invariant))
    (subst (λ (row : Row). Fits (columns_of (columns_in sh c.args.table)) row) (sym c.in_ok-clone.ensures.cases) (fault-unnamed (columns_in sh c.args.table) item.row.now ∙ fits))

pub loop-slot-preserved : goal.loop-slot-preserved
loop-slot-preserved c =
    let sh = c.args.shape.now in
    let item = c.in-Some.row.now in
    let there : slice_get c.args.rows.now (c.args.block * c.slots-slots.result + c.loop-slot.slot) ≡ Some item =
    slice_get_read c.args.rows.now (length c.args.rows.now) (c.args.block * c.slots-slots.result + c.loop-slot.slot) item refl c.in-Some.ensures.lookup.3.0 c.in-Some.ensures.lookup.1 in
    let its = item_is sh c.args.table c.args.rows.now c.requires.rows (c.args.block * c.slots-slots.result + c.loop-slot.slot) item there in
    let here : slice_get (rows_first sh c.args.table) (c.args.block * slots_of sh c.args.table + c.loop-slot.slot) ≡ Some c.in_ok-clone.field-0 =
    ap (λ slots. slice_get (rows_first sh c.args.table) (c.args.block * slots + c.loop-slot.slot)) (sym c.slots-slots.ensures.slots) ∙ its.0 ∙ ap (λ (row : Row). Some row) (sym c.in_ok-clone.ensures.cases) in
    let slots = c.slots-slots.ensures.slots in
    c.in_ok-lay.ensures.ok
    ∙ ap (λ (b : Body). with_row c.loop-slot.slot c.in_ok-clone.field-0 b) c.loop-slot.invariant
    ∙ ap (λ (its : List Slot). record (untouched (columns_in sh c.args.table) (slots_of sh c.args.table)) { slots = its })
    (one_laid (columns_in sh c.args.table) (slots_of sh c.args.table) (rows_first sh c.args.table) c.args.block c.loop-slot.slot c.in_ok-clone.field-0 (omega (arith, slots)) here)

pub returns : goal.returns
returns c =
    let sh = c.args.shape.now in
    let slots = c.slots-slots.ensures.slots in
    c.loop-slot.invariant
    ∙ all_laid (columns_in sh c.args.table) (slots_of sh c.args.table) (rows_first sh c.args.table) c.args.block c.loop-slot.slot (λ slot less behind. absurd (omega (arith, slots, less, behind)))
