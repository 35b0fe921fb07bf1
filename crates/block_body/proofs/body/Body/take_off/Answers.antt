use Rattle.std.proofs.Common.{◌≡◌, ◌∙◌, ◌<◌, true, false, List, length, ap, sym, subst, arith}
use Rattle.std.specs.Prelude.{is_some, IfSome, slice_set}
use Rattle.cell_model.specs.declared.column.Column.{Column}
use Rattle.block_spec.specs.Slots.{Slot, has_none, taken_back}
use Rattle.block_spec.specs.Bodies.{Body as BodyValue, modified, slot_in}
use Rattle.block_body.specs.Chains.{Chains, entries_at, slot_at}
use Rattle.block_body.specs.Frozen.{IsImageOf}
use Rattle.block_body.specs.Slots.{slots_from}
use Rattle.block_body.specs.Bodies.{body_value}
use Rattle.block_body.proofs.After.{body_after}
use Rattle.block_body.proofs.Bodies.{body_slot}
use Rattle.block_body.proofs.Taken.{some_entry, taken_fewer, taken_kept, taken_nil, taken_slots}
use Rattle.block_body.proofs.Written.{own_image}
use Rattle.block_body.proofs.body.Body.take_off.Goals as goal

pub unreachable-requires : goal.unreachable-requires
unreachable-requires c =
    let i = c.self.inside in
    let at : slot_in c.args.self.now c.args.slot ≡ slot_at i.rows.rows i.chains.entries c.args.slot =
    ap (λ (b : BodyValue). slot_in b c.args.slot) (sym c.self.view_is) ∙ body_slot i.rows i.chains.entries i.written i.phase i.cooling i.rounds i.last c.self.invariant c.args.slot in
    let some : 0 < length (entries_at i.chains.entries c.args.slot) = some_entry (entries_at i.chains.entries c.args.slot) (ap (λ (s : Slot). has_none s.entries) (sym at) ∙ c.requires) in
    let never : true ≡ false = sym (c.pop.ensures.some.1 some) ∙ ap is_some c.in_default.is in
    cc

pub invariant_of-self : goal.invariant_of-self
invariant_of-self c =
    let i = c.self.inside in
    let new = c.pop.new.chains.entries in
    let rows = c.restore.new.self in
    let at : slot_in c.args.self.now c.args.slot ≡ slot_at i.rows.rows i.chains.entries c.args.slot =
    ap (λ (b : BodyValue). slot_in b c.args.slot) (sym c.self.view_is) ∙ body_slot i.rows i.chains.entries i.written i.phase i.cooling i.rounds i.last c.self.invariant c.args.slot in
    let some : 0 < length (entries_at i.chains.entries c.args.slot) = some_entry (entries_at i.chains.entries c.args.slot) (ap (λ (s : Slot). has_none s.entries) (sym at) ∙ c.requires) in
    body_after i.rows rows i.chains.entries new i.written i.written i.phase i.last c.self.invariant
    c.pop.ensures.chains
    (taken_kept i.rows rows i.chains.entries new c.args.slot c.in-Some.undo c.in-Some.ensures.here c.pop.ensures.others c.self.invariant.kept c.restore.ensures.columns c.restore.ensures.room c.restore.ensures.rows)
    (taken_nil i.rows rows i.chains.entries new c.args.slot c.in-Some.undo c.in-Some.ensures.here c.pop.ensures.others c.self.invariant.kept c.restore.ensures.columns c.restore.ensures.room c.restore.ensures.rows)
    (c.restore.ensures.own ∙ sym (own_image i.rows i.chains.entries i.written i.phase i.last c.self.invariant
    (λ none. let long : length (entries_at i.chains.entries c.args.slot) ≡ 0 = ap (λ (chains : Chains). length (entries_at chains c.args.slot)) none in absurd (omega arith))))
    (subst (λ o. IfSome o (IsImageOf rows.columns rows.rows)) (sym c.restore.ensures.own) tt)
    (taken_fewer i.rows rows i.chains.entries new c.args.slot c.in-Some.undo c.in-Some.ensures.here c.pop.ensures.others c.self.invariant.kept c.restore.ensures.columns c.restore.ensures.room c.restore.ensures.rows)

pub returns : goal.returns
returns c =
    let i = c.self.inside in
    let new = c.pop.new.chains.entries in
    let rows = c.restore.new.self in
    let B : BodyValue = body_value i.rows i.chains.entries i.phase i.cooling i.rounds i.last in
    rw (← c.self.view_is)
    (ap (λ (columns : List Column). let b : BodyValue = record { columns = columns; slots = slots_from (entries_at new) 0 rows.rows; phase = i.phase; cooling = false; rounds = 0; last = i.last } in b) c.restore.ensures.columns
    ∙ ap (λ (slots : List Slot). record (modified B) { slots = slots })
    (taken_slots i.rows rows i.chains.entries new c.args.slot c.in-Some.undo c.in-Some.ensures.here c.pop.ensures.others c.self.invariant.kept c.restore.ensures.columns c.restore.ensures.room c.restore.ensures.rows
    ∙ ap (λ (s : Slot). slice_set (slots_from (entries_at i.chains.entries) 0 i.rows.rows) c.args.slot (taken_back s))
    (sym (body_slot i.rows i.chains.entries i.written i.phase i.cooling i.rounds i.last c.self.invariant c.args.slot))))
