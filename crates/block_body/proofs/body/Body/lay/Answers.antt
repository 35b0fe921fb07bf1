use Rattle.std.proofs.Common.{◌≡◌, ◌∙◌, ◌<◌, true, false, List, [], length, ap, refl, sym, subst}
use Rattle.std.specs.Prelude.{is_some, IfSome}
use Rattle.cell_model.specs.declared.column.Column.{Column}
use Rattle.block_spec.specs.declared.phase.Phase.{Phase}
use Rattle.block_spec.specs.declared.phase.Phase.TheVariants.{Loose, Sealed, Imaged}
use Rattle.block_spec.specs.Slots.{Slot, is_bare}
use Rattle.block_spec.specs.Bodies.{Body as BodyValue, slot_in, is_loose, is_imaged}
use Rattle.block_body.specs.Chains.{slot_at, entries_at}
use Rattle.block_body.specs.Frozen.{IsImageOf}
use Rattle.block_body.specs.Slots.{slots_from}
use Rattle.block_body.specs.Bodies.{body_value}
use Rattle.block_body.proofs.Bodies.{body_slot}
use Rattle.block_body.proofs.Laid.{bare_entries, bare_row, laid_kept, laid_slots}
use Rattle.block_body.proofs.Slots.{slots-length}
use Rattle.block_body.proofs.body.Body.lay.Goals as goal

-- A loose body is not imaged.
not_imaged : (phase : Phase) → is_loose phase ≡ true → is_imaged phase ≡ false
not_imaged Loose is = refl
not_imaged (Sealed g) is = cc
not_imaged (Imaged g) is = cc

pub put-requires-clause-slot : goal.put-requires-clause-slot
put-requires-clause-slot c =
    let i = c.self.inside in
    subst (λ n. c.args.slot < n) (ap (λ (b : BodyValue). length b.slots) (sym c.self.view_is) ∙ slots-length (entries_at i.chains.entries) 0 i.rows.rows) c.requires.slot

pub put-requires-clause-none : goal.put-requires-clause-none
put-requires-clause-none c =
    let i = c.self.inside in
    let at : slot_in c.args.self.now c.args.slot ≡ slot_at i.rows.rows i.chains.entries c.args.slot =
    ap (λ (b : BodyValue). slot_in b c.args.slot) (sym c.self.view_is) ∙ body_slot i.rows i.chains.entries i.written i.phase i.cooling i.rounds i.last c.self.invariant c.args.slot in
    bare_row (slot_at i.rows.rows i.chains.entries c.args.slot) (sym (ap is_bare at) ∙ c.requires.bare)

pub invariant_of-self-2 : goal.invariant_of-self-2
invariant_of-self-2 c =
    let i = c.self.inside in
    let at : slot_in c.args.self.now c.args.slot ≡ slot_at i.rows.rows i.chains.entries c.args.slot =
    ap (λ (b : BodyValue). slot_in b c.args.slot) (sym c.self.view_is) ∙ body_slot i.rows i.chains.entries i.written i.phase i.cooling i.rounds i.last c.self.invariant c.args.slot in
    let none : entries_at i.chains.entries c.args.slot ≡ [] = bare_entries (slot_at i.rows.rows i.chains.entries c.args.slot) (sym (ap is_bare at) ∙ c.requires.bare) in
    let loose : is_loose i.phase ≡ true = ap (λ (b : BodyValue). is_loose b.phase) c.self.view_is ∙ c.requires.loose in
    record {
      each = c.self.invariant.each;
      kept = laid_kept i.rows c.put.new.self i.chains.entries c.args.slot c.args.row none c.in_ok-put.ensures.ok c.put.ensures.columns c.put.ensures.room c.self.invariant.kept;
      listed = c.self.invariant.listed;
      quiet = c.self.invariant.quiet;
      image = ap is_some c.put.ensures.own ∙ sym (not_imaged i.phase loose);
      frozen = subst (λ o. IfSome o (IsImageOf c.put.new.self.columns c.put.new.self.rows)) (sym c.put.ensures.own) tt;
      last = c.self.invariant.last;
    }

pub returns-clause-ok : goal.returns-clause-ok
returns-clause-ok c =
    let i = c.self.inside in
    let at : slot_in c.args.self.now c.args.slot ≡ slot_at i.rows.rows i.chains.entries c.args.slot =
    ap (λ (b : BodyValue). slot_in b c.args.slot) (sym c.self.view_is) ∙ body_slot i.rows i.chains.entries i.written i.phase i.cooling i.rounds i.last c.self.invariant c.args.slot in
    let none : entries_at i.chains.entries c.args.slot ≡ [] = bare_entries (slot_at i.rows.rows i.chains.entries c.args.slot) (sym (ap is_bare at) ∙ c.requires.bare) in
    let B : BodyValue = body_value i.rows i.chains.entries i.phase i.cooling i.rounds i.last in
    rw (← c.self.view_is)
    (ap (λ (columns : List Column). let b : BodyValue = record { columns = columns; slots = slots_from (entries_at i.chains.entries) 0 c.put.new.self.rows; phase = i.phase; cooling = i.cooling; rounds = i.rounds; last = i.last } in b) c.put.ensures.columns
    ∙ ap (λ (slots : List Slot). record B { slots = slots })
    (laid_slots i.rows c.put.new.self i.chains.entries c.args.slot c.args.row none c.in_ok-put.ensures.ok c.put.ensures.columns c.put.ensures.room c.self.invariant.kept))
