use Rattle.std.proofs.Common.{◌≡◌, ◌∙◌, ◌<◌, ◌≤◌, ◌∷◌, ℕ, Bool, true, false, List, None, length, get_or, refl, ap, sym, subst, rules}
use Rattle.std.specs.Prelude.{is_some, IfSome, slice_set}
use Rattle.std.specs.List.{list_any}
use Rattle.cell_model.specs.declared.column.Column.{Column}
use Rattle.undo_chain.specs.declared.undo.Undo.{Undo}
use Rattle.undo_chain.specs.Lawful.{IsLawful}
use Rattle.undo_chain.specs.Entry.{is_own}
use Rattle.block_spec.specs.declared.change.Before.{Before}
use Rattle.block_spec.specs.declared.phase.Phase.{Phase}
use Rattle.block_spec.specs.declared.phase.Phase.TheVariants.{Loose, Sealed, Imaged}
use Rattle.block_spec.specs.Fitting.{ChangeFits}
use Rattle.block_spec.specs.Slots.{Slot, laid_back}
use Rattle.block_spec.specs.Bodies.{Body as BodyValue, slot_in, is_loose, is_imaged, modified}
use Rattle.block_body.specs.Chains.{slot_at, entries_at}
use Rattle.block_body.specs.Frozen.{IsImageOf}
use Rattle.block_body.specs.Slots.{slots_from}
use Rattle.block_body.specs.Bodies.{body_value, wants_row}
use Rattle.block_body.specs.Changes.{changed}
use Rattle.block_body.proofs.After.{lawful_at}
use Rattle.block_body.proofs.Bodies.{body_slot}
use Rattle.block_body.proofs.Installed.{undo_of, rows_long, rows_back, installed_kept, installed_slots, installed_listed}
use Rattle.block_body.proofs.RolledBack.{same_kept, pointwise_same}
use Rattle.block_body.proofs.Slots.{slots-length, slots-same}
use Rattle.block_body.proofs.body.Body.change.Goals as goal

not_imaged : (phase : Phase) → is_loose phase ≡ true → is_imaged phase ≡ false
not_imaged Loose is = refl
not_imaged (Sealed g) is = cc
not_imaged (Imaged g) is = cc

not_frozen : (b : Bool) → b ≡ true → b ≡ false → ⊥
not_frozen b loose frozen = let never : true ≡ false = sym loose ∙ frozen in cc

pub write-requires-clause-slot : goal.write-requires-clause-slot
write-requires-clause-slot c =
    let i = c.self.inside in
    let long : c.args.slot < length i.rows.rows = subst (λ n. c.args.slot < n)
    (ap (λ (b : BodyValue). length b.slots) (sym c.self.view_is) ∙ slots-length (entries_at i.chains.entries) 0 i.rows.rows) c.requires.slot in
    long

pub write-requires-clause-row : goal.write-requires-clause-row
write-requires-clause-row c =
    let i = c.self.inside in
    let at : slot_in c.args.self.now c.args.slot ≡ slot_at i.rows.rows i.chains.entries c.args.slot =
    ap (λ (b : BodyValue). slot_in b c.args.slot) (sym c.self.view_is) ∙ body_slot i.rows i.chains.entries i.written i.phase i.cooling i.rounds i.last c.self.invariant c.args.slot in
    let has : is_some (get_or i.rows.rows c.args.slot None) ≡ wants_row c.args.change = ap (λ (s : Slot). is_some s.row) (sym at) ∙ c.requires.row in
    has

pub push-requires-clause-lawful : goal.push-requires-clause-lawful
push-requires-clause-lawful c =
    let i = c.self.inside in
    let at : slot_in c.args.self.now c.args.slot ≡ slot_at i.rows.rows i.chains.entries c.args.slot =
    ap (λ (b : BodyValue). slot_in b c.args.slot) (sym c.self.view_is) ∙ body_slot i.rows i.chains.entries i.written i.phase i.cooling i.rounds i.last c.self.invariant c.args.slot in
    subst (λ (b : Before). IsLawful (undo_of c.args.by b ∷ entries_at i.chains.entries c.args.slot)) (sym c.in_ok-before.ensures.before)
    (subst (λ (s : Slot). IsLawful (changed c.args.by c.args.change s).entries) at
    (c.requires.lawful (subst (λ (s : Slot). IsLawful s.entries) (sym at) (lawful_at i.chains.entries c.self.invariant.each c.args.slot))))

pub invariant_of-self-in-Ok : goal.invariant_of-self-in-Ok
invariant_of-self-in-Ok c =
    let i = c.self.inside in
    let long : c.args.slot < length i.rows.rows = subst (λ n. c.args.slot < n)
    (ap (λ (b : BodyValue). length b.slots) (sym c.self.view_is) ∙ slots-length (entries_at i.chains.entries) 0 i.rows.rows) c.requires.slot in
    let at : slot_in c.args.self.now c.args.slot ≡ slot_at i.rows.rows i.chains.entries c.args.slot =
    ap (λ (b : BodyValue). slot_in b c.args.slot) (sym c.self.view_is) ∙ body_slot i.rows i.chains.entries i.written i.phase i.cooling i.rounds i.last c.self.invariant c.args.slot in
    let has : is_some (get_or i.rows.rows c.args.slot None) ≡ wants_row c.args.change = ap (λ (s : Slot). is_some s.row) (sym at) ∙ c.requires.row in
    let loose : is_loose i.phase ≡ true = ap (λ (b : BodyValue). is_loose b.phase) c.self.view_is ∙ c.requires.loose in
    let fits : ChangeFits i.rows.columns c.args.change = subst (λ (b : BodyValue). ChangeFits b.columns c.args.change) (sym c.self.view_is) c.requires.fits in
    record {
      each = c.push.ensures.chains;
      kept = installed_kept i.rows c.write.new.self i.chains.entries c.push.new.chains.entries c.args.slot c.args.by c.args.change c.in_ok-before.before long has c.in_ok-before.ensures.before c.in_ok-before.ensures.ok c.write.ensures.columns fits
          c.self.invariant.kept c.in-Ok.ensures.here c.push.ensures.others c.write.ensures.room c.in_ok-before.ensures.within c.in_ok-before.ensures.fits;
      listed = installed_listed i.rows c.write.new.self i.chains.entries c.push.new.chains.entries c.args.slot c.args.by c.args.change c.in_ok-before.before long has c.in_ok-before.ensures.before c.in_ok-before.ensures.ok c.write.ensures.columns fits
          c.self.invariant.kept c.in-Ok.ensures.here c.push.ensures.others c.write.ensures.room c.in_ok-before.ensures.within c.in_ok-before.ensures.fits
          i.written c.add.new.self c.self.invariant.listed c.in_ok-add.ensures.added c.add.ensures.more;
      quiet = λ frozen. absurd (not_frozen (is_loose i.phase) loose frozen);
      image = ap is_some c.write.ensures.own ∙ sym (not_imaged i.phase loose);
      frozen = subst (λ o. IfSome o (IsImageOf c.write.new.self.columns c.write.new.self.rows)) (sym c.write.ensures.own) tt;
      last = c.self.invariant.last;
    }

pub returns-in-Ok-clause-ok : goal.returns-in-Ok-clause-ok
returns-in-Ok-clause-ok c =
    let i = c.self.inside in
    let long : c.args.slot < length i.rows.rows = subst (λ n. c.args.slot < n)
    (ap (λ (b : BodyValue). length b.slots) (sym c.self.view_is) ∙ slots-length (entries_at i.chains.entries) 0 i.rows.rows) c.requires.slot in
    let at : slot_in c.args.self.now c.args.slot ≡ slot_at i.rows.rows i.chains.entries c.args.slot =
    ap (λ (b : BodyValue). slot_in b c.args.slot) (sym c.self.view_is) ∙ body_slot i.rows i.chains.entries i.written i.phase i.cooling i.rounds i.last c.self.invariant c.args.slot in
    let has : is_some (get_or i.rows.rows c.args.slot None) ≡ wants_row c.args.change = ap (λ (s : Slot). is_some s.row) (sym at) ∙ c.requires.row in
    let loose : is_loose i.phase ≡ true = ap (λ (b : BodyValue). is_loose b.phase) c.self.view_is ∙ c.requires.loose in
    let fits : ChangeFits i.rows.columns c.args.change = subst (λ (b : BodyValue). ChangeFits b.columns c.args.change) (sym c.self.view_is) c.requires.fits in
    let B : BodyValue = body_value i.rows i.chains.entries i.phase i.cooling i.rounds i.last in
    rw (← c.self.view_is)
    (ap (λ (columns : List Column). let b : BodyValue = record { columns = columns; slots = slots_from (entries_at c.push.new.chains.entries) 0 c.write.new.self.rows; phase = i.phase; cooling = false; rounds = 0; last = i.last } in b) c.write.ensures.columns
    ∙ ap (λ (slots : List Slot). record (modified B) { slots = slots })
    (installed_slots i.rows c.write.new.self i.chains.entries c.push.new.chains.entries c.args.slot c.args.by c.args.change c.in_ok-before.before long has c.in_ok-before.ensures.before c.in_ok-before.ensures.ok c.write.ensures.columns fits
    c.self.invariant.kept c.in-Ok.ensures.here c.push.ensures.others c.write.ensures.room c.in_ok-before.ensures.within c.in_ok-before.ensures.fits
    ∙ ap (λ (s : Slot). slice_set (slots_from (entries_at i.chains.entries) 0 i.rows.rows) c.args.slot (changed c.args.by c.args.change s))
    (sym (body_slot i.rows i.chains.entries i.written i.phase i.cooling i.rounds i.last c.self.invariant c.args.slot))))

pub restore-requires-clause-long : goal.restore-requires-clause-long
restore-requires-clause-long c =
    let i = c.self.inside in
    let long : c.args.slot < length i.rows.rows = subst (λ n. c.args.slot < n)
    (ap (λ (b : BodyValue). length b.slots) (sym c.self.view_is) ∙ slots-length (entries_at i.chains.entries) 0 i.rows.rows) c.requires.slot in
    let at : slot_in c.args.self.now c.args.slot ≡ slot_at i.rows.rows i.chains.entries c.args.slot =
    ap (λ (b : BodyValue). slot_in b c.args.slot) (sym c.self.view_is) ∙ body_slot i.rows i.chains.entries i.written i.phase i.cooling i.rounds i.last c.self.invariant c.args.slot in
    let has : is_some (get_or i.rows.rows c.args.slot None) ≡ wants_row c.args.change = ap (λ (s : Slot). is_some s.row) (sym at) ∙ c.requires.row in
    let loose : is_loose i.phase ≡ true = ap (λ (b : BodyValue). is_loose b.phase) c.self.view_is ∙ c.requires.loose in
    let fits : ChangeFits i.rows.columns c.args.change = subst (λ (b : BodyValue). ChangeFits b.columns c.args.change) (sym c.self.view_is) c.requires.fits in
    subst (λ n. c.args.slot < n) (sym (rows_long i.rows c.write.new.self i.chains.entries c.push.new.chains.entries c.args.slot c.args.by c.args.change c.in_ok-before.before long has c.in_ok-before.ensures.before c.in_ok-before.ensures.ok c.write.ensures.columns fits)) long

pub invariant_of-self-in-Err : goal.invariant_of-self-in-Err
invariant_of-self-in-Err c =
    let i = c.self.inside in
    let long : c.args.slot < length i.rows.rows = subst (λ n. c.args.slot < n)
    (ap (λ (b : BodyValue). length b.slots) (sym c.self.view_is) ∙ slots-length (entries_at i.chains.entries) 0 i.rows.rows) c.requires.slot in
    let at : slot_in c.args.self.now c.args.slot ≡ slot_at i.rows.rows i.chains.entries c.args.slot =
    ap (λ (b : BodyValue). slot_in b c.args.slot) (sym c.self.view_is) ∙ body_slot i.rows i.chains.entries i.written i.phase i.cooling i.rounds i.last c.self.invariant c.args.slot in
    let has : is_some (get_or i.rows.rows c.args.slot None) ≡ wants_row c.args.change = ap (λ (s : Slot). is_some s.row) (sym at) ∙ c.requires.row in
    let loose : is_loose i.phase ≡ true = ap (λ (b : BodyValue). is_loose b.phase) c.self.view_is ∙ c.requires.loose in
    let fits : ChangeFits i.rows.columns c.args.change = subst (λ (b : BodyValue). ChangeFits b.columns c.args.change) (sym c.self.view_is) c.requires.fits in
    let same : c.in-Err.field-0.value.before ≡ c.in_ok-before.before = search rules in
    let rows : c.restore.new.self.rows ≡ i.rows.rows = rows_back i.rows c.write.new.self i.chains.entries c.push.new.chains.entries c.args.slot c.args.by c.args.change c.in_ok-before.before long has c.in_ok-before.ensures.before c.in_ok-before.ensures.ok c.write.ensures.columns fits c.restore.new.self.rows
    (c.restore.ensures.rows ∙ ap (λ (b : Before). slice_set c.write.new.self.rows c.args.slot (laid_back (get_or c.write.new.self.rows c.args.slot None) b)) same) in
    let each : (k : ℕ) → entries_at c.push.new.chains.entries k ≡ entries_at i.chains.entries k = pointwise_same c.args.slot (entries_at i.chains.entries) (entries_at c.push.new.chains.entries) c.in-Err.ensures.same c.push.ensures.others in
    record {
      each = c.push.ensures.chains;
      kept = same_kept i.rows c.restore.new.self i.chains.entries c.push.new.chains.entries c.self.invariant.kept rows (c.restore.ensures.columns ∙ c.write.ensures.columns)
          (subst (λ n. i.rows.room ≤ n) (sym c.restore.ensures.room) c.write.ensures.room) each;
      listed = λ q k own. c.add.ensures.more q k (c.self.invariant.listed q k (sym (ap (list_any (λ (undo : Undo Before). is_own undo q)) (each k)) ∙ own));
      quiet = λ frozen. absurd (not_frozen (is_loose i.phase) loose frozen);
      image = ap is_some c.restore.ensures.own ∙ sym (not_imaged i.phase loose);
      frozen = subst (λ o. IfSome o (IsImageOf c.restore.new.self.columns c.restore.new.self.rows)) (sym c.restore.ensures.own) tt;
      last = c.self.invariant.last;
    }

pub returns-in-Err-clause-err : goal.returns-in-Err-clause-err
returns-in-Err-clause-err c =
    let i = c.self.inside in
    let long : c.args.slot < length i.rows.rows = subst (λ n. c.args.slot < n)
    (ap (λ (b : BodyValue). length b.slots) (sym c.self.view_is) ∙ slots-length (entries_at i.chains.entries) 0 i.rows.rows) c.requires.slot in
    let at : slot_in c.args.self.now c.args.slot ≡ slot_at i.rows.rows i.chains.entries c.args.slot =
    ap (λ (b : BodyValue). slot_in b c.args.slot) (sym c.self.view_is) ∙ body_slot i.rows i.chains.entries i.written i.phase i.cooling i.rounds i.last c.self.invariant c.args.slot in
    let has : is_some (get_or i.rows.rows c.args.slot None) ≡ wants_row c.args.change = ap (λ (s : Slot). is_some s.row) (sym at) ∙ c.requires.row in
    let loose : is_loose i.phase ≡ true = ap (λ (b : BodyValue). is_loose b.phase) c.self.view_is ∙ c.requires.loose in
    let fits : ChangeFits i.rows.columns c.args.change = subst (λ (b : BodyValue). ChangeFits b.columns c.args.change) (sym c.self.view_is) c.requires.fits in
    let B : BodyValue = body_value i.rows i.chains.entries i.phase i.cooling i.rounds i.last in
    let same : c.in-Err.field-0.value.before ≡ c.in_ok-before.before = search rules in
    let rows : c.restore.new.self.rows ≡ i.rows.rows = rows_back i.rows c.write.new.self i.chains.entries c.push.new.chains.entries c.args.slot c.args.by c.args.change c.in_ok-before.before long has c.in_ok-before.ensures.before c.in_ok-before.ensures.ok c.write.ensures.columns fits c.restore.new.self.rows
    (c.restore.ensures.rows ∙ ap (λ (b : Before). slice_set c.write.new.self.rows c.args.slot (laid_back (get_or c.write.new.self.rows c.args.slot None) b)) same) in
    let each : (k : ℕ) → entries_at c.push.new.chains.entries k ≡ entries_at i.chains.entries k = pointwise_same c.args.slot (entries_at i.chains.entries) (entries_at c.push.new.chains.entries) c.in-Err.ensures.same c.push.ensures.others in
    ap (λ (columns : List Column). record B { columns = columns; slots = slots_from (entries_at c.push.new.chains.entries) 0 c.restore.new.self.rows }) (c.restore.ensures.columns ∙ c.write.ensures.columns)
    ∙ ap (λ (slots : List Slot). record B { slots = slots })
    (ap (slots_from (entries_at c.push.new.chains.entries) 0) rows ∙ slots-same (entries_at i.chains.entries) (entries_at c.push.new.chains.entries) 0 i.rows.rows each)
    ∙ c.self.view_is
