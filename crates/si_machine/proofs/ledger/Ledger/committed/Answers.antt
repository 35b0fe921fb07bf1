use Rattle.std.proofs.Common.{◌≡◌, ◌∙◌, ◌-◌, ◌<◌, ◌≤◌, ℕ, length, get_or, arith, ap, sym, subst, None, Option, List}
use Rattle.std.specs.Prelude.{option_copied, unwrap_or}
use Rattle.std.specs.List.Sorted.{IsNonDecreasing}
use Rattle.cell_model.specs.declared.cell.Cell.{Cell}
use Rattle.isolation_spec.specs.Contents.{at_place}
use Rattle.si_machine.specs.Kept.{machine_in}
use Rattle.si_machine.proofs.Latest.{numbers-rise}
use Rattle.si_machine.proofs.Steps.{newest-is, state-missed, state-past, state-read}
use Rattle.si_machine.proofs.ledger.Ledger.committed.Goals as goal

pub newest_up_to-requires : goal.newest_up_to-requires
newest_up_to-requires c =
    subst IsNonDecreasing (sym (c.requires.numbers c.args.place.now)) (numbers-rise c.args.place.now 1 (machine_in c.args.self.now).history)

pub returns-in_err-number : goal.returns-in_err-number
returns-in_err-number c =
    let missed = sym (newest-is (machine_in c.args.self.now) c.args.self.now.writers c.args.place.now c.args.snapshot c.requires) ∙ sym c.in_err-number.ensures in
    ap option_copied c.from_residual.ensures
    ∙ sym (state-missed c.args.place.now c.args.snapshot (machine_in c.args.self.now).history c.requires.rise missed)

pub returns-in_err-get : goal.returns-in_err-get
returns-in_err-get c =
    let ledger = c.args.self.now in
    let found = sym (newest-is (machine_in ledger) ledger.writers c.args.place.now c.args.snapshot c.requires) ∙ sym c.in_ok-number.ensures in
    let past : length ledger.commits.items ≤ c.in_ok-number.number - 1 = omega (arith, c.in_err-get.ensures.lookup.3, ap length c.deref.ensures.value, c.saturating_sub.ensures) in
    ap option_copied c.from_residual-in_err-get.ensures ∙ sym (state-past ledger c.args.place.now c.args.snapshot c.in_ok-number.number c.requires found past)

pub returns-in_err-get-2 : goal.returns-in_err-get-2
returns-in_err-get-2 c =
    let ledger = c.args.self.now in
    let found = sym (newest-is (machine_in ledger) ledger.writers c.args.place.now c.args.snapshot c.requires) ∙ sym c.in_ok-number.ensures in
    let within : c.in_ok-number.number - 1 < length ledger.commits.items = omega (arith, c.in_ok-get.ensures.lookup.3.0, ap length c.deref.ensures.value, c.saturating_sub.ensures) in
    let its : c.in_ok-get.field-0.now ≡ get_or ledger.commits.items (c.in_ok-number.number - 1) c.in_ok-get.field-0.now =
    c.in_ok-get.ensures.lookup.4 (omega arith) c.in_ok-get.field-0.now ∙ ap (λ (xs : List _). get_or xs c.saturating_sub.result c.in_ok-get.field-0.now) c.deref.ensures.value
    ∙ ap (λ (i : ℕ). get_or ledger.commits.items i c.in_ok-get.field-0.now) c.saturating_sub.ensures in
    ap option_copied c.from_residual-in_err-get-2.ensures
    ∙ ap (λ (o : Option (Option (List Cell))). unwrap_or o None) c.in_err-get-2.ensures.value
    ∙ ap (λ writes. unwrap_or (at_place writes.entries c.args.place.now) None) its
    ∙ sym (state-read ledger c.args.place.now c.args.snapshot c.in_ok-number.number c.in_ok-get.field-0.now c.requires found within)

pub returns : goal.returns
returns c =
    let ledger = c.args.self.now in
    let found = sym (newest-is (machine_in ledger) ledger.writers c.args.place.now c.args.snapshot c.requires) ∙ sym c.in_ok-number.ensures in
    let within : c.in_ok-number.number - 1 < length ledger.commits.items = omega (arith, c.in_ok-get.ensures.lookup.3.0, ap length c.deref.ensures.value, c.saturating_sub.ensures) in
    let its : c.in_ok-get.field-0.now ≡ get_or ledger.commits.items (c.in_ok-number.number - 1) c.in_ok-get.field-0.now =
    c.in_ok-get.ensures.lookup.4 (omega arith) c.in_ok-get.field-0.now ∙ ap (λ (xs : List _). get_or xs c.saturating_sub.result c.in_ok-get.field-0.now) c.deref.ensures.value
    ∙ ap (λ (i : ℕ). get_or ledger.commits.items i c.in_ok-get.field-0.now) c.saturating_sub.ensures in
    c.as_ref.ensures.value
    ∙ ap (λ (o : Option (Option (List Cell))). unwrap_or o None) c.in_ok-get-2.ensures.value
    ∙ ap (λ writes. unwrap_or (at_place writes.entries c.args.place.now) None) its
    ∙ sym (state-read ledger c.args.place.now c.args.snapshot c.in_ok-number.number c.in_ok-get.field-0.now c.requires found within)
