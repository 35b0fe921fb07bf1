use Rattle.std.proofs.Common.{◌∙◌, ap, sym, Option, List, subst}
use Rattle.std.specs.Prelude.{unwrap_or}
use Rattle.std.proofs.lemmas.List.{get_or_default}
use Rattle.cell_model.specs.declared.cell.Cell.{Cell}
use Rattle.isolation_spec.specs.Contents.{at_place, state_at}
use Rattle.isolation_spec.specs.Machine.{seen_rows}
use Rattle.si_machine.specs.declared.ledger.OpenTransaction.{OpenTransaction}
use Rattle.si_machine.specs.Kept.{Rises, machine_in, transaction_in}
use Rattle.si_machine.proofs.Steps.{kept-at, seen-is}
use Rattle.si_machine.proofs.ledger.Ledger.seen.Goals as goal

pub returns-in-Some : goal.returns-in-Some
returns-in-Some c = λ none.
    let t = c.index-t.result.now in
    let is = c.index-t.ensures ∙ get_or_default c.args.self.now.transactions.items c.args.at t none c.requires.there in
    let rises : Rises t.own.entries = subst (λ (u : OpenTransaction). Rises u.own.entries) (sym is) (kept-at c.args.self.now c.args.at none c.requires.there c.requires.kept).0 in
    c.as_ref.ensures.value
    ∙ ap (λ (o : Option (Option (List Cell))). unwrap_or o (at_place (state_at (machine_in c.args.self.now).history t.snapshot) c.args.place.now)) c.in-Some.ensures.value
    ∙ sym (seen-is (machine_in c.args.self.now) (transaction_in t) c.args.place.now rises)
    ∙ ap (λ (u : OpenTransaction). at_place (seen_rows (machine_in c.args.self.now) (transaction_in u)) c.args.place.now) is

pub returns-in-None : goal.returns-in-None
returns-in-None c = λ none.
    let t = c.index-t.result.now in
    let is = c.index-t.ensures ∙ get_or_default c.args.self.now.transactions.items c.args.at t none c.requires.there in
    let rises : Rises t.own.entries = subst (λ (u : OpenTransaction). Rises u.own.entries) (sym is) (kept-at c.args.self.now c.args.at none c.requires.there c.requires.kept).0 in
    c.committed.ensures
    ∙ ap (λ (o : Option (Option (List Cell))). unwrap_or o (at_place (state_at (machine_in c.args.self.now).history t.snapshot) c.args.place.now)) c.in-None.ensures.value
    ∙ sym (seen-is (machine_in c.args.self.now) (transaction_in t) c.args.place.now rises)
    ∙ ap (λ (u : OpenTransaction). at_place (seen_rows (machine_in c.args.self.now) (transaction_in u)) c.args.place.now) is
