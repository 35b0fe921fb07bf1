use Rattle.std.proofs.Common.{◌≡◌, ◌∙◌, ◌+◌, ◌++◌, ◌∷◌, [], true, ap, sym, subst, map, List, length, arith}
use Rattle.isolation_spec.specs.Contents.{History}
use Rattle.isolation_spec.specs.Machine.{writes_place}
use Rattle.isolation_spec.specs.declared.place.Place.{Place}
use Rattle.si_machine.specs.declared.ledger.OpenTransaction.{OpenTransaction}
use Rattle.si_machine.specs.Kept.{Belongs, Rises, has_place, machine_in, open_at}
use Rattle.si_machine.proofs.Parts.{length-kept, map-push}
use Rattle.si_machine.proofs.Steps.{belongs-committed, belongs-same, kept-at}
use Rattle.si_machine.proofs.ledger.Ledger.commit.Goals as goal

pub reserve_each-requires : goal.reserve_each-requires
reserve_each-requires c =
    subst (λ (t : OpenTransaction). (place : Place) → writes_place place t.own.entries ≡ true → has_place c.args.self.now.writers place ≡ true) (sym c.index-2.ensures)
    (kept-at c.args.self.now c.args.at c.index-2.result.now c.requires.there c.requires.kept).1

pub returns-in_err-reserve_each-clause-kept : goal.returns-in_err-reserve_each-clause-kept
returns-in_err-reserve_each-clause-kept c =
    let before = c.args.self.now in
    subst (λ (items : List _). Belongs (record (machine_in before) { history = map (λ writes. writes.entries) items }) c.reserve_each.new.self) (sym c.reserve.ensures.items)
    (belongs-same (machine_in before) before.writers c.reserve_each.new.self c.requires.kept c.reserve_each.ensures.numbers (λ place had. c.reserve_each.ensures.same place ∙ had) c.reserve_each.ensures.same)

pub end-own-requires-clause-kept : goal.end-own-requires-clause-kept
end-own-requires-clause-kept c =
    let before = c.args.self.now in
    subst (λ (items : List _). Belongs (record (machine_in before) { history = map (λ writes. writes.entries) items }) c.reserve_each.new.self) (sym c.reserve.ensures.items)
    (belongs-same (machine_in before) before.writers c.reserve_each.new.self c.requires.kept c.reserve_each.ensures.numbers (λ place had. c.reserve_each.ensures.same place ∙ had) c.reserve_each.ensures.same)

pub returns-clause-kept : goal.returns-clause-kept
returns-clause-kept c =
    let before = c.args.self.now in
    let between = c.end-own.new.self in
    let none = c.index-2.result.now in
    let own : c.end-own.result.entries ≡ (open_at before c.args.at none).own = c.end-own.ensures.own none in
    let rises : Rises c.end-own.result.entries = subst Rises (sym own) (kept-at before c.args.at none c.requires.there c.requires.kept).0 in
    let count : c.len-number.result + 1 ≡ length (machine_in between).history + 1 =
    omega (arith, c.len-number.ensures, c.reserve.new.self.ok.0, ap (λ v. length v.items) c.end-own.ensures.commits, length-kept (λ writes. writes.entries) between.commits.items) in
    let more : map (λ writes. writes.entries) c.push_reserved.new.self.items ≡ (machine_in between).history ++ c.end-own.result.entries ∷ [] =
    ap (map (λ writes. writes.entries)) c.push_reserved.ensures.items ∙ map-push (λ writes. writes.entries) between.commits.items c.end-own.result in
    subst (λ (history : History). Belongs (record (machine_in between) { history = history }) c.mark_each.new.self) (sym more)
    (belongs-committed (machine_in between) c.end-own.result.entries (c.len-number.result + 1) between.writers c.mark_each.new.self c.end-own.ensures.kept rises count c.mark_each.ensures.numbers c.mark_each.ensures.same)
