use Rattle.std.proofs.Common.{sym, ap, subst}
use Rattle.engine_core.proofs.Wholes.{has_slots, opening_is, opening_whole, shape_is}
use Rattle.std.proofs.lemmas.Result.{err_from_is_err_and}
use Rattle.core_parts.specs.FirstRows.{IsFirstFull}
use Rattle.engine_core.specs.Core.{MayOpen}
use Rattle.event_spec.specs.Parts.{Shape}
use Rattle.isolation_spec.specs.Commits.{AreCommitsOf}
use Rattle.engine_core.proofs.engine.Core.build_from.Goals as goal

pub opening_hand-requires-clause-first : goal.opening_hand-requires-clause-first
opening_hand-requires-clause-first c = sym (ap (λ (sh : Shape). sh.first) c.in_ok-shape.ensures)

pub opening_hand-requires-clause-commits : goal.opening_hand-requires-clause-commits
opening_hand-requires-clause-commits c = subst (λ (sh : Shape). AreCommitsOf sh.tables sh.first) (sym c.in_ok-shape.ensures) c.requires.commits

pub opening_hand-requires-clause-slots : goal.opening_hand-requires-clause-slots
opening_hand-requires-clause-slots c = has_slots c.in_ok-shape.shape (subst (λ (sh : Shape). MayOpen sh.tables sh.passes) (sym c.in_ok-shape.ensures) c.requires.open)

pub invariant_of-result : goal.invariant_of-result
invariant_of-result c =
    opening_whole c.in_ok-shape.shape c.in_ok-hand.hand
    (shape_is c.in_ok-shape.shape (subst (λ (sh : Shape). MayOpen sh.tables sh.passes) (sym c.in_ok-shape.ensures) c.requires.open)
    (subst (λ (sh : Shape). AreCommitsOf sh.tables sh.first) (sym c.in_ok-shape.ensures) c.requires.commits) c.in_ok-hand.ensures.few c.in_ok-hand.ensures.room)
    c.in_ok-hand.ensures.opening

pub returns-clause-shape : goal.returns-clause-shape
returns-clause-shape c = c.in_ok-shape.ensures

pub returns-clause-opening : goal.returns-clause-opening
returns-clause-opening c =
    opening_is c.in_ok-shape.shape c.in_ok-hand.hand
    (shape_is c.in_ok-shape.shape (subst (λ (sh : Shape). MayOpen sh.tables sh.passes) (sym c.in_ok-shape.ensures) c.requires.open)
    (subst (λ (sh : Shape). AreCommitsOf sh.tables sh.first) (sym c.in_ok-shape.ensures) c.requires.commits) c.in_ok-hand.ensures.few c.in_ok-hand.ensures.room)
    c.in_ok-hand.ensures.opening

pub returns-in_err-hand-clause-full : goal.returns-in_err-hand-clause-full
returns-in_err-hand-clause-full c =
    let p = err_from_is_err_and c.from_residual-in_err-hand.result c.from_residual-in_err-hand.ensures.1 in
    rw (p.1, p.2) (λ table is. subst (λ (sh : Shape). IsFirstFull sh table) c.in_ok-shape.ensures (c.in_err-hand.ensures.full table is))
