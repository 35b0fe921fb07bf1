use Rattle.std.proofs.Common.{◌∙◌, ◌&&◌, length, eqb, ap, sym}
use Rattle.std.proofs.lemmas.Bool.{eq-eqb, ne_eqb}
use Rattle.block_body.proofs.Whole.{taken, taken_is, empty_is, tells_zero}
use Rattle.block_body.proofs.body.Body.empty.Goals as goal

pub returns-then-count-eq0 : goal.returns-then-count-eq0
returns-then-count-eq0 c =
    let i = c.self.inside in
    rw (← c.self.view_is)
    (tells_zero c.is_empty.result (length i.chains.entries) c.is_empty.ensures
    ∙ ap (λ b. b && eqb (length i.chains.entries) 0) (sym (eq-eqb (taken i.rows.rows) 0 (taken_is i.rows.rows ∙ sym c.count.ensures ∙ c.if-count-eq0.true)))
    ∙ sym (empty_is i.rows i.chains.entries c.self.invariant.each c.self.invariant.kept))

pub returns-else-count-eq0 : goal.returns-else-count-eq0
returns-else-count-eq0 c =
    let i = c.self.inside in
    rw (← c.self.view_is)
    (ne_eqb c.count.result 0 c.if-count-eq0.false
    ∙ ap (λ b. b && eqb (length i.chains.entries) 0) (sym (ne_eqb (taken i.rows.rows) 0 (λ is. c.if-count-eq0.false (c.count.ensures ∙ sym (taken_is i.rows.rows) ∙ is))))
    ∙ sym (empty_is i.rows i.chains.entries c.self.invariant.each c.self.invariant.kept))
