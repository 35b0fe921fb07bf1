use Rattle.std.proofs.Common.{◌∙◌, Some, sym, rules}
use Rattle.undo_chain.proofs.Ends.{last_first, popped_lawful, popped_own}
use Rattle.undo_chain.proofs.Order.{none_own}
use Rattle.undo_chain.proofs.chain.Chain.pop_own.Goals as goal
use Rattle.undo_chain.proofs.chain.Chain.pop_own.Goals.{in-Some, in-None}

pub returns-then-not-is_own-clause-own : goal.returns-then-not-is_own-clause-own
returns-then-not-is_own-clause-own g c =
    let found = last_first c.self.inside.oldest_first.items c.in_ok-last.field-0.now (search rules) in
    let lawful = rw (← c.self.view_is, found.1) at c.requires.lawful in
    rw (← c.self.view_is, found.1) (sym (none_own c.args.session c.in_ok-last.field-0.now found.0 lawful (search rules)))

pub returns-clause-lawful : goal.returns-clause-lawful
returns-clause-lawful g c =
    popped_lawful
    c.self.inside.oldest_first.items
    c.pop.new.self.items
    c.pop.result
    c.pop.ensures.items
    (rw (← c.self.view_is) at c.requires.lawful)

pub returns-clause-views : goal.returns-clause-views
returns-clause-views g c =
    rw
    (← c.self.view_is)
    (elim c.match-pop.branch [
      | in-Some w ↦
          rw
          w.result-is
          (popped_own
          c.args.session
          c.self.inside.oldest_first.items
          c.pop.new.self.items
          c.in_ok-last.field-0.now
          (Some w.in-Some.undo)
          w.in-Some.ensures.items
          (search rules)
          (sym c.is_own.ensures ∙ c.if-not-is_own.false))
      | in-None w ↦ rw w.result-is tt
    ])
