use Rattle.std.proofs.Common.{arith, sym, ◌∙◌}
use Rattle.undo_chain.proofs.Order.{IsLawful-stamped}
use Rattle.undo_chain.proofs.Views.{images_after_commit}
use Rattle.undo_chain.proofs.Commits.{committed_step, committed_all, committed_rest, committed_reverse}
use Rattle.undo_chain.proofs.chain.Chain.stamp_all.Goals as goal

pub loop-open-preserved : goal.loop-open-preserved
loop-open-preserved g c = (
  omega arith,
  committed_step
      c.args.session
      c.args.stamp
      c.args.number
      c.self.inside.oldest_first.items
      c.loop-open.self-inside.oldest_first.items
      c.loop-open.«open»
      c.index.result.now
      c.index_mut.result.now
      c.commit.new.self
      c.loop-open-test.true
      c.loop-open.invariant.0
      c.loop-open.invariant.1
      c.index.ensures
      (sym c.is_own.ensures ∙ c.if-is_own.true)
      c.index_mut.ensures.value
      c.commit.ensures,
  c.loop-open.invariant.2,
)

pub returns-else-is_own-clause-stamped : goal.returns-else-is_own-clause-stamped
returns-else-is_own-clause-stamped g c =
    rw
    (← c.self.view_is)
    (committed_reverse c.args.session c.args.stamp c.args.number c.self.inside.oldest_first.items c.loop-open.self-inside.oldest_first.items (committed_rest
    c.args.session
    c.args.stamp
    c.args.number
    c.self.inside.oldest_first.items
    c.loop-open.self-inside.oldest_first.items
    c.loop-open.«open»
    c.index.result.now
    (rw (← c.self.view_is) at c.requires.lawful)
    c.loop-open-test.true
    c.loop-open.invariant.0
    c.loop-open.invariant.1
    c.index.ensures
    (sym c.is_own.ensures ∙ c.if-is_own.false)))

pub returns-else-is_own-clause-lawful : goal.returns-else-is_own-clause-lawful
returns-else-is_own-clause-lawful g c =
    rw
    (returns-else-is_own-clause-stamped g c)
    (IsLawful-stamped c.args.session c.args.stamp c.args.number c.args.self.now.entries c.requires.lawful c.requires.newest)

pub returns-else-is_own-clause-views : goal.returns-else-is_own-clause-views
returns-else-is_own-clause-views g c =
    λ s me other below.
    rw
    (returns-else-is_own-clause-stamped g c)
    (images_after_commit c.args.session c.args.stamp c.args.number c.args.self.now.entries s me other below)

pub returns-after-loop-open-clause-stamped : goal.returns-after-loop-open-clause-stamped
returns-after-loop-open-clause-stamped g c =
    rw
    (← c.self.view_is)
    (committed_reverse c.args.session c.args.stamp c.args.number c.self.inside.oldest_first.items c.loop-open.self-inside.oldest_first.items (committed_all
    c.args.session
    c.args.stamp
    c.args.number
    c.self.inside.oldest_first.items
    c.loop-open.self-inside.oldest_first.items
    c.loop-open.«open»
    c.loop-open-test.false
    c.loop-open.invariant.1))

pub returns-after-loop-open-clause-lawful : goal.returns-after-loop-open-clause-lawful
returns-after-loop-open-clause-lawful g c =
    rw
    (returns-after-loop-open-clause-stamped g c)
    (IsLawful-stamped c.args.session c.args.stamp c.args.number c.args.self.now.entries c.requires.lawful c.requires.newest)

pub returns-after-loop-open-clause-views : goal.returns-after-loop-open-clause-views
returns-after-loop-open-clause-views g c =
    λ s me other below.
    rw
    (returns-after-loop-open-clause-stamped g c)
    (images_after_commit c.args.session c.args.stamp c.args.number c.args.self.now.entries s me other below)
