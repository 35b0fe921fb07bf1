use Rattle.std.proofs.Common.{sym, ap, subst, ◌∙◌}
use Rattle.shared_store.specs.Entering.{IsEntered}
use Rattle.shared_store.specs.KeptCommits.{with_change}
use Rattle.shared_store.proofs.Settled.{entered_away}
use Rattle.shared_store.proofs.session_writes.SessionWrites.settle.Goals as goal

pub returns-then-not-accepted : goal.returns-then-not-accepted
returns-then-not-accepted c before change is =
    entered_away c.args.place change before c.args.self.now c.take_back.new.self (subst (IsEntered c.args.place change before c.args.self.now) c.in-None.is is) c.take_back.ensures
    ∙ ap (λ accepted. with_change c.args.place change accepted before) (sym c.if-not-accepted.true)
