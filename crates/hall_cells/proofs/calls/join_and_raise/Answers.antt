use Rattle.std.proofs.Common.{◌≡◌, ℕ, true, List, sym, subst}
use Rattle.hall_rule.specs.EventLog.{has}
use Rattle.hall_rule.proofs.Numbers.{has_right}
use Rattle.hall_cells.proofs.calls.join_and_raise.Goals as goal

pub raise_within-requires-clause-session : goal.raise_within-requires-clause-session
raise_within-requires-clause-session g c =
    let v = c.args.pass.now.seat.me.0 in
    let u = c.args.ended.seat.me.0 in
    subst (λ (qs : List ℕ). has c.args.session qs ≡ true) (sym c.join.ensures.joined.sessions) (has_right c.args.session v.sessions u.sessions c.requires.session)

pub raise_within-requires-clause-empty : goal.raise_within-requires-clause-empty
raise_within-requires-clause-empty g c = record { none = λ k h. c.requires.empty.0.none k (c.join.ensures.only k h) }
