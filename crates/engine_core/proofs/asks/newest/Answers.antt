use Rattle.std.proofs.Common.{◌≡◌, ◌-◌, ◌∙◌, ap, drop, length, arith}
use Rattle.core_events.proofs.Decided.{rest_taken}
use Rattle.engine_core.proofs.Asked.{newest_last}
use Rattle.engine_core.proofs.asks.newest.Goals as goal

pub returns : goal.returns
returns c =
    let last : c.saturating_sub.result ≡ length c.args.places.now - 1 = omega (arith, c.saturating_sub.ensures) in
    rest_taken c.args.places.now c.saturating_sub.result ∙ ap (λ n. drop n c.args.places.now) last ∙ newest_last c.args.places.now
