use Rattle.std.proofs.Common.{refl, sym, subst}
use Rattle.shared_store.specs.declared.session.Session.{Session}
use Rattle.store_rounds.specs.Served.{ServedQuietly}
use Rattle.store_rounds.proofs.Apart.{as_sent}
use Rattle.store_rounds.proofs.away.bring_back.Goals as goal

pub fetch-back-requires-after_bounds : goal.fetch-back-requires-after_bounds
fetch-back-requires-after_bounds g c κs within = (c.requires.errand, c.requires.asks)

pub returns-clause-free : goal.returns-clause-free
returns-clause-free g c = record { asks = c.fetch-back.ensures.client; stand_in = refl }

pub returns-clause-served : goal.returns-clause-served
returns-clause-served g c = λ store old before is.
    subst (λ (now : Session). ServedQuietly store old now before c.fetch-back.result.duty) (sym c.replace-stand_in.ensures.after)
    (as_sent c.args.desk.now store old c.fetch-back.result.session before c.fetch-back.result.duty c.args.station.now c.fetch-back.ensures.done is)
