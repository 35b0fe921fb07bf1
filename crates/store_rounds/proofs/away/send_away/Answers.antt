use Rattle.std.proofs.Common.{refl, sym, subst}
use Rattle.shared_store.specs.declared.session.Session.{Session}
use Rattle.store_rounds.specs.Served.{MayServeQuietly}
use Rattle.store_rounds.specs.declared.duty.Duty.{Duty}
use Rattle.store_rounds.proofs.Apart.{is_away}
use Rattle.store_rounds.proofs.away.send_away.Goals as goal

pub hand_over-requires-clause-client : goal.hand_over-requires-clause-client
hand_over-requires-clause-client g c = c.requires.free.asks

pub hand_over-requires-clause-may : goal.hand_over-requires-clause-may
hand_over-requires-clause-may g c =
    subst (λ (duty : Duty). MayServeQuietly c.args.store.now duty c.replace-away.result) (sym c.replace-its.ensures.value)
    (subst (λ (session : Session). MayServeQuietly c.args.store.now c.args.duty.now session) (sym c.replace-away.ensures.value) c.requires.may)

pub returns : goal.returns
returns g c = is_away _ _ _ _ _ _ refl c.replace-away.ensures.value c.replace-its.ensures.value c.hand_over.ensures
