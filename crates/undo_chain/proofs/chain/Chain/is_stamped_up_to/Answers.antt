use Rattle.std.proofs.Common.{◌≡◌, take, reverse, arith, refl, subst, sym, true}
use Rattle.std.proofs.lemmas.Grind.{common_steps}
use Rattle.std.proofs.lemmas.List.Elements.{All-get_or, All-same}
use Rattle.undo_chain.specs.Lawful.{NoneStampedAbove, IsStampedUpTo}
use Rattle.undo_chain.proofs.Ends.{All-reverse, All-from_reverse}
use Rattle.undo_chain.proofs.chain.Chain.is_stamped_up_to.Goals as goal

pub returns-then-not-is_stamped_up_to : goal.returns-then-not-is_stamped_up_to
returns-then-not-is_stamped_up_to g c =
    let items : NoneStampedAbove (reverse c.self.inside.oldest_first.items) c.args.stamp → NoneStampedAbove c.deref-undo-items.result.now c.args.stamp =
    λ all. All-same (IsStampedUpTo c.args.stamp) c.deref-undo-items.result.now c.self.inside.oldest_first.items c.deref-undo-items.ensures.value (All-from_reverse (IsStampedUpTo c.args.stamp) c.self.inside.oldest_first.items all) in
    rw
    (← c.self.view_is) (
      λ absent. absurd (cc),
      λ all.
          let here : IsStampedUpTo c.args.stamp c.undo-item.result =
          subst
          (IsStampedUpTo c.args.stamp)
          (sym c.undo-item.is)
          (All-get_or (IsStampedUpTo c.args.stamp) c.deref-undo-items.result.now c.loop-undo.undo-index c.undo-item.result c.loop-undo-test.true (items all)) in
          let seen : c.is_stamped_up_to.result ≡ true = c.is_stamped_up_to.ensures.1 here in
          absurd (cc),
    )

pub returns : goal.returns
returns g c =
    let whole : c.self.inside.oldest_first.items ≡ take c.loop-undo.undo-index c.deref-undo-items.result.now =
    grind (arith, common_steps) in
    let all : NoneStampedAbove c.self.inside.oldest_first.items c.args.stamp =
    All-same (IsStampedUpTo c.args.stamp) c.self.inside.oldest_first.items _ whole c.loop-undo.invariant in
    rw
    (← c.self.view_is)
    (λ present. All-reverse (IsStampedUpTo c.args.stamp) c.self.inside.oldest_first.items all, λ limited. refl)
