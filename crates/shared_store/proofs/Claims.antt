-- What a pass has lent, from one call to the next.
use Rattle.std.proofs.Common.{◌≡◌, ℕ, refl, sym, ◌∙◌}
use Rattle.event_spec.specs.Effects.{CoreEvent}
use Rattle.hall_rule.specs.declared.view.View.{View}
use Rattle.hall_steps.specs.Hall.{SameClaim}
use Rattle.shared_store.specs.Store.{KeepsLend}

-- with the same claim it has the same
pub keeps_same : {v w : View CoreEvent} → SameClaim v w → KeepsLend v w
keeps_same same = record { claim = same.0; claimed = λ some. same.1 }

-- one call behind another
pub keeps_on : {u v w : View CoreEvent} → KeepsLend u v → KeepsLend v w → KeepsLend u w
keeps_on first then = record {
  claim = then.claim ∙ first.claim;
  claimed = λ some. then.claimed some ∙ first.claimed (λ none. some (then.claim ∙ none));
}

-- the same claim, and then still the same
pub same_on : {a b c x y z : ℕ} → (b ≡ a) × (y ≡ x) → (c ≡ b) × (z ≡ y) → (c ≡ a) × (z ≡ x)
same_on first then = (then.0 ∙ first.0, then.1 ∙ first.1)

-- a view as it was
pub keeps_stays : {v : View CoreEvent} → KeepsLend v v
keeps_stays = record { claim = refl; claimed = λ some. refl }

-- who had lent nothing before, and has lent nothing behind
pub keeps_none : {v w : View CoreEvent} → v.claim ≡ 0 → w.claim ≡ 0 → KeepsLend v w
keeps_none before behind = record { claim = behind ∙ sym before; claimed = λ some. absurd (some behind) }

-- who had lent nothing has lent nothing then
pub free_on : {v w : View CoreEvent} → KeepsLend v w → v.claim ≡ 0 → w.claim ≡ 0
free_on keeps free = keeps.claim ∙ free
