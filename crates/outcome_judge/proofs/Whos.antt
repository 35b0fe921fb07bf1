-- Sessions and workers that are one.
use Rattle.std.proofs.Common.{◌≡◌, true, false, sym, ap, ◌∙◌, subst}
use Rattle.workload_spec.specs.declared.reply.Who.{Who}
use Rattle.outcome_spec.specs.Entries.{is_same}
use Rattle.order_laws.proofs.Places.{same-is}
use Rattle.order_laws.proofs.Order.{same-itself}

-- two that are one are so either way round
pub same-turned : (a b : Who) → is_same a b ≡ true → is_same b a ≡ true
same-turned a b h = subst (λ (w : Who). is_same w a ≡ true) (same-is a b h) (same-itself a)

-- two that are apart are not both one and the same
pub same-apart : (a b one : Who) → is_same a b ≡ false → is_same a one ≡ true → is_same b one ≡ true → ⊥
same-apart a b one apart h k =
    let e : is_same a b ≡ true = ap (λ (w : Who). is_same a w) (same-is b one k) ∙ h in
    let never : true ≡ false = sym e ∙ apart in
    let impossible : ⊥ = cc in
    impossible
