-- Up to which place replies meet two tests, by how far they meet each.
use Rattle.std.proofs.Common.{◌≡◌, ℕ, ◌+◌, ◌-◌, ◌<◌, ◌≤◌, zero, suc, ◌⊎◌, inl, inr, Bool, true, false, ◌&&◌, List, None, Some, length, take, refl, sym, ap, ◌∙◌, subst, arith}
use Rattle.std.specs.List.{list_all}
use Rattle.std.proofs.lemmas.List.{take-take}
use Rattle.std.proofs.lemmas.Bool.{and_left, and_right, and_from}
use Rattle.order_laws.proofs.Pieces.{all-both, all-take, all-weaker}
use Rattle.outcome_counts.specs.Asked.{IsAsked, asked_at}
use Rattle.outcome_counts.specs.declared.stretch.Stretch.{Stretch}
use Rattle.outcome_spec.specs.Entries.{Entry}
use Rattle.output_read.specs.Kept.{entries_of}
use Rattle.output_read.specs.declared.kept.KeptReply.{KeptReply}
use Rattle.outcome_judge.specs.Judged.{EndsAt}
use Rattle.outcome_judge.proofs.Found.{failing, found-first, none-found}

-- a bound up to another is below it or the same
below-or-same : (a b : ℕ) → a ≤ b → (a < b) ⊎ (a ≡ b)
below-or-same zero zero h = inr refl
below-or-same zero (suc b) h = inl (omega arith)
below-or-same (suc a) zero h = absurd (omega (arith, h))
below-or-same (suc a) (suc b) h = by (below-or-same a b (omega (arith, h)))
  where
    by : (a < b) ⊎ (a ≡ b) → (suc a < suc b) ⊎ (suc a ≡ suc b)
    by (inl less) = inl (omega (arith, less))
    by (inr same) = inr (ap (λ (n : ℕ). suc n) same)

module _ (p q : Entry → Bool) (replies : List KeptReply) where
  -- of what meets the first up to a place that which meets the second
  pub both-end : (until first place : ℕ) → EndsAt p replies until first → EndsAt q replies first place → EndsAt (λ entry. p entry && q entry) replies until place
  both-end until first place of then = record {
    within = omega (arith, of.within, then.within);
    front =
        all-both p q (λ entry. p entry && q entry) (λ entry g h. and_from (p entry) (q entry) g h) (take place (entries_of replies))
        (subst (λ (entries : List Entry). list_all p entries ≡ true) (take-take place first (entries_of replies) then.within) (all-take p place (take first (entries_of replies)) of.front))
        then.front;
    fails = λ none below. by none below (below-or-same place first then.within);
  }
    where
      by : (none : KeptReply) → place < until → (place < first) ⊎ (place ≡ first) → (p (asked_at replies place none) && q (asked_at replies place none)) ≡ false
      by none below (inl less) = and_right (p (asked_at replies place none)) (q (asked_at replies place none)) (then.fails none less)
      by none below (inr same) =
          and_left (p (asked_at replies place none)) (q (asked_at replies place none))
          (subst (λ (n : ℕ). p (asked_at replies n none) ≡ false) (sym same) (of.fails none (subst (λ (n : ℕ). n < until) same below)))

  -- a test that is the same everywhere
  pub same-end : (until place : ℕ) → ((entry : Entry) → p entry ≡ q entry) → EndsAt p replies until place → EndsAt q replies until place
  same-end until place same ends = record {
    within = ends.within;
    front = all-weaker p q (λ entry h. sym (same entry) ∙ h) (take place (entries_of replies)) ends.front;
    fails = λ none below. sym (same (asked_at replies place none)) ∙ ends.fails none below;
  }

-- a loop over the places ends at the first that fails, or at the bound
module _ (test : Entry → Bool) (replies : List KeptReply) where
  -- a loop that comes to a reply that fails the test ends there
  pub stops-at : (until at : ℕ) → at < until → list_all test (take at (entries_of replies)) ≡ true → ((none : KeptReply) → false ≡ test (asked_at replies at none)) → EndsAt test replies until at
  stops-at until at below front bad = record {
    within = omega (arith, below);
    front = front;
    fails = λ none less. sym (bad none);
  }

  -- a loop that comes to its bound ends there, with all in front passing
  pub goes-through : (until at : ℕ) → until ≤ at → list_all test (take at (entries_of replies)) ≡ true → EndsAt test replies until until
  goes-through until at past front = record {
    within = omega arith;
    front = subst (λ (entries : List Entry). list_all test entries ≡ true) (take-take until at (entries_of replies) past) (all-take test until (take at (entries_of replies)) front);
    fails = λ none less. absurd (omega (arith, less));
  }

-- the places about a reply are known at the next place
pub known-behind : (replies : List KeptReply) (at : ℕ) (stretch : Stretch) → IsAsked replies at stretch → IsAsked replies (at + 1 - 1) stretch
known-behind replies at stretch asked = subst (λ (n : ℕ). IsAsked replies n stretch) (let e : at ≡ at + 1 - 1 = omega arith in e) asked

-- where the replies end to meet a test, the first that fails it is found, or none
pub ends-in-front : (test : Entry → Bool) (replies : List KeptReply) (at line : ℕ) → at < length replies → EndsAt test replies (length replies) at → ((none : KeptReply) → line ≡ (asked_at replies at none).number) → Some line ≡ failing test replies
ends-in-front test replies at line below ends is = found-first test replies at line below ends.front (λ none. sym (ends.fails none below)) is

-- where no reply is left, none fails the test
pub ends-behind : (test : Entry → Bool) (replies : List KeptReply) (at : ℕ) → length replies ≤ at → EndsAt test replies (length replies) at → None ≡ failing test replies
ends-behind test replies at most ends = none-found test replies at most ends.front
