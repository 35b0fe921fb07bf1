-- The last commit that met a read, after one commit more.
use Rattle.std.proofs.Common.{◌≡◌, ◌⊎◌, ℕ, ◌+◌, ◌-◌, ◌<◌, ◌≤◌, ◌&&◌, nat_lt, Bool, true, false, cond, [], ◌∷◌, ◌++◌, length, None, Some, refl, sym, ap, ◌∙◌, arith, inl, inr}
use Rattle.std.specs.List.{last_or}
use Rattle.std.proofs.lemmas.Bool.Decides.{nat_tests}
use Rattle.std.proofs.lemmas.List.{get_or_append_left, get_or_push, length_push}
use Rattle.isolation_spec.specs.Contents.{WriteSet, History}
use Rattle.isolation_spec.specs.Machine.{later_commits, write_set_at}
use Rattle.core_laws.proofs.Stale.Lasts.{NonePass, LastPass, last_cases, last_is, last_none}

module _ (history : History) (w : WriteSet) (n : ℕ) (behind : n ≤ length history) (test : WriteSet → Bool) where
  -- how many commits there were
  abbrev len : ℕ
  len = length history

  -- a commit behind the snapshot passes, by these write sets
  abbrev passes : History → ℕ → Bool
  passes commits k = nat_lt n k && test (write_set_at commits k)

  -- earlier commits keep their write sets
  before : (k : ℕ) → 1 ≤ k → k < 1 + len → passes (history ++ w ∷ []) k ≡ passes history k
  before k low high = ap (λ ws. nat_lt n k && test ws) (get_or_append_left history (w ∷ []) [] (k - 1) (omega (arith, low, high)))

  -- the new one has its own
  now : passes (history ++ w ∷ []) (len + 1) ≡ test w
  now =
      ap (λ ws. nat_lt n (len + 1) && test ws) (get_or_push history w [] (len + 1 - 1) (omega arith))
      ∙ ap (λ b. b && test w) (let less : nat_lt n (len + 1) ≡ true = grind (arith, nat_tests, behind) in less)

  -- and there is one more
  count : length (history ++ w ∷ []) ≡ len + 1
  count = length_push history w

  -- a number of the longer history is an earlier one's, or the new one's
  each : (k : ℕ) → 1 ≤ k → k < 1 + length (history ++ w ∷ []) → (k < 1 + len) ⊎ (k ≡ len + 1)
  each k low high = go (nat_lt k (1 + len)) refl
    where
      go : (b : Bool) → nat_lt k (1 + len) ≡ b → (k < 1 + len) ⊎ (k ≡ len + 1)
      go true is = inl (grind (arith, nat_tests, is))
      go false is = inr (let c = count in let up : 1 + len ≤ k = grind (arith, nat_tests, is) in omega (arith, up, high, c))

  -- One commit more is the last where it passes, and else it is the one before.
  pub last-more : last_or None (later_commits (history ++ w ∷ []) n test) ≡ cond (test w) (Some (len + 1)) (last_or None (later_commits history n test))
  last-more = go (test w) refl (last_cases (passes history) 1 len)
    where
      as_none : test w ≡ false → NonePass (passes history) 1 len → last_or None (later_commits (history ++ w ∷ []) n test) ≡ None
      as_none lacks rest = last_none (passes (history ++ w ∷ [])) 1 (length (history ++ w ∷ [])) (λ k low high. split k low (each k low high))
        where
          split : (k : ℕ) → 1 ≤ k → (k < 1 + len) ⊎ (k ≡ len + 1) → passes (history ++ w ∷ []) k ≡ false
          split k low (inl high) = before k low high ∙ rest k low high
          split k low (inr same) = ap (passes (history ++ w ∷ [])) same ∙ now ∙ lacks

      as_some : (j : ℕ) → test w ≡ false → LastPass (passes history) 1 len j → last_or None (later_commits (history ++ w ∷ []) n test) ≡ Some j
      as_some j lacks last =
          last_is (passes (history ++ w ∷ [])) 1 (length (history ++ w ∷ [])) j (record {
            low = last.low;
            high = let c = count in let h = last.high in omega (arith, c, h);
            passes = before j last.low last.high ∙ last.passes;
            later = λ k less high. split k less (each k (let l = last.low in omega (arith, l, less)) high);
          })
        where
          split : (k : ℕ) → j < k → (k < 1 + len) ⊎ (k ≡ len + 1) → passes (history ++ w ∷ []) k ≡ false
          split k less (inl high) = before k (let l = last.low in omega (arith, l, less)) high ∙ last.later k less high
          split k less (inr same) = ap (passes (history ++ w ∷ [])) same ∙ now ∙ lacks

      go : (b : Bool) → test w ≡ b
          → ((last_or None (later_commits history n test) ≡ None) × NonePass (passes history) 1 len)
          ⊎ ((j : ℕ) × (last_or None (later_commits history n test) ≡ Some j) × LastPass (passes history) 1 len j)
          → last_or None (later_commits (history ++ w ∷ []) n test) ≡ cond (test w) (Some (len + 1)) (last_or None (later_commits history n test))
      go true is old =
          last_is (passes (history ++ w ∷ [])) 1 (length (history ++ w ∷ [])) (len + 1) (record {
            low = omega arith;
            high = let c = count in omega (arith, c);
            passes = now ∙ is;
            later = λ k less high. absurd (let c = count in omega (arith, c, less, high));
          })
          ∙ sym (ap (λ b. cond b (Some (len + 1)) (last_or None (later_commits history n test))) is)
      go false is (inl old) = as_none is old.1 ∙ sym old.0 ∙ sym (ap (λ b. cond b (Some (len + 1)) (last_or None (later_commits history n test))) is)
      go false is (inr old) = as_some old.0 is old.2 ∙ sym old.1 ∙ sym (ap (λ b. cond b (Some (len + 1)) (last_or None (later_commits history n test))) is)
