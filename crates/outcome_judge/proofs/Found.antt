-- The first reply that fails a test is found.
use Rattle.std.proofs.Common.{◌≡◌, ℕ, ◌+◌, ◌<◌, ◌≤◌, zero, suc, Bool, true, false, cond, not, List, [], ◌∷◌, length, take, Option, None, Some, refl, sym, ap, ◌∙◌, subst, arith}
use Rattle.std.specs.List.{find, list_all, slice_index_or}
use Rattle.std.specs.Prelude.{option_map}
use Rattle.std.proofs.lemmas.Bool.{and_parts, and_from}
use Rattle.outcome_spec.specs.Entries.{Entry}
use Rattle.output_read.specs.Kept.{entries_of, entry_of}
use Rattle.output_read.specs.declared.kept.KeptReply.{KeptReply}
use Rattle.outcome_counts.specs.Asked.{asked_at}

-- within the list it does not matter what stands past its end
pub any-index : (replies : List KeptReply) (at : ℕ) (a b : KeptReply) → at < length replies → slice_index_or replies at a ≡ slice_index_or replies at b
any-index [] at a b few = absurd (omega (arith, few))
any-index (reply ∷ replies) zero a b few = refl
any-index (reply ∷ replies) (suc at) a b few = any-index replies at a b (omega (arith, few))

module _ (sound : Entry → Bool) where
  -- the line of the first reply that is not sound
  abbrev pub failing : List KeptReply → Option ℕ
  failing replies = option_map (λ entry. entry.number) (find (λ entry. not (sound entry)) (entries_of replies))

  -- With a sound reply behind those that were sound, all up to it are sound.
  so-far : (replies : List KeptReply) (at : ℕ) → at < length replies → list_all sound (take at (entries_of replies)) ≡ true → ((none : KeptReply) → true ≡ sound (asked_at replies at none)) → list_all sound (take (suc at) (entries_of replies)) ≡ true
  so-far [] at few all good = absurd (omega (arith, few))
  so-far (reply ∷ replies) zero few all good = and_from (sound (entry_of reply)) true (sym (good reply)) refl
  so-far (reply ∷ replies) (suc at) few all good =
      let parts = and_parts (sound (entry_of reply)) (list_all sound (take at (entries_of replies))) all in
      and_from (sound (entry_of reply)) (list_all sound (take (suc at) (entries_of replies))) parts.0 (so-far replies at (omega (arith, few)) parts.1 good)

  -- one sound reply more in front of the next place
  pub sound-so-far : (replies : List KeptReply) (at : ℕ) → at < length replies → list_all sound (take at (entries_of replies)) ≡ true → ((none : KeptReply) → true ≡ sound (asked_at replies at none)) → list_all sound (take (at + 1) (entries_of replies)) ≡ true
  sound-so-far replies at few all good = subst (λ (n : ℕ). list_all sound (take n (entries_of replies)) ≡ true) (let e : suc at ≡ at + 1 = omega arith in e) (so-far replies at few all good)

  -- A sound reply in front leaves the line of the first unsound one.
  passed : (reply : KeptReply) (replies : List KeptReply) → sound (entry_of reply) ≡ true → failing replies ≡ failing (reply ∷ replies)
  passed reply replies good =
      ap (λ (b : Bool). option_map (λ (entry : Entry). entry.number) (cond (not b) (Some (entry_of reply)) (find (λ entry. not (sound entry)) (entries_of replies)))) (sym good)

  -- the first reply that is not sound is found, with its line
  pub found-first : (replies : List KeptReply) (at line : ℕ) → at < length replies → list_all sound (take at (entries_of replies)) ≡ true → ((none : KeptReply) → false ≡ sound (asked_at replies at none)) → ((none : KeptReply) → line ≡ (asked_at replies at none).number) → Some line ≡ failing replies
  found-first [] at line few all bad is = absurd (omega (arith, few))
  found-first (reply ∷ replies) zero line few all bad is =
      ap (λ (n : ℕ). Some n) (is reply)
      ∙ ap (λ (b : Bool). option_map (λ (entry : Entry). entry.number) (cond (not b) (Some (entry_of reply)) (find (λ entry. not (sound entry)) (entries_of replies)))) (bad reply)
  found-first (reply ∷ replies) (suc at) line few all bad is =
      let parts = and_parts (sound (entry_of reply)) (list_all sound (take at (entries_of replies))) all in
      found-first replies at line (omega (arith, few)) parts.1 bad is ∙ passed reply replies parts.0

  -- where no reply is left and all were sound, none is found
  pub none-found : (replies : List KeptReply) (at : ℕ) → length replies ≤ at → list_all sound (take at (entries_of replies)) ≡ true → None ≡ failing replies
  none-found [] at most all = refl
  none-found (reply ∷ replies) zero most all = absurd (omega (arith, most))
  none-found (reply ∷ replies) (suc at) most all =
      let parts = and_parts (sound (entry_of reply)) (list_all sound (take at (entries_of replies))) all in
      none-found replies at (omega (arith, most)) parts.1 ∙ passed reply replies parts.0
