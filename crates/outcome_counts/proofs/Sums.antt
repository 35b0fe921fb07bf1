-- Sums about the reply that is judged.
use Rattle.std.proofs.Common.{◌≡◌, ℕ, ◌+◌, ◌≤◌, List, [], ◌∷◌, ◌++◌, length, take, Option, None, Some, refl, sym, ap, ◌∙◌, subst, arith}
use Rattle.std.specs.List.{sum, sum_by, filter_map, cons_option}
use Rattle.std.specs.Prelude.{slice_index_or, unwrap_or}
use Rattle.std.proofs.lemmas.List.{length-map, get_or_default}
use Rattle.std.proofs.lemmas.List.Sums.{sum_by-cons, sum_by-append}
use Rattle.outcome_spec.specs.Entries.{Entry, before, not_after}
use Rattle.order_laws.specs.Places.{round_start, own_start, own_end, round_end, between}
use Rattle.order_laws.proofs.Pieces.{cut-between}
use Rattle.order_laws.proofs.Places.{by-places}
use Rattle.mark_index.specs.Marks.{AreSums, total_below}
use Rattle.mark_index.specs.declared.marks.Sum.{Sum}
use Rattle.output_read.specs.Kept.{entries_of, entry_of}
use Rattle.output_read.specs.declared.kept.KeptReply.{KeptReply}
use Rattle.outcome_counts.specs.Asked.{IsAsked, asked_at}
use Rattle.outcome_counts.specs.declared.stretch.Stretch.{Stretch}
use Rattle.outcome_counts.proofs.Counts.{InOrder, in-order}
use Rattle.outcome_counts.proofs.Starts.{KeptAt, kept-at}
use Rattle.outcome_counts.specs.Prunes.{sum_before, sum_not_after}

module _ (value : Entry → ℕ) (replies : List KeptReply) (at : ℕ) (stretch : Stretch) (asked : IsAsked replies at stretch)
    (sums : List Sum) (summed : AreSums value (entries_of replies) (length replies) sums) (none : KeptReply) where
  -- The entries of the replies that are kept.
  abbrev es : List Entry
  es = entries_of replies

  -- The entry of the reply that is judged.
  abbrev e : Entry
  e = asked_at replies at none

  -- The judged reply stands among those that are kept at its place.
  its : KeptAt replies at (slice_index_or replies at none)
  its = kept-at replies at (slice_index_or replies at none) asked.inside (get_or_default replies at none (slice_index_or replies at none) asked.inside)

  -- So many replies stand in front of the judged one as its place says.
  far : length its.front ≡ at
  far = its.far

  -- The places about the judged reply stand in order.
  order : InOrder es e at
  order = subst (InOrder es e) far (in-order es its.front e its.rest its.whole asked.rises)

  -- There are as many entries as kept replies.
  long : length es ≡ length replies
  long = length-map replies entry_of

  -- The total below a later place is that below an earlier one and what lies between.
  total-between : (from to : ℕ) → from ≤ to → to ≤ length replies → total_below to sums ≡ total_below from sums + sum_by value (between from to es)
  total-between from to h k =
      summed.total to k ∙ ap (sum_by value) (cut-between from to es h) ∙ sum_by-append value (take from es) (between from to es)
      ∙ ap (λ (n : ℕ). n + sum_by value (between from to es)) (sym (summed.total from (omega (arith, h, k))))

  -- the sums tell that of the replies before the one that is judged
  pub sums-before : sum_before sums at stretch ≡ sum_by value (before es e)
  sums-before =
      let i = asked.inside in
      let others = total-between (round_start es e) (own_start es e) order.rounds (let a = order.starts in omega (arith, a, i)) in
      let own = total-between (own_start es e) at order.starts (omega (arith, i)) in
      let past = summed.total (round_start es e) (let a = order.starts in let b = order.rounds in omega (arith, a, b, i)) in
      let split : sum_by value (before es e) ≡ sum_by value (take (round_start es e) es) + sum_by value (between (own_start es e) at es) =
      ap (sum_by value) (by-places its.front e its.rest es its.whole asked.rises).0
      ∙ ap (λ (n : ℕ). sum_by value (take (round_start es e) es ++ between (own_start es e) n es)) far
      ∙ sum_by-append value (take (round_start es e) es) (between (own_start es e) at es) in
      ap (sum_before sums at) (asked.places none) ∙ omega (arith, others, own, past, split)

  -- and that of those not after it
  pub sums-not-after : sum_not_after sums at stretch ≡ sum_by value (not_after es e)
  sums-not-after =
      let i = asked.inside in
      let ends = order.ends in
      let closes = order.closes in
      let within = order.within in
      let l = long in
      let own = total-between (at + 1) (own_end es e) (omega (arith, ends)) (omega (arith, closes, within, l)) in
      let beside = total-between (own_end es e) (round_end es e) closes (omega (arith, within, l)) in
      let here = summed.total (at + 1) (omega (arith, i)) in
      let split : sum_by value (not_after es e) ≡ sum_by value (take (at + 1) es) + sum_by value (between (own_end es e) (round_end es e) es) =
      ap (sum_by value) (by-places its.front e its.rest es its.whole asked.rises).1
      ∙ ap (λ (n : ℕ). sum_by value (take (n + 1) es ++ between (own_end es e) (round_end es e) es)) far
      ∙ sum_by-append value (take (at + 1) es) (between (own_end es e) (round_end es e) es) in
      ap (sum_not_after sums at) (asked.places none) ∙ omega (arith, own, beside, here, split)

-- ---- sums of what is shown

-- One more that is shown or not adds its number or nothing to the sum.
shown-step : (o : Option ℕ) (others : List ℕ) → sum (cons_option o others) ≡ unwrap_or o 0 + sum others
shown-step None others = omega arith
shown-step (Some n) others = sum_by-cons (λ (x : ℕ). x) n others

-- the sum of what is shown, where 0 stands for what shows nothing
pub sum-shown : {X : Type 0} (shown : X → Option ℕ) (xs : List X) → sum (filter_map shown xs) ≡ sum_by (λ x. unwrap_or (shown x) 0) xs
sum-shown shown [] = refl
sum-shown shown (x ∷ xs) =
    shown-step (shown x) (filter_map shown xs) ∙ ap (λ (n : ℕ). unwrap_or (shown x) 0 + n) (sum-shown shown xs) ∙ sym (sum_by-cons (λ y. unwrap_or (shown y) 0) x xs)
