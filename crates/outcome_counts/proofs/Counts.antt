-- Counts about a reply, by counted places.
use Rattle.std.proofs.Common.{◌≡◌, ℕ, ◌+◌, ◌<◌, ◌≤◌, Bool, false, cond, List, [], ◌∷◌, ◌++◌, length, take, Option, None, Some, refl, sym, ap, ◌∙◌, subst, arith, zero-add, nat_le}
use Rattle.std.specs.List.{count_by, filter_map, cons_option}
use Rattle.std.specs.Option.{option_map_or}
use Rattle.std.specs.Prelude.{is_some}
use Rattle.std.proofs.lemmas.List.{length-append}
use Rattle.std.proofs.lemmas.List.Sums.{count_by-le-length}
use Rattle.outcome_spec.specs.Entries.{Entry, before, not_after}
use Rattle.order_laws.specs.Places.{Rises, round_start, own_start, own_end, round_end, between}
use Rattle.order_laws.proofs.Pieces.{count-append, count-cons, cut-between}
use Rattle.order_laws.proofs.Places.{by-places, os-at, at-oe, rs-os, oe-re}
use Rattle.mark_index.specs.Marks.{AreCounted, count_below}
use Rattle.outcome_counts.specs.Asked.{count_before, count_not_after}
use Rattle.outcome_counts.specs.Stretch.{stretch_of}

-- ---- the places about a reply stand in order

pub record InOrder (entries : List Entry) (entry : Entry) (at : ℕ) : Type 0 where
  pub starts : own_start entries entry ≤ at
  pub rounds : round_start entries entry ≤ own_start entries entry
  pub ends : at < own_end entries entry
  pub closes : own_end entries entry ≤ round_end entries entry
  pub within : round_end entries entry ≤ length entries

-- of replies that rise, the places about each stand in order about it
pub in-order : (entries front : List Entry) (entry : Entry) (rest : List Entry) → entries ≡ front ++ entry ∷ rest → Rises entries → InOrder entries entry (length front)
in-order entries front entry rest whole rises =
    let r : Rises (front ++ entry ∷ rest) = subst Rises whole rises in
    subst (λ (es : List Entry). InOrder es entry (length front)) (sym whole) (record {
      starts = os-at front entry rest r;
      rounds = rs-os front entry rest r;
      ends = at-oe front entry rest r;
      closes = oe-re front entry rest r;
      within = count-all-most (front ++ entry ∷ rest);
    })
  where
    count-all-most : (es : List Entry) → round_end es entry ≤ length es
    count-all-most es = count_by-le-length (λ (other : Entry). nat_le other.reply.round entry.reply.round) es

module _ (test : Entry → Bool) (entries front : List Entry) (entry : Entry) (rest : List Entry) (whole : entries ≡ front ++ entry ∷ rest) (rises : Rises entries)
    (places : List ℕ) (counted : AreCounted test entries (length entries) places) where
  -- The places about the reply stand in order.
  order : InOrder entries entry (length front)
  order = in-order entries front entry rest whole rises

  -- The place of the reply is within the replies.
  at-within : length front < length entries
  at-within = let l = ap length whole in let m = length-append front (entry ∷ rest) in omega (arith, l, m)

  -- The places below a bound are those below a lower one and those counted between.
  count-between : (from to : ℕ) → from ≤ to → to ≤ length entries → count_below to places ≡ count_below from places + count_by test (between from to entries)
  count-between from to h k =
      counted.count to k ∙ ap (count_by test) (cut-between from to entries h) ∙ count-append test (take from entries) (between from to entries)
      ∙ ap (λ (n : ℕ). n + count_by test (between from to entries)) (sym (counted.count from (omega (arith, h, k))))

  -- the places before a reply are as many as pass the test before it
  pub counted-before : count_before places (length front) (stretch_of entries entry) ≡ count_by test (before entries entry)
  counted-before =
      let past = counted.count (round_start entries entry) (let a = order.starts in let b = order.rounds in omega (arith, a, b, at-within)) in
      let own = count-between (own_start entries entry) (length front) order.starts (omega (arith, at-within)) in
      let split : count_by test (before entries entry) ≡ count_by test (take (round_start entries entry) entries) + count_by test (between (own_start entries entry) (length front) entries) =
      ap (count_by test) (by-places front entry rest entries whole rises).0 ∙ count-append test (take (round_start entries entry) entries) (between (own_start entries entry) (length front) entries) in
      omega (arith, past, own, split)

  -- the places not after a reply are as many as pass the test not after it
  pub counted-not-after : count_not_after places (length front) (stretch_of entries entry) ≡ count_by test (not_after entries entry)
  counted-not-after =
      let here = counted.count (length front + 1) (omega (arith, at-within)) in
      let beside = count-between (own_end entries entry) (round_end entries entry) order.closes order.within in
      let split : count_by test (not_after entries entry) ≡ count_by test (take (length front + 1) entries) + count_by test (between (own_end entries entry) (round_end entries entry) entries) =
      ap (count_by test) (by-places front entry rest entries whole rises).1 ∙ count-append test (take (length front + 1) entries) (between (own_end entries entry) (round_end entries entry) entries) in
      omega (arith, here, beside, split)

-- ---- counts of what is shown

-- two tests that agree count the same
pub count-agree : {X : Type 0} (p q : X → Bool) → ((x : X) → p x ≡ q x) → (xs : List X) → count_by p xs ≡ count_by q xs
count-agree p q same [] = refl
count-agree p q same (x ∷ xs) =
    count-cons p x xs ∙ ap (λ (b : Bool). cond b 1 0 + count_by p xs) (same x) ∙ ap (λ (n : ℕ). cond (q x) 1 0 + n) (count-agree p q same xs) ∙ sym (count-cons q x xs)

-- With what one shows in front, if anything, the count has it where it passes.
shown-step : (p : ℕ → Bool) (o : Option ℕ) (others : List ℕ) → count_by p (cons_option o others) ≡ cond (option_map_or p o false) 1 0 + count_by p others
shown-step p None others = sym (zero-add (count_by p others))
shown-step p (Some n) others = count-cons p n others

-- what is shown and passes is counted as what shows such a thing
pub count-shown : {X : Type 0} (p : ℕ → Bool) (shown : X → Option ℕ) (xs : List X) → count_by p (filter_map shown xs) ≡ count_by (λ x. option_map_or p (shown x) false) xs
count-shown p shown [] = refl
count-shown p shown (x ∷ xs) =
    shown-step p (shown x) (filter_map shown xs) ∙ ap (λ (n : ℕ). cond (option_map_or p (shown x) false) 1 0 + n) (count-shown p shown xs)
    ∙ sym (count-cons (λ y. option_map_or p (shown y) false) x xs)

-- With what one shows in front, if anything, the list is one longer.
length-step : (o : Option ℕ) (others : List ℕ) → length (cons_option o others) ≡ cond (is_some o) 1 0 + length others
length-step None others = sym (zero-add (length others))
length-step (Some n) others = omega arith

-- there are as many shown as show something
pub length-shown : {X : Type 0} (shown : X → Option ℕ) (xs : List X) → length (filter_map shown xs) ≡ count_by (λ x. is_some (shown x)) xs
length-shown shown [] = refl
length-shown shown (x ∷ xs) =
    length-step (shown x) (filter_map shown xs) ∙ ap (λ (n : ℕ). cond (is_some (shown x)) 1 0 + n) (length-shown shown xs)
    ∙ sym (count-cons (λ y. is_some (shown y)) x xs)
