-- A reply behind another, of its round and another's, has its own from its place on.
use Rattle.std.proofs.Common.{◌≡◌, ℕ, ◌+◌, ◌-◌, ◌<◌, ◌≤◌, ◌⊎◌, inl, inr, zero, suc, Bool, true, false, not, eqb, nat_lt, nat_le, List, take, drop, length, get_or, refl, sym, ap, ◌∙◌, subst, arith}
use Rattle.std.specs.List.{count_by, list_all}
use Rattle.std.proofs.lemmas.Bool.{and_from, or_left, or_right}
use Rattle.std.proofs.lemmas.Bool.Decides.{nat_tests}
use Rattle.std.proofs.lemmas.List.{length-map, length-take-le, take-append-drop}
use Rattle.std.proofs.lemmas.List.Sums.{count_by-le-length}
use Rattle.workload_spec.specs.declared.reply.Who.{Who}
use Rattle.outcome_spec.specs.Entries.{Entry, is_same}
use Rattle.order_laws.specs.Places.{Rises, is_earlier, is_in_front, is_up_to, is_up_to_own, own_end, own_start, round_end, round_start}
use Rattle.order_laws.specs.Sides.{is_past}
use Rattle.order_laws.proofs.Pieces.{Parted, all-weaker, count-append, count-none, parted-back, parted-front}
use Rattle.order_laws.proofs.Places.{Behind, Beside, Own, ahead-cases, earlier-itself, front-parts, own-parts, round-parts}
use Rattle.order_laws.proofs.Order.{same-itself}
use Rattle.output_read.specs.Kept.{entries_of, entry_of}
use Rattle.output_read.specs.declared.kept.KeptReply.{KeptReply as Kept}
use Rattle.outcome_counts.specs.Asked.{IsAsked, asked_at}
use Rattle.outcome_counts.specs.Stretch.{stretch_of}
use Rattle.outcome_counts.specs.declared.stretch.Stretch.{Stretch}
use Rattle.outcome_counts.proofs.Behind.{ahead-of, back-kept, front-kept, no-other}
use Rattle.outcome_counts.proofs.Near.{back-fails, count-all, count-near, front-passes}
use Rattle.outcome_counts.proofs.Parts.{count-map, parted-map}
use Rattle.outcome_counts.proofs.Starts.{at-place}

-- ---- one beside another

-- Each session or worker is up to itself.
up-to-itself : (who : Who) → is_up_to who who ≡ true
up-to-itself who = or_right (is_earlier who who) (is_same who who) (same-itself who)

-- A reply of the same round to the same one is up to a reply's own.
own-itself : (x y : Entry) → x.reply.round ≡ y.reply.round → x.reply.who ≡ y.reply.who → is_up_to_own x y ≡ true
own-itself x y round who =
    or_right (is_past x y) _
    (and_from (eqb y.reply.round x.reply.round) (is_up_to y.reply.who x.reply.who) (grind (arith, nat_tests, round))
    (subst (λ (w : Who). is_up_to w x.reply.who ≡ true) who (up-to-itself x.reply.who)))

module _ (x y : Entry) (beside : Beside x y) where
  -- The first of the two replies is in front of the second.
  in-front : is_in_front y x ≡ true
  in-front = let round = beside.round in or_right (is_past y x) _ (and_from (eqb x.reply.round y.reply.round) (is_earlier x.reply.who y.reply.who) (grind (arith, nat_tests, round)) beside.who)

  -- A reply to an earlier session or worker of the round is up to the other's own.
  up-to : is_up_to_own y x ≡ true
  up-to = let round = beside.round in or_right (is_past y x) _
      (and_from (eqb x.reply.round y.reply.round) (is_up_to x.reply.who y.reply.who) (grind (arith, nat_tests, round)) (or_left (is_earlier x.reply.who y.reply.who) (is_same x.reply.who y.reply.who) beside.who))

-- A reply is not in front of its own.
not-in-front : (y : Entry) → is_in_front y y ≡ false
not-in-front y =
    let low : is_past y y ≡ false = grind (arith, nat_tests) in
    let same : eqb y.reply.round y.reply.round ≡ true = grind (arith, nat_tests) in
    rw (low, same, earlier-itself y.reply.who) refl

-- A reply of a later round is not up to the own of one of the round.
later-not : (x y other : Entry) → x.reply.round ≡ y.reply.round → not (nat_le other.reply.round x.reply.round) ≡ true → not (is_up_to_own y other) ≡ true
later-not x y other round h =
    let low : is_past y other ≡ false = grind (arith, nat_tests, h, round) in
    let apart : eqb other.reply.round y.reply.round ≡ false = grind (arith, nat_tests, h, round) in
    rw (low, apart) refl

-- a test that all in front of a place pass, and none from it on, is counted up to there
count-at : {X : Type 0} (p : X → Bool) (n : ℕ) (xs : List X) → n ≤ length xs → list_all p (take n xs) ≡ true → list_all (λ y. not (p y)) (drop n xs) ≡ true → count_by p xs ≡ n
count-at p n xs within front back =
    let all : count_by p (take n xs) ≡ n = count-all p (take n xs) front ∙ length-take-le n xs within in
    let none : count_by p (drop n xs) ≡ 0 = count-none p (drop n xs) back in
    let whole : count_by p xs ≡ count_by p (take n xs) + count_by p (drop n xs) = ap (count_by p) (sym (take-append-drop n xs)) ∙ count-append p (take n xs) (drop n xs) in
    omega (arith, all, none, whole)

module _ (xs : List Kept) (rises : Rises (entries_of xs)) (at : ℕ) (d : Kept) (within : suc at < length xs)
    (past : own_end (entries_of xs) (entry_of (get_or xs at d)) ≤ suc at) (early : suc at < round_end (entries_of xs) (entry_of (get_or xs at d))) where
  -- The kept replies as they are judged.
  abbrev es : List Entry
  es = entries_of xs

  -- The reply at the place.
  abbrev x : Entry
  x = entry_of (get_or xs at d)

  -- The reply behind the one at the place.
  abbrev y : Entry
  y = entry_of (get_or xs (suc at) d)

  -- The other reply is of no later round than the one at the place.
  abbrev up-to-round : Entry → Bool
  up-to-round other = nat_le other.reply.round x.reply.round

  -- The reply behind is of the same round, and to a later session or worker.
  are-beside : Beside x y
  are-beside = by (ahead-cases x y (ahead-of xs at (suc at) d rises (omega arith) within))
    where
      together : nat_le y.reply.round x.reply.round ≡ true
      together = front-kept up-to-round xs (round_end es x) (suc at) d early within (parted-front up-to-round es (round-parts x es rises))

      apart : not (is_up_to_own x y) ≡ true
      apart = back-kept (λ e. not (is_up_to_own x e)) xs (own_end es x) (suc at) d past within (parted-back (is_up_to_own x) es (own-parts x es rises))

      by : Behind x y ⊎ (Beside x y ⊎ Own x y) → Beside x y
      by (inl behind) =
          let later = behind.later in
          let up : y.reply.round ≤ x.reply.round = grind (arith, nat_tests, together) in
          absurd (omega (arith, later, up))
      by (inr (inl beside)) = beside
      by (inr (inr own)) = absurd (no-other (subst (λ (b : Bool). not b ≡ true) (own-itself x y own.round own.who) apart))

  -- The own replies of the reply behind begin at its place.
  starts : suc at ≡ own_start es y
  starts =
      let p : Kept → Bool = λ k. is_in_front y (entry_of k) in
      let parted : Parted p xs = parted-map entry_of (is_in_front y) xs (front-parts y es rises) in
      sym (count-map entry_of (is_in_front y) xs ∙ count-at p (suc at) xs (omega (arith, within))
      (front-passes p xs at d parted (omega (arith, within)) (in-front x y are-beside))
      (back-fails p xs (suc at) d parted within (not-in-front y)))

  -- The own replies of the reply behind end behind as many as are counted.
  ends : (own : ℕ) → own ≡ count_by (λ (k : Kept). is_up_to_own y (entry_of k)) (drop (suc at) (take (round_end es x) xs)) → suc at + own ≡ own_end es y
  ends own is =
      let p : Kept → Bool = λ k. is_up_to_own y (entry_of k) in
      let r : Kept → Bool = λ k. up-to-round (entry_of k) in
      let parted : Parted p xs = parted-map entry_of (is_up_to_own y) xs (own-parts y es rises) in
      let counted : round_end es x ≡ count_by r xs = count-map entry_of up-to-round xs in
      let most : count_by r xs ≤ length xs = count_by-le-length r xs in
      let behind : list_all (λ k. not (r k)) (drop (round_end es x) xs) ≡ true =
      subst (λ (n : ℕ). list_all (λ (k : Kept). not (r k)) (drop n xs) ≡ true) (sym counted) (parted-back r xs (parted-map entry_of up-to-round xs (round-parts x es rises))) in
      let back : list_all (λ k. not (p k)) (drop (round_end es x) xs) ≡ true =
      all-weaker (λ (k : Kept). not (r k)) (λ (k : Kept). not (p k)) (λ k h. later-not x y (entry_of k) are-beside.round h) (drop (round_end es x) xs) behind in
      ap (λ (n : ℕ). suc at + n) is
      ∙ sym (count-map entry_of (is_up_to_own y) xs
      ∙ count-near p (suc at) (round_end es x) xs (omega (arith, early)) (omega (arith, counted, most)) (front-passes p xs at d parted (omega (arith, within)) (up-to x y are-beside)) back)

  -- The round of both replies begins at one place.
  same-starts : round_start es x ≡ round_start es y
  same-starts = ap (λ (round : ℕ). count_by (λ (other : Entry). nat_lt other.reply.round round) es) are-beside.round

  -- The round of both replies ends at one place.
  same-ends : round_end es x ≡ round_end es y
  same-ends = ap (λ (round : ℕ). count_by (λ (other : Entry). nat_le other.reply.round round) es) are-beside.round

  -- The places about the reply behind are those about the first, but for its own.
  all-places : (own : ℕ) → own ≡ count_by (λ (k : Kept). is_up_to_own y (entry_of k)) (drop (suc at) (take (round_end es x) xs))
      → record (stretch_of es x) { own_start = suc at; own_end = suc at + own } ≡ stretch_of es y
  all-places own is =
      ap (λ (n : ℕ). record { round_start = n; own_start = suc at; own_end = suc at + own; round_end = round_end es x }) same-starts
      ∙ ap (λ (n : ℕ). record { round_start = round_start es y; own_start = n; own_end = suc at + own; round_end = round_end es x }) starts
      ∙ ap (λ (n : ℕ). record { round_start = round_start es y; own_start = own_start es y; own_end = n; round_end = round_end es x }) (ends own is)
      ∙ ap (λ (n : ℕ). record { round_start = round_start es y; own_start = own_start es y; own_end = own_end es y; round_end = n }) same-ends

-- the places about a reply, by those about the one in front of it
pub stretch-beside : (xs : List Kept) (at : ℕ) (d : Kept) (known : Stretch) → Rises (entries_of xs) → at < length xs → known ≡ stretch_of (entries_of xs) (entry_of (get_or xs (at - 1) d))
    → known.own_end ≤ at → at < known.round_end → (own : ℕ) → own ≡ count_by (λ (k : Kept). is_up_to_own (entry_of (get_or xs at d)) (entry_of k)) (drop at (take known.round_end xs))
    → record known { own_start = at; own_end = at + own } ≡ stretch_of (entries_of xs) (entry_of (get_or xs at d))
stretch-beside xs zero d known rises within is past early own counted =
    let x : Entry = entry_of (get_or xs zero d) in
    let low : own_end (entries_of xs) x ≤ zero = subst (λ (s : Stretch). s.own_end ≤ zero) is past in
    let none : not (is_up_to_own x x) ≡ true = back-kept (λ e. not (is_up_to_own x e)) xs (own_end (entries_of xs) x) zero d low within (parted-back (is_up_to_own x) (entries_of xs) (own-parts x (entries_of xs) rises)) in
    absurd (no-other (subst (λ (b : Bool). not b ≡ true) (own-itself x x refl refl) none))
stretch-beside xs (suc at) d known rises within is past early own counted =
    let e : suc at - 1 ≡ at = omega arith in
    let there : known ≡ stretch_of (entries_of xs) (entry_of (get_or xs at d)) = is ∙ ap (λ (n : ℕ). stretch_of (entries_of xs) (entry_of (get_or xs n d))) e in
    ap (λ (s : Stretch). record s { own_start = suc at; own_end = suc at + own }) there
    ∙ all-places xs rises at d within (subst (λ (s : Stretch). s.own_end ≤ suc at) there past) (subst (λ (s : Stretch). suc at < s.round_end) there early) own
    (counted ∙ ap (λ (s : Stretch). count_by (λ (k : Kept). is_up_to_own (entry_of (get_or xs (suc at) d)) (entry_of k)) (drop (suc at) (take s.round_end xs))) there)

-- the round of a reply ends among the replies
pub ends-within : (xs : List Kept) (at : ℕ) (known : Stretch) → IsAsked xs at known → known.round_end ≤ length xs
ends-within xs at known asked =
    let here : Kept = (at-place xs at asked.inside).item in
    let entry : Entry = asked_at xs at here in
    let is : known.round_end ≡ round_end (entries_of xs) entry = ap (λ (s : Stretch). s.round_end) (asked.places here) in
    let most : round_end (entries_of xs) entry ≤ length (entries_of xs) = count_by-le-length (λ (other : Entry). nat_le other.reply.round entry.reply.round) (entries_of xs) in
    let long = length-map xs entry_of in
    omega (arith, is, most, long)
