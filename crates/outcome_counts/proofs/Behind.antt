-- A reply behind another, or in front of it, and among its own has the same places about it.
use Rattle.std.proofs.Common.{◌≡◌, ℕ, ◌-◌, ◌<◌, ◌⊎◌, inl, inr, ◌+◌, ◌≤◌, zero, suc, Bool, true, not, ◌&&◌, ◌||◌, ◌==◌, nat_lt, nat_le, List, [], ◌∷◌, take, drop, length, get_or, refl, sym, ap, ◌∙◌, subst, arith}
use Rattle.std.specs.List.{count_by, list_all}
use Rattle.std.proofs.lemmas.Bool.{and_parts, or_cases, eqb-true, ltb-true}
use Rattle.workload_spec.specs.declared.reply.Who.{Who}
use Rattle.workload_spec.specs.declared.reply.Who.TheVariants.{Session, Worker}
use Rattle.outcome_spec.specs.Entries.{Entry, is_same}
use Rattle.order_laws.specs.Places.{Rises, is_ahead, is_earlier, is_in_front, is_up_to, is_up_to_own, own_end, own_start}
use Rattle.order_laws.specs.Sides.{is_own}
use Rattle.order_laws.proofs.Pieces.{parted-back, parted-front}
use Rattle.order_laws.proofs.Places.{front-parts, own-parts, same-is}
use Rattle.output_read.specs.Kept.{entries_of, entry_of}
use Rattle.output_read.specs.declared.kept.KeptReply.{KeptReply as Kept}
use Rattle.outcome_counts.specs.Asked.{IsAsked}
use Rattle.outcome_counts.specs.Stretch.{stretch_of}
use Rattle.outcome_counts.specs.declared.stretch.Stretch.{Stretch}

-- ---- sessions and workers

-- no number is below one that is up to it
not-both : (a b : ℕ) → nat_lt a b ≡ true → (nat_lt b a || b == a) ≡ true → ⊥
not-both a b h k = by (or_cases (nat_lt b a) (b == a) k)
  where
    by : (nat_lt b a ≡ true) ⊎ ((b == a) ≡ true) → ⊥
    by (inl less) = absurd (omega (arith, ltb-true a b h, ltb-true b a less))
    by (inr same) = absurd (omega (arith, ltb-true a b h, eqb-true b a same))

-- Where one is earlier than another, this other is not up to the one.
not-earlier : (v w : Who) → is_earlier v w ≡ true → is_up_to w v ≡ true → ⊥
not-earlier (Session a) (Session b) h k = not-both a b h k
not-earlier (Session a) (Worker b) h k = let never : ⊥ = cc in never
not-earlier (Worker a) (Session b) h k = let never : ⊥ = cc in never
not-earlier (Worker a) (Worker b) h k = not-both a b h k

-- the places about a reply depend on its round and its session or worker alone
abbrev by-these : List Entry → ℕ → Who → Stretch
by-these entries round who = record {
  round_start = count_by (λ (other : Entry). nat_lt other.reply.round round) entries;
  own_start = count_by (λ (other : Entry). nat_lt other.reply.round round || other.reply.round == round && is_earlier other.reply.who who) entries;
  own_end = count_by (λ (other : Entry). nat_lt other.reply.round round || other.reply.round == round && is_up_to other.reply.who who) entries;
  round_end = count_by (λ (other : Entry). nat_le other.reply.round round) entries;
}

-- what is turned around from true is not true
pub no-other : not true ≡ true → ⊥
no-other h = let never : ⊥ = cc in never

-- ---- one that is ahead, and of which the other is among its own

module _ (x y : Entry) where
  -- The two replies are of one round, and to one session or worker.
  abbrev Together : Type 0
  Together = (x.reply.round ≡ y.reply.round) × (x.reply.who ≡ y.reply.who)

  -- A reply that is the other's own is together with it.
  of-own : is_own y x ≡ true → Together
  of-own h =
      let parts = and_parts (x.reply.round == y.reply.round) (is_same x.reply.who y.reply.who) h in
      (eqb-true x.reply.round y.reply.round parts.0, same-is x.reply.who y.reply.who parts.1)

  -- Where one is in front of the other's own, the other is not up to the one's own.
  not-front : is_in_front y x ≡ true → is_up_to_own x y ≡ true → ⊥
  not-front h k = by (or_cases (nat_lt x.reply.round y.reply.round) (x.reply.round == y.reply.round && is_earlier x.reply.who y.reply.who) h)
      (or_cases (nat_lt y.reply.round x.reply.round) (y.reply.round == x.reply.round && is_up_to y.reply.who x.reply.who) k)
    where
      by : (nat_lt x.reply.round y.reply.round ≡ true) ⊎ ((x.reply.round == y.reply.round && is_earlier x.reply.who y.reply.who) ≡ true)
          → (nat_lt y.reply.round x.reply.round ≡ true) ⊎ ((y.reply.round == x.reply.round && is_up_to y.reply.who x.reply.who) ≡ true) → ⊥
      by (inl less) (inl more) = absurd (omega (arith, ltb-true x.reply.round y.reply.round less, ltb-true y.reply.round x.reply.round more))
      by (inl less) (inr same) =
          let e = eqb-true y.reply.round x.reply.round (and_parts (y.reply.round == x.reply.round) (is_up_to y.reply.who x.reply.who) same).0 in
          absurd (omega (arith, ltb-true x.reply.round y.reply.round less, e))
      by (inr same) (inl more) =
          let e = eqb-true x.reply.round y.reply.round (and_parts (x.reply.round == y.reply.round) (is_earlier x.reply.who y.reply.who) same).0 in
          absurd (omega (arith, ltb-true y.reply.round x.reply.round more, e))
      by (inr same) (inr also) =
          not-earlier x.reply.who y.reply.who (and_parts (x.reply.round == y.reply.round) (is_earlier x.reply.who y.reply.who) same).1
          (and_parts (y.reply.round == x.reply.round) (is_up_to y.reply.who x.reply.who) also).1

  -- Where one is ahead of the other, and this is up to its own, they are together.
  together : is_ahead x y ≡ true → is_up_to_own x y ≡ true → Together
  together h k = by (or_cases (is_in_front y x) (is_own y x && nat_lt x.reply.index y.reply.index) h)
    where
      by : (is_in_front y x ≡ true) ⊎ ((is_own y x && nat_lt x.reply.index y.reply.index) ≡ true) → Together
      by (inl front) = absurd (not-front front k)
      by (inr own) = of-own (and_parts (is_own y x) (nat_lt x.reply.index y.reply.index) own).0

  -- Where one is ahead of the other, and not in front of its own, they are together.
  beside : is_ahead x y ≡ true → not (is_in_front y x) ≡ true → Together
  beside h k = by (or_cases (is_in_front y x) (is_own y x && nat_lt x.reply.index y.reply.index) h)
    where
      by : (is_in_front y x ≡ true) ⊎ ((is_own y x && nat_lt x.reply.index y.reply.index) ≡ true) → Together
      by (inl front) = absurd (no-other (subst (λ (b : Bool). not b ≡ true) front k))
      by (inr own) = of-own (and_parts (is_own y x) (nat_lt x.reply.index y.reply.index) own).0

  -- Replies that are together have the same places about them.
  same-stretch : (entries : List Entry) → Together → stretch_of entries x ≡ stretch_of entries y
  same-stretch entries same =
      ap (λ (round : ℕ). by-these entries round x.reply.who) same.0 ∙ ap (λ (who : Who). by-these entries y.reply.round who) same.1

-- ---- among replies that rise

-- What all kept replies pass each of them passes, at its place.
all-kept : (p : Entry → Bool) (xs : List Kept) (j : ℕ) (d : Kept) → j < length xs → list_all p (entries_of xs) ≡ true → p (entry_of (get_or xs j d)) ≡ true
all-kept p [] j d within h = absurd (omega (arith, within))
all-kept p (x ∷ xs) zero d within h = (and_parts (p (entry_of x)) (list_all p (entries_of xs)) h).0
all-kept p (x ∷ xs) (suc j) d within h = all-kept p xs j d (omega (arith, within)) (and_parts (p (entry_of x)) (list_all p (entries_of xs)) h).1

-- what all in front of a place pass, each reply there passes
pub front-kept : (p : Entry → Bool) (xs : List Kept) (n j : ℕ) (d : Kept) → j < n → j < length xs → list_all p (take n (entries_of xs)) ≡ true → p (entry_of (get_or xs j d)) ≡ true
front-kept p [] n j d below within h = absurd (omega (arith, within))
front-kept p (x ∷ xs) zero j d below within h = absurd (omega (arith, below))
front-kept p (x ∷ xs) (suc n) zero d below within h = (and_parts (p (entry_of x)) (list_all p (take n (entries_of xs))) h).0
front-kept p (x ∷ xs) (suc n) (suc j) d below within h =
    front-kept p xs n j d (omega (arith, below)) (omega (arith, within)) (and_parts (p (entry_of x)) (list_all p (take n (entries_of xs))) h).1

-- what all from a place on pass, each reply there passes
pub back-kept : (p : Entry → Bool) (xs : List Kept) (n j : ℕ) (d : Kept) → n ≤ j → j < length xs → list_all p (drop n (entries_of xs)) ≡ true → p (entry_of (get_or xs j d)) ≡ true
back-kept p [] n j d past within h = absurd (omega (arith, within))
back-kept p (x ∷ xs) zero j d past within h = all-kept p (x ∷ xs) j d within h
back-kept p (x ∷ xs) (suc n) zero d past within h = absurd (omega (arith, past))
back-kept p (x ∷ xs) (suc n) (suc j) d past within h = back-kept p xs n j d (omega (arith, past)) (omega (arith, within)) h

-- of replies that rise, each is ahead of all behind it
pub ahead-of : (xs : List Kept) (i j : ℕ) (d : Kept) → Rises (entries_of xs) → i < j → j < length xs → is_ahead (entry_of (get_or xs i d)) (entry_of (get_or xs j d)) ≡ true
ahead-of [] i j d rises less within = absurd (omega (arith, within))
ahead-of (x ∷ xs) zero zero d rises less within = absurd (omega (arith, less))
ahead-of (x ∷ xs) zero (suc j) d rises less within = all-kept (is_ahead (entry_of x)) xs j d (omega (arith, within)) rises.0
ahead-of (x ∷ xs) (suc i) zero d rises less within = absurd (omega (arith, less))
ahead-of (x ∷ xs) (suc i) (suc j) d rises less within = ahead-of xs i j d rises.1 (omega (arith, less)) (omega (arith, within))

-- the places about a reply are those about the one in front of it, where it is among that one's own
pub stretch-behind : (xs : List Kept) (at : ℕ) (d : Kept) → Rises (entries_of xs) → at < length xs → at < own_end (entries_of xs) (entry_of (get_or xs (at - 1) d))
    → stretch_of (entries_of xs) (entry_of (get_or xs (at - 1) d)) ≡ stretch_of (entries_of xs) (entry_of (get_or xs at d))
stretch-behind xs zero d rises within below = refl
stretch-behind xs (suc at) d rises within below =
    let e : suc at - 1 ≡ at = omega arith in
    let x : Entry = entry_of (get_or xs (suc at - 1) d) in
    let y : Entry = entry_of (get_or xs (suc at) d) in
    let ahead : is_ahead x y ≡ true = subst (λ (n : ℕ). is_ahead (entry_of (get_or xs n d)) y ≡ true) (sym e) (ahead-of xs at (suc at) d rises (omega arith) within) in
    let own : is_up_to_own x y ≡ true = front-kept (is_up_to_own x) xs (own_end (entries_of xs) x) (suc at) d below within (parted-front (is_up_to_own x) (entries_of xs) (own-parts x (entries_of xs) rises)) in
    same-stretch x y (entries_of xs) (together x y ahead own)

-- and those about the one behind it, where it is among that one's own
pub stretch-in-front : (xs : List Kept) (at : ℕ) (d : Kept) → Rises (entries_of xs) → at + 1 < length xs → own_start (entries_of xs) (entry_of (get_or xs (at + 1) d)) ≤ at
    → stretch_of (entries_of xs) (entry_of (get_or xs (at + 1) d)) ≡ stretch_of (entries_of xs) (entry_of (get_or xs at d))
stretch-in-front xs at d rises within low =
    let x : Entry = entry_of (get_or xs at d) in
    let y : Entry = entry_of (get_or xs (at + 1) d) in
    let ahead : is_ahead x y ≡ true = ahead-of xs at (at + 1) d rises (omega arith) within in
    let behind : not (is_in_front y x) ≡ true = back-kept (λ e. not (is_in_front y e)) xs (own_start (entries_of xs) y) at d low (omega (arith, within)) (parted-back (is_in_front y) (entries_of xs) (front-parts y (entries_of xs) rises)) in
    sym (same-stretch x y (entries_of xs) (beside x y ahead behind))

-- the places about a reply are known at the next place
pub known-behind : (replies : List Kept) (at : ℕ) (stretch : Stretch) → IsAsked replies at stretch → IsAsked replies (at + 1 - 1) stretch
known-behind replies at stretch asked = subst (λ (n : ℕ). IsAsked replies n stretch) (let e : at ≡ at + 1 - 1 = omega arith in e) asked
