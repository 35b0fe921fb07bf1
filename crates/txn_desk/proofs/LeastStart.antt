-- The least start is the greatest number that is above no start and not above the newest stamp.
use Rattle.std.proofs.Common.{◌≡◌, ℕ, ◌≤◌, List, [], ◌∷◌, Option, None, Some, min, arith, subst, ◌∙◌}
use Rattle.std.specs.Prelude.{All, IfSome, fold, slice_set, slice_index_or}
use Rattle.std.proofs.Math.Nat.{le_antisymm}
use Rattle.std.proofs.lemmas.List.{set-set, set-get_or}
use Rattle.std.proofs.lemmas.List.Elements.{All-nil, All-cons, All-head, All-tail, All-set}
use Rattle.txn_desk.specs.declared.Snapshot.{Snapshot}
use Rattle.txn_desk.specs.Oldest.{open_starts, least_or}

-- a snapshot that is open began at this stamp or later
abbrev pub BeganFrom : ℕ → Option Snapshot → Type 0
BeganFrom low o = IfSome o (λ snapshot. low ≤ snapshot.stamp)

-- the least of a number and the starts is above none of them
fold_below : (a : ℕ) (os : List (Option Snapshot)) →
    (fold min a (open_starts os) ≤ a) × All (BeganFrom (fold min a (open_starts os))) os
fold_below a [] = (omega arith, All-nil (BeganFrom a))
fold_below a (None ∷ os) =
    let m : ℕ = fold min a (open_starts os) in
    ((fold_below a os).0, All-cons (BeganFrom m) None os tt (fold_below a os).1)
fold_below a (Some s ∷ os) =
    let m : ℕ = fold min (min a s.stamp) (open_starts os) in
    let rest : (m ≤ min a s.stamp) × All (BeganFrom m) os = fold_below (min a s.stamp) os in
    let here : m ≤ s.stamp = omega (arith, rest.0) in
    (omega (arith, rest.0), All-cons (BeganFrom m) (Some s) os here rest.1)

-- and no greater number is
fold_above : (low a : ℕ) (os : List (Option Snapshot)) →
    low ≤ a → All (BeganFrom low) os → low ≤ fold min a (open_starts os)
fold_above low a [] first rest = first
fold_above low a (None ∷ os) first rest = fold_above low a os first (All-tail (BeganFrom low) None os rest)
fold_above low a (Some s ∷ os) first rest =
    let here : low ≤ s.stamp = All-head (BeganFrom low) (Some s) os rest in
    fold_above low (min a s.stamp) os (omega arith) (All-tail (BeganFrom low) (Some s) os rest)

-- where no transaction began after the newest stamp, the oldest stamp is above no start and not
-- above the newest
pub least_below : (newest : ℕ) (os : List (Option Snapshot)) →
    All (λ o. IfSome o (λ snapshot. snapshot.stamp ≤ newest)) os →
    (least_or (open_starts os) newest ≤ newest) × All (BeganFrom (least_or (open_starts os) newest)) os
least_below newest [] begun = (omega arith, All-nil (BeganFrom newest))
least_below newest (None ∷ os) begun =
    let rest : (least_or (open_starts os) newest ≤ newest) × All (BeganFrom (least_or (open_starts os) newest)) os =
    least_below newest os (All-tail (λ o. IfSome o (λ snapshot. snapshot.stamp ≤ newest)) None os begun) in
    (rest.0, All-cons (BeganFrom (least_or (open_starts os) newest)) None os tt rest.1)
least_below newest (Some s ∷ os) begun =
    let m : ℕ = fold min s.stamp (open_starts os) in
    let here : s.stamp ≤ newest = All-head (λ o. IfSome o (λ snapshot. snapshot.stamp ≤ newest)) (Some s) os begun in
    let rest : (m ≤ s.stamp) × All (BeganFrom m) os = fold_below s.stamp os in
    (omega (arith, rest.0, here), All-cons (BeganFrom m) (Some s) os rest.0 rest.1)

-- and no greater number is
pub least_above : (low newest : ℕ) (os : List (Option Snapshot)) →
    low ≤ newest → All (BeganFrom low) os → low ≤ least_or (open_starts os) newest
least_above low newest [] first rest = first
least_above low newest (None ∷ os) first rest = least_above low newest os first (All-tail (BeganFrom low) None os rest)
least_above low newest (Some s ∷ os) first rest =
    fold_above low s.stamp os (All-head (BeganFrom low) (Some s) os rest) (All-tail (BeganFrom low) (Some s) os rest)

-- a pass without a transaction that begins one at the newest stamp leaves the oldest stamp
pub least_at_begin : (newest : ℕ) (os : List (Option Snapshot)) (i : ℕ) (s : Snapshot) →
    All (λ o. IfSome o (λ snapshot. snapshot.stamp ≤ newest)) os →
    s.stamp ≡ newest → slice_index_or os i None ≡ None →
    least_or (open_starts (slice_set os i (Some s))) newest ≡ least_or (open_starts os) newest
least_at_begin newest os i s begun is idle =
    let opened : List (Option Snapshot) = slice_set os i (Some s) in
    let m : ℕ = least_or (open_starts os) newest in
    let n : ℕ = least_or (open_starts opened) newest in
    let back : slice_set opened i None ≡ os =
    set-set os i (Some s) None ∙ rw (← idle) (set-get_or os i None) in
    let at_new : s.stamp ≤ newest = omega (arith, is) in
    let old_below : (m ≤ newest) × All (BeganFrom m) os = least_below newest os begun in
    let new_below : (n ≤ newest) × All (BeganFrom n) opened =
    least_below newest opened (All-set (λ o. IfSome o (λ snapshot. snapshot.stamp ≤ newest)) os i (Some s) at_new begun) in
    let m_at_new : m ≤ s.stamp = omega (arith, old_below.0, is) in
    let up : m ≤ n = least_above m newest opened old_below.0 (All-set (BeganFrom m) os i (Some s) m_at_new old_below.1) in
    let all_back : All (BeganFrom n) os =
    subst (λ (xs : List (Option Snapshot)). All (BeganFrom n) xs) back (All-set (BeganFrom n) opened i None tt new_below.1) in
    let down : n ≤ m = least_above n newest os new_below.0 all_back in
    le_antisymm down up

-- where no transaction began after the newest stamp, the oldest stamp is the least of it and the
-- starts
pub fold-least : (newest : ℕ) (os : List (Option Snapshot)) →
    All (λ o. IfSome o (λ snapshot. snapshot.stamp ≤ newest)) os →
    fold min newest (open_starts os) ≡ least_or (open_starts os) newest
fold-least newest os begun =
    let m : ℕ = least_or (open_starts os) newest in
    let n : ℕ = fold min newest (open_starts os) in
    let low : (n ≤ newest) × All (BeganFrom n) os = fold_below newest os in
    let below : (m ≤ newest) × All (BeganFrom m) os = least_below newest os begun in
    le_antisymm (least_above n newest os low.0 low.1) (fold_above m newest os below.0 below.1)

-- where a pass ends, and the newest stamp has risen or stayed, the oldest stamp has not fallen
pub least_at_end : (newest later : ℕ) (os : List (Option Snapshot)) (i : ℕ) →
    All (λ o. IfSome o (λ snapshot. snapshot.stamp ≤ newest)) os → newest ≤ later →
    least_or (open_starts os) newest ≤ least_or (open_starts (slice_set os i None)) later
least_at_end newest later os i begun risen =
    let m : ℕ = least_or (open_starts os) newest in
    let below : (m ≤ newest) × All (BeganFrom m) os = least_below newest os begun in
    least_above m later (slice_set os i None) (omega (arith, below.0, risen)) (All-set (BeganFrom m) os i None tt below.1)

-- a risen newest stamp leaves the oldest stamp or raises it
pub least_at_tick : (newest later : ℕ) (os : List (Option Snapshot)) →
    All (λ o. IfSome o (λ snapshot. snapshot.stamp ≤ newest)) os → newest ≤ later →
    least_or (open_starts os) newest ≤ least_or (open_starts os) later
least_at_tick newest later os begun risen =
    let m : ℕ = least_or (open_starts os) newest in
    let below : (m ≤ newest) × All (BeganFrom m) os = least_below newest os begun in
    least_above m later os (omega (arith, below.0, risen)) below.1
