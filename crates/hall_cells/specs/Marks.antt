-- Marks: the part 0 is the session whose transaction is open, 0 where none is. Each other part is a
-- number that only grows.
use Rattle.std.specs.Prelude.{◌≡◌, ℕ, zero, suc, ◌+◌, ◌<◌, ◌≤◌, ◌^◌, ◌==◌, ◌++◌, Bool, true, false}
use Rattle.std.specs.Prelude.{cond, List, Option, None, Some, length, slice_index, slice_set}
use Rattle.hall_cells.specs.declared.deed.Deed.{Deed}
use Rattle.hall_cells.specs.declared.deed.Deed.TheVariants.{Begin, End, Raise}
use Rattle.hall_cells.specs.declared.deed.Least.{Least}
use Rattle.hall_rule.specs.EventLog.{has}
use Rattle.hall_rule.specs.Hands.{Holds}
use Rattle.hall_rule.specs.Meaning.{Meaning}
use Rattle.hall_rule.specs.declared.view.View.{View}

abbrev pub touches_part : ℕ → Deed → List (Option ℕ) → ℕ → Bool
touches_part sh (Begin q) hand k = k == 0
touches_part sh (End q) hand k = k == 0
touches_part sh (Raise q p by) hand k = k == p

abbrev pub session_of : Deed → Option ℕ
session_of (Begin q) = Some q
session_of (End q) = Some q
session_of (Raise zero p by) = None
session_of (Raise (suc q) p by) = Some (suc q)

-- A session raises a mark, and ends its transaction, only while that is open. The session 0 is
-- none.
abbrev pub Stands : ℕ → Deed → List ℕ → Type 0
Stands sh (Begin q) s = Unit {0}
Stands sh (End zero) s = ⊥
Stands sh (End (suc q)) s = slice_index s 0 ≡ suc q
Stands sh (Raise zero p by) s = Unit {0}
Stands sh (Raise (suc q) p by) s = slice_index s 0 ≡ suc q

abbrev pub Fits : ℕ → Deed → List ℕ → Type 0
Fits sh (Begin q) s = (0 < sh) × (slice_index s 0 ≡ 0) × (0 < q)
Fits sh (End q) s = 0 < sh
Fits sh (Raise q p by) s = (0 < p) × (p < sh) × (slice_index s p + by < 2 ^ 64)

abbrev pub after_deed : ℕ → Deed → List ℕ → List ℕ
after_deed sh (Begin q) s = slice_set s 0 q
after_deed sh (End q) s = slice_set s 0 0
after_deed sh (Raise q p by) s = slice_set s p (slice_index s p + by)

abbrev pub reply_of : ℕ → Deed → List ℕ → ℕ
reply_of sh (Begin q) s = 0
reply_of sh (End q) s = 0
reply_of sh (Raise q p by) s = slice_index s p

-- The transaction of a session: the session, where it has one.
abbrev pub open_of : ℕ → List ℕ → ℕ → Option ℕ
open_of sh s zero = None
open_of sh s (suc q) = cond (slice_index s 0 == suc q) (Some (suc q)) None

abbrev pub IsLeast : ℕ → Least → List ℕ → Type 0
IsLeast sh f s = (0 < f.part) × (f.least ≤ slice_index s f.part)

abbrev pub Teaches : ℕ → Deed → ℕ → Least → Type 0
Teaches sh (Begin q) reply f = ⊥
Teaches sh (End q) reply f = ⊥
Teaches sh (Raise q p by) reply f = (f.part ≡ p) × (f.least ≤ reply + by)

-- No transaction is open.
pub record IsOpening (sh : ℕ) (s : List ℕ) : Type 0 where
  pub parts : length s ≡ sh
  pub idle : slice_index s 0 ≡ 0

-- What marks mean to a hall: so many parts, with these numbers at the start.
abbrev pub meaning_of : ℕ → List ℕ → ℕ → Meaning ℕ Deed ℕ Least
meaning_of parts start passes = record {
  start = start;
  sound = λ s. length s ≡ parts;
  touching = touches_part parts;
  names = session_of;
  stands = Stands parts;
  fits = Fits parts;
  effect = after_deed parts;
  takes_memory = λ deed. false;
  transaction = open_of parts;
  fact = IsLeast parts;
  head = λ mark. 0;
  thaws = λ deed. None;
  turning = λ deed. false;
  passes = passes;
}

-- No part is in the hand.
pub record IsEmpty (hand : List (Option ℕ)) : Type 0 where
  pub none : (k : ℕ) → ¬ Holds hand k

-- The part k alone was taken since.
pub record TookOnly (k : ℕ) (v w : View Deed) : Type 0 where
  pub parts : List ℕ
  pub taken : w.taken ≡ v.taken ++ parts
  pub only : (i : ℕ) → has i parts ≡ true → i ≡ k
