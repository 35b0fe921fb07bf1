-- What a disk in memory holds, what a crash may leave of it, and why it is a disk.
use Rattle.std.specs.Prelude.{◌≡◌, ◌⊎◌, ℕ, ◌≤◌, List, [], ◌∷◌, zero, suc, length, drop, unwrap_or}
use Rattle.std.specs.Prelude.{Option, Some}
use Rattle.std.proofs.Common.{inl, inr, sym, ap, subst}
use Rattle.std.proofs.lemmas.List.{length-drop}
use Rattle.std.proofs.Math.Nat.{le_trans, not-suc-le_self, sub-le}
use Rattle.byte_ports.specs.FaultPlan.{Plan}
use Rattle.disk_ports.specs.FileSteps.{Tears}
use Rattle.disk_ports.specs.declared.memory.Call.{Call}
use Rattle.disk_ports.specs.declared.memory.Call.TheVariants as call

-- a call, by what it does to what a crash may leave
pub data Step : Type 0 where
  Asked : Step
  Wrote : ℕ → List ℕ → Step
  Synced : List ℕ → Step

abbrev pub step_of : Call → Step
step_of call.Asked = Asked
step_of (call.Wrote at piece) = Wrote at piece.items
step_of (call.Synced bytes) = Synced bytes.items

-- the first bytes, the bytes now, the calls, the newest first, the names of the starts, and the
-- plan of the faults
pub record Held : Type 0 where
  pub first : List ℕ
  pub bytes : List ℕ
  pub past : List Step
  pub started : List (List ℕ)
  pub plan : Plan

-- What a crash may leave behind these calls: each range that was written since the last sync, and
-- what stands past the end, may hold any bytes.
abbrev pub outcomes : List ℕ → List Step → List ℕ → Type 0
outcomes first [] c = c ≡ first
outcomes first (Asked ∷ past) c = outcomes first past c
outcomes first (Wrote at piece ∷ past) c =
    (d : List ℕ) × outcomes first past d × Tears at (length piece) d c
outcomes first (Synced bytes ∷ past) c = c ≡ bytes

abbrev pub may_hold : Held → List ℕ → Type 0
may_hold held c = (c ≡ held.bytes) ⊎ outcomes held.first held.past c

-- What a crash may have left at one of the moments from t on: before the last calls, so many.
pub record HeldAt (held : Held) (t : ℕ) (c : List ℕ) : Type 0 where
  pub back : ℕ
  pub from : t ≤ length (drop back held.past)
  pub left : outcomes held.first (drop back held.past) c

abbrev pub held_since : Held → ℕ → List ℕ → Type 0
held_since held t c = (c ≡ held.bytes) ⊎ HeldAt held t c

-- ---- how calls go on

-- one call more, by which the bytes may have changed
pub record Goes (step : Step) (old new : Held) : Type 0 where
  pub first : new.first ≡ old.first
  pub past : new.past ≡ step ∷ old.past
  pub was : outcomes old.first old.past old.bytes

-- no call that a crash could tell from none
pub record Waits (old new : Held) : Type 0 where
  pub first : new.first ≡ old.first
  pub bytes : new.bytes ≡ old.bytes
  pub past : new.past ≡ old.past

-- ---- why it is a disk

pub stays : (held : Held) (file : List ℕ) → Some held.bytes ≡ Some file → may_hold held file
stays held file is = inl (sym (ap (λ (o : Option (List ℕ)). unwrap_or o []) is))

pub since_earlier : (held : Held) (t u : ℕ) (c : List ℕ) → t ≤ u → held_since held u c
    → held_since held t c
since_earlier held t u c le (inl now) = inl now
since_earlier held t u c le (inr left) =
    inr (record { back = left.back; from = le_trans le left.from; left = left.left })

pub at_now : (held : Held) (t : ℕ) (c : List ℕ) → t ≤ length held.past → may_hold held c
    → held_since held t c
at_now held t c le (inl now) = inl now
at_now held t c le (inr left) = inr (record { back = zero; from = le; left = left })

drop_le : (n : ℕ) (past : List Step) → length (drop n past) ≤ length past
drop_le n past = subst (λ k. k ≤ length past) (sym (length-drop n past)) (sub-le (length past) n)

last_one : (first : List ℕ) (past : List Step) (c : List ℕ) (back : ℕ)
    → length past ≤ length (drop back past) → outcomes first (drop back past) c
    → outcomes first past c
last_one first past c zero le left = left
last_one first [] c (suc back) le left = left
last_one first (step ∷ past) c (suc back) le left =
    absurd (not-suc-le_self (length past) (le_trans le (drop_le back past)))

pub now_only : (held : Held) (c : List ℕ) → held_since held (length held.past) c → may_hold held c
now_only held c (inl now) = inl now
now_only held c (inr left) =
    inr (last_one held.first held.past c left.back left.from left.left)
