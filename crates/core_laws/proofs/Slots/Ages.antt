-- What each change keeps of the age of two slots, and how the places of a list stand.
use Rattle.std.proofs.Common.{◌≡◌, ◌⊎◌, ℕ, ◌+◌, ◌≤◌, Bool, true, false, not, cond, ◌||◌, List, [], ◌∷◌, ◌++◌, Option, None, Some, map, is_some, refl, sym, ap, ◌∙◌, subst, arith}
use mathlib.Core.Logic.{inl, inr}
use Rattle.std.specs.Prelude.{All, IfSome, filter}
use Rattle.std.proofs.lemmas.List.Elements.{All-head, All-tail, All-cons, All-nil, All-weaker, All-filter}
use Rattle.undo_chain.specs.declared.undo.Undo.{Undo}
use Rattle.undo_chain.specs.Entry.{is_own, is_stamped_by}
use Rattle.undo_chain.specs.Lawful.{IsLawful, NoneStampedAbove, IsStampedUpTo}
use Rattle.undo_chain.specs.Stamped.{stamped}
use Rattle.block_spec.specs.Slots.{Slot, Row, bare, written, committed, rolled_back, pruned, writer_of}
use Rattle.block_spec.specs.declared.change.Before.{Before}
use Rattle.block_spec.specs.declared.change.Change.{Change}
use Rattle.event_spec.specs.SlotSound.{IsSoundSlot}
use Rattle.event_spec.specs.Lawful.{Among}
use Rattle.event_spec.specs.Follows.{IsOlder, StandsBefore, is_current}
use Rattle.core_laws.proofs.Slots.Endings.{committed_other, rolled_back_other}
use Rattle.core_laws.proofs.Slots.Prunings.{pruned_writer}

-- no stamp of a slot is above an entry's
abbrev Covers : Slot → Undo Before → Type 0
Covers one undo = IfSome undo.stamp (NoneStampedAbove one.entries)

-- True and false are never the same.
true_false : true ≡ false → ⊥
true_false e = cc

-- ---- what is not current

-- where neither holds, the first does not
neither : (a b : Bool) → (a || b) ≡ false → (a ≡ false) × (b ≡ false)
neither true b is = absurd (true_false is)
neither false b is = (refl, is)

-- what is not there is none
none_of : {X : Type 0} (o : Option X) → is_some o ≡ false → o ≡ None
none_of None is = refl
none_of (Some x) is = absurd (true_false is)

-- a slot that is not current has no row
pub no_row : (slot : Slot) → is_current slot ≡ false → slot.row ≡ None
no_row slot is = none_of slot.row (neither (is_some slot.row) (is_some (writer_of slot.entries)) is).0

-- nor an uncommitted entry
pub no_writer : (slot : Slot) → is_current slot ≡ false → writer_of slot.entries ≡ None
no_writer slot is = none_of (writer_of slot.entries) (neither (is_some slot.row) (is_some (writer_of slot.entries)) is).1

-- so no session is its writer
pub not_writer : (slot : Slot) (q : ℕ) → is_current slot ≡ false → writer_of slot.entries ≡ Some q → ⊥
not_writer slot q is w = let never : None ≡ Some q = sym (no_writer slot is) ∙ w in cc

-- ---- the age of two slots

-- a slot that is not current is older than a bare one
pub older_bare : (one other : Slot) → is_current one ≡ false → other ≡ bare → IsOlder one other
older_bare one other old is = record {
  settled = old;
  stamps = subst (λ (s : Slot). All (λ undo. IfSome undo.stamp (NoneStampedAbove one.entries)) s.entries) (sym is) (All-nil (Covers one));
}

-- and than one that is written
pub older_written : (q : ℕ) (change : Change) (one other : Slot) → IsOlder one other → IsOlder one (written q change other)
older_written q change one other old = record {
  settled = old.settled;
  stamps = All-cons (Covers one) _ other.entries tt old.stamps;
}

-- one with a single entry, whose stamp is not below its own
pub older_single : (one : Slot) (row : Option Row) (e : Undo Before) (stamp : ℕ) → e.stamp ≡ Some stamp → is_current one ≡ false → NoneStampedAbove one.entries stamp
    → IsOlder one (record { row = row; entries = e ∷ [] })
older_single one row e stamp is old up = record {
  settled = old;
  stamps = All-cons (Covers one) e [] (subst (λ s. IfSome s (NoneStampedAbove one.entries)) (sym is) up) (All-nil (Covers one));
}

-- no later stamp is below one that is above all
pub above_later : (es : List (Undo Before)) (limit later : ℕ) → limit ≤ later → NoneStampedAbove es limit → NoneStampedAbove es later
above_later es limit later le up = All-weaker (IsStampedUpTo limit) (IsStampedUpTo later) (λ u. more u.stamp) es up
  where
    more : (a : Option ℕ) → IfSome a (λ x. x ≤ limit) → IfSome a (λ x. x ≤ later)
    more None u = tt
    more (Some x) u = omega arith

-- a commit keeps the age of two slots
pub older_committed : (q newest commits : ℕ) (one other : Slot) → IsSoundSlot newest commits one → IsOlder one other
    → IsOlder (committed q (newest + 1) (commits + 1) one) (committed q (newest + 1) (commits + 1) other)
older_committed q newest commits one other ok old =
    subst (λ s. IsOlder s (committed q (newest + 1) (commits + 1) other))
    (sym (committed_other q (newest + 1) (commits + 1) one ok.lawful (not_writer one q old.settled)))
    (record { settled = old.settled; stamps = each other.entries old.stamps })
  where
    step : (u : Undo Before) → Covers one u → Covers one (stamped q (newest + 1) (commits + 1) u)
    step u h = go (is_own u q)
      where
        go : (b : Bool) → IfSome (cond b (Some (newest + 1)) u.stamp) (NoneStampedAbove one.entries)
        go true = above_later one.entries newest (newest + 1) (omega arith) ok.stamps
        go false = h

    each : (es : List (Undo Before)) → All (Covers one) es → All (Covers one) (map (stamped q (newest + 1) (commits + 1)) es)
    each [] all = All-nil (Covers one)
    each (e ∷ es) all = All-cons (Covers one) (stamped q (newest + 1) (commits + 1) e) (map (stamped q (newest + 1) (commits + 1)) es)
        (step e (All-head (Covers one) e es all)) (each es (All-tail (Covers one) e es all))

-- a roll-back keeps it
pub older_rolled : (q newest commits : ℕ) (one other : Slot) → IsSoundSlot newest commits one → IsOlder one other → IsOlder (rolled_back q one) (rolled_back q other)
older_rolled q newest commits one other ok old =
    subst (λ s. IsOlder s (rolled_back q other)) (sym (rolled_back_other q one ok.lawful (not_writer one q old.settled)))
    (record { settled = old.settled; stamps = All-filter (λ undo. not (is_own undo q)) (Covers one) other.entries old.stamps })

-- a pruning of the older one keeps it
pub older_pruned : (o : ℕ) (one other : Slot) → IsLawful one.entries → IsOlder one other → IsOlder (pruned o one) other
older_pruned o one other lawful old = record {
  settled = ap (λ w. is_some one.row || is_some w) (pruned_writer o one.entries lawful) ∙ old.settled;
  stamps = All-weaker (Covers one) (Covers (pruned o one)) (λ u. fewer u.stamp) other.entries old.stamps;
}
  where
    fewer : (a : Option ℕ) → IfSome a (NoneStampedAbove one.entries) → IfSome a (NoneStampedAbove (pruned o one).entries)
    fewer None u = tt
    fewer (Some x) u = All-filter (λ undo. not (is_stamped_by undo o)) (IsStampedUpTo x) one.entries u

-- and one of the other
pub older_than_pruned : (o : ℕ) (one other : Slot) → IsOlder one other → IsOlder one (pruned o other)
older_than_pruned o one other old = record {
  settled = old.settled;
  stamps = All-filter (λ undo. not (is_stamped_by undo o)) (Covers one) other.entries old.stamps;
}

-- ---- how places stand

-- what stands before another is in the list
pub before_among : (a b : ℕ) (ps : List ℕ) → StandsBefore a b ps → Among a ps
before_among a b [] is = absurd is
before_among a b (p ∷ ps) (inl x) = inl x.0
before_among a b (p ∷ ps) (inr x) = inr (before_among a b ps x)

-- and so is the other
pub among_behind : (a b : ℕ) (ps : List ℕ) → StandsBefore a b ps → Among b ps
among_behind a b [] is = absurd is
among_behind a b (p ∷ ps) (inl x) = inr x.1
among_behind a b (p ∷ ps) (inr x) = inr (among_behind a b ps x)

-- behind a place that is put at the end stands none
pub before_push : (a b p : ℕ) (ps : List ℕ) → StandsBefore a b (ps ++ p ∷ []) → StandsBefore a b ps ⊎ (Among a ps × (b ≡ p))
before_push a b p [] (inl x) = absurd x.1
before_push a b p [] (inr x) = absurd x
before_push a b p (y ∷ ps) (inl x) = go (among_end b ps x.1)
  where
    among_end : (r : ℕ) (qs : List ℕ) → Among r (qs ++ p ∷ []) → Among r qs ⊎ (r ≡ p)
    among_end r [] (inl e) = inr e
    among_end r [] (inr e) = absurd e
    among_end r (q ∷ qs) (inl e) = inl (inl e)
    among_end r (q ∷ qs) (inr e) = at (among_end r qs e)
      where
        at : Among r qs ⊎ (r ≡ p) → Among r (q ∷ qs) ⊎ (r ≡ p)
        at (inl z) = inl (inr z)
        at (inr z) = inr z

    go : Among b ps ⊎ (b ≡ p) → StandsBefore a b (y ∷ ps) ⊎ (Among a (y ∷ ps) × (b ≡ p))
    go (inl z) = inl (inl (x.0, z))
    go (inr z) = inr (inl x.0, z)
before_push a b p (y ∷ ps) (inr x) = go (before_push a b p ps x)
  where
    go : StandsBefore a b ps ⊎ (Among a ps × (b ≡ p)) → StandsBefore a b (y ∷ ps) ⊎ (Among a (y ∷ ps) × (b ≡ p))
    go (inl z) = inl (inr z)
    go (inr z) = inr (inr z.0, z.1)

-- what a filter keeps is of the list
kept_among : (keep : ℕ → Bool) (r : ℕ) (ps : List ℕ) → Among r (filter keep ps) → Among r ps
kept_among keep r [] is = absurd is
kept_among keep r (p ∷ ps) is = go (keep p) is (kept_among keep r ps)
  where
    go : (b : Bool) → Among r (cond b (p ∷ filter keep ps) (filter keep ps)) → (Among r (filter keep ps) → Among r ps) → Among r (p ∷ ps)
    go true (inl e) rest = inl e
    go true (inr e) rest = inr (rest e)
    go false e rest = inr (rest e)

-- a filter keeps the order
pub before_filter : (keep : ℕ → Bool) (a b : ℕ) (ps : List ℕ) → StandsBefore a b (filter keep ps) → StandsBefore a b ps
before_filter keep a b [] is = absurd is
before_filter keep a b (p ∷ ps) is = go (keep p) is (before_filter keep a b ps)
  where
    go : (y : Bool) → StandsBefore a b (cond y (p ∷ filter keep ps) (filter keep ps)) → (StandsBefore a b (filter keep ps) → StandsBefore a b ps) → StandsBefore a b (p ∷ ps)
    go true (inl x) rest = inl (x.0, kept_among keep b ps x.1)
    go true (inr x) rest = inr (rest x)
    go false x rest = inr (rest x)
