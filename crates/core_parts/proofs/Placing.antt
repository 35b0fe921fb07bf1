-- Parts by name and by number, in a hand and in a state.
use Rattle.std.proofs.Common.{◌≡◌, ℕ, zero, suc, ◌<◌, Bool, true, false, cond, List, [], ◌∷◌, Option, Some, length, set, refl, sym, ap, ◌∙◌, arith}
use mathlib.Core.Logic.{inl, inr}
use Rattle.std.specs.Prelude.{slice_get}
use Rattle.core_parts.specs.Hands.{Held, in_hand, laid_at}
use Rattle.core_laws.proofs.Events.States.{name_is}
use Rattle.event_spec.specs.Lawful.{Among}
use Rattle.event_spec.specs.Parts.{CorePart, Parts, Shape, Name, same_name, names, part_named, held_named}
use Rattle.core_laws.proofs.Frames.Distinct.{stands_once}
use Rattle.core_laws.proofs.Frames.Looks.{got_among, name_self, true_false, within}
use Rattle.hall_rule.specs.Hands.{Agrees}

-- ---- no name stands twice

-- each of the names stands in one place alone
abbrev pub NamedOnce : List Name → Type 0
NamedOnce ns = (j k : ℕ) (n : Name) → slice_get ns j ≡ Some n → slice_get ns k ≡ Some n → j ≡ k

-- a shape's names do
pub named_once : (sh : Shape) → NamedOnce (names sh)
named_once sh j k n a b = stands_once sh j k n a b

-- Where each name stands once, each of those behind the first does.
once_tail : (n : Name) (ns : List Name) → NamedOnce (n ∷ ns) → NamedOnce ns
once_tail n ns once j k m a b = let e = once (suc j) (suc k) m a b in omega (arith, e)

-- the name of a list's head is not in its tail
pub once_head : (n : Name) (ns : List Name) → NamedOnce (n ∷ ns) → (w : Name) → Among w ns → same_name w n ≡ false
once_head n ns once w a = go (same_name w n) refl (number w ns a)
  where
    number : (w : Name) (ns : List Name) → Among w ns → (k : ℕ) × (slice_get ns k ≡ Some w)
    number w [] a = absurd a
    number w (m ∷ ns) (inl e) = (0, ap Some (sym e))
    number w (m ∷ ns) (inr a) = let r = number w ns a in (suc r.0, r.1)

    go : (b : Bool) → same_name w n ≡ b → (k : ℕ) × (slice_get ns k ≡ Some w) → same_name w n ≡ false
    go true e at = let z = once 0 (suc at.0) n refl (at.1 ∙ ap Some (name_is w n e)) in absurd (omega (arith, z))
    go false e at = e

-- ---- a hand by names

-- a part in a hand that agrees with a state is the state's
pub in_state : (ns : List Name) (hand : Held) (s : Parts) (w : Name) (piece : CorePart) → Agrees hand s → held_named ns hand w ≡ Some piece → part_named ns s w ≡ Some piece
in_state [] hand s w piece agrees is = cc
in_state (n ∷ ns) [] s w piece agrees is = cc
in_state (n ∷ ns) (o ∷ hand) [] w piece agrees is = let l : suc (length hand) ≡ 0 = agrees.0 in absurd (omega (arith, l))
in_state (n ∷ ns) (o ∷ hand) (p ∷ s) w piece agrees is =
    go (same_name n w) refl is (in_state ns hand s w piece (let l : suc (length hand) ≡ suc (length s) = agrees.0 in omega (arith, l), λ k. agrees.1 (suc k)))
  where
    some_is : (x y : CorePart) → Some x ≡ Some y → x ≡ y
    some_is x y e = cc

    go : (b : Bool) → same_name n w ≡ b → cond (same_name n w) o (held_named ns hand w) ≡ Some piece → (held_named ns hand w ≡ Some piece → part_named ns s w ≡ Some piece)
        → cond (same_name n w) (Some p) (part_named ns s w) ≡ Some piece
    go true e at rest =
        let here : o ≡ Some piece = ap (λ b. cond b o (held_named ns hand w)) (sym e) ∙ at in
        ap (λ b. cond b (Some p) (part_named ns s w)) e ∙ agrees.1 0 piece (ap Some here)
    go false e at rest =
        ap (λ b. cond b (Some p) (part_named ns s w)) e ∙ rest (ap (λ b. cond b o (held_named ns hand w)) (sym e) ∙ at)

-- a part in a hand has one of its names
pub held_among : (ns : List Name) (hand : Held) (w : Name) (piece : CorePart) → held_named ns hand w ≡ Some piece → Among w ns
held_among [] hand w piece is = cc
held_among (n ∷ ns) [] w piece is = cc
held_among (n ∷ ns) (o ∷ hand) w piece is = go (same_name n w) refl is (held_among ns hand w piece)
  where
    go : (b : Bool) → same_name n w ≡ b → cond (same_name n w) o (held_named ns hand w) ≡ Some piece → (held_named ns hand w ≡ Some piece → Among w ns) → Among w (n ∷ ns)
    go true e at rest = inl (sym (name_is n w e))
    go false e at rest = inr (rest (ap (λ b. cond b o (held_named ns hand w)) (sym e) ∙ at))

-- ---- a hand by numbers

-- what lies at a name's number
pub held_at : (ns : List Name) (hand : Held) (w : Name) (k : ℕ) (o : Option CorePart) → NamedOnce ns → slice_get ns k ≡ Some w → slice_get hand k ≡ Some o → held_named ns hand w ≡ o
held_at [] hand w k o once is at = cc
held_at (n ∷ ns) [] w k o once is at = cc
held_at (n ∷ ns) (p ∷ hand) w zero o once is at =
    let same : n ≡ w = cc in let here : p ≡ o = cc in
    ap (λ b. cond b p (held_named ns hand w)) (ap (λ x. same_name x w) same ∙ name_self w) ∙ here
held_at (n ∷ ns) (p ∷ hand) w (suc k) o once is at =
    ap (λ b. cond b p (held_named ns hand w)) (flip (once_head n ns once w (got_among ns k w is))) ∙ held_at ns hand w k o (once_tail n ns once) is at
  where
    flip : same_name w n ≡ false → same_name n w ≡ false
    flip e = go (same_name n w) refl
      where
        go : (b : Bool) → same_name n w ≡ b → b ≡ false
        go true x = absurd (true_false (sym (ap (λ y. same_name w y) (name_is n w x) ∙ name_self w) ∙ e))
        go false x = refl

-- the number of a name that is in a hand has a place
pub held_within : (ns : List Name) (hand : Held) (w : Name) (k : ℕ) (piece : CorePart) → NamedOnce ns → slice_get ns k ≡ Some w → held_named ns hand w ≡ Some piece → k < length hand
held_within [] hand w k piece once is at = cc
held_within (n ∷ ns) [] w k piece once is at = cc
held_within (n ∷ ns) (p ∷ hand) w zero piece once is at = omega arith
held_within (n ∷ ns) (p ∷ hand) w (suc k) piece once is at = go (same_name n w) refl at (held_within ns hand w k piece (once_tail n ns once) is)
  where
    go : (b : Bool) → same_name n w ≡ b → cond (same_name n w) p (held_named ns hand w) ≡ Some piece → (held_named ns hand w ≡ Some piece → k < length hand) → suc k < suc (length hand)
    go true e x rest = let z = once 0 (suc k) n refl (is ∙ ap Some (sym (name_is n w e))) in absurd (omega (arith, z))
    go false e x rest = let r = rest (ap (λ b. cond b p (held_named ns hand w)) (sym e) ∙ x) in omega (arith, r)

-- what is laid at a name's number is laid at the name
pub laid_is : (ns : List Name) (hand : Held) (w : Name) (k : ℕ) (new : Option CorePart) → NamedOnce ns → slice_get ns k ≡ Some w → set hand k new ≡ laid_at ns w new hand
laid_is [] hand w k new once is = cc
laid_is (n ∷ ns) [] w k new once is = refl
laid_is (n ∷ ns) (p ∷ hand) w zero new once is =
    let same : n ≡ w = cc in
    sym (ap (λ b. cond b (new ∷ hand) (p ∷ laid_at ns w new hand)) (ap (λ x. same_name x w) same ∙ name_self w))
laid_is (n ∷ ns) (p ∷ hand) w (suc k) new once is = go (same_name n w) refl (laid_is ns hand w k new (once_tail n ns once) is)
  where
    go : (b : Bool) → same_name n w ≡ b → set hand k new ≡ laid_at ns w new hand → p ∷ set hand k new ≡ cond (same_name n w) (new ∷ hand) (p ∷ laid_at ns w new hand)
    go true e rest = let z = once 0 (suc k) n refl (is ∙ ap Some (sym (name_is n w e))) in absurd (omega (arith, z))
    go false e rest = ap (λ h. p ∷ h) rest ∙ sym (ap (λ b. cond b (new ∷ hand) (p ∷ laid_at ns w new hand)) e)

-- ---- laid twice

-- what is laid at a name again stands for what was laid before
pub laid_twice : (ns : List Name) (hand : Held) (w : Name) (one new : Option CorePart) → laid_at ns w new (laid_at ns w one hand) ≡ laid_at ns w new hand
laid_twice [] hand w one new = refl
laid_twice (n ∷ ns) [] w one new = refl
laid_twice (n ∷ ns) (p ∷ hand) w one new = go (same_name n w) refl (laid_twice ns hand w one new)
  where
    go : (b : Bool) → same_name n w ≡ b → laid_at ns w new (laid_at ns w one hand) ≡ laid_at ns w new hand
        → laid_at (n ∷ ns) w new (cond (same_name n w) (one ∷ hand) (p ∷ laid_at ns w one hand)) ≡ cond (same_name n w) (new ∷ hand) (p ∷ laid_at ns w new hand)
    go true e rest =
        ap (λ b. laid_at (n ∷ ns) w new (cond b (one ∷ hand) (p ∷ laid_at ns w one hand))) e
        ∙ ap (λ b. cond b (new ∷ hand) (one ∷ laid_at ns w new hand)) e ∙ sym (ap (λ b. cond b (new ∷ hand) (p ∷ laid_at ns w new hand)) e)
    go false e rest =
        ap (λ b. laid_at (n ∷ ns) w new (cond b (one ∷ hand) (p ∷ laid_at ns w one hand))) e
        ∙ ap (λ b. cond b (new ∷ laid_at ns w one hand) (p ∷ laid_at ns w new (laid_at ns w one hand))) e
        ∙ ap (λ h. p ∷ h) rest ∙ sym (ap (λ b. cond b (new ∷ hand) (p ∷ laid_at ns w new hand)) e)

-- laying a part keeps how many places there are
pub length-laid : (ns : List Name) (hand : Held) (w : Name) (new : Option CorePart) → length (laid_at ns w new hand) ≡ length hand
length-laid [] hand w new = refl
length-laid (n ∷ ns) [] w new = refl
length-laid (n ∷ ns) (p ∷ hand) w new = go (same_name n w) (length-laid ns hand w new)
  where
    go : (b : Bool) → length (laid_at ns w new hand) ≡ length hand → length (cond b (new ∷ hand) (p ∷ laid_at ns w new hand)) ≡ suc (length hand)
    go true rest = refl
    go false rest = ap suc rest

-- ---- other names stay

-- laying a part leaves the parts of other names
pub laid_other : (ns : List Name) (hand : Held) (w other : Name) (new : Option CorePart) → same_name w other ≡ false → held_named ns (laid_at ns w new hand) other ≡ held_named ns hand other
laid_other [] hand w other new apart = refl
laid_other (n ∷ ns) [] w other new apart = refl
laid_other (n ∷ ns) (p ∷ hand) w other new apart = go (same_name n w) refl (laid_other ns hand w other new apart)
  where
    go : (b : Bool) → same_name n w ≡ b → held_named ns (laid_at ns w new hand) other ≡ held_named ns hand other
        → held_named (n ∷ ns) (cond (same_name n w) (new ∷ hand) (p ∷ laid_at ns w new hand)) other ≡ cond (same_name n other) p (held_named ns hand other)
    go true e rest =
        ap (λ b. held_named (n ∷ ns) (cond b (new ∷ hand) (p ∷ laid_at ns w new hand)) other) e
        ∙ ap (λ b. cond b new (held_named ns hand other)) (ap (λ x. same_name x other) (name_is n w e) ∙ apart)
        ∙ sym (ap (λ b. cond b p (held_named ns hand other)) (ap (λ x. same_name x other) (name_is n w e) ∙ apart))
    go false e rest =
        ap (λ b. held_named (n ∷ ns) (cond b (new ∷ hand) (p ∷ laid_at ns w new hand)) other) e
        ∙ ap (λ h. cond (same_name n other) p h) rest

-- ---- one name of a shape

-- A list has an element at each place within its length.
there : {X : Type 0} (xs : List X) (k : ℕ) → k < length xs → (x : X) × (slice_get xs k ≡ Some x)
there [] k less = absurd (omega (arith, less))
there (x ∷ xs) zero less = (x, refl)
there (x ∷ xs) (suc k) less = there xs k (omega (arith, less))

-- a part that is in the hand lies at its number
pub lies : (sh : Shape) (hand : Held) (w : Name) (k : ℕ) (p : CorePart) → slice_get (names sh) k ≡ Some w → in_hand sh hand w ≡ Some p → slice_get hand k ≡ Some (Some p)
lies sh hand w k p at is =
    let o = there hand k (held_within (names sh) hand w k p (named_once sh) at is) in
    o.1 ∙ ap Some (sym (held_at (names sh) hand w k o.0 (named_once sh) at o.1) ∙ is)

-- what lies at a name's number is the part of the name
pub found_there : (sh : Shape) (hand : Held) (w : Name) (k : ℕ) (p : CorePart) → slice_get (names sh) k ≡ Some w → slice_get hand k ≡ Some (Some p) → in_hand sh hand w ≡ Some p
found_there sh hand w k p at is = held_at (names sh) hand w k (Some p) (named_once sh) at is

-- what lies in a place is one part
pub two_same : (o : Option (Option CorePart)) (p q : CorePart) → o ≡ Some (Some p) → o ≡ Some (Some q) → p ≡ q
two_same o p q a b = cc

-- a name's number is below their count
pub number_less : (sh : Shape) (w : Name) (k : ℕ) → slice_get (names sh) k ≡ Some w → k < length (names sh)
number_less sh w k at = within (names sh) k w at
