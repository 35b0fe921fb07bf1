-- What a hand tells of the parts that it has.
use Rattle.std.proofs.Common.{◌≡◌, ℕ, zero, suc, ◌<◌, Bool, true, false, cond, ◌&&◌, ◌==◌, List, [], ◌∷◌, Option, Some, length, refl, sym, ap, ◌∙◌, arith}
use mathlib.Core.Logic.{inl, inr}
use Rattle.std.specs.Prelude.{slice_get}
use Rattle.std.specs.List.{list_any}
use Rattle.std.proofs.lemmas.Bool.{or_parts, or_left, or_right}
use Rattle.block_layout.specs.Place.{block_of}
use Rattle.core_laws.proofs.Events.Slots.{num_refl}
use Rattle.core_laws.proofs.Events.States.{name_is}
use Rattle.event_spec.specs.Effects.{CoreEvent}
use Rattle.event_spec.specs.Lawful.{Among}
use Rattle.event_spec.specs.Parts.{CorePart, Parts, Shape, Name, HeadOf, ShardOf, BodyOf, TheDesk, same_name, names, part_named, held_named}
use Rattle.event_spec.specs.Touched.{touched, touching, passes_test}
use Rattle.hall_rule.specs.Hands.{Agrees, Covers, Holds}

-- no test both holds and fails
pub true_false : true ≡ false → ⊥
true_false e = cc

-- a name is its own
pub name_self : (n : Name) → same_name n n ≡ true
name_self (HeadOf t) = num_refl t
name_self (ShardOf t i) = ap (λ b. b && (i == i)) (num_refl t) ∙ num_refl i
name_self (BodyOf t b) = ap (λ x. x && (b == b)) (num_refl t) ∙ num_refl b
name_self TheDesk = refl

-- ---- tests of lists

-- a member that passes makes some pass
pub any_true : {X : Type 0} (test : X → Bool) (xs : List X) (x : X) → Among x xs → test x ≡ true → list_any test xs ≡ true
any_true test [] x a is = absurd a
any_true test (y ∷ xs) x (inl e) is = or_left (test y) (list_any test xs) (ap test (sym e) ∙ is)
any_true test (y ∷ xs) x (inr a) is = or_right (test y) (list_any test xs) (any_true test xs x a is)

-- where none passes a member fails
pub any_false : {X : Type 0} (test : X → Bool) (xs : List X) (x : X) → list_any test xs ≡ false → Among x xs → test x ≡ false
any_false test [] x none a = absurd a
any_false test (y ∷ xs) x none (inl e) = ap test e ∙ (or_parts (test y) (list_any test xs) none).0
any_false test (y ∷ xs) x none (inr a) = any_false test xs x (or_parts (test y) (list_any test xs) none).1 a

-- a place's block is one of the places' blocks
pub block_among : (ps : List ℕ) (p : ℕ) → Among p ps → list_any (λ place. block_of place == block_of p) ps ≡ true
block_among ps p a = any_true (λ place. block_of place == block_of p) ps p a (num_refl (block_of p))

-- what stands at a place is a member
pub got_among : {X : Type 0} (xs : List X) (k : ℕ) (x : X) → slice_get xs k ≡ Some x → Among x xs
got_among [] k x is = cc
got_among (y ∷ xs) zero x is = inl (some_is y x is)
  where
    some_is : {X : Type 0} (a b : X) → Some a ≡ Some b → b ≡ a
    some_is a b e = cc
got_among (y ∷ xs) (suc k) x is = inr (got_among xs k x is)

-- a place where something stands is within
pub within : {X : Type 0} (xs : List X) (k : ℕ) (x : X) → slice_get xs k ≡ Some x → k < length xs
within [] k x is = cc
within (y ∷ xs) zero x is = omega arith
within (y ∷ xs) (suc k) x is = let rest = within xs k x is in omega (arith, rest)

-- ---- a part that is held

-- a part that each hand with these parts holds is in the hand as it is in the state
look_same : (ns : List Name) (hand : List (Option CorePart)) (s : Parts) (w : Name)
    → length hand ≡ length s → ((k : ℕ) (p : CorePart) → slice_get hand k ≡ Some (Some p) → slice_get s k ≡ Some p)
    → ((k : ℕ) (n : Name) → slice_get ns k ≡ Some n → same_name n w ≡ true → k < length hand → Holds hand k) → held_named ns hand w ≡ part_named ns s w
look_same [] hand s w len agrees holds = refl
look_same (n ∷ ns) [] [] w len agrees holds = refl
look_same (n ∷ ns) [] (p ∷ s) w len agrees holds = let l : 0 ≡ suc (length s) = len in absurd (omega (arith, l))
look_same (n ∷ ns) (o ∷ hand) [] w len agrees holds = let l : suc (length hand) ≡ 0 = len in absurd (omega (arith, l))
look_same (n ∷ ns) (o ∷ hand) (p ∷ s) w len agrees holds =
    go (same_name n w) refl (look_same ns hand s w (let l : suc (length hand) ≡ suc (length s) = len in omega (arith, l)) (λ k. agrees (suc k)) (λ k x is t lt. holds (suc k) x is t (omega (arith, lt))))
  where
    go : (b : Bool) → same_name n w ≡ b → held_named ns hand w ≡ part_named ns s w → held_named (n ∷ ns) (o ∷ hand) w ≡ part_named (n ∷ ns) (p ∷ s) w
    go true is rest =
        let h = holds 0 n refl is (omega arith) in
        ap (λ b. cond b o (held_named ns hand w)) is ∙ first o h.0 h.1 (agrees 0 h.0 h.1) ∙ ap (λ b. cond b (Some p) (part_named ns s w)) (sym is)
      where
        first : (o : Option CorePart) (x : CorePart) → Some o ≡ Some (Some x) → Some p ≡ Some x → o ≡ Some p
        first o x a b = cc
    go false is rest =
        ap (λ b. cond b o (held_named ns hand w)) is ∙ rest ∙ ap (λ b. cond b (Some p) (part_named ns s w)) (sym is)

-- what a hand has of an event, by name
abbrev pub touches : Shape → CoreEvent → List (Option CorePart) → Name → Bool
touches sh e hand = touched sh (held_named (names sh) hand) e

-- a part that the event touches
pub look : (sh : Shape) (e : CoreEvent) (hand : List (Option CorePart)) (s : Parts) (w : Name) → Covers (touching sh e) hand → Agrees hand s
    → touches sh e hand w ≡ true → held_named (names sh) hand w ≡ part_named (names sh) s w
look sh e hand s w covers agrees is = look_same (names sh) hand s w agrees.0 agrees.1 (λ k n at same less.
    covers k less (ap (passes_test (touches sh e hand)) at ∙ ap (touches sh e hand) (name_is n w same) ∙ is))

-- a name that the event does not touch is none that it touches
pub untouched : (sh : Shape) (e : CoreEvent) (hand : List (Option CorePart)) (w n : Name) → touches sh e hand n ≡ false → touches sh e hand w ≡ true → same_name w n ≡ false
untouched sh e hand w n away is = go (same_name w n) refl
  where
    go : (b : Bool) → same_name w n ≡ b → b ≡ false
    go true same = absurd (true_false (sym is ∙ ap (touches sh e hand) (name_is w n same) ∙ away))
    go false same = refl
