-- A part taken out of a hand, changed and laid back, and one change after another.
use Rattle.std.proofs.Common.{◌≡◌, ℕ, zero, suc, Bool, true, false, cond, ◌&&◌, ◌==◌, List, [], ◌∷◌, Option, None, Some, option_map, length, refl, sym, ap, ◌∙◌, arith}
use mathlib.Core.Logic.{inl, inr}
use Rattle.std.specs.Prelude.{slice_get}
use Rattle.block_spec.specs.Bodies.{Body}
use Rattle.core_parts.proofs.Placing.{NamedOnce, laid_twice, named_once, once_head}
use Rattle.core_parts.specs.Hands.{Held, after, hand_changed, in_hand, laid, laid_at, place_changed}
use Rattle.core_laws.proofs.Events.ByKind.{nothing_changes}
use Rattle.core_laws.proofs.Events.Slots.{num_refl}
use Rattle.core_laws.proofs.Events.States.{IsTwice, changed_twice, name_is}
use Rattle.event_spec.specs.declared.part.Head.{Head}
use Rattle.event_spec.specs.declared.part.Part.TheVariants as part
use Rattle.event_spec.specs.Effects.{at_both, at_table}
use Rattle.event_spec.specs.Lawful.{Among}
use Rattle.event_spec.specs.Parts.{Changes, CorePart, Parts, Shape, Name, HeadOf, ShardOf, BodyOf, TheDesk, changed, each_changed, held_named, names, nothing, same_name}
use Rattle.core_laws.proofs.Frames.Looks.{true_false}
use Rattle.hall_rule.specs.Hands.{Agrees, Holds, SameRoom}
use Rattle.key_index.specs.Candidates.{Places}
use Rattle.txn_desk.specs.Desk.{DeskState}

-- ---- changes that leave a hand as it is

-- changes that leave each of the named parts leave the hand
pub left_alone : (c : Changes) (ns : List Name) (hand : Held) → ((n : Name) (x : CorePart) → Among n ns → changed c n x ≡ x) → hand_changed c ns hand ≡ hand
left_alone c [] hand same = refl
left_alone c (n ∷ ns) [] same = refl
left_alone c (n ∷ ns) (o ∷ hand) same = ap (λ p. p ∷ hand_changed c ns hand) (place o) ∙ ap (λ h. o ∷ h) (left_alone c ns hand (λ m x a. same m x (inr a)))
  where
    place : (o : Option CorePart) → place_changed c n o ≡ o
    place None = refl
    place (Some x) = ap Some (same n x (inl refl))

-- no change leaves the hand
pub after_nothing : (sh : Shape) (hand : Held) → after sh nothing hand ≡ hand
after_nothing sh hand = left_alone nothing (names sh) hand (λ n x a. nothing_changes n x)

-- ---- a change of one name

-- Changes of one part alone: what the name's part becomes, and that every other stays.
pub record Only (c : Changes) (w : Name) (p q : CorePart) : Type 0 where
  pub here : changed c w p ≡ q
  pub others : (n : Name) (x : CorePart) → same_name n w ≡ false → changed c n x ≡ x

-- A part that is laid changed into the hand is what changes of it alone make.
laid_changed : (c : Changes) (ns : List Name) (hand : Held) (w : Name) (p q : CorePart) → NamedOnce ns → Only c w p q → held_named ns hand w ≡ Some p → laid_at ns w (Some q) hand ≡ hand_changed c ns hand
laid_changed c [] hand w p q once only is = cc
laid_changed c (n ∷ ns) [] w p q once only is = cc
laid_changed c (n ∷ ns) (o ∷ hand) w p q once only is =
    go (same_name n w) refl is (laid_changed c ns hand w p q (λ j k m a b. let e = once (suc j) (suc k) m a b in omega (arith, e)) only)
  where
    place : (o : Option CorePart) → same_name n w ≡ false → place_changed c n o ≡ o
    place None e = refl
    place (Some x) e = ap Some (only.others n x e)

    go : (b : Bool) → same_name n w ≡ b → cond (same_name n w) o (held_named ns hand w) ≡ Some p → (held_named ns hand w ≡ Some p → laid_at ns w (Some q) hand ≡ hand_changed c ns hand)
        → cond (same_name n w) (Some q ∷ hand) (o ∷ laid_at ns w (Some q) hand) ≡ place_changed c n o ∷ hand_changed c ns hand
    go true e at rest =
        let here : o ≡ Some p = ap (λ b. cond b o (held_named ns hand w)) (sym e) ∙ at in
        ap (λ b. cond b (Some q ∷ hand) (o ∷ laid_at ns w (Some q) hand)) e
        ∙ ap (λ x. Some x ∷ hand) (sym only.here)
        ∙ ap (λ x. Some (changed c x p) ∷ hand) (sym (name_is n w e))
        ∙ ap (λ o. place_changed c n o ∷ hand) (sym here)
        ∙ ap (λ h. place_changed c n o ∷ h) (sym (left_alone c ns hand (λ m x a. only.others m x (ap (same_name m) (sym (name_is n w e)) ∙ once_head n ns once m a))))
    go false e at rest =
        ap (λ b. cond b (Some q ∷ hand) (o ∷ laid_at ns w (Some q) hand)) e
        ∙ ap (λ x. x ∷ laid_at ns w (Some q) hand) (sym (place o e))
        ∙ ap (λ h. place_changed c n o ∷ h) (rest (ap (λ b. cond b o (held_named ns hand w)) (sym e) ∙ at))

-- A part is taken out, and laid back changed.
pub laid_back_changed : (sh : Shape) (c : Changes) (hand taken new : Held) (w : Name) (p q : CorePart) → Only c w p q → in_hand sh hand w ≡ Some p
    → taken ≡ laid sh w None hand → new ≡ laid sh w (Some q) taken → new ≡ after sh c hand
laid_back_changed sh c hand taken new w p q only is out back =
    back ∙ ap (laid sh w (Some q)) out ∙ laid_twice (names sh) hand w None (Some q) ∙ laid_changed c (names sh) hand w p q (named_once sh) only is

-- ---- the changes of one part of each kind

-- the change of a table's head alone
abbrev pub head_change : ℕ → (Head → Head) → Changes
head_change t g = record nothing { head = at_table t g }

-- the change of one shard alone
abbrev pub shard_change : ℕ → ℕ → (Places → Places) → Changes
shard_change t i g = record nothing { shard = at_both t i g }

-- the change of a block's body alone
abbrev pub body_change : ℕ → ℕ → (Body → Body) → Changes
body_change t b g = record nothing { body = at_both t b g }

-- the change of the desk alone
abbrev pub desk_change : (DeskState → DeskState) → Changes
desk_change g = record nothing { desk = g }

-- A choice by a test that is false is its second part.
skip : {X : Type 0} (b : Bool) (x y : X) → b ≡ false → cond b x y ≡ y
skip true x y e = cc
skip false x y e = refl

-- a head's change leaves all other parts
pub head_only : (t : ℕ) (g : Head → Head) (x : Head) → Only (head_change t g) (HeadOf t) (part.Head x) (part.Head (g x))
head_only t g x = record { here = ap (λ b. part.Head (cond b (g x) x)) (num_refl t); others = others }
  where
    others : (n : Name) (y : CorePart) → same_name n (HeadOf t) ≡ false → changed (head_change t g) n y ≡ y
    others (HeadOf u) (part.Head y) e = ap part.Head (skip (u == t) (g y) y e)
    others (HeadOf u) (part.Shard y) e = refl
    others (HeadOf u) (part.Body y) e = refl
    others (HeadOf u) (part.Desk y) e = refl
    others (ShardOf u i) y e = nothing_changes (ShardOf u i) y
    others (BodyOf u b) y e = nothing_changes (BodyOf u b) y
    others TheDesk y e = nothing_changes TheDesk y

-- Two numbers are tested to be themselves.
both_refl : (a b : ℕ) → ((a == a) && (b == b)) ≡ true
both_refl a b = ap (λ x. x && (b == b)) (num_refl a) ∙ num_refl b

-- so does a shard's
pub shard_only : (t i : ℕ) (g : Places → Places) (x : Places) → Only (shard_change t i g) (ShardOf t i) (part.Shard x) (part.Shard (g x))
shard_only t i g x = record { here = ap (λ b. part.Shard (cond b (g x) x)) (both_refl t i); others = others }
  where
    others : (n : Name) (y : CorePart) → same_name n (ShardOf t i) ≡ false → changed (shard_change t i g) n y ≡ y
    others (HeadOf u) y e = nothing_changes (HeadOf u) y
    others (ShardOf u j) (part.Head y) e = refl
    others (ShardOf u j) (part.Shard y) e = ap part.Shard (skip ((u == t) && (j == i)) (g y) y e)
    others (ShardOf u j) (part.Body y) e = refl
    others (ShardOf u j) (part.Desk y) e = refl
    others (BodyOf u b) y e = nothing_changes (BodyOf u b) y
    others TheDesk y e = nothing_changes TheDesk y

-- and a body's
pub body_only : (t b : ℕ) (g : Body → Body) (x : Body) → Only (body_change t b g) (BodyOf t b) (part.Body x) (part.Body (g x))
body_only t b g x = record { here = ap (λ c. part.Body (cond c (g x) x)) (both_refl t b); others = others }
  where
    others : (n : Name) (y : CorePart) → same_name n (BodyOf t b) ≡ false → changed (body_change t b g) n y ≡ y
    others (HeadOf u) y e = nothing_changes (HeadOf u) y
    others (ShardOf u i) y e = nothing_changes (ShardOf u i) y
    others (BodyOf u d) (part.Head y) e = refl
    others (BodyOf u d) (part.Shard y) e = refl
    others (BodyOf u d) (part.Body y) e = ap part.Body (skip ((u == t) && (d == b)) (g y) y e)
    others (BodyOf u d) (part.Desk y) e = refl
    others TheDesk y e = nothing_changes TheDesk y

-- and the desk's
pub desk_only : (g : DeskState → DeskState) (x : DeskState) → Only (desk_change g) TheDesk (part.Desk x) (part.Desk (g x))
desk_only g x = record { here = refl; others = others }
  where
    others : (n : Name) (y : CorePart) → same_name n TheDesk ≡ false → changed (desk_change g) n y ≡ y
    others (HeadOf u) y e = nothing_changes (HeadOf u) y
    others (ShardOf u i) y e = nothing_changes (ShardOf u i) y
    others (BodyOf u b) y e = nothing_changes (BodyOf u b) y
    others TheDesk y e = absurd (true_false e)

-- ---- one change after another

-- two changes that are a third, one after the other, are so of a hand
pub after_twice : (sh : Shape) (c d e : Changes) (hand : Held) → IsTwice c d e → after sh d (after sh c hand) ≡ after sh e hand
after_twice sh c d e hand is = go (names sh) hand
  where
    place : (n : Name) (o : Option CorePart) → place_changed d n (place_changed c n o) ≡ place_changed e n o
    place n None = refl
    place n (Some x) = ap Some (sym (changed_twice c d e is n x))

    go : (ns : List Name) (hand : Held) → hand_changed d ns (hand_changed c ns hand) ≡ hand_changed e ns hand
    go [] hand = refl
    go (n ∷ ns) [] = refl
    go (n ∷ ns) (o ∷ hand) = ap (λ p. p ∷ hand_changed d ns (hand_changed c ns hand)) (place n o) ∙ ap (λ h. place_changed e n o ∷ h) (go ns hand)

-- ---- changes that do the same to each part that is held

-- changes that do the same to each part in the hand make the same of it
pub alike : (c d : Changes) (ns : List Name) (hand : Held) → ((k : ℕ) (n : Name) (x : CorePart) → slice_get ns k ≡ Some n → slice_get hand k ≡ Some (Some x) → changed c n x ≡ changed d n x)
    → hand_changed c ns hand ≡ hand_changed d ns hand
alike c d [] hand same = refl
alike c d (n ∷ ns) [] same = refl
alike c d (n ∷ ns) (o ∷ hand) same =
    ap (λ p. p ∷ hand_changed c ns hand) (place o (λ x is. same 0 n x refl (ap Some is))) ∙ ap (λ h. place_changed d n o ∷ h) (alike c d ns hand (λ k. same (suc k)))
  where
    place : (o : Option CorePart) → ((x : CorePart) → o ≡ Some x → changed c n x ≡ changed d n x) → place_changed c n o ≡ place_changed d n o
    place None at = refl
    place (Some x) at = ap Some (at x refl)

-- ---- a hand after changes

-- a part of the hand after changes is the part changed
pub in_after : (sh : Shape) (c : Changes) (hand : Held) (w : Name) → in_hand sh (after sh c hand) w ≡ option_map (changed c w) (in_hand sh hand w)
in_after sh c hand w = go (names sh) hand
  where
    place : (n : Name) (o : Option CorePart) → n ≡ w → place_changed c n o ≡ option_map (changed c w) o
    place n None e = refl
    place n (Some x) e = ap (λ m. Some (changed c m x)) e

    go : (ns : List Name) (hand : Held) → held_named ns (hand_changed c ns hand) w ≡ option_map (changed c w) (held_named ns hand w)
    go [] hand = refl
    go (n ∷ ns) [] = refl
    go (n ∷ ns) (o ∷ hand) = by (same_name n w) refl (go ns hand)
      where
        by : (b : Bool) → same_name n w ≡ b → held_named ns (hand_changed c ns hand) w ≡ option_map (changed c w) (held_named ns hand w)
            → cond (same_name n w) (place_changed c n o) (held_named ns (hand_changed c ns hand) w) ≡ option_map (changed c w) (cond (same_name n w) o (held_named ns hand w))
        by true e rest =
            ap (λ b. cond b (place_changed c n o) (held_named ns (hand_changed c ns hand) w)) e ∙ place n o (name_is n w e)
            ∙ ap (λ b. option_map (changed c w) (cond b o (held_named ns hand w))) (sym e)
        by false e rest =
            ap (λ b. cond b (place_changed c n o) (held_named ns (hand_changed c ns hand) w)) e ∙ rest
            ∙ ap (λ b. option_map (changed c w) (cond b o (held_named ns hand w))) (sym e)

-- changes keep how many places a hand has
pub length-after : (c : Changes) (ns : List Name) (hand : Held) → length (hand_changed c ns hand) ≡ length hand
length-after c [] hand = refl
length-after c (n ∷ ns) [] = refl
length-after c (n ∷ ns) (o ∷ hand) = ap suc (length-after c ns hand)

-- A place from which a part was taken stays empty after changes.
away : (c : Changes) (ns : List Name) (hand : Held) (k : ℕ) → slice_get hand k ≡ Some None → slice_get (hand_changed c ns hand) k ≡ Some None
away c [] hand k is = is
away c (n ∷ ns) [] k is = is
away c (n ∷ ns) (o ∷ hand) zero is = let e : o ≡ None = cc in ap (λ o. Some (place_changed c n o)) e
away c (n ∷ ns) (o ∷ hand) (suc k) is = away c ns hand k is

-- and which parts are in it
pub held_after : (c : Changes) (ns : List Name) (hand : Held) (k : ℕ) → Holds hand k → Holds (hand_changed c ns hand) k
held_after c [] hand k h = h
held_after c (n ∷ ns) [] k h = h
held_after c (n ∷ ns) (o ∷ hand) zero h = let e : o ≡ Some h.0 = some_is o h.0 h.1 in (changed c n h.0, ap (λ o. Some (place_changed c n o)) e)
  where
    some_is : (o : Option CorePart) (x : CorePart) → Some o ≡ Some (Some x) → o ≡ Some x
    some_is o x e = cc
held_after c (n ∷ ns) (o ∷ hand) (suc k) h = held_after c ns hand k h

-- so the room is the same
pub same_room : (sh : Shape) (c : Changes) (hand : Held) → SameRoom hand (after sh c hand)
same_room sh c hand = record {
  places = length-after c (names sh) hand;
  away = away c (names sh) hand;
  held = held_after c (names sh) hand;
}

-- What agrees with a state does so after the same changes of both.
pub agrees_after : (c : Changes) (ns : List Name) (hand : Held) (s : Parts) → Agrees hand s → Agrees (hand_changed c ns hand) (each_changed c ns s)
agrees_after c ns hand s agrees = (lengths c ns hand s agrees.0, at c ns hand s agrees)
  where
    lengths : (c : Changes) (ns : List Name) (hand : Held) (s : Parts) → length hand ≡ length s → length (hand_changed c ns hand) ≡ length (each_changed c ns s)
    lengths c [] hand s e = e
    lengths c (n ∷ ns) [] [] e = refl
    lengths c (n ∷ ns) [] (p ∷ s) e = let l : 0 ≡ suc (length s) = e in absurd (omega (arith, l))
    lengths c (n ∷ ns) (o ∷ hand) [] e = let l : suc (length hand) ≡ 0 = e in absurd (omega (arith, l))
    lengths c (n ∷ ns) (o ∷ hand) (p ∷ s) e = ap suc (lengths c ns hand s (let l : suc (length hand) ≡ suc (length s) = e in omega (arith, l)))

    at : (c : Changes) (ns : List Name) (hand : Held) (s : Parts) → Agrees hand s → (k : ℕ) (q : CorePart) → slice_get (hand_changed c ns hand) k ≡ Some (Some q) → slice_get (each_changed c ns s) k ≡ Some q
    at c [] hand s agrees k q is = agrees.1 k q is
    at c (n ∷ ns) [] s agrees k q is = cc
    at c (n ∷ ns) (o ∷ hand) [] agrees k q is = let l : suc (length hand) ≡ 0 = agrees.0 in absurd (omega (arith, l))
    at c (n ∷ ns) (o ∷ hand) (p ∷ s) agrees zero q is = go o refl is
      where
        some_is : (x y : CorePart) → Some x ≡ Some y → x ≡ y
        some_is x y e = cc

        two_is : (x y : CorePart) → Some (Some x) ≡ Some (Some y) → x ≡ y
        two_is x y e = cc

        none_is : Some None ≡ Some (Some q) → ⊥
        none_is e = cc

        go : (v : Option CorePart) → o ≡ v → Some (place_changed c n o) ≡ Some (Some q) → Some (changed c n p) ≡ Some q
        go None e x = absurd (none_is (ap (λ o. Some (place_changed c n o)) (sym e) ∙ x))
        go (Some v) e x =
            let here = some_is p v (agrees.1 0 v (ap Some e)) in
            ap (λ y. Some (changed c n y)) here ∙ ap Some (two_is (changed c n v) q (ap (λ o. Some (place_changed c n o)) (sym e) ∙ x))
    at c (n ∷ ns) (o ∷ hand) (p ∷ s) agrees (suc k) q is =
        at c ns hand s (let l : suc (length hand) ≡ suc (length s) = agrees.0 in omega (arith, l), λ j. agrees.1 (suc j)) k q is

-- A part is taken out, and laid back as it was.
pub put_back : (sh : Shape) (hand taken new : Held) (w : Name) (p : CorePart) → in_hand sh hand w ≡ Some p → taken ≡ laid sh w None hand → new ≡ laid sh w (Some p) taken → new ≡ hand
put_back sh hand taken new w p is out back =
    laid_back_changed sh nothing hand taken new w p p (record { here = nothing_changes w p; others = λ n x e. nothing_changes n x }) is out back ∙ after_nothing sh hand
