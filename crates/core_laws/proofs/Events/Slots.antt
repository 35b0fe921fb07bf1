-- One slot of a part that is changed, and the body of a slot that is not bare.
use Rattle.event_spec.specs.Parts.{CorePart, Parts, Shape, Name, BodyOf, names, part_named, Changes, changed, each_changed, slot_at, body_at, body_from}
use Rattle.core_laws.specs.Events.Named.{KindIf}
use Rattle.std.proofs.Common.{◌≡◌, ℕ, ◌<◌, Bool, true, false, cond, ◌&&◌, ◌==◌, Option, None, Some, option_map, length, refl, sym, ap, ◌∙◌, arith}
use Rattle.std.proofs.lemmas.Bool.Decides.{nat_tests}
use Rattle.block_layout.specs.Place.{block_of, slot_of}
use Rattle.block_spec.specs.Slots.{Slot, is_bare}
use Rattle.block_spec.specs.Bodies.{Body, slot_in, with_slot}
use Rattle.event_spec.specs.Effects.{at_both}
use Rattle.core_laws.proofs.Events.States.{named_changed, slot_after}
use Rattle.core_laws.proofs.Events.Places.{same_place, with_slot_here, with_slot_else, inside_of}
use Rattle.event_spec.specs.declared.part.Part.TheVariants as part

-- numbers that are tested as one are one
pub num : (a b : ℕ) → (a == b) ≡ true → a ≡ b
num a b e = grind (arith, nat_tests)

-- a number is tested as itself
pub num_refl : (a : ℕ) → (a == a) ≡ true
num_refl a = grind (arith, nat_tests)

-- ---- one slot is written at its place

module _ (sh : Shape) (s : Parts) (c : Changes) (g : Slot → Slot) (t p : ℕ) (body : Body)
    (kinds : (name : Name) → KindIf name (part_named (names sh) s name))
    (there : part_named (names sh) s (BodyOf t (block_of p)) ≡ Some (part.Body body)) (inside : slot_of p < length body.slots)
    (bodies : (u b : ℕ) (x : Body) → c.body u b x ≡ at_both t (block_of p) (with_slot (slot_of p) g) u b x) where
  -- The parts after the changes.
  abbrev after : Parts
  after = each_changed c (names sh) s

  -- the slot at its place is changed
  pub write_here : slot_at sh after t p ≡ g (slot_at sh s t p)
  write_here =
      ap (λ o. slot_in (body_from o) (slot_of p)) (named_changed c (names sh) s (BodyOf t (block_of p)) ∙ ap (option_map (changed c (BodyOf t (block_of p)))) there)
      ∙ ap (λ x. slot_in x (slot_of p)) (bodies t (block_of p) body)
      ∙ ap (λ b. slot_in (cond (b && (block_of p == block_of p)) (with_slot (slot_of p) g body) body) (slot_of p)) (num_refl t)
      ∙ ap (λ b. slot_in (cond b (with_slot (slot_of p) g body) body) (slot_of p)) (num_refl (block_of p))
      ∙ with_slot_here (slot_of p) g body inside
      ∙ ap (λ o. g (slot_in (body_from o) (slot_of p))) (sym there)

  -- each other slot stays
  pub write_else : (u r : ℕ) → ((u ≡ t) → (r ≡ p) → ⊥) → slot_at sh after u r ≡ slot_at sh s u r
  write_else u r no' = slot_after sh s c (λ x. x) refl u r (kinds (BodyOf u (block_of r)))
      (ap (λ x. slot_in x (slot_of r)) (bodies u (block_of r) (body_at sh s u (block_of r))) ∙ go (u == t) (block_of r == block_of p) refl refl)
    where
      go : (x y : Bool) → (u == t) ≡ x → (block_of r == block_of p) ≡ y
          → slot_in (cond ((u == t) && (block_of r == block_of p)) (with_slot (slot_of p) g (body_at sh s u (block_of r))) (body_at sh s u (block_of r))) (slot_of r) ≡ slot_in (body_at sh s u (block_of r)) (slot_of r)
      go true true x y =
          ap (λ a. slot_in (cond (a && (block_of r == block_of p)) (with_slot (slot_of p) g (body_at sh s u (block_of r))) (body_at sh s u (block_of r))) (slot_of r)) x
          ∙ ap (λ a. slot_in (cond a (with_slot (slot_of p) g (body_at sh s u (block_of r))) (body_at sh s u (block_of r))) (slot_of r)) y
          ∙ with_slot_else (slot_of p) (slot_of r) g (body_at sh s u (block_of r)) (λ e. no' (num u t x) (same_place r p (num (block_of r) (block_of p) y) e))
      go true false x y =
          ap (λ a. slot_in (cond (a && (block_of r == block_of p)) (with_slot (slot_of p) g (body_at sh s u (block_of r))) (body_at sh s u (block_of r))) (slot_of r)) x
          ∙ ap (λ a. slot_in (cond a (with_slot (slot_of p) g (body_at sh s u (block_of r))) (body_at sh s u (block_of r))) (slot_of r)) y
      go false y' x y = ap (λ a. slot_in (cond (a && (block_of r == block_of p)) (with_slot (slot_of p) g (body_at sh s u (block_of r))) (body_at sh s u (block_of r))) (slot_of r)) x

-- a slot that is not bare is in a body
pub body_of : (sh : Shape) (s : Parts) (kinds : (name : Name) → KindIf name (part_named (names sh) s name)) (t p : ℕ) → is_bare (slot_at sh s t p) ≡ false
    → (body : Body) × (part_named (names sh) s (BodyOf t (block_of p)) ≡ Some (part.Body body)) × (slot_of p < length body.slots)
body_of sh s kinds t p filled = go (part_named (names sh) s (BodyOf t (block_of p))) refl (kinds (BodyOf t (block_of p))) filled
  where
    true_false : true ≡ false → ⊥
    true_false e = cc

    go : (o : Option CorePart) → part_named (names sh) s (BodyOf t (block_of p)) ≡ o → KindIf (BodyOf t (block_of p)) o → is_bare (slot_at sh s t p) ≡ false
        → (body : Body) × (part_named (names sh) s (BodyOf t (block_of p)) ≡ Some (part.Body body)) × (slot_of p < length body.slots)
    go None is k f = absurd (true_false (sym (ap (λ o. is_bare (slot_in (body_from o) (slot_of p))) is) ∙ f))
    go (Some (part.Head x)) is k f = absurd k
    go (Some (part.Shard x)) is k f = absurd k
    go (Some (part.Body x)) is k f = (x, is, inside_of x (slot_of p) (sym (ap (λ o. is_bare (slot_in (body_from o) (slot_of p))) is) ∙ f))
    go (Some (part.Desk x)) is k f = absurd k
