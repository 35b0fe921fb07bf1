-- Changes of bodies that leave the heads.
use Rattle.std.proofs.Common.{◌≡◌, ◌≢◌, ◌⊎◌, ℕ, ◌+◌, ◌<◌, Bool, true, false, cond, not, ◌&&◌, ◌||◌, ◌==◌, List, [], ◌∷◌, map, None, is_none, min, length, get_or, refl, sym, ap, ◌∙◌, subst, arith, zero, suc, get_or-set_other}
use mathlib.Core.Logic.{inl, inr}
use Rattle.std.specs.Prelude.{All}
use Rattle.std.proofs.lemmas.Bool.Decides.{nat_tests}
use Rattle.std.proofs.lemmas.List.Elements.{All-nil, All-cons, All-head, All-tail, All-map}
use Rattle.std.proofs.lemmas.Bool.{not-true, and_parts}
use Rattle.block_spec.specs.Bodies.{Body, committed_in, has_row, imaged, imaged_phase, is_empty, is_front, is_loose, is_quiet, last_stamp, observed, seal_fault, sealed, slot_in, thawed, turns, with_slot}
use Rattle.block_spec.specs.declared.change.Before.{Before}
use Rattle.block_spec.specs.declared.phase.Phase.{Phase}
use Rattle.block_spec.specs.declared.phase.Phase.TheVariants.{Loose, Sealed, Imaged}
use Rattle.block_spec.specs.Slots.{Slot, bare, committed, has_none, is_bare}
use Rattle.core_laws.proofs.Events.States.{slot_map}
use Rattle.event_spec.specs.Effects.{at_both}
use Rattle.event_spec.specs.Lawful.{HasBlock}
use Rattle.event_spec.specs.Parts.{Parts, Shape, Changes, body_at, head_at, is_head}
use Rattle.event_spec.specs.Replay.{columns_in}
use Rattle.core_laws.proofs.Sound.Bodies.{true_false, not_empty, slot_filled, map_empty}
use Rattle.core_laws.proofs.Sound.Fits.{committed_fit}
use Rattle.core_laws.proofs.Sound.Held.{SlotFits, none_by, slot_holds, map_holds, observed_holds, sealed_holds, imaged_holds, thawed_holds}
use Rattle.core_laws.proofs.Sound.Kept.{IsCalm, calm_same}
use Rattle.core_laws.specs.Sound.Shaped.{Shaped}
use Rattle.undo_chain.specs.declared.undo.Undo.{Undo}
use Rattle.undo_chain.specs.Stamped.{stamped}

-- Numbers that are tested as the same are the same.
num : (a b : ℕ) → (a == b) ≡ true → a ≡ b
num a b e = grind (arith, nat_tests)

-- Numbers that are not tested as the same differ.
num_not : (a b : ℕ) → (a == b) ≡ false → a ≢ b
num_not a b ne e = absurd (grind (arith, nat_tests))

-- Two numbers are the same or not.
same_or : (a b : ℕ) → (a ≡ b) ⊎ (a ≢ b)
same_or a b = Rattle.core_laws.proofs.Following.Desks.same_number a b

-- from each place of a list
pub all_index : {X : Type 0} (P : X → Type 0) (xs : List X) (d : X) → ((j : ℕ) → j < length xs → P (get_or xs j d)) → All P xs
all_index P [] d each = All-nil P
all_index P (x ∷ xs) d each = All-cons P x xs (each 0 (omega arith)) (all_index P xs d (λ j less. each (suc j) (omega (arith, less))))

-- what holds of all of a list and of the default holds at each place
pub index_all : {X : Type 0} (P : X → Type 0) (xs : List X) (d : X) (j : ℕ) → P d → All P xs → P (get_or xs j d)
index_all P [] d j none all = none
index_all P (x ∷ xs) d zero none all = All-head P x xs all
index_all P (x ∷ xs) d (suc j) none all = index_all P xs d j none (All-tail P x xs all)

module _ (sh : Shape) (s : Parts) (ok : Shaped sh s) (c : Changes) where
  -- where one body changes
  pub at_calm : (t b : ℕ) (g : Body → Body) → IsCalm sh s ok c t b (g (body_at sh s t b))
      → (u x : ℕ) → HasBlock sh u x → IsCalm sh s ok c u x (at_both t b g u x (body_at sh s u x))
  at_calm t b g calm u x has = go (u == t) (x == b) refl refl
    where
      go : (y z : Bool) → (u == t) ≡ y → (x == b) ≡ z → IsCalm sh s ok c u x (at_both t b g u x (body_at sh s u x))
      go true true y z =
          subst (λ e. IsCalm sh s ok c u x (cond (e && (x == b)) (g (body_at sh s u x)) (body_at sh s u x))) (sym y)
          (subst (λ e. IsCalm sh s ok c u x (cond e (g (body_at sh s u x)) (body_at sh s u x))) (sym z)
          (subst (λ u. IsCalm sh s ok c u x (g (body_at sh s u x))) (sym (num u t y)) (subst (λ x. IsCalm sh s ok c t x (g (body_at sh s t x))) (sym (num x b z)) calm)))
      go true false y z =
          subst (λ e. IsCalm sh s ok c u x (cond (e && (x == b)) (g (body_at sh s u x)) (body_at sh s u x))) (sym y)
          (subst (λ e. IsCalm sh s ok c u x (cond e (g (body_at sh s u x)) (body_at sh s u x))) (sym z) (calm_same sh s ok c u x has))
      go false z' y z =
          subst (λ e. IsCalm sh s ok c u x (cond (e && (x == b)) (g (body_at sh s u x)) (body_at sh s u x))) (sym y) (calm_same sh s ok c u x has)

  module _ (t b : ℕ) (has : HasBlock sh t b) where
    abbrev x : Body
    x = body_at sh s t b

    -- a slot that was not bare stays so
    pub change_calm : (j : ℕ) (g : Slot → Slot) → j < length x.slots → is_loose x.phase ≡ true → is_bare (slot_in x j) ≡ false → is_bare (g (slot_in x j)) ≡ false
        → SlotFits sh t (g (slot_in x j)) → IsCalm sh s ok c t b (with_slot j g (body_at sh s t b))
    change_calm j g inside loose filled after fit = record {
      holds = slot_holds sh t x (ok.bodies t b has) j g loose fit;
      empty = slot_filled j g x inside after ∙ sym (not_empty x j filled);
      bare = λ e i le is. at i is (same_or i j);
      loose = λ e. loose;
      cooling = λ is. absurd (true_false (sym is));
      phase = λ is. absurd (true_false (sym loose ∙ is));
    }
      where
        at : (i : ℕ) → is_bare (slot_in x i) ≡ true → (i ≡ j) ⊎ (i ≢ j) → is_bare (slot_in (with_slot j g x) i) ≡ true
        at i is (inl e) = absurd (true_false (sym is ∙ ap (λ i. is_bare (slot_in x i)) e ∙ filled))
        at i is (inr ne) = ap is_bare (get_or-set_other x.slots j i (g (slot_in x j)) bare ne) ∙ is

    -- a slot is filled of a block that is not the head and not empty
    pub fill_calm : (j : ℕ) (g : Slot → Slot) → j < length x.slots → is_loose x.phase ≡ true → b ≢ (head_at sh s t).block → is_empty x ≡ false → is_bare (g (slot_in x j)) ≡ false
        → SlotFits sh t (g (slot_in x j)) → IsCalm sh s ok c t b (with_slot j g (body_at sh s t b))
    fill_calm j g inside loose other filled after fit = record {
      holds = slot_holds sh t x (ok.bodies t b has) j g loose fit;
      empty = slot_filled j g x inside after ∙ sym filled;
      bare = λ e. absurd (other e);
      loose = λ e. loose;
      cooling = λ is. other;
      phase = λ is. other;
    }

    -- a commit leaves the heads
    pub commit_calm : (q stamp number : ℕ) → IsCalm sh s ok c t b (committed_in q stamp number (body_at sh s t b))
    commit_calm q stamp number = record {
      holds = map_holds sh t x (ok.bodies t b has) (committed q stamp number) (λ slot. refl) none
          (All-map (SlotFits sh t) (committed q stamp number) x.slots (all_index (λ slot. SlotFits sh t (committed q stamp number slot)) x.slots bare (λ j less.
          committed_fit (columns_in sh t) q stamp number (get_or x.slots j bare).row (get_or x.slots j bare).entries (index_all (SlotFits sh t) x.slots bare j tt (ok.bodies t b has).versions))));
      empty = map_empty (committed q stamp number) same x.slots;
      bare = λ e j le is. ap is_bare (slot_map (committed q stamp number) refl x.slots j) ∙ same (slot_in x j) ∙ is;
      loose = (calm_same sh s ok c t b has).loose;
      cooling = (calm_same sh s ok c t b has).cooling;
      phase = (calm_same sh s ok c t b has).phase;
    }
      where
        same_none : (es : List (Undo Before)) → has_none (map (stamped q stamp number) es) ≡ has_none es
        same_none [] = refl
        same_none (e ∷ es) = refl

        none : (slot : Slot) → has_none slot.entries ≡ true → has_none (committed q stamp number slot).entries ≡ true
        none slot is = same_none slot.entries ∙ is

        same : (slot : Slot) → is_bare (committed q stamp number slot) ≡ is_bare slot
        same slot = ap (λ b. is_none slot.row && b) (same_none slot.entries)

    -- an observe leaves the heads
    pub observe_calm : IsCalm sh s ok c t b (observed (is_head sh s t b) (body_at sh s t b))
    observe_calm = record {
      holds = observed_holds sh t x (ok.bodies t b has) (is_head sh s t b);
      empty = refl;
      bare = λ e j le is. is;
      loose = (calm_same sh s ok c t b has).loose;
      cooling = λ is. go x.cooling refl is;
      phase = (calm_same sh s ok c t b has).phase;
    }
      where
        go : (y : Bool) → x.cooling ≡ y → (x.cooling || turns (is_head sh s t b) x) ≡ true → b ≢ (head_at sh s t).block
        go true y is = (ok.no_head t b has).cooling y
        go false y is =
            let turning : turns (is_head sh s t b) x ≡ true = sym (ap (λ z. z || turns (is_head sh s t b) x) y) ∙ is in
            let first = (and_parts (is_loose x.phase && not x.cooling && not (is_head sh s t b) && has_row x) (min (x.rounds + 1) 2 == 2) turning).0 in
            let second = (and_parts (is_loose x.phase && not x.cooling && not (is_head sh s t b)) (has_row x) first).0 in
            num_not b (head_at sh s t).block (not-true (is_head sh s t b) (and_parts (is_loose x.phase && not x.cooling) (not (is_head sh s t b)) second).1)

    -- a seal that nothing is against leaves the heads
    pub seal_calm : seal_fault (is_head sh s t b) (body_at sh s t b) ≡ None → IsCalm sh s ok c t b (sealed (body_at sh s t b))
    seal_calm fine = record {
      holds = sealed_holds sh t x (ok.bodies t b has) (is_head sh s t b) fine;
      empty = refl;
      bare = λ e j le is. is;
      loose = λ e. absurd (num_not b (head_at sh s t).block other e);
      cooling = λ is. num_not b (head_at sh s t).block other;
      phase = λ is. num_not b (head_at sh s t).block other;
    }
      where
        other : is_head sh s t b ≡ false
        other = (none_by (is_loose x.phase) (is_head sh s t b) (has_row x) (is_front x.slots) (is_quiet x) x.cooling (x.last == last_stamp) fine).other

    -- an image that is laid leaves the heads
    pub image_calm : IsCalm sh s ok c t b (imaged (body_at sh s t b))
    image_calm = record {
      holds = imaged_holds sh t x (ok.bodies t b has);
      empty = refl;
      bare = λ e j le is. is;
      loose = λ e. stays x.phase ((calm_same sh s ok c t b has).loose e);
      cooling = (calm_same sh s ok c t b has).cooling;
      phase = λ is. (calm_same sh s ok c t b has).phase (back x.phase is);
    }
      where
        stays : (phase : Phase) → is_loose phase ≡ true → is_loose (imaged_phase phase) ≡ true
        stays Loose l = refl
        stays (Sealed g) l = cc
        stays (Imaged g) l = cc

        back : (phase : Phase) → is_loose (imaged_phase phase) ≡ false → is_loose phase ≡ false
        back Loose l = l
        back (Sealed g) l = refl
        back (Imaged g) l = refl

    -- a thaw leaves the heads
    pub thaw_calm : IsCalm sh s ok c t b (thawed (body_at sh s t b))
    thaw_calm = record {
      holds = thawed_holds sh t x (ok.bodies t b has);
      empty = refl;
      bare = λ e j le is. is;
      loose = λ e. refl;
      cooling = λ is. absurd (true_false (sym is));
      phase = λ is. absurd (true_false is);
    }
